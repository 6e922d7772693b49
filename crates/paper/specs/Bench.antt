-- Document 01, "Bench examples": the list L and what it is judged to, a telegram of vehicle 1, and a store in which no vehicle was heard.
use Rattle.std.specs.Prelude.{ℕ, ◌≡◌, refl, List, [], ◌∷◌, ◌++◌, take, drop, set, replicate}
use Rattle.paper.specs.Octets.{number, octets_of}
use Rattle.paper.specs.Answer.{gives, refused, refuse_if}
use Rattle.paper.specs.First.{first_from, first_bad, all, some, greatest}
use Rattle.paper.specs.SignalList
use Rattle.paper.specs.SignalList.{Counts, judge, judge_to}
use Rattle.paper.specs.Store.{store_octets}

-- "The list L, 44 octets, for voltage selection (4.3), octet 54 bits 0-3, check 41 2/3"
unfoldable pub list_l : List ℕ
list_l =
    0x00 ∷ 0x01 ∷ 0x01 ∷ 0x42
    ∷ 0x00 ∷ 0x01 ∷ 0x01 ∷ 0xA8 ∷ 0x04 ∷ 0x01 ∷ 0x01 ∷ 0x01 ∷ 0x00 ∷ 0x00 ∷ 0x13 ∷ 0x88 ∷ 0x00 ∷ 0x00 ∷ 0x00 ∷ 0x00 ∷ 0x00 ∷ 0x00
    ∷ 0x00 ∷ 0x02 ∷ 0x00 ∷ 0x00 ∷ 0x00 ∷ 0x00 ∷ 0x00 ∷ 0x06 ∷ 0x00 ∷ 0x00 ∷ 0x00 ∷ 0x0F ∷ 0x00 ∷ 0x0F
    ∷ 0x00 ∷ 0x01 ∷ 0x00 ∷ 0x00 ∷ 0x01 ∷ 0x00 ∷ 0x00 ∷ 0x00 ∷ []

-- C-18: L in form 2, its signal with this serial number
unfoldable pub list_l2 : ℕ → List ℕ
list_l2 serial = take 22 list_l ++ (octets_of 2 serial ++ drop 22 list_l)

-- C-23: a list of one speed, R1 octets 51-52, no check, 5,000 ms, with this width and replacement
unfoldable pub list_v : ℕ → ℕ → List ℕ
list_v width replacement =
    0x00 ∷ 0x00
    ∷ 0x00 ∷ 0x01 ∷ 0x01 ∷ 0x90 ∷ width ∷ 0x01 ∷ 0x00 ∷ 0x01 ∷ 0x00 ∷ 0x00 ∷ 0x13 ∷ 0x88 ∷ octets_of 6 replacement
    ++ (0x00 ∷ 0x00 ∷ 0x00 ∷ 0x00 ∷ [])

-- "list ok checks=1 signals=1 codes=2 routes=1 version=1"
abbrev pub counts_l : Counts
counts_l = record { checks = 1; signals = 1; codes = 2; routes = 1; version = 1; size = 16 }

-- L; "L less its last octet: refusal 1 at 36; L with an octet more: 4 at 44; empty list: 1 at 0"
pub judged : (judge 1 list_l ≡ gives counts_l) × (judge 1 (take 43 list_l) ≡ refused 1 36) × (judge 1 (list_l ++ (0 ∷ [])) ≡ refused 4 44) × (judge 1 [] ≡ refused 1 0)
unfolding list_l number refuse_if first_from first_bad all some greatest SignalList.check_at SignalList.signal_size SignalList.signal_at SignalList.among SignalList.code_at SignalList.route_at SignalList.check_rule SignalList.signal_rule_to SignalList.code_rule SignalList.route_rule SignalList.opening SignalList.judge_entries SignalList.judge_section SignalList.greatest_since SignalList.ending SignalList.from_routes SignalList.from_codes SignalList.from_signals_to judge_to
judged = (refl, refl, refl, refl)

-- "Vehicle 1 sends R1, version 1", with these octets 41 and 54
unfoldable pub telegram : ℕ → ℕ → List ℕ
telegram o41 o54 = set (set (0x11 ∷ 0x01 ∷ replicate 126 0) 40 o41) 53 o54

unfoldable pub silent : List ℕ
silent = replicate store_octets 0
