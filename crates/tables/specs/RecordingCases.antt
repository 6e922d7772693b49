-- C-21: steps and recordings over a list of two routes, and what is answered where two faults meet.
use Rattle.std.specs.Prelude.{ℕ, ◌≡◌, refl, List, [], ◌∷◌, map, take}
use Rattle.paper.specs.Octets.{bit, field, number, with_bit, set_bit, put, puts, octets_of, over}
use Rattle.paper.specs.Answer.{refuse_if}
use Rattle.paper.specs.First.{first_from, first_bad, all, some, count, greatest}
use Rattle.paper.specs.Telegrams.{application_type, telegram_type, version_of}
use Rattle.paper.specs.SignalList
use Rattle.paper.specs.SignalList.{judge_to, has_codes, in_range, known_in, knows, place_of, version}
use Rattle.paper.specs.Store.{slot_of, taken, taking, age}
use Rattle.paper.specs.Reading.{heard, mark_of, code_of, hindrances, reason_of, reading_of, reading_at}
use Rattle.paper.specs.Marshalling.{routed, marshalled, live}
use Rattle.paper.specs.Recordings.{Step, route_with, located, first_wrong, finding, same_octets, checking, onward, judged, recording}
use Rattle.paper.specs.Bench.{telegram, silent}
use Rattle.tables.specs.Marked.{heard_at}
use Rattle.tables.specs.Cases.{joined, made, signal, route, Question, checks_step, checks_all, gave, refuses, ask}
use Rattle.tables.specs.RemedyCases.{Case, case}

-- two signals of four bits in octet 54, the second newer than the telegram; the first goes to bits 0-3 of octet 1, the second to those of octet 2
unfoldable pub two_routes : List ℕ
two_routes =
    made [] (signal 424 4 1 0 1 5000 0 ∷ signal 428 4 1 0 2 5000 0 ∷ []) [] (route 0 1 0 ∷ route 1 1 8 ∷ [])

-- vehicle 1 heard at 0 with 4 and 5 there
unfoldable pub heard_two : List ℕ
heard_two = heard_at 0 0x45 0

abbrev pub step : ℕ → List ℕ → List ℕ → Step
step now before after = record { store = heard_two; clock = now; before = before; after = after }

abbrev pub data2 : ℕ → ℕ → List ℕ
data2 a b = a ∷ b ∷ []

-- the first step of a recording, from AB CD, of which our rules make 4B 0D
abbrev pub first : List ℕ → Question
first after = checks_step two_routes 0 [] (step 0 (data2 0xAB 0xCD) after)

-- a later one, with so many before it and the last one's data after
abbrev pub later : ℕ → List ℕ → List ℕ → Question
later k last after = checks_step two_routes k last (step 0 (data2 0xAB 0xCD) after)

abbrev pub is_right : List ℕ
is_right = gave (0 ∷ [])

abbrev pub wrong_in : ℕ → ℕ → ℕ → List ℕ
wrong_in a r reason = gave (1 ∷ a ∷ 1 ∷ r ∷ reason ∷ [])

abbrev pub wrong_out : ℕ → List ℕ
wrong_out a = gave (1 ∷ a ∷ 0 ∷ [])

unfoldable pub cases : List Case
cases =
    -- right; a bit off in the first route, in the second, between them, behind them; two bits off
    case (first (data2 0x4B 0x0D)) is_right
    ∷ case (first (data2 0x5B 0x0D)) (wrong_in 3 0 0)
    ∷ case (first (data2 0x4B 0x1D)) (wrong_in 11 1 5)
    ∷ case (first (data2 0x4A 0x0D)) (wrong_out 7)
    ∷ case (first (data2 0x4B 0x0C)) (wrong_out 15)
    ∷ case (first (data2 0x4A 0x1D)) (wrong_out 7)
    ∷ case (first (data2 0x5A 0x1C)) (wrong_in 3 0 0)
    -- not marshalled at all; too old, so that our value is the replacement
    ∷ case (first (data2 0xAB 0xCD)) (wrong_in 0 0 0)
    ∷ case (checks_step two_routes 0 [] (step 5001 (data2 0xAB 0xCD) (data2 0x4B 0x0D))) (wrong_in 1 0 3)
    -- a later step, the 1,000th, the 1,001st
    ∷ case (later 1 (data2 0xAB 0xCD) (data2 0x4B 0x0D)) is_right
    ∷ case (later 999 (data2 0xAB 0xCD) (data2 0x4B 0x0D)) is_right
    ∷ case (later 1000 (data2 0xAB 0xCD) (data2 0x4B 0x0D)) (refuses 38 0)
    -- 37: another octet, an octet more, none
    ∷ case (later 1 (data2 0xAB 0xCC) (data2 0x4B 0x0D)) (refuses 37 0)
    ∷ case (later 1 (0xAB ∷ 0xCD ∷ 0 ∷ []) (data2 0x4B 0x0D)) (refuses 37 0)
    ∷ case (later 1 [] (data2 0x4B 0x0D)) (refuses 37 0)
    -- 36: an octet more, one less
    ∷ case (first (0x4B ∷ 0x0D ∷ 0 ∷ [])) (refuses 36 0)
    ∷ case (first (0x4B ∷ [])) (refuses 36 0)
    -- two faults: 38 before 1, list and store, store and data, 12 and 36, 36 and 37, 37 and a wrong bit
    ∷ case (checks_step [] 1000 [] (step 0 [] [])) (refuses 38 0)
    ∷ case (checks_step [] 0 [] (record { store = []; clock = 0; before = []; after = [] })) (refuses 1 0)
    ∷ case (checks_step two_routes 0 [] (record { store = take 8630 heard_two; clock = 0; before = []; after = [] })) (refuses 5 0)
    ∷ case (checks_step two_routes 0 [] (step 0 (0xAB ∷ []) (data2 0x4B 0x0D))) (refuses 12 0)
    ∷ case (later 1 (data2 0xAB 0xCC) (0x4B ∷ [])) (refuses 36 0)
    ∷ case (later 1 (data2 0xAB 0xCC) (data2 0x5B 0x0D)) (refuses 37 0)
    -- recordings: no steps, with a list and without; two steps; the second too old, not following on; a step behind a finding
    ∷ case (checks_all two_routes []) (gave (0 ∷ 0 ∷ []))
    ∷ case (checks_all [] []) (refuses 1 0)
    ∷ case (checks_all two_routes (step 0 (data2 0xAB 0xCD) (data2 0x4B 0x0D) ∷ step 5001 (data2 0x4B 0x0D) (data2 0x0B 0x0D) ∷ [])) (gave (0 ∷ 2 ∷ []))
    ∷ case (checks_all two_routes (step 0 (data2 0xAB 0xCD) (data2 0x4B 0x0D) ∷ step 5001 (data2 0x4B 0x0D) (data2 0x4B 0x0D) ∷ [])) (gave (1 ∷ 1 ∷ wrong_in 1 0 3))
    ∷ case (checks_all two_routes (step 0 (data2 0xAB 0xCD) (data2 0x4B 0x0D) ∷ step 0 (data2 0xAB 0xCD) (data2 0x4B 0x0D) ∷ [])) (gave (1 ∷ 1 ∷ refuses 37 0))
    ∷ case (checks_all two_routes (step 0 (data2 0xAB 0xCD) (data2 0x4B 0x0C) ∷ step 0 (data2 0x4B 0x0C) (data2 0x4B 0x0C) ∷ [])) (gave (1 ∷ 0 ∷ wrong_out 15))
    ∷ case (checks_all [] (step 0 [] [] ∷ [])) (gave (1 ∷ 0 ∷ refuses 1 0))
    ∷ []

-- the one computed test
pub recordings_answered : map (λ c. case c.asked (ask c.asked)) cases ≡ cases
unfolding cases ask two_routes heard_two heard_at joined made telegram silent bit field number with_bit set_bit put puts octets_of over refuse_if first_from first_bad all some count greatest application_type telegram_type version_of
    SignalList.check_at SignalList.signal_size SignalList.signal_at SignalList.among SignalList.code_at SignalList.route_at SignalList.check_rule SignalList.signal_rule_to SignalList.code_rule SignalList.route_rule
    SignalList.opening SignalList.judge_entries SignalList.judge_section SignalList.greatest_since SignalList.ending SignalList.from_routes SignalList.from_codes SignalList.from_signals_to judge_to
    has_codes in_range known_in knows place_of version slot_of taken taking age heard mark_of code_of hindrances reason_of reading_of reading_at routed marshalled live
    route_with located first_wrong finding same_octets checking onward judged recording
recordings_answered = refl
