-- Document 01, "The signal list": which entry judging refuses with 3, and which rule it breaks, the first in the order of the paper's sentences.
use Rattle.std.specs.Prelude.{ℕ, suc, ◌+◌, ◌-◌, ◌%◌, ◌^◌, Bool, not, cond, ◌&&◌, ◌||◌, List, [], ◌∷◌, ltb, leb, eqb}
use Rattle.paper.specs.Octets.{fits}
use Rattle.paper.specs.Answer.{Answer, gives, refused, Sought, found, nothing}
use Rattle.paper.specs.First.{stop, first_bad}
use Rattle.paper.specs.SignalList.{Signal, Code, Route, field_end, route_end, entry, rest, check_size, signal_size, code_size, route_size, most_checks, most_signals, most_codes, most_routes, check_at, signal_at, code_at, route_at, check_rule, longest_limit, width_rule, type_rule, place_rule, named_rule, clear_rule, signal_rule, code_rule, route_rule, opening, no_signal}

-- ---- The rules of an entry, one by one

-- "a bit address, even, 16 to 1022, strictly rising": 1 to 4
abbrev pub check_tests : (ℕ → ℕ) → ℕ → List Bool
check_tests check k = eqb (check k % 2) 0 ∷ leb 16 (check k) ∷ leb (check k) 1022 ∷ (eqb k 0 || ltb (check (k - 1)) (check k)) ∷ []

-- 1 width, 2 type, 3 place, 4 the check named, 5 since, 6 limit, 7 replacement, 8 "types never fall", 9 "within a type each start is at or past
-- the end of the field before", 10 "no field shares a bit with any check"
abbrev pub signal_tests : ℕ → (ℕ → ℕ) → (ℕ → Signal) → ℕ → List Bool
signal_tests checks check signal k =
    width_rule (signal k) ∷ type_rule (signal k) ∷ place_rule (signal k) ∷ named_rule checks check (signal k)
    ∷ (leb 1 (signal k).since && leb (signal k).since 255) ∷ leb (signal k).limit longest_limit ∷ fits (signal k).replacement (signal k).width
    ∷ (eqb k 0 || leb (signal (k - 1)).type (signal k).type)
    ∷ (eqb k 0 || not (eqb (signal (k - 1)).type (signal k).type) || leb (field_end (signal (k - 1))) (signal k).start)
    ∷ clear_rule checks check (signal k) ∷ []

-- 1 the signal exists, 2 "has width at most 16", 3 low ≤ high, 4 high < 2^width, 5 "signal numbers never fall", 6 "within a signal, low exceeds
-- the previous high by at least 2"
abbrev pub code_tests : ℕ → (ℕ → Signal) → (ℕ → Code) → ℕ → List Bool
code_tests signals signal code k =
    ltb (code k).signal signals ∷ leb (signal (code k).signal).width 16
    ∷ leb (code k).low (code k).high ∷ fits (code k).high (signal (code k).signal).width
    ∷ (eqb k 0 || leb (code (k - 1)).signal (code k).signal)
    ∷ (eqb k 0 || not (eqb (code (k - 1)).signal (code k).signal) || leb ((code (k - 1)).high + 2) (code k).low) ∷ []

-- 1 the signal exists, 2 vehicle 1-63, 3 zero, 4 "the field ends at or before bit 2048", 5 "each start is at or past the end of the route before"
abbrev pub route_tests : ℕ → (ℕ → Signal) → (ℕ → Route) → ℕ → List Bool
route_tests signals signal route k =
    ltb (route k).signal signals ∷ (leb 1 (route k).vehicle && leb (route k).vehicle 63) ∷ eqb (route k).null 0
    ∷ leb (route_end signal (route k)) 2048
    ∷ (eqb k 0 || leb (route_end signal (route (k - 1))) (route k).start) ∷ []

-- the number of the first that is not kept, counted from n on; `other` where all are
abbrev pub broken_or : ℕ → List Bool → ℕ → ℕ
broken_or n [] other = other
broken_or n (kept ∷ tests) other = stop kept n (broken_or (suc n) tests other)

-- the same counted from 1; 0 where all are kept
abbrev pub broken : List Bool → ℕ
broken tests = broken_or 1 tests 0

-- ---- The entry at fault

-- its section, 1 checks, 2 signals, 3 codes, 4 routes; its number in it, from 0; the first rule that it breaks; the number of the signal that it
-- is or names, and that signal's field, 0 all three where no such signal exists (of a check: no signal, and its own two bits); its offset
pub record Fault : Type 0 where
  pub section : ℕ
  pub index : ℕ
  pub rule : ℕ
  pub signal : ℕ
  pub type : ℕ
  pub start : ℕ
  pub width : ℕ
  pub at : ℕ

abbrev pub check_fault : (ℕ → ℕ) → ℕ → Fault
check_fault check k =
    record { section = 1; index = k; rule = broken (check_tests check k); signal = 0; type = 0; start = check k; width = 2; at = entry check_size k }

-- of a section that starts `base` octets on, in entries of `size` octets
abbrev pub signal_fault : ℕ → ℕ → ℕ → (ℕ → ℕ) → (ℕ → Signal) → ℕ → Fault
signal_fault size base checks check signal k =
    record {
      section = 2;
      index = k;
      rule = broken (signal_tests checks check signal k);
      signal = k;
      type = (signal k).type;
      start = (signal k).start;
      width = (signal k).width;
      at = base + entry size k;
    }

-- the signal j that an entry names; all 0 where there is none
abbrev pub named : ℕ → (ℕ → Signal) → ℕ → Signal
named signals signal j = cond (ltb j signals) (signal j) no_signal

abbrev pub code_fault : ℕ → ℕ → (ℕ → Signal) → (ℕ → Code) → ℕ → Fault
code_fault base signals signal code k =
    record {
      section = 3;
      index = k;
      rule = broken (code_tests signals signal code k);
      signal = (code k).signal;
      type = (named signals signal (code k).signal).type;
      start = (named signals signal (code k).signal).start;
      width = (named signals signal (code k).signal).width;
      at = base + entry code_size k;
    }

abbrev pub route_fault : ℕ → ℕ → (ℕ → Signal) → (ℕ → Route) → ℕ → Fault
route_fault base signals signal route k =
    record {
      section = 4;
      index = k;
      rule = broken (route_tests signals signal route k);
      signal = (route k).signal;
      type = (named signals signal (route k).signal).type;
      start = (named signals signal (route k).signal).start;
      width = (named signals signal (route k).signal).width;
      at = base + entry route_size k;
    }

-- ---- Judging, for what it refuses with 3

-- a section that does not open is refused otherwise
abbrev pub where_open : Answer ℕ → (ℕ → Sought Fault) → Sought Fault
where_open (gives n) call = call n
where_open (refused m at) call = nothing

-- the first bad entry ends the judging; where there is none, what follows past the n entries
unfoldable pub fault_in : ℕ → ℕ → (ℕ → Bool) → List ℕ → (ℕ → Fault) → (ℕ → Sought Fault) → Sought Fault
fault_in limit size rule xs fault next =
    where_open (opening limit size xs) (λ n. cond (ltb (first_bad rule n) n) (found (fault (first_bad rule n))) (next n))

unfoldable pub fault_from_routes : ℕ → ℕ → (ℕ → Signal) → List ℕ → Sought Fault
fault_from_routes base signals signal xs =
    fault_in most_routes route_size (route_rule signals signal (route_at xs)) xs (route_fault base signals signal (route_at xs)) (λ n. nothing)

unfoldable pub fault_from_codes : ℕ → ℕ → (ℕ → Signal) → List ℕ → Sought Fault
fault_from_codes base signals signal xs =
    fault_in most_codes code_size (code_rule signals signal (code_at xs)) xs (code_fault base signals signal (code_at xs))
    (λ n. fault_from_routes (base + entry code_size n) signals signal (rest code_size n xs))

unfoldable pub fault_from_signals : ℕ → ℕ → ℕ → (ℕ → ℕ) → List ℕ → Sought Fault
fault_from_signals size base checks check xs =
    fault_in most_signals size (signal_rule checks check (signal_at size xs)) xs (signal_fault size base checks check (signal_at size xs))
    (λ n. fault_from_codes (base + entry size n) n (signal_at size xs) (rest size n xs))

-- the entry that judging refuses with 3; nothing where a list is accepted, or refused with another number
unfoldable pub fault_of : ℕ → List ℕ → Sought Fault
fault_of form xs =
    fault_in most_checks check_size (check_rule (check_at xs)) xs (check_fault (check_at xs))
    (λ n. fault_from_signals (signal_size form) (entry check_size n) n (check_at xs) (rest check_size n xs))

-- ---- What is said of it

-- the offset at which an answer is a refusal with 3
abbrev pub refused_three : {A : Type 0} → Answer A → Sought ℕ
refused_three (gives a) = nothing
refused_three (refused n at) = cond (eqb n 3) (found at) nothing

abbrev pub fault_at : Sought Fault → Sought ℕ
fault_at (found f) = found f.at
fault_at nothing = nothing
