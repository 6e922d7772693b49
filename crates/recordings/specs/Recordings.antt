-- The paper's answer for each case of a checked step, and what the search for the first wrong bit answers.
use Rattle.std.specs.Prelude.{ℕ, ◌+◌, ◌-◌, ◌*◌, ◌/◌, ◌%◌, ◌^◌, ◌≤◌, ◌<◌, ◌≡◌, List, get_or, Option, Some, None, Result, IfOk, IfSome, MatchOption}
use Rattle.paper.specs.Octets.{bit}
use Rattle.paper.specs.SignalList.{SignalList, route_end}
use Rattle.paper.specs.Answer.{Answer}
use Rattle.paper.specs.Recordings.{Step, Place, in_route, outside, Finding, right, wrong}
use Rattle.refusals.specs.declared.Refusal.{Refusal}
use Rattle.refusals.specs.Outcome.{answer_of}
use Rattle.reading.specs.Reason.{reason_number}
use Rattle.recordings.specs.declared.Spot.{Spot}
use Rattle.recordings.specs.declared.Routed.{Routed}
use Rattle.recordings.specs.declared.WrongBit.{WrongBit}

-- ---- The answer

abbrev pub place_in : Option Routed → Place
place_in (Some r) = in_route r.route (reason_number r.reason)
place_in None = outside

abbrev pub place_of : WrongBit → Place
place_of w = place_in w.route

abbrev pub finding_of : Option WrongBit → Finding
finding_of (Some w) = wrong (8 * w.octet + w.bit) (place_of w)
finding_of None = right

abbrev pub checked_answer : Result (Option WrongBit) Refusal → Answer Finding
checked_answer = answer_of finding_of

-- the rest that settles it: the place in the octet is 0 to 7
abbrev pub Low : Result (Option WrongBit) Refusal → Type 0
Low r = IfOk r (λ o. IfSome o (λ w. w.bit < 8))

abbrev pub step_of : List ℕ → ℕ → List ℕ → List ℕ → Step
step_of store clock before after = record { store = store; clock = clock; before = before; after = after }

-- ---- The search

-- P holds at each index from `from` to before `to`
pub record Agrees (P : ℕ → Type 0) (from to : ℕ) : Type 0 where
  pub each : (a : ℕ) → from ≤ a → a < to → P a

-- r is the first of them at which P fails
pub record Stops (P : ℕ → Type 0) (from to r : ℕ) : Type 0 where
  pub lo : from ≤ r
  pub hi : r < to
  pub before : Agrees P from r
  pub fails : P r → ⊥

-- the same of a bit by its octet, counted from 0, and its place in it
pub record Spotted (P : ℕ → Type 0) (from to : ℕ) (s : Spot) : Type 0 where
  pub stops : Stops P from to (8 * s.octet + s.bit)
  pub low : s.bit < 8

-- the first at which P fails; none where it fails at none
abbrev pub FirstOff : (ℕ → Type 0) → ℕ → ℕ → Option ℕ → Type 0
FirstOff P from to o = MatchOption o (Agrees P from to) (Stops P from to)

abbrev pub FirstSpot : (ℕ → Type 0) → ℕ → ℕ → Option Spot → Type 0
FirstSpot P from to o = MatchOption o (Agrees P from to) (Spotted P from to)

-- two areas have the same bit at address a
abbrev pub Same : List ℕ → List ℕ → ℕ → Type 0
Same xs ys a = bit xs a ≡ bit ys a

-- the same octet at index i
abbrev pub Alike : List ℕ → List ℕ → ℕ → Type 0
Alike xs ys i = get_or xs i 0 ≡ get_or ys i 0

-- the bit at address a, in the field of `width` bits from `start`, is that of the number
abbrev pub Digit : List ℕ → ℕ → ℕ → ℕ → ℕ → Type 0
Digit xs start width value a = bit xs a ≡ value / 2 ^ (start + width - 1 - a) % 2

-- the bit at address a is as it was before the field, and the number's in it
abbrev pub Written : List ℕ → List ℕ → ℕ → ℕ → ℕ → ℕ → Type 0
Written before after start width value a = (a < start → Same after before a) × (start ≤ a → Digit after start width value a)

-- every route before r ends at or before `pos`, and every other one starts at or past it
pub record Between (l : SignalList) (r pos : ℕ) : Type 0 where
  pub behind : (j : ℕ) → j < r → route_end l.signal (l.route j) ≤ pos
  pub ahead : (j : ℕ) → r ≤ j → j < l.routes → pos ≤ (l.route j).start
