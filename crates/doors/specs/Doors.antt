-- The paper's answer for each case of the code's enums, and what the parts of the summary answer.
use Rattle.std.specs.Prelude.{ℕ, Option, Result, ◌/◌, ◌%◌, ◌^◌, Bool, cond, List, eqb, length}
use Rattle.paper.specs.Answer.{Answer, map_answer, Sought, found, nothing}
use Rattle.paper.specs.SignalList.{SignalList}
use Rattle.paper.specs.Reading.{Reading, reading_at}
use Rattle.paper.specs.Train.{Vehicle, member, resolving}
use Rattle.paper.specs.Doors as paper
use Rattle.refusals.specs.declared.Refusal.{Refusal}
use Rattle.refusals.specs.Outcome.{answer_of, sought_of}
use Rattle.doors.specs.declared.State.{State}
use Rattle.doors.specs.declared.State.TheVariants as S
use Rattle.doors.specs.declared.Side.{Side}
use Rattle.doors.specs.declared.Doors.{Doors}

abbrev pub state_as : State → paper.State
state_as S.Locked = paper.locked
state_as S.Open = paper.opened
state_as S.Unknown = paper.unknown

abbrev pub side_as : Side → paper.Side
side_as s = record { state = state_as s.state; kept = record { set = s.kept; size = s.size } }

abbrev pub doors_as : Doors → paper.Doors
doors_as d = record { left = side_as d.left; right = side_as d.right }

abbrev pub summary_answer : Result Doors Refusal → Answer paper.Doors
summary_answer = answer_of doors_as

-- a door signal's number, where the list has it
abbrev pub door_answer : Option ℕ → Sought ℕ
door_answer = sought_of (λ k. k)

abbrev pub door_on : SignalList → ℕ → Sought ℕ
door_on l place = cond (paper.has_door l place) (found (paper.door_of l place)) nothing

-- one vehicle's reading as the state that it alone would give
abbrev pub said_by : Reading → paper.State
said_by r = cond (paper.says_locked r) paper.locked (cond (paper.says_open r) paper.opened paper.unknown)

-- vehicle v is in the set
abbrev pub in_set : ℕ → ℕ → Bool
in_set set v = eqb (set / 2 ^ v % 2) 1

-- a side's state by the set that kept it from locked, and whether one is open
abbrev pub state_by : ℕ → Bool → paper.State
state_by kept any = cond (eqb kept 0) paper.locked (cond any paper.opened paper.unknown)

-- the paper's summary by the numbers of the two door signals
unfoldable pub train_summary : SignalList → List ℕ → ℕ → List Vehicle → ℕ → ℕ → ℕ → Answer paper.Doors
train_summary l store now train a left right =
    map_answer (λ m. record {
      left = paper.side_of (member train a) (λ v. reading_at l store now v left) (length train);
      right = paper.side_of (member train a) (λ v. reading_at l store now v right) (length train);
    }) (resolving train a)
