-- C-20, "Doors summary for the driver's desk": each side locked, open or not known, and who kept it from saying locked.
use Rattle.std.specs.Prelude.{ℕ, suc, ◌/◌, ◌%◌, ◌^◌, ◌≤◌, ◌<◌, ◌≡◌, ◌↔◌, ◌⊎◌, Bool, true, false, not, cond, ◌&&◌, ◌||◌, List, leb, ltb, eqb, length}
use Rattle.paper.specs.Octets.{address}
use Rattle.paper.specs.Answer.{Answer, gives, refuse_if, map_answer}
use Rattle.paper.specs.First.{all, some, count}
use Rattle.paper.specs.SignalList.{SignalList, under_list}
use Rattle.paper.specs.Pairs.{signal_found}
use Rattle.paper.specs.Store.{is_store}
use Rattle.paper.specs.Reading.{Reading, reading_at}
use Rattle.paper.specs.Train.{Vehicle, Members, member, set_to, resolving}

-- ---- The two signals

-- "from octet 20 bits 4 and 5 (1.9 and 1.10 of source document 000)": 1.9 all left, 1.10 all right entry doors locked
abbrev pub left_doors : ℕ
left_doors = address 20 4

abbrev pub right_doors : ℕ
right_doors = address 20 5

-- "The list must hold both bits as common signals of width 1": the number of the common signal that starts there, and that it is one bit wide
abbrev pub door_of : SignalList → ℕ → ℕ
door_of l place = signal_found l 0 place

abbrev pub has_door : SignalList → ℕ → Bool
has_door l place = ltb (door_of l place) l.signals && eqb (l.signal (door_of l place)).width 1

-- ---- One side, over the vehicles 1 to n that are asked

-- "locked, open or not known"
pub data State : Type 0 where
  locked : State
  opened : State
  unknown : State

abbrev pub live : Reading → Bool
live r = leb r.reason 1

abbrev pub says_locked : Reading → Bool
says_locked r = live r && eqb r.value 1

abbrev pub says_open : Reading → Bool
says_open r = live r && eqb r.value 0

-- "Locked exactly if every vehicle's bit is live and 1; open if any vehicle's is live and 0; not known otherwise."
unfoldable pub state_of : (ℕ → Bool) → (ℕ → Reading) → ℕ → State
state_of asked read n =
    cond (all (λ i. not (asked (suc i)) || says_locked (read (suc i))) n) locked
    (cond (some (λ i. asked (suc i) && says_open (read (suc i))) n) opened unknown)

-- "the set of vehicles that kept it from saying locked, and its size"
abbrev pub keeps : (ℕ → Bool) → (ℕ → Reading) → ℕ → Bool
keeps asked read v = asked v && not (says_locked (read v))

pub record Side : Type 0 where
  pub state : State
  pub kept : Members

unfoldable pub side_of : (ℕ → Bool) → (ℕ → Reading) → ℕ → Side
side_of asked read n =
    record {
      state = state_of asked read n;
      kept = record { set = set_to (keeps asked read) n; size = count (λ i. keeps asked read (suc i)) n };
    }

-- ---- The summary

pub record Doors : Type 0 where
  pub left : Side
  pub right : Side

unfoldable pub doors_of : SignalList → List ℕ → ℕ → List Vehicle → ℕ → Doors
doors_of l store now train a =
    record {
      left = side_of (member train a) (λ v. reading_at l store now v (door_of l left_doors)) (length train);
      right = side_of (member train a) (λ v. reading_at l store now v (door_of l right_doors)) (length train);
    }

-- 1-4, 5, "35 a door signal missing from the list; after 1-5 and before 17-20". "An address may narrow it"; 66 is every vehicle in the consist
abbrev pub doors_by : List ℕ → ℕ → List Vehicle → ℕ → SignalList → Answer Doors
doors_by store now train a l =
    refuse_if (not (is_store store)) 5 0
    (refuse_if (not (has_door l left_doors && has_door l right_doors)) 35 0
    (map_answer (λ m. doors_of l store now train a) (resolving train a)))

unfoldable pub doors : ℕ → List ℕ → List ℕ → ℕ → List Vehicle → ℕ → Answer Doors
doors form xs store now train a = under_list form xs (doors_by store now train a)

-- ---- What a side says, exactly

abbrev pub Asked : (ℕ → Bool) → ℕ → ℕ → Type 0
Asked asked n v = (1 ≤ v) × (v ≤ n) × (asked v ≡ true)

abbrev pub Locked : Reading → Type 0
Locked r = (r.reason ≤ 1) × (r.value ≡ 1)

abbrev pub Open : Reading → Type 0
Open r = (r.reason ≤ 1) × (r.value ≡ 0)

abbrev pub EachLocked : (ℕ → Bool) → (ℕ → Reading) → ℕ → Type 0
EachLocked asked read n = (v : ℕ) → Asked asked n v → Locked (read v)

abbrev pub OneOpen : (ℕ → Bool) → (ℕ → Reading) → ℕ → Type 0
OneOpen asked read n = (v : ℕ) × (Asked asked n v × Open (read v))

abbrev pub OneNotLive : (ℕ → Bool) → (ℕ → Reading) → ℕ → Type 0
OneNotLive asked read n = (v : ℕ) × (Asked asked n v × (2 ≤ (read v).reason))

-- the three cases: one of them holds, and no two do
pub record OneOfThree (asked : ℕ → Bool) (read : ℕ → Reading) (n : ℕ) : Type 0 where
  pub one : EachLocked asked read n ⊎ (OneOpen asked read n ⊎ ((OneOpen asked read n → ⊥) × OneNotLive asked read n))
  pub locked_or_open : EachLocked asked read n → OneOpen asked read n → ⊥
  pub locked_or_lost : EachLocked asked read n → OneNotLive asked read n → ⊥

-- the three states, each exactly when; the set, vehicle by vehicle and nothing beside, and its size; an empty set exactly if locked
pub record SideExactly (asked : ℕ → Bool) (read : ℕ → Reading) (n : ℕ) (s : Side) : Type 0 where
  pub when_locked : (s.state ≡ locked) ↔ EachLocked asked read n
  pub when_open : (s.state ≡ opened) ↔ OneOpen asked read n
  pub when_unknown : (s.state ≡ unknown) ↔ ((OneOpen asked read n → ⊥) × OneNotLive asked read n)
  pub each : (v : ℕ) → 1 ≤ v → v ≤ n → (s.kept.set / 2 ^ v % 2 ≡ 1) ↔ ((asked v ≡ true) × (Locked (read v) → ⊥))
  pub beside : (s.kept.set < 2 ^ suc n) × (s.kept.set % 2 ≡ 0)
  pub size : s.kept.size ≡ count (λ i. keeps asked read (suc i)) n
  pub none_kept : (s.kept.size ≡ 0) ↔ (s.state ≡ locked)
