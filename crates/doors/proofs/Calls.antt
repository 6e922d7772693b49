-- What the contract of the call tells: the answer is settled, and what a summary that is given says of each side. Assumes nothing.
use Prim.Native.Nat.{ℕ}
use mathlib.Core.Path.{◌≡◌, refl, sym, ap, ◌∙◌}
use mathlib.Core.List.{List}
use Rattle.std.specs.Prelude.{Result, Ok, Err}
use Rattle.paper.specs.Answer.{Answer, gives, refused}
use Rattle.paper.proofs.AnswerLaws.{one_answer}
use lib.ListN.{length}
use Rattle.paper.specs.Store.{is_store, slot_of}
use Rattle.paper.specs.Train.{Vehicle, member}
use Rattle.paper.specs.Doors as paper
use Rattle.paper.proofs.DoorsLaws.{DoorsExactly, doors_exactly, others_unasked}
use Rattle.refusals.specs.declared.Refusal.{Refusal}
use Rattle.doors.specs.declared.State.{State}
use Rattle.doors.specs.declared.State.TheVariants as S
use Rattle.doors.specs.declared.Side.{Side}
use Rattle.doors.specs.declared.Doors.{Doors}
use Rattle.doors.proofs.Refused.{numbered, numbered_of}
use Rattle.doors.specs.Doors.{state_as, side_as, doors_as, summary_answer}

-- ---- the answer is settled

state_told : paper.State → State
state_told paper.locked = S.Locked
state_told paper.opened = S.Open
state_told paper.unknown = S.Unknown

state_of_lem : (s : State) → state_told (state_as s) ≡ s
unfolding state_told
state_of_lem S.Locked = refl
state_of_lem S.Open = refl
state_of_lem S.Unknown = refl

side_told : paper.Side → Side
side_told s = record { state = state_told s.state; kept = s.kept.set; size = s.kept.size }

side_of_lem : (s : Side) → side_told (side_as s) ≡ s
unfolding side_told
side_of_lem s = λ i. record { state = state_of_lem s.state i; kept = s.kept; size = s.size }

doors_told : paper.Doors → Doors
doors_told d = record { left = side_told d.left; right = side_told d.right }

doors_of : (d : Doors) → doors_told (doors_as d) ≡ d
unfolding doors_told
doors_of d = λ i. record { left = side_of_lem d.left i; right = side_of_lem d.right i }

summary_told : Answer paper.Doors → Result Doors Refusal
summary_told (gives d) = Ok (doors_told d)
summary_told (refused n at) = Err (numbered n at)

summary_of : (q : Result Doors Refusal) → summary_told (summary_answer q) ≡ q
unfolding summary_told
summary_of (Ok d) = ap Ok (doors_of d)
summary_of (Err f) = ap Err (numbered_of f)

pub one_summary : (a : Answer paper.Doors) (q r : Result Doors Refusal) → summary_answer q ≡ a → summary_answer r ≡ a → q ≡ r
one_summary = one_answer summary_answer summary_told summary_of

-- ---- what a summary says

pub summary_exactly : (form : ℕ) (xs store : List ℕ) (now : ℕ) (train : List Vehicle) (a : ℕ) (q : Result Doors Refusal) (d : Doors)
    → summary_answer q ≡ paper.doors form xs store now train a → q ≡ Ok d → DoorsExactly form xs store now train a (doors_as d)
summary_exactly form xs store now train a q d e given = doors_exactly form xs store now train a (doors_as d) (sym e ∙ ap summary_answer given)

-- two calls with stores in which the vehicles asked have the same slots, and which are both whole or neither, answer the same
pub others_unasked_of : (form : ℕ) (xs store other : List ℕ) (now : ℕ) (train : List Vehicle) (a : ℕ) (q r : Result Doors Refusal)
    → summary_answer q ≡ paper.doors form xs store now train a → summary_answer r ≡ paper.doors form xs other now train a → is_store store ≡ is_store other
    → ((v : ℕ) → paper.Asked (member train a) (length train) v → slot_of store v ≡ slot_of other v) → q ≡ r
others_unasked_of form xs store other now train a q r e f whole same =
    one_summary _ q r e (f ∙ sym (others_unasked form xs store other now train a whole same))
