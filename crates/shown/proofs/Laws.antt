-- What is read fits its width, and the contract settles the answer. Assumes nothing.
use Prim.Native.Nat.{ℕ, ◌^◌, ◌<◌}
use mathlib.Core.Path.{◌≡◌, refl, sym, ap₂}
use mathlib.Core.List.{List}
use Rattle.std.specs.Prelude.{Result}
use Rattle.paper.specs.Answer.{Answer, gives}
use Rattle.paper.specs.Shown as paper
use Rattle.paper.proofs.ShownLaws.{fits_width}
use Rattle.refusals.specs.declared.Refusal.{Refusal}
use Rattle.refusals.proofs.WrittenLaws.{one_result}
use Rattle.lists.specs.declared.accepted.AcceptedList.{AcceptedList}
use Rattle.lists.specs.Judged.{counts_of}
use Rattle.lists.specs.Listed.{list_as}
use Rattle.reading.specs.declared.Reading.{Reading}
use Rattle.reading.specs.declared.reason.Reason.{Reason}
use Rattle.reading.specs.Reading.{as_reading, reading_under}
use Rattle.reading.proofs.Laws.{reason_numbered, reason_numbered_of}
use Rattle.shown.specs.declared.Shown.{Shown}
use Rattle.shown.specs.declared.Shown.TheVariants as S
use Rattle.shown.specs.declared.ShownReading.{ShownReading}
use Rattle.shown.specs.Show.{shown_of, reading_of, showing_answer}

-- the signal that was read exists, and what was read of it fits its width
pub read_fits : (l : AcceptedList) (store : List ℕ) (now v k : ℕ) (r : Reading) → gives (as_reading r) ≡ reading_under (list_as l) store now v k
    → (k < l.counts.signals) × (r.value < 2 ^ ((list_as l).signal k).width)
unfolding reading_under
read_fits l store now v k r e = fits_width l.octets.now (counts_of l.counts) l.laid store now v k (as_reading r) (sym e)

-- ---- the contract settles the answer

shown : paper.Shown → Shown
shown (paper.as_code c) = S.Code c
shown (paper.as_speed x) = S.Speed x
shown (paper.as_percentage x) = S.Percentage x
shown (paper.as_current x) = S.Current x

shown_of_lem : (s : Shown) → shown (shown_of s) ≡ s
unfolding shown
shown_of_lem (S.Code c) = refl
shown_of_lem (S.Speed x) = refl
shown_of_lem (S.Percentage x) = refl
shown_of_lem (S.Current x) = refl

with_reason : paper.ShownReading → ShownReading
with_reason s = record { shown = shown s.shown; reason = reason_numbered s.reason }

with_reason_of : (s : ShownReading) → with_reason (reading_of s) ≡ s
unfolding with_reason
with_reason_of s = ap₂ (λ (x : Shown) (r : Reason). record { shown = x; reason = r }) (shown_of_lem s.shown) (reason_numbered_of s.reason)

pub one_showing : (a : Answer paper.ShownReading) (v w : Result ShownReading Refusal) → showing_answer v ≡ a → showing_answer w ≡ a → v ≡ w
one_showing = one_result reading_of with_reason with_reason_of
