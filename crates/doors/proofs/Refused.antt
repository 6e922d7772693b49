-- What doors needs of a refusal by itself, since a product above the door uses no law of the crates below it: it can be told from its number and what it
-- carries, and `?` hands it on. Assumes nothing.
use Prim.Native.Nat.{ℕ, ◌-◌}
use mathlib.Core.Path.{◌≡◌, refl, ap}
use mathlib.Core.List.{List, [], ◌∷◌}
use borrow.Author.Tests.{clash}
use Rattle.std.specs.Prelude.{get_or, Result, Ok, Err, IsErr, IsErrAnd}
use Rattle.refusals.specs.declared.Refusal.{Refusal}
use Rattle.refusals.specs.declared.Refusal.TheVariants as R
use Rattle.refusals.specs.Refusal.{number_of, carried_of}

pub handed_on : {A : Type 0} (r : Result A Refusal) (f : Refusal) → IsErr r × IsErrAnd r (λ e. e ≡ f) → r ≡ Err f
handed_on (Ok a) f h = absurd (clash h.0)
handed_on (Err e) f h = ap Err h.1

-- the refusals in the order of their numbers, of which those that carry something carry x
in_order : ℕ → List Refusal
in_order x =
    R.ListEnds x ∷
    R.CountAbove x ∷
    R.EntryBroken x ∷
    R.OctetsAfter x ∷
    R.StoreLength ∷
    R.Vehicle ∷
    R.TelegramShort ∷
    R.ApplicationType ∷
    R.TelegramType ∷
    R.TelegramLength ∷
    R.NoSuchSignal ∷
    R.DataShort ∷
    R.ValuesOrMarks ∷
    R.MarkAbove ∷
    R.ValueUnfit x ∷
    R.OutputLength ∷
    R.ConsistLength ∷
    R.ConsistRule ∷
    R.AddressUnlisted ∷
    R.NobodyMeets ∷
    R.ELength ∷
    R.ECode ∷
    R.AnswerToReport ∷
    R.HeadLength ∷
    R.OutputShort ∷
    R.ScaledKind ∷
    R.NoCheckPlace ∷
    R.BlockPast ∷
    R.RemedyField ∷
    R.KeyTwice ∷
    R.RecordsMisfit ∷
    R.SerialSet ∷
    R.FormOutput ∷
    R.Profile x ∷
    R.DoorMissing ∷
    R.DataLengths ∷
    R.StepBroken ∷
    R.StepsTooMany ∷ []

-- the refusal of a number, with what it carries; the last where the paper has no such number
pub numbered : ℕ → ℕ → Refusal
unfolding in_order
numbered n x = get_or (in_order x) (n - 1) R.StepsTooMany

pub numbered_of : (f : Refusal) → numbered (number_of f) (carried_of f) ≡ f
unfolding numbered in_order
numbered_of (R.ListEnds x) = refl
numbered_of (R.CountAbove x) = refl
numbered_of (R.EntryBroken x) = refl
numbered_of (R.OctetsAfter x) = refl
numbered_of R.StoreLength = refl
numbered_of R.Vehicle = refl
numbered_of R.TelegramShort = refl
numbered_of R.ApplicationType = refl
numbered_of R.TelegramType = refl
numbered_of R.TelegramLength = refl
numbered_of R.NoSuchSignal = refl
numbered_of R.DataShort = refl
numbered_of R.ValuesOrMarks = refl
numbered_of R.MarkAbove = refl
numbered_of (R.ValueUnfit x) = refl
numbered_of R.OutputLength = refl
numbered_of R.ConsistLength = refl
numbered_of R.ConsistRule = refl
numbered_of R.AddressUnlisted = refl
numbered_of R.NobodyMeets = refl
numbered_of R.ELength = refl
numbered_of R.ECode = refl
numbered_of R.AnswerToReport = refl
numbered_of R.HeadLength = refl
numbered_of R.OutputShort = refl
numbered_of R.ScaledKind = refl
numbered_of R.NoCheckPlace = refl
numbered_of R.BlockPast = refl
numbered_of R.RemedyField = refl
numbered_of R.KeyTwice = refl
numbered_of R.RecordsMisfit = refl
numbered_of R.SerialSet = refl
numbered_of R.FormOutput = refl
numbered_of (R.Profile x) = refl
numbered_of R.DoorMissing = refl
numbered_of R.DataLengths = refl
numbered_of R.StepBroken = refl
numbered_of R.StepsTooMany = refl
