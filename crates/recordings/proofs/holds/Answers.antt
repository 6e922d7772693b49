-- `recordings::holds` meets its contract. Assumes nothing.
use mathlib.Core.Path.{sym, ◌∙◌}
use native.Mathlib.Omega.{arith}
use borrow.Author.Tests.{eqb-true}
use Rattle.recordings.proofs.Laws.{gap_none, joined_fits, parts_agree}
use Rattle.recordings.proofs.holds.Goals as goal

pub returns-then-gap-eq0 : goal.returns-then-gap-eq0
returns-then-gap-eq0 c e = (gap_none _ _ _ _ c.if-gap-eq0.true, sym c.read_field.ensures.value ∙ eqb-true _ _ e)

pub overflow_add-result : goal.overflow_add-result
overflow_add-result c = record { fits = joined_fits _ _ _ _ c.if-gap-width-gt64.false c.read_field-kept.ensures.small c.requires.4 }

pub returns : goal.returns
returns c e =
    parts_agree _ _ _ _ c.if-gap-width-gt64.false c.read_field-kept.ensures.small c.requires.4 _ _ _ _ _ (omega arith) c.read_field-kept.ensures.value
    c.read_field-2.ensures.value (eqb-true _ _ e)
