-- `lists::entry_size` meets its contract. Assumes nothing.
use borrow.Author.Tests.{eq-eqb, ne_eqb}
use Rattle.paper.specs.SignalList.{signal_size}
use Rattle.lists.proofs.entry_size.Goals as goal

pub returns-then-form-eq-FORM_2 : goal.returns-then-form-eq-FORM_2
unfolding signal_size
returns-then-form-eq-FORM_2 c = rw (eq-eqb _ _ c.if-form-eq-FORM_2.true)

pub returns-else-form-eq-FORM_2 : goal.returns-else-form-eq-FORM_2
unfolding signal_size
returns-else-form-eq-FORM_2 c = rw (ne_eqb _ _ c.if-form-eq-FORM_2.false)
