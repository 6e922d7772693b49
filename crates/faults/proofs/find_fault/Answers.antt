-- `faults::find_fault` meets its contract. Assumes nothing.
use Rattle.faults.proofs.Laws.{not_opened, found_here, all_kept, goes_past}
use Rattle.paper.specs.Broken.{fault_of}
use Rattle.paper.proofs.ListLaws.{form_sized}
use Rattle.faults.proofs.find_fault.Goals as goal

pub returns-in_err-n : goal.returns-in_err-n
unfolding fault_of
returns-in_err-n c = not_opened _ _ _ _ _ _ _ c.open.ensures.answer c.in_err-n.ensures.value _ c.from_residual.ensures

pub returns-then-k-n : goal.returns-then-k-n
unfolding fault_of
returns-then-k-n c = found_here _ _ _ _ _ _ _ c.open.ensures.answer c.in_ok-n.ensures.value c.first_bad_check-k.ensures.first c.if-k-n.true _ c.check_fault.ensures

pub from_signals-requires-clause-sized : goal.from_signals-requires-clause-sized
from_signals-requires-clause-sized c = rw c.entry_size-size.ensures (form_sized _)

pub from_signals-requires-clause-checks_kept : goal.from_signals-requires-clause-checks_kept
from_signals-requires-clause-checks_kept c = all_kept _ _ c.first_bad_check-k.ensures.first c.if-k-n.false

pub returns : goal.returns
unfolding fault_of
returns c =
    goes_past _ _ _ _ _ _ _ c.open.ensures.answer c.in_ok-n.ensures.value c.first_bad_check-k.ensures.first c.if-k-n.false _
    (rw (c.rest.ensures, c.entry_size-size.ensures) at c.from_signals.ensures)
