-- `faults::from_codes` meets its contract. Assumes nothing.
use Rattle.faults.proofs.Laws.{not_opened, found_here, goes_past}
use Rattle.paper.specs.Broken.{fault_from_codes}
use Rattle.faults.proofs.from_codes.Goals as goal

pub returns-in_err-n : goal.returns-in_err-n
unfolding fault_from_codes
returns-in_err-n c = not_opened _ _ _ _ _ _ _ c.open.ensures.answer c.in_err-n.ensures.value _ c.from_residual.ensures

pub returns-then-k-n : goal.returns-then-k-n
unfolding fault_from_codes
returns-then-k-n c = found_here _ _ _ _ _ _ _ c.open.ensures.answer c.in_ok-n.ensures.value c.first_bad_code-k.ensures.first c.if-k-n.true _ c.code_fault.ensures

pub returns : goal.returns
unfolding fault_from_codes
returns c = goes_past _ _ _ _ _ _ _ c.open.ensures.answer c.in_ok-n.ensures.value c.first_bad_code-k.ensures.first c.if-k-n.false _ (rw c.rest.ensures at c.from_routes.ensures)
