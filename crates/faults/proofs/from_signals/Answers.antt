-- `faults::from_signals` meets its contract. Assumes nothing.
use native.Mathlib.Omega.{arith}
use Rattle.faults.proofs.Laws.{not_opened, breaks, found_here, goes_past, entry_number, number_before, number_past}
use Rattle.paper.specs.Broken.{fault_from_signals}
use Rattle.faults.proofs.from_signals.Goals as goal

pub returns-in_err-count : goal.returns-in_err-count
unfolding fault_from_signals
returns-in_err-count c = not_opened _ _ _ _ _ _ _ c.open.ensures.answer c.in_err-count.ensures.value _ c.from_residual.ensures

pub signal_fault-requires-clause-k_value : goal.signal_fault-requires-clause-k_value
signal_fault-requires-clause-k_value c =
    breaks _ _ (entry_number _ _ _ (omega arith) c.first_bad_signal-at.ensures) (number_before _ _ _ (omega arith) c.first_bad_signal-at.ensures _ c.if-at-end.true)

pub returns-then-at-end : goal.returns-then-at-end
unfolding fault_from_signals
returns-then-at-end c =
    found_here _ _ _ _ _ _ _ c.open.ensures.answer c.in_ok-count.ensures.value (entry_number _ _ _ (omega arith) c.first_bad_signal-at.ensures)
    (number_before _ _ _ (omega arith) c.first_bad_signal-at.ensures _ c.if-at-end.true) _ c.signal_fault.ensures

pub returns : goal.returns
unfolding fault_from_signals
returns c =
    goes_past _ _ _ _ _ _ _ c.open.ensures.answer c.in_ok-count.ensures.value (entry_number _ _ _ (omega arith) c.first_bad_signal-at.ensures)
    (number_past _ _ _ (omega arith) c.first_bad_signal-at.ensures _ c.if-at-end.false) _ (rw c.rest.ensures at c.from_codes.ensures)
