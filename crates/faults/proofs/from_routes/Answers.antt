-- `faults::from_routes` meets its contract. Assumes nothing.
use mathlib.Core.Path.{refl}
use Rattle.faults.proofs.Laws.{not_opened, found_here, goes_past}
use Rattle.paper.specs.Broken.{fault_from_routes}
use Rattle.faults.proofs.from_routes.Goals as goal

pub returns-in_err-n : goal.returns-in_err-n
unfolding fault_from_routes
returns-in_err-n c = not_opened _ _ _ _ _ _ _ c.open.ensures.answer c.in_err-n.ensures.value _ c.from_residual.ensures

pub returns-then-k-n : goal.returns-then-k-n
unfolding fault_from_routes
returns-then-k-n c = found_here _ _ _ _ _ _ _ c.open.ensures.answer c.in_ok-n.ensures.value c.first_bad_route-k.ensures.first c.if-k-n.true _ c.route_fault.ensures

pub returns : goal.returns
unfolding fault_from_routes
returns c = goes_past _ _ _ _ _ _ _ c.open.ensures.answer c.in_ok-n.ensures.value c.first_bad_route-k.ensures.first c.if-k-n.false _ refl
