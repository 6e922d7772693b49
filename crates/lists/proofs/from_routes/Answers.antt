-- `lists::from_routes` meets its contract. Assumes nothing.
use mathlib.Core.Path.{ap}
use native.Mathlib.Omega.{arith}
use borrow.Author.Tests.{lt-ltb, le-ltb}
use Rattle.paper.specs.Answer.{refuse_if}
use Rattle.paper.specs.SignalList.{entry, route_size, ending, from_routes}
use Rattle.lists.proofs.Laws.{routes_from, opens, not_opened, entry_broken, entries_kept}
use Rattle.lists.proofs.from_routes.Goals as goal

pub returns-in_err-routes : goal.returns-in_err-routes
unfolding from_routes
returns-in_err-routes c = not_opened (routes_from _ _ _ _ _ _) _ _ c.from_residual.ensures c.in_err-routes.ensures.answer

pub returns-then-at-end : goal.returns-then-at-end
unfolding from_routes
returns-then-at-end c =
    entry_broken (opens (routes_from _ _ _ _ _ _) _ c.in_ok-routes.ensures.answer) (ap (entry route_size) c.first_bad_route.ensures.first) c.if-at-end.true

pub returns-then-end-tail : goal.returns-then-end-tail
unfolding from_routes ending refuse_if
returns-then-end-tail c =
    entries_kept (opens (routes_from _ _ _ _ _ _) _ c.in_ok-routes.ensures.answer) (ap (entry route_size) c.first_bad_route.ensures.first) (omega arith)
    c.if-at-end.false _ (simp (lt-ltb _ _ c.if-end-tail.true))

pub returns : goal.returns
unfolding from_routes ending refuse_if
returns c =
    entries_kept (opens (routes_from _ _ _ _ _ _) _ c.in_ok-routes.ensures.answer) (ap (entry route_size) c.first_bad_route.ensures.first) (omega arith)
    c.if-at-end.false _ (simp (le-ltb _ _ c.if-end-tail.false, c.version_of.ensures))
