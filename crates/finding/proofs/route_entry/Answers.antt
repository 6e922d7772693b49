-- `finding::route_entry` meets its contract. Assumes nothing.
use borrow.Author.Tests.{lt-ltb, le-ltb}
use Rattle.paper.specs.Pairs.{route_entry_by, route_entry}
use Rattle.lists.proofs.Laws.{under_accepted}
use Rattle.finding.proofs.Laws.{under_err}
use Rattle.finding.proofs.route_entry.Goals as goal

pub returns-in_err-list : goal.returns-in_err-list
unfolding route_entry
returns-in_err-list c = under_err _ _ _ _ _ (route_entry_by _) c.from_residual.ensures c.in_err-list.ensures

pub returns-then-list-route : goal.returns-then-list-route
unfolding route_entry
returns-then-list-route c = under_accepted _ _ (route_entry_by _) _ _ c.in_ok-list.ensures (simp (le-ltb _ _ c.if-list-route.true))

pub returns : goal.returns
unfolding route_entry
returns c = under_accepted _ _ (route_entry_by _) _ _ c.in_ok-list.ensures (simp (lt-ltb _ _ c.if-list-route.false) (cc c.route.ensures.is))
