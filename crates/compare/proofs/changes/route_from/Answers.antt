-- `compare::changes::route_from` meets its contract: each key is past the one before.
use Rattle.compare.proofs.Laws.{route_within}
use Rattle.compare.proofs.changes.route_from.Goals as goal

pub returns : goal.returns
returns c = rw c.unwrap_or.ensures (route_within _ _ _ _ _ _ c.route_change.ensures)
