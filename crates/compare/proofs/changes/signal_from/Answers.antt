-- `compare::changes::signal_from` meets its contract: each key is past the one before.
use Rattle.compare.proofs.Laws.{signal_within}
use Rattle.compare.proofs.changes.signal_from.Goals as goal

pub returns : goal.returns
returns c = rw c.unwrap_or.ensures (signal_within _ _ _ _ _ _ c.signal_change.ensures)
