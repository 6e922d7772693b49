-- `compare::changes::codes_from` meets its contract: each range starts past the one before.
use Rattle.compare.proofs.Laws.{codes_within}
use Rattle.compare.proofs.changes.codes_from.Goals as goal

pub returns : goal.returns
returns c = rw c.unwrap_or.ensures (codes_within _ _ _ _ _ _ _ c.codes_gained.ensures)
