-- `differ::pair_from` meets its contract: each pair's key is past the one before.
use Rattle.differ.proofs.Laws.{pair_within}
use Rattle.differ.proofs.pair_from.Goals as goal

pub returns : goal.returns
returns c = rw c.unwrap_or.ensures (pair_within _ _ _ _ _ _ c.pair_from.ensures)
