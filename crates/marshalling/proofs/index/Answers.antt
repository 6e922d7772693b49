-- `marshalling::index` meets its contract: the starts of the signals passed are written. Assumes nothing.
use borrow.Author.Count.{below_none}
use Rattle.lists.specs.Listed.{list_as}
use Rattle.known.proofs.Laws.{from_none}
use Rattle.marshalling.proofs.index.Goals as goal

pub loop-k-init : goal.loop-k-init
loop-k-init c = (from_none (list_as c.args.list.now), c.requires, below_none _)
