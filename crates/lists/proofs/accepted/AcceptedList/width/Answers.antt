-- `lists::accepted::AcceptedList::width` meets its contract. Assumes nothing.
use Rattle.paper.proofs.ListLaws.{signal_here}
use Rattle.lists.specs.Judged.{counts_of}
use Rattle.lists.proofs.accepted.AcceptedList.width.Goals as goal

pub returns : goal.returns
returns c =
    let l = c.args.self.now in
    rw (signal_here l.octets.now (counts_of l.counts) c.args.k c.requires) (rw (c.signals.ensures.0, c.signals.ensures.1) at c.width.ensures)
