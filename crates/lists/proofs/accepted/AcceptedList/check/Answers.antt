-- `lists::accepted::AcceptedList::check` meets its contract. Assumes nothing.
use Rattle.paper.proofs.ListLaws.{check_here}
use Rattle.lists.specs.Judged.{counts_of}
use Rattle.lists.proofs.accepted.AcceptedList.check.Goals as goal

pub returns : goal.returns
returns c = let l = c.args.self.now in rw (check_here l.octets.now (counts_of l.counts) c.args.j c.requires) c.check_at.ensures
