-- `lists::accepted::AcceptedList::judged` meets its contract. Assumes nothing.
use Rattle.lists.proofs.Laws.{accepted_laid}
use Rattle.lists.proofs.accepted.AcceptedList.judged.Goals as goal

pub invariant_of-result : goal.invariant_of-result
invariant_of-result c = record { laid = accepted_laid _ _ c.in_ok-counts.counts c.in_ok-counts.ensures }
