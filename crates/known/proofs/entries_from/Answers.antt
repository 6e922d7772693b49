-- `known::entries_from` meets its contract. Assumes nothing.
use Rattle.known.proofs.Laws.{listed_ordered, reach_next, own_from}
use Rattle.known.proofs.entries_from.Goals as goal

pub reach-to-requires : goal.reach-to-requires
reach-to-requires c = reach_next _ _ (listed_ordered c.args.list.now) _ _ c.reach-first.ensures

pub returns : goal.returns
returns c = own_from _ _ (listed_ordered c.args.list.now) _ _ _ c.reach-first.ensures c.reach-to.ensures
