-- `relaying::relay_with` meets its contract: what was read and its marks are what is composed. Assumes nothing.
use Rattle.std.proofs.Common.{ap}
use Rattle.paper.specs.Store.{slot_from, slot_of}
use Rattle.relaying.proofs.Laws.{relayed_by}
use Rattle.relaying.proofs.relay_with.Goals as goal

pub returns : goal.returns
unfolding slot_of
returns c = relayed_by _ _ _ _ _ _ _ _ _ _ _ _ _ c.read_each.ensures (ap slot_from c.slot-slot.ensures) c.type_of.ensures c.relay_marks.ensures c.compose_under.ensures
