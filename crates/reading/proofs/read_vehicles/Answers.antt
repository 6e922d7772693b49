-- `reading::read_vehicles` meets its contract. Assumes nothing.
use Rattle.paper.proofs.ReadingsLaws.{values_long, reasons_long}
use Rattle.reading.proofs.Laws.{turned_none, turned_more}
use Rattle.reading.proofs.read_vehicles.Goals as goal

pub loop-v-init : goal.loop-v-init
loop-v-init c = (turned_none _ _ _ _ c.requires.values_len.0, turned_none _ _ _ _ c.requires.values_len.1)

pub loop-v-preserved : goal.loop-v-preserved
loop-v-preserved c = (
  turned_more c.loop-v.invariant.0 c.loop-v-test.true _ c.read_each.ensures.value (values_long _ _ _ _),
  turned_more c.loop-v.invariant.1 c.loop-v-test.true _ c.read_each.ensures.reason (reasons_long _ _ _ _),
)
