-- `reading::read_vehicles` meets its contract: the vehicles passed are read. Assumes nothing.
use Rattle.paper.specs.Readings.{values_at, reasons_at}
use Rattle.lists.specs.Listed.{list_as}
use Rattle.reading.proofs.Laws.{Turned}
use Rattle.reading.proofs.read_vehicles.Given as goal

abbrev pub invariant-loop-v : goal.invariant-loop-v
invariant-loop-v l = let of = list_as l.list in
    (Turned (values_at of l.store l.clock) l.list.counts.signals l.last l.values l.v) × (Turned (reasons_at of l.store l.clock) l.list.counts.signals l.last l.reasons l.v)
