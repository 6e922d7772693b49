-- `reading::read_each` meets its contract: the signals passed are read. Assumes nothing.
use Rattle.paper.specs.Reading as paper
use Rattle.paper.proofs.LoopLaws.{Filled}
use Rattle.lists.specs.Listed.{list_as}
use Rattle.known.specs.Known.{From}
use Rattle.reading.proofs.read_each.Given as goal

abbrev pub invariant-loop-k : goal.invariant-loop-k
invariant-loop-k l = let of = list_as l.list in
    (Filled (λ i. (paper.reading_at of l.store l.clock l.vehicle i).value) l.list.counts.signals l.values l.k)
    × (Filled (λ i. (paper.reading_at of l.store l.clock l.vehicle i).reason) l.list.counts.signals l.reasons l.k) × (From of l.k l.e)
