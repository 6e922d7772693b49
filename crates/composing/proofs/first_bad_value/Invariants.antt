-- `composing::first_bad_value` meets its contract: every value passed fits. Assumes nothing.
use Rattle.paper.specs.Composing.{value_fits}
use Rattle.paper.proofs.LoopLaws.{Passed}
use Rattle.lists.specs.Listed.{list_as}
use Rattle.known.specs.Known.{From}
use Rattle.composing.proofs.first_bad_value.Given as goal

abbrev pub invariant-loop-k : goal.invariant-loop-k
invariant-loop-k l = (Passed (value_fits (list_as l.list) l.kind l.values) l.list.counts.signals l.k) × (From (list_as l.list) l.k l.e)
