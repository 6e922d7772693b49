-- `finding::first_signal` meets its contract. Assumes nothing.
use Prim.Native.Nat.{◌-◌}
use Rattle.paper.specs.Search.{Between}
use Rattle.paper.specs.Pairs.{signals_of}
use Rattle.lists.specs.Listed.{list_as}
use Rattle.finding.proofs.first_signal.Given as goal

abbrev pub invariant-loop-low : goal.invariant-loop-low
invariant-loop-low l = Between (signals_of (list_as l.list)).key l.list.counts.signals l.key l.low l.high

abbrev pub decreases-loop-low : goal.decreases-loop-low
decreases-loop-low l = l.high - l.low
