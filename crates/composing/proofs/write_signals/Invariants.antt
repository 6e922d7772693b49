-- `composing::write_signals` meets its contract: the signals passed are put. Assumes nothing.
use Rattle.paper.specs.Composing.{signal_put}
use Rattle.paper.proofs.PutsLaws.{PutSoFar}
use Rattle.lists.specs.Listed.{list_as}
use Rattle.composing.proofs.write_signals.Given as goal

abbrev pub invariant-loop-k : goal.invariant-loop-k
invariant-loop-k l = PutSoFar (signal_put (list_as l.list) l.kind l.values) l.initial.out l.k l.out
