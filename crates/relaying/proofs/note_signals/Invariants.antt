-- `relaying::note_signals` meets its contract: the signals passed are in the states. Assumes nothing.
use Rattle.lists.specs.Listed.{list_as}
use Rattle.relaying.specs.Relaying.{Stated}
use Rattle.relaying.proofs.note_signals.Given as goal

abbrev pub invariant-loop-k : goal.invariant-loop-k
invariant-loop-k l = Stated (list_as l.list) l.kind l.reasons l.k l.states
