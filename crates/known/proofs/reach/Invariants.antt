-- `known::reach` meets its contract. Assumes nothing.
use Rattle.lists.specs.Listed.{list_as}
use Rattle.known.specs.Known.{From}
use Rattle.known.proofs.reach.Given as goal

abbrev pub invariant-loop-e : goal.invariant-loop-e
invariant-loop-e l = From (list_as l.list) l.k l.e
