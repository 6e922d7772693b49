-- `relaying::write_marks` meets its contract: the marks of the checks passed are written. Assumes nothing.
use lib.ListN.{get_or}
use Rattle.paper.proofs.LoopLaws.{Filled}
use Rattle.lists.specs.Listed.{list_as}
use Rattle.relaying.specs.declared.State.TheVariants.{Nothing}
use Rattle.relaying.specs.Relaying.{mark_by}
use Rattle.relaying.proofs.write_marks.Given as goal

abbrev pub invariant-loop-j : goal.invariant-loop-j
invariant-loop-j l = Filled (λ i. mark_by (list_as l.list) l.telegram (get_or l.states i Nothing) i) l.list.counts.checks l.marks l.j
