-- `composing::first_bad_mark` meets its contract: every mark passed fits. Assumes nothing.
use Rattle.paper.specs.Composing.{mark_fits}
use Rattle.paper.proofs.LoopLaws.{Passed}
use Rattle.lists.specs.Listed.{list_as}
use Rattle.composing.proofs.first_bad_mark.Given as goal

abbrev pub invariant-loop-j : goal.invariant-loop-j
invariant-loop-j l = Passed (mark_fits (list_as l.list) l.kind l.marks) l.list.counts.checks l.j
