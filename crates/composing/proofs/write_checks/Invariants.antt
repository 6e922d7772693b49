-- `composing::write_checks` meets its contract: the checks passed are put. Assumes nothing.
use Rattle.paper.specs.Composing.{check_put}
use Rattle.paper.proofs.PutsLaws.{PutSoFar}
use Rattle.lists.specs.Listed.{list_as}
use Rattle.composing.proofs.write_checks.Given as goal

abbrev pub invariant-loop-j : goal.invariant-loop-j
invariant-loop-j l = PutSoFar (check_put (list_as l.list) l.kind l.marks) l.initial.out l.j l.out
