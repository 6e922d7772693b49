-- `extending::ranges_kept` meets its contract: every entry passed that is of the signal is kept. Assumes nothing.
use Rattle.paper.proofs.LoopLaws.{Passed}
use Rattle.lists.specs.Listed.{list_as}
use Rattle.extending.specs.Extending.{entry_kept}
use Rattle.extending.proofs.ranges_kept.Given as goal

abbrev pub invariant-loop-e : goal.invariant-loop-e
invariant-loop-e l = Passed (entry_kept (list_as l.a) (list_as l.b) l.i l.j) l.a.counts.codes l.e
