-- `recordings::locate` meets its contract. Assumes nothing.
use mathlib.Core.Bool.{not}
use Rattle.paper.specs.Recordings.{lies_in}
use Rattle.paper.proofs.LoopLaws.{Passed}
use Rattle.lists.specs.Listed.{list_as}
use Rattle.recordings.proofs.locate.Given as goal

abbrev pub invariant-loop-r : goal.invariant-loop-r
invariant-loop-r l = Passed (λ j. not (lies_in (list_as l.list) l.a j)) l.list.counts.routes l.r
