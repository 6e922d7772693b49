-- `doors::side_of` meets its contract. Assumes nothing.
use Prim.Native.Nat.{◌-◌, ◌≤◌}
use Rattle.paper.specs.SignalList.{list_of}
use Rattle.paper.specs.Reading.{reading_at}
use Rattle.lists.specs.Judged.{counts_of}
use Rattle.doors.specs.Doors.{in_set}
use Rattle.doors.proofs.Laws.{Sofar}
use Rattle.doors.proofs.side_of.Given as goal

abbrev pub invariant-loop-v : goal.invariant-loop-v
invariant-loop-v l = (l.v ≤ l.last) × Sofar (in_set l.set) (λ i. reading_at (list_of l.list (counts_of l.n)) l.store l.clock i l.k) l.v l.kept l.any

abbrev pub decreases-loop-v : goal.decreases-loop-v
decreases-loop-v l = l.last - l.v
