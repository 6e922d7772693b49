-- `recordings::first_differing` meets its contract: the bits before the stretch agree. Assumes nothing.
use Prim.Native.Nat.{◌-◌, ◌≤◌}
use Rattle.recordings.specs.Recordings.{Agrees, Same}
use Rattle.recordings.proofs.first_differing.Given as goal

abbrev pub invariant-loop-a : goal.invariant-loop-a
invariant-loop-a l = (l.from ≤ l.a) × (Agrees (Same l.x l.y) l.from l.a)

abbrev pub decreases-loop-a : goal.decreases-loop-a
decreases-loop-a l = l.to - l.a
