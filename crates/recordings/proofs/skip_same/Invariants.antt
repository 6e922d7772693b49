-- `recordings::skip_same` meets its contract. Assumes nothing.
use Prim.Native.Nat.{◌-◌, ◌≤◌}
use lib.ListN.{length}
use Rattle.recordings.specs.Recordings.{Agrees, Alike}
use Rattle.recordings.proofs.skip_same.Given as goal

abbrev pub invariant-loop-q : goal.invariant-loop-q
invariant-loop-q l = (l.from ≤ l.q) × (l.q ≤ length l.x) × (Agrees (Alike l.x l.y) l.from l.q)

abbrev pub decreases-loop-q : goal.decreases-loop-q
decreases-loop-q l = length l.x - l.q
