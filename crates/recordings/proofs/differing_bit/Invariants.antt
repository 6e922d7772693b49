-- `recordings::differing_bit` meets its contract. Assumes nothing.
use Rattle.recordings.specs.Recordings.{Agrees, Same}
use Rattle.recordings.proofs.differing_bit.Given as goal

abbrev pub invariant-loop-a : goal.invariant-loop-a
invariant-loop-a l = Agrees (Same l.x l.y) l.from l.a
