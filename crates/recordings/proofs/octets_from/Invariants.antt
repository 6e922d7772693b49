-- `recordings::octets_from` meets its contract. Assumes nothing.
use Prim.Native.Nat.{◌*◌}
use Rattle.recordings.specs.Recordings.{Agrees, Same}
use Rattle.recordings.proofs.octets_from.Given as goal

abbrev pub invariant-loop-q : goal.invariant-loop-q
invariant-loop-q l = Agrees (Same l.x l.y) (8 * l.from) (8 * l.q)
