-- `recordings::first_off` meets its contract. Assumes nothing.
use Rattle.recordings.specs.Recordings.{Agrees, Digit}
use Rattle.recordings.proofs.first_off.Given as goal

abbrev pub invariant-loop-a : goal.invariant-loop-a
invariant-loop-a l = Agrees (Digit l.s l.start l.width l.value) l.start l.a
