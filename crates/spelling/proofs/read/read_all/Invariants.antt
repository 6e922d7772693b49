-- `spelling::read::read_all` meets its contract. The invariant: the first n characters are read. Assumes nothing.
use Prim.Native.Nat.{◌+◌, ◌-◌}
use lib.ListN.{length}
use Rattle.spelling.proofs.Turns.{ReadTo}
use Rattle.spelling.proofs.read.read_all.Given as goal

abbrev pub invariant-loop-c : goal.invariant-loop-c
invariant-loop-c l = ReadTo l.text l.initial.out l.out l.at l.n

abbrev pub decreases-loop-c : goal.decreases-loop-c
decreases-loop-c l = length l.text + 6 - l.at
