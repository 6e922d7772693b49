-- `train::with_mark` meets its contract. Assumes nothing.
use Prim.Native.Nat.{◌*◌}
use lib.ListN.{length}
use Rattle.train.specs.Marks.{with_mark, above}
use Rattle.train.proofs.with_mark.Given as goal

abbrev pub invariant-loop-fours : goal.invariant-loop-fours
invariant-loop-fours l = above (with_mark l.marks l.k) (length l.marks) (l.fours * 4) l.set
