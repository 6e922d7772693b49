-- `train::past_fours` meets its contract. Assumes nothing.
use Prim.Native.Nat.{◌*◌, ◌/◌, ◌≤◌}
use lib.ListN.{length}
use Rattle.train.specs.Marks.{with_mark, above}
use Rattle.train.proofs.past_fours.Given as goal

abbrev pub invariant-loop-i : goal.invariant-loop-i
invariant-loop-i l = (length l.marks / 4 * 4 ≤ l.i) × above (with_mark l.marks l.k) (length l.marks) l.i l.set
