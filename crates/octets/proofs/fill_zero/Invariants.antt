-- `octets::fill_zero` meets its contract: as `copy_over`, with zeros for s. Assumes nothing.
use mathlib.Core.Path.{◌≡◌}
use Prim.Native.Nat.{◌≤◌}
use lib.ListN.{length, replicate}
use lib.Seq.{paste}
use Rattle.octets.proofs.fill_zero.Given as goal

abbrev pub invariant-loop-i : goal.invariant-loop-i
invariant-loop-i l = (l.i ≤ l.n) × (length l.d ≡ length l.initial.d) × (l.d ≡ paste l.initial.d l.at (replicate l.n 0) l.i)
