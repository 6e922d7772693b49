-- `octets::copy_over` meets its contract. The invariant: the first i octets of s stand over d, and its length is kept. Assumes nothing.
use mathlib.Core.Path.{◌≡◌}
use Prim.Native.Nat.{◌≤◌}
use lib.ListN.{length}
use lib.Seq.{paste}
use Rattle.octets.proofs.copy_over.Given as goal

abbrev pub invariant-loop-i : goal.invariant-loop-i
invariant-loop-i l = (l.i ≤ length l.s) × (length l.d ≡ length l.initial.d) × (l.d ≡ paste l.initial.d l.at l.s l.i)
