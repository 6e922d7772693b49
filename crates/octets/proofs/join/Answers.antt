-- `octets::join` meets its contract: the shift loses nothing, and lo lies below it. Assumes nothing.
use mathlib.Core.Path.{ap, ◌∙◌}
use Prim.Native.Nat.{ℕ, ◌*◌, ◌^◌, ◌<◌}
use native.Mathlib.Nat.{mod-eq_of_lt}
use native.Mathlib.Omega.{arith}
use lib.Bits.{bit_or, or_shifted}
use Rattle.octets.proofs.join.Goals as goal

pub returns : goal.returns
returns c =
    let a = c.args in
    let h : a.hi * 2 ^ a.n < 2 ^ 64 = omega arith in
    ap (λ (m : ℕ). bit_or m a.lo) (mod-eq_of_lt h) ∙ or_shifted a.hi a.n a.lo c.requires.1
