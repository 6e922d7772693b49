-- `octets::low` meets its contract: a mask of n ones is a remainder by 2 ^ n. Assumes nothing.
use mathlib.Core.Path.{◌≡◌, ap, ◌∙◌}
use Prim.Native.Nat.{ℕ, ◌-◌, ◌*◌, ◌%◌, ◌^◌, ◌<◌}
use native.Mathlib.Nat.{one-mul}
use native.Mathlib.Omega.{arith}
use lib.Bits.{bit_and, and_mask}
use lib.Dec.{lit<}
use lib.Pow.{pow_pos, shl_exact}
use Rattle.octets.proofs.low.Goals as goal

one_shl : (n : ℕ) → n < 64 → 1 * 2 ^ n % 2 ^ 64 ≡ 2 ^ n
one_shl n h = shl_exact 1 n 64 (lit< tt) (omega arith) ∙ one-mul (2 ^ n)

pub overflow_sub-result : goal.overflow_sub-result
overflow_sub-result c = omega (arith, one_shl c.args.n c.requires, pow_pos c.args.n)

pub returns : goal.returns
returns c = ap (λ (m : ℕ). bit_and c.args.x (m - 1)) (one_shl c.args.n c.requires) ∙ and_mask c.args.x c.args.n
