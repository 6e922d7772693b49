-- `train::all` meets its contract. Assumes nothing.
use mathlib.Core.Path.{◌≡◌, ◌∙◌}
use Prim.Native.Nat.{ℕ, ◌*◌, ◌%◌, ◌^◌, ◌≤◌}
use native.Mathlib.Nat.{one-mul, pow-succ'}
use native.Mathlib.Omega.{arith}
use lib.Dec.{lit<}
use lib.Pow.{shl_exact, pow_pos, pow_mono}
use Rattle.paper.proofs.SetLaws.{set_all}
use Rattle.train.proofs.all.Goals as goal

shifted : (n : ℕ) → n ≤ 63 → 1 * 2 ^ n % 2 ^ 64 ≡ 2 ^ n
shifted n h = shl_exact 1 n 64 (lit< tt) (omega arith) ∙ one-mul (2 ^ n)

pub overflow_sub-result : goal.overflow_sub-result
overflow_sub-result c = rw (shifted c.args.n c.requires) (pow_pos c.args.n)

pub overflow_mul-result : goal.overflow_mul-result
overflow_mul-result c =
    let l : 2 ^ c.args.n ≤ 2 ^ 63 = pow_mono {i = c.args.n} {j = 63} c.requires in
    rw (shifted c.args.n c.requires) (omega (arith, l))

pub returns : goal.returns
returns c = rw (shifted c.args.n c.requires) (omega (arith, set_all c.args.n, pow-succ' 2 c.args.n, pow_pos c.args.n))
