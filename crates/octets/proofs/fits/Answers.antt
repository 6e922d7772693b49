-- `octets::fits` meets its contract. Assumes nothing.
use Prim.Native.Nat.{◌^◌, ◌≤◌}
use mathlib.Core.Path.{sym}
use native.Mathlib.Nat.{one-mul, mod-eq_of_lt}
use native.Mathlib.Omega.{arith}
use lib.Pow.{pow-lt, pow_mono}
use borrow.Author.Tests.{lt-ltb}
use Rattle.octets.proofs.fits.Goals as goal

pub returns-then-w-lt64 : goal.returns-then-w-lt64
returns-then-w-lt64 c = simp (one-mul, mod-eq_of_lt (pow-lt {i = c.args.w} {j = 64} (omega (arith, c.if-w-lt64.true))))

pub returns-else-w-lt64 : goal.returns-else-w-lt64
returns-else-w-lt64 c =
    let w = c.args.w in
    let wide : 2 ^ 64 ≤ 2 ^ w = pow_mono {i = 64} {j = w} (omega (arith, c.if-w-lt64.false)) in
    sym (lt-ltb c.args.v (2 ^ w) (omega arith))
