use Prim.Native.Nat.{◌-◌, ◌*◌, ◌/◌, ◌%◌, ◌^◌}
use native.Mathlib.Omega.{arith}
use lib.Bits.{and_le_l}
use Rattle.octets.proofs.Laws.{merged_by, merged_lt}
use Rattle.octets.proofs.merge.Goals as goal

pub overflow_sub-result : goal.overflow_sub-result
overflow_sub-result c = omega (arith, and_le_l c.args.x (18446744073709551615 / 2 ^ (64 - c.args.n) * 2 ^ c.args.k % 2 ^ 64))

pub overflow_add-result : goal.overflow_add-result
overflow_add-result c =
    let a = c.args in
    omega (arith, merged_by a.k a.n (omega arith) a.x a.v, merged_lt a.k a.n (omega arith) a.x a.v (omega arith))

pub returns : goal.returns
returns c = let a = c.args in merged_by a.k a.n (omega arith) a.x a.v
