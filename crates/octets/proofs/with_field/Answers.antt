use mathlib.Core.Path.{◌≡◌, ◌∙◌}
use Prim.Native.Nat.{◌+◌, ◌*◌, ◌^◌, ◌-◌}
use native.Mathlib.Nat.{mod-lt}
use native.Mathlib.Omega.{arith}
use lib.Pow.{pow_mono, pow_pos}
use Rattle.paper.specs.Octets.{with_field}
use Rattle.paper.proofs.FieldLaws.{top_lt, with_field_lt}
use Rattle.octets.proofs.with_field.Goals as goal

pub join-requires : goal.join-requires
join-requires c =
    let a = c.args in
    let fits = pow_mono {i = a.b + a.n} {j = 64} (omega arith) in
    omega (arith, top_lt a.x a.b a.n a.v (omega arith) (omega arith), mod-lt a.v (pow_pos a.n))

-- what the last `join` is handed makes up the octet
whole : (c : goal.After-low-2) →
    let a = c.args in
    c.join.result * 2 ^ (8 - (a.b + a.n)) + c.low-2.result ≡ with_field a.x a.b a.n a.v
unfolding with_field
whole c = cc

pub join-requires-2 : goal.join-requires-2
join-requires-2 c =
    let a = c.args in
    omega (arith, whole c, with_field_lt a.x a.b a.n a.v (omega arith) (omega arith), mod-lt a.x (pow_pos (8 - (a.b + a.n))))

pub overflow_cast-result : goal.overflow_cast-result
overflow_cast-result c =
    let a = c.args in
    omega (arith, whole c.before, with_field_lt a.x a.b a.n a.v (omega arith) (omega arith))

pub returns : goal.returns
returns c = c.join-2.ensures ∙ whole c.before
