use mathlib.Core.Path.{◌≡◌, ap, ◌∙◌}
use Prim.Native.Nat.{ℕ, ◌+◌, ◌-◌, ◌*◌, ◌/◌, ◌^◌}
use native.Mathlib.Omega.{arith}
use lib.ListN.{get_or}
use Rattle.paper.specs.Octets.{field_of}
use Rattle.octets.proofs.Laws.{first_bits, field_last, joins}
use Rattle.octets.proofs.read_nine.Goals as goal

-- what the octet behind has of it
last : (c : goal.After-wide) →
    let a = c.args in
    c.wide.result / 2 ^ (8 - (a.b + a.width - 64)) ≡ field_of (get_or a.s.now (a.q + 8) 0) 0 (a.b + a.width - 64)
last c =
    let a = c.args in
    ap (λ (x : ℕ). x / 2 ^ (8 - (a.b + a.width - 64))) c.wide.ensures.0 ∙ first_bits _ (a.b + a.width - 64) (omega arith) (omega arith)

pub join-requires : goal.join-requires
join-requires c =
    let a = c.args in
    joins a.s.now (8 * a.q + a.b) (64 - a.b) (a.b + a.width - 64) a.width (a.q + 8) (omega arith) (omega arith) (omega arith)
    (omega arith) _ _ c.read_window.ensures (last c)

pub returns : goal.returns
returns c =
    let p = c in
    let a = p.args in
    c.join.ensures
    ∙ field_last a.s.now (8 * a.q + a.b) (64 - a.b) (a.b + a.width - 64) a.width (a.q + 8) (omega arith) (omega arith) (omega arith)
    _ _ p.read_window.ensures (ap (λ (x : ℕ). x / 2 ^ (8 - (a.b + a.width - 64))) c.wide.ensures.0 ∙ first_bits _ (a.b + a.width - 64) (omega arith) (omega arith))
