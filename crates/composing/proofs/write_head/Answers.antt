-- `composing::write_head` meets its contract. Assumes nothing.
use Prim.Native.Nat.{ℕ, ◌+◌, ◌-◌}
use mathlib.Core.Path.{◌≡◌, ap, ◌∙◌}
use native.Mathlib.Omega.{arith}
use lib.ListN.{length, set, replicate, length-set}
use Rattle.paper.specs.Octets.{over}
use Rattle.paper.specs.Telegrams.{type_length}
use Rattle.paper.proofs.StoreLaws.{type_least}
use Rattle.composing.proofs.Laws.{written_head}
use Rattle.composing.proofs.write_head.Goals as goal

pub returns : goal.returns
returns c =
    let a = c.args in
    let first = set (set a.out.now 0 (16 + a.kind)) 1 a.version in
    let l : length first ≡ type_length a.kind = simp length-set c.requires.0.long in
    c.fill_zero.ensures
    ∙ ap (λ (n : ℕ). over first 2 (replicate (n - 2) 0)) l
    ∙ written_head a.out.now (16 + a.kind) a.version (type_length a.kind) c.requires.0.long (omega (arith, type_least a.kind))
