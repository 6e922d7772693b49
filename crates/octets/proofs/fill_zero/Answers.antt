use mathlib.Core.Path.{◌≡◌, refl, sym, ap, ap₂, ◌∙◌}
use mathlib.Core.List.{List}
use Prim.Native.Nat.{ℕ, ◌+◌}
use native.Mathlib.Omega.{arith}
use lib.ListN.{length, get_or, set, length-set, replicate, length-replicate, get_or-replicate}
use lib.Seq.{paste}
use Rattle.paper.proofs.NumberLaws.{over_begun, over_turn, over_done}
use borrow.Author.Rules.{rules}
use Rattle.octets.proofs.fill_zero.Goals as goal

pub loop-i-init : goal.loop-i-init
loop-i-init c = (search rules, refl, over_begun c.args.d.now c.args.at (replicate c.args.n 0))

pub loop-i-preserved : goal.loop-i-preserved
loop-i-preserved c =
    let a = c.args in
    let p = c.loop-i in
    let s : List ℕ = replicate a.n 0 in
    let z : get_or s p.i 0 ≡ 0 = get_or-replicate a.n p.i 0 0 (omega arith) in (
      search rules,
      simp length-set (search rules),
      ap₂ (λ (x : List ℕ) (v : ℕ). set x (a.at + p.i) v) p.invariant.2 (sym z)
          ∙ over_turn a.d.now a.at s p.i (omega arith) (omega (arith, length-replicate {A = ℕ} a.n 0)),
    )

pub returns : goal.returns
returns c =
    let a = c.args in
    let s : List ℕ = replicate a.n 0 in
    let e : c.loop-i.i ≡ length s = omega (arith, length-replicate {A = ℕ} a.n 0) in
    c.loop-i.invariant.2 ∙ ap (paste a.d.now a.at s) e ∙ over_done a.d.now a.at s
