use mathlib.Core.Path.{◌≡◌, refl, ap, ◌∙◌}
use mathlib.Core.List.{List}
use Prim.Native.Nat.{ℕ, ◌+◌}
use native.Mathlib.Omega.{arith}
use lib.ListN.{length, get_or, set, length-set}
use lib.Seq.{paste}
use Rattle.paper.proofs.NumberLaws.{over_begun, over_turn, over_done}
use borrow.Author.Rules.{rules}
use Rattle.octets.proofs.copy_over.Goals as goal

pub loop-i-init : goal.loop-i-init
loop-i-init c = (search rules, refl, over_begun c.args.d.now c.args.at c.args.s.now)

pub loop-i-preserved : goal.loop-i-preserved
loop-i-preserved c =
    let a = c.args in
    let p = c.loop-i in (
      search rules,
      simp length-set (search rules),
      ap (λ (x : List ℕ). set x (a.at + p.i) (get_or a.s.now p.i 0)) p.invariant.2
          ∙ over_turn a.d.now a.at a.s.now p.i (omega arith) (omega arith),
    )

pub returns : goal.returns
returns c =
    let a = c.args in
    let e : c.loop-i.i ≡ length a.s.now = omega arith in
    c.loop-i.invariant.2 ∙ ap (paste a.d.now a.at a.s.now) e ∙ over_done a.d.now a.at a.s.now
