use mathlib.Core.Path.{◌≡◌, sym, ap, ap₂, ◌∙◌}
use mathlib.Core.List.{List, map}
use Prim.Native.Nat.{ℕ, ◌+◌, ◌<◌}
use native.Mathlib.Omega.{arith}
use lib.ListN.{length, get_or, set, length-map, get_or-map}
use lib.Seq.{paste}
use Rattle.paper.proofs.NumberLaws.{over_begun, over_turn, over_done}
use Rattle.records.specs.Records.{below32}
use Rattle.records.proofs.write_marks.Goals as goal

pub loop-i-init : goal.loop-i-init
loop-i-init c = over_begun c.args.marks.now 0 (map below32 c.args.at.now)

pub loop-i-preserved : goal.loop-i-preserved
loop-i-preserved c =
    let a = c.args in
    let p = c.loop-i in
    let m : List ℕ = map below32 a.at.now in
    let far : p.i < length m = omega (arith, length-map a.at.now below32) in
    let zeroth : p.i ≡ 0 + p.i = omega arith in
    ap (λ (x : List ℕ). set x p.i (below32 (get_or a.at.now p.i 0))) p.invariant
    ∙ ap₂ (set (paste a.marks.now 0 m p.i)) zeroth (sym (get_or-map below32 a.at.now p.i 0))
    ∙ over_turn a.marks.now 0 m p.i (omega arith) far

pub returns : goal.returns
returns c =
    let a = c.args in
    let m : List ℕ = map below32 a.at.now in
    let e : c.loop-i.i ≡ length m = omega (arith, length-map a.at.now below32) in
    c.loop-i.invariant ∙ ap (paste a.marks.now 0 m) e ∙ over_done a.marks.now 0 m
