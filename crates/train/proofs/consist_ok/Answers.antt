use mathlib.Core.Path.{◌≡◌, refl, sym, ap, ap₂, ◌∙◌}
use mathlib.Core.Bool.{Bool, cond, ◌&&◌}
use mathlib.Core.List.{map}
use Prim.Native.Nat.{ℕ, ◌+◌, ◌%◌}
use native.Mathlib.Omega.{arith}
use lib.Dec.{leb}
use lib.ListN.{length, get_or}
use Rattle.paper.specs.First.{all, count}
use Rattle.paper.specs.Train.{Vehicle, led_rule, consist_rule}
use Rattle.paper.proofs.FirstLaws.{count_le, all_true}
use Rattle.train.specs.Marks.{vehicle_of}
use Rattle.train.proofs.Over.{map_length, map_at, digit_of_lem, all_more, count_more}
use Rattle.train.proofs.consist_ok.Goals as goal
use Rattle.train.proofs.consist_ok.Invariants.{leads, obeys}

pub loop-m-init : goal.loop-m-init
unfolding count
loop-m-init c = (refl, sym (all_true (obeys c.args.marks.now) 0 (λ k h. absurd (omega arith))))

pub overflow_add-leading : goal.overflow_add-leading
overflow_add-leading c =
    let n = count_le (leads c.args.marks.now) c.loop-m.m-index in
    omega (arith, n)

pub loop-m-preserved : goal.loop-m-preserved
loop-m-preserved c =
    let marks = c.args.marks.now in
    let i = c.loop-m.m-index in
    let m = get_or marks i 0 in
    let leading : m % 2 ≡ cond (leads marks i) 1 0 = digit_of_lem m ∙ ap (λ (v : Vehicle). cond v.leading 1 0) (sym (map_at marks i)) in
    let led = c.led_ok-led.ensures ∙ ap led_rule (sym (map_at marks i)) in (
      ap₂ ◌+◌ c.loop-m.invariant.0 leading ∙ sym (count_more (leads marks) i),
      ap₂ ◌&&◌ c.loop-m.invariant.1 led ∙ sym (all_more (obeys marks) i),
    )

pub returns : goal.returns
unfolding consist_rule
returns c =
    let marks = c.args.marks.now in
    let end : c.loop-m.m-index ≡ length marks = omega arith in
    let at : c.loop-m.m-index ≡ length (map vehicle_of marks) = end ∙ sym (map_length marks) in
    ap₂ (λ (n : ℕ) (b : Bool). leb n 1 && b) (c.loop-m.invariant.0 ∙ ap (count (leads marks)) at) (c.loop-m.invariant.1 ∙ ap (all (obeys marks)) at)
