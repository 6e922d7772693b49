use mathlib.Core.Path.{◌≡◌}
use Prim.Native.Nat.{◌+◌, ◌-◌, ◌*◌, ◌/◌}
use native.Mathlib.Omega.{arith}
use borrow.Author.Rules.{rules}
use lib.ListN.{length}
use Rattle.train.specs.Marks.{with_mark, above}
use Rattle.train.proofs.Sets.{above_none, above_more, above_fits}
use Rattle.train.proofs.Over.{above_mark}
use Rattle.train.proofs.past_fours.Goals as goal
use Rattle.train.proofs.past_fours.Goals.{After-mark}

pub loop-i-init : goal.loop-i-init
loop-i-init c = (omega arith, above_none (with_mark c.args.marks.now c.args.k) (length c.args.marks.now))

-- one vehicle more
more : (c : After-mark) →
    let a = c.args in
    above (with_mark a.marks.now a.k) (length a.marks.now) (c.loop-i.i - 1) (c.loop-i.set * 2 + c.mark.result)
more c =
    let a = c.args in
    let i = c.loop-i.i in
    above_more _ _ i (i - 1) 1 _ _ (omega arith) c.loop-i.invariant.1 (above_mark a.marks.now a.k i (i - 1) _ (omega arith) c.mark.ensures.0)

pub overflow_mul-set : goal.overflow_mul-set
overflow_mul-set c =
    let f = above_fits _ _ _ 1 _ (search rules) (omega arith) c.loop-i.invariant.1 in
    omega (arith, f)

pub overflow_add-set : goal.overflow_add-set
overflow_add-set c =
    let f = above_fits _ _ _ 0 _ (search rules) (omega arith) (more c) in
    omega (arith, f)

pub loop-i-preserved : goal.loop-i-preserved
loop-i-preserved c = (omega arith, more c)

pub returns : goal.returns
returns c =
    let marks = c.args.marks.now in
    let e : c.loop-i.i ≡ length marks / 4 * 4 = omega arith in
    rw e at c.loop-i.invariant.1
