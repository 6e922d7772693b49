use mathlib.Core.Path.{◌≡◌}
use Prim.Native.Nat.{◌+◌, ◌-◌, ◌*◌}
use native.Mathlib.Omega.{arith}
use borrow.Author.Rules.{rules}
use lib.ListN.{length}
use Rattle.train.specs.Marks.{with_mark, above}
use Rattle.train.proofs.Sets.{above_more, above_fits, above_all}
use Rattle.train.proofs.with_mark.Goals as goal
use Rattle.train.proofs.with_mark.Goals.{After-four}

-- four vehicles more
more : (c : After-four) →
    let a = c.args in
    above (with_mark a.marks.now a.k) (length a.marks.now) ((c.loop-fours.fours - 1) * 4) (c.loop-fours.set * 16 + c.four.result)
more c =
    let f = c.loop-fours.fours in
    let e : f * 4 ≡ (f - 1) * 4 + 4 = omega arith in
    above_more _ _ ((f - 1) * 4 + 4) ((f - 1) * 4) 4 _ _ (omega arith) (rw e at c.loop-fours.invariant) c.four.ensures

pub overflow_mul-set : goal.overflow_mul-set
overflow_mul-set c =
    let f = above_fits _ _ _ 4 _ (search rules) (omega arith) c.loop-fours.invariant in
    omega (arith, f)

pub overflow_add-set : goal.overflow_add-set
overflow_add-set c =
    let f = above_fits _ _ _ 0 _ (search rules) (omega arith) (more c) in
    omega (arith, f)

pub loop-fours-preserved : goal.loop-fours-preserved
loop-fours-preserved c = more c

pub overflow_mul-result : goal.overflow_mul-result
overflow_mul-result c =
    let f = above_fits _ _ _ 1 _ (search rules) (omega arith) c.loop-fours.invariant in
    omega (arith, f)

pub returns : goal.returns
returns c =
    let z : c.loop-fours.fours * 4 ≡ 0 = omega arith in
    above_all _ _ _ (rw z at c.loop-fours.invariant)
