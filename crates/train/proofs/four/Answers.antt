-- `train::four` meets its contract. Assumes nothing.
use Prim.Native.Nat.{◌+◌}
use native.Mathlib.Omega.{arith}
use Rattle.train.specs.Marks.{with_mark}
use Rattle.train.proofs.Sets.{above_more}
use Rattle.train.proofs.Over.{above_mark}
use Rattle.train.proofs.four.Goals as goal

pub returns : goal.returns
returns c =
    let a = c.args in
    let marks = a.marks.now in
    let p = with_mark marks a.k in
    let i = a.i in
    let w = above_mark marks a.k (i + 4) (i + 3) _ (omega arith) c.mark.ensures.0 in
    let x = above_more p (i + 4) (i + 3) (i + 2) 1 _ _ (omega arith) w (above_mark marks a.k (i + 3) (i + 2) _ (omega arith) c.mark-2.ensures.0) in
    let y = above_more p (i + 4) (i + 2) (i + 1) 1 _ _ (omega arith) x (above_mark marks a.k (i + 2) (i + 1) _ (omega arith) c.mark-3.ensures.0) in
    above_more p (i + 4) (i + 1) i 1 _ _ (omega arith) y (above_mark marks a.k (i + 1) i _ (omega arith) c.mark-4.ensures.0)
