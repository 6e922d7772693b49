-- `recordings::skip_same` meets its contract. Assumes nothing.
use Prim.Native.Nat.{◌-◌, ◌≤◌}
use mathlib.Core.Path.{sym}
use lib.ListN.{length}
use native.Mathlib.Omega.{arith}
use borrow.Author.Tests.{leb-true, eqb-true}
use Rattle.bools.proofs.Tests.{both}
use Rattle.recordings.proofs.Laws.{agrees_then, eight_alike}
use Rattle.recordings.proofs.skip_same.Goals as goal

pub loop-q-preserved : goal.loop-q-preserved
loop-q-preserved c =
    let room : 8 ≤ length c.args.x.now - c.loop-q.q = leb-true 8 _ (both _ _ c.loop-q-test.true).0 in
    let eight = eight_alike _ _ (λ i. (c.type_inv.x i).fits) (λ i. (c.type_inv.y i).fits) _ (eqb-true _ _ (sym c.if-not-same_eight.ensures)) in
    (omega arith, omega arith, agrees_then c.loop-q.invariant.2 eight)
