use Prim.Native.Nat.{◌+◌, ◌≤◌}
use native.Mathlib.Omega.{arith}
use borrow.Author.Rules.{rules}
use lib.ListN.{length}
use Rattle.refusals.proofs.WrittenLaws.{handed_on}
use Rattle.texts.proofs.Laws.{judged_none, judged_here, block_begins, block_key, judged_more, judged_after, judged_all}
use Rattle.texts.proofs.first_fault.Goals as goal
use Rattle.texts.proofs.first_fault.Goals.{In_ok-fault}

-- block k has no fault, so its first 6 octets are there
begins : (c : In_ok-fault) → c.loop.at + 6 ≤ length c.args.telegram.now
begins c = block_begins _ _ _ _ _ c.loop.invariant.1 c.in_ok-fault.ensures

pub loop-init : goal.loop-init
loop-init c = (search rules, judged_none _ _ c.requires)

pub returns-in_err-fault : goal.returns-in_err-fault
returns-in_err-fault c =
    rw (handed_on _ _ c.from_residual.ensures) (judged_here _ _ _ _ _ c.loop.invariant.1 c.loop-test.true _ c.in_err-fault.ensures)

pub with-seen-requires : goal.with-seen-requires
with-seen-requires c = block_key _ _ _ _ _ c.loop.invariant.1 c.in_ok-fault.ensures

pub loop-preserved : goal.loop-preserved
loop-preserved c =
    let m = judged_more _ _ _ _ _ c.loop.invariant.1 c.in_ok-fault.ensures c.loop-test.true _ _ c.read16-at.ensures.value c.with-seen.ensures in
    (m.inside, m)

pub returns-then-at-telegram : goal.returns-then-at-telegram
returns-then-at-telegram c = judged_after _ _ _ _ _ c.loop.invariant.1 c.loop-test.false c.if-at-telegram.true

pub returns : goal.returns
returns c = judged_all _ _ _ _ _ c.loop.invariant.1 c.loop-test.false c.if-at-telegram.false

pub overflow_add-at : goal.overflow_add-at
overflow_add-at c = omega (arith, begins (goal.at.overflow_add-at c).In_ok-fault)

pub bounds-telegram-at : goal.bounds-telegram-at
bounds-telegram-at c = omega (arith, begins (goal.at.bounds-telegram-at c).In_ok-fault)

pub read16-at-requires : goal.read16-at-requires
read16-at-requires c = omega (arith, begins (goal.at.read16-at-requires c).In_ok-fault)
