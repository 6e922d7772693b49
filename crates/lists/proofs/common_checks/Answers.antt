use Prim.Native.Nat.{◌<◌}
use mathlib.Core.Path.{◌≡◌, sym, ◌∙◌}
use mathlib.Core.Bool.{true}
use native.Mathlib.Omega.{arith}
use lib.Dec.{ltb}
use borrow.Author.Count.{below_none, below_more}
use borrow.Author.Tests.{ltb-true}
use borrow.Author.Rules.{rules}
use Rattle.paper.specs.SignalList.{check_at}
use Rattle.bools.proofs.Tests.{both}
use Rattle.lists.proofs.Laws.{none_before}
use Rattle.lists.proofs.common_checks.Goals as goal
use Rattle.lists.proofs.common_checks.Goals.{In-loop-j}

-- the check that the loop passes exists, and lies there
lies : (c : In-loop-j) →
    let l = c in
    let a = l.args in
    (ltb l.loop-j.j a.checks ≡ true) × (ltb (check_at a.list.now l.loop-j.j) 320 ≡ true)
lies c = both _ _ (sym c.check_before.ensures ∙ c.loop-j-test.true)

below : (c : In-loop-j) → c.loop-j.j < c.args.checks
below c = ltb-true _ _ (lies c).0

pub loop-j-preserved : goal.loop-j-preserved
loop-j-preserved c = (omega (arith, below c), below_more _ _ c.loop-j.invariant.1 (ltb-true _ _ (lies c).1))

pub returns : goal.returns
returns c =
    let l = c in
    record {
      within = l.loop-j.invariant.0;
      low = l.loop-j.invariant.1;
      high = none_before _ _ l.requires.1 _ _ (sym c.check_before.ensures ∙ c.loop-j-test.false);
    }

pub loop-j-init : goal.loop-j-init
loop-j-init c =
    (search rules, below_none _)

pub overflow_add-j : goal.overflow_add-j
overflow_add-j c =
    omega (arith, below c, c.ranges)

pub loop-j-smaller : goal.loop-j-smaller
loop-j-smaller c =
    omega (arith, below c)
