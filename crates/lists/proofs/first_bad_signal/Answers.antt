-- `lists::first_bad_signal` meets its contract. Assumes nothing.
use Prim.Native.Nat.{ℕ, ◌<◌}
use mathlib.Core.Path.{◌≡◌, refl, sym, ap, ◌∙◌}
use mathlib.Core.Bool.{true, not, ◌&&◌}
use native.Mathlib.Omega.{arith}
use lib.Dec.{ltb}
use borrow.Author.Tests.{ltb-true}
use Rattle.paper.specs.SignalList.{Signal, field_end, entry, check_at}
use Rattle.bools.proofs.Tests.{both}
use Rattle.paper.proofs.LoopLaws.{passed_none, passed_more, fails_here, fails_nowhere}
use Rattle.entries.specs.Entries.{signal_of}
use Rattle.entries.proofs.Laws.{before_first, before_next, own_breaks, own_passes}
use Rattle.lists.proofs.Laws.{behind_none, behind_more, behind_later, behind_resumed, shares_none, shares_one}
use Rattle.lists.proofs.first_bad_signal.Goals as goal
use Rattle.lists.proofs.first_bad_signal.Goals.{In-loop-kind}

pub loop-k-init : goal.loop-k-init
loop-k-init c = record { passed = passed_none _ _; type = before_first; end = before_first; behind = behind_none _ }

pub loop-kind-init : goal.loop-kind-init
loop-kind-init c = rw c.resumed-j.ensures (behind_resumed c.loop-k.invariant.behind _)

-- the check that the inner loop stands at exists
below : {t : _} (j checks end : ℕ) (check : ℕ → ℕ) → t ≡ (ltb j checks && ltb (check j) end) → t ≡ true → j < checks
below j checks end check e h = ltb-true _ _ (both _ _ (sym e ∙ h)).0

pub check_at-requires : goal.check_at-requires
check_at-requires c = omega (arith, below _ _ _ (check_at c.args.list.now) c.check_before.ensures c.loop-kind-test.true)

pub overflow_add-j : goal.overflow_add-j
overflow_add-j c = omega (arith, below _ _ _ (check_at c.args.list.now) c.check_before.ensures c.loop-kind-test.true, c.ranges)

pub loop-kind-smaller : goal.loop-kind-smaller
loop-kind-smaller c = omega (arith, below _ _ _ (check_at c.args.list.now) c.check_before.ensures c.loop-kind-test.true)

pub loop-kind-preserved : goal.loop-kind-preserved
loop-kind-preserved c =
    behind_more c.loop-kind.invariant (below _ _ _ (check_at c.args.list.now) c.check_before.ensures c.loop-kind-test.true)
    (omega (arith, c.check_at.ensures.is, c.if-s-check_at.false))

pub loop-k-preserved : goal.loop-k-preserved
loop-k-preserved c =
    let i = c.loop-k.invariant in
    record {
      passed = passed_more i.passed c.loop-k-test.true
          (own_passes _ _ _ _ c.common_checks-common.ensures i.type i.end c.get-s.ensures.is c.signal_own.ensures (ap not c.if-not-signal_own.false)
          (shares_none _ _ (signal_of c.get-s.result) _ c.requires.1 c.loop-kind.invariant (sym c.check_before.ensures ∙ c.loop-kind-test.false))) refl;
      type = before_next _ (ap (λ (x : Signal). x.type) c.get-s.ensures.is);
      end = before_next _ (ap field_end c.get-s.ensures.is);
      behind = behind_later c.loop-kind.invariant _ (omega arith);
    }

pub returns-then-not-signal_own : goal.returns-then-not-signal_own
returns-then-not-signal_own c =
    let i = c.loop-k.invariant in
    ap (entry c.args.signals.now.size)
    (fails_here i.passed c.loop-k-test.true
    (own_breaks _ _ _ _ c.common_checks-common.ensures i.type i.end c.get-s.ensures.is c.signal_own.ensures (ap not c.if-not-signal_own.true)) refl)

pub returns-then-s-check_at : goal.returns-then-s-check_at
returns-then-s-check_at c =
    let i = c.loop-k.invariant in
    ap (entry c.args.signals.now.size)
    (fails_here i.passed c.loop-k-test.true
    (own_passes _ _ _ _ c.common_checks-common.ensures i.type i.end c.get-s.ensures.is c.signal_own.ensures (ap not c.if-not-signal_own.false)
    (shares_one _ _ (signal_of c.get-s.result) _ (sym c.check_before.ensures ∙ c.loop-kind-test.true) (rw c.check_at.ensures.is at c.if-s-check_at.true))) refl)

pub returns-after-loop-k : goal.returns-after-loop-k
returns-after-loop-k c = ap (entry c.args.signals.now.size) (fails_nowhere c.loop-k.invariant.passed c.loop-k-test.false)
