use mathlib.Core.Path.{sym, ap, ◌∙◌}
use mathlib.Core.Bool.{not}
use native.Mathlib.Omega.{arith}
use borrow.Author.Tests.{not-true, not-false}
use Rattle.paper.proofs.ListLaws.{version_here}
use Rattle.finding.proofs.Laws.{kept_as}
use Rattle.known.proofs.Laws.{listed_ordered, past_own}
use Rattle.extending.proofs.Laws.{ahead, along_kept, stands_nowhere, not_along, all_along}
use Rattle.extending.proofs.compared.Goals as goal

pub returns-then-b-j : goal.returns-then-b-j
returns-then-b-j c =
    let m = ahead c.args.a.now c.args.b.now _ _ c.loop-i.invariant.0 _ c.signal.ensures.is _ c.signal_key.ensures _ c.past_newer-j.ensures in
    stands_nowhere _ _ (kept_as c.args.a.now) (kept_as c.args.b.now) _ _ m.along c.loop-i-test.true c.if-b-j.true

pub returns-then-not-keeps_at : goal.returns-then-not-keeps_at
returns-then-not-keeps_at c =
    let m = ahead c.args.a.now c.args.b.now _ _ c.loop-i.invariant.0 _ c.signal.ensures.is _ c.signal_key.ensures _ c.past_newer-j.ensures in
    not_along _ _ (kept_as c.args.a.now) (kept_as c.args.b.now) _ _ m.along c.loop-i-test.true c.if-b-j.false (m.stops c.if-b-j.false)
    (sym c.keeps_at.ensures ∙ not-true _ (ap not c.if-not-keeps_at.true))

pub loop-i-preserved : goal.loop-i-preserved
loop-i-preserved c =
    let m = ahead c.args.a.now c.args.b.now _ _ c.loop-i.invariant.0 _ c.signal.ensures.is _ c.signal_key.ensures _ c.past_newer-j.ensures in (
      along_kept _ _ (kept_as c.args.a.now) (kept_as c.args.b.now) _ _ m.along c.loop-i-test.true c.if-b-j.false
          (sym c.keeps_at.ensures ∙ not-false _ (ap not c.if-not-keeps_at.false)),
      past_own _ _ (listed_ordered c.args.a.now) _ _ _ _ c.entries_from-own.ensures (omega arith),
      past_own _ _ (listed_ordered c.args.b.now) _ _ _ _ c.entries_from-its.ensures (omega arith),
    )

pub returns : goal.returns
returns c =
    all_along _ _ (kept_as c.args.a.now) (kept_as c.args.b.now) _ _ _ c.loop-i.invariant.0 c.loop-i-test.false
    (rw (version_here _ _ c.args.a.now.laid) at c.past_newer.ensures)
