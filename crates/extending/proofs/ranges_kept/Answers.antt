use Prim.Native.Nat.{◌<◌}
use mathlib.Core.Path.{ap, ◌∙◌}
use mathlib.Core.Bool.{not}
use native.Mathlib.Omega.{arith}
use Rattle.paper.specs.SignalList.{Code}
use Rattle.paper.proofs.LoopLaws.{not_all_here, passes_on}
use Rattle.lists.specs.Listed.{list_as}
use Rattle.finding.proofs.Laws.{kept_as}
use Rattle.extending.specs.Extending.{range_kept, ranges_kept}
use Rattle.extending.proofs.Laws.{entry_before, entry_past, entry_within}
use Rattle.extending.proofs.ranges_kept.Goals as goal

pub loop-e-init : goal.loop-e-init
loop-e-init c =
    let own = c.requires.first in
    record { within = omega (arith, own.ordered, own.most); each = entry_before (list_as c.args.a.now) (list_as c.args.b.now) _ _ _ _ own }

pub range_kept-requires-clause-ordered : goal.range_kept-requires-clause-ordered
range_kept-requires-clause-ordered c =
    let is = c.code-c.ensures.is in
    let there : c.loop-e.e < c.args.a.now.counts.codes = omega (arith, c.requires.first.most) in
    (c.code-c.ensures.low_small, omega (arith, ap (λ (x : Code). x.low) is, ap (λ (x : Code). x.high) is, ((kept_as c.args.a.now).code _ there).range))

pub returns-then-not-range_kept : goal.returns-then-not-range_kept
unfolding ranges_kept
returns-then-not-range_kept c =
    let s = c.args in
    not_all_here c.loop-e.invariant (omega (arith, c.requires.first.most))
    (c.range_kept.ensures
    ∙ ap (λ (x : Code). range_kept (list_as s.b.now) s.j x.low x.high) c.code-c.ensures.is
    ∙ entry_within (list_as s.a.now) (list_as s.b.now) _ _ _ _ c.requires.first _ c.loop-e.auto.e c.loop-e-test.true)
    (ap not c.if-not-range_kept.true)

pub returns : goal.returns
unfolding ranges_kept
returns c =
    passes_on c.loop-e.invariant (λ g ge lt. entry_past (list_as c.args.a.now) (list_as c.args.b.now) _ _ _ _ c.requires.first g (omega arith) lt)
