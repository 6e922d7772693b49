-- `lists::first_bad_route` meets its contract. Assumes nothing.
use mathlib.Core.Path.{sym, ap, ◌∙◌}
use mathlib.Core.Bool.{not}
use borrow.Author.Rules.{rules}
use borrow.Author.Tests.{not-false}
use Rattle.paper.specs.SignalList.{Route, route_at}
use Rattle.paper.proofs.ListLaws.{route_kept}
use Rattle.paper.proofs.LoopLaws.{passed_none, passed_more, fails_here, fails_nowhere}
use Rattle.entries.specs.Signals.{signals_as}
use Rattle.entries.proofs.Laws.{before_first, before_next, route_keeps_lem}
use Rattle.lists.proofs.first_bad_route.Goals as goal

pub loop-k-init : goal.loop-k-init
loop-k-init c = (passed_none _ _, before_first)

pub returns-then-not-route_rule-clause-first : goal.returns-then-not-route_rule-clause-first
returns-then-not-route_rule-clause-first c =
    fails_here c.loop-k.invariant.0 c.loop-k-test.true
    (c.route_rule.ensures ∙ route_keeps_lem _ _ _ _ c.loop-k.invariant.1 c.route_at-r.ensures.is) (ap not c.if-not-route_rule.true)

pub route_end-past-requires : goal.route_end-past-requires
route_end-past-requires c = (
  rw (ap (λ (r : Route). r.signal) c.route_at-r.ensures.is)
      (route_kept c.args.signals.now.count (signals_as c.args.signals.now) (route_at c.args.tail.now) c.loop-k.k
      (sym (c.route_rule.ensures ∙ route_keeps_lem _ _ _ _ c.loop-k.invariant.1 c.route_at-r.ensures.is) ∙ not-false _ (ap not c.if-not-route_rule.false))).exists,
  search rules,
)

pub loop-k-preserved : goal.loop-k-preserved
loop-k-preserved c = (
  passed_more c.loop-k.invariant.0 c.loop-k-test.true
      (c.route_rule.ensures ∙ route_keeps_lem _ _ _ _ c.loop-k.invariant.1 c.route_at-r.ensures.is) (ap not c.if-not-route_rule.false),
  before_next _ (rw (← c.route_at-r.ensures.is) c.route_end-past.ensures),
)

pub returns-clause-first : goal.returns-clause-first
returns-clause-first c = fails_nowhere c.loop-k.invariant.0 c.loop-k-test.false
