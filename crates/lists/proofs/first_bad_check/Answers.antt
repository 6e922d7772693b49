use Rattle.paper.proofs.LoopLaws.{passed_none, passed_more, fails_here, fails_nowhere}
use mathlib.Core.Bool.{not}
use mathlib.Core.Path.{ap}
use Rattle.lists.proofs.first_bad_check.Goals as goal

pub returns-then-not-check_rule-clause-first : goal.returns-then-not-check_rule-clause-first
returns-then-not-check_rule-clause-first c =
    let t = c in
    fails_here t.loop-k.invariant t.loop-k-test.true c.check_rule.ensures (ap not c.if-not-check_rule.true)

pub loop-k-preserved : goal.loop-k-preserved
loop-k-preserved c =
    let t = c in
    passed_more t.loop-k.invariant t.loop-k-test.true c.check_rule.ensures (ap not c.if-not-check_rule.false)

pub returns-clause-first : goal.returns-clause-first
returns-clause-first c = fails_nowhere c.loop-k.invariant c.loop-k-test.false

pub loop-k-init : goal.loop-k-init
loop-k-init c =
    passed_none _ _
