-- `lists::first_bad_code` meets its contract. Assumes nothing.
use mathlib.Core.Path.{ap, ◌∙◌}
use mathlib.Core.Bool.{not}
use Rattle.paper.proofs.LoopLaws.{passed_none, passed_more, fails_here, fails_nowhere}
use Rattle.entries.specs.Entries.{code_past}
use Rattle.entries.proofs.Laws.{before_first, before_next, code_keeps_lem}
use Rattle.lists.proofs.first_bad_code.Goals as goal

pub loop-k-init : goal.loop-k-init
loop-k-init c = (passed_none _ _, before_first)

pub returns-then-not-code_rule-clause-first : goal.returns-then-not-code_rule-clause-first
returns-then-not-code_rule-clause-first c =
    fails_here c.loop-k.invariant.0 c.loop-k-test.true
    (c.code_rule.ensures ∙ code_keeps_lem _ _ _ _ c.loop-k.invariant.1 c.code_at-c.ensures.is c.code_at-c.ensures.low_small) (ap not c.if-not-code_rule.true)

pub loop-k-preserved : goal.loop-k-preserved
loop-k-preserved c = (
  passed_more c.loop-k.invariant.0 c.loop-k-test.true
      (c.code_rule.ensures ∙ code_keeps_lem _ _ _ _ c.loop-k.invariant.1 c.code_at-c.ensures.is c.code_at-c.ensures.low_small) (ap not c.if-not-code_rule.false),
  before_next _ (c.code_past-least.ensures ∙ ap code_past c.code_at-c.ensures.is),
)

pub returns-clause-first : goal.returns-clause-first
returns-clause-first c = fails_nowhere c.loop-k.invariant.0 c.loop-k-test.false
