-- `texts::read_remedies` meets its contract. Assumes nothing.
use mathlib.Core.Path.{sym, ◌∙◌}
use Rattle.refusals.proofs.WrittenLaws.{handed_on}
use Rattle.texts.proofs.Laws.{by_short, by_long, by_head, by_blocks}
use Rattle.texts.proofs.read_remedies.Goals as goal

pub returns-then-telegram-lt30 : goal.returns-then-telegram-lt30
returns-then-telegram-lt30 c = by_short _ c.if-telegram-lt30.true

pub returns-then-e_limit-telegram : goal.returns-then-e_limit-telegram
returns-then-e_limit-telegram c = by_long _ _ _ c.read16-code.ensures.value c.e_limit.ensures c.if-e_limit-telegram.true

pub returns-then-not-head_rule : goal.returns-then-not-head_rule
returns-then-not-head_rule c =
    by_head _ _ _ c.read16-code.ensures.value c.e_limit.ensures c.if-telegram-lt30.false c.if-e_limit-telegram.false
    (sym c.head_rule.ensures ∙ c.if-not-head_rule.true)

pub returns-in_err-first_fault : goal.returns-in_err-first_fault
returns-in_err-first_fault c =
    rw (handed_on _ _ c.from_residual.ensures) (by_blocks _ _ _ c.read16-code.ensures.value c.e_limit.ensures c.if-telegram-lt30.false c.if-e_limit-telegram.false
    (sym c.head_rule.ensures ∙ c.if-not-head_rule.false) _ (rw c.wide.ensures.0 at c.in_err-first_fault.ensures))

pub returns : goal.returns
returns c =
    rw c.read16-language.ensures.value (by_blocks _ _ _ c.read16-code.ensures.value c.e_limit.ensures c.if-telegram-lt30.false c.if-e_limit-telegram.false
    (sym c.head_rule.ensures ∙ c.if-not-head_rule.false) _ (rw c.wide.ensures.0 at c.in_ok-first_fault.ensures))
