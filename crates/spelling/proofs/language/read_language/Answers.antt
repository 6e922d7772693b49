-- `spelling::language::read_language` meets its contract. Assumes nothing.
use mathlib.Core.Path.{◌∙◌}
use borrow.Author.Tests.{eq-eqb, ne_eqb}
use Rattle.spelling.specs.Language.{language_in}
use Rattle.spelling.proofs.Laws.{by_digits_lem, by_nothing}
use Rattle.spelling.proofs.language.read_language.Goals as goal

pub returns-then-word-eq2 : goal.returns-then-word-eq2
unfolding language_in
returns-then-word-eq2 c = c.by_letters.ensures ∙ simp (eq-eqb _ _ c.if-word-eq2.true)

pub returns-then-word-ne8 : goal.returns-then-word-ne8
unfolding language_in
returns-then-word-ne8 c = simp (ne_eqb _ _ c.if-word-eq2.false, ne_eqb _ _ c.if-word-ne8.true)

pub returns-then-is_mark : goal.returns-then-is_mark
returns-then-is_mark c =
    let w = c.args.word.now in
    c.by_digits.ensures ∙ by_digits_lem w c.if-word-ne8.false c.if-word-eq2.false _ _ c.is_mark.ensures c.is_mark-2.ensures c.if-is_mark.true

pub returns : goal.returns
returns c =
    let w = c.args.word.now in
    by_nothing w c.if-word-ne8.false c.if-word-eq2.false _ _ c.is_mark.ensures c.is_mark-2.ensures c.if-is_mark.false
