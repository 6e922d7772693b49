-- `spelling::spell::put_character` meets its contract. Assumes nothing.
use mathlib.Core.Path.{sym, ◌∙◌}
use borrow.Author.Tests.{eq-eqb, ne_eqb}
use Rattle.spelling.specs.Spelling.{spelled}
use Rattle.spelling.proofs.Laws.{put_as}
use Rattle.spelling.proofs.spell.put_character.Goals as goal

pub returns-then-u-eq92 : goal.returns-then-u-eq92
unfolding spelled
returns-then-u-eq92 c = put_as c.put.ensures (simp (eq-eqb _ _ c.if-u-eq92.true))

pub returns-then-is_shown : goal.returns-then-is_shown
unfolding spelled
returns-then-is_shown c = put_as c.put_utf8.ensures (simp (ne_eqb _ _ c.if-u-eq92.false, sym c.is_shown.ensures ∙ c.if-is_shown.true))

pub returns : goal.returns
unfolding spelled
returns c = put_as c.put_escape.ensures (simp (ne_eqb _ _ c.if-u-eq92.false, sym c.is_shown.ensures ∙ c.if-is_shown.false))
