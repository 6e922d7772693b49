-- `spelling::read::character_of` meets its contract. Assumes nothing.
use mathlib.Core.Path.{◌∙◌}
use borrow.Author.Tests.{lt-ltb, le-ltb, eq-eqb, ne_eqb}
use Rattle.spelling.specs.Reading.{character_by}
use Rattle.spelling.proofs.read.character_of.Goals as goal

pub returns-then-a-eq92 : goal.returns-then-a-eq92
unfolding character_by
returns-then-a-eq92 c = c.escape.ensures ∙ simp (eq-eqb _ _ c.if-a-eq92.true)

pub returns-then-a-lt128 : goal.returns-then-a-lt128
unfolding character_by
returns-then-a-lt128 c = c.is.ensures ∙ simp (ne_eqb _ _ c.if-a-eq92.false, lt-ltb _ _ c.if-a-lt128.true)

pub returns-then-a-lt224 : goal.returns-then-a-lt224
unfolding character_by
returns-then-a-lt224 c = c.two.ensures ∙ simp (ne_eqb _ _ c.if-a-eq92.false, le-ltb _ _ c.if-a-lt128.false, lt-ltb _ _ c.if-a-lt224.true)

pub returns-then-a-lt240 : goal.returns-then-a-lt240
unfolding character_by
returns-then-a-lt240 c = c.three.ensures ∙ simp (ne_eqb _ _ c.if-a-eq92.false, le-ltb _ _ c.if-a-lt128.false, le-ltb _ _ c.if-a-lt224.false, lt-ltb _ _ c.if-a-lt240.true)

pub returns : goal.returns
unfolding character_by
returns c = c.four.ensures ∙ simp (ne_eqb _ _ c.if-a-eq92.false, le-ltb _ _ c.if-a-lt128.false, le-ltb _ _ c.if-a-lt224.false, le-ltb _ _ c.if-a-lt240.false)
