-- `spelling::read::escape` meets its contract. Assumes nothing.
use mathlib.Core.Path.{◌∙◌}
use native.Mathlib.Omega.{arith}
use borrow.Author.Tests.{lt-ltb, le-ltb, eq-eqb, ne_eqb}
use Rattle.spelling.specs.Hex.{pair_of}
use Rattle.spelling.specs.Reading.{escape_of}
use Rattle.spelling.proofs.read.escape.Goals as goal

pub returns-then-b-eq92 : goal.returns-then-b-eq92
unfolding escape_of
returns-then-b-eq92 c = c.is.ensures ∙ simp (eq-eqb _ _ c.if-b-eq92.true)

pub returns-then-b-ne117 : goal.returns-then-b-ne117
unfolding escape_of
returns-then-b-ne117 c = c.none.ensures ∙ simp (ne_eqb _ _ c.if-b-eq92.false, ne_eqb _ _ c.if-b-ne117.true)

pub returns-then-high-gt255 : goal.returns-then-high-gt255
unfolding escape_of
returns-then-high-gt255 c =
    let a = c.args in
    c.none-then-high-gt255.ensures ∙ simp (ne_eqb _ _ c.if-b-eq92.false, eq-eqb _ _ c.if-b-ne117.false, lt-ltb 255 (pair_of a.v a.w) (omega arith))

pub returns-then-low-gt255 : goal.returns-then-low-gt255
unfolding escape_of
returns-then-low-gt255 c =
    let a = c.args in
    c.none-then-low-gt255.ensures
    ∙ simp (ne_eqb _ _ c.if-b-eq92.false, eq-eqb _ _ c.if-b-ne117.false, le-ltb 255 (pair_of a.v a.w) (omega arith), lt-ltb 255 (pair_of a.x a.y) (omega arith))

pub returns : goal.returns
unfolding escape_of
returns c =
    let a = c.args in
    c.is-2.ensures
    ∙ simp (ne_eqb _ _ c.if-b-eq92.false, eq-eqb _ _ c.if-b-ne117.false, le-ltb 255 (pair_of a.v a.w) (omega arith), le-ltb 255 (pair_of a.x a.y) (omega arith), c.pair-high.ensures.0, c.pair-low.ensures.0)
