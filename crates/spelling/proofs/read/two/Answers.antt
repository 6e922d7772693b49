-- `spelling::read::two` meets its contract. Assumes nothing.
use mathlib.Core.Path.{◌∙◌}
use native.Mathlib.Omega.{arith}
use borrow.Author.Tests.{lt-ltb, le-ltb}
use Rattle.spelling.specs.Reading.{tail_of, two_of}
use Rattle.spelling.proofs.read.two.Goals as goal

pub returns-then-a-lt194 : goal.returns-then-a-lt194
unfolding two_of
returns-then-a-lt194 c = c.none.ensures ∙ simp (lt-ltb _ _ c.if-a-lt194.true)

pub returns-then-y-gt63 : goal.returns-then-y-gt63
unfolding two_of
returns-then-y-gt63 c = let a = c.args in c.none-then-y-gt63.ensures ∙ simp (le-ltb _ _ c.if-a-lt194.false, lt-ltb 63 (tail_of a.b) (omega arith))

pub returns : goal.returns
unfolding two_of
returns c = let a = c.args in c.is.ensures ∙ simp (le-ltb _ _ c.if-a-lt194.false, le-ltb 63 (tail_of a.b) (omega arith), c.tail-y.ensures.0)
