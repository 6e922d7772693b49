-- `spelling::read::keep` meets its contract. Assumes nothing.
use mathlib.Core.Path.{◌∙◌}
use borrow.Author.Tests.{lt-ltb, le-ltb}
use Rattle.spelling.specs.Reading.{kept}
use Rattle.spelling.proofs.read.keep.Goals as goal

pub returns-then-n-lt128 : goal.returns-then-n-lt128
unfolding kept
returns-then-n-lt128 c = c.write16.ensures ∙ simp (lt-ltb _ _ c.if-n-lt128.true)

pub returns-else-n-lt128 : goal.returns-else-n-lt128
unfolding kept
returns-else-n-lt128 c = simp (le-ltb _ _ c.if-n-lt128.false)
