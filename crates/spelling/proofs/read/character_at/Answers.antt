-- `spelling::read::character_at` meets its contract. Assumes nothing.
use mathlib.Core.Path.{◌∙◌}
use borrow.Author.Tests.{le-leb, lt-leb}
use Rattle.spelling.specs.Reading.{character_at}
use Rattle.spelling.proofs.read.character_at.Goals as goal

pub returns-then-s-at : goal.returns-then-s-at
unfolding character_at
returns-then-s-at c = c.none.ensures ∙ simp (le-leb _ _ c.if-s-at.true)

pub returns : goal.returns
unfolding character_at
returns c =
    c.character_of.ensures
    ∙ simp (lt-leb _ _ c.if-s-at.false, c.after.ensures, c.after-2.ensures, c.after-3.ensures, c.after-4.ensures, c.after-5.ensures)
