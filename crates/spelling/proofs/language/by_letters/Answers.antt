-- `spelling::language::by_letters` meets its contract. Assumes nothing.
use mathlib.Core.Path.{sym}
use Rattle.spelling.specs.Language.{by_letters}
use Rattle.spelling.proofs.language.by_letters.Goals as goal

pub returns-then-is_letter : goal.returns-then-is_letter
unfolding by_letters
returns-then-is_letter c = simp (sym c.is_letter.ensures, sym c.is_letter-2.ensures, c.if-is_letter.true)

pub returns : goal.returns
unfolding by_letters
returns c = simp (sym c.is_letter.ensures, sym c.is_letter-2.ensures, c.if-is_letter.false)
