-- `spelling::language::by_digits` meets its contract. Assumes nothing.
use native.Mathlib.Omega.{arith}
use borrow.Author.Tests.{lt-ltb, le-ltb}
use Rattle.spelling.specs.Hex.{pair_of}
use Rattle.spelling.specs.Language.{by_digits}
use Rattle.spelling.proofs.language.by_digits.Goals as goal

pub returns-then-high-gt255 : goal.returns-then-high-gt255
unfolding by_digits
returns-then-high-gt255 c = let a = c.args in simp (lt-ltb 255 (pair_of a.a a.b) (omega arith))

pub returns-then-low-gt255 : goal.returns-then-low-gt255
unfolding by_digits
returns-then-low-gt255 c = let a = c.args in simp (le-ltb 255 (pair_of a.a a.b) (omega arith), lt-ltb 255 (pair_of a.c a.d) (omega arith))

pub returns : goal.returns
unfolding by_digits
returns c = let a = c.args in simp (le-ltb 255 (pair_of a.a a.b) (omega arith), le-ltb 255 (pair_of a.c a.d) (omega arith)) (omega arith)
