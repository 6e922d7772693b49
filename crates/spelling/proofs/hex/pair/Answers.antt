-- `spelling::hex::pair` meets its contract. Assumes nothing.
use native.Mathlib.Omega.{arith}
use borrow.Author.Tests.{lt-ltb, le-ltb}
use Rattle.spelling.specs.Hex.{value_of, pair_of}
use Rattle.spelling.proofs.hex.pair.Goals as goal

pub returns-then-high-gt15 : goal.returns-then-high-gt15
unfolding pair_of
returns-then-high-gt15 c = let a = c.args in (simp (lt-ltb 15 (value_of a.x) (omega arith)), omega arith)

pub returns-then-low-gt15 : goal.returns-then-low-gt15
unfolding pair_of
returns-then-low-gt15 c = let a = c.args in (simp (le-ltb 15 (value_of a.x) (omega arith), lt-ltb 15 (value_of a.y) (omega arith)), omega arith)

pub returns : goal.returns
unfolding pair_of
returns c = let a = c.args in (simp (le-ltb 15 (value_of a.x) (omega arith), le-ltb 15 (value_of a.y) (omega arith)) (omega arith), omega arith)
