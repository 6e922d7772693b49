-- `spelling::read::tail` meets its contract. Assumes nothing.
use native.Mathlib.Omega.{arith}
use borrow.Author.Tests.{lt-ltb, le-ltb}
use Rattle.spelling.specs.Reading.{tail_of}
use Rattle.spelling.proofs.read.tail.Goals as goal

pub returns-then-x-lt128 : goal.returns-then-x-lt128
unfolding tail_of
returns-then-x-lt128 c = (simp (lt-ltb _ _ c.if-x-lt128.true), omega arith)

pub returns-then-x-lt192 : goal.returns-then-x-lt192
unfolding tail_of
returns-then-x-lt192 c = (simp (le-ltb _ _ c.if-x-lt128.false, lt-ltb _ _ c.if-x-lt192.true), omega arith)

pub returns : goal.returns
unfolding tail_of
returns c = (simp (le-ltb _ _ c.if-x-lt128.false, le-ltb _ _ c.if-x-lt192.false), omega arith)
