-- `spelling::hex::value` meets its contract. Assumes nothing.
use native.Mathlib.Omega.{arith}
use borrow.Author.Tests.{lt-ltb, le-ltb}
use Rattle.spelling.specs.Hex.{value_of}
use Rattle.spelling.proofs.hex.value.Goals as goal

pub returns-then-x-lt48 : goal.returns-then-x-lt48
unfolding value_of
returns-then-x-lt48 c = (simp (lt-ltb _ _ c.if-x-lt48.true), omega arith)

pub returns-then-x-lt58 : goal.returns-then-x-lt58
unfolding value_of
returns-then-x-lt58 c = (simp (le-ltb _ _ c.if-x-lt48.false, lt-ltb _ _ c.if-x-lt58.true), omega arith)

pub returns-then-x-lt65 : goal.returns-then-x-lt65
unfolding value_of
returns-then-x-lt65 c = (simp (le-ltb _ _ c.if-x-lt48.false, le-ltb _ _ c.if-x-lt58.false, lt-ltb _ _ c.if-x-lt65.true), omega arith)

pub returns-then-x-lt71 : goal.returns-then-x-lt71
unfolding value_of
returns-then-x-lt71 c = (simp (le-ltb _ _ c.if-x-lt48.false, le-ltb _ _ c.if-x-lt58.false, le-ltb _ _ c.if-x-lt65.false, lt-ltb _ _ c.if-x-lt71.true), omega arith)

pub returns-then-x-lt97 : goal.returns-then-x-lt97
unfolding value_of
returns-then-x-lt97 c = (simp (le-ltb _ _ c.if-x-lt48.false, le-ltb _ _ c.if-x-lt58.false, le-ltb _ _ c.if-x-lt65.false, le-ltb _ _ c.if-x-lt71.false, lt-ltb _ _ c.if-x-lt97.true), omega arith)

pub returns-then-x-lt103 : goal.returns-then-x-lt103
unfolding value_of
returns-then-x-lt103 c = (simp (le-ltb _ _ c.if-x-lt48.false, le-ltb _ _ c.if-x-lt58.false, le-ltb _ _ c.if-x-lt65.false, le-ltb _ _ c.if-x-lt71.false, le-ltb _ _ c.if-x-lt97.false, lt-ltb _ _ c.if-x-lt103.true), omega arith)

pub returns : goal.returns
unfolding value_of
returns c = (simp (le-ltb _ _ c.if-x-lt48.false, le-ltb _ _ c.if-x-lt58.false, le-ltb _ _ c.if-x-lt65.false, le-ltb _ _ c.if-x-lt71.false, le-ltb _ _ c.if-x-lt97.false, le-ltb _ _ c.if-x-lt103.false), omega arith)
