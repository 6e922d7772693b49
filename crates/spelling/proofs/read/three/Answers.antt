-- `spelling::read::three` meets its contract. Assumes nothing.
use mathlib.Core.Path.{◌∙◌}
use native.Mathlib.Omega.{arith}
use borrow.Author.Rules.{rules}
use borrow.Author.Tests.{lt-ltb, le-ltb}
use Rattle.spelling.specs.Reading.{tail_of, three_of}
use Rattle.spelling.proofs.Laws.{three_is, three_bad}
use Rattle.spelling.proofs.read.three.Goals as goal

pub returns-then-y-gt63 : goal.returns-then-y-gt63
unfolding three_of
returns-then-y-gt63 c = let a = c.args in c.none.ensures ∙ simp (lt-ltb 63 (tail_of a.b) (omega arith))

pub returns-then-z-gt63 : goal.returns-then-z-gt63
unfolding three_of
returns-then-z-gt63 c = let a = c.args in c.none-then-z-gt63.ensures ∙ simp (le-ltb 63 (tail_of a.b) (omega arith), lt-ltb 63 (tail_of a.c) (omega arith))

pub returns-then-in_three : goal.returns-then-in_three
returns-then-in_three c =
    let a = c.args in
    c.is.ensures ∙ three_is a.a a.b a.c _ _ c.tail-y.ensures.0 c.tail-z.ensures.0 (search rules) (search rules) _ c.in_three.ensures c.if-in_three.true

pub returns : goal.returns
returns c =
    let a = c.args in
    c.none-2.ensures ∙ three_bad a.a a.b a.c _ _ c.tail-y.ensures.0 c.tail-z.ensures.0 (search rules) (search rules) _ c.in_three.ensures c.if-in_three.false
