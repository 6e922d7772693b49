-- `spelling::read::four` meets its contract. Assumes nothing.
use mathlib.Core.Path.{refl, ◌∙◌}
use Rattle.spelling.proofs.Laws.{four_above, four_bad}
use Rattle.spelling.proofs.read.four.Goals as goal

pub returns-then-is_above : goal.returns-then-is_above
returns-then-is_above c = let a = c.args in c.none.ensures ∙ four_above a.a a.b a.c a.d _ _ _ _ c.tail-y.ensures.0 c.tail.ensures.0 c.tail-2.ensures.0 refl c.if-is_above.true

pub returns : goal.returns
returns c = let a = c.args in c.none-2.ensures ∙ four_bad a.a a.b a.c a.d _ _ _ _ c.tail-y.ensures.0 c.tail.ensures.0 c.tail-2.ensures.0 refl c.if-is_above.false
