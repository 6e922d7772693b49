-- `comparing::codes_compared` meets its contract. Assumes nothing.
use mathlib.Core.Logic.{inl, inr}
use Rattle.comparing.proofs.Laws.{compared_unlike, compared_wide, compared_all}
use Rattle.comparing.proofs.codes_compared.Goals as goal

pub returns-then-v-width : goal.returns-then-v-width
returns-then-v-width c =
    elim c.then-v-width.either [
      | inl ne ↦ compared_unlike _ _ _ _ c.width-v.ensures.is c.width.ensures.is ne
      | inr w ↦ compared_wide _ _ _ _ c.width-v.ensures.is c.width.ensures.is w.1
    ]

pub returns : goal.returns
returns c = compared_all _ _ _ _ c.width-v.ensures.is c.width.ensures.is c.if-v-width.false c.if-v-gt16.false
