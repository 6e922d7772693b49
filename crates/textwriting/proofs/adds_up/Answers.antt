use native.Mathlib.Omega.{arith}
use Rattle.textwriting.proofs.Laws.{adds_over}
use Rattle.textwriting.proofs.adds_up.Goals as goal

pub returns-then-left-size : goal.returns-then-left-size
returns-then-left-size c =
    adds_over _ _ _ _ c.loop-size.invariant (omega arith) (omega (arith, c.if-left-size.true))
