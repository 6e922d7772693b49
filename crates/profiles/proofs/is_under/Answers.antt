use mathlib.Core.Bool.{not}
use mathlib.Core.Path.{ap}
use native.Mathlib.Omega.{arith}
use Rattle.paper.proofs.LoopLaws.{not_all_here, passes_on}
use Rattle.profiles.proofs.is_under.Goals as goal

pub returns-then-not-is_at : goal.returns-then-not-is_at
returns-then-not-is_at c = not_all_here c.loop-i.invariant c.loop-i-test.true c.is_at.ensures (ap not c.if-not-is_at.true)

pub returns : goal.returns
returns c = passes_on c.loop-i.invariant (λ j ge lt. absurd (omega (arith, c.loop-i-test.false)))
