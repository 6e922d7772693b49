-- `composing::first_bad_value` meets its contract. Assumes nothing.
use mathlib.Core.Path.{ap}
use mathlib.Core.Bool.{not}
use Rattle.paper.proofs.LoopLaws.{fails_here}
use Rattle.composing.proofs.first_bad_value.Goals as goal

pub returns-then-not-value_fits : goal.returns-then-not-value_fits
returns-then-not-value_fits c = fails_here c.loop-k.invariant.0 c.loop-k-test.true c.value_fits.ensures (ap not c.if-not-value_fits.true)
