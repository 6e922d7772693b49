-- `composing::first_bad_mark` meets its contract. Assumes nothing.
use mathlib.Core.Path.{ap}
use mathlib.Core.Bool.{not}
use Rattle.paper.proofs.LoopLaws.{fails_here}
use Rattle.composing.proofs.first_bad_mark.Goals as goal

pub returns-then-not-mark_fits : goal.returns-then-not-mark_fits
returns-then-not-mark_fits c = fails_here c.loop-j.invariant c.loop-j-test.true c.mark_fits.ensures (ap not c.if-not-mark_fits.true)
