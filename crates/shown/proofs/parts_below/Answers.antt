-- `shown::parts_below` meets its contract, as `parts` does. Assumes nothing.
use mathlib.Core.Bool.{true}
use lib.Ieee.{of_bits, neg}
use Rattle.shown.proofs.Scales.{casts, quotient}
use Rattle.shown.proofs.parts_below.Goals as goal

pub int_to_float-result : goal.int_to_float-result
int_to_float-result c = casts c.args.n c.requires

pub returns : goal.returns
unfolding of_bits neg
returns c = quotient true c.args.n 12 c.requires
