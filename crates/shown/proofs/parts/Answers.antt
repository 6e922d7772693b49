-- `shown::parts` meets its contract: the cast loses nothing, nor does the quotient by 2 ^ 12. Assumes nothing.
use mathlib.Core.Bool.{false}
use lib.Ieee.{of_bits}
use Rattle.shown.proofs.Scales.{casts, quotient}
use Rattle.shown.proofs.parts.Goals as goal

pub int_to_float-result : goal.int_to_float-result
int_to_float-result c = casts c.args.n c.requires

pub returns : goal.returns
unfolding of_bits
returns c = quotient false c.args.n 12 c.requires
