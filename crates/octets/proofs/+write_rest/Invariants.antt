-- The measure is the width, as in `read_rest`. Assumes nothing.
use Rattle.octets.proofs.+write_rest.Given as goal

abbrev pub decreases-write_rest : goal.decreases-write_rest
decreases-write_rest l = l.width
