-- The measure is the width: the last octet of the field is taken off. Assumes nothing.
use Rattle.octets.proofs.+read_rest.Given as goal

abbrev pub decreases-read_rest : goal.decreases-read_rest
decreases-read_rest l = l.width
