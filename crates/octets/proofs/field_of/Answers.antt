use Rattle.paper.specs.Octets.{field_of}
use Rattle.octets.proofs.field_of.Goals as goal

pub returns : goal.returns
unfolding field_of
returns c = c.low.ensures
