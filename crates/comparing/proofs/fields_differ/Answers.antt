-- `comparing::fields_differ` meets its contract. Assumes nothing.
use mathlib.Core.Path.{refl}
use Rattle.comparing.specs.Comparing.{numbers_differ}
use Rattle.comparing.proofs.fields_differ.Goals as goal

pub returns : goal.returns
unfolding numbers_differ
returns c = refl
