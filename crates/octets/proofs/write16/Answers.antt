use native.Mathlib.Omega.{arith}
use lib.ListN.{length-set}
use Rattle.paper.specs.Octets.{octets_of}
use Rattle.paper.proofs.NumberLaws.{over_two}
use Rattle.octets.proofs.write16.Goals as goal

pub bounds-d-at-2 : goal.bounds-d-at-2
bounds-d-at-2 c = simp length-set (omega arith)

pub returns : goal.returns
unfolding octets_of
returns c = over_two c.args.d.now c.args.at _ _ (omega arith)
