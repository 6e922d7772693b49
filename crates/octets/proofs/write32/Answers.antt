use mathlib.Core.Path.{◌∙◌}
use native.Mathlib.Omega.{arith}
use Rattle.paper.specs.Octets.{octets_of}
use Rattle.paper.proofs.NumberLaws.{over-over, octets_of_split}
use Rattle.octets.proofs.write32.Goals as goal

pub returns : goal.returns
unfolding octets_of
returns c =
    let second = c in
    let first = second in
    second.write16-2.ensures ∙ rw (first.write16.ensures, octets_of_split 2 2) (over-over _ _ _ _ (omega arith))
