use mathlib.Core.Path.{◌∙◌}
use native.Mathlib.Omega.{arith}
use Rattle.paper.specs.Octets.{octets_of}
use Rattle.paper.proofs.NumberLaws.{over-over, octets_of_split}
use Rattle.octets.proofs.Laws.{octets_of-mod}
use Rattle.octets.proofs.write64.Goals as goal

pub returns : goal.returns
unfolding octets_of
returns c =
    let second = c in
    let first = second in
    second.write32-2.ensures ∙ rw (first.write32.ensures, octets_of-mod 4, octets_of_split 4 4) (over-over _ _ _ _ (omega arith))
