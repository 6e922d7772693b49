use Rattle.io.specs.Counts.{IsPrefixLen}
use Rattle.remedies.proofs.put_blocks.Given as goal

abbrev pub invariant-loop-k : goal.invariant-loop-k
invariant-loop-k l = IsPrefixLen l.at l.sheet
