use Rattle.std.proofs.Common.{◌≡◌, length}
use Rattle.io.specs.Counts.{IsPrefixLen}
use Rattle.files.proofs.path.target_of.Given as goal

abbrev pub invariant-loop : goal.invariant-loop
invariant-loop g l = IsPrefixLen l.n l.path × (length l.path ≡ length l.initial.path)
