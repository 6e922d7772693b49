use Rattle.std.proofs.Common.{◌≤◌}
use Rattle.files.proofs.lock.wait.Given as goal

abbrev pub invariant-loop : goal.invariant-loop
invariant-loop g l = l.same ≤ 250
