-- `comparing::first_told` meets its contract. Assumes nothing.
use Prim.Native.Nat.{◌-◌}
use Rattle.paper.specs.Pairs.{signal_keys}
use Rattle.comparing.specs.Comparing.{Passed}
use Rattle.comparing.proofs.first_told.Given as goal

abbrev pub invariant-loop-p : goal.invariant-loop-p
invariant-loop-p g l = Passed (goal.N-post g l.next) (goal.T-post g l.told) l.from l.key

abbrev pub decreases-loop-p : goal.decreases-loop-p
decreases-loop-p g l = signal_keys - l.key
