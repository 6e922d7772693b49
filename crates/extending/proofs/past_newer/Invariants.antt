-- `extending::past_newer` meets its contract. Assumes nothing.
use Prim.Native.Nat.{ℕ, ◌≤◌, ◌<◌}
use Rattle.paper.specs.Pairs.{signal_key}
use Rattle.lists.specs.Listed.{list_as}
use Rattle.extending.proofs.past_newer.Given as goal

abbrev pub invariant-loop-k : goal.invariant-loop-k
invariant-loop-k l = (g : ℕ) → l.j ≤ g → g < l.k → (signal_key ((list_as l.list).signal g) < l.key) × (l.version < ((list_as l.list).signal g).since)
