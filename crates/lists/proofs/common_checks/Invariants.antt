-- `lists::common_checks` meets its contract: every check passed lies below 320. Assumes nothing.
use Prim.Native.Nat.{ℕ, ◌-◌, ◌≤◌, ◌<◌}
use Rattle.paper.specs.SignalList.{check_at}
use Rattle.lists.proofs.common_checks.Given as goal

abbrev pub invariant-loop-j : goal.invariant-loop-j
invariant-loop-j l = (l.j ≤ l.checks) × ((m : ℕ) → m < l.j → check_at l.list m < 320)

abbrev pub decreases-loop-j : goal.decreases-loop-j
decreases-loop-j l = l.checks - l.j
