-- `comparing::route_from` meets its contract: every route passed starts before. Assumes nothing.
use Prim.Native.Nat.{ℕ, ◌<◌}
use Rattle.lists.specs.Listed.{list_as}
use Rattle.comparing.proofs.route_from.Given as goal

abbrev pub invariant-loop-r : goal.invariant-loop-r
invariant-loop-r l = (k : ℕ) → k < l.r → ((list_as l.list).route k).start < l.from
