-- `textwriting::adds_up` meets its contract. Assumes nothing.
use mathlib.Core.Path.{◌≡◌}
use Prim.Native.Nat.{◌+◌}
use Rattle.paper.specs.Remedies.{area_to}
use Rattle.textwriting.proofs.adds_up.Given as goal

abbrev pub invariant-loop-size : goal.invariant-loop-size
invariant-loop-size l = l.left + area_to l.lengths l.size-index ≡ l.octets
