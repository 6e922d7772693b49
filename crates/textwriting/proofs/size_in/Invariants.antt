-- `textwriting::size_in` meets its contract. Assumes nothing.
use mathlib.Core.Path.{◌≡◌}
use mathlib.Core.List.{[], map}
use Prim.Native.Nat.{◌+◌}
use Rattle.paper.specs.Remedies.{blocks_of, size_to}
use Rattle.textwriting.proofs.size_in.Given as goal

abbrev pub invariant-loop-text : goal.invariant-loop-text
invariant-loop-text l = l.left + size_to (blocks_of [] (map (λ x. x.now) l.texts)) l.text-index ≡ l.room
