-- `textwriting::write_area` meets its contract. Assumes nothing.
use mathlib.Core.Path.{◌≡◌}
use mathlib.Core.List.{[]}
use Prim.Native.Nat.{ℕ, ◌*◌, ◌≤◌, ◌<◌}
use lib.ListN.{length, get_or, take, drop}
use Rattle.paper.specs.Remedies.{area_to}
use Rattle.textwriting.proofs.write_area.Given as goal

abbrev pub invariant-loop-k : goal.invariant-loop-k
invariant-loop-k l = (l.at ≡ area_to l.lengths l.k) × (l.at ≤ 65535 * l.k) × (length l.texts ≡ 8)
    × ((j : ℕ) → j < l.k → (get_or l.texts j (record { ref_ptr = (0, 0); now = [] })).now ≡ take (get_or l.lengths j 0) (drop (area_to l.lengths j) l.area))
