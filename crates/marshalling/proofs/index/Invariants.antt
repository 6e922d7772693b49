-- `marshalling::index` meets its contract: the starts of the signals passed are written. Assumes nothing.
use Prim.Native.Nat.{ℕ, ◌<◌}
use mathlib.Core.Path.{◌≡◌}
use lib.ListN.{length, get_or}
use Rattle.lists.specs.Listed.{list_as}
use Rattle.known.specs.Known.{From, Starts}
use Rattle.marshalling.proofs.index.Given as goal

abbrev pub invariant-loop-k : goal.invariant-loop-k
invariant-loop-k l = (From (list_as l.list) l.k l.e) × (length l.first ≡ 257) × ((g : ℕ) → g < l.k → Starts (list_as l.list) g (get_or l.first g 0))
