-- `forms::any_serial` meets its contract: every serial number passed is 0. Assumes nothing.
use Prim.Native.Nat.{ℕ, ◌<◌}
use mathlib.Core.Path.{◌≡◌}
use Rattle.paper.specs.SignalList.{signals_part}
use Rattle.paper.specs.Forms.{serial_at}
use Rattle.lists.specs.Judged.{counts_of}
use Rattle.forms.proofs.any_serial.Given as goal

abbrev pub invariant-loop-k : goal.invariant-loop-k
invariant-loop-k l = (j : ℕ) → j < l.k → serial_at l.n.size (signals_part l.list (counts_of l.n)) j ≡ 0
