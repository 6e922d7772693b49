-- `texts::start_of` meets its contract. Assumes nothing.
use mathlib.Core.Path.{◌≡◌}
use Prim.Native.Nat.{◌+◌, ◌*◌, ◌≤◌}
use Rattle.paper.specs.Remedies.{start}
use Rattle.texts.proofs.start_of.Given as goal

abbrev pub invariant-loop : goal.invariant-loop
invariant-loop l = (l.counter ≤ l.k) × (l.at ≤ 30 + 65535 * l.counter) × (l.at ≡ start l.telegram l.counter)
