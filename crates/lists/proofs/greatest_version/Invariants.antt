-- `lists::greatest_version` meets its contract: the version is the greatest since-version of the signals passed. Assumes nothing.
use Prim.Native.Nat.{◌≤◌}
use mathlib.Core.Path.{◌≡◌}
use Rattle.paper.specs.SignalList.{greatest_since}
use Rattle.entries.specs.Signals.{signals_as}
use Rattle.lists.proofs.greatest_version.Given as goal

abbrev pub invariant-loop-k : goal.invariant-loop-k
invariant-loop-k l = (l.k ≤ l.signals.count) × (l.version ≡ greatest_since l.k (signals_as l.signals))
