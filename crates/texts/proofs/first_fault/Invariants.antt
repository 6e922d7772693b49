-- `texts::first_fault` meets its contract. Assumes nothing.
use Prim.Native.Nat.{◌≤◌}
use lib.ListN.{length}
use Rattle.texts.proofs.Laws.{Judged}
use Rattle.texts.proofs.first_fault.Given as goal

abbrev pub invariant-loop : goal.invariant-loop
invariant-loop l = (l.at ≤ length l.telegram) × Judged l.telegram l.n l.at l.seen l.counter
