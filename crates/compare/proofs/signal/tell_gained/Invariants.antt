-- `compare::signal::tell_gained` meets its contract: the line stays within its room at each turn. Assumes nothing.
use Rattle.saying.specs.Lines.{InRoom}
use Rattle.compare.proofs.signal.tell_gained.Given as goal

abbrev pub invariant-loop-r : goal.invariant-loop-r
invariant-loop-r l = InRoom l.fn.line.at l.l.at
