-- `saying::line::pad` meets its contract: the line stays within its room at each turn. Assumes nothing.
use Rattle.saying.specs.Lines.{InRoom}
use Rattle.saying.proofs.line.pad.Given as goal

abbrev pub invariant-loop : goal.invariant-loop
invariant-loop l = InRoom l.fn.line.at l.l.at
