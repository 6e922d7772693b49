-- `saying::line::say` meets its contract: the line stays within its room at each turn. Assumes nothing.
use Rattle.saying.specs.Lines.{InRoom}
use Rattle.saying.proofs.line.say.Given as goal

abbrev pub invariant-loop-octet : goal.invariant-loop-octet
invariant-loop-octet l = InRoom l.fn.line.at l.l.at
