-- `words::vehicles::say_vehicles` meets its contract: the line stays within its room at each turn. Assumes nothing.
use Rattle.saying.specs.Lines.{InRoom}
use Rattle.words.proofs.vehicles.say_vehicles.Given as goal

abbrev pub invariant-loop-v : goal.invariant-loop-v
invariant-loop-v l = InRoom l.fn.line.at l.l.at
