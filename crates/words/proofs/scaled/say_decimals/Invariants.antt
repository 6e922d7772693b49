use Rattle.std.proofs.Common.{◌<◌}
use Rattle.saying.specs.Lines.{InRoom}
use Rattle.words.proofs.scaled.say_decimals.Given as goal

abbrev pub invariant-loop : goal.invariant-loop
invariant-loop l = (l.left < 4096) × InRoom l.fn.line.at l.l.at
