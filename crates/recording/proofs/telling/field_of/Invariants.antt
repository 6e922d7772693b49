use Rattle.std.proofs.Common.{◌≡◌}
use Rattle.paper.specs.Octets.{field}
use Rattle.recording.proofs.telling.field_of.Given as goal

abbrev pub invariant-loop-i : goal.invariant-loop-i
invariant-loop-i l = l.value ≡ field l.octets l.start l.i
