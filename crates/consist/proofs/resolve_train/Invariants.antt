-- The invariant: the octets so far are those of the first i entries, each at its place. Assumes nothing.
use Rattle.std.proofs.Common.{◌≡◌, length, take, map}
use Rattle.consist.specs.Vehicles.{octet_of}
use Rattle.consist.proofs.resolve_train.Given as goal

abbrev pub invariant-loop-i : goal.invariant-loop-i
invariant-loop-i l = (length l.octets ≡ 63) × (take l.i l.octets ≡ map octet_of (take l.i l.vehicles))
