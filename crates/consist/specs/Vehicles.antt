-- A vehicle entry of the code as the paper's vehicle, and as the mark octet of crate `train`.
use Rattle.std.specs.Prelude.{ℕ}
use Rattle.paper.specs.Train as paper
use Rattle.train.specs.Marks as marks
use Rattle.train.specs.declared.Vehicle.{Vehicle}

abbrev pub vehicle_as : Vehicle → paper.Vehicle
vehicle_as v = record { leading = v.leading; coach = v.coach; tractive = v.tractive; led = v.led; sleeping = v.sleeping }

abbrev pub octet_of : Vehicle → ℕ
octet_of v = marks.octet_of (vehicle_as v)
