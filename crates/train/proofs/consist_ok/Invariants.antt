-- `train::consist_ok` meets its contract. Assumes nothing.
use mathlib.Core.Path.{◌≡◌}
use mathlib.Core.Bool.{Bool}
use mathlib.Core.List.{List, map}
use Prim.Native.Nat.{ℕ}
use lib.ListN.{get_or}
use Rattle.paper.specs.First.{all, count}
use Rattle.paper.specs.Train.{no_vehicle, led_rule}
use Rattle.train.specs.Marks.{vehicle_of}
use Rattle.train.proofs.consist_ok.Given as goal

abbrev pub leads : List ℕ → ℕ → Bool
leads marks k = (get_or (map vehicle_of marks) k no_vehicle).leading

abbrev pub obeys : List ℕ → ℕ → Bool
obeys marks k = led_rule (get_or (map vehicle_of marks) k no_vehicle)

abbrev pub invariant-loop-m : goal.invariant-loop-m
invariant-loop-m l = (l.leading ≡ count (leads l.marks) l.m-index) × (l.led ≡ all (obeys l.marks) l.m-index)
