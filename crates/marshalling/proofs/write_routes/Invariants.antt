-- `marshalling::write_routes` meets its contract: the routes passed are written and counted. Assumes nothing.
use mathlib.Core.Path.{◌≡◌}
use Rattle.paper.specs.First.{count}
use Rattle.paper.specs.Marshalling.{route_put, live}
use Rattle.paper.proofs.PutsLaws.{PutSoFar}
use Rattle.lists.specs.Listed.{list_as}
use Rattle.marshalling.proofs.write_routes.Given as goal

abbrev pub invariant-loop-r : goal.invariant-loop-r
invariant-loop-r l = let of = list_as l.list in
    (l.lives ≡ count (live of l.store l.clock) l.r) × (PutSoFar (route_put of l.store l.clock) l.initial.bus l.r l.bus)
