-- `profiles::first_bad_route` meets its contract: every route passed keeps the profile. Assumes nothing.
use lib.Dec.{eqb}
use Rattle.paper.specs.Profiles.{route_broken}
use Rattle.paper.proofs.LoopLaws.{Passed}
use Rattle.lists.specs.Listed.{list_as}
use Rattle.profiles.specs.Profiles.{profile_of}
use Rattle.profiles.proofs.first_bad_route.Given as goal

abbrev pub invariant-loop-r : goal.invariant-loop-r
invariant-loop-r l = Passed (λ j. eqb (route_broken (profile_of l.profile) (list_as l.list) j) 0) l.list.counts.routes l.r
