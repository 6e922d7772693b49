use Rattle.paper.specs.Profiles.{route_broken}
use Rattle.paper.proofs.LoopLaws.{fails_nowhere}
use Rattle.lists.specs.Listed.{list_as}
use Rattle.profiles.specs.Profiles.{profile_of}
use Rattle.profiles.proofs.Laws.{breaks_here}
use Rattle.profiles.proofs.first_bad_route.Goals as goal

pub returns-then-route_broken-ne0 : goal.returns-then-route_broken-ne0
returns-then-route_broken-ne0 c =
    breaks_here (route_broken (profile_of c.args.profile) (list_as c.args.list.now)) c.loop-r.invariant c.loop-r-test.true c.route_broken.ensures
    c.if-route_broken-ne0.true

pub returns : goal.returns
returns c = fails_nowhere c.loop-r.invariant c.loop-r-test.false
