use mathlib.Core.Path.{ap}
use Rattle.paper.specs.SignalList.{Route}
use Rattle.finding.proofs.Laws.{kept_as}
use Rattle.comparing.proofs.Laws.{routes_rising, reaches_here}
use Rattle.comparing.proofs.route_from.Goals as goal

pub returns-then-from-start : goal.returns-then-from-start
returns-then-from-start c =
    reaches_here _ _ (routes_rising _ (kept_as c.args.list.now)) _ _ c.loop-r.invariant c.loop-r-test.true _
    (ap (λ (x : Route). x.start) c.route-start.ensures.is) c.if-from-start.true
