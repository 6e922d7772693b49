-- `comparing::routes_differ` meets its contract: the signals that the routes name exist. Assumes nothing.
use mathlib.Core.Path.{ap}
use Rattle.paper.specs.SignalList.{Route}
use Rattle.finding.proofs.Laws.{kept_as}
use Rattle.comparing.proofs.Laws.{routes_differ_is}
use Rattle.comparing.proofs.routes_differ.Goals as goal

pub routed_key-k-requires : goal.routed_key-k-requires
routed_key-k-requires c = rw (ap (λ (x : Route). x.signal) c.route-r.ensures.is) ((kept_as c.args.a.now).route _ c.requires.0).exists

pub routed_key-l-requires : goal.routed_key-l-requires
routed_key-l-requires c = rw (ap (λ (x : Route). x.signal) c.route-t.ensures.is) ((kept_as c.args.b.now).route _ c.requires.1).exists

pub returns : goal.returns
returns c = routes_differ_is _ _ _ _ c.route-r.ensures.is c.route-t.ensures.is c.routed_key-k.ensures c.routed_key-l.ensures
