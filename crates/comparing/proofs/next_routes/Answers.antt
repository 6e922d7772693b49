-- `comparing::next_routes` meets its contract. Assumes nothing.
use borrow.Author.Rules.{rules}
use Rattle.finding.proofs.Laws.{kept_as}
use Rattle.pairing.proofs.Laws.{next_end, next_is}
use Rattle.comparing.specs.Comparing.{paired_routes}
use Rattle.comparing.proofs.Laws.{routes_rising}
use Rattle.comparing.proofs.next_routes.Goals as goal

pub returns-then-key-ge-PAST_ROUTES : goal.returns-then-key-ge-PAST_ROUTES
unfolding paired_routes
returns-then-key-ge-PAST_ROUTES c =
    let s = c.args in
    next_end _ _ _ (routes_rising _ (kept_as s.a.now)) (routes_rising _ (kept_as s.b.now)) _ _ _ c.route_from-g.ensures c.route_from-h.ensures _
    c.min-key.ensures (search rules)

pub returns : goal.returns
unfolding paired_routes
returns c =
    let s = c.args in
    next_is _ _ _ (routes_rising _ (kept_as s.a.now)) (routes_rising _ (kept_as s.b.now)) _ _ _ c.route_from-g.ensures c.route_from-h.ensures _
    c.min-key.ensures (search rules) _ _ c.at_key-first.ensures c.at_key-second.ensures
