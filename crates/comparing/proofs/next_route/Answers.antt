-- `comparing::next_route` meets its contract: at every destination passed nothing is told. Assumes nothing.
use borrow.Author.Rules.{rules}
use mathlib.Core.Path.{◌≡◌}
use native.Mathlib.Omega.{arith}
use Rattle.paper.specs.Answer.{found}
use Rattle.paper.specs.Comparing.{tells, routes_of, route_keys, route_change, route_changed, next_route}
use Rattle.lists.specs.Listed.{list_as}
use Rattle.pairing.specs.Pairing.{pair_of}
use Rattle.comparing.specs.Comparing.{PairThere, paired_routes}
use Rattle.comparing.proofs.Laws.{first_told_is, route_met, route_untold}
use Rattle.comparing.proofs.next_route.Goals as goal

pub first_told-requires-clause-told : goal.first_told-requires-clause-told
first_told-requires-clause-told c = λ key p m.
    let a = list_as c.args.a.now in
    let b = list_as c.args.b.now in
    let e : found (pair_of p) ≡ paired_routes a b key = search rules in
    let w = route_met a b key (pair_of p) e in
    let there : PairThere (routes_of a) (routes_of b) (pair_of p) = w.there in
    (search rules, w.least, omega (arith, w.small))

pub returns : goal.returns
unfolding next_route paired_routes
returns c =
    let a = list_as c.args.a.now in
    let b = list_as c.args.b.now in
    first_told_is (routes_of a) (routes_of b) route_keys (λ q. tells (route_change a b q)) (route_untold a b) (route_changed a b) _ _ _
    (λ key p m. search rules) (λ key m. search rules) (λ p o h m. search rules) _ c.first_told.ensures
