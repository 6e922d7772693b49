-- `marshalling::write_routes` meets its contract: the routes passed are written and counted. Assumes nothing.
use mathlib.Core.Path.{◌≡◌, refl, ap, ◌∙◌}
use mathlib.Core.Bool.{true}
use native.Mathlib.Omega.{arith}
use Rattle.paper.specs.First.{count}
use Rattle.paper.specs.Marshalling.{marshalled, live}
use Rattle.paper.proofs.FirstLaws.{count_le, count_more}
use Rattle.paper.proofs.PutsLaws.{none_put, one_put, all_put}
use Rattle.lists.specs.Listed.{list_as}
use Rattle.marshalling.proofs.Laws.{one_more}
use Rattle.marshalling.proofs.write_routes.Goals as goal

pub loop-r-init : goal.loop-r-init
unfolding count
loop-r-init c = (refl, none_put _ _)

pub overflow_add-lives : goal.overflow_add-lives
overflow_add-lives c =
    let a = c.args in
    let is_live = live (list_as a.list.now) a.store.now a.clock in
    omega (arith, c.loop-r.invariant.0, count_le is_live c.loop-r.r, c.write_route-lives.ensures.lives, one_more (is_live c.loop-r.r), a.list.now.laid.routes.opens.within)

pub loop-r-preserved : goal.loop-r-preserved
loop-r-preserved c = (
  rw c.write_route-lives.ensures.lives (count_more _ _ _ c.loop-r.invariant.0),
  one_put _ _ c.loop-r.r c.loop-r.bus _ true _ _ _ c.loop-r.invariant.1 c.write_route-lives.ensures.octets refl refl refl refl,
)

pub returns : goal.returns
unfolding marshalled
returns c =
    let e : c.loop-r.r ≡ c.args.list.now.counts.routes = omega arith in
    record { lives = c.loop-r.invariant.0 ∙ ap (count _) e; octets = all_put _ _ _ c.loop-r.r _ e c.loop-r.invariant.1 }
