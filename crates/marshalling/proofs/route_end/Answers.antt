-- `marshalling::route_end` meets its contract. Assumes nothing.
use Prim.Native.Nat.{ℕ, ◌+◌}
use mathlib.Core.Path.{ap, ◌∙◌}
use native.Mathlib.Omega.{arith}
use Rattle.paper.specs.SignalList.{Route}
use Rattle.lists.specs.Listed.{list_as}
use Rattle.marshalling.proofs.Laws.{route_of_list}
use Rattle.marshalling.proofs.route_end.Goals as goal

pub width-requires : goal.width-requires
width-requires c = (route_of_list c.args.list.now c.route-t.ensures.is c.requires).exists

pub returns-clause-is : goal.returns-clause-is
returns-clause-is c =
    let l = list_as c.args.list.now in
    ap (λ (w : ℕ). c.route-t.result.start + w) c.width.ensures.is ∙ ap (λ (x : Route). x.start + (l.signal x.signal).width) c.route-t.ensures.is

pub returns-clause-most : goal.returns-clause-most
returns-clause-most c = omega (arith, c.width.ensures.is, (route_of_list c.args.list.now c.route-t.ensures.is c.requires).ends)
