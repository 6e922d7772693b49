-- `recordings::locate` meets its contract. Assumes nothing.
use mathlib.Core.Path.{ap}
use native.Mathlib.Omega.{arith}
use Rattle.paper.specs.Reading.{Reading}
use Rattle.lists.specs.Listed.{list_as}
use Rattle.marshalling.proofs.Laws.{listed_kept}
use Rattle.recordings.proofs.Laws.{far_outside, no_route, that_route}
use Rattle.recordings.proofs.locate.Goals as goal

pub returns-then-s-ge256 : goal.returns-then-s-ge256
returns-then-s-ge256 c = let l = c.args.list.now in far_outside (list_as l) _ _ _ (listed_kept l) (omega (arith, c.if-s-ge256.true))

pub returns-then-lies_in : goal.returns-then-lies_in
returns-then-lies_in c =
    let l = list_as c.args.list.now in
    that_route l _ _ _ c.loop-r.invariant c.loop-r-test.true c.if-lies_in.ensures (ap (λ (x : Reading). x.reason) c.read_route-read.ensures.reads.reading)

pub returns : goal.returns
returns c = no_route (list_as c.args.list.now) _ _ _ c.loop-r.invariant c.loop-r-test.false
