-- `extending::keeps_at` meets its contract. Assumes nothing.
use mathlib.Core.Path.{ap}
use mathlib.Core.Bool.{not}
use Rattle.paper.specs.Extends.{keeps}
use Rattle.bools.proofs.Tests.{stops_short, asks_on}
use Rattle.lists.specs.Listed.{list_as}
use Rattle.finding.proofs.Laws.{placed_as}
use Rattle.extending.proofs.Laws.{agrees_is}
use Rattle.extending.proofs.keeps_at.Goals as goal

pub place-requires : goal.place-requires
place-requires c = placed_as c.args.a.now _ c.requires.first.0 _ c.signal-s.ensures.is

pub place-requires-2 : goal.place-requires-2
place-requires-2 c = placed_as c.args.b.now _ c.requires.second.0 _ c.signal-t.ensures.is

pub returns-then-not-agrees : goal.returns-then-not-agrees
unfolding keeps
returns-then-not-agrees c =
    stops_short
    (agrees_is (list_as c.args.a.now) (list_as c.args.b.now) _ _ c.agrees.ensures c.signal-s.ensures.is c.signal-t.ensures.is c.place.ensures c.place-2.ensures)
    _ (ap not c.if-not-agrees.true)

pub returns : goal.returns
unfolding keeps
returns c =
    asks_on
    (agrees_is (list_as c.args.a.now) (list_as c.args.b.now) _ _ c.agrees.ensures c.signal-s.ensures.is c.signal-t.ensures.is c.place.ensures c.place-2.ensures)
    _ (ap not c.if-not-agrees.false) _ c.codes_kept.ensures
