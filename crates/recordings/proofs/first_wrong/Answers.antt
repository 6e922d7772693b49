-- `recordings::first_wrong` meets its contract: every bit before the end of the last route passed is right. Assumes nothing.
use Prim.Native.Nat.{◌+◌, ◌*◌}
use mathlib.Core.Path.{◌≡◌, ap}
use native.Mathlib.Omega.{arith}
use lib.ListN.{length}
use Rattle.paper.specs.SignalList.{route_end}
use Rattle.paper.specs.Reading.{Reading}
use Rattle.lists.specs.Listed.{list_as}
use Rattle.marshalling.proofs.Laws.{listed_kept}
use Rattle.recordings.proofs.Laws.{agrees_then, stops_then, stops_first, spotted, spot_then, next_between, route_agrees, route_stops, rest_spotted}
use Rattle.recordings.proofs.first_wrong.Goals as goal

pub returns-in-Some : goal.returns-in-Some
returns-in-Some c =
    let a = c.args in
    let l = a.list.now in
    let read = c.read_route-route.ensures.reads in
    let stops = route_stops (list_as l) (listed_kept l) a.store.now a.clock a.before.now a.after.now c.loop-r.r c.loop-r.pos c.loop-r.invariant.2 c.loop-r-test.true
    c.requires.served.0.room _ _ _ read.start read.width (ap (λ (x : Reading). x.value) read.reading) _ c.in-Some.ensures in
    spotted c.at.ensures.0 c.at.ensures.1 (stops_first _ (omega (arith, read.start, read.width, c.requires.served.0.room c.loop-r.r c.loop-r-test.true, c.requires.served.1))
    (stops_then c.loop-r.invariant.3 (omega arith) _ stops))

pub loop-r-preserved : goal.loop-r-preserved
loop-r-preserved c =
    let a = c.args in
    let l = a.list.now in
    let read = c.read_route-route.ensures.reads in
    let agrees = route_agrees (list_as l) (listed_kept l) a.store.now a.clock a.before.now a.after.now c.loop-r.r c.loop-r.pos c.loop-r.invariant.2 c.loop-r-test.true
    c.requires.served.0.room _ _ _ read.start read.width (ap (λ (x : Reading). x.value) read.reading) c.in_default.ensures in
    let ends : c.read_route-route.result.start + c.read_route-route.result.width ≡ route_end (list_as l).signal ((list_as l).route c.loop-r.r) =
    omega (arith, read.start, read.width) in (
      c.read_route-route.ensures.fits.2,
      omega (arith, ends, c.requires.served.0.room c.loop-r.r c.loop-r-test.true, c.requires.served.1),
      rw ends (next_between (list_as l) (listed_kept l) a.store.now a.clock a.before.now a.after.now c.loop-r.r c.loop-r.pos c.loop-r.invariant.2 c.loop-r-test.true),
      agrees_then c.loop-r.invariant.3 agrees,
    )

pub returns : goal.returns
returns c =
    let a = c.args in
    let l = a.list.now in
    spot_then c.loop-r.invariant.3 (omega arith) _ _ (rest_spotted (list_as l) (listed_kept l) a.store.now a.clock a.before.now a.after.now c.loop-r.r c.loop-r.pos
    (8 * length a.after.now) c.loop-r-test.false c.loop-r.invariant.2 _ c.bits_from.ensures)
