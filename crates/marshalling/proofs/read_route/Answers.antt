-- `marshalling::read_route` meets its contract. Assumes nothing.
use Prim.Native.Nat.{◌^◌, ◌<◌}
use mathlib.Core.Path.{ap, ◌∙◌}
use native.Mathlib.Omega.{arith}
use Rattle.paper.specs.SignalList.{Route}
use Rattle.paper.specs.Store.{slot_from}
use Rattle.paper.specs.Reading.{Reading, reading_at}
use Rattle.paper.specs.Marshalling.{routed}
use Rattle.paper.proofs.MarshallingLaws.{reading_fits}
use Rattle.lists.specs.Listed.{list_as}
use Rattle.reading.proofs.Laws.{read_here}
use Rattle.marshalling.proofs.Laws.{route_of_list, listed_kept}
use Rattle.marshalling.proofs.read_route.Goals as goal

pub entries_at-own-requires : goal.entries_at-own-requires
entries_at-own-requires c = (c.requires.0, (route_of_list c.args.list.now c.route-t.ensures.is c.requires.2).exists)

pub slot-slot-requires : goal.slot-slot-requires
slot-slot-requires c =
    let r = route_of_list c.args.list.now c.route-t.ensures.is c.requires.2 in
    (c.requires.1, omega (arith, r.first), omega (arith, r.last))

pub read_slot-reading-requires : goal.read_slot-reading-requires
read_slot-reading-requires c = ((route_of_list c.args.list.now c.route-t.ensures.is c.requires.2).exists, c.entries_at-own.ensures)

pub width-requires : goal.width-requires
width-requires c = (route_of_list c.args.list.now c.route-t.ensures.is c.requires.2).exists

pub returns-clause-reads : goal.returns-clause-reads
unfolding routed
returns-clause-reads c =
    let a = c.args in
    let l = list_as a.list.now in
    let t = c.route-t.result in
    record {
      start = ap (λ (x : Route). x.start) c.route-t.ensures.is;
      width = c.width.ensures.is ∙ ap (λ (x : Route). (l.signal x.signal).width) c.route-t.ensures.is;
      reading =
          read_here l a.store.now t.vehicle a.clock t.signal c.slot-slot.ensures c.read_slot-reading.ensures
          ∙ ap (λ (x : Route). reading_at l a.store.now a.clock x.vehicle x.signal) c.route-t.ensures.is;
    }

pub returns-clause-fits : goal.returns-clause-fits
returns-clause-fits c =
    let a = c.args in
    let l = list_as a.list.now in
    let t = c.route-t.result in
    let r = route_of_list a.list.now c.route-t.ensures.is c.requires.2 in
    let value : c.read_slot-reading.result.value < 2 ^ (l.signal t.signal).width =
    rw (ap (λ (x : Reading). x.value) c.read_slot-reading.ensures) (reading_fits l (listed_kept a.list.now) (slot_from c.slot-slot.result.octets.now) a.clock t.signal r.exists) in
    rw c.width.ensures.is (r.some, r.wide, r.ends, value)
