-- `consist::resolve_train` meets its contract. Assumes nothing.
use Rattle.std.proofs.Common.{◌≡◌, List, length, take, map, set, arith, length-set, ◌∙◌, ap}
use lib.Seq.{take-length}
use Rattle.paper.specs.Train.{Vehicle, resolving}
use Rattle.train.specs.Marks.{vehicle_of}
use Rattle.consist.specs.Vehicles.{octet_of}
use Rattle.consist.proofs.Laws.{train_read, filled_more, long}
use Rattle.consist.proofs.resolve_train.Goals as goal

pub returns-then-vehicles-gt63 : goal.returns-then-vehicles-gt63
returns-then-vehicles-gt63 c = long c.args.vehicles.now c.args.address c.if-vehicles-gt63.true

pub loop-i-preserved : goal.loop-i-preserved
loop-i-preserved c =
    let all : length (set c.loop-i.octets c.loop-i.i c.octet.result) ≡ 63 = length-set _ _ _ ∙ c.loop-i.invariant.0 in
    (all, rw c.octet.ensures (filled_more c.args.vehicles.now c.loop-i.octets c.loop-i.i _ c.loop-i-test.true (omega arith) c.loop-i.invariant.1))

pub returns : goal.returns
returns c =
    let vs = c.args.vehicles.now in
    let end : c.loop-i.i ≡ length vs = omega arith in
    let filled : take (length vs) c.loop-i.octets ≡ map octet_of vs = (rw end at c.loop-i.invariant.1) ∙ ap (map octet_of) (take-length vs) in
    c.resolve.ensures ∙ ap (λ (t : List Vehicle). resolving t c.args.address) (ap (map vehicle_of) filled ∙ train_read vs)
