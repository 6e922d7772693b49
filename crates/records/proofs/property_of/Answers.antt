-- `records::property_of` meets its contract. Assumes nothing.
use native.Mathlib.Omega.{arith}
use Rattle.paper.proofs.ChristeningLaws.{within_record, rows_entered}
use Rattle.records.proofs.Table.{none_held, row_held}
use Rattle.records.proofs.property_of.Goals as goal

pub returns-in_err-i : goal.returns-in_err-i
returns-in_err-i c = rw c.from_residual.ensures (none_held c.args.octets.now c.args.row c.in_err-i.ensures.row)

pub is_set-requires : goal.is_set-requires
is_set-requires c =
    let p = c.row_at-p.ensures in
    let i = within_record c.in_ok-i.i (omega (arith, rows_entered, c.in_ok-i.ensures.within)) in
    (omega (arith, p.1, i.first), omega (arith, p.1, i.octet), omega (arith, p.2, i.bit))

pub returns : goal.returns
returns c =
    let a = c.args in
    let p = c.row_at-p.ensures in
    row_held a.octets.now a.row c.in_ok-i.i c.in_ok-i.ensures.row c.row_at-p.result.level _ _ _ p.0 p.1 p.2 c.is_set.ensures
