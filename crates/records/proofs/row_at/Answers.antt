-- `records::row_at` meets its contract: the code's table is the paper's, packed. Assumes nothing.
use native.Mathlib.Omega.{arith}
use Rattle.paper.specs.Christening.{properties}
use Rattle.paper.proofs.ChristeningLaws.{within_record}
use Rattle.records.proofs.Table.{gateway_row, vehicle_row}
use Rattle.records.proofs.row_at.Goals as goal

pub returns-then-p-lt128 : goal.returns-then-p-lt128
unfolding properties
returns-then-p-lt128 c = gateway_row c.args.i c.requires c.if-p-lt128.true

pub overflow_add-result-2 : goal.overflow_add-result-2
unfolding properties
overflow_add-result-2 c =
    let i = c.args.i in
    omega (arith, (vehicle_row i c.requires c.if-p-lt128.false).1, (within_record i c.requires).octet)

pub returns : goal.returns
unfolding properties
returns c = vehicle_row c.args.i c.requires c.if-p-lt128.false
