-- `recording::pieces::number_in` meets its contract.
use Rattle.std.proofs.Common.{arith, rules}
use Rattle.paper.proofs.NumberLaws.{number_two, number_split}
use Rattle.recording.proofs.pieces.number_in.Goals as goal

pub returns : goal.returns
returns c =
    let l = c.args.octets.now in
    (omega (arith, number_split l 0 2 2, number_two l 0, number_two l 2), search rules)
