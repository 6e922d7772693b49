use native.Mathlib.Omega.{arith}
use Rattle.paper.proofs.NumberLaws.{number_split}
use borrow.Author.Rules.{rules}
use Rattle.octets.proofs.read32.Goals as goal

pub returns : goal.returns
returns c =
    let a = c.args in
    record { value = omega (arith, number_split a.s.now a.at 2 2); small = search rules }
