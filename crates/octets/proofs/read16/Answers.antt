use native.Mathlib.Omega.{arith}
use Rattle.paper.proofs.NumberLaws.{number_two}
use Rattle.octets.proofs.read16.Goals as goal

pub returns : goal.returns
returns c =
    let a = c.args in
    omega (arith, number_two a.s.now a.at)
