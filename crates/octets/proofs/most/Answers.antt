-- `octets::most` meets its contract. Assumes nothing.
use native.Mathlib.Omega.{arith}
use Rattle.octets.proofs.Laws.{ones}
use Rattle.octets.proofs.most.Goals as goal

pub returns : goal.returns
returns c = ones 0 c.args.w (omega arith)
