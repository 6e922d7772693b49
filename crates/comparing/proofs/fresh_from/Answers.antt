-- `comparing::fresh_from` meets its contract: it looks from the code before on. Assumes nothing.
use native.Mathlib.Omega.{arith}
use Rattle.comparing.proofs.Laws.{fresh_past}
use Rattle.comparing.proofs.fresh_from.Goals as goal

pub returns : goal.returns
returns c = fresh_past _ _ _ _ (omega (arith, c.if-from-eq0.false)) c.next_code.ensures
