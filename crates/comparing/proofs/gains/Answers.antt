-- `comparing::gains` meets its contract. Assumes nothing.
use Rattle.comparing.proofs.Laws.{some_next}
use Rattle.comparing.proofs.gains.Goals as goal

pub returns : goal.returns
returns c = some_next _ _ _ c.next_code.ensures
