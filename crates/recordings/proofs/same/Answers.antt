-- `recordings::same` meets its contract. Assumes nothing.
use Rattle.recordings.proofs.Laws.{same_rest}
use Rattle.recordings.proofs.same.Goals as goal

pub returns : goal.returns
returns c = same_rest _ _ _ c.if-x-y.false c.skip_same-from.ensures.within.1 c.skip_same-from.ensures.alike c.eq.ensures
