-- `recordings::octet_first` meets its contract. Assumes nothing.
use Rattle.recordings.proofs.Laws.{octet_agrees}
use Rattle.recordings.proofs.octet_first.Goals as goal

pub returns-then-x-q : goal.returns-then-x-q
returns-then-x-q c = octet_agrees _ _ _ c.if-x-q.true
