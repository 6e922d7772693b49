-- `recordings::check_under` meets its contract. Assumes nothing.
use Rattle.marshalling.proofs.Laws.{serves}
use Rattle.recordings.proofs.check_under.Goals as goal

pub compare-requires : goal.compare-requires
compare-requires c = (serves _ _ _ c.if-not-is_store.ensures c.if-some_short.ensures, c.if-after-before.false)
