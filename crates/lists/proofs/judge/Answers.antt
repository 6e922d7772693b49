-- `lists::judge` meets its contract. Assumes nothing.
use Rattle.paper.proofs.ListLaws.{form_sized}
use Rattle.lists.proofs.judge.Goals as goal

pub judge_sized-requires : goal.judge_sized-requires
judge_sized-requires c = rw c.entry_size.ensures (form_sized _)
