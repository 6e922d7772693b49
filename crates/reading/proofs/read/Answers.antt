-- `reading::read` meets its contract. Assumes nothing.
use Rattle.paper.specs.Reading.{reading, reading_by}
use Rattle.refusals.proofs.WrittenLaws.{handed_on}
use Rattle.lists.specs.Listed.{list_as}
use Rattle.lists.proofs.Laws.{under_accepted, under_refused}
use Rattle.reading.specs.Reading.{reading_under}
use Rattle.reading.proofs.read.Goals as goal

pub returns-in_err-list : goal.returns-in_err-list
unfolding reading
returns-in_err-list c =
    let a = c.args in
    rw (handed_on _ _ c.from_residual.ensures)
    (under_refused _ _ (reading_by a.store.now a.clock a.vehicle a.signal) _ _ c.in_err-list.ensures)

pub returns : goal.returns
unfolding reading reading_under
returns c =
    let a = c.args in
    under_accepted _ _ (reading_by a.store.now a.clock a.vehicle a.signal) (list_as c.in_ok-list.list) _ c.in_ok-list.ensures c.read_under.ensures
