-- `reading::read_train` meets its contract. Assumes nothing.
use lib.ListN.{length}
use Rattle.paper.specs.Readings.{train_readings, train_by}
use Rattle.lists.specs.Listed.{list_as}
use Rattle.reading.proofs.Laws.{into_list, into_listed}
use Rattle.reading.proofs.read_train.Goals as goal

pub returns-in_err-list : goal.returns-in_err-list
unfolding train_readings
returns-in_err-list c =
    let a = c.args in
    into_list _ _ (train_by a.store.now a.clock a.last (length a.values.now) (length a.reasons.now)) _ _ _ c.from_residual.ensures c.in_err-list.ensures

pub returns : goal.returns
unfolding train_readings
returns c =
    let a = c.args in
    into_listed _ _ (train_by a.store.now a.clock a.last (length a.values.now) (length a.reasons.now)) (list_as c.in_ok-list.list) c.in_ok-list.ensures
    c.read_train_under.ensures
