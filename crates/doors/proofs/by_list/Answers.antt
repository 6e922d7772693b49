-- `doors::by_list` meets its contract. Assumes nothing.
use borrow.Author.Tests.{eqb-true}
use Rattle.std.specs.Prelude.{map}
use Rattle.paper.specs.SignalList.{list_of}
use Rattle.train.specs.Marks.{vehicle_of}
use Rattle.doors.proofs.Refused.{handed_on}
use Rattle.lists.specs.Judged.{counts_of}
use Rattle.doors.proofs.Laws.{gap_refused, gap_given, door_low, left_missing, right_missing, both_there}
use Rattle.doors.proofs.by_list.Goals as goal

pub returns-in_err-gap : goal.returns-in_err-gap
returns-in_err-gap c = rw (handed_on _ _ c.from_residual.ensures) (gap_refused _ _ _ _ _ _ _ c.in_err-gap.ensures)

pub returns-in_default : goal.returns-in_default
returns-in_default c =
    let a = c.args in
    left_missing a.store.now a.clock (map vehicle_of a.marks.now) a.address (list_of a.list.now (counts_of a.n)) (gap_given _ _ c.in_ok-gap.ensures)
    c.in_default.ensures

pub returns-in_default-door_at : goal.returns-in_default-door_at
returns-in_default-door_at c =
    let a = c.args in
    right_missing a.store.now a.clock (map vehicle_of a.marks.now) a.address (list_of a.list.now (counts_of a.n)) (gap_given _ _ c.in_ok-gap.ensures)
    c.in_default-door_at.ensures

pub by_train-requires : goal.by_train-requires
by_train-requires c =
    (c.requires, eqb-true _ _ (gap_given _ _ c.in_ok-gap.ensures), door_low _ _ _ c.in-Some.ensures, door_low _ _ _ c.in-Some-door_at.ensures)

pub returns : goal.returns
returns c =
    let a = c.args in
    both_there a.store.now a.clock (map vehicle_of a.marks.now) a.address (list_of a.list.now (counts_of a.n)) (gap_given _ _ c.in_ok-gap.ensures) _ _ _
    c.in-Some.ensures c.in-Some-door_at.ensures c.by_train.ensures
