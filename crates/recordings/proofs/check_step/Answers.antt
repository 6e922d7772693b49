-- `recordings::check_step` meets its contract. Assumes nothing.
use borrow.Author.Tests.{le-leb, lt-leb}
use Rattle.paper.specs.Recordings.{checking, checking_by}
use Rattle.paper.proofs.AnswerLaws.{refuses, goes_past}
use Rattle.refusals.proofs.WrittenLaws.{handed_on}
use Rattle.lists.specs.Listed.{list_as}
use Rattle.lists.proofs.Laws.{under_accepted, under_refused}
use Rattle.recordings.specs.Recordings.{step_of}
use Rattle.recordings.proofs.check_step.Goals as goal

pub returns-then-steps-ge-MOST_STEPS-clause-checks : goal.returns-then-steps-ge-MOST_STEPS-clause-checks
unfolding checking
returns-then-steps-ge-MOST_STEPS-clause-checks c = refuses _ 38 0 _ (le-leb 1000 _ c.if-steps-ge-MOST_STEPS.true)

pub returns-in_err-list-clause-checks : goal.returns-in_err-list-clause-checks
unfolding checking
returns-in_err-list-clause-checks c =
    let a = c.args in
    rw (handed_on _ _ c.from_residual.ensures)
    (goes_past _ 38 0 _ _ (lt-leb 1000 _ c.if-steps-ge-MOST_STEPS.false)
    (under_refused _ _ (checking_by a.steps a.last.now (step_of a.store.now a.clock a.before.now a.after.now)) _ _ c.in_err-list.ensures))

pub returns-clause-checks : goal.returns-clause-checks
unfolding checking
returns-clause-checks c =
    let a = c.args in
    goes_past _ 38 0 _ _ (lt-leb 1000 _ c.if-steps-ge-MOST_STEPS.false)
    (under_accepted _ _ (checking_by a.steps a.last.now (step_of a.store.now a.clock a.before.now a.after.now)) (list_as c.in_ok-list.list) _ c.in_ok-list.ensures c.check_under.ensures.checks)
