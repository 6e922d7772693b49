-- `finding::find_signal` meets its contract. Assumes nothing.
use mathlib.Core.Path.{ap}
use mathlib.Core.Bool.{not}
use borrow.Author.Tests.{lt-ltb, le-ltb}
use Rattle.paper.specs.Answer.{gives}
use Rattle.paper.specs.Pairs.{finding_by, finding}
use Rattle.paper.proofs.AnswerLaws.{refuses, goes_past}
use Rattle.lists.proofs.Laws.{under_accepted}
use Rattle.finding.proofs.Laws.{under_err}
use Rattle.finding.proofs.find_signal.Goals as goal

pub returns-in_err-list : goal.returns-in_err-list
unfolding finding
returns-in_err-list c = under_err _ _ _ _ _ (finding_by _ _) c.from_residual.ensures c.in_err-list.ensures

pub returns-then-list-k : goal.returns-then-list-k
unfolding finding
returns-then-list-k c = under_accepted _ _ (finding_by _ _) _ _ c.in_ok-list.ensures (refuses _ 11 0 _ (ap not (le-ltb _ _ (rw c.find_in-k.ensures at c.if-list-k.true))))

pub returns : goal.returns
unfolding finding
returns c =
    under_accepted _ _ (finding_by _ _) _ _ c.in_ok-list.ensures
    (goes_past _ 11 0 _ _ (ap not (lt-ltb _ _ (rw c.find_in-k.ensures at c.if-list-k.false))) (ap gives c.find_in-k.ensures))
