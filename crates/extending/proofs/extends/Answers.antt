-- `extending::extends` meets its contract. Assumes nothing.
use Rattle.paper.specs.Extends.{extends, extends_lists}
use Rattle.finding.proofs.Laws.{first_err, second_err, both_accepted}
use Rattle.extending.proofs.extends.Goals as goal

pub returns-in_err-a : goal.returns-in_err-a
unfolding extends_lists
returns-in_err-a c = first_err _ _ _ _ extends _ _ _ _ c.judged.ensures c.in_err-a.ensures.cases c.from_residual.ensures

pub returns-in_err-b : goal.returns-in_err-b
unfolding extends_lists
returns-in_err-b c =
    second_err _ _ _ _ extends _ _ c.judged.ensures c.in_ok-a.ensures.cases _ _ _ _ c.judged-2.ensures c.in_err-b.ensures.cases
    c.from_residual-in_err-b.ensures

pub returns : goal.returns
unfolding extends_lists
returns c =
    both_accepted _ _ _ _ extends _ _ c.judged.ensures c.in_ok-a.ensures.cases _ _ _ c.judged-2.ensures c.in_ok-b.ensures.cases c.compared.ensures
