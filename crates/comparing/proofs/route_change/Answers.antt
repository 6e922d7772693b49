-- `comparing::route_change` meets its contract. Assumes nothing.
use Rattle.paper.specs.Comparing.{next_route, route_changes}
use Rattle.finding.proofs.Laws.{first_err, second_err, both_accepted}
use Rattle.comparing.proofs.route_change.Goals as goal

pub returns-in_err-a : goal.returns-in_err-a
unfolding route_changes
returns-in_err-a c =
    first_err _ _ _ _ (λ a b. next_route a b c.args.from) _ _ _ _ c.judged.ensures c.in_err-a.ensures.cases c.from_residual.ensures

pub returns-in_err-b : goal.returns-in_err-b
unfolding route_changes
returns-in_err-b c =
    second_err _ _ _ _ (λ a b. next_route a b c.args.from) _ _ c.judged.ensures c.in_ok-a.ensures.cases _ _ _ _ c.judged-2.ensures
    c.in_err-b.ensures.cases c.from_residual-in_err-b.ensures

pub returns : goal.returns
unfolding route_changes
returns c =
    both_accepted _ _ _ _ (λ a b. next_route a b c.args.from) _ _ c.judged.ensures c.in_ok-a.ensures.cases _ _ _ c.judged-2.ensures
    c.in_ok-b.ensures.cases c.next_route.ensures
