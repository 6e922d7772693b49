-- `comparing::route_told` meets its contract. Assumes nothing.
use mathlib.Core.Path.{refl, sym, ap, ◌∙◌}
use Rattle.paper.specs.Answer.{found}
use Rattle.paper.specs.Comparing.{route_change}
use Rattle.comparing.proofs.Laws.{told_second, told_first, told_both, told_nowhere}
use Rattle.comparing.proofs.route_told.Goals as goal
use Rattle.comparing.proofs.route_told.Goals.{then-a-p-via-then-a-p, then-a-p-via-else-a-p+then-b-p, then-a-p-via-else-a-p+else-b-p+then-routes_differ}

pub returns-then-a-p : goal.returns-then-a-p
unfolding route_change
returns-then-a-p c =
    ap found c.told.ensures
    ∙ elim c.then-a-p.branch [
      | then-a-p-via-then-a-p w ↦ told_second _ _ _ c.requires _ (λ _. 0) _ refl w.if-a-p.true
      | then-a-p-via-else-a-p+then-b-p w ↦ told_first _ _ _ c.requires _ (λ _. 0) _ refl w.if-a-p.false w.if-b-p.true
      | then-a-p-via-else-a-p+else-b-p+then-routes_differ w ↦
          told_both _ _ _ c.requires _ (λ _. 0) _ refl w.if-a-p.false w.if-b-p.false (sym w.routes_differ.ensures ∙ w.if-routes_differ.true)
    ]

pub returns : goal.returns
unfolding route_change
returns c = told_nowhere _ _ _ c.requires _ (λ _. 0) c.if-a-p.false c.if-b-p.false (sym c.routes_differ.ensures ∙ c.if-routes_differ.false)
