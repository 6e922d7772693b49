-- `marshalling::some_short` meets its contract. Assumes nothing.
use mathlib.Core.Path.{◌≡◌, sym, ap, ◌∙◌}
use mathlib.Core.Bool.{not}
use borrow.Author.Tests.{eq-eqb}
use native.Mathlib.Omega.{arith}
use Rattle.paper.proofs.FirstLaws.{some_false}
use Rattle.lists.specs.Listed.{list_as}
use Rattle.marshalling.specs.Marshalling.{is_short}
use Rattle.marshalling.proofs.Laws.{last_short, listed_kept}
use Rattle.marshalling.proofs.some_short.Goals as goal

pub returns-then-routes-ne0 : goal.returns-then-routes-ne0
returns-then-routes-ne0 c =
    c.is_short.ensures ∙ last_short (list_as c.args.list.now) (listed_kept c.args.list.now) c.args.octets (omega (arith, c.if-routes-ne0.true))

pub returns-else-routes-ne0 : goal.returns-else-routes-ne0
returns-else-routes-ne0 c =
    let none : c.args.list.now.counts.routes ≡ 0 = c.if-routes-ne0.false in
    ap not (eq-eqb _ _ none) ∙ sym (some_false (is_short (list_as c.args.list.now) c.args.octets) _ (λ r lt. absurd (omega arith)))
