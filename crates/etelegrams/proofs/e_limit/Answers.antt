-- `etelegrams::e_limit` meets its contract. Assumes nothing.
use borrow.Author.Tests.{eq-eqb, ne_eqb}
use Rattle.paper.specs.ETelegrams.{e_limit}
use Rattle.etelegrams.proofs.e_limit.Goals as goal

pub returns-then-code-eq35336 : goal.returns-then-code-eq35336
unfolding e_limit
returns-then-code-eq35336 c = simp (eq-eqb _ _ c.if-code-eq35336.true)

pub returns-else-code-eq35336 : goal.returns-else-code-eq35336
unfolding e_limit
returns-else-code-eq35336 c = simp (ne_eqb _ _ c.if-code-eq35336.false)
