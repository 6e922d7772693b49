-- `finding::at_key` meets its contract. Assumes nothing.
use borrow.Author.Tests.{eq-eqb, ne_eqb}
use Rattle.finding.proofs.at_key.Goals as goal

pub returns-then-r-key : goal.returns-then-r-key
returns-then-r-key c =
    simp (eq-eqb _ _ c.if-r-key.true)

pub returns-else-r-key : goal.returns-else-r-key
returns-else-r-key c =
    simp (ne_eqb _ _ c.if-r-key.false)
