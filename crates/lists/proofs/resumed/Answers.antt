use borrow.Author.Tests.{le-leb, lt-leb}
use Rattle.lists.proofs.resumed.Goals as goal

pub returns-then-past-s : goal.returns-then-past-s
returns-then-past-s c = simp (le-leb _ _ c.if-past-s.true)

pub returns-else-past-s : goal.returns-else-past-s
returns-else-past-s c = simp (lt-leb _ _ c.if-past-s.false)
