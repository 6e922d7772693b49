-- `lists::accepted::AcceptedList::place` meets its contract. Assumes nothing.
use borrow.Author.Tests.{eq-eqb, ne_eqb}
use Rattle.paper.specs.SignalList.{place_of}
use Rattle.lists.proofs.accepted.AcceptedList.place.Goals as goal

pub returns-then-s-eq0 : goal.returns-then-s-eq0
unfolding place_of
returns-then-s-eq0 c = simp (eq-eqb _ _ c.if-s-eq0.true)

pub returns : goal.returns
unfolding place_of
returns c = simp (ne_eqb _ _ c.if-s-eq0.false) c.check.ensures.is
