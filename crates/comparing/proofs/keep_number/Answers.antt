-- `comparing::keep_number` meets its contract: the rules are asked in their order. Assumes nothing.
use Rattle.comparing.proofs.Laws.{width_broken, place_broken, since_broken, code_lost, none_lost}
use Rattle.comparing.proofs.keep_number.Goals as goal

pub returns-then-s-t : goal.returns-then-s-t
returns-then-s-t c = width_broken _ _ _ _ _ c.if-s-t.true

pub returns-then-p-q : goal.returns-then-p-q
returns-then-p-q c = place_broken _ _ _ _ _ c.if-s-t.false c.if-p-q.true

pub returns-then-s-t-2 : goal.returns-then-s-t-2
returns-then-s-t-2 c = since_broken _ _ _ _ _ c.if-s-t.false c.if-p-q.false c.if-s-t-2.true

pub returns-then-lost : goal.returns-then-lost
returns-then-lost c = code_lost _ _ _ _ _ c.if-s-t.false c.if-p-q.false c.if-s-t-2.false c.if-lost.true

pub returns-else-lost : goal.returns-else-lost
returns-else-lost c = none_lost _ _ _ _ _ c.if-s-t.false c.if-p-q.false c.if-s-t-2.false c.if-lost.false
