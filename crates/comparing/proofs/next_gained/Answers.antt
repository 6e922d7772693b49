-- `comparing::next_gained` meets its contract. Assumes nothing.
use Rattle.comparing.proofs.Laws.{gained_nowhere, gained_is_next}
use Rattle.comparing.proofs.next_gained.Goals as goal

pub returns-then-a-i : goal.returns-then-a-i
returns-then-a-i c = gained_nowhere _ _ _ _ c.signal_at-i.ensures c.signal_at-j.ensures c.if-a-i.true

pub returns : goal.returns
returns c = gained_is_next _ _ _ _ c.signal_at-i.ensures c.signal_at-j.ensures c.if-a-i.false c.range_from.ensures
