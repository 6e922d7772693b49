-- `doors::summary` meets its contract. Assumes nothing.
use mathlib.Core.Path.{sym}
use Rattle.doors.proofs.Refused.{handed_on}
use Rattle.doors.proofs.Laws.{summary_refused, summary_given}
use Rattle.doors.proofs.summary.Goals as goal

pub by_list-requires : goal.by_list-requires
by_list-requires c = sym c.in_ok-n.ensures

pub returns-in_err-n : goal.returns-in_err-n
returns-in_err-n c = rw (handed_on _ _ c.from_residual.ensures) (summary_refused _ _ _ _ _ _ _ _ c.in_err-n.ensures)

pub returns : goal.returns
returns c = summary_given _ _ _ _ _ _ _ _ c.in_ok-n.ensures c.by_list.ensures
