-- `doors::by_train` meets its contract. Assumes nothing.
use mathlib.Core.Path.{sym}
use lib.ListN.{length-map}
use Rattle.train.specs.Marks.{vehicle_of}
use Rattle.doors.proofs.Refused.{handed_on}
use Rattle.doors.proofs.Laws.{few, by_nobody, by_members}
use Rattle.doors.proofs.by_train.Goals as goal

pub side_of-left-requires : goal.side_of-left-requires
side_of-left-requires c =
    let p = c.requires in
    (p.0, p.1, rw (length-map c.args.marks.now vehicle_of) at (few _ _ _ c.in_ok-m.ensures), p.2)

pub side_of-right-requires : goal.side_of-right-requires
side_of-right-requires c =
    let p = c.requires in
    (p.0, p.1, rw (length-map c.args.marks.now vehicle_of) at (few _ _ _ c.in_ok-m.ensures), p.3)

pub returns-in_err-m : goal.returns-in_err-m
returns-in_err-m c = rw (handed_on _ _ c.from_residual.ensures) (by_nobody _ _ _ _ _ _ _ _ _ c.in_err-m.ensures)

pub returns : goal.returns
returns c =
    by_members _ _ _ c.in_ok-m.ensures _ _ _ _ _ _ _ _ (sym (length-map c.args.marks.now vehicle_of)) c.side_of-left.ensures c.side_of-right.ensures
