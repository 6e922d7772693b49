-- `doors::door_at` meets its contract. Assumes nothing.
use Rattle.lists.specs.Judged.{counts_of}
use Rattle.doors.proofs.Laws.{not_found, is_found_lem, entry_there, entry_width, door_found, door_wide}
use Rattle.doors.proofs.door_at.Goals as goal

pub returns-in_default : goal.returns-in_default
returns-in_default c = let a = c.args in not_found a.form a.list.now (counts_of a.n) c.requires a.place _ _ c.in_default.ensures

pub returns-in_default-signal_entry : goal.returns-in_default-signal_entry
returns-in_default-signal_entry c =
    let a = c.args in
    let at = is_found_lem a.form a.list.now (counts_of a.n) c.requires a.place _ c.in-Ok.ensures in
    absurd (entry_there a.form a.list.now (counts_of a.n) c.requires _ _ _ at.1 c.in_default-signal_entry.ensures)

pub returns-then-entry-eq1 : goal.returns-then-entry-eq1
returns-then-entry-eq1 c =
    let a = c.args in
    let at = is_found_lem a.form a.list.now (counts_of a.n) c.requires a.place _ c.in-Ok.ensures in
    door_found _ _ _ _ at.0 at.1 (entry_width a.form a.list.now (counts_of a.n) c.requires _ _ at.1 c.in-Ok-signal_entry.ensures) c.if-entry-eq1.true

pub returns-else-entry-eq1 : goal.returns-else-entry-eq1
returns-else-entry-eq1 c =
    let a = c.args in
    let at = is_found_lem a.form a.list.now (counts_of a.n) c.requires a.place _ c.in-Ok.ensures in
    door_wide _ _ _ _ at.0 at.1 (entry_width a.form a.list.now (counts_of a.n) c.requires _ _ at.1 c.in-Ok-signal_entry.ensures) c.if-entry-eq1.false
