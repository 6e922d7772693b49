-- `doors::vehicle_says` meets its contract. Assumes nothing.
use mathlib.Core.Path.{sym, ap, ◌∙◌}
use native.Mathlib.Omega.{arith}
use borrow.Author.Tests.{leb-true, leb-false}
use Rattle.lists.specs.Judged.{counts_of}
use Rattle.reading.specs.Reading.{as_reading}
use Rattle.doors.specs.Doors.{said_by}
use Rattle.doors.proofs.Laws.{is_read, never_refused, said_lost, said_locked, said_open, said_other}
use Rattle.doors.proofs.vehicle_says.Goals as goal

pub returns-in-1 : goal.returns-in-1
returns-in-1 c =
    let a = c.args in
    let p = c.requires in
    said_locked (as_reading c.in-Ok.r) (leb-true _ _ (sym c.is_live.ensures ∙ c.if-is_live.true)) c.in-1.is
    ∙ ap said_by (is_read a.form a.list.now a.store.now a.clock a.v a.k (counts_of a.n) p.0 p.1 p.2 p.3 p.4 _ c.in-Ok.ensures)

pub returns-in-0 : goal.returns-in-0
returns-in-0 c =
    let a = c.args in
    let p = c.requires in
    said_open (as_reading c.in-Ok.r) (leb-true _ _ (sym c.is_live.ensures ∙ c.if-is_live.true)) c.in-0.is
    ∙ ap said_by (is_read a.form a.list.now a.store.now a.clock a.v a.k (counts_of a.n) p.0 p.1 p.2 p.3 p.4 _ c.in-Ok.ensures)

pub returns-in_default-value : goal.returns-in_default-value
returns-in_default-value c =
    let a = c.args in
    let p = c.requires in
    said_other (as_reading c.in-Ok.r) (leb-true _ _ (sym c.is_live.ensures ∙ c.if-is_live.true)) (λ e. omega arith) (λ e. omega arith)
    ∙ ap said_by (is_read a.form a.list.now a.store.now a.clock a.v a.k (counts_of a.n) p.0 p.1 p.2 p.3 p.4 _ c.in-Ok.ensures)

pub returns-in_default : goal.returns-in_default
returns-in_default c =
    let a = c.args in
    let p = c.requires in
    said_lost (as_reading c.in-Ok.r) (leb-false _ _ (sym c.is_live.ensures ∙ c.if-is_live.false))
    ∙ ap said_by (is_read a.form a.list.now a.store.now a.clock a.v a.k (counts_of a.n) p.0 p.1 p.2 p.3 p.4 _ c.in-Ok.ensures)

pub returns-in_default-2 : goal.returns-in_default-2
returns-in_default-2 c =
    let a = c.args in
    let p = c.requires in
    absurd (never_refused a.form a.list.now a.store.now a.clock a.v a.k (counts_of a.n) p.0 p.1 p.2 p.3 p.4 _ _ c.in_default.ensures)
