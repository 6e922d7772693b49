-- `reading::read_slot` meets its contract. Assumes nothing.
use Prim.Native.Nat.{ℕ, ◌≤◌}
use mathlib.Core.Path.{◌≡◌, sym, ap, ap₂, ◌∙◌}
use native.Mathlib.Omega.{arith}
use Rattle.paper.specs.SignalList.{Signal}
use Rattle.paper.specs.First.{first_of}
use Rattle.paper.specs.Store.{slot_from}
use Rattle.lists.specs.Listed.{list_as}
use Rattle.reading.specs.Reason.{reason_number}
use Rattle.reading.specs.Reading.{slot_tests}
use Rattle.reading.proofs.Laws.{slot_reading, telegram_reads}
use Rattle.reading.proofs.read_slot.Goals as goal

pub returns-in-Some : goal.returns-in-Some
returns-in-Some c =
    let slot = slot_from c.args.slot.octets.now in
    let is : reason_number c.in-Some.reason ≡ first_of 2 (slot_tests slot c.args.clock ((list_as c.args.list.now).signal c.args.k)) 0 =
    c.in-Some.ensures.number ∙ ap (λ (x : Signal). first_of 2 (slot_tests slot c.args.clock x) 0) c.signal-s.ensures.is in
    let some : 2 ≤ reason_number c.in-Some.reason = c.in-Some.ensures.some in
    ap₂ (λ (x y : ℕ). record { value = x; reason = y }) (ap (λ (x : Signal). x.replacement) c.signal-s.ensures.is) is
    ∙ slot_reading (list_as c.args.list.now) slot c.args.clock c.args.k (λ e. omega (arith, some, is, e))

pub returns : goal.returns
returns c =
    let slot = slot_from c.args.slot.octets.now in
    let none : 0 ≡ first_of 2 (slot_tests slot c.args.clock ((list_as c.args.list.now).signal c.args.k)) 0 =
    c.in_default.ensures.number ∙ ap (λ (x : Signal). first_of 2 (slot_tests slot c.args.clock x) 0) c.signal-s.ensures.is in
    c.read_telegram.ensures ∙ rw c.telegram.ensures (telegram_reads (list_as c.args.list.now) slot c.args.clock c.args.k (sym none))
