-- `reading::read_each` meets its contract. Assumes nothing.
use mathlib.Core.Path.{ap, ◌∙◌}
use native.Mathlib.Omega.{arith}
use Rattle.paper.specs.Reading as paper
use Rattle.paper.specs.Readings.{values_at, reasons_at}
use Rattle.paper.proofs.LoopLaws.{filled_more, filled_all}
use Rattle.lists.specs.Listed.{list_as}
use Rattle.known.proofs.Laws.{listed_ordered, past_own}
use Rattle.reading.proofs.Laws.{read_here}
use Rattle.reading.proofs.read_each.Goals as goal

pub loop-k-preserved : goal.loop-k-preserved
loop-k-preserved c =
    let read = read_here (list_as c.args.list.now) c.args.store.now c.args.vehicle c.args.clock c.loop-k.k c.slot-slot.ensures c.read_slot-r.ensures in (
      filled_more c.loop-k.invariant.0 c.loop-k-test.true _ (ap (λ (r : paper.Reading). r.value) read),
      filled_more c.loop-k.invariant.1 c.loop-k-test.true _ (c.number.ensures ∙ ap (λ (r : paper.Reading). r.reason) read),
      past_own _ _ (listed_ordered c.args.list.now) _ _ _ _ c.entries_from-own.ensures (omega arith),
    )

pub returns : goal.returns
unfolding values_at reasons_at
returns c = record { value = filled_all c.loop-k.invariant.0 c.loop-k-test.false; reason = filled_all c.loop-k.invariant.1 c.loop-k-test.false }
