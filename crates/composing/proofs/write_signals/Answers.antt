-- `composing::write_signals` meets its contract. Assumes nothing.
use mathlib.Core.Path.{sym, ap, subst⁻¹, ◌∙◌}
use Rattle.paper.specs.SignalList.{Signal}
use Rattle.paper.specs.Telegrams.{carries}
use Rattle.octets.specs.Fields.{Within}
use Rattle.lists.specs.Listed.{list_as}
use Rattle.composing.proofs.Laws.{listed_kept, signal_there}
use Rattle.composing.proofs.write_signals.Goals as goal

pub write_where-requires : goal.write_where-requires
write_where-requires c = λ w.
    let a = c.args in
    let is = c.signal-s.ensures.is in
    subst⁻¹ (λ (x : Signal). Within c.loop-k.out x.start x.width) is
    (signal_there (list_as a.list.now) (listed_kept a.list.now) a.kind c.loop-k.out (c.loop-k.invariant.long ∙ c.requires.1.long) c.loop-k.k c.loop-k-test.true
    (sym (ap (λ (x : Signal). carries a.kind x.type) is) ∙ sym c.is_carried.ensures ∙ w))
