-- `comparing::compare_both` meets its contract: a check that a signal names exists. Assumes nothing.
use mathlib.Core.Path.{ap, ◌∙◌}
use mathlib.Core.Bool.{Bool, ◌||◌}
use Rattle.finding.proofs.Laws.{placed_as}
use Rattle.comparing.proofs.Laws.{differs_is, kept_is}
use Rattle.comparing.proofs.compare_both.Goals as goal

pub place-p-requires : goal.place-p-requires
place-p-requires c = placed_as c.args.a.now _ c.requires.0 _ c.signal-s.ensures.is

pub place-q-requires : goal.place-q-requires
place-q-requires c = placed_as c.args.b.now _ c.requires.1 _ c.signal-t.ensures.is

pub returns : goal.returns
returns c = record {
  differs =
      ap (λ (x : Bool). x || c.gains-gain.result || c.gains-loss.result) c.fields_differ.ensures
      ∙ differs_is _ _ _ _ c.signal-s.ensures.is c.signal-t.ensures.is c.place-p.ensures c.place-q.ensures c.codes_compared-top.ensures.0
      c.gains-gain.ensures c.gains-loss.ensures;
  breaks =
      c.keep_number.ensures
      ∙ kept_is _ _ _ _ c.signal-s.ensures.is c.signal-t.ensures.is c.place-p.ensures c.place-q.ensures c.codes_compared-top.ensures.0 c.gains-gain.ensures
      c.gains-loss.ensures;
}
