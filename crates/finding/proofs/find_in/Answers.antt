-- `finding::find_in` meets its contract. Assumes nothing.
use mathlib.Core.Path.{◌∙◌}
use mathlib.Core.Logic.{inl, inr}
use native.Mathlib.Omega.{arith}
use Rattle.finding.proofs.Laws.{kept_as, keys_rise, reached_from, reached_index, none_typed, none_placed, found_index}
use Rattle.finding.proofs.find_in.Goals as goal

pub returns-then-kind-gt2 : goal.returns-then-kind-gt2
returns-then-kind-gt2 c =
    let h = kept_as c.args.list.now in
    elim c.then-kind-gt2.either [ inl lt ↦ none_typed _ h _ _ (omega arith) | inr w ↦ none_placed _ h _ _ (omega arith) ]

pub returns : goal.returns
returns c =
    let l = c.args.list.now in
    c.at_key.ensures
    ∙ reached_index _ _ (keys_rise l) _ _ c.signal_from.ensures _ (omega arith) (omega (arith, reached_from _ _ (keys_rise l) _ _ c.signal_from.ensures)) (omega arith)
    ∙ found_index _ (kept_as l) _ _ (omega arith)
