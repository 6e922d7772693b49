-- `comparing::next_signal` meets its contract: at every key passed nothing is told. Assumes nothing.
use borrow.Author.Rules.{rules}
use mathlib.Core.Path.{◌≡◌}
use Rattle.paper.specs.Answer.{found}
use Rattle.paper.specs.Pairs.{signals_of, signal_keys, next_pair}
use Rattle.paper.specs.Comparing.{tells, signal_change, signal_changed, next_signal}
use Rattle.lists.specs.Listed.{list_as}
use Rattle.pairing.specs.Pairing.{pair_of}
use Rattle.comparing.specs.Comparing.{PairThere}
use Rattle.comparing.proofs.Laws.{first_told_is, signal_met, signal_untold}
use Rattle.comparing.proofs.next_signal.Goals as goal

pub first_told-requires-clause-told : goal.first_told-requires-clause-told
first_told-requires-clause-told c = λ key p m.
    let a = list_as c.args.a.now in
    let b = list_as c.args.b.now in
    let e : found (pair_of p) ≡ next_pair a b key = search rules in
    let w = signal_met a b key (pair_of p) e in
    let there : PairThere (signals_of a) (signals_of b) (pair_of p) = w.there in
    (search rules, w.least, w.small)

pub returns : goal.returns
unfolding next_signal next_pair
returns c =
    let a = list_as c.args.a.now in
    let b = list_as c.args.b.now in
    first_told_is (signals_of a) (signals_of b) signal_keys (λ q. tells (signal_change a b q)) (signal_untold a b) (signal_changed a b) _ _ _
    (λ key p m. search rules) (λ key m. search rules) (λ p o h m. search rules) _ c.first_told.ensures
