-- `pairing::next_pair` meets its contract. Assumes nothing.
use borrow.Author.Rules.{rules}
use Rattle.paper.specs.Pairs.{next_pair}
use Rattle.finding.proofs.Laws.{keys_rise}
use Rattle.pairing.proofs.Laws.{next_end, next_is}
use Rattle.pairing.proofs.next_pair.Goals as goal

pub returns-then-key-ge-PAST_KEYS : goal.returns-then-key-ge-PAST_KEYS
unfolding next_pair
returns-then-key-ge-PAST_KEYS c =
    let s = c.args in
    next_end _ _ _ (keys_rise s.a.now) (keys_rise s.b.now) _ _ _ c.signal_from-g.ensures c.signal_from-h.ensures _ c.min-key.ensures (search rules)

pub returns : goal.returns
unfolding next_pair
returns c =
    let s = c.args in
    next_is _ _ _ (keys_rise s.a.now) (keys_rise s.b.now) _ _ _ c.signal_from-g.ensures c.signal_from-h.ensures _ c.min-key.ensures (search rules) _ _
    c.at_key-first.ensures c.at_key-second.ensures
