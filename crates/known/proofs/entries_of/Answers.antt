-- `known::entries_of` meets its contract. Assumes nothing.
use Rattle.known.proofs.Laws.{listed_ordered, keys_next, keys_start, own_from}
use Rattle.known.proofs.entries_of.Goals as goal

pub first_code-to-requires : goal.first_code-to-requires
first_code-to-requires c = keys_next _ _ (listed_ordered c.args.list.now) _ _ c.first_code-from.ensures

pub returns : goal.returns
returns c =
    let h = listed_ordered c.args.list.now in
    own_from _ _ h _ _ _ (keys_start _ _ h _ _ c.first_code-from.ensures) (keys_start _ _ h _ _ c.first_code-to.ensures)
