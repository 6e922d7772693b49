-- `spelling::spell::put_escape` meets its contract. Assumes nothing.
use borrow.Author.Rules.{rules}
use Rattle.spelling.proofs.Laws.{put_as, escape_is}
use Rattle.spelling.proofs.spell.put_escape.Goals as goal

pub returns : goal.returns
returns c =
    put_as c.put.ensures (escape_is c.args.u _ _ _ _ (search rules) c.digit-a.ensures c.digit-b.ensures c.digit-c.ensures c.digit-d.ensures)
