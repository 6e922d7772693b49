-- `textwriting::write_block` meets its contract. Assumes nothing.
use Rattle.textwriting.proofs.Laws.{block_written}
use borrow.Author.Rules.{rules}
use Rattle.textwriting.proofs.write_block.Goals as goal

pub returns : goal.returns
returns c =
    let a = c.args in
    block_written a.out.now c.write16.new.d c.write16-2.new.d c.write16-3.new.d c.copy_over.new.d a.at a.key a.text.now
    c.requires.0 (search rules) c.write16.ensures c.write16-2.ensures c.write16-3.ensures c.copy_over.ensures
