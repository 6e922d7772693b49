-- `textwriting::write_front` meets its contract. Assumes nothing.
use Rattle.textwriting.proofs.Laws.{front_written}
use borrow.Author.Rules.{rules}
use Rattle.textwriting.proofs.write_front.Goals as goal

pub returns : goal.returns
returns c =
    let a = c.args in (
      front_written a.out.now c.copy_over.new.d c.write16.new.d c.copy_over-2.new.d c.write16-2.new.d c.write16-3.new.d c.fill_zero.new.d
          a.head.now a.carried.now a.language a.ordered a.count c.requires (search rules) (search rules) (search rules) (search rules)
          c.copy_over.ensures c.write16.ensures c.copy_over-2.ensures c.write16-2.ensures c.write16-3.ensures c.fill_zero.ensures,
      search rules,
      search rules,
    )
