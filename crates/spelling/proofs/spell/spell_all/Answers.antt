use native.Mathlib.Omega.{arith}
use borrow.Author.Rules.{rules}
use Rattle.spelling.proofs.Turns.{spelt_none, spelt_more, spelt_all}
use Rattle.spelling.proofs.spell.spell_all.Goals as goal

pub loop-k-init : goal.loop-k-init
loop-k-init c = let a = c.args in (search rules, spelt_none a.text.now a.out.now)

pub read16-requires : goal.read16-requires
read16-requires c = omega arith

pub put_character-at-requires : goal.put_character-at-requires
put_character-at-requires c = omega arith

pub overflow_add-k : goal.overflow_add-k
overflow_add-k c = omega arith

pub loop-k-smaller : goal.loop-k-smaller
loop-k-smaller c = omega arith

pub loop-k-preserved : goal.loop-k-preserved
loop-k-preserved c =
    let l = c.loop-k in
    let a = c.args in (
      search rules,
      spelt_more a.text.now a.out.now l.out l.at l.k _ _ _ l.invariant.1 c.read16.ensures.value (omega arith) c.put_character-at.ensures,
    )

pub shape_of-out : goal.shape_of-out
shape_of-out c = c.loop-k.invariant.1.long

pub returns : goal.returns
returns c =
    let l = c.loop-k in
    let a = c.args in
    spelt_all a.text.now a.out.now l.out l.at l.k l.invariant.1 (omega arith)
