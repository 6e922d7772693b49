use native.Mathlib.Omega.{arith}
use borrow.Author.Rules.{rules}
use Rattle.spelling.proofs.Turns.{read_none, read_more, read_stops, turn_least, turn_most}
use Rattle.spelling.proofs.read.read_all.Goals as goal

pub loop-c-init : goal.loop-c-init
loop-c-init c = let a = c.args in read_none a.text.now a.out.now

pub shape_of-out-then-c-ne0 : goal.shape_of-out-then-c-ne0
shape_of-out-then-c-ne0 c = c.loop-c.invariant.long

pub returns-then-c-ne0 : goal.returns-then-c-ne0
returns-then-c-ne0 c =
    let l = c.loop-c in
    let a = c.args in
    read_stops a.text.now a.out.now l.out l.at l.n l.invariant c.character_at-c.result c.character_at-c.ensures c.if-c-ne0.true (search rules) _ c.least.ensures

pub keep-requires : goal.keep-requires
keep-requires c = omega (arith, c.loop-c.invariant.long)

pub overflow_add-at : goal.overflow_add-at
overflow_add-at c =
    let l = c.loop-c in
    let a = c.args in
    omega (arith, l.invariant.within, turn_most a.text.now a.out.now l.out l.at l.n l.invariant c.character_at-c.result c.character_at-c.ensures)

pub overflow_add-n : goal.overflow_add-n
overflow_add-n c =
    let l = c.loop-c in
    omega (arith, l.invariant.within, l.invariant.few)

pub loop-c-smaller : goal.loop-c-smaller
loop-c-smaller c =
    let l = c.loop-c in
    let a = c.args in
    omega (arith, l.invariant.within, turn_least a.text.now a.out.now l.out l.at l.n l.invariant c.character_at-c.result c.character_at-c.ensures c.if-c-ne0.false)

pub loop-c-preserved : goal.loop-c-preserved
loop-c-preserved c =
    let l = c.loop-c in
    let a = c.args in
    read_more a.text.now a.out.now l.out l.at l.n l.invariant c.character_at-c.result c.character_at-c.ensures c.if-c-ne0.false (search rules) _ c.keep.ensures
