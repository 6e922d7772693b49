-- `known::knows` meets its contract. Assumes nothing.
use mathlib.Core.Path.{ap, ◌∙◌}
use native.Mathlib.Omega.{arith}
use lib.Dec.{leb}
use Rattle.paper.specs.SignalList.{Code, knows as listKnows}
use Rattle.known.proofs.Laws.{listed_ordered, knows_all, knows_below, knows_past, knows_here}
use Rattle.known.proofs.knows.Goals as goal

pub returns-then-own : goal.returns-then-own
unfolding listKnows
returns-then-own c = knows_all _ _ (listed_ordered c.args.list.now) _ _ _ c.requires.1 _ c.if-own.true

pub returns-then-code-gt65535 : goal.returns-then-code-gt65535
unfolding listKnows
returns-then-code-gt65535 c =
    let h = listed_ordered c.args.list.now in
    knows_below _ _ h _ _ _ c.requires.1 _ (omega (arith, c.if-own.false, c.requires.1.ordered)) (λ g lt q. omega (arith, h.small g lt))

pub first_high-e-requires : goal.first_high-e-requires
first_high-e-requires c = (c.requires.1, omega arith)

pub returns-then-own-e : goal.returns-then-own-e
unfolding listKnows
returns-then-own-e c =
    knows_past _ _ (listed_ordered c.args.list.now) _ _ _ c.requires.1 _ (omega (arith, c.if-own.false, c.requires.1.ordered)) _ c.first_high-e.ensures
    c.if-own-e.true

pub returns : goal.returns
unfolding listKnows
returns c =
    ap (λ (x : Code). leb x.low c.args.code) c.code.ensures.is
    ∙ knows_here _ _ (listed_ordered c.args.list.now) _ _ _ c.requires.1 _ (omega (arith, c.if-own.false, c.requires.1.ordered)) _ c.first_high-e.ensures
    c.if-own-e.false
