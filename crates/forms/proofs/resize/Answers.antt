use Prim.Native.Nat.{◌+◌, ◌-◌, ◌*◌}
use mathlib.Core.Path.{◌≡◌, ◌∙◌}
use native.Mathlib.Omega.{arith}
use Rattle.lists.specs.Judged.{counts_of}
use Rattle.forms.proofs.Laws.{not_resized, made_none, turn, resized_done, to_the_end}
use Rattle.forms.proofs.resize.Goals as goal

pub returns-then-out-list : goal.returns-then-out-list
returns-then-out-list g c = not_resized _ _ (counts_of c.args.n) c.requires.laid c.requires.sized _ c.if-out-list.true

pub loop-k-init : goal.loop-k-init
loop-k-init g c = rw (made_none g.row.SIZE c.args.list.now (counts_of c.args.n)) c.copy_over.ensures

pub loop-k-preserved : goal.loop-k-preserved
loop-k-preserved g c =
    let from = 2 + 2 * c.args.n.checks + 2 + c.args.n.size * c.loop-k.k in
    let z : from + 16 - from ≡ 16 = omega arith in
    c.fill_zero.ensures
    ∙ rw (c.copy_over-in-loop-k.ensures, z, c.loop-k.invariant)
    (turn g.row.SIZE c.args.list.now (counts_of c.args.n) c.requires.laid c.requires.sized c.args.out.now c.if-out-list.false c.loop-k.k c.loop-k-test.true)

pub returns : goal.returns
returns g c =
    let k : c.loop-k.k ≡ c.args.n.signals = omega arith in
    resized_done g.row.SIZE c.args.list.now (counts_of c.args.n) c.requires.laid c.requires.sized c.args.out.now c.if-out-list.false _
    (c.copy_over-2.ensures ∙ rw (c.loop-k.invariant, k, to_the_end (2 + 2 * c.args.n.checks + 2 + c.args.n.size * c.args.n.signals) c.args.list.now))
