use mathlib.Core.Path.{ap}
use mathlib.Core.List.{[], map}
use Prim.Native.Nat.{◌+◌, ◌≤◌}
use native.Mathlib.Omega.{arith}
use lib.ListN.{length, get_or, length-map, get_or-map}
use Rattle.paper.specs.Remedies.{blocks_of, size_to}
use Rattle.paper.proofs.RemedyLaws.{size_least, size_rises, size_next}
use Rattle.textwriting.proofs.Laws.{size_short}
use Rattle.textwriting.proofs.size_in.Goals as goal
use Rattle.textwriting.proofs.size_in.Goals.{In-loop-text}

-- the text of this turn, and that the telegram is at least as long as it is with it
rises : (c : In-loop-text) → let b = blocks_of [] (map (λ x. x.now) c.args.texts.now) in
    size_to b c.loop-text.text-index + (6 + length (get_or c.args.texts.now c.loop-text.text-index (record { ref_ptr = (0, 0); now = [] })).now) ≤ size_to b b.many
rises c =
    let b = blocks_of [] (map (λ x. x.now) c.args.texts.now) in
    omega (
      arith,
      size_rises b b.many c.loop-text.text-index (omega (arith, length-map c.args.texts.now (λ x. x.now))),
      ap length (get_or-map (λ x. x.now) c.args.texts.now c.loop-text.text-index (record { ref_ptr = (0, 0); now = [] })),
    )

pub returns-in_err-left : goal.returns-in_err-left
returns-in_err-left c =
    let b = blocks_of [] (map (λ x. x.now) c.args.texts.now) in
    rw c.from_residual.ensures (size_short b c.args.room (omega (arith, size_least b b.many, c.in_err-left.ensures)))

pub returns-in_err-checked_sub : goal.returns-in_err-checked_sub
returns-in_err-checked_sub c =
    rw c.from_residual-in_err-checked_sub.ensures
    (size_short _ _ (omega (arith, rises (goal.at.returns-in_err-checked_sub c).In-loop-text, c.loop-text.invariant, c.in_err-checked_sub.ensures)))

pub returns-in_err-left-2 : goal.returns-in_err-left-2
returns-in_err-left-2 c =
    rw c.from_residual-in_err-left-2.ensures
    (size_short _ _ (omega (arith, rises (goal.at.returns-in_err-left-2 c).In-loop-text, c.loop-text.invariant, c.in_ok-checked_sub.ensures, c.in_err-left-2.ensures)))

pub loop-text-init : goal.loop-text-init
unfolding size_to
loop-text-init c = omega (arith, c.in_ok-left.ensures)

pub loop-text-preserved : goal.loop-text-preserved
loop-text-preserved c =
    let taken = ap length (get_or-map (λ x. x.now) c.args.texts.now c.loop-text.text-index (record { ref_ptr = (0, 0); now = [] })) in
    omega (
      arith,
      size_next (blocks_of [] (map (λ x. x.now) c.args.texts.now)) c.loop-text.text-index,
      taken,
      c.loop-text.invariant,
      c.in_ok-checked_sub.ensures,
      c.in_ok-left-2.ensures,
    )
