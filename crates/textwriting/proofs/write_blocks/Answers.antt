use mathlib.Core.Path.{◌≡◌, refl, sym, ap, ◌∙◌}
use mathlib.Core.List.{List, [], map}
use Prim.Native.Nat.{ℕ, ◌+◌, ◌≤◌, ◌<◌}
use native.Mathlib.Omega.{arith}
use lib.ListN.{length, get_or, get_or-map, length-map, length-append}
use denote.Ref.{Bor}
use Rattle.std.specs.Prelude.{None}
use Rattle.std.proofs.lemmas.Grind.{common_steps}
use Rattle.std.proofs.lemmas.Slice.Zip.{zip_turn, zip_end}
use Rattle.paper.specs.Octets.{over}
use Rattle.paper.specs.Remedies.{blocks_of, size_to, block_octets, blocks_to}
use Rattle.paper.proofs.RemedyLaws.{size_rises, size_next}
use Rattle.textwriting.proofs.Laws.{blocks_begun, blocks_turn}
use Rattle.textwriting.proofs.write_blocks.Goals as goal
use Rattle.textwriting.proofs.write_blocks.Goals.{In-Some}

-- the key and the text of this turn
turn : (c : In-Some) → (length c.loop-key.yielded < length c.args.keys.now) × (length c.loop-key.yielded < length c.args.texts.now)
    × ((d : ℕ) → c.in-Some.field-0-0.now ≡ get_or c.args.keys.now (length c.loop-key.yielded) d)
    × ((d : Bor (List ℕ)) → c.in-Some.text.now ≡ get_or c.args.texts.now (length c.loop-key.yielded) d)
turn c =
    zip_turn _ _ _ c.into_iter-key-iterator.result c.loop-key.key-iterator c.next.new.self _ (grind (arith, common_steps)) (grind (arith, common_steps))
    c.loop-key.yielded_by (c.in-Some.field-0-0, c.in-Some.text) refl c.in-Some.ensures.steps

is_text : (c : In-Some) → c.in-Some.text.now.now ≡ get_or (map (λ x. x.now) c.args.texts.now) (length c.loop-key.yielded) []
is_text c =
    let d : Bor (List ℕ) = record { ref_ptr = (0, 0); now = [] } in
    ap (λ x. x.now) ((turn c).3 d) ∙ sym (get_or-map (λ x. x.now) c.args.texts.now (length c.loop-key.yielded) d)

-- this text fits behind those before it, and is short
fitted : (c : In-Some) → (c.loop-key.at + (6 + length c.in-Some.text.now.now) ≤ length c.args.out.now) × (length c.in-Some.text.now.now ≤ 254)
fitted c =
    let b = blocks_of c.args.keys.now (map (λ x. x.now) c.args.texts.now) in
    let h : length c.loop-key.yielded < b.many = omega (arith, (turn c).1, length-map c.args.texts.now (λ x. x.now)) in (
      omega (arith, size_rises b b.many (length c.loop-key.yielded) h, c.requires.room.fits, ap length (is_text c), c.loop-key.invariant.1),
      omega (arith, ap length (is_text c), c.requires.room.short (length c.loop-key.yielded) h),
    )

pub loop-key-init : goal.loop-key-init
unfolding size_to
loop-key-init c = (refl, refl, blocks_begun _ _)

pub write_block-requires : goal.write_block-requires
write_block-requires c =
    let t = fitted (goal.at.write_block-requires c).In-Some in
    (omega (arith, t.0, c.loop-key.invariant.0), t.1)

pub overflow_add-at-in-loop-key : goal.overflow_add-at-in-loop-key
overflow_add-at-in-loop-key c = omega (arith, fitted (goal.at.overflow_add-at-in-loop-key c).In-Some, c.well_formed)

pub loop-key-preserved : goal.loop-key-preserved
loop-key-preserved c =
    let t = (goal.at.loop-key-preserved c).In-Some in
    let b = blocks_of c.args.keys.now (map (λ x. x.now) c.args.texts.now) in
    let k = length c.loop-key.yielded in
    rw length-append (
      omega (arith, c.loop-key.invariant.0),
      omega (arith, size_next b k, ap length (is_text t), c.loop-key.invariant.1),
      blocks_turn b c.args.out.now c.loop-key.out c.write_block.new.out k _ _ c.loop-key.invariant.2
          (omega (arith, (fitted t).0, ap length (is_text t), c.loop-key.invariant.1))
          ((turn t).2 0) (is_text t) (c.write_block.ensures ∙ ap (λ (a : ℕ). over c.loop-key.out a (block_octets c.in-Some.field-0-0.now c.in-Some.text.now.now)) c.loop-key.invariant.1),
    )

pub returns : goal.returns
returns c =
    let e = zip_end c.args.keys.now c.args.texts.now c.loop-key.yielded c.into_iter-key-iterator.result c.loop-key.key-iterator c.next.new.self None (grind (arith, common_steps)) (grind (arith, common_steps))
    c.loop-key.yielded_by refl c.in-None.ensures.steps in
    let q : length c.loop-key.yielded ≡ length c.args.texts.now = omega (arith, e, c.requires.agree) in
    c.loop-key.invariant.2 ∙ ap (λ (n : ℕ). over c.args.out.now 30 (blocks_to (blocks_of c.args.keys.now (map (λ x. x.now) c.args.texts.now)) n)) q
