use mathlib.Core.Path.{◌≡◌, refl, sym, ap, ◌∙◌}
use mathlib.Core.List.{List, [], map}
use Prim.Native.Nat.{ℕ, ◌<◌}
use native.Mathlib.Omega.{arith}
use lib.ListN.{length, get_or, get_or-map, length-append}
use denote.Ref.{Bor}
use Rattle.std.specs.Prelude.{None}
use Rattle.std.proofs.lemmas.Grind.{common_steps}
use Rattle.std.proofs.lemmas.Slice.Zip.{zip_turn, zip_end}
use Rattle.refusals.proofs.WrittenLaws.{handed_on}
use Rattle.textwriting.proofs.Laws.{passed_none, passed_here, passed_key, passed_more, passed_all}
use Rattle.textwriting.proofs.first_handed.Goals as goal
use Rattle.textwriting.proofs.first_handed.Goals.{In-Some, In-None}

-- the key and the text of this turn
turn : (c : In-Some) → (length c.loop-key.yielded < length c.args.keys.now) × (length c.loop-key.yielded < length c.args.texts.now)
    × ((d : ℕ) → c.in-Some.field-0-0.now ≡ get_or c.args.keys.now (length c.loop-key.yielded) d)
    × ((d : Bor (List ℕ)) → c.in-Some.text.now ≡ get_or c.args.texts.now (length c.loop-key.yielded) d)
turn c =
    zip_turn _ _ _ c.into_iter-key-iterator.result c.loop-key.key-iterator c.next.new.self _ (grind (arith, common_steps)) (grind (arith, common_steps))
    c.loop-key.yielded_by (c.in-Some.field-0-0, c.in-Some.text) refl c.in-Some.ensures.steps

sized : (c : In-Some) → length c.in-Some.text.now.now ≡ length (get_or (map (λ x. x.now) c.args.texts.now) (length c.loop-key.yielded) [])
sized c =
    let d : Bor (List ℕ) = record { ref_ptr = (0, 0); now = [] } in
    ap (λ x. length x.now) ((turn c).3 d) ∙ sym (ap length (get_or-map (λ x. x.now) c.args.texts.now (length c.loop-key.yielded) d))

pub loop-key-init : goal.loop-key-init
loop-key-init c = passed_none _ _

pub returns-in_err-handed_fault : goal.returns-in_err-handed_fault
returns-in_err-handed_fault c =
    let t = (goal.at.returns-in_err-handed_fault c).In-Some in
    rw (handed_on _ _ c.from_residual.ensures) (passed_here _ _ _ _ c.loop-key.invariant _ _ ((turn t).2 0) (sized t) (turn t).1 _ c.in_err-handed_fault.ensures)

pub with-seen-requires : goal.with-seen-requires
with-seen-requires c =
    let t = (goal.at.with-seen-requires c).In-Some in
    passed_key _ _ _ _ c.loop-key.invariant _ _ ((turn t).2 0) (sized t) c.in_ok-handed_fault.ensures

pub loop-key-preserved : goal.loop-key-preserved
loop-key-preserved c =
    let t = (goal.at.loop-key-preserved c).In-Some in
    rw length-append (passed_more _ _ _ _ c.loop-key.invariant _ _ ((turn t).2 0) (sized t) c.in_ok-handed_fault.ensures (turn t).1 _ c.with-seen.ensures)

pub returns : goal.returns
returns c =
    let e = zip_end c.args.keys.now c.args.texts.now c.loop-key.yielded c.into_iter-key-iterator.result c.loop-key.key-iterator c.next.new.self None (grind (arith, common_steps)) (grind (arith, common_steps))
    c.loop-key.yielded_by refl c.in-None.ensures.steps in
    passed_all _ _ _ _ c.loop-key.invariant (omega (arith, e, c.requires))
