use mathlib.Core.Path.{◌≡◌, refl, sym, ap, ap₂, ◌∙◌}
use mathlib.Core.List.{List, [], map}
use Prim.Native.Nat.{ℕ, ◌≤◌, ◌<◌}
use native.Mathlib.Nat.{lt_irrefl}
use native.Mathlib.Omega.{arith}
use lib.ListN.{length, get_or, take, drop, length-map, get_or-map, length-set}
use lib.Seq.{get_or-take, length-take-le}
use borrow.Author.Count.{below_more}
use denote.Ref.{Bor}
use Rattle.std.proofs.Common.{get_or-set_other, get_or-set_same}
use Rattle.paper.specs.Remedies.{area_to}
use Rattle.textwriting.proofs.Laws.{wrote_refused, not_added, not_as_many, too_many, too_long, as_texts, area_none, area_more}
use Rattle.textwriting.proofs.write_area.Goals as goal
use Rattle.textwriting.proofs.write_area.Goals.{After-loop-k}

pub returns-then-not-adds_up : goal.returns-then-not-adds_up
returns-then-not-adds_up c = wrote_refused _ _ _ (not_added _ _ _ _ _ _ _ _ (sym c.adds_up.ensures ∙ c.if-not-adds_up.true))

pub returns-then-keys-n : goal.returns-then-keys-n
returns-then-keys-n c = wrote_refused _ _ _ (not_as_many _ _ _ _ _ _ _ _ c.if-keys-n.true)

pub returns-then-has_room : goal.returns-then-has_room
returns-then-has_room c =
    wrote_refused _ _ _ (too_many _ _ _ _ _ _ _ _ (sym c.adds_up.ensures ∙ c.if-not-adds_up.false) c.if-keys-n.false c.if-n-gt8.true (sym c.has_room.ensures ∙ c.if-has_room.true))

pub returns-else-has_room : goal.returns-else-has_room
returns-else-has_room c =
    wrote_refused _ _ _ (too_long _ _ _ _ _ _ _ _ (sym c.adds_up.ensures ∙ c.if-not-adds_up.false) c.if-keys-n.false (sym c.has_room.ensures ∙ c.if-has_room.false))

-- what is not handed on of the eight texts is past the last length
lent : (c : After-loop-k) → length (take (length c.args.lengths.now) c.loop-k.texts) ≡ length c.args.lengths.now
lent c = let few : length c.args.lengths.now ≤ length c.loop-k.texts = omega arith in length-take-le (length c.args.lengths.now) c.loop-k.texts few

pub loop-k-init : goal.loop-k-init
loop-k-init c = (area_none c.args.lengths.now, omega arith, refl, λ j h. absurd (lt_irrefl 0 (omega arith)))

pub loop-k-preserved : goal.loop-k-preserved
loop-k-preserved c =
    let l = c.loop-k in
    let i = l.invariant in (
      omega (arith, area_more c.args.lengths.now l.k, i.0, c.from-size.ensures),
      omega (arith, i.1, c.from-size.ensures, c.type_inv.lengths l.k),
      simp length-set i.2,
      below_more _ _
          (λ j h. let ne : j ≡ l.k → ⊥ = omega arith in rw get_or-set_other (i.3 j h))
          (let lt : l.k < length l.texts = omega arith in rw get_or-set_same (c.part.ensures ∙ ap₂ (λ (n a : ℕ). take n (drop a c.args.area.now)) c.from-size.ensures i.0)),
    )

pub returns : goal.returns
returns c =
    let a = c.args in
    let N = length a.lengths.now in
    let t = (goal.at.returns c).After-loop-k in
    let d : Bor (List ℕ) = record { ref_ptr = (0, 0); now = [] } in
    let each : (k : ℕ) → k < N → get_or (map (λ x. x.now) (take N c.loop-k.texts)) k [] ≡ take (get_or a.lengths.now k 0) (drop (area_to a.lengths.now k) a.area.now) =
    λ k h. get_or-map (λ x. x.now) (take N c.loop-k.texts) k d ∙ ap (λ x. x.now) (get_or-take N c.loop-k.texts k d h) ∙ c.loop-k.invariant.3 k (omega arith) in
    rw (sym (as_texts a.head.now a.carried.now a.language a.ordered a.keys.now a.lengths.now a.area.now a.out.now
    (sym c.adds_up.ensures ∙ c.if-not-adds_up.false) c.if-keys-n.false (map (λ x. x.now) (take N c.loop-k.texts))
    (length-map (take N c.loop-k.texts) (λ x. x.now) ∙ lent t) each))
    c.write_remedies.ensures
