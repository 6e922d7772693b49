-- Request C-16: the gap is that between the last two telegrams taken from the vehicle, and nothing else sees the previous stamp. Assumes nothing.
use Prim.Native.Nat.{ℕ, ◌+◌, ◌-◌, ◌%◌, ◌≤◌, ◌<◌}
use mathlib.Core.Path.{◌≡◌, refl, sym, ap, ◌∙◌}
use mathlib.Core.Bool.{Bool, true, false, ◌||◌, cond}
use mathlib.Core.List.{List, [], ◌∷◌}
use native.Mathlib.Nat.{mod-eq_of_lt}
use native.Mathlib.Omega.{arith}
use lib.ListN.{length}
use lib.Dec.{eqb}
use borrow.Author.Tests.{eq-eqb, le-leb, leb-true}
use Rattle.bools.proofs.Tests.{both}
use Rattle.paper.specs.Answer.{Answer, gives, refused, refuse_if, after}
use Rattle.paper.specs.Telegrams.{telegram_type}
use Rattle.paper.specs.Store.{vehicles, telegram_octets, store_octets, is_vehicle, Slot, slot_of, ever_heard, moved, taken, taking, turn, age, gap, gapping, Takes, stale, sweeping}
use Rattle.paper.specs.Demands.{Step, offer, sweep, step, run, Passes, NoneLater}
use Rattle.paper.proofs.SweepLaws.{aged, slot_swept, sweeps}
use Rattle.paper.proofs.StoreLaws.{takes, padded, type_short, slot_says, slot_taken, length_taken, step_other, length_run}

-- ---- cases at which a sentence misread shows

abbrev slot_with : ℕ → Slot
slot_with mark = record { heard = mark; stamp = 9; previous = 4; telegram = [] }

-- "heard octet 1 or 2", and no other
pub only_1_and_2 : (moved (slot_with 0) ≡ 0) × (moved (slot_with 1) ≡ 9) × (moved (slot_with 2) ≡ 9) × (moved (slot_with 3) ≡ 0)
    × (gap (slot_with 0) ≡ 0) × (gap (slot_with 1) ≡ 5) × (gap (slot_with 2) ≡ 5) × (gap (slot_with 3) ≡ 0)
unfolding gap age
only_1_and_2 = (refl, refl, refl, refl, refl, refl, refl, refl)

-- "modulo 4,294,967,296": the counter came round between the two
pub round : gap (record { heard = 1; stamp = 3; previous = turn - 2; telegram = [] }) ≡ 5
unfolding gap age
round = refl

-- ---- the gap of a store

pub gap_it : (store : List ℕ) (v : ℕ) → length store ≡ store_octets → 1 ≤ v → v ≤ vehicles → gapping store v ≡ gives (gap (slot_of store v))
unfolding gapping refuse_if
gap_it store v whole first last = rw (eq-eqb _ _ whole, le-leb _ _ first, le-leb _ _ last)

-- what a slot says after a telegram was taken: the stamp that was there stands behind the new one
pub slot_after : (store : List ℕ) (v now : ℕ) (t : List ℕ) → Takes store v t → now < turn
    → slot_of (taken store v now t) v ≡ record { heard = 1; stamp = now; previous = moved (slot_of store v) % turn; telegram = padded t }
slot_after store v now t g h =
    slot_taken store v now t g.whole g.first g.last (omega (arith, g.long, type_short (telegram_type t)))
    ∙ slot_says now (moved (slot_of store v)) t h

-- a telegram is taken at `now`: the gap is from the stamp that was there, or from 0 where there was none
pub gap_after : (store : List ℕ) (v now : ℕ) (t new : List ℕ) → now < turn → taking store v now t ≡ gives new
    → gapping new v ≡ gives (age now (moved (slot_of store v) % turn))
unfolding gap
gap_after store v now t new h e =
    let k = takes store v now t new e in
    let g = k.0 in
    let short : length t ≤ telegram_octets = omega (arith, g.long, type_short (telegram_type t)) in
    let whole = length_taken store v now t g.whole g.first g.last short ∙ g.whole in
    rw (← k.1) (gap_it (taken store v now t) v whole g.first g.last ∙ ap (λ (s : Slot). gives (gap s)) (slot_after store v now t g h))

-- so after a vehicle's first telegram the gap is the stamp itself
pub first_arrival : (store : List ℕ) (v now : ℕ) (t new : List ℕ) → now < turn → ever_heard (slot_of store v) ≡ false → taking store v now t ≡ gives new
    → gapping new v ≡ gives now
unfolding age
first_arrival store v now t new h never e =
    let none : moved (slot_of store v) % turn ≡ 0 = rw never refl in
    let same : (now + turn - 0) % turn ≡ now = omega arith in
    gap_after store v now t new h e ∙ ap (λ (x : ℕ). gives (age now x)) none ∙ ap gives same

-- ---- what takes nothing from a vehicle

-- a sweep leaves both stamps, and that the slot was heard
pub ever_aged : (s : Slot) (now : ℕ) → ever_heard (aged s now) ≡ ever_heard s
unfolding stale
ever_aged s now = by (stale s now) refl
  where
    by : (b : Bool) → stale s now ≡ b → (eqb (cond b 2 s.heard) 1 || eqb (cond b 2 s.heard) 2) ≡ ever_heard s
    by true e = let was : eqb s.heard 1 ≡ true = (both _ _ e).0 in rw was refl
    by false e = refl

pub moved_aged : (s : Slot) (now : ℕ) → moved (aged s now) ≡ moved s
moved_aged s now = ap (λ (b : Bool). cond b s.stamp 0) (ever_aged s now)

gap_aged : (s : Slot) (now : ℕ) → gap (aged s now) ≡ gap s
unfolding gap
gap_aged s now = ap (λ (b : Bool). cond b (age s.stamp s.previous) 0) (ever_aged s now)

-- what a sweep leaves of a slot, every step leaves that takes nothing from the vehicle: another's telegram, a refused one, a sweep
module _ {A : Type 0} (of : Slot → A) (aging : (s : Slot) (now : ℕ) → of (aged s now) ≡ of s) (v : ℕ) (first : 1 ≤ v) (last : v ≤ vehicles) where
  left_step : (store : List ℕ) (s : Step) → Passes v store s → of (slot_of (step store s) v) ≡ of (slot_of store v)
  left_step store (offer w now t) p = ap of (step_other v store (offer w now t) first last p tt)
  left_step store (sweep now) p = by (sweeping store now) refl
    where
      by : (a : Answer (List ℕ)) → sweeping store now ≡ a → of (slot_of (after store a) v) ≡ of (slot_of store v)
      by (refused n at) e = refl
      by (gives new) e = let t = sweeps store now new e in rw (← t.1) (ap of (slot_swept store now t.0 v first last) ∙ aging (slot_of store v) now)

  pub left_run : (store : List ℕ) (steps : List Step) → NoneLater v store steps → of (slot_of (run store steps) v) ≡ of (slot_of store v)
  unfolding run NoneLater
  left_run store [] none = refl
  left_run store (s ∷ ss) none = left_run (step store s) ss none.1 ∙ left_step store s none.0

-- ---- two arrivals

-- two telegrams taken from v at the clock values c and d, and between them any steps that take nothing from it: the gap is d less c
pub two_arrivals : (before : List ℕ) (v c : ℕ) (t between : List ℕ) (steps : List Step) (d : ℕ) (u new : List ℕ) → c < turn → d < turn
    → taking before v c t ≡ gives between → NoneLater v between steps → taking (run between steps) v d u ≡ gives new
    → gapping new v ≡ gives (age d c)
two_arrivals before v c t between steps d u new hc hd one none two =
    let k = takes before v c t between one in
    let g = k.0 in
    let there : moved (slot_of between v) ≡ c = rw (← k.1, slot_after before v c t g hc) refl in
    let still : moved (slot_of (run between steps) v) ≡ c = left_run moved moved_aged v g.first g.last between steps none ∙ there in
    gap_after (run between steps) v d u new hd two
    ∙ ap (λ (x : ℕ). gives (age d (x % turn))) still
    ∙ ap (λ (x : ℕ). gives (age d x)) (mod-eq_of_lt hc)

-- and it stays so, until the next one is taken from v
pub gap_stays : (store : List ℕ) (v : ℕ) (steps : List Step) → NoneLater v store steps → gapping (run store steps) v ≡ gapping store v
unfolding gapping refuse_if
gap_stays store v steps none = by (is_vehicle v) refl
  where
    by : (b : Bool) → is_vehicle v ≡ b → gapping (run store steps) v ≡ gapping store v
    by false e = rw (e, length_run store steps) refl
    by true e =
        let w = both _ _ e in
        rw (length_run store steps, left_run gap gap_aged v (leb-true _ _ w.0) (leb-true _ _ w.1) store steps none) refl
