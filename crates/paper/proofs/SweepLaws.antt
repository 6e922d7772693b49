-- C-12, a sweep over the definitions: what it does to each slot and to each octet, and how an expired slot is read. Assumes nothing.
use Prim.Native.Nat.{ℕ, zero, suc, ◌+◌, ◌-◌, ◌≤◌, ◌<◌}
use mathlib.Core.Path.{◌≡◌, refl, sym, ap, ◌∙◌}
use mathlib.Core.Logic.{◌⊎◌, inl, inr}
use mathlib.Core.Bool.{Bool, true, false, cond}
use mathlib.Core.List.{List, [], ◌∷◌}
use native.Mathlib.Omega.{arith}
use native.Mathlib.Decide.{dec_lt, ℕ_discrete}
use lib.ListN.{length, get_or, set, take, drop, length-set, length-take, length-drop}
use lib.Seq.{get_or-take, get_or-drop, get_or-set_same, get_or-set_other, drop-set-lt, drop-set-add, take-set-le, take-set-lt}
use lib.Dec.{leb, eqb}
use borrow.Author.Tests.{eq-eqb, ne_eqb, eqb-true, not-false}
use Rattle.bools.proofs.Tests.{both}
use Rattle.paper.specs.Octets.{bit, field, number}
use Rattle.paper.specs.Answer.{gives, refused, refuse_if}
use Rattle.paper.specs.Telegrams.{application_type, telegram_type, is_type}
use Rattle.paper.specs.SignalList.{SignalList}
use Rattle.paper.specs.Store.{vehicles, slot_octets, store_octets, slot_start, Slot, slot_from, slot_of, age, timely, stale, swept_one, swept_to, swept, sweeping}
use Rattle.paper.specs.Reading.{Reading, code_of, heard, hindrances, reason_of, reading_of, reading_at}
use Rattle.paper.proofs.AnswerLaws.{not_refused, gives_one}

-- ---- cases at which a sentence misread shows

-- a slot with this heard octet and this octet 1 of its telegram, stamped 0
abbrev marked : ℕ → ℕ → Slot
marked mark head = record { heard = mark; stamp = 0; previous = 0; telegram = head ∷ [] }

-- "above 600,000 ms": 600,000 are not, and the head is not looked at
pub above_600000 : (stale (marked 1 0x11) 600000 ≡ false) × (stale (marked 1 0x11) 600001 ≡ true) × (stale (marked 1 0x21) 600001 ≡ true)
unfolding stale age
above_600000 = (refl, refl, refl)

-- "a heard slot": an expired one, and one with any other octet, stays as it is
pub only_heard : (stale (marked 0 0x11) 600001 ≡ false) × (stale (marked 2 0x11) 600001 ≡ false) × (stale (marked 7 0x11) 600001 ≡ false)
unfolding stale age
only_heard = (refl, refl, refl)

-- an expired slot was heard, unless its head is bad; one with any other octet was not
pub once_heard : (heard (marked 2 0x11) ≡ true) × (heard (marked 2 0x21) ≡ false) × (heard (marked 2 0x14) ≡ false) × (heard (marked 7 0x11) ≡ false)
unfolding heard application_type telegram_type field bit
once_heard = (refl, refl, refl, refl)

-- and is too old under every limit, at an age of 0 too, and under none in time
pub expired_untimely : (timely (marked 2 0x11) 0 600000 ≡ false) × (timely (marked 2 0x11) 0 1 ≡ false) × (timely (marked 2 0x11) 600001 0 ≡ true)
unfolding age
expired_untimely = (refl, refl, refl)

-- ---- a slot

-- as a sweep leaves it: the heard octet goes from 1 to 2, or nothing changes
abbrev pub aged : Slot → ℕ → Slot
aged s now = record { heard = cond (stale s now) 2 s.heard; stamp = s.stamp; previous = s.previous; telegram = s.telegram }

-- the octets of a slot with the first of them replaced
first_set : (m : List ℕ) (x : ℕ) → 0 < length m
    → slot_from (set m 0 x) ≡ record { heard = x; stamp = (slot_from m).stamp; previous = (slot_from m).previous; telegram = (slot_from m).telegram }
unfolding number
first_set [] x h = absurd (omega arith)
first_set (y ∷ m) x h = refl

-- a store with the heard octet of vehicle v replaced
module _ (store : List ℕ) (v x : ℕ) (first : 1 ≤ v) where
  slot_set : slot_start v < length store
      → slot_of (set store (slot_start v) x) v
      ≡ record { heard = x; stamp = (slot_of store v).stamp; previous = (slot_of store v).previous; telegram = (slot_of store v).telegram }
  unfolding slot_of
  slot_set h =
      let z : slot_start v + 0 ≡ slot_start v = omega arith in
      ap (λ (i : ℕ). slot_from (take slot_octets (drop (slot_start v) (set store i x)))) (sym z)
      ∙ ap (λ (m : List ℕ). slot_from (take slot_octets m)) (drop-set-add (slot_start v) store 0 x)
      ∙ ap slot_from (take-set-lt slot_octets (drop (slot_start v) store) 0 x (omega arith))
      ∙ first_set (take slot_octets (drop (slot_start v) store)) x (simp (length-take, length-drop) (omega arith))

  pub set_other : (w : ℕ) → 1 ≤ w → (v ≡ w → ⊥) → slot_of (set store (slot_start v) x) w ≡ slot_of store w
  unfolding slot_of
  set_other w h ne = ap slot_from (side (dec_lt w v))
    where
      side : Dec (w < v) → take slot_octets (drop (slot_start w) (set store (slot_start v) x)) ≡ take slot_octets (drop (slot_start w) store)
      side (yes lt) =
          let e : slot_start w + (slot_start v - slot_start w) ≡ slot_start v = omega arith in
          ap (λ (j : ℕ). take slot_octets (drop (slot_start w) (set store j x))) (sym e)
          ∙ ap (take slot_octets) (drop-set-add (slot_start w) store (slot_start v - slot_start w) x)
          ∙ take-set-le slot_octets (drop (slot_start w) store) (slot_start v - slot_start w) x (omega arith)
      side (no ge) = ap (take slot_octets) (drop-set-lt (slot_start w) store (slot_start v) x (omega arith))

-- one vehicle's slot swept
module _ (store : List ℕ) (now v : ℕ) (first : 1 ≤ v) where
  length_one : length (swept_one store now v) ≡ length store
  unfolding swept_one
  length_one = by (stale (slot_of store v) now)
    where
      by : (b : Bool) → length (cond b (set store (slot_start v) 2) store) ≡ length store
      by true = length-set store (slot_start v) 2
      by false = refl

  pub slot_one : slot_start v < length store → slot_of (swept_one store now v) v ≡ aged (slot_of store v) now
  unfolding swept_one
  slot_one h = by (stale (slot_of store v) now)
    where
      by : (b : Bool) → slot_of (cond b (set store (slot_start v) 2) store) v
          ≡ record { heard = cond b 2 (slot_of store v).heard; stamp = (slot_of store v).stamp; previous = (slot_of store v).previous; telegram = (slot_of store v).telegram }
      by true = slot_set store v 2 first h
      by false = refl

  one_other : (w : ℕ) → 1 ≤ w → (v ≡ w → ⊥) → slot_of (swept_one store now v) w ≡ slot_of store w
  unfolding swept_one
  one_other w h ne = by (stale (slot_of store v) now)
    where
      by : (b : Bool) → slot_of (cond b (set store (slot_start v) 2) store) w ≡ slot_of store w
      by true = set_other store v 2 first w h ne
      by false = refl

-- ---- the store

-- an octet that a sweep changes: the first of a vehicle's slot, from 1 to 2
pub record Expires (i old new : ℕ) : Type 0 where
  pub vehicle : ℕ
  pub first : 1 ≤ vehicle
  pub last : vehicle ≤ vehicles
  pub start : i ≡ slot_start vehicle
  pub was : old ≡ 1
  pub is : new ≡ 2

pub heard_octet : (store : List ℕ) (v : ℕ) → (slot_of store v).heard ≡ get_or store (slot_start v) 0
unfolding slot_of
heard_octet store v =
    let z : slot_start v + 0 ≡ slot_start v = omega arith in
    get_or-take slot_octets (drop (slot_start v) store) 0 0 (omega arith) ∙ get_or-drop (slot_start v) store 0 0 ∙ ap (λ (i : ℕ). get_or store i 0) z

module _ (store : List ℕ) (now : ℕ) where
  pub length_swept : (n : ℕ) → length (swept_to store now n) ≡ length store
  unfolding swept_to
  length_swept zero = refl
  length_swept (suc n) = length_one (swept_to store now n) now (suc n) (omega arith) ∙ length_swept n

  -- a vehicle that the sweep has not come to yet
  swept_ahead : (n w : ℕ) → n < w → slot_of (swept_to store now n) w ≡ slot_of store w
  unfolding swept_to
  swept_ahead zero w h = refl
  swept_ahead (suc n) w h =
      one_other (swept_to store now n) now (suc n) (omega arith) w (omega arith) (λ e. omega arith) ∙ swept_ahead n w (omega arith)

  -- one that it has passed
  swept_behind : (n w : ℕ) → 1 ≤ w → w ≤ n → slot_start n < length store → slot_of (swept_to store now n) w ≡ aged (slot_of store w) now
  unfolding swept_to
  swept_behind zero w a b h = absurd (omega arith)
  swept_behind (suc n) w a b h = by (ℕ_discrete (suc n) w) (λ c. swept_behind n w a c (omega arith))
    where
      by : Dec (suc n ≡ w) → (w ≤ n → slot_of (swept_to store now n) w ≡ aged (slot_of store w) now)
          → slot_of (swept_one (swept_to store now n) now (suc n)) w ≡ aged (slot_of store w) now
      by (yes e) rest =
          rw (← e)
          (slot_one (swept_to store now n) now (suc n) (omega arith) (omega (arith, length_swept n))
          ∙ ap (λ (s : Slot). aged s now) (swept_ahead n (suc n) (omega arith)))
      by (no ne) rest = one_other (swept_to store now n) now (suc n) (omega arith) w a ne ∙ rest (omega arith)

  module _ (whole : length store ≡ store_octets) where
    -- "a heard slot whose age is above 600,000 ms gets heard octet 2": every slot of the store, each by itself
    pub slot_swept : (v : ℕ) → 1 ≤ v → v ≤ vehicles → slot_of (swept store now) v ≡ aged (slot_of store v) now
    slot_swept v a b = swept_behind vehicles v a b (omega arith)

    octet_to : (n i : ℕ) → n ≤ vehicles
        → (get_or (swept_to store now n) i 0 ≡ get_or store i 0) ⊎ Expires i (get_or store i 0) (get_or (swept_to store now n) i 0)
    unfolding swept_to swept_one stale
    octet_to zero i h = inl refl
    octet_to (suc n) i h = by (stale (slot_of (swept_to store now n) (suc n)) now) refl (ℕ_discrete i (slot_start (suc n))) (octet_to n i (omega arith))
      where
        by : (b : Bool) → stale (slot_of (swept_to store now n) (suc n)) now ≡ b → Dec (i ≡ slot_start (suc n))
            → (get_or (swept_to store now n) i 0 ≡ get_or store i 0) ⊎ Expires i (get_or store i 0) (get_or (swept_to store now n) i 0)
            → let new = cond b (set (swept_to store now n) (slot_start (suc n)) 2) (swept_to store now n) in
            (get_or new i 0 ≡ get_or store i 0) ⊎ Expires i (get_or store i 0) (get_or new i 0)
        by false e d rest = rest
        by true e (no ne) rest = rw (get_or-set_other (swept_to store now n) (slot_start (suc n)) i 2 0 ne) rest
        by true e (yes q) rest =
            let one : (slot_of (swept_to store now n) (suc n)).heard ≡ 1 = eqb-true _ _ (both _ _ e).0 in
            let before = ap (λ (s : Slot). s.heard) (swept_ahead n (suc n) (omega arith)) in
            inr
            (record {
              vehicle = suc n;
              first = omega arith;
              last = h;
              start = q;
              was = ap (λ (j : ℕ). get_or store j 0) q ∙ sym (heard_octet store (suc n)) ∙ sym before ∙ one;
              is = rw q (get_or-set_same (swept_to store now n) (slot_start (suc n)) 2 0 (omega (arith, length_swept n)));
            })

    -- and no other octet of the store changes
    pub octet_swept : (i : ℕ) → (get_or (swept store now) i 0 ≡ get_or store i 0) ⊎ Expires i (get_or store i 0) (get_or (swept store now) i 0)
    octet_swept i = octet_to vehicles i (omega arith)

-- ---- the call

pub sweeps : (store : List ℕ) (now : ℕ) (new : List ℕ) → sweeping store now ≡ gives new → (length store ≡ store_octets) × (swept store now ≡ new)
unfolding sweeping
sweeps store now new e =
    let a = not_refused _ _ _ _ _ e in
    (eqb-true _ _ (not-false _ a.0), gives_one _ _ _ refl a.1)

-- and what is a store is swept
pub sweeps_it : (store : List ℕ) (now : ℕ) → length store ≡ store_octets → sweeping store now ≡ gives (swept store now)
unfolding sweeping refuse_if
sweeps_it store now whole = rw (eq-eqb _ _ whole)

-- "Refusals: 5": of every other length, and nothing else is refused
pub sweep_refused : (store : List ℕ) (now : ℕ) → (length store ≡ store_octets → ⊥) → sweeping store now ≡ refused 5 0
unfolding sweeping refuse_if
sweep_refused store now ne = rw (ne_eqb _ _ ne)

-- ---- how an expired slot is read

-- "signals with none read as before": whatever a sweep may do to a slot
pub no_limit : (l : SignalList) (s : Slot) (then now k : ℕ) → (l.signal k).limit ≡ 0 → reading_of l (aged s then) now k ≡ reading_of l s now k
unfolding reading_of reason_of hindrances heard stale
no_limit l s then now k z =
    let given : ℕ → Reading = λ r. record { value = cond (leb 2 r) (l.signal k).replacement (code_of (l.signal k) s.telegram); reason = r } in
    ap given (by (stale s then) refl)
  where
    by : (b : Bool) → stale s then ≡ b → reason_of l (aged s then) now k ≡ reason_of l s now k
    by false e = rw e
    by true e = let h : s.heard ≡ 1 = eqb-true _ _ (both _ _ e).0 in rw (e, h, z)

pub no_limit_swept : (l : SignalList) (store : List ℕ) (then now v k : ℕ) → length store ≡ store_octets → 1 ≤ v → v ≤ vehicles
    → (l.signal k).limit ≡ 0 → reading_at l (swept store then) now v k ≡ reading_at l store now v k
unfolding reading_at
no_limit_swept l store then now v k whole first last z = rw (slot_swept store then whole v first last) (no_limit l (slot_of store v) then now k z)

-- "signals with a limit are too old (reason 3)", whatever the clock says
pub expired_old : (l : SignalList) (s : Slot) (now k : ℕ) → s.heard ≡ 2 → 1 ≤ (l.signal k).limit → application_type s.telegram ≡ 1
    → is_type (telegram_type s.telegram) ≡ true → reason_of l s now k ≡ 3
unfolding reason_of hindrances heard
expired_old l s now k e limited a b = rw (e, a, b, ne_eqb (l.signal k).limit 0 (λ z. omega arith))

-- unless its head is no R-telegram's: that is 2, "the first that applies", with a limit or none
pub expired_bad_head : (l : SignalList) (s : Slot) (now k : ℕ) → s.heard ≡ 2
    → (application_type s.telegram ≡ 1 → ⊥) ⊎ (is_type (telegram_type s.telegram) ≡ false) → reason_of l s now k ≡ 2
unfolding reason_of hindrances heard
expired_bad_head l s now k e (inl n) = rw (e, ne_eqb _ _ n)
expired_bad_head l s now k e (inr b) = by (eqb (application_type s.telegram) 1) refl
  where
    by : (a : Bool) → eqb (application_type s.telegram) 1 ≡ a → reason_of l s now k ≡ 2
    by true q = rw (e, q, b)
    by false q = rw (e, q)
