-- Demand 2 over the definitions: a value is live exactly when it should be, and otherwise the first reason that applies. Assumes nothing.
use Prim.Native.Nat.{ℕ, zero, suc, ◌+◌, ◌-◌, ◌≤◌, ◌<◌}
use mathlib.Core.Path.{◌≡◌, refl, sym, ap, ◌∙◌}
use mathlib.Core.Logic.{◌↔◌, ◌⊎◌, inl, inr, ⊎_elim}
use mathlib.Core.Bool.{Bool, true, false, not, cond, false≢true}
use mathlib.Core.List.{List, [], ◌∷◌}
use native.Mathlib.Omega.{arith}
use native.Mathlib.Decide.{ℕ_discrete}
use lib.ListN.{length, get_or}
use lib.Dec.{eqb}
use borrow.Author.Tests.{ltb-true, ltb-false, leb-true, eqb-true, eqb-false, eq-eqb, not-false, le-leb, lt-leb, le-ltb, lt-ltb, ne_eqb}
use Rattle.paper.specs.Octets.{field}
use Rattle.paper.specs.Answer.{gives, refuse_if}
use Rattle.paper.specs.First.{first_of, FirstAt, None}
use Rattle.paper.specs.Telegrams.{ok, forced, mark_width}
use Rattle.paper.specs.SignalList.{Signal, SignalList, Counts, judge, list_of, place_of}
use Rattle.paper.specs.Store.{vehicles, store_octets, Slot, slot_of}
use Rattle.paper.specs.Reading.{Reading, mark_of, code_of, heard, hindrances, reason_of, reading_of, reading_at, reading, Live, Reads}
use Rattle.paper.proofs.AnswerLaws.{not_refused, gives_one, and_then_lem}
use Rattle.paper.proofs.FieldLaws.{field_lt}
use Rattle.bools.proofs.Tests.{both}

-- ---- the first of numbered tests

pub first_of_at : (n : ℕ) (ts : List Bool) (other i : ℕ) → FirstAt ts i → first_of n ts other ≡ n + i
first_of_at n [] other i h = absurd (false≢true h.here)
first_of_at n (t ∷ ts) other zero h = rw h.here (omega arith)
first_of_at n (t ∷ ts) other (suc i) h =
    rw (h.before 0 (omega arith))
    (first_of_at (suc n) ts other i (record { here = h.here; before = λ j lt. h.before (suc j) (omega arith) }) ∙ omega arith)

pub first_of_none : (n : ℕ) (ts : List Bool) (other : ℕ) → None ts → first_of n ts other ≡ other
first_of_none n [] other h = refl
first_of_none n (t ∷ ts) other h = rw (h 0) (first_of_none (suc n) ts other (λ j. h (suc j)))

-- and nothing else is: the number says which test is the first, or that none holds
pub first_of_told : (n : ℕ) (ts : List Bool) (other : ℕ) → ((i : ℕ) × ((i < length ts) × (FirstAt ts i))) ⊎ None ts
first_of_told n [] other = inr (λ j. refl)
first_of_told n (true ∷ ts) other = inl (0, (omega arith, record { here = refl; before = λ j lt. absurd (omega arith) }))
first_of_told n (false ∷ ts) other = by (first_of_told n ts other)
  where
    before : (i : ℕ) → FirstAt ts i → (j : ℕ) → j < suc i → get_or (false ∷ ts) j false ≡ false
    before i h zero lt = refl
    before i h (suc j) lt = h.before j (omega arith)

    nowhere : None ts → (j : ℕ) → get_or (false ∷ ts) j false ≡ false
    nowhere h zero = refl
    nowhere h (suc j) = h j

    by : ((i : ℕ) × ((i < length ts) × (FirstAt ts i))) ⊎ None ts → ((i : ℕ) × ((i < length (false ∷ ts)) × (FirstAt (false ∷ ts) i))) ⊎ None (false ∷ ts)
    by (inl w) = inl (suc w.0, (omega (arith, w.1.0), record { here = w.1.1.here; before = before w.0 w.1.1 }))
    by (inr h) = inr (nowhere h)

-- ---- reading

-- C-16: no reading sees the previous stamp
pub unseen : (l : SignalList) (mark stamp previous : ℕ) (telegram : List ℕ) (now k : ℕ)
    → reading_of l (record { heard = mark; stamp = stamp; previous = previous; telegram = telegram }) now k
    ≡ reading_of l (record { heard = mark; stamp = stamp; previous = 0; telegram = telegram }) now k
unfolding reading_of reason_of hindrances heard
unseen l mark stamp previous telegram now k = refl

module _ (l : SignalList) (slot : Slot) (now k : ℕ) where
  live_reason : ℕ
  live_reason = cond (eqb (mark_of l (l.signal k) slot.telegram) forced) 1 0

  live_low : live_reason ≤ 1
  unfolding live_reason
  live_low = by (eqb (mark_of l (l.signal k) slot.telegram) forced)
    where
      by : (b : Bool) → cond b 1 0 ≤ 1
      by true = omega arith
      by false = omega arith

  -- "the first reason that applies": reason 2 + i is given exactly when test i is the first to hold
  pub reason_exactly : (i : ℕ) → i < 7 → (reason_of l slot now k ≡ 2 + i) ↔ FirstAt (hindrances l slot now k) i
  unfolding reason_of live_reason
  reason_exactly i lt = (λ e. by e (first_of_told 2 (hindrances l slot now k) live_reason), λ h. first_of_at 2 (hindrances l slot now k) live_reason i h)
    where
      by : first_of 2 (hindrances l slot now k) live_reason ≡ 2 + i
          → ((j : ℕ) × ((j < length (hindrances l slot now k)) × (FirstAt (hindrances l slot now k) j))) ⊎ None (hindrances l slot now k)
          → FirstAt (hindrances l slot now k) i
      by e (inl w) =
          let q : w.0 ≡ i = omega (arith, first_of_at 2 (hindrances l slot now k) live_reason w.0 w.1.1) in
          rw q at w.1.1
      by e (inr h) = absurd (omega (arith, first_of_none 2 (hindrances l slot now k) live_reason h, live_low))

  -- and a reason below 2 exactly when none holds
  pub live_none : (reason_of l slot now k ≤ 1) ↔ None (hindrances l slot now k)
  unfolding reason_of live_reason
  live_none = (λ e. by e (first_of_told 2 (hindrances l slot now k) live_reason), λ h. rw (first_of_none 2 (hindrances l slot now k) live_reason h) live_low)
    where
      by : first_of 2 (hindrances l slot now k) live_reason ≤ 1
          → ((j : ℕ) × ((j < length (hindrances l slot now k)) × (FirstAt (hindrances l slot now k) j))) ⊎ None (hindrances l slot now k)
          → None (hindrances l slot now k)
      by e (inl w) = absurd (omega (arith, first_of_at 2 (hindrances l slot now k) live_reason w.0 w.1.1))
      by e (inr h) = h

pub mark_lt : (l : SignalList) (s : Signal) (telegram : List ℕ) → mark_of l s telegram < 4
unfolding mark_of
mark_lt l s telegram = by (eqb s.check 0)
  where
    by : (b : Bool) → cond b ok (field telegram (place_of l s) mark_width) < 4
    by true = omega arith
    by false = field_lt telegram (place_of l s) 2

-- the marks ok and forced in the telegram's own bits; where there is no check the mark counts as ok
module _ (l : SignalList) (s : Signal) (t : List ℕ) where
  in_bits : (s.check ≡ 0 → ⊥) → mark_of l s t ≡ field t (place_of l s) mark_width
  unfolding mark_of
  in_bits n = simp (ne_eqb s.check 0 n)

  unchecked : s.check ≡ 0 → mark_of l s t ≡ ok
  unfolding mark_of
  unchecked z = simp (eq-eqb s.check 0 z)

  pub mark_ok : (mark_of l s t ≡ ok) ↔ ((s.check ≡ 0) ⊎ (field t (place_of l s) mark_width ≡ ok))
  mark_ok = by (ℕ_discrete s.check 0)
    where
      by : Dec (s.check ≡ 0) → (mark_of l s t ≡ ok) ↔ ((s.check ≡ 0) ⊎ (field t (place_of l s) mark_width ≡ ok))
      by (yes z) = (λ e. inl z, λ h. unchecked z)
      by (no n) = (λ e. inr (sym (in_bits n) ∙ e), λ h. in_bits n ∙ ⊎_elim (λ z. absurd (n z)) (λ e. e) h)

  pub mark_forced : (mark_of l s t ≡ forced) ↔ ((s.check ≡ 0 → ⊥) × (field t (place_of l s) mark_width ≡ forced))
  mark_forced = (λ e. let n : s.check ≡ 0 → ⊥ = λ z. omega (arith, unchecked z) in (n, sym (in_bits n) ∙ e), λ h. in_bits h.0 ∙ h.1)

module _ (l : SignalList) (slot : Slot) (now k : ℕ) where
  none_live : None (hindrances l slot now k) → Live l slot now k
  unfolding hindrances
  none_live h =
      let m = mark_of l (l.signal k) slot.telegram in
      let e : m ≡ 0 → ⊥ = eqb-false _ _ (h 4) in
      let u : m ≡ 3 → ⊥ = eqb-false _ _ (h 5) in
      record {
        heard_from = not-false _ (h 0);
        in_time_lem = not-false _ (h 1);
        carried = not-false _ (h 2);
        new_enough = ltb-false _ _ (h 3);
        mark = elim (ℕ_discrete m 1) [ yes q ↦ inl q | no n ↦ inr (omega (arith, mark_lt l (l.signal k) slot.telegram)) ];
        known = not-false _ (h 6);
      }

  not_mark : (m : ℕ) → (1 ≡ m → ⊥) → (2 ≡ m → ⊥) → (mark_of l (l.signal k) slot.telegram ≡ ok) ⊎ (mark_of l (l.signal k) slot.telegram ≡ forced)
      → eqb (mark_of l (l.signal k) slot.telegram) m ≡ false
  not_mark m p q (inl e) = rw e (ne_eqb 1 m p)
  not_mark m p q (inr e) = rw e (ne_eqb 2 m q)

  live_none_holds : Live l slot now k → None (hindrances l slot now k)
  unfolding hindrances
  live_none_holds h zero = ap not h.heard_from
  live_none_holds h (suc zero) = ap not h.in_time_lem
  live_none_holds h (suc (suc zero)) = ap not h.carried
  live_none_holds h (suc (suc (suc zero))) = le-ltb _ _ h.new_enough
  live_none_holds h (suc (suc (suc (suc zero)))) = not_mark 0 (λ z. omega arith) (λ z. omega arith) h.mark
  live_none_holds h (suc (suc (suc (suc (suc zero))))) = not_mark 3 (λ z. omega arith) (λ z. omega arith) h.mark
  live_none_holds h (suc (suc (suc (suc (suc (suc zero)))))) = ap not h.known
  live_none_holds h (suc (suc (suc (suc (suc (suc (suc j))))))) = refl

  pub live_exactly : ((reading_of l slot now k).reason ≤ 1) ↔ Live l slot now k
  unfolding reading_of
  live_exactly = (λ e. none_live ((live_none l slot now k).0 e), λ h. (live_none l slot now k).1 (live_none_holds h))

  live_marked : (m : ℕ) → Live l slot now k → mark_of l (l.signal k) slot.telegram ≡ m → (reading_of l slot now k).reason ≡ cond (eqb m forced) 1 0
  unfolding reading_of reason_of
  live_marked m h q = rw (← q) (first_of_none 2 (hindrances l slot now k) _ (live_none_holds h))

  -- "0 live ok (also where there is no check) or 1 live forced"
  pub ok_exactly : ((reading_of l slot now k).reason ≡ 0) ↔ (Live l slot now k × (mark_of l (l.signal k) slot.telegram ≡ ok))
  ok_exactly = (
    λ e. let h = live_exactly.0 (omega arith) in (h, ⊎_elim (λ q. q) (λ q. absurd (omega (arith, live_marked forced h q))) h.mark),
    λ h. live_marked ok h.0 h.1,
  )

  pub forced_exactly : ((reading_of l slot now k).reason ≡ 1) ↔ (Live l slot now k × (mark_of l (l.signal k) slot.telegram ≡ forced))
  forced_exactly = (
    λ e. let h = live_exactly.0 (omega arith) in (h, ⊎_elim (λ q. absurd (omega (arith, live_marked ok h q))) (λ q. q) h.mark),
    λ h. live_marked forced h.0 h.1,
  )

  -- a live value is the code in the signal's field, and any other the replacement
  pub live_value : (reading_of l slot now k).reason ≤ 1 → (reading_of l slot now k).value ≡ code_of (l.signal k) slot.telegram
  unfolding reading_of
  live_value h = simp (lt-leb 2 (reason_of l slot now k) (omega arith))

  pub replaced_value : 2 ≤ (reading_of l slot now k).reason → (reading_of l slot now k).value ≡ (l.signal k).replacement
  unfolding reading_of
  replaced_value h = simp (le-leb 2 (reason_of l slot now k) h)

-- two stores that agree on a vehicle's slot agree on its readings
pub isolation : (l : SignalList) (store store' : List ℕ) (now v k : ℕ) → slot_of store v ≡ slot_of store' v
    → reading_at l store now v k ≡ reading_at l store' now v k
unfolding reading_at
isolation l store store' now v k e = ap (λ (s : Slot). reading_of l s now k) e

-- ---- a reading as a call gives it

pub reads : (form : ℕ) (xs store : List ℕ) (now v k : ℕ) (r : Reading) → reading form xs store now v k ≡ gives r → Reads form xs store now v k r
unfolding reading reading_at
reads form xs store now v k r e =
    let o = and_then_lem (judge form xs) _ r e in
    let a = not_refused _ _ _ _ _ o.1.1 in
    let b = not_refused _ _ _ _ _ a.1 in
    let c = not_refused _ _ _ _ _ b.1 in
    let w = both _ _ (not-false _ b.0) in
    record {
      counts = o.0;
      accepted = o.1.0;
      whole = eqb-true _ _ (not-false _ a.0);
      first = leb-true _ _ w.0;
      last = leb-true _ _ w.1;
      there = ltb-true _ _ (not-false _ c.0);
      is = gives_one _ _ _ refl c.1;
    }

-- and what meets that is read
pub reads_it : (form : ℕ) (xs store : List ℕ) (now v k : ℕ) (n : Counts) → judge form xs ≡ gives n → length store ≡ store_octets → 1 ≤ v → v ≤ vehicles → k < n.signals
    → reading form xs store now v k ≡ gives (reading_of (list_of xs n) (slot_of store v) now k)
unfolding reading reading_at refuse_if
reads_it form xs store now v k n accepted whole first last there =
    rw (accepted, eq-eqb _ _ whole, le-leb _ _ first, le-leb _ _ last, lt-ltb _ _ there)
