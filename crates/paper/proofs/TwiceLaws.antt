-- Request C-22: marshalling twice is marshalling once. Assumes nothing.
use Prim.Native.Nat.{ℕ, zero, suc, ◌+◌, ◌-◌, ◌*◌, ◌≤◌, ◌<◌}
use mathlib.Core.Path.{◌≡◌, refl, sym, ap, ◌∙◌}
use mathlib.Core.Logic.{◌⊎◌, inl, inr, ⊎_elim}
use mathlib.Core.Bool.{Bool, true, false, cond}
use mathlib.Core.List.{List}
use native.Mathlib.Omega.{arith}
use native.Mathlib.Decide.{dec_lt}
use lib.ListN.{length}
use Rattle.paper.specs.Octets.{bit, put, Put, puts, Octets}
use Rattle.paper.specs.Answer.{Answer, gives, refused}
use Rattle.paper.specs.SignalList.{list_of}
use Rattle.paper.specs.Marshalling.{route_put, marshalled, Marshalled, marshalling, Marshals}
use Rattle.paper.specs.Order.{data_after}
use Rattle.paper.proofs.FieldLaws.{bit-put_other, field-put-mod, field_bits, ext_bit}
use Rattle.paper.proofs.PutsLaws.{length_puts, octets_puts}
use Rattle.paper.proofs.MarshallingLaws.{marshals, marshals_it}

-- ---- fields written twice

-- a bit of a field that was put is the same, whatever stood there
bit-put_here : (l m : List ℕ) (s w v a : ℕ) → length l ≡ length m → s + w ≤ 8 * length m → s ≤ a → a < s + w → bit (put l s w v) a ≡ bit (put m s w v) a
bit-put_here l m s w v a e fits lo hi =
    let i : s + (a - s) ≡ a = omega arith in
    rw i at (field_bits (put l s w v) (put m s w v) s s w (field-put-mod l s w v (omega arith) ∙ sym (field-put-mod m s w v fits)) (a - s) (omega arith))

module _ (f : ℕ → Put) (long : ℕ) where
  -- after n fields are written, the bit at a is settled by them, whatever stood there, or is as before
  abbrev Settled : ℕ → ℕ → Type 0
  Settled n a =
      ((l m : List ℕ) → length l ≡ long → length m ≡ long → bit (puts f l n) a ≡ bit (puts f m n) a) ⊎ ((l : List ℕ) → bit (puts f l n) a ≡ bit l a)

  settled : (n a : ℕ) → ((k : ℕ) → k < n → (f k).start + (f k).width ≤ 8 * long) → Settled n a
  unfolding puts
  settled zero a fits = inr (λ l. refl)
  settled (suc n) a fits = by (f n).written (dec_lt a (f n).start) (dec_lt a ((f n).start + (f n).width)) (settled n a (λ k lt. fits k (omega arith)))
    where
      next : Bool → List ℕ → List ℕ
      next b l = cond b (put (puts f l n) (f n).start (f n).width (f n).value) (puts f l n)

      outside : ((f n).start ≤ a → a < (f n).start + (f n).width → ⊥) → Settled n a
          → ((l m : List ℕ) → length l ≡ long → length m ≡ long → bit (next true l) a ≡ bit (next true m) a) ⊎ ((l : List ℕ) → bit (next true l) a ≡ bit l a)
      outside out (inl h) = inl (λ l m p q. bit-put_other _ _ _ _ a out ∙ h l m p q ∙ sym (bit-put_other _ _ _ _ a out))
      outside out (inr h) = inr (λ l. bit-put_other _ _ _ _ a out ∙ h l)

      by : (b : Bool) → Dec (a < (f n).start) → Dec (a < (f n).start + (f n).width) → Settled n a
          → ((l m : List ℕ) → length l ≡ long → length m ≡ long → bit (next b l) a ≡ bit (next b m) a) ⊎ ((l : List ℕ) → bit (next b l) a ≡ bit l a)
      by false c d h = h
      by true (yes c) d h = outside (λ lo hi. omega arith) h
      by true (no c) (no d) h = outside (λ lo hi. omega arith) h
      by true (no c) (yes d) h =
          inl (λ l m p q.
          bit-put_here _ _ _ _ _ a (length_puts f l n ∙ p ∙ sym (length_puts f m n ∙ q)) (omega (arith, fits n (omega arith), length_puts f m n)) (omega arith) d)

puts_twice : (f : ℕ → Put) (l : List ℕ) (n : ℕ) → Octets l → ((k : ℕ) → k < n → (f k).start + (f k).width ≤ 8 * length l)
    → puts f (puts f l n) n ≡ puts f l n
puts_twice f l n o fits =
    ext_bit (puts f (puts f l n) n) (puts f l n) (length_puts f (puts f l n) n) (octets_puts f (puts f l n) n (octets_puts f l n o)) (octets_puts f l n o)
    (λ a _. ⊎_elim (λ h. h (puts f l n) l (length_puts f l n) refl) (λ h. h (puts f l n)) (settled f (length l) n a fits))

-- ---- marshalling twice

given_twice : (form : ℕ) (xs store : List ℕ) (now : ℕ) (bus : List ℕ) (m : Marshalled) → Octets bus → Marshals form xs store now bus m
    → marshalling form xs store now m.octets ≡ gives m
unfolding marshalled
given_twice form xs store now bus m o h =
    let n = h.counts in
    let l = list_of xs n in
    let long : length m.octets ≡ length bus = ap length h.octets ∙ length_puts (route_put l store now) bus n.routes in
    let again : puts (route_put l store now) m.octets n.routes ≡ m.octets =
    ap (λ (b : List ℕ). puts (route_put l store now) b n.routes) h.octets
    ∙ puts_twice (route_put l store now) bus n.routes o h.room
    ∙ sym h.octets in
    marshals_it form xs store now m.octets n h.accepted h.whole (λ r lt. omega (arith, h.room r lt))
    ∙ rw (again, ← h.lives) refl

-- "marshalling twice with the same list, store and clock gives the data and the count of marshalling once"; a refusal is given twice
pub marshal_twice : (form : ℕ) (xs store : List ℕ) (now : ℕ) (bus : List ℕ) → Octets bus
    → marshalling form xs store now (data_after bus (marshalling form xs store now bus)) ≡ marshalling form xs store now bus
marshal_twice form xs store now bus o = by (marshalling form xs store now bus) refl
  where
    by : (a : Answer Marshalled) → marshalling form xs store now bus ≡ a → marshalling form xs store now (data_after bus a) ≡ a
    by (gives m) e = given_twice form xs store now bus m o (marshals form xs store now bus m e)
    by (refused n at) e = e
