-- The laws of fields written one after the other, for marshalling and composing alike. Assumes nothing.
use Prim.Native.Nat.{ℕ, zero, suc, ◌+◌, ◌*◌, ◌^◌, ◌≤◌, ◌<◌}
use mathlib.Core.Path.{◌≡◌, refl, sym, ap, ◌∙◌}
use mathlib.Core.Logic.{◌⊎◌, inl, inr, ⊎_elim}
use mathlib.Core.Bool.{Bool, true, false, cond, false≢true}
use mathlib.Core.List.{List}
use native.Mathlib.Nat.{eq-or-lt_of_le}
use native.Mathlib.Numerals.{add-one}
use native.Mathlib.Omega.{arith}
use lib.ListN.{length}
use Rattle.paper.specs.Octets.{bit, field, put, Put, puts, Octets}
use Rattle.paper.proofs.FieldLaws.{field_ext, length-put, octets_put, bit-put_other, field_put, field-put_other}

-- two fields share no bit
abbrev pub Disjoint : ℕ → ℕ → ℕ → ℕ → Type 0
Disjoint s w t u = (s + w ≤ t) ⊎ (t + u ≤ s)

module _ (f : ℕ → Put) (l : List ℕ) where
  pub length_puts : (n : ℕ) → length (puts f l n) ≡ length l
  unfolding puts
  length_puts zero = refl
  length_puts (suc n) = by (f n).written (length_puts n)
    where
      by : (b : Bool) → length (puts f l n) ≡ length l → length (cond b (put (puts f l n) (f n).start (f n).width (f n).value) (puts f l n)) ≡ length l
      by true h = length-put _ _ _ _ ∙ h
      by false h = h

  pub octets_puts : (n : ℕ) → Octets l → Octets (puts f l n)
  unfolding puts
  octets_puts zero o = o
  octets_puts (suc n) o = by (f n).written (octets_puts n o)
    where
      by : (b : Bool) → Octets (puts f l n) → Octets (cond b (put (puts f l n) (f n).start (f n).width (f n).value) (puts f l n))
      by true h = octets_put _ _ _ _ h
      by false h = h

  -- a bit that no written field holds is as before
  pub bit_puts_other : (n a : ℕ) → ((k : ℕ) → k < n → (f k).written ≡ true → (f k).start ≤ a → a < (f k).start + (f k).width → ⊥) → bit (puts f l n) a ≡ bit l a
  unfolding puts
  bit_puts_other zero a out = refl
  bit_puts_other (suc n) a out = by (f n).written refl (bit_puts_other n a (λ k h. out k (omega arith)))
    where
      by : (b : Bool) → (f n).written ≡ b → bit (puts f l n) a ≡ bit l a
          → bit (cond b (put (puts f l n) (f n).start (f n).width (f n).value) (puts f l n)) a ≡ bit l a
      by true e h = bit-put_other _ _ _ _ a (out n (omega arith) e) ∙ h
      by false e h = h

  -- a field that meets no written field reads as before
  pub field_puts_other : (n t u : ℕ) → ((k : ℕ) → k < n → (f k).written ≡ true → Disjoint (f k).start (f k).width t u) → field (puts f l n) t u ≡ field l t u
  field_puts_other n t u out =
      field_ext _ _ t t u (λ i h. bit_puts_other n (t + i) (λ k lt e a b. ⊎_elim (λ d. omega arith) (λ d. omega arith) (out k lt e)))

  -- a written field holds its value, if no later one meets it
  pub field_puts : (n k : ℕ) → k < n → (f k).written ≡ true → (f k).start + (f k).width ≤ 8 * length l → (f k).value < 2 ^ (f k).width
      → ((j : ℕ) → k < j → j < n → (f j).written ≡ true → Disjoint (f j).start (f j).width (f k).start (f k).width)
      → field (puts f l n) (f k).start (f k).width ≡ (f k).value
  unfolding puts
  field_puts zero k h e fits small out = omega arith
  field_puts (suc n) k h e fits small out =
      by (eq-or-lt_of_le h) (f n).written refl (λ lt. field_puts n k lt e fits small (λ j a b. out j a (omega arith)))
    where
      by : (suc k ≡ suc n) ⊎ (suc k < suc n) → (b : Bool) → (f n).written ≡ b
          → (k < n → field (puts f l n) (f k).start (f k).width ≡ (f k).value)
          → field (cond b (put (puts f l n) (f n).start (f n).width (f n).value) (puts f l n)) (f k).start (f k).width ≡ (f k).value
      by (inl q) true w rest =
          let z : k ≡ n = omega arith in
          rw (← z) (field_put (puts f l k) _ _ _ (omega (arith, length_puts k)) small)
      by (inl q) false w rest = let z : k ≡ n = omega arith in absurd (false≢true (sym w ∙ ap (λ (x : ℕ). (f x).written) (sym z) ∙ e))
      by (inr q) true w rest = field-put_other _ _ _ _ _ _ (⊎_elim (λ d. inr d) (λ d. inl d) (out n (omega arith) (omega arith) w)) ∙ rest (omega arith)
      by (inr q) false w rest = rest (omega arith)

-- ---- a loop that writes one field after the other

-- what it has written after k turns
pub record PutSoFar (f : ℕ → Put) (l : List ℕ) (k : ℕ) (m : List ℕ) : Type 0 where
  pub long : length m ≡ length l
  pub is : m ≡ puts f l k

module _ (f : ℕ → Put) (l : List ℕ) where
  pub none_put : PutSoFar f l 0 l
  unfolding puts
  none_put = record { long = refl; is = refl }

  -- a turn, by what the loop worked out: whether, where, how wide and what
  pub one_put : (k : ℕ) (m next : List ℕ) (written : Bool) (start width value : ℕ) → PutSoFar f l k m → next ≡ cond written (put m start width value) m
      → written ≡ (f k).written → start ≡ (f k).start → width ≡ (f k).width → value ≡ (f k).value → PutSoFar f l (k + 1) next
  unfolding puts
  one_put k m next written start width value h e a b c d =
      let more : next ≡ puts f l (k + 1) = rw (add-one, e, a, b, c, d, h.is) in
      record { long = ap length more ∙ length_puts f l (k + 1); is = more }

  pub all_put : (n k : ℕ) (m : List ℕ) → k ≡ n → PutSoFar f l k m → m ≡ puts f l n
  all_put n k m e h = rw (← e) h.is
