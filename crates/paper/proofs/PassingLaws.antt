-- The laws of the sequence of indices at which a test passes: how a caller goes along it, what is in it, and that it rises. Assumes nothing.
use Prim.Native.Nat.{ℕ, zero, suc, ◌+◌, ◌-◌, ◌≤◌, ◌<◌}
use mathlib.Core.Path.{◌≡◌, refl, sym, ap, ◌∙◌}
use mathlib.Core.Logic.{◌⊎◌, ⊎_elim, ◌↔◌}
use mathlib.Core.Bool.{Bool, true, false, not, cond, false≢true}
use mathlib.Core.List.Memᴰ
use mathlib.Core.List.{List, [], ◌∷◌, Memᴰ}
use native.Mathlib.Nat.{eq-or-lt_of_le, lt_irrefl}
use native.Mathlib.Omega.{arith}
use lib.ListN.{length, get_or}
use borrow.Author.Tests.{not-true, not-false}
use Rattle.paper.specs.First.{stop, first_from, passing_from, passing, next}
use Rattle.paper.specs.Search.{Rises}
use Rattle.paper.proofs.FirstLaws.{is_from, from_least, passed_from, fails_from}

module _ (test : ℕ → Bool) where
  abbrev fails : ℕ → Bool
  fails q = not (test q)

  -- what is left past k
  abbrev rest : ℕ → ℕ → List ℕ
  rest m k = passing_from test m (suc k)

  -- and from k on, where the test gave b at k
  abbrev given : Bool → ℕ → ℕ → List ℕ
  given b m k = cond b (k ∷ rest m k) (rest m k)

  -- ---- what `next` answers is the next of the sequence, or there is none

  some_from : (m n k : ℕ) → m ≡ n - k → first_from fails m k < n
      → passing_from test m k ≡ first_from fails m k ∷ passing_from test (n - suc (first_from fails m k)) (suc (first_from fails m k))
  unfolding first_from passing_from
  some_from zero n k e lt = absurd (lt_irrefl k (omega arith))
  some_from (suc m) n k e lt = by (test k) lt (some_from m n (suc k) (omega arith))
    where
      r : ℕ
      r = first_from fails m (suc k)

      by : (b : Bool) → stop (not b) k r < n → (r < n → rest m k ≡ r ∷ passing_from test (n - suc r) (suc r))
          → given b m k ≡ stop (not b) k r ∷ passing_from test (n - suc (stop (not b) k r)) (suc (stop (not b) k r))
      by true l later = let z : m ≡ n - suc k = omega arith in ap (λ (x : ℕ). k ∷ passing_from test x (suc k)) z
      by false l later = later l

  none_from : (m n k : ℕ) → m ≡ n - k → n ≤ first_from fails m k → passing_from test m k ≡ []
  unfolding first_from passing_from
  none_from zero n k e ge = refl
  none_from (suc m) n k e ge = by (test k) ge (none_from m n (suc k) (omega arith))
    where
      by : (b : Bool) → n ≤ stop (not b) k (first_from fails m (suc k)) → (n ≤ first_from fails m (suc k) → rest m k ≡ []) → given b m k ≡ []
      by true l later = absurd (lt_irrefl k (omega arith))
      by false l later = later l

  module _ (n k : ℕ) where
    -- so a caller that goes on past each answer meets the whole sequence
    pub next_some : next test n k < n → passing test n k ≡ next test n k ∷ passing test n (suc (next test n k))
    unfolding next passing
    next_some lt = some_from (n - k) n k refl lt

    pub next_none : n ≤ next test n k → passing test n k ≡ []
    unfolding next passing
    next_none ge = none_from (n - k) n k refl ge

    pub next_least : k ≤ next test n k
    unfolding next
    next_least = from_least fails (n - k) k

    -- how a search shows its answer
    pub next_here : (r : ℕ) → k ≤ r → r < n → ((j : ℕ) → k ≤ j → j < r → test j ≡ false) → test r ≡ true → next test n k ≡ r
    unfolding next
    next_here r lo hi none here = is_from fails (n - k) k r lo (omega arith) (λ j a b. ap not (none j a b)) (λ _. ap not here)

    pub next_past : ((j : ℕ) → k ≤ j → j < n → test j ≡ false) → n ≤ next test n k
    unfolding next
    next_past none =
        let end = k + (n - k) in
        omega (arith, is_from fails (n - k) k end (omega arith) (omega arith) (λ j a b. ap not (none j a (omega arith))) (λ h. absurd (lt_irrefl end h)))

    -- and what its answer tells
    pub next_before : (j : ℕ) → k ≤ j → j < next test n k → test j ≡ false
    unfolding next
    next_before j lo hi = not-true (test j) (passed_from fails (n - k) k j lo hi)

    pub next_passes : next test n k < n → test (next test n k) ≡ true
    unfolding next
    next_passes lt = not-false (test (first_from fails (n - k) k)) (fails_from fails (n - k) k (omega (arith, from_least fails (n - k) k)))

  -- ---- an index is in the sequence exactly if the test passes there

  in_from : (m k q : ℕ) → Memᴰ q (passing_from test m k) ↔ ((k ≤ q) × (q < k + m) × (test q ≡ true))
  unfolding passing_from
  in_from zero k q = (λ m. absurd (Memᴰ.not-nil m), λ h. absurd (lt_irrefl q (omega arith)))
  in_from (suc m) k q = by (test k) refl (in_from m (suc k) q)
    where
      by : (b : Bool) → test k ≡ b → Memᴰ q (rest m k) ↔ ((suc k ≤ q) × (q < suc k + m) × (test q ≡ true))
          → Memᴰ q (given b m k) ↔ ((k ≤ q) × (q < k + suc m) × (test q ≡ true))
      by b e w = (into b e, from b e)
        where
          later : Memᴰ q (rest m k) → (k ≤ q) × (q < k + suc m) × (test q ≡ true)
          later l = let h = w.0 l in (omega (arith, h.0), omega (arith, h.1), h.2)

          into : (b : Bool) → test k ≡ b → Memᴰ q (given b m k) → (k ≤ q) × (q < k + suc m) × (test q ≡ true)
          into true e l = ⊎_elim (λ z. (omega arith, omega arith, ap test z ∙ e)) later (Memᴰ.cases_cons l)
          into false e l = later l

          from : (b : Bool) → test k ≡ b → (k ≤ q) × (q < k + suc m) × (test q ≡ true) → Memᴰ q (given b m k)
          from true e h = ⊎_elim (λ z. Memᴰ.head (sym z)) (λ l. Memᴰ.tail (w.1 (l, omega (arith, h.1), h.2))) (eq-or-lt_of_le h.0)
          from false e h =
              ⊎_elim (λ z. absurd (false≢true (sym e ∙ ap test z ∙ h.2))) (λ l. w.1 (l, omega (arith, h.1), h.2)) (eq-or-lt_of_le h.0)

  pub passing_exactly : (n q : ℕ) → Memᴰ q (passing test n 0) ↔ ((q < n) × (test q ≡ true))
  unfolding passing
  passing_exactly n q =
      let w = in_from (n - 0) 0 q in
      (λ m. let h = w.0 m in (omega (arith, h.1), h.2), λ h. w.1 (omega arith, omega (arith, h.0), h.1))

  -- ---- the sequence rises

  least_from : (m k i : ℕ) → i < length (passing_from test m k) → k ≤ get_or (passing_from test m k) i 0
  unfolding passing_from
  least_from zero k i lt = absurd (lt_irrefl i (omega arith))
  least_from (suc m) k i lt = by (test k) i lt (least_from m (suc k))
    where
      by : (b : Bool) (i : ℕ) → i < length (given b m k) → ((i : ℕ) → i < length (rest m k) → suc k ≤ get_or (rest m k) i 0)
          → k ≤ get_or (given b m k) i 0
      by true zero l above = omega arith
      by true (suc i) l above = omega (arith, above i (omega arith))
      by false i l above = omega (arith, above i l)

  rises_from : (m k : ℕ) → Rises (λ i. get_or (passing_from test m k) i 0) (length (passing_from test m k))
  unfolding passing_from
  rises_from zero k i j lt hj = absurd (lt_irrefl j (omega arith))
  rises_from (suc m) k i j lt hj = by (test k) i j lt hj (rises_from m (suc k))
    where
      by : (b : Bool) (i j : ℕ) → i < j → j < length (given b m k) → Rises (λ i. get_or (rest m k) i 0) (length (rest m k))
          → get_or (given b m k) i 0 < get_or (given b m k) j 0
      by true i zero l h rise = absurd (lt_irrefl i (omega arith))
      by true zero (suc j) l h rise = omega (arith, least_from m (suc k) j (omega arith))
      by true (suc i) (suc j) l h rise = rise i j (omega arith) (omega arith)
      by false i j l h rise = rise i j l h

  pub passing_rises : (n k : ℕ) → Rises (λ i. get_or (passing test n k) i 0) (length (passing test n k))
  unfolding passing
  passing_rises n k = rises_from (n - k) k
