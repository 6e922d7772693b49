-- The longest ranges of numbers that pass a test: that these are given, in order and apart, and how a caller goes along them, and along any sequence of
-- indices at which a test passes. Assumes nothing.
use Prim.Native.Nat.{ℕ, zero, suc, ◌+◌, ◌-◌, ◌≤◌, ◌<◌}
use mathlib.Core.Path.{◌≡◌, refl, sym, ap, ap₂, ◌∙◌}
use mathlib.Core.Logic.{◌⊎◌, inl, inr, ⊎_elim, ◌↔◌}
use mathlib.Core.Bool.{Bool, true, false, not, cond, false≢true, and-false, or-true}
use mathlib.Core.List.Memᴰ
use mathlib.Core.List.{List, [], ◌∷◌, map, Memᴰ}
use native.Mathlib.Nat.{eq-or-lt_of_le, lt_irrefl, le_refl}
use native.Mathlib.Decide.{dec_lt, ℕ_discrete}
use native.Mathlib.Omega.{arith}
use lib.ListN.{length, get_or, length-map}
use lib.Dec.{ltb, eqb}
use borrow.Author.Tests.{ltb-true, ltb-false, eqb-true, ne_eqb, not-true, not-false}
use Rattle.bools.proofs.Tests.{both, either}
use Rattle.paper.specs.Answer.{found, nothing}
use Rattle.paper.specs.First.{passing_from, passing, next}
use Rattle.paper.specs.Comparing.{Range, starts, past, range_at, ranges, next_in, Longest}
use Rattle.paper.proofs.FirstLaws.{most_from}
use Rattle.paper.proofs.PassingLaws.{next_some, next_none, next_least, next_before, next_passes, passing_exactly, passing_rises}

-- ---- more of the sequence

module _ (test : ℕ → Bool) where
  skip_from : (m n k p : ℕ) → m ≡ n - k → k ≤ p → ((j : ℕ) → k ≤ j → j < p → test j ≡ false) → passing_from test m k ≡ passing_from test (n - p) p
  unfolding passing_from
  skip_from zero n k p e le none = let z : n - p ≡ 0 = omega arith in rw z
  skip_from (suc m) n k p e le none = by (eq-or-lt_of_le le) (λ l. skip_from m n (suc k) p (omega arith) l (λ j a b. none j (omega arith) b))
    where
      by : (k ≡ p) ⊎ (k < p) → (k < p → passing_from test m (suc k) ≡ passing_from test (n - p) p) → passing_from test (suc m) k ≡ passing_from test (n - p) p
      by (inl q) rest = let z : suc m ≡ n - p = omega arith in ap₂ (passing_from test) z q
      by (inr l) rest = rw (none k (omega arith) l) (rest l)

  -- where none passes from k on and before p, the sequence may as well start at p
  pub passing_skip : (n k p : ℕ) → k ≤ p → ((j : ℕ) → k ≤ j → j < p → test j ≡ false) → passing test n k ≡ passing test n p
  unfolding passing
  passing_skip n k p le none = skip_from (n - k) n k p refl le none

  -- what `next` answers is no more than n
  next_most : (n k : ℕ) → k ≤ n → next test n k ≤ n
  unfolding next
  next_most n k le = omega (arith, most_from (λ q. not (test q)) (n - k) k)

-- an entry of a list, and of a list made from one
mem_at : (l : List ℕ) (i : ℕ) → i < length l → Memᴰ (get_or l i 0) l
mem_at [] i lt = absurd (lt_irrefl i (omega arith))
mem_at (x ∷ l) zero lt = Memᴰ.head refl
mem_at (x ∷ l) (suc i) lt = Memᴰ.tail (mem_at l i (omega arith))

get_d_in : {A : Type 0} (f : ℕ → A) (l : List ℕ) (i : ℕ) (other : A) → i < length l → get_or (map f l) i other ≡ f (get_or l i 0)
get_d_in f [] i other lt = absurd (lt_irrefl i (omega arith))
get_d_in f (x ∷ l) zero other lt = refl
get_d_in f (x ∷ l) (suc i) other lt = get_d_in f l i other (omega arith)

-- ---- how a caller goes along any such sequence: past each answer it goes on with the next

module _ {A : Type 0} (test : ℕ → Bool) (top : ℕ) (at : ℕ → A) (from : ℕ) where
  -- what is found is at the next index of the sequence, behind which the rest follows
  pub next_in_some : (x : A) → next_in test top at from ≡ found x
      → (q : ℕ) × ((at q ≡ x) × (from ≤ q) × (q < top) × (test q ≡ true) × (passing test top from ≡ q ∷ passing test top (suc q)))
  next_in_some x e = by (ltb q top) refl e
    where
      q : ℕ
      q = next test top from

      by : (t : Bool) → ltb q top ≡ t → cond t (found (at q)) nothing ≡ found x
          → (q : ℕ) × ((at q ≡ x) × (from ≤ q) × (q < top) × (test q ≡ true) × (passing test top from ≡ q ∷ passing test top (suc q)))
      by true t e =
          let lt = ltb-true _ _ t in
          (q, (cc, next_least test top from, lt, next_passes test top from lt, next_some test top from lt))
      by false t e = let z : ◌≡◌ {A = ℕ} 0 1 = cc in absurd (omega arith)

  -- where nothing is found, there is no more of it
  pub next_in_none : next_in test top at from ≡ nothing → passing test top from ≡ []
  next_in_none e = by (ltb (next test top from) top) refl e
    where
      by : (t : Bool) → ltb (next test top from) top ≡ t → cond t (found (at (next test top from))) nothing ≡ nothing → passing test top from ≡ []
      by true t e = let z : ◌≡◌ {A = ℕ} 0 1 = cc in absurd (omega arith)
      by false t e = next_none test top from (ltb-false _ _ t)

-- ---- ranges

module _ (test : ℕ → Bool) where
  -- one starts at each number that passes and whose neighbour below doesn't
  starts_of : (c : ℕ) → starts test c ≡ true → (test c ≡ true) × (0 < c → test (c - 1) ≡ false)
  unfolding starts
  starts_of c e =
      let p = both _ _ e in
      (p.0, λ h. ⊎_elim (λ z. absurd (lt_irrefl 0 (rw (eqb-true c 0 z) at h))) (λ f. not-true _ f) (either _ _ p.1))

  starts_true : (c : ℕ) → test c ≡ true → (0 < c → test (c - 1) ≡ false) → starts test c ≡ true
  unfolding starts
  starts_true zero t f = simp t
  starts_true (suc c) t f = simp (t, f (omega arith)) (or-true (eqb (suc c) 0))

  -- so none starts within another
  starts_not : (c : ℕ) → test c ≡ true → starts test (suc c) ≡ false
  unfolding starts
  starts_not c t = let z : suc c - 1 ≡ c = omega arith in simp (z, t, ne_eqb (suc c) 0 (λ e. omega arith)) (and-false (test (suc c)))

  module _ (n : ℕ) where
    -- from a number that passes, up to before the first that fails
    module _ (c : ℕ) (lt : c < n) (t : test c ≡ true) where
      past_most : past test n c ≤ n
      unfolding past
      past_most = next_most (λ q. not (test q)) n c (omega arith)

      past_each : (j : ℕ) → c ≤ j → j < past test n c → test j ≡ true
      unfolding past
      past_each j lo hi = not-false _ (next_before (λ q. not (test q)) n c j lo hi)

      past_fails : past test n c < n → test (past test n c) ≡ false
      unfolding past
      past_fails h = not-true _ (next_passes (λ q. not (test q)) n c h)

      past_more : c < past test n c
      unfolding past
      past_more = by (eq-or-lt_of_le (next_least (λ q. not (test q)) n c))
        where
          by : (c ≡ next (λ q. not (test q)) n c) ⊎ (c < next (λ q. not (test q)) n c) → c < next (λ q. not (test q)) n c
          by (inl e) =
              let f : test (next (λ q. not (test q)) n c) ≡ false = not-true _ (next_passes (λ q. not (test q)) n c (omega arith)) in
              absurd (false≢true (sym f ∙ ap test (sym e) ∙ t))
          by (inr l) = l

    longest_at : (c : ℕ) → c < n → starts test c ≡ true → Longest test n (range_at test n c)
    longest_at c lt s =
        let p = starts_of c s in
        let more = past_more c lt p.0 in
        let z : past test n c - 1 + 1 ≡ past test n c = omega arith in
        record {
          ordered = omega arith;
          within = omega (arith, past_most c lt p.0);
          each = λ j lo hi. past_each c lt p.0 j lo (omega arith);
          below = p.1;
          above = λ h. rw z (past_fails c lt p.0 (omega arith));
        }

    -- every range given is longest
    pub ranges_longest : (r : Range) → Memᴰ r (ranges test n 0) → Longest test n r
    unfolding ranges
    ranges_longest r m =
        let w = Memᴰ.of_map (range_at test n) (passing (starts test) n 0) m in
        let h = (passing_exactly (starts test) n w.0).0 w.1 in
        rw w.2 at (longest_at w.0 h.0 h.1)

    -- and every longest one is given
    pub longest_given : (r : Range) → Longest test n r → Memᴰ r (ranges test n 0)
    unfolding ranges
    longest_given r h =
        let t = h.each r.low (le_refl _) h.ordered in
        let lt : r.low < n = omega (arith, h.ordered, h.within) in
        let e : past test n r.low ≡ r.high + 1 = ends t lt in
        let f : r.high ≡ past test n r.low - 1 = omega arith in
        Memᴰ.cast (ap (λ (x : ℕ). record { low = r.low; high = x }) f)
        (Memᴰ.map (range_at test n) ((passing_exactly (starts test) n r.low).1 (lt, starts_true r.low t h.below)))
      where
        ends : test r.low ≡ true → r.low < n → past test n r.low ≡ r.high + 1
        ends t lt =
            let more = past_more r.low lt t in
            let most = past_most r.low lt t in
            elim (dec_lt (past test n r.low) (r.high + 1)) [
              | yes l ↦ absurd (false≢true (sym (past_fails r.low lt t (omega (arith, h.within))) ∙ h.each (past test n r.low) (omega arith) (omega arith)))
              | no ge ↦ elim (ℕ_discrete (past test n r.low) (r.high + 1)) [
                | yes e ↦ e
                | no ne ↦
                    absurd (false≢true (sym (h.above (omega arith)) ∙ past_each r.low lt t (r.high + 1) (omega (arith, h.ordered)) (omega arith)))
              ]
            ]

    -- where the range of a number that passes starts
    abbrev From : ℕ → Type 0
    From c = (s : ℕ) × ((s ≤ c) × (starts test s ≡ true) × ((j : ℕ) → s ≤ j → j ≤ c → test j ≡ true))

    start_of : (c : ℕ) → test c ≡ true → From c
    start_of zero t = (zero, (le_refl _, starts_true zero t (λ h. absurd (lt_irrefl 0 h)), λ j lo hi. let z : j ≡ zero = omega arith in ap test z ∙ t))
    start_of (suc c) t = by (test c) refl (start_of c)
      where
        by : (b : Bool) → test c ≡ b → (test c ≡ true → From c) → From (suc c)
        by true e rest =
            let w = rest e in (
              w.0,
              (
                omega (arith, w.1.0),
                w.1.1,
                λ j lo hi.
                    elim (dec_lt j (suc c)) [
                      | yes l ↦ w.1.2 j lo (omega arith)
                      | no g ↦ let z : j ≡ suc c = omega arith in ap test z ∙ t
                    ],
              ),
            )
        by false e rest =
            let y : suc c - 1 ≡ c = omega arith in
            (suc c, (le_refl _, starts_true (suc c) t (λ _. ap test y ∙ e), λ j lo hi. let z : j ≡ suc c = omega arith in ap test z ∙ t))

    -- a number passes exactly if it lies in a range given
    pub in_a_range : (c : ℕ) → c < n → (test c ≡ true) ↔ ((r : Range) × ((Memᴰ r (ranges test n 0)) × (r.low ≤ c) × (c ≤ r.high)))
    unfolding ranges
    in_a_range c lt = (into, λ w. (ranges_longest w.0 w.1.0).each c w.1.1 w.1.2)
      where
        into : test c ≡ true → (r : Range) × ((Memᴰ r (ranges test n 0)) × (r.low ≤ c) × (c ≤ r.high))
        into t =
            let w = start_of c t in
            let s = w.0 in
            let below : s < n = omega (arith, w.1.0) in
            let u : test s ≡ true = w.1.2 s (le_refl _) w.1.0 in
            let high : c < past test n s =
            elim (dec_lt c (past test n s)) [
              | yes l ↦ l
              | no g ↦ absurd (false≢true (sym (past_fails s below u (omega arith)) ∙ w.1.2 (past test n s) (omega (arith, past_more s below u)) (omega arith)))
            ] in
            (range_at test n s, (Memᴰ.map (range_at test n) ((passing_exactly (starts test) n s).1 (below, w.1.1)), w.1.0, omega arith))

    -- ---- in order and apart

    between : (c d : ℕ) → c < d → c < n → d < n → test c ≡ true → starts test d ≡ true → past test n c < d
    between c d lt hc hd t s =
        let p = starts_of d s in
        elim (dec_lt (past test n c) d) [
          | yes l ↦ l
          | no ge ↦ elim (dec_lt d (past test n c)) [
            | yes l ↦ absurd (false≢true (sym (p.1 (omega arith)) ∙ past_each c hc t (d - 1) (omega arith) (omega arith)))
            | no le ↦ let z : past test n c ≡ d = omega arith in absurd (false≢true (sym (past_fails c hc t (omega arith)) ∙ ap test z ∙ p.0))
          ]
        ]

    -- of two ranges given, the first ends two below the second at least
    pub ranges_apart : (i j : ℕ) (other : Range) → i < j → j < length (ranges test n 0)
        → (get_or (ranges test n 0) i other).high + 1 < (get_or (ranges test n 0) j other).low
    unfolding ranges
    ranges_apart i j other lt hj =
        let l = passing (starts test) n 0 in
        let inside : j < length l = simp length-map at hj in
        let c = (passing_exactly (starts test) n (get_or l i 0)).0 (mem_at l i (omega arith)) in
        let d = (passing_exactly (starts test) n (get_or l j 0)).0 (mem_at l j inside) in
        let t = (starts_of (get_or l i 0) c.1).0 in
        let far = between (get_or l i 0) (get_or l j 0) (passing_rises (starts test) n 0 i j lt inside) c.0 d.0 t d.1 in
        rw (get_d_in (range_at test n) l i other (omega arith), get_d_in (range_at test n) l j other inside)
        (omega (arith, past_more (get_or l i 0) c.0 t))

    -- ---- how a caller goes along them: past each range it goes on

    module _ (k : ℕ) where
      -- a range found is the next one, and behind it the rest follows: from within a range none starts before its end
      pub next_range : (r : Range) → next_in (starts test) n (range_at test n) k ≡ found r
          → (ranges test n k ≡ r ∷ ranges test n (r.high + 1)) × (k ≤ r.low) × (r.low ≤ r.high) × (r.high < n)
      unfolding ranges
      next_range r e =
          let w = next_in_some (starts test) n (range_at test n) k r e in
          let c = w.0 in
          let t = (starts_of c w.1.3).0 in
          let more = past_more c w.1.2 t in
          let most = past_most c w.1.2 t in
          let low : c ≡ r.low = ap (λ (x : Range). x.low) w.1.0 in
          let high : past test n c - 1 ≡ r.high = ap (λ (x : Range). x.high) w.1.0 in
          let skip : passing (starts test) n (suc c) ≡ passing (starts test) n (r.high + 1) =
          passing_skip (starts test) n (suc c) (r.high + 1) (omega arith) (λ j lo hi.
          let y : suc (j - 1) ≡ j = omega arith in
          rw y at (starts_not (j - 1) (past_each c w.1.2 t (j - 1) (omega arith) (omega arith)))) in
          (ap (map (range_at test n)) w.1.4 ∙ ap₂ ◌∷◌ w.1.0 (ap (map (range_at test n)) skip), omega (arith, w.1.1), omega arith, omega arith)

      -- where none is found, there is no more
      pub next_no_range : next_in (starts test) n (range_at test n) k ≡ nothing → ranges test n k ≡ []
      unfolding ranges
      next_no_range e = ap (map (range_at test n)) (next_in_none (starts test) n (range_at test n) k e)
