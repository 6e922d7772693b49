-- The laws of searching: how a loop shows what it found, and what a caller learns of the indices passed. Assumes nothing.
use Prim.Native.Nat.{ℕ, zero, suc, ◌+◌, ◌≤◌, ◌<◌, max}
use mathlib.Core.Path.{◌≡◌, refl, sym, ap, ap₂, ◌∙◌}
use mathlib.Core.Logic.{◌⊎◌, inl, inr, ◌↔◌}
use mathlib.Core.Bool.{Bool, true, false, not, cond, ◌&&◌, ◌||◌, false≢true}
use mathlib.Core.List.{List, [], ◌∷◌, ◌++◌}
use lib.ListN.{length, get_or, length-append, get_or-append}
use lib.Seq.{get_or_at}
use lib.Dec.{eqb}
use borrow.Author.Count.{below_more}
use borrow.Author.Tests.{eq-eqb, ne_eqb, eqb-true, eqb-false, not-true, not-false}
use native.Mathlib.Nat.{eq-or-lt_of_le, lt_irrefl}
use native.Mathlib.Numerals.{add-one}
use native.Mathlib.Omega.{arith}
use Rattle.paper.specs.First.{stop, first_from, first_bad, all, some, listed, count, greatest, first_of}

module _ (ok : ℕ → Bool) where
  stop_true : (b : Bool) (h l : ℕ) → b ≡ true → stop b h l ≡ l
  stop_true b h l e = rw e

  stop_false : (b : Bool) (h l : ℕ) → b ≡ false → stop b h l ≡ h
  stop_false b h l e = rw e

  pub is_from : (n i r : ℕ) → i ≤ r → r ≤ i + n → ((k : ℕ) → i ≤ k → k < r → ok k ≡ true) → (r < i + n → ok r ≡ false) → first_from ok n i ≡ r
  unfolding first_from
  is_from zero i r lo hi below bad = omega arith
  is_from (suc n) i r lo hi below bad =
      at (eq-or-lt_of_le lo) (λ l. is_from n (suc i) r l (omega arith) (λ k a b. below k (omega arith) b) (λ h. bad (omega arith)))
    where
      at : (i ≡ r) ⊎ (i < r) → (i < r → first_from ok n (suc i) ≡ r) → first_from ok (suc n) i ≡ r
      at (inl e) rest = stop_false (ok i) i (first_from ok n (suc i)) (rw e (bad (omega arith))) ∙ e
      at (inr l) rest = stop_true (ok i) i (first_from ok n (suc i)) (below i (omega arith) l) ∙ rest l

  -- r is the first: the test passes at each index below, and fails at r, unless r is n
  pub is_first : (n r : ℕ) → r ≤ n → ((k : ℕ) → k < r → ok k ≡ true) → (r < n → ok r ≡ false) → first_bad ok n ≡ r
  unfolding first_bad
  is_first n r hi below bad = is_from n 0 r (omega arith) (omega arith) (λ k a b. below k b) (λ h. bad (omega arith))

  -- the two answers of a loop: it failed at r, or it passed them all
  pub first_here : (n r : ℕ) → r < n → ((k : ℕ) → k < r → ok k ≡ true) → ok r ≡ false → first_bad ok n ≡ r
  first_here n r h below e = is_first n r (omega arith) below (λ _. e)

  pub first_none : (n : ℕ) → ((k : ℕ) → k < n → ok k ≡ true) → first_bad ok n ≡ n
  first_none n below = is_first n n (omega arith) below (λ h. absurd (lt_irrefl n h))

  pub most_from : (n i : ℕ) → first_from ok n i ≤ i + n
  unfolding first_from
  most_from zero i = omega arith
  most_from (suc n) i = at (ok i) (most_from n (suc i))
    where
      at : (b : Bool) → first_from ok n (suc i) ≤ suc i + n → stop b i (first_from ok n (suc i)) ≤ i + suc n
      at true h = omega arith
      at false h = omega arith

  pub from_least : (n i : ℕ) → i ≤ first_from ok n i
  unfolding first_from
  from_least zero i = omega arith
  from_least (suc n) i = at (ok i) (from_least n (suc i))
    where
      at : (b : Bool) → suc i ≤ first_from ok n (suc i) → i ≤ stop b i (first_from ok n (suc i))
      at true h = omega arith
      at false h = omega arith

  pub passed_from : (n i k : ℕ) → i ≤ k → k < first_from ok n i → ok k ≡ true
  unfolding first_from
  passed_from zero i k lo hi = absurd (lt_irrefl k (omega arith))
  passed_from (suc n) i k lo hi = at (ok i) refl hi (eq-or-lt_of_le lo) (λ l h. passed_from n (suc i) k l h)
    where
      at : (b : Bool) → ok i ≡ b → k < stop b i (first_from ok n (suc i)) → (i ≡ k) ⊎ (i < k) → (i < k → k < first_from ok n (suc i) → ok k ≡ true) → ok k ≡ true
      at false e h w rest = absurd (lt_irrefl k (omega arith))
      at true e h (inl q) rest = rw q at e
      at true e h (inr l) rest = rest l h

  pub fails_from : (n i : ℕ) → first_from ok n i < i + n → ok (first_from ok n i) ≡ false
  unfolding first_from
  fails_from zero i h = absurd (lt_irrefl i (omega arith))
  fails_from (suc n) i h = at (ok i) refl h (λ g. fails_from n (suc i) g)
    where
      at : (b : Bool) → ok i ≡ b → stop b i (first_from ok n (suc i)) < i + suc n
          → (first_from ok n (suc i) < suc i + n → ok (first_from ok n (suc i)) ≡ false)
          → ok (stop b i (first_from ok n (suc i))) ≡ false
      at false e h rest = e
      at true e h rest = rest (omega arith)

  -- what a caller learns: the first is at most n, each index below it passes, and it fails unless it is n
  pub first_most : (n : ℕ) → first_bad ok n ≤ n
  unfolding first_bad
  first_most n = omega (arith, most_from n 0)

  pub first_passed : (n k : ℕ) → k < first_bad ok n → ok k ≡ true
  unfolding first_bad
  first_passed n k h = passed_from n 0 k (omega arith) h

  pub first_fails : (n : ℕ) → first_bad ok n < n → ok (first_bad ok n) ≡ false
  unfolding first_bad
  first_fails n h = fails_from n 0 (omega arith)

  -- the same of `all`: both answers from a loop's facts, and each index's test from the answer
  pub all_true : (n : ℕ) → ((k : ℕ) → k < n → ok k ≡ true) → all ok n ≡ true
  unfolding all
  all_true n below = eq-eqb (first_bad ok n) n (first_none n below)

  pub all_false : (n r : ℕ) → r < n → ok r ≡ false → all ok n ≡ false
  unfolding all
  all_false n r h e = ne_eqb (first_bad ok n) n (λ q. false≢true (sym e ∙ first_passed n r (rw q h)))

  pub not_all : (n : ℕ) → all ok n ≡ false → first_bad ok n < n
  unfolding all
  not_all n e = let d : first_bad ok n ≡ n → ⊥ = eqb-false (first_bad ok n) n e in omega (arith, first_most n)

  pub all_at : (n : ℕ) → all ok n ≡ true → (k : ℕ) → k < n → ok k ≡ true
  unfolding all
  all_at n t k h = first_passed n k (rw (eqb-true (first_bad ok n) n t) h)

  -- one index more
  pub all_more : (n : ℕ) → all ok (n + 1) ≡ (all ok n && ok n)
  all_more n = by (all ok n) (ok n) refl refl
    where
      by : (a b : Bool) → all ok n ≡ a → ok n ≡ b → all ok (n + 1) ≡ (a && b)
      by true true e q = all_true (n + 1) (below_more _ _ (all_at n e) q)
      by true false e q = all_false (n + 1) n (omega arith) q
      by false b e q = all_false (n + 1) (first_bad ok n) (omega (arith, not_all n e)) (first_fails n (not_all n e))

-- the same of `some`
module _ (ok : ℕ → Bool) where
  pub some_true : (n r : ℕ) → r < n → ok r ≡ true → some ok n ≡ true
  unfolding some
  some_true n r h e = ap not (all_false (λ k. not (ok k)) n r h (ap not e))

  pub some_false : (n : ℕ) → ((k : ℕ) → k < n → ok k ≡ false) → some ok n ≡ false
  unfolding some
  some_false n below = ap not (all_true (λ k. not (ok k)) n (λ k h. ap not (below k h)))

  pub some_none : (n : ℕ) → some ok n ≡ false → (k : ℕ) → k < n → ok k ≡ false
  unfolding some
  some_none n e k h = not-true (ok k) (all_at (λ k. not (ok k)) n (not-false _ e) k h)

  -- the first index at which it passes
  pub some_at : (n : ℕ) → some ok n ≡ true → (k : ℕ) × ((k < n) × (ok k ≡ true))
  unfolding some
  some_at n e =
      let k = first_bad (λ j. not (ok j)) n in
      let h : k < n = not_all (λ j. not (ok j)) n (not-true _ e) in
      (k, (h, not-false (ok k) (first_fails (λ j. not (ok j)) n h)))

  -- one index more
  pub some_more : (n : ℕ) → some ok (n + 1) ≡ (some ok n || ok n)
  some_more n = by (some ok n) (ok n) refl refl
    where
      by : (a b : Bool) → some ok n ≡ a → ok n ≡ b → some ok (n + 1) ≡ (a || b)
      by true b e q = let t = some_at n e in some_true (n + 1) t.0 (omega (arith, t.1.0)) t.1.1
      by false true e q = some_true (n + 1) n (omega arith) q
      by false false e q = some_false (n + 1) (below_more _ _ (some_none n e) q)

-- a search for the one index at which the test passes finds it
pub finds_exactly : (ok : ℕ → Bool) (n : ℕ) → ((i j : ℕ) → i < n → j < n → ok i ≡ true → ok j ≡ true → i ≡ j)
    → (k : ℕ) → ((k < n) × (ok k ≡ true)) ↔ ((first_bad (λ j. not (ok j)) n ≡ k) × (k < n))
finds_exactly ok n one k = (
  λ h. (one r k (there h) h.0 (passes (there h)) h.1, h.0),
  λ h. (h.1, rw h.0 at (passes (rw h.0 h.1))),
)
  where
    r : ℕ
    r = first_bad (λ j. not (ok j)) n

    passes : r < n → ok r ≡ true
    passes lt = not-false _ (first_fails (λ j. not (ok j)) n lt)

    there : (k < n) × (ok k ≡ true) → r < n
    there h = not_all (λ j. not (ok j)) n (all_false (λ j. not (ok j)) n k h.0 (ap not h.1))

-- ---- the first of two runs of tests

-- a test of the first run holds: it is the first of both
pub first_front : (n : ℕ) (ts us : List Bool) (other : ℕ) → (first_of (suc n) ts 0 ≡ 0 → ⊥) → first_of (suc n) (ts ++ us) other ≡ first_of (suc n) ts 0
first_front n [] us other h = absurd (h refl)
first_front n (true ∷ ts) us other h = refl
first_front n (false ∷ ts) us other h = first_front (suc n) ts us other h

-- none holds: it is the first of the second run
pub first_back : (n : ℕ) (ts us : List Bool) (other : ℕ) → first_of (suc n) ts 0 ≡ 0 → first_of (suc n) (ts ++ us) other ≡ first_of (length ts + suc n) us other
first_back n [] us other e = ap (λ (m : ℕ). first_of m us other) (omega arith)
first_back n (true ∷ ts) us other e = absurd (omega arith)
first_back n (false ∷ ts) us other e = first_back (suc n) ts us other e ∙ ap (λ (m : ℕ). first_of m us other) (omega arith)

pub first_low : (n : ℕ) (ts : List Bool) → (first_of n ts 0 ≡ 0 → ⊥) → n ≤ first_of n ts 0
first_low n [] h = absurd (h refl)
first_low n (true ∷ ts) h = omega arith
first_low n (false ∷ ts) h = omega (arith, first_low (suc n) ts h)

-- ---- counts and greatest numbers

pub count_le : (ok : ℕ → Bool) (n : ℕ) → count ok n ≤ n
unfolding count
count_le ok zero = omega arith
count_le ok (suc n) = by (ok n) (count_le ok n)
  where
    by : (b : Bool) → count ok n ≤ n → count ok n + cond b 1 0 ≤ suc n
    by true h = omega arith
    by false h = omega arith

-- a count is 0 exactly if the test passes nowhere
pub count_none : (ok : ℕ → Bool) (n : ℕ) → ((k : ℕ) → k < n → ok k ≡ false) → count ok n ≡ 0
unfolding count
count_none ok zero h = refl
count_none ok (suc n) h =
    ap (λ (b : Bool). count ok n + cond b 1 0) (h n (omega arith)) ∙ omega (arith, count_none ok n (λ k l. h k (omega arith)))

pub none_counted : (ok : ℕ → Bool) (n : ℕ) → count ok n ≡ 0 → (k : ℕ) → k < n → ok k ≡ false
unfolding count
none_counted ok zero e k h = absurd (lt_irrefl k (omega arith))
none_counted ok (suc n) e k h = at (ok n) refl e (eq-or-lt_of_le h) (λ z l. none_counted ok n z k l)
  where
    at : (b : Bool) → ok n ≡ b → count ok n + cond b 1 0 ≡ 0 → (suc k ≡ suc n) ⊎ (suc k < suc n) → (count ok n ≡ 0 → k < n → ok k ≡ false) → ok k ≡ false
    at true q z w rest = absurd (lt_irrefl 0 (omega arith))
    at false q z (inl s) rest = let i : k ≡ n = omega arith in ap ok i ∙ q
    at false q z (inr l) rest = rest (omega arith) (omega arith)

-- a loop that has counted m of the indices before n: one index more
module _ (ok : ℕ → Bool) (n m : ℕ) (e : m ≡ count ok n) where
  pub count_more : m + cond (ok n) 1 0 ≡ count ok (n + 1)
  unfolding count
  count_more = rw (add-one, e)

-- tests that agree, each as soon as those before are passed, fail first at one index
pub first_same : (p q : ℕ → Bool) (n : ℕ) → ((k : ℕ) → k < n → ((j : ℕ) → j < k → q j ≡ true) → p k ≡ q k) → first_bad p n ≡ first_bad q n
first_same p q n e =
    is_first p n (first_bad q n) (first_most q n)
    (λ k h. e k (omega (arith, first_most q n)) (λ j l. first_passed q n j (omega arith)) ∙ first_passed q n k h)
    (λ lt. e (first_bad q n) lt (λ j l. first_passed q n j l) ∙ first_fails q n lt)

pub all_same : (p q : ℕ → Bool) (n : ℕ) → ((k : ℕ) → k < n → p k ≡ q k) → all p n ≡ all q n
unfolding all
all_same p q n e = ap (λ (x : ℕ). eqb x n) (first_same p q n (λ k h _. e k h))

-- the greatest of two tables that agree
pub greatest_same : (least : ℕ) (f g : ℕ → ℕ) (n : ℕ) → ((k : ℕ) → k < n → f k ≡ g k) → greatest least f n ≡ greatest least g n
unfolding greatest
greatest_same least f g zero e = refl
greatest_same least f g (suc n) e = ap₂ max (greatest_same least f g n (λ k h. e k (omega arith))) (e n (omega arith))

module _ (least : ℕ) (f : ℕ → ℕ) where
  pub greatest_least : (n : ℕ) → least ≤ greatest least f n
  unfolding greatest
  greatest_least zero = omega arith
  greatest_least (suc n) = omega (arith, greatest_least n)

  pub greatest_at : (n k : ℕ) → k < n → f k ≤ greatest least f n
  unfolding greatest
  greatest_at zero k h = omega arith
  greatest_at (suc n) k h = by (eq-or-lt_of_le h) (λ l. greatest_at n k l)
    where
      by : (suc k ≡ suc n) ⊎ (suc k < suc n) → (k < n → f k ≤ greatest least f n) → f k ≤ max (greatest least f n) (f n)
      by (inl e) rest = let q : k ≡ n = omega arith in omega (arith, ap f q)
      by (inr l) rest = omega (arith, rest (omega arith))

  pub greatest_most : (n b : ℕ) → least ≤ b → ((k : ℕ) → k < n → f k ≤ b) → greatest least f n ≤ b
  unfolding greatest
  greatest_most zero b h below = h
  greatest_most (suc n) b h below = omega (arith, greatest_most n b h (λ k l. below k (omega arith)), below n (omega arith))

-- a list of the numbers f 0, f 1, ..
module _ (f : ℕ → ℕ) where
  pub length_listed : (n : ℕ) → length (listed f n) ≡ n
  unfolding listed
  length_listed zero = refl
  length_listed (suc n) = omega (arith, length-append (listed f n) (f n ∷ []), length_listed n)

  pub listed_at : (n k : ℕ) → k < n → get_or (listed f n) k 0 ≡ f k
  unfolding listed
  listed_at zero k h = absurd (omega arith)
  listed_at (suc n) k h = by (eq-or-lt_of_le h) (λ l. listed_at n k l)
    where
      by : (suc k ≡ suc n) ⊎ (suc k < suc n) → (k < n → get_or (listed f n) k 0 ≡ f k) → get_or (listed f n ++ (f n ∷ [])) k 0 ≡ f k
      by (inl e) rest = let q : n ≡ k = omega arith in get_or_at (listed f n) (f n) [] 0 k (length_listed n ∙ q) ∙ ap f q
      by (inr l) rest = let q : k < n = omega arith in get_or-append (listed f n) (f n ∷ []) 0 k (omega (arith, length_listed n)) ∙ rest q

pub listed_same : (f g : ℕ → ℕ) (n : ℕ) → ((k : ℕ) → k < n → f k ≡ g k) → listed f n ≡ listed g n
unfolding listed
listed_same f g zero h = refl
listed_same f g (suc n) h = ap₂ (λ (l : List ℕ) (x : ℕ). l ++ (x ∷ [])) (listed_same f g n (λ k lt. h k (omega arith))) (h n (omega arith))
