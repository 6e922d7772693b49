-- The laws of a loop that searches the indices 0 to n - 1 in their order: what it has shown where it stands, and what it answers where its test fails, or
-- past them all. Assumes nothing.
use Prim.Native.Nat.{ℕ, ◌+◌, ◌≤◌, ◌<◌}
use mathlib.Core.Path.{◌≡◌, sym, ◌∙◌}
use mathlib.Core.List.{List}
use mathlib.Core.Bool.{Bool, true, false, not}
use native.Mathlib.Decide.{dec_lt}
use native.Mathlib.Omega.{arith}
use lib.ListN.{length, get_or, set, length-set}
use lib.Seq.{ext_get_or, get_or-set_same, get_or-set_other}
use borrow.Author.Count.{below_none, below_more}
use borrow.Author.Tests.{not-true, not-false}
use Rattle.paper.specs.First.{first_bad, all, listed}
use Rattle.paper.proofs.FirstLaws.{first_here, first_none, all_true, all_false, length_listed, listed_at}

-- the loop stands at k: the test passes at each index before
pub record Passed (ok : ℕ → Bool) (n k : ℕ) : Type 0 where
  pub within : k ≤ n
  pub each : (j : ℕ) → j < k → ok j ≡ true

pub passed_none : (ok : ℕ → Bool) (n : ℕ) → Passed ok n 0
passed_none ok n = record { within = omega arith; each = below_none _ }

-- it tests k, and goes on or answers; b is what the tested call gave
module _ {ok : ℕ → Bool} {n k : ℕ} (p : Passed ok n k) (lt : k < n) {b : Bool} (is : b ≡ ok k) where
  pub passed_more : not b ≡ false → Passed ok n (k + 1)
  passed_more e = record { within = omega arith; each = below_more _ _ p.each (sym is ∙ not-false _ e) }

  pub fails_here : not b ≡ true → k ≡ first_bad ok n
  fails_here e = sym (first_here ok n k lt p.each (sym is ∙ not-true _ e))

  pub not_all_here : not b ≡ true → false ≡ all ok n
  not_all_here e = sym (all_false ok n k lt (sym is ∙ not-true _ e))

-- it has tested them all
module _ {ok : ℕ → Bool} {n k : ℕ} (p : Passed ok n k) (ge : n ≤ k) where
  pub fails_nowhere : n ≡ first_bad ok n
  fails_nowhere = sym (first_none ok n (λ j h. p.each j (omega arith)))

  pub stands_past : k ≡ first_bad ok n
  stands_past = let e : k ≡ n = omega (arith, p.within) in e ∙ fails_nowhere

-- it need not go to the end: the rest passes too
pub passes_on : {ok : ℕ → Bool} {n k : ℕ} → Passed ok n k → ((j : ℕ) → k ≤ j → j < n → ok j ≡ true) → true ≡ all ok n
passes_on {ok} {n} {k} p rest = sym (all_true ok n (λ j h. elim (dec_lt j k) [
  | yes lt ↦ p.each j lt
  | no ge ↦ rest j (omega arith) h
]))

-- ---- a loop that fills an area of n numbers with f 0, f 1, ..

-- it stands at k
pub record Filled (f : ℕ → ℕ) (n : ℕ) (xs : List ℕ) (k : ℕ) : Type 0 where
  pub within : k ≤ n
  pub long : length xs ≡ n
  pub each : (i : ℕ) → i < k → get_or xs i 0 ≡ f i

pub filled_none : (f : ℕ → ℕ) (n : ℕ) (xs : List ℕ) → length xs ≡ n → Filled f n xs 0
filled_none f n xs h = record { within = omega arith; long = h; each = below_none _ }

pub filled_more : {f : ℕ → ℕ} {n : ℕ} {xs : List ℕ} {k : ℕ} → Filled f n xs k → k < n → (x : ℕ) → x ≡ f k → Filled f n (set xs k x) (k + 1)
filled_more {f} {n} {xs} {k} p lt x is =
    record {
      within = omega arith;
      long = length-set xs k x ∙ p.long;
      each = below_more _ _
          (λ i h. get_or-set_other xs k i x 0 (λ e. let z : i ≡ k = e in absurd (omega arith)) ∙ p.each i h)
          (get_or-set_same xs k x 0 (omega (arith, p.long)) ∙ is);
    }

pub filled_all : {f : ℕ → ℕ} {n : ℕ} {xs : List ℕ} {k : ℕ} → Filled f n xs k → n ≤ k → xs ≡ listed f n
filled_all {f} {n} {xs} {k} p ge =
    ext_get_or 0 xs (listed f n) (p.long ∙ sym (length_listed f n))
    (λ i h. p.each i (omega (arith, p.long)) ∙ sym (listed_at f n i (omega (arith, p.long))))
