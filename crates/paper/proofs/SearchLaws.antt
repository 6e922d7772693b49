-- The laws of a search among rising numbers by halving: how it goes on, and what it tells where it ends. Assumes nothing.
use Prim.Native.Nat.{ℕ, ◌+◌, ◌≤◌, ◌<◌}
use mathlib.Core.Path.{◌≡◌, ap}
use native.Mathlib.Nat.{le_refl}
use native.Mathlib.Decide.{dec_lt}
use native.Mathlib.Omega.{arith}
use Rattle.paper.specs.Search.{Rises, Between, Cut}

module _ (f : ℕ → ℕ) (n key : ℕ) where
  -- nothing is known past what is below
  pub onward : (low : ℕ) → low ≤ n → ((k : ℕ) → k < low → f k < key) → Between f n key low n
  onward low le below = record { ordered = le; most = le_refl n; below = below; above = λ k ge lt. absurd (omega arith) }

  pub none_between : (low high : ℕ) → Between f n key low high → high ≤ low → Cut f n key low
  none_between low high h le =
      record { ordered = le_refl low; most = omega (arith, h.ordered, h.most); below = h.below; above = λ k ge lt. h.above k (omega arith) lt }

  module _ (rise : Rises f n) where
    -- one test settles every number on its side
    pub low_raised : (low mid high : ℕ) → Between f n key low high → mid < high → f mid < key → Between f n key (mid + 1) high
    low_raised low mid high h lt t =
        record {
          ordered = omega arith;
          most = h.most;
          below = λ k l.
              elim (dec_lt k mid) [
                | yes less ↦ omega (arith, rise k mid less (omega (arith, h.most)))
                | no ge ↦ let e : k ≡ mid = omega arith in omega (arith, ap f e)
              ];
          above = h.above;
        }

    pub high_lowered : (low mid high : ℕ) → Between f n key low high → low ≤ mid → mid < high → key ≤ f mid → Between f n key low mid
    high_lowered low mid high h le lt t =
        record {
          ordered = le;
          most = omega (arith, h.most);
          below = h.below;
          above = λ k l hk.
              elim (dec_lt mid k) [
                | yes less ↦ omega (arith, rise mid k less hk)
                | no ge ↦ let e : k ≡ mid = omega arith in omega (arith, ap f e)
              ];
        }

    -- those before r are below the key and the one at r is above it: it is none of them
    pub falls_between : (r : ℕ) → ((k : ℕ) → k < r → f k < key) → (r < n → key < f r) → (k : ℕ) → k < n → f k ≡ key → ⊥
    falls_between r below above k lt e =
        elim (dec_lt k r) [
          | yes less ↦ omega (arith, below k less)
          | no ge ↦ elim (dec_lt r k) [
            | yes less ↦ omega (arith, rise r k less lt, above (omega arith))
            | no same ↦ let z : k ≡ r = omega arith in omega (arith, ap f z, above (omega arith))
          ]
        ]
