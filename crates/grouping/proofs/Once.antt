-- The table's rule: one computed test, that each row starts where the one before ends, and one law over any such table.
-- Assumes nothing.
use mathlib.Core.Path.{◌≡◌, refl}
use mathlib.Core.Logic.{◌⊎◌, inl, inr}
use mathlib.Core.Bool.{Bool, true, false, cond, ◌&&◌}
use mathlib.Core.List.{List, [], ◌∷◌}
use Prim.Native.Nat.{ℕ, ◌+◌, ◌≤◌, ◌<◌}
use native.Mathlib.Decide.{dec_lt}
use native.Mathlib.Omega.{arith}
use native.Mathlib.Numerals.{add-one}
use lib.ListN.{length, get_or, drop}
use lib.Seq.{drop-cons}
use lib.Dec.{T, ltb, eqb, eqb→eq, ltb→lt}
use lib.Ieee.Fits.{and_l, and_r}
use borrow.Author.Tests.{le-leb, lt-leb, lt-ltb, le-ltb}
use Rattle.paper.specs.Octets.{address}
use Rattle.paper.specs.Answer.{gives, refused}
use Rattle.paper.specs.Telegrams.{Row, rows, covers, coverings, place_in, check_place, CoveredOnce}

pub covers_yes : (r : Row) (b : ℕ) → r.from ≤ b → b < r.end → covers r b ≡ true
covers_yes r b h k = simp (le-leb _ _ h, lt-ltb _ _ k)

pub covers_low : (r : Row) (b : ℕ) → b < r.from → covers r b ≡ false
covers_low r b h = simp (lt-leb _ _ h)

pub covers_high : (r : Row) (b : ℕ) → r.from ≤ b → r.end ≤ b → covers r b ≡ false
covers_high r b h k = simp (le-leb _ _ h, le-ltb _ _ k)

-- what the row at i says of a bit, before the rows after it
pub step : (rs : List Row) (d : Row) (i b : ℕ) → i < length rs
    → place_in (drop i rs) b ≡ cond (covers (get_or rs i d) b) (gives (get_or rs i d).place) (place_in (drop (i + 1) rs) b)
unfolding place_in
step rs d i b h = rw (add-one, drop-cons rs i d h)

-- the rows run from a to z with no gap: each starts where the one before ends, and is not empty
abbrev runs : ℕ → ℕ → List Row → Bool
runs a z [] = eqb a z
runs a z (r ∷ rs) = eqb r.from a && ltb a r.end && runs r.end z rs

module _ (a z : ℕ) (r : Row) (rs : List Row) (t : T (runs a z (r ∷ rs))) where
  starts : r.from ≡ a
  starts = eqb→eq r.from a (and_l (eqb r.from a) (ltb a r.end) (and_l (eqb r.from a && ltb a r.end) (runs r.end z rs) t))

  grows : a < r.end
  grows = ltb→lt a r.end (and_r (eqb r.from a) (ltb a r.end) (and_l (eqb r.from a && ltb a r.end) (runs r.end z rs) t))

  rest : T (runs r.end z rs)
  rest = and_r (eqb r.from a && ltb a r.end) (runs r.end z rs) t

reaches : (a z : ℕ) (rs : List Row) → T (runs a z rs) → a ≤ z
reaches a z [] t = omega (arith, eqb→eq a z t)
reaches a z (r ∷ rs) t = omega (arith, grows a z r rs t, reaches r.end z rs (rest a z r rs t))

none_before : (a z b : ℕ) (rs : List Row) → T (runs a z rs) → b < a → coverings rs b ≡ 0
unfolding coverings
none_before a z b [] t h = refl
none_before a z b (r ∷ rs) t h =
    let low : b < r.from = omega (arith, starts a z r rs t) in
    let more : b < r.end = omega (arith, grows a z r rs t) in
    simp (covers_low r b low, none_before r.end z b rs (rest a z r rs t) more)

none_after : (a z b : ℕ) (rs : List Row) → T (runs a z rs) → z ≤ b → coverings rs b ≡ 0
unfolding coverings
none_after a z b [] t h = refl
none_after a z b (r ∷ rs) t h =
    let k = reaches r.end z rs (rest a z r rs t) in
    let from : r.from ≤ b = omega (arith, starts a z r rs t, grows a z r rs t) in
    let high : r.end ≤ b = omega arith in
    simp (covers_high r b from high, none_after r.end z b rs (rest a z r rs t) h)

one_inside : (a z b : ℕ) (rs : List Row) → T (runs a z rs) → a ≤ b → b < z → coverings rs b ≡ 1
unfolding coverings
one_inside a z b [] t h k = omega (arith, eqb→eq a z t)
one_inside a z b (r ∷ rs) t h k =
    let from : r.from ≤ b = omega (arith, starts a z r rs t) in
    elim (dec_lt b r.end) [
      | yes l ↦ simp (covers_yes r b from l, none_before r.end z b rs (rest a z r rs t) l)
      | no n ↦ let g : r.end ≤ b = omega arith in simp (covers_high r b from g, one_inside r.end z b rs (rest a z r rs t) g k)
    ]

-- the one computed test
pub covered_once : (b : ℕ) → CoveredOnce b
unfolding rows
covered_once b = record {
  inside = λ h k. one_inside 368 584 b rows tt h (omega arith);
  before = λ h. none_before 368 584 b rows tt h;
  after = λ h. none_after 368 584 b rows tt (omega arith);
}

-- a bit that no row covers is refused, and one that a row covers is given a place
no_place : (b : ℕ) (rs : List Row) → coverings rs b ≡ 0 → place_in rs b ≡ refused 27 0
unfolding coverings place_in
no_place b [] e = refl
no_place b (r ∷ rs) e = by (covers r b) e (no_place b rs)
  where
    by : (t : Bool) → cond t 1 0 + coverings rs b ≡ 0 → (coverings rs b ≡ 0 → place_in rs b ≡ refused 27 0)
        → cond t (gives r.place) (place_in rs b) ≡ refused 27 0
    by true e later = absurd (omega arith)
    by false e later = later (omega arith)

a_place : (b : ℕ) (rs : List Row) → 0 < coverings rs b → (p : ℕ) × (place_in rs b ≡ gives p)
unfolding coverings place_in
a_place b [] h = absurd (omega arith)
a_place b (r ∷ rs) h = by (covers r b) h (a_place b rs)
  where
    by : (t : Bool) → 0 < cond t 1 0 + coverings rs b → (0 < coverings rs b → (p : ℕ) × (place_in rs b ≡ gives p))
        → (p : ℕ) × (cond t (gives r.place) (place_in rs b) ≡ gives p)
    by true h later = (r.place, refl)
    by false h later = later (omega arith)

-- a place is given for each bit of octets 47 to 73, and every other number is refused
pub given_inside : (b : ℕ) → address 47 0 ≤ b → b ≤ address 73 7 → (p : ℕ) × (check_place b ≡ gives p)
given_inside b h k = a_place b rows (omega (arith, (covered_once b).inside h k))

pub refused_outside : (b : ℕ) → (b < address 47 0) ⊎ (address 73 7 < b) → check_place b ≡ refused 27 0
refused_outside b (inl h) = no_place b rows ((covered_once b).before h)
refused_outside b (inr h) = no_place b rows ((covered_once b).after h)
