-- The laws of a scale, for whoever asks: a quotient by a power of two of a number that an f32 holds is exact, and what is exact as a
-- value is exact by its bits. Assumes nothing.
use mathlib.Core.Path.{◌≡◌, refl, sym, ap, ◌∙◌, subst}
use mathlib.Core.Bool.{Bool, true, false, cond, true≢false}
use Prim.Native.Nat.{ℕ, zero, suc, ◌+◌, ◌-◌, ◌*◌, ◌^◌, ◌<◌, ◌≤◌}
use native.Mathlib.Nat.{mul-one, one-mul, mul_assoc, mul_comm, mul_right_comm, eq_of_mul-eq-mul_right, zero-mul, mul-pos}
use native.Mathlib.Nat.{zero-lt-suc, lt_irrefl, le_of_lt, lt_of_lt_of_le}
use native.Mathlib.Omega.{arith}
use lib.IntN.{pos}
use lib.Dec.{T, eqb, le→leb}
use borrow.Author.Tests.{eqb-false, leb-false}
use lib.Pow.{pow-add, pow_pos, pow_mono, shl_lt}
use lib.Ieee.{Float, nan, inf, fin, binary32, up, down, odd, unlike, round, div, of_int, in_float, of_fields, of_bits, to_bits, fits}
use lib.Ieee.Exact.{HasValue, odd_sign, round_exact}
use lib.Ieee.Back.{round_whole}
use lib.Ieee.Scale.{round_same}
use lib.Ieee.Bits.{of_bits-to_bits, to_bits-lt}
use lib.Ieee.Fits.{down_pos, round-fits}
use Rattle.paper.specs.Shown.{minus, exponent, fraction, units_at, units, ExactBits, Exactly, nearest}

-- ---- from the value to the bits

-- one float has one sign and one size
one_value : (v : Float) (s t : Bool) (a c n d : ℕ) → HasValue v s a c → HasValue v t n d → (s ≡ t) × (a * d ≡ n * c)
one_value nan s t a c n d h k = absurd h
one_value (inf u) s t a c n d h k = absurd h
one_value (fin u m e) s t a c n d h k = (
  sym h.0 ∙ k.0,
  eq_of_mul-eq-mul_right (down e) (down_pos e) (a * d) (n * c)
      (mul_right_comm a d (down e)
      ∙ ap (λ (x : ℕ). x * d) (sym h.1)
      ∙ mul_right_comm (m * up e) c d
      ∙ ap (λ (x : ℕ). x * c) k.1
      ∙ mul_right_comm n (down e) c),
)

-- what the three fields stand for
module _ (s t : Bool) (f n d : ℕ) where
  abbrev Read : ℕ → Type 0
  Read x = (x < 255) × ((s ≡ t) × (units_at x f * d ≡ n * 2 ^ 149))

  -- a field of all ones is no number
  lead : (x : ℕ) → suc x < 256 → (b : Bool) → eqb (suc x) 255 ≡ b
      → HasValue (cond b (cond (eqb f 0) (inf s) nan) (odd 24 s (2 ^ 23 + f) x 149)) t n d → Read (suc x)
  lead x h true e v = absurd (none (eqb f 0) v)
    where
      none : (z : Bool) → HasValue (cond z (inf s) nan) t n d → ⊥
      none true w = w
      none false w = w
  lead x h false e v = (
    omega (arith, eqb-false (suc x) 255 e),
    one_value (odd 24 s (2 ^ 23 + f) x 149) s t ((2 ^ 23 + f) * 2 ^ x) (2 ^ 149) n d (odd_sign 24 s (2 ^ 23 + f) x 149) v,
  )

  read : (x : ℕ) → x < 256 → HasValue (of_fields binary32 s x f) t n d → Read x
  unfolding of_fields
  read zero h v = (
    omega arith,
    rw mul-one at (one_value (odd 24 s f 0 149) s t (f * 1) (2 ^ 149) n d (odd_sign 24 s f 0 149) v),
  )
  read (suc x) h v = lead x h (eqb (suc x) 255) refl v

-- an f32 that has the value ±n / d says so by its bits
pub exactly : (v : Float) (s : Bool) (n d : ℕ) → T (fits binary32 v) → HasValue v s n d → Exactly v s n d
unfolding of_bits units
exactly v s n d f h =
    let b = to_bits binary32 v in
    let lt : b < 2 ^ 32 = to_bits-lt binary32 v f in
    let r = read (minus b) s (fraction b) n d (exponent b) (omega arith)
    (subst (λ (x : Float). HasValue x s n d) (sym (of_bits-to_bits binary32 v f)) h) in
    record { finite = r.0; sign = r.1.0; size = r.1.1 }

-- ---- quotients by powers of two

-- rounding n / 2 ^ k loses nothing for an n of 24 bits
pub exact_round : (s : Bool) (n k : ℕ) → n < 2 ^ 24 → k ≤ 149 → HasValue (round binary32 s n (2 ^ k)) s n (2 ^ k)
exact_round s n k h l =
    let j = 149 - k in
    let e : j + k ≡ 149 = omega arith in
    let r : 24 + j ≤ 149 + 128 = omega arith in
    round_exact binary32 s n (2 ^ k) n j (pow_pos k) h (lt_of_lt_of_le (shl_lt 24 j h) (pow_mono r))
    (ap (λ (x : ℕ). n * 2 ^ x) (sym e) ∙ ap (λ (x : ℕ). n * x) (pow-add 2 j k) ∙ sym (mul_assoc n (2 ^ j) (2 ^ k)))

-- so the nearest f32 is exact by its bits
pub exact : (s : Bool) (n k : ℕ) → n < 2 ^ 24 → k ≤ 149 → Exactly (nearest s n (2 ^ k)) s n (2 ^ k)
exact s n k h l = exactly (nearest s n (2 ^ k)) s n (2 ^ k) (round-fits binary32 s n (2 ^ k)) (exact_round s n k h l)

-- a whole number of 24 bits, divided by ±2 ^ k, is the f32 nearest to the quotient
pub quotient : (s : Bool) (n k : ℕ) → n < 2 ^ 24 → div binary32 (of_int binary32 (pos n)) (fin s 1 (pos k)) ≡ nearest s n (2 ^ k)
unfolding of_int div
quotient s n k h = go (round binary32 false n 1) (round_whole binary32 false n (le_of_lt h))
  where
    sign : (s : Bool) → unlike false s ≡ s
    sign true = refl
    sign false = refl

    go : (v : Float) → HasValue v false n 1 → div binary32 v (fin s 1 (pos k)) ≡ nearest s n (2 ^ k)
    go nan w = absurd w
    go (inf u) w = absurd w
    go (fin true m e) w = absurd (true≢false w.0)
    go (fin false m e) w =
        ap (λ (x : Bool). round binary32 x (m * up e * 1) (1 * 2 ^ k * down e)) (sign s)
        ∙ round_same binary32 s (m * up e * 1) (1 * 2 ^ k * down e) n (2 ^ k)
        (mul-pos (mul-pos (zero-lt-suc 0) (pow_pos k)) (down_pos e)) (pow_pos k)
        (ap (λ (x : ℕ). x * 2 ^ k) w.1 ∙ mul_assoc n (down e) (2 ^ k)
        ∙ ap (λ (x : ℕ). n * x) (mul_comm (down e) (2 ^ k) ∙ ap (λ (x : ℕ). x * down e) (sym (one-mul (2 ^ k)))))

-- a number of 24 bits casts to an f32 with nothing lost
pub casts : (n : ℕ) → n < 2 ^ 24 → T (in_float binary32 (pos n))
unfolding in_float
casts n h = le→leb n (2 ^ 24) (le_of_lt h)

-- a zero is +0: all 32 bits are clear
positive : (x f d : ℕ) → 0 < d → units_at x f * d ≡ 0 * 2 ^ 149 → (x ≡ 0) × (f ≡ 0)
positive zero f d h e = (refl, eq_of_mul-eq-mul_right d h f 0 (e ∙ sym (zero-mul d)))
positive (suc x) f d h e =
    let lead : 0 < 2 ^ 23 + f = omega arith in
    absurd (lt_irrefl 0 (subst (λ (n : ℕ). 0 < n) e (mul-pos (mul-pos lead (pow_pos x)) h)))

pub zero_bits : (b d : ℕ) → b < 2 ^ 32 → 0 < d → ExactBits b false 0 d → b ≡ 0
unfolding units
zero_bits b d l h e =
    let z = positive (exponent b) (fraction b) d h e.size in
    let s : b < 2 ^ 31 = omega (arith, leb-false (2 ^ 31) b e.sign) in
    omega (arith, z.0, z.1)
