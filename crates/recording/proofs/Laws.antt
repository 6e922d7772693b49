-- A field, bit by bit. Assumes nothing.
use Rattle.std.proofs.Common.{◌≡◌, ℕ, zero, suc, ◌+◌, ◌-◌, ◌*◌, ◌/◌, ◌%◌, ◌^◌, ◌<◌, ◌≤◌, List, [], ◌∷◌, length, get_or, refl, ap, ◌∙◌, add-one, arith, pow_mono}
use native.Mathlib.Nat.{zero-div}
use Rattle.paper.specs.Octets.{bit, field}
use Rattle.paper.proofs.FieldLaws.{bit_lt, field_lt}

-- nothing stands past the end
past : (l : List ℕ) (i : ℕ) → length l ≤ i → get_or l i 0 ≡ 0
past [] i h = refl
past (x ∷ xs) zero h = absurd (omega arith)
past (x ∷ xs) (suc i) h = past xs i (omega arith)

pub bit_past : (l : List ℕ) (a : ℕ) → length l ≤ a / 8 → bit l a ≡ 0
unfolding bit
bit_past l a h = ap (λ (x : ℕ). x / 2 ^ (7 - a % 8) % 2) (past l (a / 8) h) ∙ ap (λ (x : ℕ). x % 2) (zero-div (2 ^ (7 - a % 8)))

pub field_none : (l : List ℕ) (s : ℕ) → field l s 0 ≡ 0
unfolding field
field_none l s = refl

pub field_more : (l : List ℕ) (s i : ℕ) → field l s (i + 1) ≡ field l s i * 2 + bit l (s + i)
unfolding field
field_more l s i = ap (field l s) (add-one i)

-- one bit more still fits
pub field_room : (l : List ℕ) (s i : ℕ) → i < 64 → field l s i * 2 + bit l (s + i) < 18446744073709551616
field_room l s i h = omega (arith, field_lt l s i, bit_lt l (s + i), pow_mono {i = i} {j = 63} (omega arith))
