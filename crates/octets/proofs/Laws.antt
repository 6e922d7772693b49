-- Eight octets as one number, by which a field in them is read and written. Assumes nothing.
use mathlib.Core.Path.{◌≡◌, sym, ap, ap₂, ◌∙◌}
use mathlib.Core.Logic.{◌⊎◌, inl, inr}
use mathlib.Core.List.{List}
use Prim.Native.Nat.{ℕ, ◌+◌, ◌-◌, ◌*◌, ◌/◌, ◌%◌, ◌^◌, ◌≤◌, ◌<◌}
use native.Mathlib.Nat.{add-zero, add_assoc, lt_of_lt_of_le, mod-lt, mod-eq_of_lt}
use native.Mathlib.Omega.{arith}
use native.Mathlib.Decide.{dec_lt}
use lib.ListN.{length, get_or, set, take}
use lib.Seq.{take-length}
use lib.Arith.{digits_lt}
use lib.Bits.{bit_and, and_mask, and_high}
use lib.Pow.{pow_pos, pow-add, pow_mono, high, low, split, shr-shr, shr_lt, shl-shr, shl_exact, ones_lt, ones_split, high_ones}
use lib.Pow as pow
use Rattle.paper.specs.Octets.{bit, field, put, number, octets_of, over, Octets, field_of, with_field}
use Rattle.octets.specs.Fields.{FieldRead, merged}
use Rattle.paper.proofs.FieldLaws.{field_lt, field_split, field_octet, field_bits, put_split, put_octet, put_unique}
use Rattle.paper.proofs.NumberLaws.{number_lt, number-field, number-octets_of, octets_of-number, length-octets_of, octets_octets_of}
use Rattle.paper.proofs.NumberLaws.{length_over, octets_over, over_other, number-over}

-- the b bits above, the w bits and the k bits below of a number of 64 bits
module _ (b w k : ℕ) (all : b + w + k ≡ 64) where
  pub shifted : (x : ℕ) → x * 2 ^ b % 2 ^ 64 / 2 ^ (64 - w) ≡ x / 2 ^ k % 2 ^ w
  shifted x =
      let e : 64 ≡ w + (b + k) = omega arith in
      let f : 64 - w ≡ b + k = omega arith in
      ap₂ (λ (i j : ℕ). x * 2 ^ b % 2 ^ i / 2 ^ j) e f
      ∙ pow.field (x * 2 ^ b) w (b + k)
      ∙ ap (λ (z : ℕ). z % 2 ^ w) (sym (shr-shr (x * 2 ^ b) b k) ∙ ap (λ (z : ℕ). z / 2 ^ k) (shl-shr x b))

  module _ (l : List ℕ) (q : ℕ) (o : Octets l) where
    whole : number l q 8 ≡ (field l (8 * q) b * 2 ^ w + field l (8 * q + b) w) * 2 ^ k + field l (8 * q + b + w) k
    whole =
        let e : 64 ≡ b + w + k = omega arith in
        number-field l q 8 o
        ∙ ap (field l (8 * q)) e
        ∙ field_split l (8 * q) (b + w) k
        ∙ ap₂ (λ (y a : ℕ). y * 2 ^ k + field l a k) (field_split l (8 * q) b w) (sym (add_assoc (8 * q) b w))

    shr : number l q 8 / 2 ^ k ≡ field l (8 * q) b * 2 ^ w + field l (8 * q + b) w
    shr = ap (λ (x : ℕ). x / 2 ^ k) whole ∙ high _ k (field_lt l (8 * q + b + w) k)

    above : number l q 8 / 2 ^ (k + w) ≡ field l (8 * q) b
    above = sym (shr-shr (number l q 8) k w) ∙ ap (λ (x : ℕ). x / 2 ^ w) shr ∙ high _ w (field_lt l (8 * q + b) w)

    pub within : number l q 8 / 2 ^ k % 2 ^ w ≡ field l (8 * q + b) w
    within = ap (λ (x : ℕ). x % 2 ^ w) shr ∙ low _ w (field_lt l (8 * q + b) w)

    below : number l q 8 % 2 ^ k ≡ field l (8 * q + b + w) k
    below = ap (λ (x : ℕ). x % 2 ^ k) whole ∙ low _ k (field_lt l (8 * q + b + w) k)

-- n ones from the k lowest bits on
module _ (k n : ℕ) (h : k + n ≤ 64) where
  pub ones : 18446744073709551615 / 2 ^ (64 - n) ≡ 2 ^ n - 1
  ones =
      let e : 64 ≡ n + (64 - n) = omega arith in
      ap (λ (i : ℕ). (2 ^ i - 1) / 2 ^ (64 - n)) e
      ∙ ap (λ (z : ℕ). z / 2 ^ (64 - n)) (ones_split n (64 - n))
      ∙ high (2 ^ n - 1) (64 - n) (ones_lt (64 - n))

  masked : (x : ℕ) → bit_and x (18446744073709551615 / 2 ^ (64 - n) * 2 ^ k % 2 ^ 64) ≡ x / 2 ^ k % 2 ^ n * 2 ^ k
  masked x =
      ap (λ (m : ℕ). bit_and x (m * 2 ^ k % 2 ^ 64)) ones
      ∙ ap (bit_and x) (shl_exact n k 64 (ones_lt n) (omega arith) ∙ sym (high_ones n k))
      ∙ and_high x n k

  moved : (v : ℕ) → bit_and v (18446744073709551615 / 2 ^ (64 - n)) * 2 ^ k % 2 ^ 64 ≡ v % 2 ^ n * 2 ^ k
  moved v =
      ap (λ (m : ℕ). bit_and v m * 2 ^ k % 2 ^ 64) ones
      ∙ ap (λ (m : ℕ). m * 2 ^ k % 2 ^ 64) (and_mask v n)
      ∙ shl_exact n k 64 (mod-lt v (pow_pos n)) (omega arith)

  module _ (x v : ℕ) where
    parts : (x / 2 ^ (k + n) * 2 ^ n + x / 2 ^ k % 2 ^ n) * 2 ^ k + x % 2 ^ k ≡ x
    parts =
        ap (λ (z : ℕ). (z * 2 ^ n + x / 2 ^ k % 2 ^ n) * 2 ^ k + x % 2 ^ k) (sym (shr-shr x k n))
        ∙ ap (λ (z : ℕ). z * 2 ^ k + x % 2 ^ k) (split (x / 2 ^ k) n)
        ∙ split x k

    pub merged_by : x - bit_and x (18446744073709551615 / 2 ^ (64 - n) * 2 ^ k % 2 ^ 64)
        + bit_and v (18446744073709551615 / 2 ^ (64 - n)) * 2 ^ k % 2 ^ 64 ≡ merged x k n v
    unfolding merged
    merged_by = ap₂ (λ (y z : ℕ). x - y + z) (masked x) (moved v) ∙ omega (arith, parts)

    pub merged_lt : x < 2 ^ 64 → merged x k n v < 2 ^ 64
    unfolding merged
    merged_lt lt =
        let b = 64 - (k + n) in
        let e : b + (k + n) ≡ 64 = omega arith in
        let g : x < 2 ^ (b + (k + n)) = rw e lt in
        let i : b + n + k ≡ 64 = omega arith in
        let f : 2 ^ b * 2 ^ n * 2 ^ k ≡ 2 ^ 64 =
        ap (λ (z : ℕ). z * 2 ^ k) (sym (pow-add 2 b n)) ∙ sym (pow-add 2 (b + n) k) ∙ ap (λ (i : ℕ). 2 ^ i) i in
        rw f at (digits_lt (digits_lt (shr_lt b (k + n) g) (mod-lt v (pow_pos n))) (mod-lt x (pow_pos k)))

-- ---- a field in eight octets

module _ (l : List ℕ) (q b w k v : ℕ) (all : b + w + k ≡ 64) (o : Octets l) (fits : q + 8 ≤ length l) where
  abbrev new : ℕ
  new = merged (number l q 8) k w v

  abbrev octets : List ℕ
  octets = octets_of 8 new

  room : q + length octets ≤ length l
  room = omega (arith, length-octets_of 8 new)

  abbrev after : List ℕ
  after = over l q octets

  octets_after : Octets after
  octets_after = octets_over l q octets room o (octets_octets_of 8 new)

  -- the eight octets written are the new number
  reads : number after q 8 ≡ new
  reads =
      let lt : number l q 8 < 2 ^ 64 = number_lt l q 8 o in
      ap (λ (j : ℕ). number after j 8) (sym (add-zero q))
      ∙ number-over l q octets room 0 8 (omega (arith, length-octets_of 8 new))
      ∙ number-octets_of 8 new
      ∙ mod-eq_of_lt {m = 2 ^ 64} (merged_lt k w (omega arith) (number l q 8) v lt)

  field_after : field after (8 * q + b) w ≡ v % 2 ^ w
  unfolding merged
  field_after =
      sym (within b w k all after q octets_after)
      ∙ ap (λ (x : ℕ). x / 2 ^ k % 2 ^ w) reads
      ∙ ap (λ (x : ℕ). x % 2 ^ w) (high _ k (mod-lt (number l q 8) (pow_pos k)))
      ∙ low _ w (mod-lt v (pow_pos w))

  above_after : field after (8 * q) b ≡ field l (8 * q) b
  unfolding merged
  above_after =
      sym (above b w k all after q octets_after)
      ∙ ap (λ (x : ℕ). x / 2 ^ (k + w)) reads
      ∙ sym (shr-shr _ k w)
      ∙ ap (λ (x : ℕ). x / 2 ^ w) (high _ k (mod-lt (number l q 8) (pow_pos k)))
      ∙ high _ w (mod-lt v (pow_pos w))
      ∙ above b w k all l q o

  below_after : field after (8 * q + b + w) k ≡ field l (8 * q + b + w) k
  unfolding merged
  below_after =
      sym (below b w k all after q octets_after)
      ∙ ap (λ (x : ℕ). x % 2 ^ k) reads
      ∙ low _ k (mod-lt (number l q 8) (pow_pos k))
      ∙ below b w k all l q o

  beyond : (a : ℕ) → (a / 8 < q) ⊎ (q + 8 ≤ a / 8) → bit after a ≡ bit l a
  unfolding bit
  beyond a d = ap (λ (x : ℕ). x / 2 ^ (7 - a % 8) % 2) (over_other l q octets room (a / 8) (past d))
    where
      past : (a / 8 < q) ⊎ (q + 8 ≤ a / 8) → (a / 8 < q) ⊎ (q + length octets ≤ a / 8)
      past (inl h) = inl h
      past (inr h) = inr (omega (arith, length-octets_of 8 new))

  same : (s n : ℕ) → field after s n ≡ field l s n → (a : ℕ) → s ≤ a → a < s + n → bit after a ≡ bit l a
  same s n e a h g =
      let j : s + (a - s) ≡ a = omega arith in
      rw j at (field_bits after l s s n e (a - s) (omega arith))

  outside : (a : ℕ) → (8 * q + b ≤ a → a < 8 * q + b + w → ⊥) → bit after a ≡ bit l a
  outside a out =
      elim (dec_lt a (8 * q)) [
        | yes h ↦ beyond a (inl (omega arith))
        | no h ↦ elim (dec_lt a (8 * q + b)) [
          | yes g ↦ same (8 * q) b above_after a (omega arith) g
          | no g ↦ elim (dec_lt a (8 * q + 64)) [
            | yes f ↦ same (8 * q + b + w) k below_after a (behind (omega arith)) (omega arith)
            | no f ↦ beyond a (inr (omega arith))
          ]
        ]
      ]
    where
      behind : 8 * q + b ≤ a → 8 * q + b + w ≤ a
      behind h = elim (dec_lt a (8 * q + b + w)) [ yes f ↦ absurd (out h f) | no f ↦ omega arith ]

  pub put_window : over l q (octets_of 8 (merged (number l q 8) k w v)) ≡ put l (8 * q + b) w v
  put_window = put_unique l after (8 * q + b) w v (omega arith) (length_over l q octets room) o octets_after outside field_after

-- ---- a field whose last n bits stand first in octet e

-- the first n bits of an octet need no mask
pub first_bits : (x n : ℕ) → n ≤ 8 → x < 256 → x / 2 ^ (8 - n) ≡ field_of x 0 n
unfolding field_of
first_bits x n h lt =
    let i : n + (8 - n) ≡ 8 = omega arith in
    let e : 8 - n ≡ 8 - (0 + n) = omega arith in
    let g : x < 2 ^ (n + (8 - n)) = rw i lt in
    sym (mod-eq_of_lt {m = 2 ^ n} (shr_lt n (8 - n) g)) ∙ ap (λ (k : ℕ). x / 2 ^ k % 2 ^ n) e

module _ (l : List ℕ) (s d n w e : ℕ) (both : d + n ≡ w) (at : 8 * e + 0 ≡ s + d) (h : n ≤ 8) where
  pub field_last : (x y : ℕ) → x ≡ field l s d → y ≡ field_of (get_or l e 0) 0 n → x * 2 ^ n + y ≡ field l s w
  field_last x y f g =
      ap₂ (λ (i j : ℕ). i * 2 ^ n + j) f (g ∙ sym (field_octet l e 0 n (omega arith)) ∙ ap (λ (a : ℕ). field l a n) at)
      ∙ sym (field_split l s d n)
      ∙ ap (field l s) both

  -- what `join` asks
  pub joins : w ≤ 64 → (x y : ℕ) → x ≡ field l s d → y ≡ field_of (get_or l e 0) 0 n → (n < 64) × (y < 2 ^ n) × (x * 2 ^ n + y < 2 ^ 64)
  unfolding field_of
  joins wide x y f g =
      (omega arith, rw g (mod-lt _ (pow_pos n)), rw (field_last x y f g) (lt_of_lt_of_le (field_lt l s w) (pow_mono {i = w} {j = 64} wide)))

  pub put_last : (m : List ℕ) (v : ℕ) → m ≡ put l s d (v / 2 ^ n) → e < length m → set m e (with_field (get_or m e 0) 0 n v) ≡ put l s w v
  put_last m v f lt =
      sym (put_octet m e 0 n v (omega arith) lt)
      ∙ ap₂ (λ (x : List ℕ) (a : ℕ). put x a n v) f at
      ∙ sym (put_split l s d n v)
      ∙ ap (λ (x : ℕ). put l s x v) both

-- the octets of a number say nothing of what stands above them
pub octets_of-mod : (n v : ℕ) → octets_of n (v % 256 ^ n) ≡ octets_of n v
octets_of-mod n v =
    ap (octets_of n) (sym (number-octets_of n v))
    ∙ octets_of-number (octets_of n v) 0 n (octets_octets_of n v) (omega (arith, length-octets_of n v))
    ∙ ap (λ (j : ℕ). take j (octets_of n v)) (sym (length-octets_of n v))
    ∙ take-length (octets_of n v)

pub field_is : {l : List ℕ} {s w r : ℕ} → r ≡ field l s w → FieldRead l s w r
field_is {l} {s} {w} e = record { value = e; small = rw e (field_lt l s w) }

-- where a field starts, by its octet and its bit
pub field_at : (l : List ℕ) (s q b w r : ℕ) → 8 * q + b ≡ s → r ≡ field l (8 * q + b) w → FieldRead l s w r
field_at l s q b w r e f = field_is (f ∙ ap (λ (a : ℕ). field l a w) e)

pub put_at : {m : List ℕ} (l : List ℕ) (s q b w v : ℕ) → 8 * q + b ≡ s → m ≡ put l (8 * q + b) w v → m ≡ put l s w v
put_at l s q b w v e f = f ∙ ap (λ (a : ℕ). put l a w v) e
