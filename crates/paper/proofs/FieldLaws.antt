-- The laws of bit fields. Assumes nothing.
use mathlib.Core.Path.{◌≡◌, refl, sym, ap, ap₂, ◌∙◌}
use mathlib.Core.Logic.{◌⊎◌, ⊎_elim}
use mathlib.Core.List.{List, ◌++◌}
use Prim.Native.Nat.{ℕ, zero, suc, ◌+◌, ◌-◌, ◌*◌, ◌/◌, ◌%◌, ◌^◌, ◌≤◌, ◌<◌}
use native.Mathlib.Nat.{div-one, div-div-eq-div-mul, add-zero, add-suc, add_assoc, mod-lt, mod-one, mod-eq_of_lt, mul-add-div_right, mul-add-mod_self_right, pow-suc}
use native.Mathlib.Omega.{arith}
use native.Mathlib.Decide.{dec_lt, ℕ_discrete}
use lib.ListN.{length, get_or, set, length-set, get_or-append}
use lib.Seq.{ext_get_or, set_out, set-set, set-get_or, get_or-set_same, get_or-set_other}
use lib.Arith.{digits_lt, mod-mul}
use lib.Dec.{lit<}
use lib.Pow.{pow_pos, pow-add, high, low, split, shr-shr, shr_lt, mod-mod-pow}
use Rattle.paper.specs.Octets.{bit, field, with_bit, set_bit, put, Octets, field_of, with_field}

-- ---- digits of a number

-- a digit below p does not depend on what stands from p on
low_bit : (h p r i : ℕ) → i < p → (h * 2 ^ p + r) / 2 ^ i % 2 ≡ r / 2 ^ i % 2
low_bit h p r i lt =
    let j = p - suc i in
    let e : 2 ^ p ≡ 2 ^ j * 2 ^ suc i = ap (λ (n : ℕ). 2 ^ n) (omega arith) ∙ pow-add 2 j (suc i) in
    let f : h * 2 ^ p ≡ (h * 2 ^ j * 2) * 2 ^ i = ap (λ (n : ℕ). h * n) (e ∙ ap (λ (n : ℕ). 2 ^ j * n) (pow-suc 2 i)) ∙ omega arith in
    ap (λ (n : ℕ). (n + r) / 2 ^ i % 2) f
    ∙ ap (λ (n : ℕ). n % 2) (mul-add-div_right (pow_pos i) (h * 2 ^ j * 2) r)
    ∙ mul-add-mod_self_right (h * 2 ^ j) 2 (r / 2 ^ i)

-- a digit from p on depends only on what stands from p on
high_bit : (x y p i : ℕ) → p ≤ i → x / 2 ^ p ≡ y / 2 ^ p → x / 2 ^ i ≡ y / 2 ^ i
high_bit x y p i le e =
    let k : i ≡ p + (i - p) = omega arith in
    ap (λ (n : ℕ). x / 2 ^ n) k ∙ sym (shr-shr x p (i - p)) ∙ ap (λ (n : ℕ). n / 2 ^ (i - p)) e ∙ shr-shr y p (i - p) ∙ ap (λ (n : ℕ). y / 2 ^ n) (sym k)

-- the last digit apart
mod_suc : (v w : ℕ) → v / 2 % 2 ^ w * 2 + v % 2 ≡ v % 2 ^ suc w
mod_suc v w = sym (ap (λ (n : ℕ). v % n) (pow-suc 2 w) ∙ mod-mul v (pow_pos w) (lit< tt))

-- ---- one bit

pub bit_lt : (l : List ℕ) (a : ℕ) → bit l a < 2
unfolding bit
bit_lt l a = omega arith

-- the bits from b's place on, of an octet with bit b replaced
with_at : (x b v : ℕ) → with_bit x b v / 2 ^ (7 - b) ≡ x / 2 ^ (8 - b) * 2 + v
unfolding with_bit
with_at x b v = high (x / 2 ^ (8 - b) * 2 + v) (7 - b) (mod-lt x (pow_pos (7 - b)))

-- the bits above b are as they were
with_above : (x b v : ℕ) → b < 8 → v < 2 → with_bit x b v / 2 ^ (8 - b) ≡ x / 2 ^ (8 - b)
with_above x b v h hv =
    let k : 8 - b ≡ (7 - b) + 1 = omega arith in
    ap (λ (n : ℕ). with_bit x b v / 2 ^ n) k ∙ sym (shr-shr (with_bit x b v) (7 - b) 1) ∙ ap (λ (n : ℕ). n / 2) (with_at x b v) ∙ omega arith

with_same : (x b v : ℕ) → v < 2 → with_bit x b v / 2 ^ (7 - b) % 2 ≡ v
with_same x b v hv = ap (λ (n : ℕ). n % 2) (with_at x b v) ∙ omega arith

with_other : (x b v c : ℕ) → b < 8 → v < 2 → c < 8 → (c ≡ b → ⊥) → with_bit x b v / 2 ^ (7 - c) % 2 ≡ x / 2 ^ (7 - c) % 2
unfolding with_bit
with_other x b v c hb hv hc ne =
    elim (dec_lt c b) [
      | yes h ↦ ap (λ (n : ℕ). n % 2) (high_bit (with_bit x b v) x (8 - b) (7 - c) (omega arith) (with_above x b v hb hv))
      | no h ↦
          low_bit (x / 2 ^ (8 - b) * 2 + v) (7 - b) (x % 2 ^ (7 - b)) (7 - c) (omega arith)
          ∙ sym (low_bit (x / 2 ^ (7 - b)) (7 - b) (x % 2 ^ (7 - b)) (7 - c) (omega arith))
          ∙ ap (λ (n : ℕ). n / 2 ^ (7 - c) % 2) (split x (7 - b))
    ]

with_lt : (x b v : ℕ) → b < 8 → v < 2 → x < 256 → with_bit x b v < 256
unfolding with_bit
with_lt x b v hb hv hx =
    let i : b + (8 - b) ≡ 8 = omega arith in
    let j : suc b + (7 - b) ≡ 8 = omega arith in
    let e : 2 ^ (b + (8 - b)) ≡ 256 = ap (λ (n : ℕ). 2 ^ n) i in
    let f : 2 ^ (suc b) * 2 ^ (7 - b) ≡ 256 = sym (pow-add 2 (suc b) (7 - b)) ∙ ap (λ (n : ℕ). 2 ^ n) j in
    let g : x / 2 ^ (8 - b) < 2 ^ b = shr_lt b (8 - b) (omega arith) in
    rw f at (digits_lt {q = x / 2 ^ (8 - b) * 2 + v} {m = 2 ^ suc b} (omega arith) (mod-lt x (pow_pos (7 - b))))

-- ---- one bit of a list

pub octets_set : (l : List ℕ) (i x : ℕ) → Octets l → x < 256 → Octets (set l i x)
octets_set l i x o hx j =
    elim (ℕ_discrete j i) [
      | yes e ↦ elim (dec_lt i (length l)) [
        | yes h ↦ rw (e, get_or-set_same) hx
        | no h ↦ rw (set_out l i x (omega arith)) (o j)
      ]
      | no ne ↦ rw get_or-set_other (o j)
    ]

module _ (l : List ℕ) (a v : ℕ) (hv : v < 2) where
  pub length-set_bit : length (set_bit l a v) ≡ length l
  unfolding set_bit
  length-set_bit = simp length-set

  pub octets_set_bit : Octets l → Octets (set_bit l a v)
  unfolding set_bit
  octets_set_bit o = octets_set l (a / 8) _ o (with_lt _ _ _ (omega arith) hv (o (a / 8)))

  pub bit-set_bit_same : a < 8 * length l → bit (set_bit l a v) a ≡ v
  unfolding set_bit bit
  bit-set_bit_same h = rw (get_or-set_same l (a / 8) _ 0 (omega arith)) (with_same _ _ _ hv)

  pub bit-set_bit_other : (c : ℕ) → (c ≡ a → ⊥) → bit (set_bit l a v) c ≡ bit l c
  unfolding set_bit bit
  bit-set_bit_other c ne =
      elim (ℕ_discrete (c / 8) (a / 8)) [
        | yes e ↦ elim (dec_lt (a / 8) (length l)) [
          | yes h ↦ rw (e, get_or-set_same) (with_other _ _ _ _ (omega arith) hv (omega arith) (omega arith))
          | no h ↦ rw (set_out l (a / 8) _ (omega arith)) refl
        ]
        | no ne ↦ rw get_or-set_other refl
      ]

-- ---- fields

-- a field of k bits is below 2 ^ k
pub field_lt : (l : List ℕ) (start width : ℕ) → field l start width < 2 ^ width
unfolding field
field_lt l start zero = omega arith
field_lt l start (suc w) = omega (arith, field_lt l start w, bit_lt l (start + w))

-- two fields with the same bits are the same number
pub field_ext : (l m : List ℕ) (s t w : ℕ) → ((i : ℕ) → i < w → bit l (s + i) ≡ bit m (t + i)) → field l s w ≡ field m t w
unfolding field
field_ext l m s t zero h = refl
field_ext l m s t (suc w) h = ap₂ (λ (x y : ℕ). x * 2 + y) (field_ext l m s t w (λ i lt. h i (omega arith))) (h w (omega arith))

-- what stands behind makes no difference to a field
pub field_front : (l m : List ℕ) (s w : ℕ) → s + w ≤ 8 * length l → field (l ++ m) s w ≡ field l s w
unfolding bit
field_front l m s w h =
    field_ext (l ++ m) l s s w (λ i lt. ap (λ (x : ℕ). x / 2 ^ (7 - (s + i) % 8) % 2) (get_or-append l m 0 ((s + i) / 8) (omega arith)))

-- a field is its first part, then the rest
pub field_split : (l : List ℕ) (s m n : ℕ) → field l s (m + n) ≡ field l s m * 2 ^ n + field l (s + m) n
unfolding field
field_split l s m zero = rw add-zero (omega arith)
field_split l s m (suc n) =
    rw add-suc (omega (arith, field_split l s m n, ap (bit l) (add_assoc s m n), ap (λ (x : ℕ). field l s m * x) (pow-suc 2 n)))

-- what lies in one octet: its bits b to b + n - 1
pub field_octet : (l : List ℕ) (q b n : ℕ) → b + n ≤ 8 → field l (8 * q + b) n ≡ field_of (get_or l q 0) b n
unfolding field bit field_of
field_octet l q b zero h = sym (mod-one _)
field_octet l q b (suc n) h =
    let x = get_or l q 0 in
    let k = 8 - (b + suc n) in
    let i : (8 * q + b + n) / 8 ≡ q = omega arith in
    let j : 7 - (8 * q + b + n) % 8 ≡ k = omega arith in
    let e : 8 - (b + n) ≡ k + 1 = omega arith in
    ap₂ (λ (y z : ℕ). y * 2 + z)
    (field_octet l q b n (omega arith) ∙ ap (λ (y : ℕ). y % 2 ^ n) (ap (λ (y : ℕ). x / 2 ^ y) e ∙ sym (shr-shr x k 1)))
    (ap₂ (λ (y z : ℕ). get_or l y 0 / 2 ^ z % 2) i j)
    ∙ mod_suc (x / 2 ^ k) n

-- ---- what was put

pub length-put : (l : List ℕ) (s w v : ℕ) → length (put l s w v) ≡ length l
unfolding put
length-put l s zero v = refl
length-put l s (suc w) v = length-set_bit _ _ _ (omega arith) ∙ length-put l s w (v / 2)

pub octets_put : (l : List ℕ) (s w v : ℕ) → Octets l → Octets (put l s w v)
unfolding put
octets_put l s zero v o = o
octets_put l s (suc w) v o = octets_set_bit _ _ _ (omega arith) (octets_put l s w (v / 2) o)

-- no bit outside the field is changed
pub bit-put_other : (l : List ℕ) (s w v a : ℕ) → (s ≤ a → a < s + w → ⊥) → bit (put l s w v) a ≡ bit l a
unfolding put
bit-put_other l s zero v a out = refl
bit-put_other l s (suc w) v a out =
    bit-set_bit_other _ (s + w) (v % 2) (omega arith) a (λ e. out (omega arith) (omega arith))
    ∙ bit-put_other l s w (v / 2) a (λ le lt. out le (omega arith))

-- a field that does not meet the one written reads the same
pub field-put_other : (l : List ℕ) (s w v t u : ℕ) → (t + u ≤ s) ⊎ (s + w ≤ t) → field (put l s w v) t u ≡ field l t u
field-put_other l s w v t u d =
    field_ext _ _ t t u (λ i lt. bit-put_other l s w v (t + i) (λ le gt. ⊎_elim (λ h. omega arith) (λ h. omega arith) d))

-- what is read back is the low bits of what was put
pub field-put-mod : (l : List ℕ) (s w v : ℕ) → s + w ≤ 8 * length l → field (put l s w v) s w ≡ v % 2 ^ w
unfolding put field
field-put-mod l s zero v h = sym (mod-one v)
field-put-mod l s (suc w) v h =
    let ext = field_ext (set_bit (put l s w (v / 2)) (s + w) (v % 2)) (put l s w (v / 2)) s s w
    (λ i lt. bit-set_bit_other _ _ _ (omega arith) (s + i) (omega arith)) in
    let last = bit-set_bit_same (put l s w (v / 2)) (s + w) (v % 2) (omega arith) (rw length-put (omega arith)) in
    ap₂ (λ (x y : ℕ). x * 2 + y) (ext ∙ field-put-mod l s w (v / 2) (omega arith)) last ∙ mod_suc v w

pub field_put : (l : List ℕ) (s w v : ℕ) → s + w ≤ 8 * length l → v < 2 ^ w → field (put l s w v) s w ≡ v
field_put l s w v h lt = field-put-mod l s w v h ∙ mod-eq_of_lt lt

-- a field that is put in two parts
pub put_split : (l : List ℕ) (s m n v : ℕ) → put l s (m + n) v ≡ put (put l s m (v / 2 ^ n)) (s + m) n v
unfolding put
put_split l s m zero v = rw (add-zero, div-one)
put_split l s m (suc n) v =
    let e : v / 2 / 2 ^ n ≡ v / 2 ^ suc n = div-div-eq-div-mul v 2 (2 ^ n) ∙ ap (λ (x : ℕ). v / x) (omega arith) in
    rw (add-suc, put_split l s m n (v / 2), e, add_assoc s m n)

-- ---- several bits of one octet

-- what stands above bit 1 + k is replaced by T: the bits below k are as they were
under : (T x k : ℕ) → (T * 2 ^ (1 + k) + x % 2 ^ (1 + k)) % 2 ^ k ≡ x % 2 ^ k
under T x k = sym (mod-mod-pow _ 1 k) ∙ ap (λ (z : ℕ). z % 2 ^ k) (low T (1 + k) (mod-lt x (pow_pos (1 + k)))) ∙ mod-mod-pow x 1 k

-- one bit more
with_more : (x b n v : ℕ) → b + suc n ≤ 8 → with_bit (with_field x b n (v / 2)) (b + n) (v % 2) ≡ with_field x b (suc n) v
unfolding with_bit with_field
with_more x b n v h =
    let k = 8 - (b + suc n) in
    let e : 8 - (b + n) ≡ 1 + k = omega arith in
    let f : 7 - (b + n) ≡ k = omega arith in
    let T = x / 2 ^ (8 - b) * 2 ^ n + v / 2 % 2 ^ n in
    let t : T * 2 + v % 2 ≡ x / 2 ^ (8 - b) * 2 ^ suc n + v % 2 ^ suc n = omega (arith, mod_suc v n, ap (λ (z : ℕ). x / 2 ^ (8 - b) * z) (pow-suc 2 n)) in
    rw (e, f, high T (1 + k) (mod-lt x (pow_pos (1 + k))), under, t)

-- to put a field within one octet is to replace that octet
pub put_octet : (l : List ℕ) (q b n v : ℕ) → b + n ≤ 8 → q < length l → put l (8 * q + b) n v ≡ set l q (with_field (get_or l q 0) b n v)
unfolding put set_bit with_field
put_octet l q b zero v h lt = sym (set-get_or l q 0) ∙ ap (set l q) (rw (add-zero b, mod-one v) (omega (arith, split (get_or l q 0) (8 - b))))
put_octet l q b (suc n) v h lt =
    let i : (8 * q + b + n) / 8 ≡ q = omega arith in
    let j : (8 * q + b + n) % 8 ≡ b + n = omega arith in
    rw (put_octet l q b n (v / 2) (omega arith) lt, i, j, get_or-set_same, set-set, with_more) refl

module _ (x b n v : ℕ) (h : b + n ≤ 8) (hx : x < 256) where
  pub top_lt : x / 2 ^ (8 - b) * 2 ^ n + v % 2 ^ n < 2 ^ (b + n)
  top_lt =
      let i : b + (8 - b) ≡ 8 = omega arith in
      let e : 2 ^ (b + (8 - b)) ≡ 256 = ap (λ (n : ℕ). 2 ^ n) i in
      rw (pow-add 2 b n) (digits_lt (shr_lt b (8 - b) (omega arith)) (mod-lt v (pow_pos n)))

  pub with_field_lt : with_field x b n v < 256
  unfolding with_field
  with_field_lt =
      let i : b + n + (8 - (b + n)) ≡ 8 = omega arith in
      let e : 2 ^ (b + n) * 2 ^ (8 - (b + n)) ≡ 256 = sym (pow-add 2 (b + n) (8 - (b + n))) ∙ ap (λ (n : ℕ). 2 ^ n) i in
      rw e at (digits_lt top_lt (mod-lt x (pow_pos (8 - (b + n)))))

-- ---- nothing else is a put: the field and the bits outside it say which list it is

-- equal fields have equal bits
pub field_bits : (l m : List ℕ) (s t w : ℕ) → field l s w ≡ field m t w → (i : ℕ) → i < w → bit l (s + i) ≡ bit m (t + i)
unfolding field
field_bits l m s t zero e i h = omega arith
field_bits l m s t (suc w) e i h =
    elim (ℕ_discrete i w) [
      | yes k ↦ rw k (omega (arith, bit_lt l (s + w), bit_lt m (t + w)))
      | no k ↦ field_bits l m s t w (omega (arith, bit_lt l (s + w), bit_lt m (t + w))) i (omega arith)
    ]

-- an octet is its field of eight bits
pub octet_field : (l : List ℕ) (q : ℕ) → Octets l → field l (8 * q) 8 ≡ get_or l q 0
unfolding field_of
octet_field l q o = ap (λ (a : ℕ). field l a 8) (sym (add-zero (8 * q))) ∙ field_octet l q 0 8 (omega arith) ∙ omega (arith, o q)

-- octets with the same bits are the same
pub ext_bit : (l m : List ℕ) → length l ≡ length m → Octets l → Octets m → ((a : ℕ) → a < 8 * length l → bit l a ≡ bit m a) → l ≡ m
ext_bit l m e o p h =
    ext_get_or 0 l m e (λ i lt. sym (octet_field l i o) ∙ field_ext l m (8 * i) (8 * i) 8 (λ j lt'. h (8 * i + j) (omega arith)) ∙ octet_field m i p)

-- a list of octets of the same length, with v in the field and every other bit as it was, is the put
pub put_unique : (l m : List ℕ) (s w v : ℕ) → s + w ≤ 8 * length l → length m ≡ length l → Octets l → Octets m
    → ((a : ℕ) → (s ≤ a → a < s + w → ⊥) → bit m a ≡ bit l a) → field m s w ≡ v % 2 ^ w → m ≡ put l s w v
put_unique l m s w v fits e o p out f =
    ext_bit m (put l s w v) (e ∙ sym (length-put l s w v)) p (octets_put l s w v o) (λ a lt.
    elim (dec_lt a s) [
      | yes h ↦ other a (λ le gt. omega arith)
      | no h ↦ elim (dec_lt a (s + w)) [
        | yes k ↦
            let j : s + (a - s) ≡ a = omega arith in
            rw j at (field_bits m (put l s w v) s s w (f ∙ sym (field-put-mod l s w v fits)) (a - s) (omega arith))
        | no k ↦ other a (λ le gt. omega arith)
      ]
    ])
  where
    other : (a : ℕ) → (s ≤ a → a < s + w → ⊥) → bit m a ≡ bit (put l s w v) a
    other a h = out a h ∙ sym (bit-put_other l s w v a h)
