-- The laws of numbers of several octets, and of octets written over others. Assumes nothing.
use mathlib.Core.Path.{◌≡◌, refl, sym, ap, ap₂, ◌∙◌}
use mathlib.Core.Logic.{◌⊎◌, inl, inr}
use mathlib.Core.List.{List, [], ◌∷◌, ◌++◌, append_assoc, append-nil}
use Prim.Native.Nat.{ℕ, zero, suc, ◌+◌, ◌-◌, ◌*◌, ◌/◌, ◌%◌, ◌^◌, ◌≤◌, ◌<◌}
use native.Mathlib.Nat.{add-zero, add-suc, add_assoc, mul_comm, div-one, div-div-eq-div-mul, mod-one, pow-suc}
use native.Mathlib.Numerals.{add-one}
use native.Mathlib.Omega.{arith}
use native.Mathlib.Decide.{dec_lt}
use lib.ListN.{length, get_or, set, take, drop, length-append, length-take, length-drop, get_or-append, get_or-eq_default}
use lib.Seq.{sets-eq, paste, paste-zero, paste-suc, length-take-le, take-length, take-append_seam, drop-append_seam, take-suc, take_at, drop_at, drop-drop, get_or_at, get_or-take, get_or-drop, get_or-append-add, ext_get_or}
use lib.Arith.{digits_lt, mod-mul}
use lib.Dec.{lit<}
use Rattle.paper.specs.Octets.{field, number, octets_of, over, Octets}
use Rattle.paper.proofs.FieldLaws.{field_split, octet_field}

-- ---- numbers

-- the same octets are the same number
pub number_ext : (l m : List ℕ) (j k n : ℕ) → ((i : ℕ) → i < n → get_or l (j + i) 0 ≡ get_or m (k + i) 0) → number l j n ≡ number m k n
unfolding number
number_ext l m j k zero h = refl
number_ext l m j k (suc n) h = ap₂ (λ (x y : ℕ). x * 256 + y) (number_ext l m j k n (λ i lt. h i (omega arith))) (h n (omega arith))

pub number_lt : (l : List ℕ) (k n : ℕ) → Octets l → number l k n < 256 ^ n
unfolding number
number_lt l k zero o = omega arith
number_lt l k (suc n) o = rw (pow-suc 256 n) (digits_lt (number_lt l k n o) (o (k + n)))

pub number_two : (l : List ℕ) (k : ℕ) → number l k 2 ≡ get_or l k 0 * 256 + get_or l (k + 1) 0
unfolding number
number_two l k = rw add-zero (omega arith)

-- a number that is read in two parts
pub number_split : (l : List ℕ) (k m n : ℕ) → number l k (m + n) ≡ number l k m * 256 ^ n + number l (k + m) n
unfolding number
number_split l k m zero = rw add-zero (omega arith)
number_split l k m (suc n) =
    rw add-suc
    (omega (arith, number_split l k m n, ap (λ (i : ℕ). get_or l i 0) (add_assoc k m n), ap (λ (x : ℕ). number l k m * x) (pow-suc 256 n)))

-- what stands behind or before makes no difference
pub number_front : (l m : List ℕ) (k n : ℕ) → k + n ≤ length l → number (l ++ m) k n ≡ number l k n
number_front l m k n h = number_ext (l ++ m) l k k n (λ i lt. get_or-append l m 0 (k + i) (omega arith))

pub number_back : (l m : List ℕ) (k n : ℕ) → number (l ++ m) (length l + k) n ≡ number m k n
number_back l m k n =
    number_ext (l ++ m) m (length l + k) k n (λ i lt. ap (λ (j : ℕ). get_or (l ++ m) j 0) (omega arith) ∙ get_or-append-add l m (k + i) 0)

-- a number is a field of whole octets
pub number-field : (l : List ℕ) (k n : ℕ) → Octets l → number l k n ≡ field l (8 * k) (8 * n)
unfolding number field
number-field l k zero o = refl
number-field l k (suc n) o =
    let e : 8 * n + 8 ≡ 8 * suc n = omega arith in
    let f : 8 * k + 8 * n ≡ 8 * (k + n) = omega arith in
    let whole : field l (8 * k) (8 * n + 8) ≡ field l (8 * k) (8 * n) * 256 + field l (8 * k + 8 * n) 8 = field_split l (8 * k) (8 * n) 8 in
    ap₂ (λ (x y : ℕ). x * 256 + y) (number-field l k n o) (sym (octet_field l (k + n) o) ∙ ap (λ (a : ℕ). field l a 8) (sym f))
    ∙ sym whole
    ∙ ap (field l (8 * k)) e

-- ---- lists of octets

pub octets_take : (a : ℕ) (l : List ℕ) → Octets l → Octets (take a l)
octets_take a l o i =
    elim (dec_lt i a) [
      | yes h ↦ rw (get_or-take a l i 0 h) (o i)
      | no h ↦ rw (get_or-eq_default (take a l) 0 {n = i} (rw length-take (omega arith))) (lit< tt)
    ]

pub octets_drop : (a : ℕ) (l : List ℕ) → Octets l → Octets (drop a l)
octets_drop a l o i = rw get_or-drop (o (a + i))

pub octets_append : (l m : List ℕ) → Octets l → Octets m → Octets (l ++ m)
octets_append l m o p i =
    elim (dec_lt i (length l)) [
      | yes h ↦ rw (get_or-append l m 0 i h) (o i)
      | no h ↦
          let e : i ≡ length l + (i - length l) = omega arith in
          rw (ap (λ (j : ℕ). get_or (l ++ m) j 0) e ∙ get_or-append-add l m (i - length l) 0) (p (i - length l))
    ]

-- ---- the octets of a number

pub length-octets_of : (n v : ℕ) → length (octets_of n v) ≡ n
unfolding octets_of
length-octets_of zero v = refl
length-octets_of (suc n) v = length-append (octets_of n (v / 256)) (v % 256 ∷ []) ∙ omega (arith, length-octets_of n (v / 256))

one_octet : (x : ℕ) → x < 256 → Octets (x ∷ [])
one_octet x h zero = h
one_octet x h (suc i) = lit< tt

pub octets_octets_of : (n v : ℕ) → Octets (octets_of n v)
unfolding octets_of
octets_octets_of zero v = λ i. lit< tt
octets_octets_of (suc n) v = octets_append (octets_of n (v / 256)) (v % 256 ∷ []) (octets_octets_of n (v / 256)) (one_octet (v % 256) (omega arith))

-- what is read back is the low octets of what was written, whatever stands behind
pub number-octets_of : (n v : ℕ) → number (octets_of n v) 0 n ≡ v % 256 ^ n
unfolding octets_of number
number-octets_of zero v = sym (mod-one v)
number-octets_of (suc n) v =
    let l = octets_of n (v / 256) in
    ap₂ (λ (x y : ℕ). x * 256 + y)
    (number_front l (v % 256 ∷ []) 0 n (omega (arith, length-octets_of n (v / 256))) ∙ number-octets_of n (v / 256))
    (get_or_at l (v % 256) [] 0 (0 + n) (omega (arith, length-octets_of n (v / 256))))
    ∙ sym (ap (λ (x : ℕ). v % x) (pow-suc 256 n) ∙ mod-mul v (pow_pos256 n) (lit< tt))
  where
    pow_pos256 : (n : ℕ) → 0 < 256 ^ n
    pow_pos256 zero = lit< tt
    pow_pos256 (suc n) = rw (pow-suc 256 n) (omega (arith, pow_pos256 n))

pub number-octets_of_front : (n v : ℕ) (t : List ℕ) → number (octets_of n v ++ t) 0 n ≡ v % 256 ^ n
number-octets_of_front n v t = number_front (octets_of n v) t 0 n (omega (arith, length-octets_of n v)) ∙ number-octets_of n v

-- the octets of a number in two parts
pub octets_of_split : (m n v : ℕ) → octets_of (m + n) v ≡ octets_of m (v / 256 ^ n) ++ octets_of n v
unfolding octets_of
octets_of_split m zero v = rw (add-zero, div-one) (sym (append-nil (octets_of m v)))
octets_of_split m (suc n) v =
    let e : v / 256 / 256 ^ n ≡ v / 256 ^ suc n = div-div-eq-div-mul v 256 (256 ^ n) ∙ ap (λ (x : ℕ). v / x) (mul_comm 256 (256 ^ n) ∙ sym (pow-suc 256 n)) in
    rw (add-suc, octets_of_split m n (v / 256), e, append_assoc)

-- octets are the octets of their number
pub octets_of-number : (l : List ℕ) (k n : ℕ) → Octets l → k + n ≤ length l → octets_of n (number l k n) ≡ take n (drop k l)
unfolding octets_of number
octets_of-number l k zero o h = refl
octets_of-number l k (suc n) o h =
    let d : (number l k n * 256 + get_or l (k + n) 0) / 256 ≡ number l k n = omega (arith, o (k + n)) in
    let m : (number l k n * 256 + get_or l (k + n) 0) % 256 ≡ get_or l (k + n) 0 = omega (arith, o (k + n)) in
    rw (d, m, octets_of-number l k n o (omega arith), ← get_or-drop k l n 0)
    (sym (take-suc (drop k l) n 0 (rw length-drop (omega arith))))

-- ---- octets written over others

module _ (l : List ℕ) (k : ℕ) (m : List ℕ) (fits : k + length m ≤ length l) where
  head : length (take k l) ≡ k
  head = length-take-le k l (omega arith)

  pub length_over : length (over l k m) ≡ length l
  unfolding over
  length_over = rw (length-append, length-append, length-drop) (omega (arith, head))

  pub take-over : take k (over l k m) ≡ take k l
  unfolding over
  take-over = take_at (take k l) _ k head

  rest_over : drop k (over l k m) ≡ m ++ drop (k + length m) l
  unfolding over
  rest_over = drop_at (take k l) _ k head

  pub drop-over : drop (k + length m) (over l k m) ≡ drop (k + length m) l
  drop-over = sym (drop-drop (length m) k (over l k m)) ∙ ap (drop (length m)) rest_over ∙ drop-append_seam m _

  -- what was written stands there
  pub part_over : take (length m) (drop k (over l k m)) ≡ m
  part_over = ap (take (length m)) rest_over ∙ take-append_seam m _

  -- octet by octet: inside, and outside
  pub over_at : (i : ℕ) → i < length m → get_or (over l k m) (k + i) 0 ≡ get_or m i 0
  over_at i h = sym (get_or-drop k (over l k m) i 0) ∙ ap (λ (x : List ℕ). get_or x i 0) rest_over ∙ get_or-append m _ 0 i h

  pub over_other : (i : ℕ) → (i < k) ⊎ (k + length m ≤ i) → get_or (over l k m) i 0 ≡ get_or l i 0
  over_other i (inl h) = sym (get_or-take k (over l k m) i 0 h) ∙ ap (λ (x : List ℕ). get_or x i 0) take-over ∙ get_or-take k l i 0 h
  over_other i (inr h) =
      let e : k + length m + (i - (k + length m)) ≡ i = omega arith in
      ap (λ (j : ℕ). get_or (over l k m) j 0) (sym e)
      ∙ sym (get_or-drop (k + length m) (over l k m) (i - (k + length m)) 0)
      ∙ ap (λ (x : List ℕ). get_or x (i - (k + length m)) 0) drop-over
      ∙ get_or-drop (k + length m) l (i - (k + length m)) 0
      ∙ ap (λ (j : ℕ). get_or l j 0) e

  pub octets_over : Octets l → Octets m → Octets (over l k m)
  unfolding over
  octets_over o p = octets_append (take k l) _ (octets_take k l o) (octets_append m _ p (octets_drop (k + length m) l o))

  -- a part that does not meet what was written is as it was, and so is a number there
  pub other_over : (j n : ℕ) → (j + n ≤ k) ⊎ (k + length m ≤ j) → take n (drop j (over l k m)) ≡ take n (drop j l)
  other_over j n d =
      ext_get_or 0 (take n (drop j (over l k m))) (take n (drop j l)) (rw (length-take, length-take, length-drop, length-drop, length_over) refl) (λ i h.
      let lt : i < n = omega (arith, length-take n (drop j (over l k m))) in
      rw (get_or-take n (drop j (over l k m)) i 0 lt, get_or-take n (drop j l) i 0 lt, get_or-drop, get_or-drop) (over_other (j + i) (out i lt d)))
    where
      out : (i : ℕ) → i < n → (j + n ≤ k) ⊎ (k + length m ≤ j) → (j + i < k) ⊎ (k + length m ≤ j + i)
      out i h (inl e) = inl (omega arith)
      out i h (inr e) = inr (omega arith)

  pub number-over_other : (j n : ℕ) → (j + n ≤ k) ⊎ (k + length m ≤ j) → number (over l k m) j n ≡ number l j n
  number-over_other j n (inl e) = number_ext (over l k m) l j j n (λ i h. over_other (j + i) (inl (omega arith)))
  number-over_other j n (inr e) = number_ext (over l k m) l j j n (λ i h. over_other (j + i) (inr (omega arith)))

  pub number-over : (j n : ℕ) → j + n ≤ length m → number (over l k m) (k + j) n ≡ number m j n
  number-over j n h =
      number_ext (over l k m) m (k + j) j n (λ i lt. ap (λ (x : ℕ). get_or (over l k m) x 0) (add_assoc k j i) ∙ over_at (j + i) (omega arith))

-- one run behind the other is one run
pub over-over : (l : List ℕ) (a : ℕ) (x y : List ℕ) → a + length x + length y ≤ length l → over (over l a x) (a + length x) y ≡ over l a (x ++ y)
unfolding over
over-over l a x y h =
    let p : length (take a l ++ x) ≡ a + length x = length-append (take a l) x ∙ omega (arith, length-take-le a l (omega arith)) in
    let t : take (a + length x) (take a l ++ (x ++ drop (a + length x) l)) ≡ take a l ++ x =
    ap (take (a + length x)) (sym (append_assoc (take a l) x _)) ∙ take_at (take a l ++ x) _ (a + length x) p in
    let e : a + length x + length y ≡ a + length (x ++ y) = omega (arith, length-append x y) in
    let d : drop (a + length x + length y) (take a l ++ (x ++ drop (a + length x) l)) ≡ drop (a + length (x ++ y)) l =
    sym (drop-drop (length y) (a + length x) _)
    ∙ ap (drop (length y)) (ap (drop (a + length x)) (sym (append_assoc (take a l) x _)) ∙ drop_at (take a l ++ x) _ (a + length x) p)
    ∙ drop-drop (length y) (a + length x) l
    ∙ ap (λ (n : ℕ). drop n l) e in
    ap₂ (λ (u v : List ℕ). u ++ (y ++ v)) t d ∙ append_assoc (take a l) x _ ∙ ap (λ (u : List ℕ). take a l ++ u) (sym (append_assoc x y _))

-- a loop that writes m from k on, octet by octet: what stands after j turns, and a turn. `paste` is lib.Seq's
pub over_begun : (l : List ℕ) (k : ℕ) (m : List ℕ) → l ≡ paste l k m 0
over_begun l k m = paste-zero l k m

pub over_turn : (l : List ℕ) (k : ℕ) (m : List ℕ) (j : ℕ) → k + j < length l → j < length m → set (paste l k m j) (k + j) (get_or m j 0) ≡ paste l k m (j + 1)
over_turn l k m j h g = rw add-one (paste-suc l k m j 0 h g)

pub over_done : (l : List ℕ) (k : ℕ) (m : List ℕ) → paste l k m (length m) ≡ over l k m
unfolding over
over_done l k m = ap (λ (x : List ℕ). take k l ++ x ++ drop (k + length m) l) (take-length m) ∙ append_assoc (take k l) m _

-- two octets, one after the other
pub over_two : (l : List ℕ) (k a b : ℕ) → k + 2 ≤ length l → set (set l k a) (k + 1) b ≡ over l k (a ∷ b ∷ [])
unfolding over
over_two l k a b h = rw add-one (sets-eq (a ∷ b ∷ []) l k h ∙ append_assoc (take k l) (a ∷ b ∷ []) (drop (k + 2) l))
