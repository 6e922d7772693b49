-- Branches of the reading whose tests are of several parts, and octets that were put. Assumes nothing.
use Prim.Native.Nat.{ℕ, ◌+◌, ◌-◌, ◌*◌, ◌/◌, ◌%◌, ◌≤◌, ◌<◌}
use mathlib.Core.Bool.{Bool, true, false, ◌&&◌}
use mathlib.Core.List.{List, [], ◌∷◌}
use mathlib.Core.Path.{◌≡◌, sym, ap, ◌∙◌}
use native.Mathlib.Nat.{zero-add}
use native.Mathlib.Omega.{arith}
use lib.Dec.{ltb, leb}
use lib.ListN.{length, get_or}
use lib.Seq.{length-take-le}
use borrow.Author.Tests.{le-ltb, eq-eqb, ne_eqb}
use Rattle.paper.proofs.NumberLaws.{length_over}
use Rattle.paper.specs.Octets.{over}
use Rattle.spelling.specs.Hex.{digit_of}
use Rattle.spelling.specs.Language.{is_letter, is_mark, by_digits, language_spelled, language_in}
use Rattle.spelling.specs.Reading.{is, none, tail_of, in_three, three_unit, three_of, four_of}
use Rattle.spelling.specs.Spelling.{escape, Put, Filled}

-- ---- three octets

module _ (a b c y z : ℕ) (p : y ≡ tail_of b) (q : z ≡ tail_of c) (py : y ≤ 63) (qz : z ≤ 63) (test : Bool) (t : test ≡ in_three (4096 * (a - 0xE0) + 64 * y + z)) where
  unit : 4096 * (a - 0xE0) + 64 * y + z ≡ three_unit a b c
  unit = cc

  three_test : test ≡ in_three (three_unit a b c)
  three_test = t ∙ ap in_three unit

  high : ltb 63 (tail_of b) ≡ false
  high = le-ltb 63 (tail_of b) (rw p at py)

  low : ltb 63 (tail_of c) ≡ false
  low = le-ltb 63 (tail_of c) (rw q at qz)

  pub three_is : test ≡ true → is (4096 * (a - 0xE0) + 64 * y + z) 3 ≡ three_of a b c
  unfolding three_of
  three_is e = ap (λ (u : ℕ). is u 3) unit ∙ rw (high, low, sym three_test ∙ e)

  pub three_bad : test ≡ false → none 2 ≡ three_of a b c
  unfolding three_of
  three_bad e = rw (high, low, sym three_test ∙ e)

-- ---- four octets

module _ (a b c d y z w high : ℕ) (p : y ≡ tail_of b) (q : z ≡ tail_of c) (r : w ≡ tail_of d) (h : high ≡ 64 * (a - 0xF0) + y) where
  four_test : (ltb y 64 && ltb z 64 && ltb w 64 && leb 16 high && ltb high 272)
      ≡ (ltb (tail_of b) 64 && ltb (tail_of c) 64 && ltb (tail_of d) 64 && leb 16 (64 * (a - 0xF0) + tail_of b) && ltb (64 * (a - 0xF0) + tail_of b) 272)
  four_test = cc

  pub four_above : (ltb y 64 && ltb z 64 && ltb w 64 && leb 16 high && ltb high 272) ≡ true → none 3 ≡ four_of a b c d
  unfolding four_of
  four_above e = simp (sym four_test ∙ e)

  pub four_bad : (ltb y 64 && ltb z 64 && ltb w 64 && leb 16 high && ltb high 272) ≡ false → none 2 ≡ four_of a b c d
  unfolding four_of
  four_bad e = simp (sym four_test ∙ e)

-- ---- a language of eight octets

module _ (w : List ℕ) (eight : length w ≡ 8) (other : length w ≡ 2 → ⊥) (first second : Bool)
    (f : first ≡ is_mark (get_or w 0 0) (get_or w 1 0)) (s : second ≡ is_mark (get_or w 4 0) (get_or w 5 0)) where
  marks : (first && second) ≡ (is_mark (get_or w 0 0) (get_or w 1 0) && is_mark (get_or w 4 0) (get_or w 5 0))
  marks = cc

  pub by_digits_lem : (first && second) ≡ true → by_digits (get_or w 2 0) (get_or w 3 0) (get_or w 6 0) (get_or w 7 0) ≡ language_in w
  unfolding language_in
  by_digits_lem e = rw (ne_eqb _ _ other, eq-eqb _ _ eight, sym marks ∙ e)

  pub by_nothing : (first && second) ≡ false → 65536 ≡ language_in w
  unfolding language_in
  by_nothing e = rw (ne_eqb _ _ other, eq-eqb _ _ eight, sym marks ∙ e)

-- ---- octets that were put are those that were asked for

pub put_as : {old : List ℕ} {at : ℕ} {s t : List ℕ} {r : ℕ} {new : List ℕ} → Put old at s r new → s ≡ t → Put old at t r new
put_as {old} {at} p e = record { octets = p.octets ∙ ap (over old at) e; ends = p.ends ∙ ap (λ (l : List ℕ). at + length l) e }

pub filled : (s old : List ℕ) (r : ℕ) (new : List ℕ) → length s ≤ length old → Put old 0 s r new → Filled s old r new
filled s old r new h p =
    let e : r ≡ length s = p.ends ∙ zero-add (length s) in
    let l : length new ≡ length old = ap length p.octets ∙ length_over old 0 s (omega arith) in
    let w : r ≤ length new = omega arith in
    record { octets = p.octets; ends = e; within = w; part = sym (length-take-le r new w) }

-- ---- what is put, by its digits

pub escape_is : (u a b c d : ℕ) → u < 65536 → a ≡ digit_of (u / 4096 % 16) → b ≡ digit_of (u / 256 % 16 % 16) → c ≡ digit_of (u / 16 % 16 % 16)
    → d ≡ digit_of (u % 16 % 16) → (92 ∷ 117 ∷ a ∷ b ∷ c ∷ d ∷ []) ≡ escape u
unfolding escape
escape_is u a b c d h p q r s =
    let high : u / 4096 % 16 ≡ u / 4096 = omega arith in
    let e : (n : ℕ) → n % 16 % 16 ≡ n % 16 = λ n. omega arith in
    simp (p, q, r, s, high, e)

pub letters_are : (l : ℕ) (x y : Bool) → x ≡ is_letter (l / 256) → y ≡ is_letter (l % 256) → (x && y) ≡ true → (l / 256 ∷ l % 256 ∷ []) ≡ language_spelled l
unfolding language_spelled
letters_are l x y p q e =
    let t : (is_letter (l / 256) && is_letter (l % 256)) ≡ true = sym (cc) ∙ e in
    rw t

pub digits_are : (l a b c d : ℕ) (x y : Bool) → x ≡ is_letter (l / 256) → y ≡ is_letter (l % 256) → (x && y) ≡ false → l < 65536 → a ≡ digit_of (l / 256 / 16 % 16)
    → b ≡ digit_of (l / 256 % 16) → c ≡ digit_of (l % 256 / 16 % 16) → d ≡ digit_of (l % 256 % 16) → (92 ∷ 120 ∷ a ∷ b ∷ 92 ∷ 120 ∷ c ∷ d ∷ []) ≡ language_spelled l
unfolding language_spelled
digits_are l a b c d x y p q e h r s t u =
    let f : (is_letter (l / 256) && is_letter (l % 256)) ≡ false = sym (cc) ∙ e in
    let high : l / 256 / 16 % 16 ≡ l / 256 / 16 = omega arith in
    let low : l % 256 / 16 % 16 ≡ l % 256 / 16 = omega arith in
    rw (f, r, s, t, u, high, low)
