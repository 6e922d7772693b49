-- What is spelled is read back: every character, every text and every language. Assumes nothing.
use Prim.Native.Nat.{ℕ, zero, suc, ◌+◌, ◌-◌, ◌*◌, ◌/◌, ◌%◌, ◌≤◌, ◌<◌, min}
use mathlib.Core.Bool.{Bool, true, false, ◌&&◌, ◌||◌}
use mathlib.Core.List.{List, [], ◌∷◌, ◌++◌, append-nil, append_assoc}
use mathlib.Core.Logic.{◌⊎◌, inl, inr}
use mathlib.Core.Path.{◌≡◌, refl, sym, ap, ◌∙◌}
use native.Mathlib.Decide.{dec_lt, ℕ_discrete}
use native.Mathlib.Nat.{add-zero, add-suc}
use native.Mathlib.Omega.{arith}
use lib.Dec.{ltb, leb, eqb}
use lib.ListN.{length, get_or, take, length-append}
use lib.Seq.{get_or-append-add, take-add, take_all}
use borrow.Author.Tests.{lt-ltb, le-ltb, le-leb, lt-leb, eq-eqb, ne_eqb}
use Rattle.bools.proofs.Tests.{both}
use Rattle.paper.proofs.NumberLaws.{number_lt, octets_of-number}
use Rattle.paper.specs.Octets.{number, over, Octets}
use Rattle.spelling.specs.Hex.{digit_of, value_of, pair_of}
use Rattle.spelling.specs.Language.{is_letter, language_spelled, by_letters, by_digits, language_in}
use Rattle.spelling.specs.Reading.{is, tail_of, in_three, two_of, three_of, escape_of, character_by, character_at, place, units_to, ReadAs}
use Rattle.spelling.specs.Spelling.{is_shown, utf8, escape, spelled, spelled_to, spelling}
use Rattle.spelling.specs.declared.read.Character.{Character}
use Rattle.spelling.specs.declared.read.Reading.{Reading}
use Rattle.spelling.proofs.Turns.{by_cond, at_end}

-- ---- digits

pub value_digit : (d : ℕ) → d < 16 → value_of (digit_of d) ≡ d
unfolding value_of digit_of
value_digit d h =
    elim (dec_lt d 10) [
      | yes l ↦ rw (lt-ltb d 10 l, le-ltb (48 + d) 48 (omega arith), lt-ltb (48 + d) 58 (omega arith)) (omega arith)
      | no g ↦
          rw (le-ltb d 10 (omega arith), le-ltb (55 + d) 48 (omega arith), le-ltb (55 + d) 58 (omega arith), le-ltb (55 + d) 65 (omega arith), lt-ltb (55 + d) 71 (omega arith)) (omega arith)
    ]

pub pair_digits : (x y : ℕ) → x < 16 → y < 16 → pair_of (digit_of x) (digit_of y) ≡ 16 * x + y
unfolding pair_of
pair_digits x y h k = rw (value_digit x h, value_digit y k, le-ltb 15 x (omega arith), le-ltb 15 y (omega arith)) refl

-- ---- a character at the front of octets

abbrev character_of : List ℕ → Character
character_of b = character_by (get_or b 0 0) (get_or b 1 0) (get_or b 2 0) (get_or b 3 0) (get_or b 4 0) (get_or b 5 0)

tail_is : (y : ℕ) → y < 64 → tail_of (0x80 + y) ≡ y
unfolding tail_of
tail_is y h = rw (le-ltb (0x80 + y) 0x80 (omega arith), lt-ltb (0x80 + y) 0xC0 (omega arith)) (omega arith)

one_octet : (u b c d e f : ℕ) → u < 0x80 → (u ≡ 92 → ⊥) → character_by u b c d e f ≡ is u 1
unfolding character_by
one_octet u b c d e f h k = rw (ne_eqb u 92 k, lt-ltb u 0x80 h) refl

two_octets : (u c d e f : ℕ) → 0x80 ≤ u → u < 0x800 → character_by (0xC0 + u / 64) (0x80 + u % 64) c d e f ≡ is u 2
unfolding character_by two_of
two_octets u c d e f h k =
    let a = 0xC0 + u / 64 in
    let whole : 64 * (a - 0xC0) + u % 64 ≡ u = omega arith in
    rw (ne_eqb a 92 (λ z. omega arith), le-ltb a 0x80 (omega arith), lt-ltb a 0xE0 (omega arith), le-ltb a 0xC2 (omega arith), tail_is (u % 64) (omega arith), le-ltb 63 (u % 64) (omega arith), whole) refl

three_octets : (u d e f : ℕ) → 0x800 ≤ u → u < 65536 → in_three u ≡ true → character_by (0xE0 + u / 4096) (0x80 + u / 64 % 64) (0x80 + u % 64) d e f ≡ is u 3
unfolding character_by three_of
three_octets u d e f h k t =
    let a = 0xE0 + u / 4096 in
    let whole : 4096 * (a - 0xE0) + 64 * (u / 64 % 64) + u % 64 ≡ u = omega arith in
    rw (
      ne_eqb a 92 (λ z. omega arith),
      le-ltb a 0x80 (omega arith),
      le-ltb a 0xE0 (omega arith),
      lt-ltb a 0xF0 (omega arith),
      tail_is (u / 64 % 64) (omega arith),
      tail_is (u % 64) (omega arith),
      le-ltb 63 (u / 64 % 64) (omega arith),
      le-ltb 63 (u % 64) (omega arith),
      whole,
      t,
    ) refl

by_escape : (u : ℕ) → u < 65536 → character_by 92 117 (digit_of (u / 4096)) (digit_of (u / 256 % 16)) (digit_of (u / 16 % 16)) (digit_of (u % 16)) ≡ is u 6
unfolding character_by escape_of
by_escape u h =
    let high = 16 * (u / 4096) + u / 256 % 16 in
    let low = 16 * (u / 16 % 16) + u % 16 in
    let whole : 256 * high + low ≡ u = omega arith in
    rw (pair_digits (u / 4096) (u / 256 % 16) (omega arith) (omega arith), pair_digits (u / 16 % 16) (u % 16) (omega arith) (omega arith), le-ltb 255 high (omega arith), le-ltb 255 low (omega arith), whole) refl

-- what can be shown and has three octets, three octets may spell
shown_three : (u : ℕ) → is_shown u ≡ true → 0x800 ≤ u → in_three u ≡ true
shown_three u e h =
    let pairs = ltb u 0xD800 || ltb 0xDFFF u in
    let front = leb 32 u && (ltb u 0x7F || ltb 0x9F u) in
    rw (le-leb 0x800 u h) (both front pairs (both (front && pairs) (ltb u 0xFFFE) e).0).1

-- a character and whatever follows
of_shown_lem : (u : ℕ) (rest : List ℕ) → u < 65536 → (u ≡ 92 → ⊥) → is_shown u ≡ true → character_of (utf8 u ++ rest) ≡ is u (length (utf8 u))
unfolding utf8
of_shown_lem u rest h k e =
    elim (dec_lt u 0x80) [
      | yes l ↦ rw (lt-ltb u 0x80 l) (one_octet u _ _ _ _ _ l k)
      | no g ↦
          let ge : 0x80 ≤ u = omega arith in
          elim (dec_lt u 0x800) [
            | yes l ↦ rw (le-ltb u 0x80 ge, lt-ltb u 0x800 l) (two_octets u _ _ _ _ ge l)
            | no g' ↦
                let ge' : 0x800 ≤ u = omega arith in
                rw (le-ltb u 0x80 ge, le-ltb u 0x800 ge') (three_octets u _ _ _ ge' h (shown_three u e ge'))
          ]
    ]

of_escape : (u : ℕ) (rest : List ℕ) → u < 65536 → character_of (escape u ++ rest) ≡ is u (length (escape u))
unfolding escape
of_escape u rest h = by_escape u h

of_backslash : (rest : List ℕ) → character_of ((92 ∷ 92 ∷ []) ++ rest) ≡ is 92 2
unfolding character_by escape_of
of_backslash rest = refl

-- the test as it comes out
tested : (b : Bool) → (b ≡ true) ⊎ (b ≡ false)
tested true = inl refl
tested false = inr refl

pub of_spelled : (u : ℕ) (rest : List ℕ) → u < 65536 → character_of (spelled u ++ rest) ≡ is u (length (spelled u))
unfolding spelled
of_spelled u rest h =
    elim (ℕ_discrete u 92) [
      | yes e ↦ rw (eq-eqb u 92 e) (of_backslash rest ∙ ap (λ (i : ℕ). is i 2) (sym e))
      | no k ↦
          rw (ne_eqb u 92 k)
          (elim (tested (is_shown u)) [
            | inl e ↦ rw e (of_shown_lem u rest h k e)
            | inr e ↦ rw e (of_escape u rest h)
          ])
    ]

-- ---- a character within a spelling

abbrev Some : List ℕ → Type 0
Some l = 1 ≤ length l

spelled_some : (u : ℕ) → 1 ≤ length (spelled u)
unfolding spelled utf8 escape
spelled_some u =
    by_cond Some (eqb u 92) (omega arith) (by_cond Some (is_shown u) (by_cond Some (ltb u 0x80) (omega arith) (by_cond Some (ltb u 0x800) (omega arith) (omega arith))) (omega arith))

pub at_spelled : (u : ℕ) (front rest : List ℕ) → u < 65536 → character_at (front ++ (spelled u ++ rest)) (length front) ≡ is u (length (spelled u))
unfolding character_at
at_spelled u front rest h =
    let b = spelled u ++ rest in
    let long : length front < length (front ++ b) = rw (length-append, length-append) (omega (arith, spelled_some u)) in
    let first : get_or (front ++ b) (length front) 0 ≡ get_or b 0 0 = ap (λ (i : ℕ). get_or (front ++ b) i 0) (sym (add-zero (length front))) ∙ get_or-append-add front b 0 0 in
    rw (lt-leb _ _ long, first, get_or-append-add front b 1 0, get_or-append-add front b 2 0, get_or-append-add front b 3 0, get_or-append-add front b 4 0, get_or-append-add front b 5 0) (of_spelled u rest h)

-- the spelling of the d characters behind character k
more : List ℕ → ℕ → ℕ → List ℕ
more t k zero = []
more t k (suc d) = more t k d ++ spelled (number t (2 * suc (k + d)) 2)

abbrev unit : List ℕ → ℕ → ℕ
unit t k = number t (2 * k) 2

split : (t : List ℕ) (k d : ℕ) → spelled_to t (suc (k + d)) ≡ spelled_to t k ++ (spelled (unit t k) ++ more t k d)
unfolding spelled_to more
split t k zero =
    ap (λ (n : ℕ). spelled_to t n ++ spelled (number t (2 * n) 2)) (add-zero k) ∙ ap (λ (l : List ℕ). spelled_to t k ++ l) (sym (append-nil (spelled (unit t k))))
split t k (suc d) =
    let x = spelled (number t (2 * suc (k + d)) 2) in
    ap (λ (n : ℕ). spelled_to t n ++ spelled (number t (2 * n) 2)) (add-suc k d)
    ∙ ap (λ (l : List ℕ). l ++ x) (split t k d)
    ∙ append_assoc (spelled_to t k) (spelled (unit t k) ++ more t k d) x
    ∙ ap (λ (l : List ℕ). spelled_to t k ++ l) (append_assoc (spelled (unit t k)) (more t k d) x)

module _ (t : List ℕ) (o : Octets t) (m : ℕ) where
  abbrev whole : List ℕ
  whole = spelled_to t m

  -- character k at its place
  here : (k : ℕ) → k < m → character_at whole (length (spelled_to t k)) ≡ is (unit t k) (length (spelled (unit t k)))
  here k h =
      let d = m - k - 1 in
      let e : m ≡ suc (k + d) = omega arith in
      ap (λ (n : ℕ). character_at (spelled_to t n) (length (spelled_to t k))) e
      ∙ ap (λ (l : List ℕ). character_at l (length (spelled_to t k))) (split t k d)
      ∙ at_spelled (unit t k) (spelled_to t k) (more t k d) (number_lt t (2 * k) 2 o)

  pub place_spelled : (k : ℕ) → k ≤ m → place whole k ≡ length (spelled_to t k)
  unfolding place spelled_to
  place_spelled zero h = refl
  place_spelled (suc k) h =
      let p : place whole k ≡ length (spelled_to t k) = place_spelled k (omega arith) in
      let c : character_at whole (place whole k) ≡ is (unit t k) (length (spelled (unit t k))) = ap (character_at whole) p ∙ here k h in
      rw (c, p) (sym (length-append (spelled_to t k) (spelled (unit t k))))

  pub character_spelled : (k : ℕ) → k < m → character_at whole (place whole k) ≡ is (unit t k) (length (spelled (unit t k)))
  character_spelled k h = ap (character_at whole) (place_spelled k (omega arith)) ∙ here k h

  pub units_spelled : (k : ℕ) → k ≤ m → 2 * m ≤ length t → units_to whole k ≡ take (2 * k) t
  unfolding units_to
  units_spelled zero h l = refl
  units_spelled (suc k) h l =
      let two : 2 * suc k ≡ 2 * k + 2 = omega arith in
      rw (character_spelled k h, units_spelled k (omega arith) l, octets_of-number t (2 * k) 2 o (omega arith), two) (sym (take-add (2 * k) 2 t))

  pub ends_spelled : (character_at whole (place whole m)).fault ≡ 1
  ends_spelled = ap (λ (c : Character). c.fault) (ap (character_at whole) (place_spelled m (omega arith)) ∙ at_end whole (length whole) (omega arith))

-- ---- a text

-- a text of an even number of octets, up to 254, is read back from its spelling: all of it, and nothing else
module _ (t old : List ℕ) (r : Reading) (new : List ℕ) (o : Octets t) (even : length t % 2 ≡ 0) (short : length t ≤ 254) (a : ReadAs (spelling t) old r new) where
  abbrev half : ℕ
  half = length t / 2

  all_read : r.characters ≡ half
  all_read =
      elim (dec_lt r.characters half) [
        | yes l ↦
            let z : r.fault ≡ 0 = sym a.stops ∙ ap (λ (c : Character). c.fault) (character_spelled t o half r.characters l) in
            omega (arith, a.bad)
        | no g ↦
            elim (dec_lt half r.characters) [
              | yes l ↦
                  let z : ◌≡◌ {A = ℕ} 1 0 = sym (ends_spelled t o half) ∙ a.good half l in
                  omega arith
              | no k ↦ omega arith
            ]
      ]

  pub text_ends : r.fault ≡ 1
  text_ends = sym a.stops ∙ ap (λ (n : ℕ). (character_at (spelling t) (place (spelling t) n)).fault) all_read ∙ ends_spelled t o half

  pub text_back : new ≡ over old 0 t
  text_back =
      let m : min r.characters 128 ≡ half = omega (arith, all_read) in
      let w : 2 * half ≡ length t = omega arith in
      let u : units_to (spelling t) half ≡ t = units_spelled t o half half (omega arith) (omega arith) ∙ take_all (2 * half) t (omega arith) in
      a.octets ∙ ap (λ (n : ℕ). over old 0 (units_to (spelling t) n)) m ∙ ap (over old 0) u

  pub text_octets : r.octets ≡ length t
  text_octets = omega (arith, a.ends, all_read)

-- ---- a language

pub language_back : (l : ℕ) → l < 65536 → language_in (language_spelled l) ≡ l
unfolding language_in language_spelled by_letters by_digits
language_back l h =
    let a = l / 256 in
    let b = l % 256 in
    elim (tested (is_letter a && is_letter b)) [
      | inl e ↦ rw (e, e) (omega arith)
      | inr e ↦
          let p : pair_of (digit_of (a / 16)) (digit_of (a % 16)) ≡ a = pair_digits (a / 16) (a % 16) (omega arith) (omega arith) ∙ omega arith in
          let q : pair_of (digit_of (b / 16)) (digit_of (b % 16)) ≡ b = pair_digits (b / 16) (b % 16) (omega arith) (omega arith) ∙ omega arith in
          rw (e, p, q, le-ltb 255 a (omega arith), le-ltb 255 b (omega arith)) (omega arith)
    ]
