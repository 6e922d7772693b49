-- What a turn of the spelling and of the reading adds. Assumes nothing.
use Prim.Native.Nat.{ℕ, zero, suc, ◌+◌, ◌-◌, ◌*◌, ◌/◌, ◌≤◌, ◌<◌, min}
use mathlib.Core.Bool.{Bool, true, false, not, cond, ◌&&◌}
use mathlib.Core.List.{List, [], ◌++◌}
use mathlib.Core.Path.{◌≡◌, refl, sym, ap, ◌∙◌}
use native.Mathlib.Decide.{dec_lt}
use native.Mathlib.Nat.{zero-add}
use native.Mathlib.Numerals.{add-one}
use native.Mathlib.Omega.{arith}
use lib.Dec.{ltb, leb, eqb}
use lib.ListN.{length, take, length-append}
use lib.Seq.{take_all, take-length, length-take-le}
use borrow.Author.Tests.{le-leb, lt-ltb, le-ltb}
use Rattle.paper.proofs.NumberLaws.{length-octets_of, length_over, over-over}
use Rattle.paper.specs.Octets.{number, octets_of, over}
use Rattle.spelling.specs.Hex.{pair_of}
use Rattle.spelling.specs.Reading.{is, none, tail_of, in_three, three_unit, four_high, two_of, three_of, four_of, escape_of, character_by, character_at, place, units_to, kept, ReadAs}
use Rattle.spelling.specs.Spelling.{is_shown, utf8, escape, spelled, spelled_to, spelling, Put}
use Rattle.spelling.specs.declared.read.Character.{Character}

-- what holds of both holds of the one that a test picks
pub by_cond : {A : Type 0} (P : A → Type 0) (b : Bool) {x y : A} → P x → P y → P (cond b x y)
by_cond P true p q = p
by_cond P false p q = q

pub over_none : (l : List ℕ) → l ≡ over l 0 []
unfolding over
over_none l = refl

-- ---- spelling

abbrev Short : List ℕ → Type 0
Short l = length l ≤ 6

pub spelled_short : (u : ℕ) → length (spelled u) ≤ 6
unfolding spelled utf8 escape
spelled_short u =
    by_cond Short (eqb u 92) (omega arith) (by_cond Short (is_shown u) (by_cond Short (ltb u 0x80) (omega arith) (by_cond Short (ltb u 0x800) (omega arith) (omega arith))) (omega arith))

-- the first k characters stand in the output
pub record Spelt (text old out : List ℕ) (at k : ℕ) : Type 0 where
  pub octets : out ≡ over old 0 (spelled_to text k)
  pub ends : at ≡ length (spelled_to text k)
  pub short : at ≤ 6 * k
  pub long : length out ≡ length old

pub spelt_none : (text old : List ℕ) → Spelt text old old 0 0
unfolding spelled_to
spelt_none text old = record { octets = over_none old; ends = refl; short = omega arith; long = refl }

pub spelt_more : (text old out : List ℕ) (at k u r : ℕ) (new : List ℕ) → Spelt text old out at k → u ≡ number text (2 * k) 2 → 6 * k + 6 ≤ length old → Put out at (spelled u) r new
    → Spelt text old new r (k + 1)
unfolding spelled_to
spelt_more text old out at k u r new s e h p =
    let x = spelled_to text k in
    let y = spelled u in
    let short : length y ≤ 6 = spelled_short u in
    let a : r ≡ at + length y = p.ends in
    let begun : new ≡ over (over old 0 x) (0 + length x) y = p.octets ∙ ap (λ (l : List ℕ). over l at y) s.octets ∙ ap (λ (i : ℕ). over (over old 0 x) i y) (s.ends ∙ sym (zero-add (length x))) in
    let whole : x ++ y ≡ spelled_to text (k + 1) = rw add-one (ap (λ (i : ℕ). x ++ spelled i) e) in
    let ends : r ≡ length (x ++ y) = a ∙ ap (λ (i : ℕ). i + length y) s.ends ∙ sym (length-append x y) in
    record {
      octets = begun ∙ over-over old 0 x y (omega (arith, s.ends, s.short)) ∙ ap (over old 0) whole;
      ends = ends ∙ ap length whole;
      short = omega (arith, s.short);
      long = ap length p.octets ∙ length_over out at y (omega (arith, s.long, s.short)) ∙ s.long;
    }

pub spelt_all : (text old out : List ℕ) (at k : ℕ) → Spelt text old out at k → k ≡ length text / 2 → Put old 0 (spelling text) at out
spelt_all text old out at k s e =
    record {
      octets = s.octets ∙ ap (λ (n : ℕ). over old 0 (spelled_to text n)) e;
      ends = s.ends ∙ ap (λ (n : ℕ). length (spelled_to text n)) e ∙ sym (zero-add (length (spelling text)));
    }

pub spelling_short : (text : List ℕ) (n : ℕ) → length (spelled_to text n) ≤ 6 * n
unfolding spelled_to
spelling_short text zero = omega arith
spelling_short text (suc n) = rw length-append (omega (arith, spelling_short text n, spelled_short (number text (2 * n) 2)))

-- ---- a character

abbrev Fair : Character → Type 0
Fair c = (c.fault ≡ 0 → 1 ≤ c.octets) × (c.octets ≤ 6)

fair : (u n : ℕ) → 1 ≤ n → n ≤ 6 → Fair (is u n)
fair u n h k = (λ e. h, k)

unfair : (f : ℕ) → 1 ≤ f → Fair (none f)
unfair f h = (λ e. omega arith, omega arith)

bad : Fair (none 2)
bad = unfair 2 (omega arith)

two_fair : (a b : ℕ) → Fair (two_of a b)
unfolding two_of
two_fair a b = by_cond Fair (ltb a 0xC2) bad (by_cond Fair (ltb 63 (tail_of b)) bad (fair (64 * (a - 0xC0) + tail_of b) 2 (omega arith) (omega arith)))

three_fair : (a b c : ℕ) → Fair (three_of a b c)
unfolding three_of
three_fair a b c =
    by_cond Fair (ltb 63 (tail_of b)) bad (by_cond Fair (ltb 63 (tail_of c)) bad (by_cond Fair (in_three (three_unit a b c)) (fair (three_unit a b c) 3 (omega arith) (omega arith)) bad))

four_fair : (a b c d : ℕ) → Fair (four_of a b c d)
unfolding four_of
four_fair a b c d =
    by_cond Fair (ltb (tail_of b) 64 && ltb (tail_of c) 64 && ltb (tail_of d) 64 && leb 16 (four_high a b) && ltb (four_high a b) 272) (unfair 3 (omega arith)) bad

escape_fair : (b v w x y : ℕ) → Fair (escape_of b v w x y)
unfolding escape_of
escape_fair b v w x y =
    let n : Fair (none 4) = unfair 4 (omega arith) in
    by_cond Fair (eqb b 92) (fair 92 2 (omega arith) (omega arith))
    (by_cond Fair (not (eqb b 117)) n (by_cond Fair (ltb 255 (pair_of v w)) n (by_cond Fair (ltb 255 (pair_of x y)) n (fair (256 * pair_of v w + pair_of x y) 6 (omega arith) (omega arith)))))

by_fair : (a b c d e f : ℕ) → Fair (character_by a b c d e f)
unfolding character_by
by_fair a b c d e f =
    by_cond Fair (eqb a 92) (escape_fair b c d e f)
    (by_cond Fair (ltb a 0x80) (fair a 1 (omega arith) (omega arith)) (by_cond Fair (ltb a 0xE0) (two_fair a b) (by_cond Fair (ltb a 0xF0) (three_fair a b c) (four_fair a b c d))))

pub at_fair : (s : List ℕ) (at : ℕ) → Fair (character_at s at)
unfolding character_at
at_fair s at = by_cond Fair (leb (length s) at) (unfair 1 (omega arith)) (by_fair _ _ _ _ _ _)

pub at_end : (s : List ℕ) (at : ℕ) → length s ≤ at → character_at s at ≡ none 1
unfolding character_at
at_end s at h = rw (le-leb _ _ h)

pub there : (s : List ℕ) (at : ℕ) → (character_at s at).fault ≡ 0 → at < length s
there s at e =
    elim (dec_lt at (length s)) [
      | yes l ↦ l
      | no g ↦ let z : ◌≡◌ {A = ℕ} 1 0 = sym (ap (λ (c : Character). c.fault) (at_end s at (omega arith))) ∙ e in omega arith
    ]

-- ---- reading

pub length_units : (s : List ℕ) (n : ℕ) → length (units_to s n) ≡ 2 * n
unfolding units_to
length_units s zero = refl
length_units s (suc n) = rw (length-append, length-octets_of) (omega (arith, length_units s n))

-- the first n characters are read
pub record ReadTo (s old out : List ℕ) (at n : ℕ) : Type 0 where
  pub here : at ≡ place s n
  pub few : n ≤ at
  pub within : at ≤ length s + 5
  pub good : (j : ℕ) → j < n → (character_at s (place s j)).fault ≡ 0
  pub octets : out ≡ over old 0 (units_to s (min n 128))
  pub long : length out ≡ length old

pub read_none : (s old : List ℕ) → ReadTo s old old 0 0
unfolding place units_to
read_none s old = record { here = refl; few = omega arith; within = omega arith; good = λ j h. omega arith; octets = over_none old; long = refl }

-- the output after a turn
kept_more : (s old out : List ℕ) (n u : ℕ) → out ≡ over old 0 (units_to s (min n 128)) → 256 ≤ length old → u ≡ (character_at s (place s n)).unit
    → kept out n u ≡ over old 0 (units_to s (min (n + 1) 128))
unfolding kept units_to
kept_more s old out n u e h v =
    elim (dec_lt n 128) [
      | yes l ↦
          let now : min n 128 ≡ n = omega arith in
          let next : min (n + 1) 128 ≡ suc n = omega arith in
          let x = units_to s n in
          let two : 2 * n ≡ 0 + length x = omega (arith, length_units s n) in
          rw (lt-ltb _ _ l, next)
          (ap (λ (o : List ℕ). over o (2 * n) (octets_of 2 u)) (e ∙ ap (λ (i : ℕ). over old 0 (units_to s i)) now)
          ∙ ap (λ (i : ℕ). over (over old 0 x) i (octets_of 2 u)) two
          ∙ over-over old 0 x (octets_of 2 u) (omega (arith, length_units s n, length-octets_of 2 u))
          ∙ ap (λ (i : ℕ). over old 0 (x ++ octets_of 2 i)) v)
      | no g ↦
          let same : min n 128 ≡ min (n + 1) 128 = omega arith in
          rw (le-ltb n 128 (omega arith)) (e ∙ ap (λ (i : ℕ). over old 0 (units_to s i)) same)
    ]

long_kept : (out : List ℕ) (n u : ℕ) → 256 ≤ length out → length (kept out n u) ≡ length out
unfolding kept
long_kept out n u h =
    elim (dec_lt n 128) [
      | yes l ↦ rw (lt-ltb _ _ l) (length_over out (2 * n) (octets_of 2 u) (omega (arith, length-octets_of 2 u)))
      | no g ↦ rw (le-ltb n 128 (omega arith)) refl
    ]

module _ (s old out : List ℕ) (at n : ℕ) (r : ReadTo s old out at n) (c : Character) (e : c ≡ character_at s at) where
  this : c ≡ character_at s (place s n)
  this = e ∙ ap (character_at s) r.here

  pub turn_there : c.fault ≡ 0 → at < length s
  turn_there z = there s at (sym (ap (λ (x : Character). x.fault) e) ∙ z)

  pub turn_least : c.fault ≡ 0 → 1 ≤ c.octets
  turn_least z = rw e ((at_fair s at).0 (rw e at z))

  pub turn_most : c.octets ≤ 6
  turn_most = rw e (at_fair s at).1

  pub read_more : c.fault ≡ 0 → 256 ≤ length old → (new : List ℕ) → new ≡ kept out n c.unit → ReadTo s old new (at + c.octets) (n + 1)
  unfolding place
  read_more z h new k =
      record {
        here = rw add-one (ap (λ (i : ℕ). i + c.octets) r.here ∙ ap (λ (x : Character). place s n + x.octets) this);
        few = omega (arith, r.few, turn_least z);
        within = omega (arith, turn_there z, turn_most);
        good = λ j l. elim (dec_lt j n) [
          | yes m ↦ r.good j m
          | no g ↦
              let last : j ≡ n = omega arith in
              ap (λ (i : ℕ). (character_at s (place s i)).fault) last ∙ sym (ap (λ (x : Character). x.fault) this) ∙ z
        ];
        octets = k ∙ kept_more s old out n c.unit r.octets h (ap (λ (x : Character). x.unit) this);
        long = ap length k ∙ long_kept out n c.unit (omega (arith, r.long)) ∙ r.long;
      }

  pub read_stops : (c.fault ≡ 0 → ⊥) → 256 ≤ length old → (few : ℕ) → few ≡ min n 128 → ReadAs s old (record { characters = n; octets = 2 * few; fault = c.fault }) out
  read_stops z h few e =
      let w : 2 * few ≤ length out = omega (arith, r.long) in
      record {
        good = r.good;
        stops = sym (ap (λ (x : Character). x.fault) this);
        bad = omega arith;
        octets = r.octets;
        ends = omega arith;
        within = w;
        part = sym (length-take-le (2 * few) out w);
      }

-- a part that ends where the whole does, or at k
pub first : (l : List ℕ) (k : ℕ) → take (min (length l) k) l ≡ take k l
first l k =
    elim (dec_lt k (length l)) [
      | yes h ↦ let e : min (length l) k ≡ k = omega arith in ap (λ (i : ℕ). take i l) e
      | no g ↦
          let e : min (length l) k ≡ length l = omega arith in
          let le : length l ≤ k = omega arith in
          ap (λ (i : ℕ). take i l) e ∙ take-length l ∙ sym (take_all k l le)
    ]
