-- A spelling read back, character by character.
use Rattle.std.specs.Prelude.{ℕ, zero, suc, ◌+◌, ◌-◌, ◌*◌, ◌≤◌, ◌<◌, min, Bool, not, cond, ◌&&◌, ◌||◌, List, [], ◌++◌, ◌≡◌, ltb, leb, eqb, length, get_or, take}
use Rattle.paper.specs.Octets.{octets_of, over}
use Rattle.spelling.specs.Hex.{pair_of}
use Rattle.spelling.specs.declared.read.Character.{Character}
use Rattle.spelling.specs.declared.read.Reading.{Reading}

-- a character, and how many octets spell it
abbrev pub is : ℕ → ℕ → Character
is u n = record { fault = 0; unit = u; octets = n }

-- 1 the text ends, 2 no UTF-8, 3 above U+FFFF, 4 no escape
abbrev pub none : ℕ → Character
none f = record { fault = f; unit = 0; octets = 0 }

-- the six bits of an octet that goes on a character, 80 to BF; 64 of one that does not
unfoldable pub tail_of : ℕ → ℕ
tail_of x = cond (ltb x 0x80) 64 (cond (ltb x 0xC0) (x - 0x80) 64)

unfoldable pub two_of : ℕ → ℕ → Character
two_of a b = cond (ltb a 0xC2) (none 2) (cond (ltb 63 (tail_of b)) (none 2) (is (64 * (a - 0xC0) + tail_of b) 2))

-- what three octets may spell: nothing that two do, and no half of a pair
abbrev pub in_three : ℕ → Bool
in_three u = leb 0x800 u && (ltb u 0xD800 || ltb 0xDFFF u)

abbrev pub three_unit : ℕ → ℕ → ℕ → ℕ
three_unit a b c = 4096 * (a - 0xE0) + 64 * tail_of b + tail_of c

unfoldable pub three_of : ℕ → ℕ → ℕ → Character
three_of a b c =
    cond (ltb 63 (tail_of b)) (none 2)
    (cond (ltb 63 (tail_of c)) (none 2)
    (cond (in_three (three_unit a b c)) (is (three_unit a b c) 3) (none 2)))

-- U+10000 to U+10FFFF, by the bits above the low twelve
abbrev pub four_high : ℕ → ℕ → ℕ
four_high a b = 64 * (a - 0xF0) + tail_of b

unfoldable pub four_of : ℕ → ℕ → ℕ → ℕ → Character
four_of a b c d =
    cond (ltb (tail_of b) 64 && ltb (tail_of c) 64 && ltb (tail_of d) 64 && leb 16 (four_high a b) && ltb (four_high a b) 272) (none 3) (none 2)

-- behind a backslash: another, or u and four digits
unfoldable pub escape_of : ℕ → ℕ → ℕ → ℕ → ℕ → Character
escape_of b v w x y =
    cond (eqb b 92) (is 92 2)
    (cond (not (eqb b 117)) (none 4)
    (cond (ltb 255 (pair_of v w)) (none 4)
    (cond (ltb 255 (pair_of x y)) (none 4) (is (256 * pair_of v w + pair_of x y) 6))))

-- the character that begins with an octet, by those behind it
unfoldable pub character_by : ℕ → ℕ → ℕ → ℕ → ℕ → ℕ → Character
character_by a b c d e f =
    cond (eqb a 92) (escape_of b c d e f)
    (cond (ltb a 0x80) (is a 1)
    (cond (ltb a 0xE0) (two_of a b)
    (cond (ltb a 0xF0) (three_of a b c) (four_of a b c d))))

-- at octet `at` of a spelling; past its end stands 0, which goes on no character
unfoldable pub character_at : List ℕ → ℕ → Character
character_at s at =
    cond (leb (length s) at) (none 1)
    (character_by (get_or s at 0) (get_or s (at + 1) 0) (get_or s (at + 2) 0) (get_or s (at + 3) 0) (get_or s (at + 4) 0) (get_or s (at + 5) 0))

-- where character n starts
unfoldable pub place : List ℕ → ℕ → ℕ
place s zero = 0
place s (suc n) = place s n + (character_at s (place s n)).octets

-- the first n characters, as a text
unfoldable pub units_to : List ℕ → ℕ → List ℕ
units_to s zero = []
units_to s (suc n) = units_to s n ++ octets_of 2 (character_at s (place s n)).unit

-- the output with character n, where it is one of the first 128
unfoldable pub kept : List ℕ → ℕ → ℕ → List ℕ
kept old n unit = cond (ltb n 128) (over old (2 * n) (octets_of 2 unit)) old

-- all characters before the first place where there is none, and why there is none; the first 128 of them stand in the output
pub record ReadAs (s old : List ℕ) (r : Reading) (new : List ℕ) : Type 0 where
  pub good : (j : ℕ) → j < r.characters → (character_at s (place s j)).fault ≡ 0
  pub stops : (character_at s (place s r.characters)).fault ≡ r.fault
  pub bad : 1 ≤ r.fault
  pub octets : new ≡ over old 0 (units_to s (min r.characters 128))
  pub ends : r.octets ≡ 2 * min r.characters 128
  pub within : r.octets ≤ length new
  pub part : r.octets ≡ length (take r.octets new)
