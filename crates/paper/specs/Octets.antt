-- Document 01, "Octets and bits": octets, bits, fields and numbers of several octets.
-- A list of octets is counted from 0 here: octet o of the paper, which counts from 1, is element o - 1.
use Rattle.std.specs.Prelude.{ℕ, zero, suc, ◌+◌, ◌-◌, ◌*◌, ◌/◌, ◌%◌, ◌^◌, ◌<◌, Bool, cond, List, [], ◌∷◌, ◌++◌, length, get_or, take, drop, set, ltb}

-- "Octets count from 1."
abbrev pub octet : List ℕ → ℕ → ℕ
octet l o = get_or l (o - 1) 0

-- "A bit address is 8 × (octet − 1) + bit."
abbrev pub address : ℕ → ℕ → ℕ
address o b = 8 * (o - 1) + b

-- "Bit 0 of an octet is its most significant bit": the bit at address a
unfoldable pub bit : List ℕ → ℕ → ℕ
bit l a = get_or l (a / 8) 0 / 2 ^ (7 - a % 8) % 2

-- "A field is a run of bits, first bit most significant."
unfoldable pub field : List ℕ → ℕ → ℕ → ℕ
field l start zero = 0
field l start (suc width) = field l start width * 2 + bit l (start + width)

-- a value fits in a field of so many bits
abbrev pub fits : ℕ → ℕ → Bool
fits value width = ltb value (2 ^ width)

-- the octet x with its bit b replaced by v: the b bits above, v, the 7 - b bits below
unfoldable pub with_bit : ℕ → ℕ → ℕ → ℕ
with_bit x b v = (x / 2 ^ (8 - b) * 2 + v) * 2 ^ (7 - b) + x % 2 ^ (7 - b)

-- the octets l with the bit at address a replaced by v
unfoldable pub set_bit : List ℕ → ℕ → ℕ → List ℕ
set_bit l a v = set l (a / 8) (with_bit (get_or l (a / 8) 0) (a % 8) v)

-- the octets l with v, of which the low `width` bits count, in the field of `width` bits from `start`
unfoldable pub put : List ℕ → ℕ → ℕ → ℕ → List ℕ
put l start zero v = l
put l start (suc width) v = set_bit (put l start width (v / 2)) (start + width) (v % 2)

-- a field to be written, where it is to be written at all
pub record Put : Type 0 where
  pub written : Bool
  pub start : ℕ
  pub width : ℕ
  pub value : ℕ

-- the octets l with the fields 0 to n - 1 written one after the other
unfoldable pub puts : (ℕ → Put) → List ℕ → ℕ → List ℕ
puts f l zero = l
puts f l (suc n) = cond (f n).written (put (puts f l n) (f n).start (f n).width (f n).value) (puts f l n)

-- "Every number of several octets, stamps and codes too, has its high octet first": the n octets from element k on
unfoldable pub number : List ℕ → ℕ → ℕ → ℕ
number l k zero = 0
number l k (suc n) = number l k n * 256 + get_or l (k + n) 0

-- the n octets of a number, high octet first
unfoldable pub octets_of : ℕ → ℕ → List ℕ
octets_of zero v = []
octets_of (suc n) v = octets_of n (v / 256) ++ (v % 256 ∷ [])

-- the octets l with the octets m in place of those from element k on
unfoldable pub over : List ℕ → ℕ → List ℕ → List ℕ
over l k m = take k l ++ (m ++ drop (k + length m) l)

-- every element is an octet
abbrev pub Octets : List ℕ → Type 0
Octets l = (i : ℕ) → get_or l i 0 < 256

-- fields of one octet: the n bits of x from bit b, and x with the low n bits of v there; b + n is at most 8
unfoldable pub field_of : ℕ → ℕ → ℕ → ℕ
field_of x b n = x / 2 ^ (8 - (b + n)) % 2 ^ n

unfoldable pub with_field : ℕ → ℕ → ℕ → ℕ → ℕ
with_field x b n v = (x / 2 ^ (8 - b) * 2 ^ n + v % 2 ^ n) * 2 ^ (8 - (b + n)) + x % 2 ^ (8 - (b + n))
