-- Document 01, "Octets and bits": R-telegrams, check marks and the R1 grouping.
use Rattle.std.specs.Prelude.{ℕ, ◌+◌, ◌≤◌, ◌<◌, ◌≡◌, Bool, cond, ◌&&◌, ◌||◌, List, [], ◌∷◌, leb, ltb, eqb}
use Rattle.paper.specs.Octets.{octet, address, field}
use Rattle.paper.specs.Answer.{Answer, gives, refused}

-- "octet 1 bits 0-3 application type 1, bits 4-7 telegram type (1 = R1, 2 = R2, 3 = R3)"
unfoldable pub application_type : List ℕ → ℕ
application_type telegram = field telegram (address 1 0) 4

unfoldable pub telegram_type : List ℕ → ℕ
telegram_type telegram = field telegram (address 1 4) 4

abbrev pub is_type : ℕ → Bool
is_type type = leb 1 type && leb type 3

-- "octet 2 the R data version, where 0 is read as 1"
unfoldable pub version_of : List ℕ → ℕ
version_of telegram = cond (eqb (octet telegram 2) 0) 1 (octet telegram 2)

-- "R1 and R2 have 128 octets, R3 has 40."
abbrev pub type_length : ℕ → ℕ
type_length type = cond (eqb type 3) 40 128

-- "R1, R2 and R3 all carry type 0; only R1 carries type 1, only R2 type 2."
abbrev pub carries : ℕ → ℕ → Bool
carries telegram signal = eqb signal 0 || eqb signal telegram

-- "A check mark is a two-bit field: 00 error, 01 ok, 10 forced, 11 undefined."
abbrev pub error : ℕ
error = 0

abbrev pub ok : ℕ
ok = 1

abbrev pub forced : ℕ
forced = 2

abbrev pub undefined : ℕ
undefined = 3

abbrev pub mark_width : ℕ
mark_width = 2

-- "R1 grouping, a fixed table of 17 rows (check place: octets covered)": the place, the first bit covered and the first bit after
pub record Row : Type 0 where
  pub place : ℕ
  pub from : ℕ
  pub end : ℕ

-- the check place at bit p of octet o covers from bit a of octet f to bit z of octet l
abbrev pub line : ℕ → ℕ → ℕ → ℕ → ℕ → ℕ → Row
line o p f a l z = record { place = address o p; from = address f a; end = address l z + 1 }

unfoldable pub rows : List Row
rows =
    line 41 0 47 0 53 7 ∷ line 41 2 54 0 57 7 ∷ line 41 4 58 0 58 7 ∷ line 41 6 59 0 61 7
    ∷ line 42 0 62 0 62 3 ∷ line 42 2 62 4 62 7 ∷ line 42 4 63 0 63 7 ∷ line 42 6 64 0 64 7
    ∷ line 43 0 65 0 65 7 ∷ line 43 2 66 0 66 7 ∷ line 43 4 67 0 67 7 ∷ line 43 6 68 0 68 7
    ∷ line 44 0 69 0 69 7 ∷ line 44 2 70 0 70 7 ∷ line 44 4 71 0 71 7 ∷ line 44 6 72 0 72 7
    ∷ line 45 0 73 0 73 7 ∷ []

abbrev pub covers : Row → ℕ → Bool
covers r b = leb r.from b && ltb b r.end

-- how many rows cover the bit
unfoldable pub coverings : List Row → ℕ → ℕ
coverings [] b = 0
coverings (r ∷ rs) b = cond (covers r b) 1 0 + coverings rs b

-- the place of the first row that covers the bit; 27 where none does
unfoldable pub place_in : List Row → ℕ → Answer ℕ
place_in [] b = refused 27 0
place_in (r ∷ rs) b = cond (covers r b) (gives r.place) (place_in rs b)

-- "A lookup takes a bit address, gives the check place, as a bit address, of any bit of octets 47-73 and refuses every other number (27)."
abbrev pub check_place : ℕ → Answer ℕ
check_place b = place_in rows b

-- each bit of octets 47 to 73 is covered by one row, and every other bit by none
pub record CoveredOnce (b : ℕ) : Type 0 where
  pub inside : address 47 0 ≤ b → b ≤ address 73 7 → coverings rows b ≡ 1
  pub before : b < address 47 0 → coverings rows b ≡ 0
  pub after : address 73 7 < b → coverings rows b ≡ 0
