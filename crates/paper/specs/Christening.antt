-- C-14, "Build the consist from christening telegrams": a vehicle's properties from its christening record, by source document 002, table E.1.
use Rattle.std.specs.Prelude.{ℕ, ◌*◌, ◌/◌, ◌%◌, ◌<◌, ◌≡◌, Bool, not, cond, ◌||◌, List, [], ◌∷◌, ltb, eqb, length, get_or, take, drop}
use Rattle.paper.specs.Octets.{address, bit}
use Rattle.paper.specs.Answer.{Answer, gives, refuse_if, Sought, found, nothing}
use Rattle.paper.specs.Store.{vehicles}
use Rattle.paper.specs.Train.{Vehicle, consist_rule}

-- ---- Table E.1

-- "its row number, its level (gateway or vehicle) and its place"
pub data Level : Type 0 where
  gateway : Level
  vehicle : Level

pub record Property : Type 0 where
  pub row : ℕ
  pub level : Level
  pub octet : ℕ
  pub bit : ℕ

abbrev g : ℕ → ℕ → ℕ → Property
g r o b = record { row = r; level = gateway; octet = o; bit = b }

abbrev v : ℕ → ℕ → ℕ → Property
v r o b = record { row = r; level = vehicle; octet = o; bit = b }

-- "every row of source document 002, table E.1, that has an octet/bit place .. as one constant table"; "Row 142 is printed twice there; enter it
-- once." In the order of the row numbers: row, octet, bit
unfoldable pub properties : List Property
properties =
    v 1 50 0 ∷ v 2 50 1 ∷ v 3 50 2 ∷ v 4 50 3 ∷ v 5 50 4 ∷ v 6 50 5 ∷ v 7 50 6 ∷ v 8 50 7
    ∷ v 9 51 0 ∷ v 10 51 1 ∷ v 11 51 2 ∷ v 12 51 3 ∷ v 13 51 4 ∷ v 14 51 5 ∷ v 15 51 6 ∷ v 16 51 7
    ∷ g 17 22 0 ∷ v 18 52 0 ∷ g 19 22 1 ∷ v 20 52 1 ∷ g 21 22 2 ∷ g 22 22 3 ∷ g 23 22 4 ∷ g 24 22 5
    ∷ v 25 52 2 ∷ v 26 52 3 ∷ v 27 52 4 ∷ v 28 52 5 ∷ g 29 22 6 ∷ g 30 22 7 ∷ g 31 23 0 ∷ g 32 23 1
    ∷ g 33 23 2 ∷ g 34 23 3 ∷ g 35 23 4 ∷ g 36 23 5 ∷ g 37 23 6 ∷ g 38 24 0 ∷ g 39 24 1 ∷ g 40 24 2
    ∷ g 41 24 3 ∷ v 42 52 6 ∷ v 43 52 7 ∷ g 44 24 4 ∷ g 45 24 5 ∷ g 46 24 6 ∷ g 47 24 7 ∷ g 48 25 0
    ∷ g 49 25 1 ∷ g 50 25 2 ∷ g 51 25 3 ∷ g 52 25 4 ∷ g 53 25 5 ∷ g 54 25 6 ∷ g 55 25 7 ∷ g 56 26 0
    ∷ g 57 26 1 ∷ g 58 26 2 ∷ g 59 26 3 ∷ g 60 26 4 ∷ g 61 26 5 ∷ g 62 26 6 ∷ g 63 26 7 ∷ g 64 27 0
    ∷ g 65 27 1 ∷ g 66 27 2 ∷ g 67 27 3 ∷ g 68 27 4 ∷ g 69 27 5 ∷ g 70 27 6 ∷ g 71 27 7 ∷ g 72 28 0
    ∷ g 73 28 1 ∷ g 74 28 2 ∷ g 75 28 3 ∷ g 76 28 4 ∷ g 77 28 5 ∷ g 78 28 6 ∷ g 79 28 7 ∷ g 80 29 0
    ∷ g 81 29 1 ∷ g 82 29 2 ∷ g 83 29 3 ∷ g 84 29 4 ∷ g 85 29 5 ∷ g 86 29 6 ∷ g 87 29 7 ∷ g 88 30 0
    ∷ g 89 30 1 ∷ g 90 30 2 ∷ g 91 30 3 ∷ g 92 30 4 ∷ g 93 30 5 ∷ g 94 30 6 ∷ g 95 30 7 ∷ g 96 31 0
    ∷ g 97 31 1 ∷ g 98 31 2 ∷ g 99 31 3 ∷ g 100 31 4 ∷ g 101 31 5 ∷ g 102 31 6 ∷ g 103 31 7 ∷ g 104 32 0
    ∷ v 105 53 0 ∷ g 106 32 1 ∷ g 107 32 2 ∷ v 108 53 1 ∷ v 109 53 2 ∷ g 110 32 3 ∷ g 111 32 4 ∷ g 112 32 5
    ∷ g 113 32 6 ∷ g 114 32 7 ∷ g 115 33 0 ∷ g 116 33 1 ∷ g 117 33 2 ∷ v 118 53 3 ∷ g 119 33 3 ∷ g 120 33 4
    ∷ g 121 33 5 ∷ v 122 53 4 ∷ g 123 33 6 ∷ g 124 33 7 ∷ v 125 53 5 ∷ g 126 34 0 ∷ v 127 53 6 ∷ g 128 34 1
    ∷ v 129 53 7 ∷ v 130 54 0 ∷ g 131 34 2 ∷ g 132 34 3 ∷ v 141 54 1 ∷ g 142 23 7 ∷ g 143 34 4 ∷ g 144 34 5
    ∷ g 145 34 6 ∷ g 146 34 7 ∷ g 147 35 0 ∷ g 148 35 1 ∷ g 149 35 2 ∷ g 150 35 3 ∷ g 151 35 4 ∷ g 152 35 5 ∷ []

abbrev pub no_property : Property
no_property = record { row = 0; level = gateway; octet = 0; bit = 0 }

-- row i of a table, from 0
abbrev pub row_at : List Property → ℕ → Property
row_at ps i = get_or ps i no_property

-- "no two rows of one level share a place": rows of the same level, octet and bit are one row
abbrev pub OneRow : List Property → Type 0
OneRow ps =
    (i j : ℕ) → i < length ps → j < length ps → (row_at ps i).level ≡ (row_at ps j).level → (row_at ps i).octet ≡ (row_at ps j).octet
    → (row_at ps i).bit ≡ (row_at ps j).bit → i ≡ j

-- ---- A vehicle from its record

-- "one 56-octet record a vehicle"
abbrev pub record_octets : ℕ
record_octets = 56

-- the bit at place o/b of a record is set
abbrev pub is_set : List ℕ → ℕ → ℕ → Bool
is_set octets o b = eqb (bit octets (address o b)) 1

-- "Leading and led are still handed in, a pair of marks a vehicle"
pub record Pair : Type 0 where
  pub leading : Bool
  pub led : Bool

-- "Sleeping car is 51/4; tractive means 24/0 or 24/1; a vehicle is a coach if any of 50/0, 50/1, 51/0, 51/3, 51/4 is set."
unfoldable pub described : List ℕ → Pair → Vehicle
described octets p =
    record {
      leading = p.leading;
      coach = is_set octets 50 0 || is_set octets 50 1 || is_set octets 51 0 || is_set octets 51 3 || is_set octets 51 4;
      tractive = is_set octets 24 0 || is_set octets 24 1;
      led = p.led;
      sleeping = is_set octets 51 4;
    }

-- record i of the area, from 0
abbrev pub record_at : List ℕ → ℕ → List ℕ
record_at area i = take record_octets (drop (record_octets * i) area)

-- "one 56-octet record a vehicle in train order": the vehicles that the records and the pairs describe, each record with its pair
unfoldable pub vehicles_of : List ℕ → List Pair → List Vehicle
vehicles_of area [] = []
vehicles_of area (p ∷ ps) = described (take record_octets area) p ∷ vehicles_of (drop record_octets area) ps

-- "31 record area not a whole number of records, or not as many pairs of marks as records"
abbrev pub misfits : List ℕ → List Pair → Bool
misfits area pairs = not (eqb (length area % record_octets) 0) || not (eqb (length pairs) (length area / record_octets))

-- "31 comes first, then 17 and 18"
unfoldable pub christening : List ℕ → List Pair → Answer (List Vehicle)
christening area pairs =
    refuse_if (misfits area pairs) 31 0
    (refuse_if (eqb (length pairs) 0 || ltb vehicles (length pairs)) 17 0
    (refuse_if (not (consist_rule (vehicles_of area pairs))) 18 0
    (gives (vehicles_of area pairs))))

-- ---- A property by its row

-- the row of this number
unfoldable pub row_in : List Property → ℕ → Sought Property
row_in [] n = nothing
row_in (p ∷ ps) n = cond (eqb p.row n) (found p) (row_in ps n)

-- a row of the table, and whether its property holds in a record
pub record Held : Type 0 where
  pub property : Property
  pub holds : Bool

abbrev pub held_in : List ℕ → Sought Property → Sought Held
held_in octets (found p) = found (record { property = p; holds = is_set octets p.octet p.bit })
held_in octets nothing = nothing

unfoldable pub property_of : List ℕ → ℕ → Sought Held
property_of octets n = held_in octets (row_in properties n)

-- ---- No other bit counts

-- the places that the marks are read from
abbrev pub places : List ℕ
places = address 24 0 ∷ address 24 1 ∷ address 50 0 ∷ address 50 1 ∷ address 51 0 ∷ address 51 3 ∷ address 51 4 ∷ []

-- two areas agree there in each of n records
abbrev pub SameMarks : List ℕ → List ℕ → ℕ → Type 0
SameMarks xs ys n = (i k : ℕ) → i < n → k < length places → bit (record_at xs i) (get_or places k 0) ≡ bit (record_at ys i) (get_or places k 0)
