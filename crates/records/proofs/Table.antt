-- A place of a record, and table E.1 as the code has it: its characters, and a row by its number. Assumes nothing.
use Prim.Native.Nat.{ℕ, zero, suc, ◌+◌, ◌-◌, ◌*◌, ◌/◌, ◌%◌, ◌^◌, ◌≤◌, ◌<◌}
use native.Mathlib.Omega.{arith}
use mathlib.Core.Path.{◌≡◌, refl, sym, ap, ap₂, ◌∙◌}
use mathlib.Core.Bool.{Bool, true, false, cond, ◌&&◌}
use mathlib.Core.List.{List, [], ◌∷◌, map}
use lib.Dec.{T, ltb, eqb, eqb→eq}
use lib.Ieee.Fits.{and_l, and_r}
use lib.ListN.{length, get_or, get_or-map}
use borrow.Author.Tests.{lt-ltb, le-ltb, ltb-true, ltb-false}
use Rattle.paper.specs.Octets.{address, bit}
use Rattle.paper.specs.Answer.{Sought, found, nothing}
use Rattle.std.specs.Prelude.{Some}
use Rattle.paper.specs.Christening as paper
use Rattle.paper.proofs.ChristeningLaws.{rows_entered, row_found, found_row}
use Rattle.records.specs.declared.Level.{Level}
use Rattle.records.specs.Records.{level_as, held_answer}

-- the bit of place o/b stands in element o - 1, 7 - b bits above its lowest
pub place_bit : (l : List ℕ) (o b : ℕ) → b ≤ 7 → bit l (address o b) ≡ get_or l (o - 1) 0 / 2 ^ (7 - b) % 2
unfolding bit
place_bit l o b h =
    let octet : (8 * (o - 1) + b) / 8 ≡ o - 1 = omega arith in
    let rest : (8 * (o - 1) + b) % 8 ≡ b = omega arith in
    ap₂ (λ (k n : ℕ). get_or l k 0 / 2 ^ (7 - n) % 2) octet rest

-- ---- the table in the code

-- a row there: places of the gateway's part from 22/0 on, of the vehicle's from 50/0 on and 128 higher
abbrev packed_at : paper.Level → ℕ → ℕ → ℕ
packed_at paper.gateway o b = 8 * (o - 22) + b
packed_at paper.vehicle o b = 128 + 8 * (o - 50) + b

abbrev pub packed : paper.Property → ℕ
packed p = packed_at p.level p.octet p.bit

-- what the code makes of it again
abbrev unpacked : ℕ → ℕ → paper.Property
unpacked row x =
    record { row = row; level = cond (ltb x 128) paper.gateway paper.vehicle; octet = cond (ltb x 128) (x / 8 + 22) (x / 8 + 34); bit = x % 8 }

map_at : (f : paper.Property → paper.Property) (ps : List paper.Property) (i : ℕ) → i < length ps → paper.row_at (map f ps) i ≡ f (paper.row_at ps i)
map_at f [] i h = absurd (omega arith)
map_at f (p ∷ ps) zero h = refl
map_at f (p ∷ ps) (suc i) h = map_at f ps i (omega arith)

-- the row that was packed, by one computed test
all_back : map (λ p. unpacked p.row (packed p)) paper.properties ≡ paper.properties
unfolding paper.properties
all_back = refl

row_back : (i : ℕ) → i < 144 → unpacked (paper.row_at paper.properties i).row (packed (paper.row_at paper.properties i)) ≡ paper.row_at paper.properties i
row_back i h =
    sym (map_at (λ p. unpacked p.row (packed p)) paper.properties i (omega (arith, rows_entered)))
    ∙ ap (λ (ps : List paper.Property). paper.row_at ps i) all_back

packed_at_lem : (ps : List paper.Property) (i : ℕ) → get_or (map packed ps) i 0 ≡ packed (paper.row_at ps i)
packed_at_lem ps i = get_or-map packed ps i paper.no_property

-- level and place of row i out of the code's table
abbrev pub entry_at : ℕ → ℕ
entry_at i = get_or (map packed paper.properties) i 0

abbrev pub IsRow : ℕ → paper.Level → ℕ → ℕ → Type 0
IsRow i l o b = (l ≡ (paper.row_at paper.properties i).level) × (o ≡ (paper.row_at paper.properties i).octet) × (b ≡ (paper.row_at paper.properties i).bit)

told : (i : ℕ) (t : Bool) → i < 144 → ltb (entry_at i) 128 ≡ t → IsRow i (cond t paper.gateway paper.vehicle) (cond t (entry_at i / 8 + 22) (entry_at i / 8 + 34)) (entry_at i % 8)
told i t h e =
    let back : unpacked (paper.row_at paper.properties i).row (entry_at i) ≡ paper.row_at paper.properties i =
    ap (unpacked (paper.row_at paper.properties i).row) (packed_at_lem paper.properties i) ∙ row_back i h in (
      ap (λ (b : Bool). cond b paper.gateway paper.vehicle) (sym e) ∙ ap (λ (p : paper.Property). p.level) back,
      ap (λ (b : Bool). cond b (entry_at i / 8 + 22) (entry_at i / 8 + 34)) (sym e) ∙ ap (λ (p : paper.Property). p.octet) back,
      ap (λ (p : paper.Property). p.bit) back,
    )

pub gateway_row : (i : ℕ) → i < 144 → entry_at i < 128 → IsRow i paper.gateway (entry_at i / 8 + 22) (entry_at i % 8)
gateway_row i h lt = told i true h (lt-ltb (entry_at i) 128 lt)

pub vehicle_row : (i : ℕ) → i < 144 → 128 ≤ entry_at i → IsRow i paper.vehicle (entry_at i / 8 + 34) (entry_at i % 8)
vehicle_row i h le = told i false h (le-ltb (entry_at i) 128 le)

-- ---- a row by its number

-- the number of row i: 1 to 132, then 141 to 152
abbrev number_at : ℕ → ℕ
number_at i = cond (ltb i 132) (i + 1) (i + 9)

abbrev numbered : ℕ → List paper.Property → Bool
numbered i [] = true
numbered i (p ∷ ps) = eqb p.row (number_at i) && numbered (suc i) ps

numbered_at : (k : ℕ) (ps : List paper.Property) (i : ℕ) → T (numbered k ps) → i < length ps → (paper.row_at ps i).row ≡ number_at (k + i)
numbered_at k [] i t h = absurd (omega arith)
numbered_at k (p ∷ ps) zero t h =
    let e : k ≡ k + 0 = omega arith in
    eqb→eq p.row (number_at k) (and_l (eqb p.row (number_at k)) (numbered (suc k) ps) t) ∙ ap number_at e
numbered_at k (p ∷ ps) (suc i) t h =
    let e : suc k + i ≡ k + suc i = omega arith in
    numbered_at (suc k) ps i (and_r (eqb p.row (number_at k)) (numbered (suc k) ps) t) (omega arith) ∙ ap number_at e

number_of : (i : ℕ) → i < 144 → (paper.row_at paper.properties i).row ≡ number_at i
unfolding paper.properties
number_of i h =
    let e : 0 + i ≡ i = omega arith in
    numbered_at 0 paper.properties i tt h ∙ ap number_at e

low : (i : ℕ) → i < 132 → number_at i ≡ i + 1
low i h = ap (λ (b : Bool). cond b (i + 1) (i + 9)) (lt-ltb i _ h)

high : (i : ℕ) → 132 ≤ i → number_at i ≡ i + 9
high i h = ap (λ (b : Bool). cond b (i + 1) (i + 9)) (le-ltb i _ h)

row_of : (i : ℕ) → i < 144 → paper.row_in paper.properties (number_at i) ≡ found (paper.row_at paper.properties i)
row_of i h = ap (paper.row_in paper.properties) (sym (number_of i h)) ∙ row_found i (omega (arith, rows_entered))

pub low_row : (n : ℕ) → 1 ≤ n → n < 133 → paper.row_in paper.properties n ≡ found (paper.row_at paper.properties (n - 1))
low_row n h k =
    let e : n - 1 + 1 ≡ n = omega arith in
    ap (paper.row_in paper.properties) (sym e ∙ sym (low (n - 1) (omega arith))) ∙ row_of (n - 1) (omega arith)

pub high_row : (n : ℕ) → 141 ≤ n → n < 153 → paper.row_in paper.properties n ≡ found (paper.row_at paper.properties (n - 9))
high_row n h k =
    let e : n - 9 + 9 ≡ n = omega arith in
    ap (paper.row_in paper.properties) (sym e ∙ sym (high (n - 9) (omega arith))) ∙ row_of (n - 9) (omega arith)

-- a number that no row has
pub no_row : (n : ℕ) → ((i : ℕ) → i < 132 → i + 1 ≡ n → ⊥) → ((i : ℕ) → i < 144 → 132 ≤ i → i + 9 ≡ n → ⊥) → paper.row_in paper.properties n ≡ nothing
no_row n below above = by (paper.row_in paper.properties n) refl
  where
    neither : (i : ℕ) → i < 144 → number_at i ≡ n → ⊥
    neither i h e = side (ltb i 132) refl e
      where
        side : (b : Bool) → ltb i 132 ≡ b → cond b (i + 1) (i + 9) ≡ n → ⊥
        side true t f = below i (ltb-true i 132 t) f
        side false t f = above i h (ltb-false i 132 t) f

    by : (s : Sought paper.Property) → paper.row_in paper.properties n ≡ s → paper.row_in paper.properties n ≡ nothing
    by nothing e = e
    by (found p) e =
        let w = found_row paper.properties n p e in
        let inside : w.0 < 144 = omega (arith, w.1.0, rows_entered) in
        absurd (neither w.0 inside (sym (number_of w.0 inside) ∙ ap (λ (q : paper.Property). q.row) w.1.1 ∙ w.1.2))

-- ---- what an index gives

pub none_held : (octets : List ℕ) (n : ℕ) → paper.row_in paper.properties n ≡ nothing → nothing ≡ paper.property_of octets n
unfolding paper.property_of
none_held octets n e = sym (ap (paper.held_in octets) e)

module _ (octets : List ℕ) (n i : ℕ) (e : paper.row_in paper.properties n ≡ found (paper.row_at paper.properties i)) where
  its_row : n ≡ (paper.row_at paper.properties i).row
  its_row = sym (found_row paper.properties n (paper.row_at paper.properties i) e).1.2

  pub row_held : (l : Level) (o b : ℕ) (holds : Bool) → level_as l ≡ (paper.row_at paper.properties i).level → o ≡ (paper.row_at paper.properties i).octet
      → b ≡ (paper.row_at paper.properties i).bit → holds ≡ paper.is_set octets o b
      → held_answer n (Some (record { level = l; octet = o; bit = b; holds = holds })) ≡ paper.property_of octets n
  unfolding paper.property_of
  row_held l o b holds lv oc bt hs =
      let all : holds ≡ paper.is_set octets (paper.row_at paper.properties i).octet (paper.row_at paper.properties i).bit = hs ∙ ap₂ (paper.is_set octets) oc bt in
      (λ j. found (record { property = record { row = its_row j; level = lv j; octet = oc j; bit = bt j }; holds = all j })) ∙ sym (ap (paper.held_in octets) e)
