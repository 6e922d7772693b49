-- Table E.1's rule, by one computed test and one law over any such table; the consist that christening records describe. Assumes nothing.
use Prim.Native.Nat.{ℕ, zero, suc, ◌+◌, ◌*◌, ◌/◌, ◌%◌, ◌≤◌, ◌<◌}
use native.Mathlib.Omega.{arith}
use mathlib.Core.Path.{◌≡◌, refl, sym, ap, ap₂, ◌∙◌}
use mathlib.Core.Bool.{Bool, true, false, not, cond, ◌&&◌, ◌||◌, false≢true}
use mathlib.Core.List.{List, [], ◌∷◌, map}
use lib.Dec.{T, leb, ltb, eqb, leb→le, ltb→lt}
use lib.Ieee.Fits.{and_l, and_r}
use lib.ListN.{length, get_or, take, drop}
use lib.Seq.{drop-drop}
use borrow.Author.Tests.{eq-eqb, ne_eqb, eqb-true, eqb-false, ltb-false, not-false}
use Rattle.bools.proofs.Tests.{neither}
use Rattle.paper.specs.Octets.{address, bit}
use Rattle.paper.specs.Answer.{Answer, gives, refuse_if, and_then, Sought, found, nothing}
use Rattle.paper.specs.Store.{vehicles}
use Rattle.paper.specs.Train.{Vehicle, no_vehicle, Members, consist_rule, is_address, members_of, resolving}
use Rattle.paper.specs.Christening.{Level, gateway, vehicle, Property, properties, no_property, row_at, OneRow, row_in, record_octets, Pair, described, vehicles_of, misfits, christening, places, SameMarks}
use Rattle.paper.proofs.AnswerLaws.{not_refused, gives_one}

-- ---- the table

abbrev same : Level → Level → Bool
same gateway gateway = true
same gateway vehicle = false
same vehicle gateway = false
same vehicle vehicle = true

abbrev meet : Property → Property → Bool
meet p q = same p.level q.level && eqb p.octet q.octet && eqb p.bit q.bit

abbrev apart_from : Property → List Property → Bool
apart_from p [] = true
apart_from p (q ∷ qs) = not (meet p q) && apart_from p qs

abbrev all_apart : List Property → Bool
all_apart [] = true
all_apart (p ∷ ps) = apart_from p ps && all_apart ps

same_of : (a b : Level) → a ≡ b → same a b ≡ true
same_of a gateway e = rw e
same_of a vehicle e = rw e

meets_of_lem : (p q : Property) → p.level ≡ q.level → p.octet ≡ q.octet → p.bit ≡ q.bit → meet p q ≡ true
meets_of_lem p q e f h = simp (same_of p.level q.level e, eq-eqb p.octet q.octet f, eq-eqb p.bit q.bit h)

not_met : (b : Bool) → T (not b) → b ≡ true → ⊥
not_met true t e = t
not_met false t e = false≢true e

-- a row apart from each of the others
apart_at : (p : Property) (qs : List Property) (j : ℕ) → T (apart_from p qs) → j < length qs → meet p (get_or qs j no_property) ≡ true → ⊥
apart_at p [] j t h e = omega arith
apart_at p (q ∷ qs) zero t h e = not_met (meet p q) (and_l (not (meet p q)) (apart_from p qs) t) e
apart_at p (q ∷ qs) (suc j) t h e = apart_at p qs j (and_r (not (meet p q)) (apart_from p qs) t) (omega arith) e

one_row : (ps : List Property) → T (all_apart ps) → OneRow ps
one_row [] t i j h k e f g = absurd (omega arith)
one_row (p ∷ ps) t zero zero h k e f g = refl
one_row (p ∷ ps) t zero (suc j) h k e f g =
    absurd (apart_at p ps j (and_l (apart_from p ps) (all_apart ps) t) (omega arith) (meets_of_lem p (get_or ps j no_property) e f g))
one_row (p ∷ ps) t (suc i) zero h k e f g =
    absurd (apart_at p ps i (and_l (apart_from p ps) (all_apart ps) t) (omega arith) (meets_of_lem p (get_or ps i no_property) (sym e) (sym f) (sym g)))
one_row (p ∷ ps) t (suc i) (suc j) h k e f g =
    ap suc (one_row ps (and_r (apart_from p ps) (all_apart ps) t) i j (omega arith) (omega arith) e f g)

-- the one computed test
pub no_two_share : OneRow properties
unfolding properties
no_two_share = one_row properties tt

-- each place lies in the record, and the row numbers rise: no row stands twice
abbrev inside : Property → Bool
inside p = leb 1 p.octet && leb p.octet record_octets && ltb p.bit 8

abbrev all_inside : ℕ → List Property → Bool
all_inside last [] = true
all_inside last (p ∷ ps) = ltb last p.row && inside p && all_inside p.row ps

inside_at : (last : ℕ) (ps : List Property) (i : ℕ) → T (all_inside last ps) → i < length ps → T (inside (get_or ps i no_property))
inside_at last [] i t h = absurd (omega arith)
inside_at last (p ∷ ps) zero t h = and_r (ltb last p.row) (inside p) (and_l (ltb last p.row && inside p) (all_inside p.row ps) t)
inside_at last (p ∷ ps) (suc i) t h = inside_at p.row ps i (and_r (ltb last p.row && inside p) (all_inside p.row ps) t) (omega arith)

pub record Inside (p : Property) : Type 0 where
  pub first : 1 ≤ p.octet
  pub octet : p.octet ≤ record_octets
  pub bit : p.bit < 8

is_inside : (p : Property) → T (inside p) → Inside p
is_inside p t =
    let u = and_l (leb 1 p.octet && leb p.octet record_octets) (ltb p.bit 8) t in
    record {
      first = leb→le 1 p.octet (and_l (leb 1 p.octet) (leb p.octet record_octets) u);
      octet = leb→le p.octet record_octets (and_r (leb 1 p.octet) (leb p.octet record_octets) u);
      bit = ltb→lt p.bit 8 (and_r (leb 1 p.octet && leb p.octet record_octets) (ltb p.bit 8) t);
    }

-- the second computed test
pub within_record : (i : ℕ) → i < length properties → Inside (get_or properties i no_property)
unfolding properties
within_record i h = is_inside (get_or properties i no_property) (inside_at 0 properties i tt h)

pub rows_entered : length properties ≡ 144
unfolding properties
rows_entered = refl

-- the places that the marks are read from are rows of the table
abbrev placed : Sought Property → ℕ
placed (found p) = address p.octet p.bit
placed nothing = 0

pub rule_rows : map (λ (n : ℕ). placed (row_in properties n)) (38 ∷ 39 ∷ 1 ∷ 2 ∷ 9 ∷ 12 ∷ 13 ∷ []) ≡ places
unfolding properties row_in
rule_rows = refl

-- ---- the consist

abbrev pub no_pair : Pair
no_pair = record { leading = false; led = false }

pub vehicles_length : (area : List ℕ) (pairs : List Pair) → length (vehicles_of area pairs) ≡ length pairs
unfolding vehicles_of
vehicles_length area [] = refl
vehicles_length area (p ∷ ps) = ap suc (vehicles_length (drop record_octets area) ps)

-- vehicle i + 1 is described by record i and pair i
pub vehicle_at : (area : List ℕ) (pairs : List Pair) (i : ℕ) → i < length pairs
    → get_or (vehicles_of area pairs) i no_vehicle ≡ described (take record_octets (drop (record_octets * i) area)) (get_or pairs i no_pair)
unfolding vehicles_of
vehicle_at area [] i h = absurd (omega arith)
vehicle_at area (p ∷ ps) zero h = refl
vehicle_at area (p ∷ ps) (suc i) h =
    let e : record_octets + record_octets * i ≡ record_octets * suc i = omega arith in
    vehicle_at (drop record_octets area) ps i (omega arith)
    ∙ ap (λ (l : List ℕ). described (take record_octets l) (get_or ps i no_pair)) (drop-drop (record_octets * i) record_octets area ∙ ap (λ (n : ℕ). drop n area) e)

past_both : {A B : Type 0} (b c d : Bool) (x : A) (k : A → Answer B) (y : Answer B) → k x ≡ refuse_if c 17 0 (refuse_if d 18 0 y)
    → and_then (refuse_if b 31 0 (refuse_if c 17 0 (refuse_if d 18 0 (gives x)))) k ≡ refuse_if b 31 0 (k x)
unfolding refuse_if
past_both true c d x k y e = refl
past_both false true d x k y e = sym e
past_both false false true x k y e = sym e
past_both false false false x k y e = refl

-- the consist that comes out, resolved for any address, is `resolving` of the vehicles described, behind 31
pub resolves_described : (area : List ℕ) (pairs : List Pair) (a : ℕ)
    → and_then (christening area pairs) (λ train. resolving train a) ≡ refuse_if (misfits area pairs) 31 0 (resolving (vehicles_of area pairs) a)
unfolding christening resolving
resolves_described area pairs a =
    let train = vehicles_of area pairs in
    let rest : Answer Members = refuse_if (not (is_address a)) 19 0 (refuse_if (eqb (members_of train a).size 0) 20 0 (gives (members_of train a))) in
    past_both (misfits area pairs) (eqb (length pairs) 0 || ltb vehicles (length pairs)) (not (consist_rule train)) train (λ t. resolving t a) rest
    (ap (λ (n : ℕ). refuse_if (eqb n 0 || ltb vehicles n) 17 0 (refuse_if (not (consist_rule train)) 18 0 rest)) (vehicles_length area pairs))

-- what a consist that comes out tells: as many records as pairs, 1 to 63, which keep the consist's rule
pub record Consists (area : List ℕ) (pairs : List Pair) (train : List Vehicle) : Type 0 where
  pub whole : length area ≡ record_octets * length pairs
  pub least : 1 ≤ length pairs
  pub most : length pairs ≤ vehicles
  pub rule : consist_rule train ≡ true
  pub described : vehicles_of area pairs ≡ train

pub consists : (area : List ℕ) (pairs : List Pair) (train : List Vehicle) → christening area pairs ≡ gives train → Consists area pairs train
unfolding christening
consists area pairs train e =
    let p = not_refused _ 31 0 _ train e in
    let q = not_refused _ 17 0 _ train p.1 in
    let r = not_refused _ 18 0 _ train q.1 in
    let d : vehicles_of area pairs ≡ train = gives_one _ _ train refl r.1 in
    let m = neither (not (eqb (length area % record_octets) 0)) (not (eqb (length pairs) (length area / record_octets))) p.0 in
    let n = neither (eqb (length pairs) 0) (ltb vehicles (length pairs)) q.0 in
    let whole : length area % record_octets ≡ 0 = eqb-true _ 0 (not-false _ m.0) in
    let many : length pairs ≡ length area / record_octets = eqb-true (length pairs) _ (not-false _ m.1) in
    let some : length pairs ≡ 0 → ⊥ = eqb-false (length pairs) 0 n.0 in
    record {
      whole = omega arith;
      least = omega arith;
      most = ltb-false vehicles (length pairs) n.1;
      rule = ap consist_rule (sym d) ∙ not-false _ r.0;
      described = d;
    }

-- ---- no other bit counts

same_described : (r s : List ℕ) (p : Pair) → ((k : ℕ) → k < length places → bit r (get_or places k 0) ≡ bit s (get_or places k 0)) → described r p ≡ described s p
unfolding described
same_described r s p h =
    rw (h 0 (omega arith), h 1 (omega arith), h 2 (omega arith), h 3 (omega arith), h 4 (omega arith), h 5 (omega arith), h 6 (omega arith))

same_shifted : (xs ys : List ℕ) (n : ℕ) → SameMarks xs ys (suc n) → SameMarks (drop record_octets xs) (drop record_octets ys) n
same_shifted xs ys n h i k l m =
    let e : record_octets * suc i ≡ record_octets + record_octets * i = omega arith in
    let at : (l : List ℕ) → drop (record_octets * i) (drop record_octets l) ≡ drop (record_octets * suc i) l
    = λ l. drop-drop (record_octets * i) record_octets l ∙ ap (λ (n : ℕ). drop n l) (sym e) in
    rw (at xs, at ys) (h (suc i) k (omega arith) m)

same_vehicles : (xs ys : List ℕ) (pairs : List Pair) → SameMarks xs ys (length pairs) → vehicles_of xs pairs ≡ vehicles_of ys pairs
unfolding vehicles_of
same_vehicles xs ys [] h = refl
same_vehicles xs ys (p ∷ ps) h =
    ap₂ ◌∷◌ (same_described (take record_octets xs) (take record_octets ys) p (λ k l. h 0 k (omega arith) l))
    (same_vehicles (drop record_octets xs) (drop record_octets ys) ps (same_shifted xs ys (length ps) h))

pub no_other_bit : (xs ys : List ℕ) (pairs : List Pair) → length xs ≡ length ys → SameMarks xs ys (length pairs) → christening xs pairs ≡ christening ys pairs
unfolding christening
no_other_bit xs ys pairs e h = rw (e, same_vehicles xs ys pairs h)

-- ---- a property by its row

-- the row numbers rise, so a later row has a greater one
later_row : (last : ℕ) (ps : List Property) (i : ℕ) → T (all_inside last ps) → i < length ps → last < (row_at ps i).row
later_row last [] i t h = absurd (omega arith)
later_row last (p ∷ ps) zero t h = ltb→lt last p.row (and_l (ltb last p.row) (inside p) (and_l (ltb last p.row && inside p) (all_inside p.row ps) t))
later_row last (p ∷ ps) (suc i) t h =
    let first : last < p.row = ltb→lt last p.row (and_l (ltb last p.row) (inside p) (and_l (ltb last p.row && inside p) (all_inside p.row ps) t)) in
    let rest : p.row < (row_at ps i).row = later_row p.row ps i (and_r (ltb last p.row && inside p) (all_inside p.row ps) t) (omega arith) in
    omega arith

finds_row : (last : ℕ) (ps : List Property) (i : ℕ) → T (all_inside last ps) → i < length ps → row_in ps (row_at ps i).row ≡ found (row_at ps i)
unfolding row_in
finds_row last [] i t h = absurd (omega arith)
finds_row last (p ∷ ps) zero t h = rw (eq-eqb p.row p.row refl) refl
finds_row last (p ∷ ps) (suc i) t h =
    let u = and_r (ltb last p.row && inside p) (all_inside p.row ps) t in
    let later : p.row < (row_at ps i).row = later_row p.row ps i u (omega arith) in
    let other : p.row ≡ (row_at ps i).row → ⊥ = λ e. omega arith in
    rw (ne_eqb p.row (row_at ps i).row other) (finds_row p.row ps i u (omega arith))

-- each row is found by its number
pub row_found : (i : ℕ) → i < length properties → row_in properties (row_at properties i).row ≡ found (row_at properties i)
unfolding properties
row_found i h = finds_row 0 properties i tt h

-- and what is found is a row of that number
pub found_row : (ps : List Property) (n : ℕ) (p : Property) → row_in ps n ≡ found p → (i : ℕ) × ((i < length ps) × (row_at ps i ≡ p) × (p.row ≡ n))
unfolding row_in
found_row [] n p e = let z : ◌≡◌ {A = ℕ} 0 1 = cc in absurd (omega arith)
found_row (q ∷ qs) n p e = by (eqb q.row n) refl e (λ f. found_row qs n p f)
  where
    by : (b : Bool) → eqb q.row n ≡ b → cond b (found q) (row_in qs n) ≡ found p
        → (row_in qs n ≡ found p → (i : ℕ) × ((i < length qs) × (row_at qs i ≡ p) × (p.row ≡ n)))
        → (i : ℕ) × ((i < length (q ∷ qs)) × (row_at (q ∷ qs) i ≡ p) × (p.row ≡ n))
    by true t f rest = let s : q ≡ p = cc in (0, (omega arith, s, ap (λ (x : Property). x.row) (sym s) ∙ eqb-true q.row n t))
    by false t f rest = let w = rest f in (suc w.0, (omega (arith, w.1.0), w.1.1, w.1.2))
