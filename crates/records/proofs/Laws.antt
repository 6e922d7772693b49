-- The mark octets stored one by one are those of the train that records and pairs describe; how the consist's answer is put together. Assumes nothing.
use Prim.Native.Nat.{ℕ, ◌+◌, ◌-◌, ◌*◌, ◌/◌, ◌%◌, ◌≤◌, ◌<◌}
use native.Mathlib.Omega.{arith}
use native.Mathlib.Numerals.{add-one}
use mathlib.Core.Path.{◌≡◌, refl, sym, ap, ap₂, ◌∙◌}
use mathlib.Core.Bool.{Bool, true, false, not, cond, ◌||◌}
use mathlib.Core.List.{List, [], ◌∷◌, ◌++◌, map}
use borrow.Author.Tests.{eq-eqb, ne_eqb, lt-ltb, le-ltb}
use lib.Dec.{eqb, ltb}
use lib.ListN.{length, get_or, set, take, drop, length-map, length-drop, get_or-map}
use lib.Seq.{take-suc, take-suc-set, length-take-le}
use Rattle.std.specs.Prelude.{Ok, Err}
use Rattle.paper.specs.Octets.{over}
use Rattle.paper.specs.Answer.{Answer, gives, refused, map_answer, after}
use Rattle.paper.specs.Train.{Vehicle, no_vehicle, consist_rule}
use Rattle.paper.specs.Christening.{record_octets, described, record_at, vehicles_of, misfits, christening}
use Rattle.paper.proofs.AnswerLaws.{refuses, goes_past}
use Rattle.paper.proofs.ChristeningLaws.{vehicles_length, vehicle_at}
use Rattle.refusals.specs.declared.Refusal.{Refusal}
use Rattle.refusals.specs.Refusal.{refusal_of}
use Rattle.train.specs.Marks.{octet_of}
use Rattle.records.specs.Records.{pair_of, below32, ChristenedAs}

-- ---- the mark octets

-- the train of the octets
abbrev pub train_of : List ℕ → List ℕ → List Vehicle
train_of area pairs = vehicles_of area (map pair_of pairs)

abbrev pub marks_of : List ℕ → List ℕ → List ℕ
marks_of area pairs = map octet_of (train_of area pairs)

pub train_length : (area pairs : List ℕ) → length (train_of area pairs) ≡ length pairs
train_length area pairs = vehicles_length area (map pair_of pairs) ∙ length-map pairs pair_of

pub marks_length : (area pairs : List ℕ) → length (marks_of area pairs) ≡ length pairs
marks_length area pairs = length-map (train_of area pairs) octet_of ∙ train_length area pairs

-- mark octet i is that of record i and pair i
mark_at : (area pairs : List ℕ) (i : ℕ) → i < length pairs
    → get_or (marks_of area pairs) i (octet_of no_vehicle) ≡ octet_of (described (record_at area i) (pair_of (get_or pairs i 0)))
mark_at area pairs i h =
    get_or-map octet_of (train_of area pairs) i no_vehicle
    ∙ ap octet_of (vehicle_at area (map pair_of pairs) i (omega (arith, length-map pairs pair_of)) ∙ ap (described (record_at area i)) (get_or-map pair_of pairs i 0))

-- one octet more
pub filled_more : (area pairs at : List ℕ) (i b : ℕ) → i < length pairs → i < length at → b ≡ octet_of (described (record_at area i) (pair_of (get_or pairs i 0)))
    → take i at ≡ take i (marks_of area pairs) → take (i + 1) (set at i b) ≡ take (i + 1) (marks_of area pairs)
filled_more area pairs at i b h l e before =
    rw add-one
    (take-suc-set at i b l ∙ ap₂ (λ (x : List ℕ) (y : ℕ). x ++ (y ∷ [])) before (e ∙ sym (mark_at area pairs i h))
    ∙ sym (take-suc (marks_of area pairs) i (octet_of no_vehicle) (omega (arith, marks_length area pairs))))

-- the part of the area that the code lends
pub part_is : (l : List ℕ) (i : ℕ) → take (i * 56 + 56 - i * 56) (drop (i * 56) l) ≡ record_at l i
part_is l i =
    let n : i * 56 + 56 - i * 56 ≡ 56 = omega arith in
    let k : i * 56 ≡ 56 * i = omega arith in
    ap₂ (λ (n k : ℕ). take n (drop k l)) n k

pub part_length : (l : List ℕ) (i n : ℕ) → length l ≡ record_octets * n → i < n → length (take (i * 56 + 56 - i * 56) (drop (i * 56) l)) ≡ record_octets
part_length l i n e h =
    let k : i * 56 + 56 - i * 56 ≡ 56 = omega arith in
    length-take-le _ (drop (i * 56) l) (omega (arith, length-drop (i * 56) l)) ∙ k

-- ---- the answers

-- the contract, from the answer that is refused or given
pub christened_refused : (f : Refusal) (a : Answer (List Vehicle)) (old : List ℕ) → refusal_of f ≡ a → ChristenedAs a old (Err f) old
christened_refused f a old e =
    record {
      many = ap (map_answer length) e;
      octets = ap (λ (x : Answer (List Vehicle)). after old (map_answer (λ train. over old 0 (map octet_of train)) x)) e;
    }

pub christened_given : (n : ℕ) (train : List Vehicle) (a : Answer (List Vehicle)) (old new : List ℕ) → gives train ≡ a → n ≡ length train
    → new ≡ over old 0 (map octet_of train) → ChristenedAs a old (Ok n) new
christened_given n train a old new e m o =
    record {
      many = ap gives m ∙ ap (map_answer length) e;
      octets = o ∙ ap (λ (x : Answer (List Vehicle)). after old (map_answer (λ train. over old 0 (map octet_of train)) x)) e;
    }

module _ (area pairs : List ℕ) where
  -- 31: octets that are no whole number of records, or records of another number
  pub not_whole : (length area % record_octets ≡ 0 → ⊥) → refused 31 0 ≡ christening area (map pair_of pairs)
  unfolding christening
  not_whole h =
      let x : Bool = not (eqb (length (map pair_of pairs)) (length area / record_octets)) in
      refuses _ 31 0 _ (ap (λ (b : Bool). not b || x) (ne_eqb _ 0 h))

  pub not_many : length area % record_octets ≡ 0 → (length area / record_octets ≡ length pairs → ⊥) → refused 31 0 ≡ christening area (map pair_of pairs)
  unfolding christening
  not_many e h = refuses _ 31 0 _ (ap₂ (λ (b c : Bool). not b || not c) (eq-eqb _ 0 e) (ne_eqb _ _ (λ q. h (sym q ∙ length-map pairs pair_of))))

  module _ (whole : length area % record_octets ≡ 0) (many : length area / record_octets ≡ length pairs) where
    fits : misfits area (map pair_of pairs) ≡ false
    fits = ap₂ (λ (b c : Bool). not b || not c) (eq-eqb _ 0 whole) (eq-eqb _ _ (length-map pairs pair_of ∙ sym many))

    -- 17
    pub none : length pairs ≡ 0 → refused 17 0 ≡ christening area (map pair_of pairs)
    unfolding christening
    none h = goes_past _ 31 0 _ _ fits (refuses _ 17 0 _ (ap (λ (b : Bool). b || ltb 63 (length (map pair_of pairs))) (eq-eqb _ 0 (length-map pairs pair_of ∙ h))))

    pub long : 63 < length pairs → refused 17 0 ≡ christening area (map pair_of pairs)
    unfolding christening
    long h =
        goes_past _ 31 0 _ _ fits
        (refuses _ 17 0 _ (rw (length-map pairs pair_of) (ap₂ ◌||◌ (ne_eqb (length pairs) 0 (λ z. omega arith)) (lt-ltb 63 (length pairs) h))))

    module _ (some : length pairs ≡ 0 → ⊥) (most : length pairs ≤ 63) where
      counts : (eqb (length (map pair_of pairs)) 0 || ltb 63 (length (map pair_of pairs))) ≡ false
      counts = rw (length-map pairs pair_of) (ap₂ ◌||◌ (ne_eqb (length pairs) 0 some) (le-ltb 63 (length pairs) most))

      -- 18
      pub unruly : consist_rule (train_of area pairs) ≡ false → refused 18 0 ≡ christening area (map pair_of pairs)
      unfolding christening
      unruly r = goes_past _ 31 0 _ _ fits (goes_past _ 17 0 _ _ counts (refuses _ 18 0 _ (ap not r)))

      pub given : consist_rule (train_of area pairs) ≡ true → gives (train_of area pairs) ≡ christening area (map pair_of pairs)
      unfolding christening
      given r = goes_past _ 31 0 _ _ fits (goes_past _ 17 0 _ _ counts (goes_past _ 18 0 _ _ (ap not r) refl))

-- every mark octet is below 32
weight : (b : Bool) (w : ℕ) → cond b w 0 ≤ w
weight true w = omega arith
weight false w = omega arith

octet_below : (v : Vehicle) → below32 (octet_of v) ≡ octet_of v
octet_below v = omega (arith, weight v.leading 1, weight v.coach 2, weight v.tractive 4, weight v.led 8, weight v.sleeping 16)

pub marks_below : (vs : List Vehicle) → map below32 (map octet_of vs) ≡ map octet_of vs
marks_below [] = refl
marks_below (v ∷ vs) = ap₂ ◌∷◌ (octet_below v) (marks_below vs)
