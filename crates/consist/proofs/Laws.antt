-- An octet says what its entry says, and the octets stored one by one are the entries' own: so the answer over the octets is the answer over the entries.
-- Assumes nothing.
use mathlib.Core.Path.{◌≡◌, refl, sym, ap, ap₂, ◌∙◌}
use mathlib.Core.Bool.{◌||◌}
use mathlib.Core.List.{List, [], ◌∷◌, ◌++◌, map, map-append}
use Prim.Native.Nat.{ℕ, ◌+◌, ◌<◌}
use native.Mathlib.Numerals.{add-one}
use native.Mathlib.Omega.{arith}
use borrow.Author.Tests.{lt-ltb, ne_eqb}
use lib.ListN.{length, get_or, set, take, length-map}
use lib.Seq.{take-suc, take-suc-set}
use Rattle.paper.specs.Answer.{refused}
use Rattle.paper.specs.Train as paper
use Rattle.paper.proofs.AnswerLaws.{refuses}
use Rattle.train.specs.declared.Vehicle.{Vehicle}
use Rattle.train.specs.Marks.{vehicle_of}
use Rattle.train.proofs.MarkOctets.{marks_read}
use Rattle.consist.specs.Vehicles.{octet_of, vehicle_as}

pub train_read : (vs : List Vehicle) → map vehicle_of (map octet_of vs) ≡ map vehicle_as vs
train_read [] = refl
train_read (v ∷ vs) = ap₂ ◌∷◌ (marks_read (vehicle_as v)) (train_read vs)

-- one octet more
pub filled_more : (vs : List Vehicle) (octets : List ℕ) (i : ℕ) (none : Vehicle) → i < length vs → i < length octets → take i octets ≡ map octet_of (take i vs)
    → take (i + 1) (set octets i (octet_of (get_or vs i none))) ≡ map octet_of (take (i + 1) vs)
filled_more vs octets i none h l e =
    let v = get_or vs i none in
    rw add-one
    (take-suc-set octets i (octet_of v) l ∙ ap (λ (xs : List ℕ). xs ++ (octet_of v ∷ [])) e
    ∙ sym (ap (map octet_of) (take-suc vs i none h) ∙ map-append octet_of (take i vs) (v ∷ [])))

-- 17
pub long : (vs : List Vehicle) (a : ℕ) → 63 < length vs → refused 17 0 ≡ paper.resolving (map vehicle_as vs) a
unfolding paper.resolving
long vs a h = refuses _ 17 0 _ (rw (length-map vs vehicle_as) (ap₂ ◌||◌ (ne_eqb (length vs) 0 (λ z. omega arith)) (lt-ltb 63 (length vs) h)))
