-- What the contracts of the calls tell: the marks that come out are those described and resolve as the vehicles do, and the answers are settled. Assumes nothing.
use Prim.Native.Nat.{ℕ, ◌<◌}
use native.Mathlib.Omega.{arith}
use mathlib.Core.Path.{◌≡◌, refl, sym, ap, ◌∙◌}
use mathlib.Core.List.{List, map}
use lib.ListN.{length, get_or, take, length-map, get_or-map}
use lib.Seq.{get_or-take}
use Rattle.paper.specs.Octets.{over}
use Rattle.paper.specs.Answer.{Answer, gives, refused, after, map_answer, Sought}
use Rattle.paper.specs.Train.{Vehicle, no_vehicle, resolving}
use Rattle.paper.specs.Christening as paper
use Rattle.paper.proofs.AnswerLaws.{one_answer}
use Rattle.paper.proofs.NumberLaws.{part_over}
use Rattle.paper.proofs.ChristeningLaws.{no_pair, vehicles_length, vehicle_at, consists}
use Rattle.std.specs.Prelude.{Option, Result, Ok}
use Rattle.refusals.specs.declared.Refusal.{Refusal}
use Rattle.refusals.proofs.WrittenLaws.{one_result, sought_told, sought_told_of}
use Rattle.train.specs.declared.Members.{Members}
use Rattle.train.specs.Marks.{vehicle_of, octet_of, resolved_answer}
use Rattle.train.proofs.MarkOctets.{marks_read, marks_back}
use Rattle.records.specs.declared.Level.{Level}
use Rattle.records.specs.declared.Level.TheVariants as L
use Rattle.records.specs.declared.Property.{Property}
use Rattle.records.specs.Records.{level_as, held_as, held_answer, christened_answer, ChristenedAs}

-- ---- the marks that come out

-- an answer that counts n gives a train of n
counted : (a : Answer (List Vehicle)) (n : ℕ) → gives n ≡ map_answer length a → (train : List Vehicle) × ((a ≡ gives train) × (n ≡ length train))
counted (gives train) n e = (train, (refl, cc))
counted (refused m at) n e = let z : ◌≡◌ {A = ℕ} 0 1 = cc in absurd (omega arith)

module _ (area : List ℕ) (pairs : List paper.Pair) (old : List ℕ) (r : Result ℕ Refusal) (n : ℕ) (new : List ℕ)
    (room : length old ≡ 63) (told : ChristenedAs (paper.christening area pairs) old r new) (given : r ≡ Ok n) where
  abbrev Out : Type 0
  Out = (n ≡ length pairs) × (take n new ≡ map octet_of (paper.vehicles_of area pairs))

  -- one octet a pair, those of the vehicles described
  comes_out : Out
  comes_out =
      let w = counted (paper.christening area pairs) n (ap christened_answer (sym given) ∙ told.many) in
      let k = consists area pairs w.0 w.1.0 in
      let marks : List ℕ = map octet_of (paper.vehicles_of area pairs) in
      let whole : w.0 ≡ paper.vehicles_of area pairs = sym k.described in
      let size : n ≡ length pairs = w.1.1 ∙ ap length whole ∙ vehicles_length area pairs in
      let long : length marks ≡ length pairs = length-map (paper.vehicles_of area pairs) octet_of ∙ vehicles_length area pairs in
      let written : Answer (List Vehicle) → List ℕ = λ x. after old (map_answer (λ train. over old 0 (map octet_of train)) x) in
      let e : new ≡ over old 0 marks = told.octets ∙ ap written (w.1.0 ∙ ap gives whole) in
      (size, ap (λ (m : ℕ). take m new) (size ∙ sym long) ∙ ap (take (length marks)) e ∙ part_over old 0 marks (omega (arith, k.most)))

  -- as many vehicles as pairs
  pub many_christened : n ≡ length pairs
  many_christened = comes_out.0

  -- the octets that come out are those of the vehicles described
  pub marks_christened : take n new ≡ map octet_of (paper.vehicles_of area pairs)
  marks_christened = comes_out.1

  -- resolving over the marks that come out is resolving of the vehicles described
  pub resolves_christened : (a : ℕ) (q : Result Members Refusal) → resolved_answer q ≡ resolving (map vehicle_of (take n new)) a
      → resolved_answer q ≡ resolving (paper.vehicles_of area pairs) a
  resolves_christened a q e =
      e ∙ ap (λ (train : List Vehicle). resolving train a) (ap (map vehicle_of) marks_christened ∙ marks_back (paper.vehicles_of area pairs))

  octet_at : (i : ℕ) → i < n → get_or new i 0 ≡ octet_of (paper.described (paper.record_at area i) (get_or pairs i no_pair))
  octet_at i h =
      sym (get_or-take n new i 0 h) ∙ ap (λ (l : List ℕ). get_or l i 0) marks_christened ∙ get_or-map octet_of (paper.vehicles_of area pairs) i no_vehicle
      ∙ ap octet_of (vehicle_at area pairs i (omega (arith, many_christened)))

  -- octet i has each mark exactly where record i and pair i have it
  pub marks_exactly : (i : ℕ) → i < n → vehicle_of (get_or new i 0) ≡ paper.described (paper.record_at area i) (get_or pairs i no_pair)
  marks_exactly i h = ap vehicle_of (octet_at i h) ∙ marks_read _

-- ---- the answers are settled

level_told : paper.Level → Level
level_told paper.gateway = L.Gateway
level_told paper.vehicle = L.Vehicle

level_of : (l : Level) → level_told (level_as l) ≡ l
unfolding level_told
level_of L.Gateway = refl
level_of L.Vehicle = refl

held_told : paper.Held → Property
held_told h = record { level = level_told h.property.level; octet = h.property.octet; bit = h.property.bit; holds = h.holds }

held_of : (row : ℕ) (p : Property) → held_told (held_as row p) ≡ p
unfolding held_told
held_of row p = λ i. record { level = level_of p.level i; octet = p.octet; bit = p.bit; holds = p.holds }

pub one_property : (row : ℕ) (a : Sought paper.Held) (r s : Option Property) → held_answer row r ≡ a → held_answer row s ≡ a → r ≡ s
one_property row = one_answer (held_answer row) (sought_told held_told) (sought_told_of (held_as row) held_told (held_of row))

pub one_christened : (a : Answer (List Vehicle)) (old : List ℕ) (r s : Result ℕ Refusal) (new other : List ℕ)
    → ChristenedAs a old r new → ChristenedAs a old s other → (r ≡ s) × (new ≡ other)
one_christened a old r s new other t u = (one_result (λ n. n) (λ n. n) (λ n. refl) _ r s t.many u.many, t.octets ∙ sym u.octets)
