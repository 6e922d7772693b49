-- `train::resolve` meets its contract: each test is the paper's, in the paper's order. Assumes nothing.
use mathlib.Core.Path.{◌≡◌, refl, sym, ap, ap₂, ◌∙◌}
use mathlib.Core.Bool.{Bool, true, false, not, ◌||◌}
use mathlib.Core.List.{List, map}
use Prim.Native.Nat.{ℕ, ◌≤◌}
use borrow.Author.Tests.{eq-eqb, ne_eqb, lt-ltb, le-ltb}
use lib.Count.{ones}
use lib.Dec.{eqb, ltb}
use lib.ListN.{length}
use Rattle.paper.specs.Answer.{Answer, gives, refuse_if}
use Rattle.paper.specs.Train.{Members, consist_rule, is_address, members_of, resolving}
use Rattle.paper.proofs.AnswerLaws.{refuses, goes_past}
use Rattle.train.specs.Marks.{vehicle_of, set_of}
use Rattle.paper.proofs.SetLaws.{ones_count}
use Rattle.train.proofs.Over.{map_length}
use Rattle.train.proofs.resolve.Goals as goal
use Rattle.train.proofs.resolve.Goals.{then-is_empty-via-then-is_empty, then-is_empty-via-else-is_empty+then-marks-gt63}

-- 17: the number of vehicles
lengths : (marks : List ℕ) (e l : Bool) → eqb (length marks) 0 ≡ e → ltb 63 (length marks) ≡ l
    → (eqb (length (map vehicle_of marks)) 0 || ltb 63 (length (map vehicle_of marks))) ≡ (e || l)
lengths marks e l p q = rw map_length (ap₂ ◌||◌ p q)

fits : (marks : List ℕ) → eqb (length marks) 0 ≡ false → length marks ≤ 63
    → (eqb (length (map vehicle_of marks)) 0 || ltb 63 (length (map vehicle_of marks))) ≡ false
fits marks h k = lengths marks false false h (le-ltb 63 _ k)

-- the members: the ones of the set are the vehicles in it
members : (marks : List ℕ) (a set : ℕ) → set ≡ set_of marks a
    → ◌≡◌ {A = Members} (record { set = set; size = ones set }) (members_of (map vehicle_of marks) a)
unfolding members_of
members marks a set e = rw (e, ones_count)

-- past 17, 18 and 19 the answer is what is left
past : (marks : List ℕ) (a : ℕ) (consist listed : Bool) (x : Answer Members)
    → eqb (length marks) 0 ≡ false
    → length marks ≤ 63
    → consist ≡ consist_rule (map vehicle_of marks)
    → consist ≡ true
    → listed ≡ is_address a
    → listed ≡ true
    → let m = members_of (map vehicle_of marks) a in
    x ≡ refuse_if (eqb m.size 0) 20 0 (gives m)
    → x ≡ resolving (map vehicle_of marks) a
unfolding resolving
past marks a consist listed x h k p np q nq e =
    goes_past _ 17 0 _ _ (fits marks h k) (goes_past _ 18 0 _ _ (ap not (sym p ∙ np)) (goes_past _ 19 0 _ _ (ap not (sym q ∙ nq)) e))

pub returns-then-is_empty : goal.returns-then-is_empty
unfolding resolving
returns-then-is_empty c =
    let marks = c.args.marks.now in
    refuses _ 17 0 _ (elim c.then-is_empty.branch [
      | then-is_empty-via-then-is_empty w ↦ lengths marks true _ (sym c.is_empty.ensures ∙ w.if-is_empty.true) refl
      | then-is_empty-via-else-is_empty+then-marks-gt63 w ↦
          lengths marks false true (sym c.is_empty.ensures ∙ w.if-is_empty.false) (lt-ltb 63 _ w.if-marks-gt63.true)
    ])

pub returns-then-not-consist_ok : goal.returns-then-not-consist_ok
unfolding resolving
returns-then-not-consist_ok c =
    goes_past _ 17 0 _ _ (fits c.args.marks.now (sym c.is_empty.ensures ∙ c.if-is_empty.false) c.if-marks-gt63.false)
    (refuses _ 18 0 _ (ap not (sym c.consist_ok.ensures ∙ c.if-not-consist_ok.true)))

pub returns-then-not-is_address : goal.returns-then-not-is_address
unfolding resolving
returns-then-not-is_address c =
    goes_past _ 17 0 _ _ (fits c.args.marks.now (sym c.is_empty.ensures ∙ c.if-is_empty.false) c.if-marks-gt63.false)
    (goes_past _ 18 0 _ _ (ap not (sym c.consist_ok.ensures ∙ c.if-not-consist_ok.false))
    (refuses _ 19 0 _ (ap not (sym c.is_address.ensures ∙ c.if-not-is_address.true))))

pub returns-then-size-eq0 : goal.returns-then-size-eq0
returns-then-size-eq0 c =
    let m = members c.args.marks.now c.args.address c.set_of-set.result c.set_of-set.ensures in
    past c.args.marks.now c.args.address _ _ _ (sym c.is_empty.ensures ∙ c.if-is_empty.false) c.if-marks-gt63.false c.consist_ok.ensures
    c.if-not-consist_ok.false c.is_address.ensures c.if-not-is_address.false
    (refuses _ 20 0 _ (eq-eqb _ 0 (sym (ap (λ (m : Members). m.size) m) ∙ c.if-size-eq0.true)))

pub returns : goal.returns
returns c =
    let m = members c.args.marks.now c.args.address c.set_of-set.result c.set_of-set.ensures in
    past c.args.marks.now c.args.address _ _ _ (sym c.is_empty.ensures ∙ c.if-is_empty.false) c.if-marks-gt63.false c.consist_ok.ensures
    c.if-not-consist_ok.false c.is_address.ensures c.if-not-is_address.false
    (goes_past _ 20 0 _ _ (ne_eqb _ 0 (λ e. c.if-size-eq0.false (ap (λ (m : Members). m.size) m ∙ e))) (ap gives m))
