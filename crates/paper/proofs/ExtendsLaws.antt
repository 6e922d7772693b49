-- What "B extends A" says of two accepted lists, and that extending is an order. Assumes nothing.
use Prim.Native.Nat.{ℕ, ◌-◌, ◌^◌, ◌≤◌, ◌<◌}
use mathlib.Core.Path.{◌≡◌, refl, sym, ap, ◌∙◌}
use mathlib.Core.Logic.{◌⊎◌, inl, inr, ⊎_elim}
use mathlib.Core.Bool.{Bool, true, false, not, ◌||◌, or-true}
use mathlib.Core.List.{List}
use native.Mathlib.Omega.{arith}
use borrow.Author.Tests.{ltb-true, eqb-true, eq-eqb, lt-ltb}
use Rattle.paper.specs.Answer.{gives}
use Rattle.paper.specs.First.{some}
use Rattle.paper.specs.SignalList.{Signal, SignalList, Counts, greatest_since, judge, list_of, version, knows, of_both, first_refused, second_refused}
use Rattle.paper.specs.Extends.{same, codes_kept, keeps, stands, newer, extends, extends_lists, Agree, Keeps, Extended, Related}
use Rattle.paper.proofs.AnswerLaws.{gives_one, by_both}
use Rattle.paper.proofs.FirstLaws.{all_at, all_true, some_at, some_true, greatest_least, greatest_at, greatest_most}
use Rattle.bools.proofs.Tests.{both, either, other}
use Rattle.paper.specs.Accepted.{Kept}
use Rattle.paper.proofs.ListLaws.{one_place}

pub agree_itself : (a : SignalList) (i : ℕ) → Agree a a i i
agree_itself a i = record { type = refl; start = refl; width = refl; place = refl; since = refl }

pub agree_back : (a b : SignalList) (i j : ℕ) → Agree a b i j → Agree b a j i
agree_back a b i j h = record { type = sym h.type; start = sym h.start; width = sym h.width; place = sym h.place; since = sym h.since }

pub same_of : (s t : Signal) → same s t ≡ true → (s.type ≡ t.type) × (s.start ≡ t.start)
same_of s t e = let p = both _ _ e in (eqb-true _ _ p.0, eqb-true _ _ p.1)

pub same_true : (s t : Signal) → s.type ≡ t.type → s.start ≡ t.start → same s t ≡ true
same_true s t e f = simp (eq-eqb _ _ e, eq-eqb _ _ f)

pub keeps_of : (a b : SignalList) (i j : ℕ) → keeps a b i j ≡ true → Keeps a b i j
unfolding keeps codes_kept
keeps_of a b i j e =
    let p = both _ _ e in
    let q = both _ _ p.0 in
    let r = both _ _ q.0 in
    let s = both _ _ r.0 in
    let t = same_of (a.signal i) (b.signal j) s.0 in
    record {
      agrees = record { type = t.0; start = t.1; width = eqb-true _ _ s.1; place = eqb-true _ _ r.1; since = eqb-true _ _ q.1 };
      codes = λ c lt k. other _ _ (all_at (λ c. not (knows a i c) || knows b j c) (2 ^ (a.signal i).width) p.1 c lt) (ap not k);
    }

pub keeps_true : (a b : SignalList) (i j : ℕ) → Keeps a b i j → keeps a b i j ≡ true
unfolding keeps codes_kept
keeps_true a b i j h =
    let g = h.agrees in
    simp (same_true (a.signal i) (b.signal j) g.type g.start, eq-eqb _ _ g.width, eq-eqb _ _ g.place, eq-eqb _ _ g.since)
    (all_true (λ c. not (knows a i c) || knows b j c) (2 ^ (a.signal i).width) (λ c lt. by (knows a i c) (knows b j c) (h.codes c lt)))
  where
    by : (x y : Bool) → (x ≡ true → y ≡ true) → (not x || y) ≡ true
    by true y k = k refl
    by false y k = refl

pub extended : (a b : SignalList) → extends a b ≡ true → Extended a b
unfolding extends stands newer
extended a b e =
    let p = both _ _ e in
    record {
      stands_in = λ i lt.
          let w = some_at (keeps a b i) b.signals (all_at (stands a b) a.signals p.0 i lt) in
          (w.0, (w.1.0, keeps_of a b i w.0 w.1.1));
      newer_than = λ j lt.
          ⊎_elim (λ s. inl (some_at (λ i. same (a.signal i) (b.signal j)) a.signals s)) (λ s. inr (ltb-true _ _ s))
          (either _ _ (all_at (newer a b) b.signals p.1 j lt));
    }

-- then a signal that both have, by type and start, is the same in all that must not change, whichever extends the other
pub agree : (a b : SignalList) → Kept a → Kept b → Related a b → (i j : ℕ) → i < a.signals → j < b.signals
    → (a.signal i).type ≡ (b.signal j).type → (a.signal i).start ≡ (b.signal j).start → Agree a b i j
agree a b ha hb (inl e) i j hi hj t s =
    let w = (extended a b e).stands_in i hi in
    let g = w.1.1.agrees in
    let q : w.0 ≡ j = one_place b hb w.0 j w.1.0 hj (sym g.type ∙ t) (sym g.start ∙ s) in
    rw q at g
agree a b ha hb (inr e) i j hi hj t s =
    let w = (extended b a e).stands_in j hj in
    let g = w.1.1.agrees in
    let q : w.0 ≡ i = one_place a ha w.0 i w.1.0 hi (sym g.type ∙ sym t) (sym g.start ∙ sym s) in
    agree_back b a j i (rw q at g)

-- and one that only the second has is newer than every telegram of the first
pub only_newer : (a b : SignalList) → Related a b → (j : ℕ) → j < b.signals
    → ((i : ℕ) → i < a.signals → same (a.signal i) (b.signal j) ≡ true → ⊥) → version a < (b.signal j).since
only_newer a b (inl e) j hj none = ⊎_elim (λ w. absurd (none w.0 w.1.0 w.1.1)) (λ lt. lt) ((extended a b e).newer_than j hj)
only_newer a b (inr e) j hj none =
    let w = (extended b a e).stands_in j hj in
    let g = w.1.1.agrees in
    absurd (none w.0 w.1.0 (same_true (a.signal w.0) (b.signal j) (sym g.type) (sym g.start)))

-- ---- what the answer of a call on two lists tells

-- a yes: both lists are accepted, and the second extends the first
pub record ExtendsYes (form : ℕ) (xs : List ℕ) (form' : ℕ) (ys : List ℕ) : Type 0 where
  pub first : Counts
  pub second : Counts
  pub first_accepted : judge form xs ≡ gives first
  pub second_accepted : judge form' ys ≡ gives second
  pub yes : extends (list_of xs first) (list_of ys second) ≡ true

pub extends_yes : (form : ℕ) (xs : List ℕ) (form' : ℕ) (ys : List ℕ) → extends_lists form xs form' ys ≡ of_both true → ExtendsYes form xs form' ys
unfolding extends_lists
extends_yes form xs form' ys e =
    let a = by_both (judge form xs) first_refused _ true (λ n at q. let z : ◌≡◌ {A = ℕ} 0 1 = cc in omega arith) e in
    let b = by_both (judge form' ys) second_refused _ true (λ n at q. let z : ◌≡◌ {A = ℕ} 0 1 = cc in omega arith) a.1.1 in
    record { first = a.0; second = b.0; first_accepted = a.1.0; second_accepted = b.1.0; yes = cc b.1.1 }

-- so whichever of the two writes and whichever reads, they are related
pub yes_related : (form : ℕ) (xs : List ℕ) (form' : ℕ) (ys : List ℕ) → extends_lists form xs form' ys ≡ of_both true → (m n : Counts) → judge form xs ≡ gives m → judge form' ys ≡ gives n
    → (Related (list_of xs m) (list_of ys n)) × (Related (list_of ys n) (list_of xs m))
yes_related form xs form' ys e m n first second =
    let h = extends_yes form xs form' ys e in
    let p : h.first ≡ m = gives_one (judge form xs) h.first m h.first_accepted first in
    let q : h.second ≡ n = gives_one (judge form' ys) h.second n h.second_accepted second in
    let y : extends (list_of xs m) (list_of ys n) ≡ true = rw (p, q) at h.yes in
    (inl y, inr y)

-- ---- extending is an order

-- how it is shown
pub extends_true : (a b : SignalList) → Extended a b → extends a b ≡ true
unfolding extends stands newer
extends_true a b h =
    simp (all_true (stands a b) a.signals (λ i lt.
    let w = h.stands_in i lt in
    some_true (keeps a b i) b.signals w.0 w.1.0 (keeps_true a b i w.0 w.1.1)))
    (all_true (newer a b) b.signals (λ j lt.
    ⊎_elim (λ w. simp (some_true (λ i. same (a.signal i) (b.signal j)) a.signals w.0 w.1.0 w.1.1))
    (λ v. simp (lt-ltb (version a) (b.signal j).since v) (or-true (some (λ i. same (a.signal i) (b.signal j)) a.signals))) (h.newer_than j lt)))

pub extends_itself : (a : SignalList) → extends a a ≡ true
extends_itself a =
    extends_true a a
    (record {
      stands_in = λ i lt. (i, (lt, record { agrees = agree_itself a i; codes = λ c _ k. k }));
      newer_than = λ j lt. inl (j, (lt, same_true (a.signal j) (a.signal j) refl refl));
    })

agree_then : (a b c : SignalList) (i j k : ℕ) → Agree a b i j → Agree b c j k → Agree a c i k
agree_then a b c i j k p q =
    record { type = p.type ∙ q.type; start = p.start ∙ q.start; width = p.width ∙ q.width; place = p.place ∙ q.place; since = p.since ∙ q.since }

-- a list that is extended has no greater version
pub version_rises : (a b : SignalList) → extends a b ≡ true → version a ≤ version b
unfolding version greatest_since
version_rises a b e =
    greatest_most 1 (λ k. (a.signal k).since) a.signals (version b) (greatest_least 1 (λ k. (b.signal k).since) b.signals) (λ i lt.
    let w = (extended a b e).stands_in i lt in
    rw w.1.1.agrees.since (greatest_at 1 (λ k. (b.signal k).since) b.signals w.0 w.1.0))

pub extends_then : (a b c : SignalList) → Kept c → extends a b ≡ true → extends b c ≡ true → extends a c ≡ true
extends_then a b c hc e f =
    let p = extended a b e in
    let q = extended b c f in
    extends_true a c
    (record {
      stands_in = λ i lt.
          let x = p.stands_in i lt in
          let y = q.stands_in x.0 x.1.0 in (
            y.0,
            (
              y.1.0,
              record {
                agrees = agree_then a b c i x.0 y.0 x.1.1.agrees y.1.1.agrees;
                codes = λ d small k. y.1.1.codes d (rw x.1.1.agrees.width at small) (x.1.1.codes d small k);
              },
            ),
          );
      newer_than = λ j lt.
          ⊎_elim
          (λ x. let s = same_of (b.signal x.0) (c.signal j) x.1.1 in
          ⊎_elim
          (λ y. let t = same_of (a.signal y.0) (b.signal x.0) y.1.1 in
          inl (y.0, (y.1.0, same_true (a.signal y.0) (c.signal j) (t.0 ∙ s.0) (t.1 ∙ s.1))))
          (λ y.
          let z = q.stands_in x.0 x.1.0 in
          let g = z.1.1.agrees in
          let o : z.0 ≡ j = one_place c hc z.0 j z.1.0 lt (sym g.type ∙ s.0) (sym g.start ∙ s.1) in
          inr (rw o at (rw g.since at y)))
          (p.newer_than x.0 x.1.0))
          (λ x. inr (omega (arith, version_rises a b e)))
          (q.newer_than j lt);
    })
