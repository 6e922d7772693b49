-- What is reached in both lists tells the next pair, and the contract settles the answer. Assumes nothing.
use Prim.Native.Nat.{ℕ, ◌≤◌, ◌<◌, min}
use mathlib.Core.Path.{◌≡◌, refl, ap₂, ◌∙◌}
use mathlib.Core.Bool.{Bool, true, false, cond, ◌||◌, or-true}
use native.Mathlib.Decide.{ℕ_discrete}
use native.Mathlib.Omega.{arith}
use lib.Dec.{eqb}
use borrow.Author.Tests.{lt-ltb, le-ltb}
use Rattle.paper.specs.First.{next}
use Rattle.paper.specs.SignalList.{OfTwo}
use Rattle.paper.specs.Answer.{Sought, found, nothing}
use Rattle.paper.specs.Pairs.{Pair as PaperPair, Keyed, has, index, Rising}
use Rattle.paper.specs.Comparing.{next_in}
use Rattle.paper.proofs.PassingLaws.{next_here, next_past}
use Rattle.paper.proofs.PairLaws.{has_index}
use Rattle.std.specs.Prelude.{Option, Result}
use Rattle.refusals.specs.declared.ListRefused.{ListRefused}
use Rattle.refusals.proofs.WrittenLaws.{one_of_two, sought_told, sought_told_of}
use Rattle.finding.specs.declared.Reached.{Reached}
use Rattle.finding.specs.Finding.{Reaches}
use Rattle.finding.proofs.Laws.{reached_there, reached_from, reached_here, reached_none, reached_index}
use Rattle.pairing.specs.declared.Pair.{Pair}
use Rattle.pairing.specs.Pairing.{pair_of, next_of, pairing_answer}

-- ---- one list

module _ (t : Keyed) (top : ℕ) (h : Rising t top) (from : ℕ) (r : Reached) (m : Reaches t top from r) where
  has_reached : r.key < top → has t r.key ≡ true
  has_reached lt = has_index t r.key ∙ lt-ltb (index t r.key) t.count (rw (reached_here t top h from r m lt) (reached_there t top h from r m lt))

  has_before : (q : ℕ) → from ≤ q → q < r.key → has t q ≡ false
  has_before q lo hi = has_index t q ∙ le-ltb (index t q) t.count (omega (arith, reached_none t top h from r m q lo hi))

-- ---- two of them: the lesser of the two keys is the next

module _ (t u : Keyed) (top : ℕ) (ht : Rising t top) (hu : Rising u top) (from : ℕ) (g h : Reached)
    (mg : Reaches t top from g) (mh : Reaches u top from h) (key : ℕ) (is : key ≡ min g.key h.key) where
  abbrev in_one : ℕ → Bool
  in_one q = has t q || has u q

  abbrev pair_at_lem : ℕ → PaperPair
  pair_at_lem q = record { key = q; first = index t q; second = index u q }

  none_before : (q : ℕ) → from ≤ q → q < key → in_one q ≡ false
  none_before q lo hi = rw (has_before _ _ ht _ _ mg q lo (omega arith)) (has_before _ _ hu _ _ mh q lo (omega arith))

  pub next_end : top ≤ key → nothing ≡ next_in in_one top pair_at_lem from
  next_end ge =
      let past = next_past in_one top from (λ q lo hi. none_before q lo (omega arith)) in
      rw (le-ltb (next in_one top from) top past)

  module _ (lt : key < top) where
    low : from ≤ key
    low = omega (arith, reached_from _ _ ht _ _ mg, reached_from _ _ hu _ _ mh)

    one_here : in_one key ≡ true
    one_here =
        elim (ℕ_discrete key g.key) [
          | yes e ↦ rw (e, has_reached _ _ ht _ _ mg (omega arith))
          | no ne ↦ let e : key ≡ h.key = omega arith in rw (e, has_reached _ _ hu _ _ mh (omega arith), or-true)
        ]

    pub next_is : (first second : ℕ) → first ≡ cond (eqb g.key key) g.at t.count → second ≡ cond (eqb h.key key) h.at u.count
        → found (record { key = key; first = first; second = second }) ≡ next_in in_one top pair_at_lem from
    next_is first second f s =
        let e : next in_one top from ≡ key = next_here in_one top from key low lt none_before one_here in
        rw (e, lt-ltb key top lt)
        (ap₂ (λ (i j : ℕ). found (record { key = key; first = i; second = j }))
        (f ∙ reached_index _ _ ht _ _ mg key low (omega arith) lt) (s ∙ reached_index _ _ hu _ _ mh key low (omega arith) lt))

-- ---- the contract settles the answer

pub one_pairing : (a : OfTwo (Sought PaperPair)) (v w : Result (Option Pair) ListRefused) → pairing_answer v ≡ a → pairing_answer w ≡ a → v ≡ w
one_pairing = one_of_two next_of (sought_told back) (sought_told_of pair_of back (λ p. refl))
  where
    back : PaperPair → Pair
    back p = record { key = p.key; first = p.first; second = p.second }
