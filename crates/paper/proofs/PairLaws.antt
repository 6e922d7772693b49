-- Signals by type and start: that the keys of an accepted list rise, so that a search finds a signal exactly, and what the pairs of two lists hold.
-- Assumes nothing.
use Prim.Native.Nat.{ℕ, suc, ◌+◌, ◌-◌, ◌≤◌, ◌<◌}
use mathlib.Core.Path.{◌≡◌, refl, sym, ap, subst, ◌∙◌}
use mathlib.Core.Logic.{◌⊎◌, inl, inr, ⊎_elim, ◌↔◌}
use mathlib.Core.Bool.{Bool, true, false, not, cond, ◌&&◌, or-true}
use mathlib.Core.List.Memᴰ
use mathlib.Core.List.{List, [], ◌∷◌, map, Memᴰ}
use native.Mathlib.Decide.{dec_lt, ℕ_discrete}
use native.Mathlib.Omega.{arith}
use lib.ListN.{length, get_or, length-map, get_or-map}
use lib.Dec.{ltb, eqb}
use borrow.Author.Tests.{ltb-true, ltb-false, lt-ltb, le-ltb, eqb-true, eq-eqb, ne_eqb}
use Rattle.paper.specs.First.{first_bad, all, some, passing, next}
use Rattle.paper.specs.Search.{Rises}
use Rattle.paper.specs.SignalList.{SignalList, of_both, first_refused, second_refused, judge, list_of}
use Rattle.paper.specs.Accepted.{Kept}
use Rattle.paper.specs.Answer.{Sought, found, nothing}
use Rattle.paper.specs.Pairs.{signal_found, Keyed, has, index, signal_key, signal_keys, signals_of, Pair, pair_at, in_either, pairs, next_pair, pairing, Rising, Once, pairs_from}
use Rattle.bools.proofs.Tests.{both, either}
use Rattle.paper.proofs.AnswerLaws.{by_both}
use Rattle.paper.proofs.FirstLaws.{first_most, first_none, finds_exactly}
use Rattle.paper.proofs.PassingLaws.{next_some, next_none, next_least, passing_exactly, passing_rises}
use Rattle.paper.proofs.ListLaws.{types_rise, fields_rise, one_place}

-- ---- the keys of an accepted list

module _ (l : SignalList) (h : Kept l) where
  pub start_small : (k : ℕ) → k < l.signals → (l.signal k).start < 1024
  start_small k lt =
      elim (ℕ_discrete (l.signal k).type 0) [
        | yes e ↦ omega (arith, ((h.signal k lt).placed.common e).1, (h.signal k lt).some)
        | no ne ↦ omega (arith, ((h.signal k lt).placed.own ne).1, (h.signal k lt).some)
      ]

  -- they rise in order of type and start
  pub signals_rise : Rising (signals_of l) signal_keys
  signals_rise = record {
    rise = λ i j lt hj.
        let z : i + suc (j - suc i) ≡ j = omega arith in
        let t = rw z at (types_rise l h (suc (j - suc i)) i (rw z hj)) in
        elim (dec_lt (l.signal i).type (l.signal j).type) [
          | yes less ↦ omega (arith, start_small i (omega arith))
          | no ge ↦
              let e : (l.signal i).type ≡ (l.signal j).type = omega arith in
              omega (arith, rw z at (fields_rise l h (j - suc i) i (rw z hj) (rw z e)), (h.signal i (omega arith)).some)
        ];
    small = λ k lt. omega (arith, start_small k lt, (h.signal k lt).typed);
  }

  -- a signal is found exactly by its type and start
  pub found_exactly : (type start k : ℕ)
      → ((k < l.signals) × ((l.signal k).type ≡ type) × ((l.signal k).start ≡ start)) ↔ ((signal_found l type start ≡ k) × (k < l.signals))
  unfolding signal_found
  found_exactly type start k = (
    λ g. found.0 (g.0, simp (eq-eqb _ _ g.1, eq-eqb _ _ g.2)),
    λ g. let w = found.1 g in let e = at k w.1 in (w.0, e.0, e.1),
  )
    where
      test : ℕ → Bool
      test k = eqb (l.signal k).type type && eqb (l.signal k).start start

      at : (k : ℕ) → test k ≡ true → ((l.signal k).type ≡ type) × ((l.signal k).start ≡ start)
      at k e = let p = both _ _ e in (eqb-true _ _ p.0, eqb-true _ _ p.1)

      found : ((k < l.signals) × (test k ≡ true)) ↔ ((first_bad (λ j. not (test j)) l.signals ≡ k) × (k < l.signals))
      found =
          finds_exactly test l.signals
          (λ i j hi hj e f. let p = at i e in let q = at j f in one_place l h i j hi hj (p.0 ∙ sym q.0) (p.1 ∙ sym q.1)) k

-- of two signals, of one list or of two: their keys are in order of type and start, and a key is one type and one start
module _ (a b : SignalList) (ha : Kept a) (hb : Kept b) (i j : ℕ) (hi : i < a.signals) (hj : j < b.signals) where
  pub key_order : (signal_key (a.signal i) < signal_key (b.signal j))
      ↔ (((a.signal i).type < (b.signal j).type) ⊎ (((a.signal i).type ≡ (b.signal j).type) × ((a.signal i).start < (b.signal j).start)))
  key_order =
      let s = start_small a ha i hi in
      let t = start_small b hb j hj in (
        λ lt. elim (dec_lt (a.signal i).type (b.signal j).type) [
          | yes less ↦ inl less
          | no ge ↦ inr (omega arith, omega arith)
        ],
        ⊎_elim (λ lt. omega arith) (λ e. omega (arith, e.0, e.1)),
      )

  pub same_key : signal_key (a.signal i) ≡ signal_key (b.signal j) → ((a.signal i).type ≡ (b.signal j).type) × ((a.signal i).start ≡ (b.signal j).start)
  same_key e =
      let s = start_small a ha i hi in
      let t = start_small b hb j hj in
      (omega arith, omega arith)

-- ---- entries by their keys

module _ (t : Keyed) (q : ℕ) where
  pub has_index : has t q ≡ ltb (index t q) t.count
  unfolding has index some all
  has_index =
      elim (dec_lt (index t q) t.count) [
        | yes lt ↦ ap not (ne_eqb (index t q) t.count (λ e. omega arith)) ∙ sym (lt-ltb _ _ lt)
        | no ge ↦
            let e : index t q ≡ t.count = omega (arith, first_most (λ k. not (eqb (t.key k) q)) t.count) in
            ap not (eq-eqb _ _ e) ∙ sym (le-ltb (index t q) t.count (omega arith))
      ]

  -- no entry has the key
  pub index_none : ((k : ℕ) → k < t.count → t.key k ≡ q → ⊥) → index t q ≡ t.count
  unfolding index
  index_none none = first_none (λ k. not (eqb (t.key k) q)) t.count (λ k lt. ap not (ne_eqb _ _ (none k lt)))

  pub index_exactly : Rises t.key t.count → (k : ℕ) → ((k < t.count) × (t.key k ≡ q)) ↔ ((index t q ≡ k) × (k < t.count))
  unfolding index
  index_exactly rise k =
      let w = finds_exactly (λ k. eqb (t.key k) q) t.count one k in
      (λ g. w.0 (g.0, eq-eqb _ _ g.1), λ g. let v = w.1 g in (v.0, eqb-true _ _ v.1))
    where
      one : (i j : ℕ) → i < t.count → j < t.count → eqb (t.key i) q ≡ true → eqb (t.key j) q ≡ true → i ≡ j
      one i j hi hj e f =
          let same : t.key i ≡ t.key j = eqb-true _ _ e ∙ sym (eqb-true _ _ f) in
          elim (ℕ_discrete i j) [
            | yes z ↦ z
            | no ne ↦ elim (dec_lt i j) [
              | yes less ↦ absurd (omega (arith, rise i j less hj))
              | no more ↦ absurd (omega (arith, rise j i (omega arith) hi))
            ]
          ]

-- ---- what the pairs hold

-- one side of them, where `test` passes at each key of the side
module _ (t : Keyed) (top : ℕ) (h : Rising t top) (test : ℕ → Bool) (covers : (q : ℕ) → has t q ≡ true → test q ≡ true)
    (at : ℕ → Pair) (keyed : (q : ℕ) → (at q).key ≡ q) (of : Pair → ℕ) (side : (q : ℕ) → of (at q) ≡ index t q) where
  pub side_once : Once t of (map at (passing test top 0))
  side_once = record {
    there = λ k lt.
        let q = t.key k in
        let i : index t q ≡ k = ((index_exactly t q h.rise k).0 (lt, refl)).0 in
        let has_it : has t q ≡ true = has_index t q ∙ lt-ltb (index t q) t.count (rw i lt) in
        (at q, (Memᴰ.map at ((passing_exactly test top q).1 (h.small k lt, covers q has_it)), side q ∙ i));
    keyed = λ p m lt.
        let w = Memᴰ.of_map at (passing test top 0) m in
        let i : of p ≡ index t w.0 = ap of (sym w.2) ∙ side w.0 in
        ((index_exactly t w.0 h.rise (of p)).1 (sym i, lt)).1 ∙ sym (keyed w.0) ∙ ap (λ (x : Pair). x.key) w.2;
  }

module _ (a b : SignalList) where
  abbrev keys : List ℕ
  keys = passing (in_either a b) signal_keys 0

  -- their keys rise
  pub pairs_rise : Rises (λ i. (get_or (pairs a b) i (pair_at a b 0)).key) (length (pairs a b))
  unfolding pairs
  pairs_rise i j lt hj = omega (arith, key_at_lem i, key_at_lem j, passing_rises (in_either a b) signal_keys 0 i j lt (simp length-map at hj))
    where
      key_at_lem : (i : ℕ) → (get_or (map (pair_at a b) keys) i (pair_at a b 0)).key ≡ get_or keys i 0
      key_at_lem i = ap (λ (p : Pair). p.key) (get_or-map (pair_at a b) keys i 0)

  -- so there is one for each key
  pub pairs_at : (p : Pair) → Memᴰ p (pairs a b) → p ≡ pair_at a b p.key
  unfolding pairs
  pairs_at p m = let w = Memᴰ.of_map (pair_at a b) keys m in sym w.2 ∙ ap (λ (x : Pair). pair_at a b x.key) w.2

  -- one of the two lists at least has the key
  pub pairs_either : (p : Pair) → Memᴰ p (pairs a b) → (p.first < a.signals) ⊎ (p.second < b.signals)
  unfolding pairs
  pairs_either p m =
      let w = Memᴰ.of_map (pair_at a b) keys m in
      let q = w.0 in
      subst (λ (x : Pair). (x.first < a.signals) ⊎ (x.second < b.signals)) w.2
      (⊎_elim (λ e. inl (ltb-true _ _ (sym (has_index (signals_of a) q) ∙ e))) (λ e. inr (ltb-true _ _ (sym (has_index (signals_of b) q) ∙ e)))
      (either (has (signals_of a) q) (has (signals_of b) q) ((passing_exactly (in_either a b) signal_keys q).0 w.1).1))

  module _ (ha : Kept a) (hb : Kept b) where
    -- each signal of either list is in them once
    pub pairs_once : (Once (signals_of a) (λ p. p.first) (pairs a b)) × (Once (signals_of b) (λ p. p.second) (pairs a b))
    unfolding pairs
    pairs_once = (
      side_once (signals_of a) signal_keys (signals_rise a ha) (in_either a b) (λ q e. rw e) (pair_at a b) (λ q. refl) (λ p. p.first) (λ q. refl),
      side_once (signals_of b) signal_keys (signals_rise b hb) (in_either a b) (λ q e. rw (e, or-true)) (pair_at a b) (λ q. refl) (λ p. p.second) (λ q. refl),
    )

    -- signals are paired exactly if type and start agree
    module _ (i j : ℕ) (hi : i < a.signals) (hj : j < b.signals) where
      pub paired_exactly : ((p : Pair) × ((Memᴰ p (pairs a b)) × (p.first ≡ i) × (p.second ≡ j)))
          ↔ (((a.signal i).type ≡ (b.signal j).type) × ((a.signal i).start ≡ (b.signal j).start))
      paired_exactly = (
        λ w.
            let m = w.1.0 in
            let p = pairs_once.0.keyed w.0 m (rw w.1.1 hi) in
            let q = pairs_once.1.keyed w.0 m (rw w.1.2 hj) in
            same_key a b ha hb i j hi hj (rw w.1.1 at p ∙ sym (rw w.1.2 at q)),
        λ e.
            let w = pairs_once.0.there i hi in
            let p = w.0 in
            let m = w.1.0 in
            let k : signal_key (a.signal i) ≡ p.key = rw w.1.1 at (pairs_once.0.keyed p m (rw w.1.1 hi)) in
            let s = (index_exactly (signals_of b) p.key (signals_rise b hb).rise j).0 (hj, omega (arith, e.0, e.1)) in
            (p, (m, w.1.1, ap (λ (x : Pair). x.second) (pairs_at p m) ∙ s.0)),
      )

  -- ---- how a caller meets them: past each answer it goes on with the next

  module _ (from : ℕ) where
    abbrev Met : Sought Pair → Type 0
    Met (found p) = pairs_from a b from ≡ p ∷ pairs_from a b (suc p.key)
    Met nothing = pairs_from a b from ≡ []

    next_met : Met (next_pair a b from)
    unfolding next_pair
    next_met = by (ltb q signal_keys) refl
      where
        q : ℕ
        q = next (in_either a b) signal_keys from

        by : (t : Bool) → ltb q signal_keys ≡ t → Met (cond t (found (pair_at a b q)) nothing)
        by true e = ap (map (pair_at a b)) (next_some (in_either a b) signal_keys from (ltb-true _ _ e))
        by false e = ap (map (pair_at a b)) (next_none (in_either a b) signal_keys from (ltb-false _ _ e))

    pub next_paired : (p : Pair) → next_pair a b from ≡ found p → pairs_from a b from ≡ p ∷ pairs_from a b (suc p.key)
    next_paired p e = subst Met e next_met

    pub next_no_more : next_pair a b from ≡ nothing → pairs_from a b from ≡ []
    next_no_more e = subst Met e next_met

    -- and every answer goes further
    pub next_within : (p : Pair) → next_pair a b from ≡ found p → (from ≤ p.key) × (p.key < signal_keys)
    unfolding next_pair
    next_within p e = by (ltb q signal_keys) refl e
      where
        q : ℕ
        q = next (in_either a b) signal_keys from

        by : (t : Bool) → ltb q signal_keys ≡ t → cond t (found (pair_at a b q)) nothing ≡ found p → (from ≤ p.key) × (p.key < signal_keys)
        by true lt e =
            let is : pair_at a b q ≡ p = cc in
            let k : q ≡ p.key = ap (λ (x : Pair). x.key) is in
            (omega (arith, next_least (in_either a b) signal_keys from), omega (arith, ltb-true q signal_keys lt))
        by false lt e = let z : ◌≡◌ {A = ℕ} 0 1 = cc in absurd (omega arith)

pub pairing_within : (form : ℕ) (xs : List ℕ) (form' : ℕ) (ys : List ℕ) (from : ℕ) (p : Pair) → pairing form xs form' ys from ≡ of_both (found p) → (from ≤ p.key) × (p.key < signal_keys)
unfolding pairing
pairing_within form xs form' ys from p e =
    let a = by_both (judge form xs) first_refused _ (found p) (λ n at q. let z : ◌≡◌ {A = ℕ} 0 1 = cc in omega arith) e in
    let b = by_both (judge form' ys) second_refused _ (found p) (λ n at q. let z : ◌≡◌ {A = ℕ} 0 1 = cc in omega arith) a.1.1 in
    next_within (list_of xs a.0) (list_of ys b.0) from p (cc b.1.1)
