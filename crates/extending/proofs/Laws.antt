-- What the order of two accepted lists tells: which signal of one is one of the other, which range holds a code, and which code is lost if none does.
-- Assumes nothing.
use Prim.Native.Nat.{ℕ, ◌+◌, ◌-◌, ◌*◌, ◌^◌, ◌≤◌, ◌<◌, zero-le}
use mathlib.Core.Path.{◌≡◌, refl, sym, ap, ◌∙◌}
use mathlib.Core.Logic.{◌⊎◌, inl, inr}
use mathlib.Core.Bool.{Bool, true, false, not, ◌&&◌, ◌||◌, and-false, or-true}
use mathlib.Core.List.{List}
use native.Mathlib.Decide.{dec_lt, ℕ_discrete}
use native.Mathlib.Omega.{arith}
use lib.Dec.{ltb, leb, eqb}
use lib.Pow.{pow_pos}
use borrow.Author.Count.{below_none, below_more}
use borrow.Author.Tests.{ltb-false, leb-true, eqb-true, lt-ltb, le-ltb, le-leb, lt-leb, eq-eqb, ne_eqb, not-false}
use Rattle.paper.specs.Answer.{gives}
use Rattle.paper.specs.First.{first_bad, all, some}
use Rattle.paper.specs.SignalList.{Signal, Code, SignalList, Counts, judge, list_of, OfTwo, version, place_of, has_codes, in_range, known_in, knows}
use Rattle.paper.specs.Extends.{same, codes_kept, keeps, stands, newer, extends, extends_lists, Related}
use Rattle.paper.proofs.ListLaws.{version_here}
use Rattle.paper.proofs.FirstLaws.{first_fails, all_true, all_false, not_all, all_at, some_true, some_false, some_at}
use Rattle.bools.proofs.Tests.{both, neither, other}
use Rattle.paper.specs.Accepted.{Kept}
use Rattle.paper.specs.Pairs.{signal_key, signal_keys}
use Rattle.paper.proofs.PairLaws.{signals_rise}
use Rattle.paper.proofs.ExtendsLaws.{same_of, same_true, keeps_of, yes_related}
use Rattle.paper.specs.Search.{Cut}
use Rattle.std.specs.Prelude.{Result, Ok}
use Rattle.refusals.specs.declared.ListRefused.{ListRefused}
use Rattle.refusals.proofs.WrittenLaws.{one_of_two}
use Rattle.known.specs.Known.{Ordered, code_keys, Own}
use Rattle.known.proofs.Laws.{ordered_of, in_range_lem, in_none, is_within, cut_signal, reaches, outside}
use Rattle.lists.specs.declared.accepted.AcceptedList.{AcceptedList}
use Rattle.lists.specs.Listed.{list_as}
use Rattle.finding.proofs.Laws.{kept_as}
use Rattle.extending.specs.Extending.{extends_answer, Newer, range_kept, entry_kept, ranges_kept, agreed}

-- ---- the ranges of a signal

-- the entry that holds a code
in_which : (codes : ℕ) (code : ℕ → Code) (k c : ℕ) → in_range codes code k c ≡ true
    → (e : ℕ) × ((e < codes) × ((code e).signal ≡ k) × ((code e).low ≤ c) × (c ≤ (code e).high))
unfolding in_range
in_which codes code k c t =
    let w = some_at (λ e. eqb (code e).signal k && leb (code e).low c && leb c (code e).high) codes t in
    let p = both _ _ w.1.1 in
    let q = both _ _ p.0 in
    (w.0, (w.1.0, eqb-true _ _ q.0, leb-true _ _ q.1, leb-true _ _ p.1))

module _ (l : SignalList) (k low high : ℕ) where
  abbrev held : ℕ → Bool
  held c = ltb c low || in_range l.codes l.code k c

  range_held : ((c : ℕ) → low ≤ c → c ≤ high → in_range l.codes l.code k c ≡ true) → range_kept l k low high ≡ true
  unfolding range_kept
  range_held whole = all_true held (high + 1) (λ c lt. by c lt (dec_lt c low))
    where
      by : (c : ℕ) → c < high + 1 → Dec (c < low) → held c ≡ true
      by c lt (yes less) = simp (lt-ltb _ _ less)
      by c lt (no ge) = simp (whole c (omega arith) (omega arith)) (or-true (ltb c low))

  range_lost : (c : ℕ) → low ≤ c → c ≤ high → in_range l.codes l.code k c ≡ false → range_kept l k low high ≡ false
  unfolding range_kept
  range_lost c lo hi e = all_false held (high + 1) c (omega arith) (simp (le-ltb _ _ lo, e))

  range_at_lem : range_kept l k low high ≡ true → (c : ℕ) → low ≤ c → c ≤ high → in_range l.codes l.code k c ≡ true
  unfolding range_kept
  range_at_lem t c lo hi = other _ _ (all_at held (high + 1) t c (omega arith)) (le-ltb _ _ lo)

-- ---- what the first entry that does not end below a range tells

module _ (l : SignalList) (h : Kept l) (k from to low high e : ℕ) (own : Own l.codes l.code k from to) (le : low ≤ high)
    (cut : Cut (code_keys l.code) l.codes (k * 65536 + low) e) where
  ordered : Ordered l.codes l.code
  ordered = ordered_of l h

  pub range_none : to ≤ e → false ≡ range_kept l k low high
  range_none out =
      sym (range_lost l k low high low (omega arith) le
      (in_none l.codes l.code k low
      (λ g lt q. let w = is_within l.codes l.code ordered k from to own g lt q in inr (omega (arith, cut.below g (omega (arith, w.1)))))))

  -- one range holds them all, or a code is lost: low itself, or the one past the range that holds low
  pub range_found : e < to → (leb (l.code e).low low && leb high (l.code e).high) ≡ range_kept l k low high
  range_found lt =
      elim (dec_lt low (l.code e).low) [
        | yes less ↦ simp (lt-leb _ _ less) (sym (lost low (omega arith) le (inl less) (omega (arith, reach))))
        | no holds ↦ elim (dec_lt (l.code e).high high) [
          | yes more ↦ simp (lt-leb _ _ more, and-false) (sym (lost ((l.code e).high + 1) (omega (arith, reach)) (omega arith) (inr (omega arith)) (omega arith)))
          | no whole ↦
              let lo : (l.code e).low ≤ low = omega arith in
              let hi : high ≤ (l.code e).high = omega arith in
              simp (le-leb _ _ lo, le-leb _ _ hi)
              (sym (range_held l k low high
              (λ c a b. in_range_lem l.codes l.code k c e (omega (arith, own.most)) (cut_signal l.codes l.code ordered k from to own low e cut lt) (omega arith) (omega arith))))
        ]
      ]
    where
      reach : low ≤ (l.code e).high
      reach = reaches l.codes l.code ordered k from to own low e cut lt

      lost : (c : ℕ) → low ≤ c → c ≤ high → (c < (l.code e).low) ⊎ ((l.code e).high < c) → c < (l.code e).high + 2 → range_kept l k low high ≡ false
      lost c lo hi here near = range_lost l k low high c lo hi (outside l.codes l.code ordered k from to own low e cut lt c lo here near)

-- ---- both lists at once

same_key : (s t : Signal) → same s t ≡ true → signal_key s ≡ signal_key t
same_key s t e = let q = same_of s t e in omega (arith, q.0, q.1)

-- signals of other keys are not the same
not_same : (s t : Signal) → (signal_key s ≡ signal_key t → ⊥) → same s t ≡ false
not_same s t ne = by (same s t) refl
  where
    by : (b : Bool) → same s t ≡ b → b ≡ false
    by true e = absurd (ne (same_key s t e))
    by false e = refl

-- the signals of A before i stand in B, those of B before j are of A or newer, and all of them come before the next of the other list
pub record Along (a b : SignalList) (i j : ℕ) : Type 0 where
  pub first : i ≤ a.signals
  pub second : j ≤ b.signals
  pub stood : (k : ℕ) → k < i → stands a b k ≡ true
  pub passed : (k : ℕ) → k < j → newer a b k ≡ true
  pub behind : i < a.signals → (k : ℕ) → k < j → signal_key (b.signal k) < signal_key (a.signal i)
  pub ahead : j < b.signals → (k : ℕ) → k < i → signal_key (a.signal k) < signal_key (b.signal j)

module _ (a b : SignalList) (ha : Kept a) (hb : Kept b) (i j : ℕ) (at : Along a b i j) where
  -- past signals that are only in B
  module _ (key r : ℕ) (n : Newer b j key (version a) r) (next : i < a.signals → key ≤ signal_key (a.signal i)) where
    pub along_newer : Along a b i r
    unfolding newer
    along_newer = record {
      first = at.first;
      second = n.most;
      stood = at.stood;
      passed = λ k lt.
          elim (dec_lt k j) [
            | yes less ↦ at.passed k less
            | no ge ↦ simp (lt-ltb _ _ (n.each k (omega arith) lt).1) (or-true (some (λ g. same (a.signal g) (b.signal k)) a.signals))
          ];
      behind = λ hi k lt.
          elim (dec_lt k j) [
            | yes less ↦ at.behind hi k less
            | no ge ↦ omega (arith, (n.each k (omega arith) lt).0, next hi)
          ];
      ahead = λ hr k lt.
          elim (dec_lt j r) [
            | yes less ↦ omega (arith, at.ahead (omega arith) k lt, (signals_rise b hb).rise j r less hr)
            | no ge ↦ let z : j ≡ r = omega (arith, n.from) in rw z at (at.ahead (rw z hr) k lt)
          ];
    }

  -- signal i of A stands nowhere in B
  not_stands : (hi : i < a.signals) → ((k : ℕ) → k < b.signals → keeps a b i k ≡ false) → false ≡ extends a b
  unfolding extends stands
  not_stands hi none = simp (all_false (stands a b) a.signals i hi (some_false (keeps a b i) b.signals none))

  not_kept : (k : ℕ) → (signal_key (a.signal i) ≡ signal_key (b.signal k) → ⊥) → keeps a b i k ≡ false
  unfolding keeps
  not_kept k ne = simp (not_same (a.signal i) (b.signal k) ne)

  -- signal j of B is only in B, and not newer
  not_newer : j < b.signals → ((k : ℕ) → i ≤ k → k < a.signals → signal_key (b.signal j) < signal_key (a.signal k))
      → ltb (version a) (b.signal j).since ≡ false → false ≡ extends a b
  unfolding extends newer
  not_newer hj rest old =
      simp (all_false (newer a b) b.signals j hj (simp (some_false (λ k. same (a.signal k) (b.signal j)) a.signals none, old)), and-false)
    where
      none : (k : ℕ) → k < a.signals → same (a.signal k) (b.signal j) ≡ false
      none k hk =
          elim (dec_lt k i) [
            | yes less ↦ not_same (a.signal k) (b.signal j) (λ q. omega (arith, at.ahead hj k less))
            | no ge ↦ not_same (a.signal k) (b.signal j) (λ q. omega (arith, rest k (omega arith) hk))
          ]

  module _ (hi : i < a.signals) where
    pub stands_nowhere : b.signals ≤ j → false ≡ extends a b
    stands_nowhere le = not_stands hi (λ k lt. not_kept k (λ q. omega (arith, at.behind hi k (omega arith))))

    module _ (hj : j < b.signals) where
      pub along_kept : keeps a b i j ≡ true → Along a b (i + 1) (j + 1)
      unfolding stands newer
      along_kept e =
          let g = (keeps_of a b i j e).agrees in
          let same_ij : same (a.signal i) (b.signal j) ≡ true = same_true (a.signal i) (b.signal j) g.type g.start in
          let key : signal_key (a.signal i) ≡ signal_key (b.signal j) = same_key (a.signal i) (b.signal j) same_ij in
          record {
            first = omega arith;
            second = omega arith;
            stood = below_more _ _ at.stood (some_true (keeps a b i) b.signals j hj e);
            passed = below_more _ _ at.passed (simp (some_true (λ k. same (a.signal k) (b.signal j)) a.signals i hi same_ij));
            behind = λ h k lt.
                elim (dec_lt k j) [
                  | yes less ↦ omega (arith, at.behind hi k less, (signals_rise a ha).rise i (i + 1) (omega arith) h)
                  | no ge ↦ let z : k ≡ j = omega arith in rw z (omega (arith, key, (signals_rise a ha).rise i (i + 1) (omega arith) h))
                ];
            ahead = λ h k lt.
                elim (dec_lt k i) [
                  | yes less ↦ omega (arith, at.ahead hj k less, (signals_rise b hb).rise j (j + 1) (omega arith) h)
                  | no ge ↦ let z : k ≡ i = omega arith in rw z (omega (arith, key, (signals_rise b hb).rise j (j + 1) (omega arith) h))
                ];
          }

      -- where B is stopped at, A's signal is not kept
      pub not_along : (ltb (signal_key (b.signal j)) (signal_key (a.signal i)) && ltb (version a) (b.signal j).since) ≡ false
          → keeps a b i j ≡ false → false ≡ extends a b
      not_along stop e =
          elim (dec_lt (signal_key (b.signal j)) (signal_key (a.signal i))) [
            | yes less ↦ not_newer hj (λ k ge hk. rest k ge hk less) (simp (lt-ltb _ _ less) at stop)
            | no past ↦ not_stands hi (λ k hk. elsewhere k hk past)
          ]
        where
          rest : (k : ℕ) → i ≤ k → k < a.signals → signal_key (b.signal j) < signal_key (a.signal i) → signal_key (b.signal j) < signal_key (a.signal k)
          rest k ge hk less =
              elim (dec_lt i k) [
                | yes lt ↦ omega (arith, (signals_rise a ha).rise i k lt hk)
                | no le ↦ let z : k ≡ i = omega arith in rw z less
              ]

          elsewhere : (k : ℕ) → k < b.signals → (signal_key (b.signal j) < signal_key (a.signal i) → ⊥) → keeps a b i k ≡ false
          elsewhere k hk past =
              elim (dec_lt k j) [
                | yes less ↦ not_kept k (λ q. omega (arith, at.behind hi k less))
                | no ge ↦ elim (ℕ_discrete k j) [
                  | yes z ↦ rw z e
                  | no more ↦ not_kept k (λ q. past (omega (arith, (signals_rise b hb).rise j k (omega arith) hk)))
                ]
              ]

-- past what was found newer, B stands at r
pub record Ahead (a b : SignalList) (i j r : ℕ) : Type 0 where
  pub along : Along a b i r
  pub from : j ≤ r
  pub stops : r < b.signals → (ltb (signal_key (b.signal r)) (signal_key (a.signal i)) && ltb (version a) (b.signal r).since) ≡ false

module _ (a b : AcceptedList) (i j : ℕ) (at : Along (list_as a) (list_as b) i j) where
  pub ahead : (s : Signal) → s ≡ (list_as a).signal i → (key : ℕ) → key ≡ signal_key s → (r : ℕ) → Newer (list_as b) j key a.counts.version r
      → Ahead (list_as a) (list_as b) i j r
  ahead s is key k r n =
      let m = rw (version_here _ _ a.laid) at (rw (k ∙ ap signal_key is) at n) in
      record { along = along_newer _ _ (kept_as a) (kept_as b) i j at _ r m (λ _. omega arith); from = m.from; stops = m.stops }

-- past all of A: the rest of B has to be newer
module _ (a b : SignalList) (ha : Kept a) (hb : Kept b) (i j r : ℕ) (at : Along a b i j) (le : a.signals ≤ i) (n : Newer b j signal_keys (version a) r) where
  end : Along a b i r
  end = along_newer a b ha hb i j at signal_keys r n (λ hi. absurd (omega arith))

  pub all_along : eqb r b.signals ≡ extends a b
  unfolding extends
  all_along =
      elim (ℕ_discrete r b.signals) [
        | yes z ↦
            simp (
              eq-eqb _ _ z,
              all_true (stands a b) a.signals (λ k lt. end.stood k (omega arith)),
              all_true (newer a b) b.signals (λ k lt. end.passed k (omega (arith, z))),
            )
        | no ne ↦ simp (ne_eqb _ _ ne) (stopped (omega (arith, n.most)))
      ]
    where
      stopped : r < b.signals → false ≡ extends a b
      stopped lt = not_newer a b ha hb i r end lt (λ k ge hk. absurd (omega arith)) (simp (lt-ltb _ _ ((signals_rise b hb).small r lt)) at (n.stops lt))

-- ---- the codes of a signal of A that are known under B

-- the code that is lost
range_which : (l : SignalList) (k low high : ℕ) → range_kept l k low high ≡ false
    → (c : ℕ) × ((low ≤ c) × (c ≤ high) × (in_range l.codes l.code k c ≡ false))
unfolding range_kept
range_which l k low high e =
    let c = first_bad (held l k low high) (high + 1) in
    let lt : c < high + 1 = not_all (held l k low high) (high + 1) e in
    let f = neither _ _ (first_fails (held l k low high) (high + 1) lt) in
    (c, (ltb-false _ _ f.0, omega arith, f.1))

module _ (a b : SignalList) (i j : ℕ) where
  abbrev carried : ℕ → Bool
  carried c = not (knows a i c) || knows b j c

  -- B's signal has no entry
  pub kept_all : has_codes b.codes b.code j ≡ false → true ≡ codes_kept a b i j
  unfolding codes_kept knows known_in
  kept_all e = sym (all_true carried (2 ^ (a.signal i).width) (λ c lt. simp e (or-true (not (knows a i c)))))

  module _ (some-b : has_codes b.codes b.code j ≡ true) where
    known_in_lem : (c : ℕ) → knows b j c ≡ in_range b.codes b.code j c
    unfolding knows known_in
    known_in_lem c = simp some-b

    kept_true : ((c : ℕ) → c < 2 ^ (a.signal i).width → knows a i c ≡ true → in_range b.codes b.code j c ≡ true) → true ≡ codes_kept a b i j
    unfolding codes_kept
    kept_true each = sym (all_true carried (2 ^ (a.signal i).width) (λ c lt. by c lt (knows a i c) refl))
      where
        by : (c : ℕ) → c < 2 ^ (a.signal i).width → (x : Bool) → knows a i c ≡ x → (not x || knows b j c) ≡ true
        by c lt false e = refl
        by c lt true e = known_in_lem c ∙ each c lt e

    kept_false : (c : ℕ) → c < 2 ^ (a.signal i).width → knows a i c ≡ true → in_range b.codes b.code j c ≡ false → false ≡ codes_kept a b i j
    unfolding codes_kept
    kept_false c lt e f = sym (all_false carried (2 ^ (a.signal i).width) c lt (simp (e, known_in_lem c, f)))

    -- A's has none: it knows every code
    pub kept_whole : has_codes a.codes a.code i ≡ false → range_kept b j 0 (2 ^ (a.signal i).width - 1) ≡ codes_kept a b i j
    unfolding knows known_in
    kept_whole none-a = by (range_kept b j 0 high) refl
      where
        high : ℕ
        high = 2 ^ (a.signal i).width - 1

        by : (x : Bool) → range_kept b j 0 high ≡ x → x ≡ codes_kept a b i j
        by true e = kept_true (λ c lt _. range_at_lem b j 0 high e c (omega arith) (omega arith))
        by false e =
            let w = range_which b j 0 high e in
            kept_false w.0 (omega (arith, w.1.1, pow_pos (a.signal i).width)) (simp none-a) w.1.2

    -- both have entries
    pub kept_ranges : Kept a → has_codes a.codes a.code i ≡ true → ranges_kept a b i j ≡ codes_kept a b i j
    unfolding ranges_kept knows known_in
    kept_ranges h some-a = by (ranges_kept a b i j) refl
      where
        each : all (entry_kept a b i j) a.codes ≡ true → (c : ℕ) → in_range a.codes a.code i c ≡ true → in_range b.codes b.code j c ≡ true
        each t c k =
            let w = in_which a.codes a.code i c k in
            let e = w.0 in
            let r = other _ _ (all_at (entry_kept a b i j) a.codes t e w.1.0) (ap not (eq-eqb _ _ w.1.1)) in
            range_at_lem b j (a.code e).low (a.code e).high r c w.1.2 w.1.3

        by : (x : Bool) → all (entry_kept a b i j) a.codes ≡ x → x ≡ codes_kept a b i j
        by true t = kept_true (λ c lt k. each t c (other _ _ k (ap not some-a)))
        by false t =
            let e = first_bad (entry_kept a b i j) a.codes in
            let lt : e < a.codes = not_all (entry_kept a b i j) a.codes t in
            let f = neither _ _ (first_fails (entry_kept a b i j) a.codes lt) in
            let q : (a.code e).signal ≡ i = eqb-true _ _ (not-false _ f.0) in
            let w = range_which b j (a.code e).low (a.code e).high f.1 in
            let c = w.0 in
            let small = rw q at (h.code e lt).fits in
            kept_false c (omega (arith, w.1.1))
            (simp (in_range_lem a.codes a.code i c e lt q w.1.0 w.1.1) (or-true (not (has_codes a.codes a.code i)))) w.1.2

-- an entry of A is of the signal exactly if it is one of its entries
module _ (a b : SignalList) (i j from to : ℕ) (own : Own a.codes a.code i from to) where
  other_entry : (g : ℕ) → ((a.code g).signal ≡ i → ⊥) → entry_kept a b i j g ≡ true
  other_entry g ne = simp (ne_eqb _ _ ne)

  pub entry_before : (g : ℕ) → g < from → entry_kept a b i j g ≡ true
  entry_before g lt = other_entry g (λ q. omega (arith, own.before g lt))

  pub entry_past : (g : ℕ) → to ≤ g → g < a.codes → entry_kept a b i j g ≡ true
  entry_past g le lt = other_entry g (λ q. omega (arith, own.after g le lt))

  pub entry_within : (g : ℕ) → from ≤ g → g < to → range_kept b j (a.code g).low (a.code g).high ≡ entry_kept a b i j g
  entry_within g le lt = simp (eq-eqb _ _ (own.within g le lt))

-- signals of A and B, and the places of their checks, as they were read
pub agrees_is : (a b : SignalList) (i j : ℕ) {s t : Signal} {p q : ℕ} {r : Bool} → r ≡ agreed s p t q → s ≡ a.signal i → t ≡ b.signal j
    → p ≡ place_of a s → q ≡ place_of b t → r ≡ agreed (a.signal i) (place_of a (a.signal i)) (b.signal j) (place_of b (b.signal j))
agrees_is a b i j e s-is t-is p-is q-is = rw (← s-is, ← t-is, ← p-is, ← q-is) e

-- ---- a call that answers yes has the premise of demand 3, whichever of the two lists writes

pub answered_yes : (form : ℕ) (xs : List ℕ) (form' : ℕ) (ys : List ℕ) → extends_answer (Ok true) ≡ extends_lists form xs form' ys
    → (m n : Counts) → judge form xs ≡ gives m → judge form' ys ≡ gives n
    → (Related (list_of xs m) (list_of ys n)) × (Related (list_of ys n) (list_of xs m))
answered_yes form xs form' ys e = yes_related form xs form' ys (sym e)

-- ---- the contract settles the answer

pub one_extends : (a : OfTwo Bool) (v w : Result Bool ListRefused) → extends_answer v ≡ a → extends_answer w ≡ a → v ≡ w
one_extends = one_of_two (λ b. b) (λ b. b) (λ b. refl)
