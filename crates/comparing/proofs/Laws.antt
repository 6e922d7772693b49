-- What the parts of a comparison tell: codes by stretches, ranges, entries by key, and that the contracts settle the answers. Assumes nothing.
use Prim.Native.Nat.{ℕ, ◌+◌, ◌-◌, ◌*◌, ◌%◌, ◌^◌, ◌≤◌, ◌<◌, zero-le}
use mathlib.Core.Path.{◌≡◌, refl, sym, ap, subst, ◌∙◌}
use mathlib.Core.Logic.{◌⊎◌, inl, inr}
use mathlib.Core.Bool.{Bool, true, false, not, cond, ◌&&◌, ◌||◌, beq, or-true, false≢true}
use native.Mathlib.Decide.{dec_lt, ℕ_discrete}
use native.Mathlib.Nat.{le_refl}
use native.Mathlib.Omega.{arith}
use lib.Dec.{ltb, leb, eqb}
use lib.Pow.{pow_mono}
use borrow.Author.Tests.{ltb-true, ltb-false, not-true, not-false, lt-ltb, le-ltb, le-leb, lt-leb, eq-eqb, ne_eqb}
use Rattle.paper.specs.Answer.{Sought, found, nothing}
use Rattle.paper.specs.First.{some, next}
use Rattle.paper.specs.Search.{Cut}
use Rattle.paper.specs.Accepted.{Kept}
use Rattle.paper.specs.SignalList.{Signal as PaperSignal, Route, SignalList, has_codes, known_in, knows, place_of, version, OfTwo}
use Rattle.paper.specs.Broken.{broken}
use Rattle.paper.specs.Pairs.{Keyed, Pair, has, index, signal_key, signal_keys, signals_of, Rising, next_pair}
use Rattle.paper.specs.Comparing.{Range as PaperRange, Changed as PaperChanged, starts, past, tells, change_at, differs_in, signal_fields, gained, codes_compared, signal_differs, signal_change, keep_tests, breaks, routes_of, route_keys, route_fields, route_differs, route_change, next_in, next_gained}
use Rattle.bools.proofs.Tests.{neither, other}
use Rattle.paper.proofs.FirstLaws.{is_from, some_true, some_false, some_more}
use Rattle.paper.proofs.PassingLaws.{next_here, next_past, next_least, next_before, next_passes}
use Rattle.paper.proofs.PairLaws.{has_index, index_none}
use Rattle.paper.proofs.ListLaws.{routes_apart}
use Rattle.std.specs.Prelude.{Option, Some, None, Result}
use Rattle.refusals.specs.declared.ListRefused.{ListRefused}
use Rattle.refusals.proofs.WrittenLaws.{one_of_two, sought_told, sought_told_of}
use Rattle.finding.specs.declared.Reached.{Reached}
use Rattle.finding.specs.Finding.{Reaches}
use Rattle.finding.proofs.Laws.{reached_from, reached_index}
use Rattle.known.specs.Known.{code_keys, Own}
use Rattle.known.proofs.Laws.{ordered_of, is_within, has_some, in_range_lem, cut_signal, outside, knows_all, knows_below}
use Rattle.pairing.specs.declared.Pair.{Pair as CodePair}
use Rattle.pairing.specs.Pairing.{pair_of}
use Rattle.comparing.specs.declared.Changed.{Changed}
use Rattle.comparing.specs.declared.Range.{Range}
use Rattle.comparing.specs.Comparing.{Passed, none_passed, one_passed, FirstTold, Next, Fresh, wanted, range_from, numbers_differ, kept_as, added_as, told_of, PairThere, pair_in, paired_in, paired_routes}
use Rattle.comparing.specs.Comparing.{changed_of, range_of, next_changed_of, next_range_of, changes_answer, gained_answer}

-- ---- the codes of a signal, from one on

module _ (l : SignalList) (h : Kept l) (k from to : ℕ) (own : Own l.codes l.code k from to) where
  pub steady_all : from ≡ to → (d : ℕ) → knows l k d ≡ true
  unfolding knows
  steady_all z d = sym (knows_all l.codes l.code (ordered_of l h) k from to own d z)

  module _ (some : from < to) (c e : ℕ) (cut : Cut (code_keys l.code) l.codes (k * 65536 + c) e) where
    pub steady_past : to ≤ e → (d : ℕ) → c ≤ d → knows l k d ≡ false
    unfolding knows
    steady_past ge d le =
        sym (knows_below l.codes l.code (ordered_of l h) k from to own d some (λ g lt q.
        let w = is_within l.codes l.code (ordered_of l h) k from to own g lt q in
        omega (arith, cut.below g (omega (arith, w.1)))))

    pub steady_gap : e < to → (d : ℕ) → c ≤ d → d < (l.code e).low → knows l k d ≡ false
    unfolding knows known_in
    steady_gap lt d le less =
        simp (
          has_some l.codes l.code (ordered_of l h) k from to own some,
          outside l.codes l.code (ordered_of l h) k from to own c e cut lt d le (inl less) (omega (arith, (h.code e (omega (arith, own.most))).range)),
        )

    pub steady_in : e < to → (l.code e).low ≤ c → (d : ℕ) → c ≤ d → d ≤ (l.code e).high → knows l k d ≡ true
    unfolding knows known_in
    steady_in lt low d le hi =
        simp (in_range_lem l.codes l.code k d e (omega (arith, own.most)) (cut_signal l.codes l.code (ordered_of l h) k from to own c e cut lt) (omega arith) hi)
        (or-true (not (has_codes l.codes l.code k)))

-- ---- the first that passes

is_next : (test : ℕ → Bool) (n k r : ℕ) → Next test n k r → next test n k ≡ r
unfolding next
is_next test n k r h =
    is_from (λ q. not (test q)) (n - k) k r h.least (omega (arith, h.least, h.most)) (λ j lo hi. ap not (h.before j lo hi))
    (λ lt. ap not (h.here (omega (arith, h.least))))

-- there is one exactly if the first is one
pub some_next : (test : ℕ → Bool) (n r : ℕ) → Next test n 0 r → ltb r n ≡ some test n
some_next test n r h =
    elim (dec_lt r n) [
      | yes lt ↦ lt-ltb r n lt ∙ sym (some_true test n r lt (h.here lt))
      | no ge ↦ le-ltb r n (omega arith) ∙ sym (some_false test n (λ k lt. h.before k zero-le (omega arith)))
    ]

-- ---- codes gained, where both are known to be known or not

module _ (a b : SignalList) (i j d : ℕ) (p q : Bool) (in-a : knows a i d ≡ p) (in_b : knows b j d ≡ q) where
  gained_is : gained a b i j d ≡ (q && not p)
  unfolding gained
  gained_is = simp (in-a, in_b)

  pub wanted_is : (want : Bool) → wanted a b i j want d ≡ beq (q && not p) want
  wanted_is want = by want (q && not p) gained_is
    where
      by : (want x : Bool) → gained a b i j d ≡ x → wanted a b i j want d ≡ beq x want
      by true true e = e
      by true false e = e
      by false true e = ap not e
      by false false e = ap not e

-- ---- how many codes are compared, by the widths that were read

module _ (a b : SignalList) (i j : ℕ) {v w : ℕ} (in-a : v ≡ (a.signal i).width) (in_b : w ≡ (b.signal j).width) where
  pub compared_unlike : (v ≡ w → ⊥) → (0 ≡ codes_compared a b i j) × (0 ≤ 65536)
  unfolding codes_compared
  compared_unlike ne = (rw (← in-a, ← in_b, ne_eqb v w ne), zero-le)

  pub compared_wide : 16 < v → (0 ≡ codes_compared a b i j) × (0 ≤ 65536)
  unfolding codes_compared
  compared_wide lt =
      elim (ℕ_discrete v w) [
        | yes e ↦ (rw (← in-a, ← in_b, eq-eqb v w e, lt-leb v 16 lt), zero-le)
        | no ne ↦ compared_unlike ne
      ]

  -- 1 shifted by the width
  pub compared_all : v ≡ w → v ≤ 16 → (1 * 2 ^ v % 2 ^ 64 ≡ codes_compared a b i j) × (1 * 2 ^ v % 2 ^ 64 ≤ 65536)
  unfolding codes_compared
  compared_all e le =
      let p : 2 ^ v ≤ 2 ^ 16 = pow_mono le in
      let is : 1 * 2 ^ v % 2 ^ 64 ≡ 2 ^ v = omega (arith, p) in
      (rw (← in-a, ← in_b, eq-eqb v w e, le-leb v 16 le) is, omega (arith, p, is))

-- ---- the next range

module _ (test : ℕ → Bool) (n : ℕ) where
  starts_not : (c : ℕ) → test c ≡ false → starts test c ≡ false
  unfolding starts
  starts_not c e = rw e

  goes_on_lem : (c : ℕ) → 0 < c → test (c - 1) ≡ true → starts test c ≡ false
  unfolding starts
  goes_on_lem c pos e = by (test c)
    where
      by : (b : Bool) → (b && (eqb c 0 || not (test (c - 1)))) ≡ false
      by true = rw (ne_eqb c 0 (λ z. omega arith), e)
      by false = refl

  starts_here : (c : ℕ) → test c ≡ true → (c ≡ 0) ⊎ (test (c - 1) ≡ false) → starts test c ≡ true
  unfolding starts
  starts_here c e (inl z) = rw (e, eq-eqb c 0 z)
  starts_here c e (inr f) = rw (e, f) (or-true (eqb c 0))

  -- from the code before on, the first that doesn't pass
  pub fresh_past : (from r : ℕ) → 0 < from → Next (λ c. not (test c)) n (from - 1) r → Fresh test n from r
  fresh_past from r pos h = record {
    near = omega (arith, h.least);
    most = h.most;
    before = λ c lo hi. goes_on_lem c (omega arith) (not-false (test (c - 1)) (h.before (c - 1) (omega arith) (omega arith)));
    ended = λ lt. inr (not-true (test r) (h.here lt));
  }

  module _ (from at low : ℕ) (f : Fresh test n from at) (h : Next test n at low) where
    none_start : (c : ℕ) → from ≤ c → c < low → starts test c ≡ false
    none_start c lo hi =
        elim (dec_lt c at) [
          | yes lt ↦ f.before c lo lt
          | no ge ↦ starts_not c (h.before c (omega arith) hi)
        ]

    pub range_none : n ≤ low → nothing ≡ range_from test n from
    range_none ge =
        rw (le-ltb (next (starts test) n from) n (next_past (starts test) n from (λ c lo hi. none_start c lo (omega arith))))

    module _ (lt : low < n) where
      begins : (from ≤ low) × ((low ≡ 0) ⊎ (test (low - 1) ≡ false))
      begins = by (f.ended (omega (arith, h.least)))
        where
          by : ((from ≡ 0) × (at ≡ 0)) ⊎ (test at ≡ false) → (from ≤ low) × ((low ≡ 0) ⊎ (test (low - 1) ≡ false))
          by (inl z) =
              elim (ℕ_discrete low 0) [
                | yes e ↦ (omega (arith, z.0), inl e)
                | no ne ↦ (omega (arith, z.0), inr (h.before (low - 1) (omega (arith, z.1)) (omega arith)))
              ]
          by (inr e) =
              let ne : at ≡ low → ⊥ = λ z. false≢true (sym e ∙ ap test z ∙ h.here lt) in
              let less : at < low = omega (arith, h.least) in
              (omega (arith, f.near), inr (h.before (low - 1) (omega arith) (omega arith)))

      pub range_is : (end : ℕ) → Next (λ c. not (test c)) n low end → found (record { low = low; high = end - 1 }) ≡ range_from test n from
      unfolding past
      range_is end g =
          let e : next (starts test) n from ≡ low =
          next_here (starts test) n from low begins.0 lt none_start (starts_here low (h.here lt) begins.1) in
          rw (e, lt-ltb low n lt, is_next (λ c. not (test c)) n low end g)

  pub range_past : (from : ℕ) → n ≤ from → nothing ≡ range_from test n from
  range_past from ge = rw (le-ltb (next (starts test) n from) n (omega (arith, next_least (starts test) n from)))

-- ---- the same of the signals at a key, i and j

module _ (a b : SignalList) (q from : ℕ) {i j : ℕ} (at_a : i ≡ index (signals_of a) q) (at_b : j ≡ index (signals_of b) q) where
  there : (t : Keyed) (k : ℕ) → k ≡ index t q → has t q ≡ not (leb t.count k)
  there t k e =
      has_index t q
      ∙ ap (λ (x : ℕ). ltb x t.count) (sym e)
      ∙ elim (dec_lt k t.count) [
        | yes lt ↦ lt-ltb k t.count lt ∙ sym (ap not (lt-leb t.count k lt))
        | no ge ↦ le-ltb k t.count (omega arith) ∙ sym (ap not (le-leb t.count k (omega arith)))
      ]

  in_both : (x : Bool) → (leb a.signals i || leb b.signals j) ≡ x → (has (signals_of a) q && has (signals_of b) q) ≡ not x
  in_both x e = rw (there (signals_of a) i at_a, there (signals_of b) j at_b) (by (leb a.signals i) (leb b.signals j) e)
    where
      by : (v w : Bool) → (v || w) ≡ x → (not v && not w) ≡ not x
      by true w z = ap not z
      by false w z = ap not z

  pub gained_nowhere : (leb a.signals i || leb b.signals j) ≡ true → nothing ≡ next_gained a b q from
  unfolding next_gained
  gained_nowhere e =
      rw (in_both true e)
      (range_past (gained a b (index (signals_of a) q) (index (signals_of b) q)) 0 from zero-le)

  pub gained_is_next : (leb a.signals i || leb b.signals j) ≡ false → {y : Sought PaperRange}
      → y ≡ range_from (gained a b i j) (codes_compared a b i j) from → y ≡ next_gained a b q from
  unfolding next_gained
  gained_is_next e is = rw (in_both false e, ← at_a, ← at_b) is

-- ---- the next key of two

module _ (t u : Keyed) where
  abbrev in_one : ℕ → Bool
  in_one q = has t q || has u q

  -- p is at the next key from `from` on
  pub record Met (top from : ℕ) (p : Pair) : Type 0 where
    pub least : from ≤ p.key
    pub small : p.key < top
    pub there : PairThere t u p
    pub before : (q : ℕ) → from ≤ q → q < p.key → in_one q ≡ false

  module _ (top from : ℕ) where
    pub met : (p : Pair) → found p ≡ paired_in t u top from → Met top from p
    met p e = by (ltb q top) refl e
      where
        q : ℕ
        q = next in_one top from

        by : (x : Bool) → ltb q top ≡ x → found p ≡ cond x (found (pair_in t u q)) nothing → Met top from p
        by true lt e =
            let z : pair_in t u q ≡ p = cc in
            subst (Met top from) z
            (record {
              least = next_least in_one top from;
              small = ltb-true q top lt;
              there = record { first = refl; second = refl; there = next_passes in_one top from (ltb-true q top lt) };
              before = next_before in_one top from;
            })
        by false lt e = let z : ◌≡◌ {A = ℕ} 0 1 = cc in absurd (omega arith)

    pub met_none : nothing ≡ paired_in t u top from → (q : ℕ) → from ≤ q → q < top → in_one q ≡ false
    met_none e q lo hi = by (ltb (next in_one top from) top) refl e
      where
        by : (x : Bool) → ltb (next in_one top from) top ≡ x → nothing ≡ cond x (found (pair_in t u (next in_one top from))) nothing → in_one q ≡ false
        by true lt e = let z : ◌≡◌ {A = ℕ} 0 1 = cc in absurd (omega arith)
        by false ge e = next_before in_one top from q lo (omega (arith, ltb-false (next in_one top from) top ge))

-- a search for the first at which the test passes stands at `key`
pub record Clear (test : ℕ → Bool) (from key : ℕ) : Type 0 where
  pub least : from ≤ key
  pub each : (q : ℕ) → from ≤ q → q < key → test q ≡ false

-- it goes by the keys of two, past which the test fails
module _ {A : Type 0} (t u : Keyed) (top : ℕ) (test : ℕ → Bool) (none : (q : ℕ) → in_one t u q ≡ false → test q ≡ false)
    (at : ℕ → A) (from key : ℕ) (c : Clear test from key) where
  pub none_told : nothing ≡ paired_in t u top key → nothing ≡ next_in test top at from
  none_told e =
      rw (le-ltb (next test top from) top (next_past test top from (λ q lo hi. elim (dec_lt q key) [
        | yes lt ↦ c.each q lo lt
        | no ge ↦ none q (met_none t u top key e q (omega arith) hi)
      ])))

  module _ (p : Pair) (m : Met t u top key p) where
    before_it : (q : ℕ) → from ≤ q → q < p.key → test q ≡ false
    before_it q lo hi =
        elim (dec_lt q key) [
          | yes lt ↦ c.each q lo lt
          | no ge ↦ none q (m.before q (omega arith) hi)
        ]

    pub told_next : (x : A) → found x ≡ cond (test p.key) (found (at p.key)) nothing → found x ≡ next_in test top at from
    told_next x = by (test p.key) refl
      where
        by : (b : Bool) → test p.key ≡ b → found x ≡ cond b (found (at p.key)) nothing → found x ≡ next_in test top at from
        by true passes is =
            let n : next test top from ≡ p.key = next_here test top from p.key (omega (arith, c.least, m.least)) m.small before_it passes in
            rw (n, lt-ltb p.key top m.small) is
        by false fails is = absurd (cc)

    pub clear_more : nothing ≡ cond (test p.key) (found (at p.key)) nothing → Clear test from (p.key + 1)
    clear_more = by (test p.key) refl
      where
        by : (b : Bool) → test p.key ≡ b → nothing ≡ cond b (found (at p.key)) nothing → Clear test from (p.key + 1)
        by true passes is = absurd (cc)
        by false fails is = record {
          least = omega (arith, c.least, m.least);
          each = λ q lo hi. elim (ℕ_discrete q p.key) [
            | yes z ↦ ap test z ∙ fails
            | no ne ↦ before_it q lo (omega arith)
          ];
        }

-- where the pairs that are met are the next of two, and of each is told what the test says, what is told first is the next at which it passes
pub first_told_is : (t u : Keyed) (top : ℕ) (test : ℕ → Bool) (none : (q : ℕ) → in_one t u q ≡ false → test q ≡ false) (at : ℕ → PaperChanged)
    (meets : ℕ → Option CodePair → Type 0) (tells : CodePair → Option Changed → Type 0) (from : ℕ)
    → ((key : ℕ) (p : CodePair) → meets key (Some p) → found (pair_of p) ≡ paired_in t u top key)
    → ((key : ℕ) → meets key None → nothing ≡ paired_in t u top key)
    → ((p : CodePair) (o : Option Changed) → PairThere t u (pair_of p) → tells p o → next_changed_of o ≡ cond (test p.key) (found (at p.key)) nothing)
    → (r : Option Changed) → FirstTold meets tells from r → next_changed_of r ≡ next_in test top at from
first_told_is t u top test none at meets tells from some_met none_met tell = by
  where
    cleared : (key : ℕ) → Passed meets tells from key → Clear test from key
    cleared key none_passed = record { least = le_refl from; each = λ q lo hi. absurd (omega arith) }
    cleared key (one_passed k p before m d) =
        let w = met t u top k (pair_of p) (some_met k p m) in
        clear_more t u top test none at from k (cleared k before) (pair_of p) w (tell p None w.there d)

    by : (r : Option Changed) → FirstTold meets tells from r → next_changed_of r ≡ next_in test top at from
    by None w = none_told t u top test none at from w.0 (cleared w.0 w.1.0) (none_met w.0 w.1.1)
    by (Some x) w =
        let p = w.1.0 in
        let m = met t u top w.0 (pair_of p) (some_met w.0 p w.1.1.1) in
        told_next t u top test none at from w.0 (cleared w.0 w.1.1.0) (pair_of p) m (changed_of x) (tell p (Some x) m.there w.1.1.2)

module _ (a b : SignalList) (from : ℕ) (p : Pair) where
  pub signal_met : found p ≡ next_pair a b from → Met (signals_of a) (signals_of b) signal_keys from p
  unfolding next_pair
  signal_met = met (signals_of a) (signals_of b) signal_keys from p

  pub route_met : found p ≡ paired_routes a b from → Met (routes_of a) (routes_of b) route_keys from p
  unfolding paired_routes
  route_met = met (routes_of a) (routes_of b) route_keys from p

-- ---- what is told at a key

module _ (t u : Keyed) (p : Pair) (h : PairThere t u p) where
  has_first : p.first < t.count → has t p.key ≡ true
  has_first lt = has_index t p.key ∙ lt-ltb (index t p.key) t.count (omega (arith, h.first))

  has_second : p.second < u.count → has u p.key ≡ true
  has_second lt = has_index u p.key ∙ lt-ltb (index u p.key) u.count (omega (arith, h.second))

  lacks_first : t.count ≤ p.first → has t p.key ≡ false
  lacks_first ge = has_index t p.key ∙ le-ltb (index t p.key) t.count (omega (arith, h.first))

  lacks_second : u.count ≤ p.second → has u p.key ≡ false
  lacks_second ge = has_index u p.key ∙ le-ltb (index u p.key) u.count (omega (arith, h.second))

  -- one of the two has it
  then_second : t.count ≤ p.first → has u p.key ≡ true
  then_second ge = other (has t p.key) (has u p.key) h.there (lacks_first ge)

  pub second_there : t.count ≤ p.first → p.second < u.count
  second_there ge = rw h.second (ltb-true (index u p.key) u.count (sym (has_index u p.key) ∙ then_second ge))

  module _ (differs : ℕ → ℕ → Bool) (breaks : ℕ → ℕ) where
    abbrev told_at : ℕ → Sought PaperChanged
    told_at q =
        cond (tells (change_at t u differs q)) (found (record { key = q; first = index t q; second = index u q; breaks = breaks q })) nothing

    told_is : tells (change_at t u differs p.key) ≡ true → (k : ℕ) → k ≡ breaks p.key → found (told_of p k) ≡ told_at p.key
    told_is e k is = rw (e, ← h.first, ← h.second, ← is)

    module _ (k : ℕ) (is : k ≡ breaks p.key) where
      pub told_second : t.count ≤ p.first → found (told_of p k) ≡ told_at p.key
      unfolding change_at
      told_second ge = told_is (rw (lacks_first ge, then_second ge)) k is

      pub told_first : p.first < t.count → u.count ≤ p.second → found (told_of p k) ≡ told_at p.key
      unfolding change_at
      told_first lt ge = told_is (rw (has_first lt, lacks_second ge)) k is

      pub told_both : p.first < t.count → p.second < u.count → differs p.first p.second ≡ true → found (told_of p k) ≡ told_at p.key
      unfolding change_at
      told_both lt lt' d = told_is (rw (has_first lt, has_second lt', ← h.first, ← h.second, d)) k is

    pub told_nowhere : p.first < t.count → p.second < u.count → differs p.first p.second ≡ false → nothing ≡ told_at p.key
    unfolding change_at
    told_nowhere lt lt' d = rw (has_first lt, has_second lt', ← h.first, ← h.second, d)

-- nothing is told where neither has an entry
neither_tells : (t u : Keyed) (differs : ℕ → ℕ → Bool) (q : ℕ) → in_one t u q ≡ false → tells (change_at t u differs q) ≡ false
unfolding change_at
neither_tells t u differs q e = let w = neither (has t q) (has u q) e in rw (w.0, w.1)

module _ (a b : SignalList) (q : ℕ) where
  pub signal_untold : in_one (signals_of a) (signals_of b) q ≡ false → tells (signal_change a b q) ≡ false
  unfolding signal_change
  signal_untold e = neither_tells (signals_of a) (signals_of b) (signal_differs a b) q e

  pub route_untold : in_one (routes_of a) (routes_of b) q ≡ false → tells (route_change a b q) ≡ false
  unfolding route_change
  route_untold e = neither_tells (routes_of a) (routes_of b) (route_differs a b) q e

-- ---- the rule of extending that a signal breaks

module _ (a b : SignalList) (p : Pair) (h : PairThere (signals_of a) (signals_of b) p) where
  pub breaks_second : a.signals ≤ p.first → {v : ℕ} → v ≡ version a → added_as v (b.signal p.second).since ≡ breaks a b p.key
  unfolding breaks
  breaks_second ge v-is = rw (lacks_first _ _ p h ge, then_second _ _ p h ge, ← h.second, v-is)

  pub breaks_first : p.first < a.signals → b.signals ≤ p.second → 5 ≡ breaks a b p.key
  unfolding breaks
  breaks_first lt ge = rw (has_first _ _ p h lt, lacks_second _ _ p h ge)

  pub breaks_both : p.first < a.signals → p.second < b.signals → broken (keep_tests a b p.first p.second) ≡ breaks a b p.key
  unfolding breaks
  breaks_both lt lt' = rw (has_first _ _ p h lt, has_second _ _ p h lt', ← h.first, ← h.second)

-- ---- the numbers of a signal

module _ (s : PaperSignal) (p : ℕ) (t : PaperSignal) (q : ℕ) (lost : Bool) where
  pub width_broken : (s.width ≡ t.width → ⊥) → 1 ≡ kept_as s p t q lost
  unfolding kept_as
  width_broken ne = rw (ne_eqb s.width t.width ne)

  module _ (wide : s.width ≡ t.width) where
    pub place_broken : (p ≡ q → ⊥) → 2 ≡ kept_as s p t q lost
    unfolding kept_as
    place_broken ne = rw (eq-eqb s.width t.width wide, ne_eqb p q ne)

    module _ (placed : p ≡ q) where
      pub since_broken : (s.since ≡ t.since → ⊥) → 3 ≡ kept_as s p t q lost
      unfolding kept_as
      since_broken ne = rw (eq-eqb s.width t.width wide, eq-eqb p q placed, ne_eqb s.since t.since ne)

      module _ (old : s.since ≡ t.since) where
        pub code_lost : lost ≡ true → 4 ≡ kept_as s p t q lost
        unfolding kept_as
        code_lost e = rw (eq-eqb s.width t.width wide, eq-eqb p q placed, eq-eqb s.since t.since old, e)

        pub none_lost : lost ≡ false → 0 ≡ kept_as s p t q lost
        unfolding kept_as
        none_lost e = rw (eq-eqb s.width t.width wide, eq-eqb p q placed, eq-eqb s.since t.since old, e)

-- tests that are few, one by one
some_two : (ok : ℕ → Bool) → some ok 2 ≡ (ok 0 || ok 1)
some_two ok =
    some_more ok 1
    ∙ ap (λ (x : Bool). x || ok 1)
    (some_more ok 0 ∙ ap (λ (x : Bool). x || ok 0) (some_false ok 0 (λ k lt. absurd (omega arith))))

some_five : (ok : ℕ → Bool) → some ok 5 ≡ (ok 0 || ok 1 || ok 2 || ok 3 || ok 4)
some_five ok =
    some_more ok 4
    ∙ ap (λ (x : Bool). x || ok 4)
    (some_more ok 3 ∙ ap (λ (x : Bool). x || ok 3) (some_more ok 2 ∙ ap (λ (x : Bool). x || ok 2) (some_two ok)))

-- what was read of signal i of A and j of B
module _ (a b : SignalList) (i j : ℕ) {s t : PaperSignal} (s-is : s ≡ a.signal i) (t-is : t ≡ b.signal j)
    {p q : ℕ} (p-is : p ≡ place_of a s) (q-is : q ≡ place_of b t) {top : ℕ} (top-is : top ≡ codes_compared a b i j)
    {gain loss : Bool} (gain-is : gain ≡ some (gained a b i j) top) (loss-is : loss ≡ some (gained b a j i) top) where
  pub differs_is : (numbers_differ s p t q || gain || loss) ≡ signal_differs a b i j
  unfolding signal_differs numbers_differ
  differs_is =
      rw (some_five (differs_in (signal_fields a i) (signal_fields b j)), ← s-is, ← t-is, ← p-is, ← q-is, ← top-is, ← gain-is, ← loss-is)

  pub kept_is : kept_as s p t q loss ≡ broken (keep_tests a b i j)
  unfolding kept_as
  kept_is = rw (← s-is, ← t-is, ← p-is, ← q-is, ← top-is, ← loss-is)

-- of route i of A and j of B, to signals with the keys k and l
module _ (a b : SignalList) (i j : ℕ) {r t : Route} (r-is : r ≡ a.route i) (t-is : t ≡ b.route j)
    {k l : ℕ} (k-is : k ≡ signal_key (a.signal r.signal)) (l-is : l ≡ signal_key (b.signal t.signal)) where
  pub routes_differ_is : (not (eqb r.vehicle t.vehicle) || not (eqb k l)) ≡ route_differs a b i j
  unfolding route_differs
  routes_differ_is = rw (some_two (differs_in (route_fields a i) (route_fields b j)), ← r-is, ← t-is, ← k-is, ← l-is)

-- ---- routes by their destinations

pub routes_rising : (l : SignalList) → Kept l → Rising (routes_of l) route_keys
routes_rising l h =
    record {
      rise = λ i j lt hj. omega (arith, routes_apart l h i j lt hj, wide i (omega arith));
      small = λ k lt. omega (arith, (h.route k lt).ends, wide k lt);
    }
  where
    wide : (k : ℕ) → k < l.routes → 1 ≤ (l.signal (l.route k).signal).width
    wide k lt = (h.signal (l.route k).signal (h.route k lt).exists).some

-- a search from the first on
module _ (t : Keyed) (top : ℕ) (h : Rising t top) (from r : ℕ) (below : (k : ℕ) → k < r → t.key k < from) where
  pub reaches_here : r < t.count → (key : ℕ) → key ≡ t.key r → from ≤ key → Reaches t top from (record { at = r; key = key })
  reaches_here lt key is le =
      record {
        cut = record {
          ordered = le_refl r;
          most = omega arith;
          below = below;
          above = λ k ge hk. elim (ℕ_discrete r k) [
            | yes e ↦ omega (arith, ap t.key e)
            | no ne ↦ omega (arith, h.rise r k (omega arith) hk)
          ];
        };
        here = λ _. is;
        past = λ ge. absurd (omega arith);
      }

-- what was reached from a key on is the entry that has it, if there is one, whatever the key
pub reached_any : (t : Keyed) (top : ℕ) → Rising t top → (q : ℕ) (r : Reached) → Reaches t top q r → cond (eqb r.key q) r.at t.count ≡ index t q
reached_any t top h q r m =
    elim (dec_lt q top) [
      | yes lt ↦ reached_index t top h q r m q (le_refl q) (omega (arith, reached_from t top h q r m)) lt
      | no ge ↦ by (eqb r.key q) (past (omega arith)) ∙ sym (index_none t q (λ k hk e. omega (arith, h.small k hk)))
    ]
  where
    past : top ≤ q → r.at ≡ t.count
    past ge =
        elim (dec_lt r.at t.count) [
          | yes lt ↦ absurd (omega (arith, m.cut.above r.at (le_refl _) lt, h.small r.at lt))
          | no out ↦ omega (arith, m.cut.most)
        ]

    by : (b : Bool) → r.at ≡ t.count → cond b r.at t.count ≡ t.count
    by true e = e
    by false e = refl

-- ---- the contracts settle the answers

pub one_changes : (a : OfTwo (Sought PaperChanged)) (v w : Result (Option Changed) ListRefused) → changes_answer v ≡ a → changes_answer w ≡ a → v ≡ w
one_changes = one_of_two next_changed_of (sought_told back) (sought_told_of changed_of back (λ c. refl))
  where
    back : PaperChanged → Changed
    back c = record { key = c.key; first = c.first; second = c.second; breaks = c.breaks }

pub one_gained : (a : OfTwo (Sought PaperRange)) (v w : Result (Option Range) ListRefused) → gained_answer v ≡ a → gained_answer w ≡ a → v ≡ w
one_gained = one_of_two next_range_of (sought_told back) (sought_told_of range_of back (λ r. refl))
  where
    back : PaperRange → Range
    back r = record { low = r.low; high = r.high }
