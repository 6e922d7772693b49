-- What the lines of a comparison tell: when there is only the last, what swapping the lists does, which codes the ranges hold, how a caller meets the
-- lines, and that the verdict is the word of the signals' differences. Assumes nothing.
use Prim.Native.Nat.{ℕ, suc, ◌+◌, ◌/◌, ◌%◌, ◌^◌, ◌≤◌, ◌<◌}
use mathlib.Core.Path.{◌≡◌, refl, sym, ap, ap₂, fun_ext, ◌∙◌}
use mathlib.Core.Logic.{◌⊎◌, inl, inr, ⊎_elim, ◌↔◌}
use mathlib.Core.Bool.{Bool, true, false, not, cond, ◌&&◌, ◌||◌, false≢true}
use mathlib.Core.List.Memᴰ
use mathlib.Core.List.{List, [], ◌∷◌, map, map-map, Memᴰ}
use native.Mathlib.Decide.{dec_le, ℕ_discrete}
use native.Mathlib.Omega.{arith}
use lib.Pow.{pow_mono}
use lib.ListN.{length, get_or, length-append, length-map}
use lib.Dec.{ltb, leb, eqb}
use borrow.Author.Tests.{eqb-true, eqb-false, eq-eqb, ne_eqb, le-leb, leb-true, ltb-true, lt-ltb, not-true, not-false}
use Rattle.bools.proofs.Tests.{both, neither}
use Rattle.paper.specs.Answer.{gives, refused, found, nothing}
use Rattle.paper.specs.First.{some, passing}
use Rattle.paper.specs.Search.{Rises}
use Rattle.paper.specs.SignalList.{SignalList, Counts, of_both, first_refused, second_refused, under_lists, judge, list_of, version, knows, known_in, has_codes, place_of}
use Rattle.paper.specs.Accepted.{Kept}
use Rattle.paper.specs.Broken.{broken}
use Rattle.paper.specs.Extends.{same, extends, Keeps, Extended}
use Rattle.paper.specs.Pairs.{Keyed, has, index, signal_key, signal_keys, signals_of, Rising}
use Rattle.paper.specs.Comparing.{Range, starts, range_at, ranges, Change, unchanged, added, removed, changed, change_of, tells, change_at, differs_in, differing, signal_fields, codes_compared, gained, signal_differs, signal_change, keep_tests, breaks_of, breaks, route_keys, routes_of, route_fields, route_differs, route_change, Line, signal_line, verdict, when_changed, signal_line_at, route_line_at, signal_lines, route_lines, compare, comparing, Changed, signal_changed, route_changed, next_in, next_signal, next_route, next_gained, signal_changes, route_changes, codes_gained, Alike, RouteAlike, Equal, swap_change, swap_field, swap_line}
use Rattle.paper.proofs.AnswerLaws.{by_both}
use Rattle.paper.proofs.FirstLaws.{some_at, some_false, some_none}
use Rattle.paper.proofs.PassingLaws.{next_none, next_past, passing_exactly}
use Rattle.paper.proofs.RangeLaws.{next_in_some, next_in_none, in_a_range, next_range, next_no_range}
use Rattle.paper.proofs.ListLaws.{routes_apart}
use Rattle.paper.proofs.ExtendsLaws.{agree_itself, extended, extends_true, same_of, same_true}
use Rattle.paper.proofs.PairLaws.{signals_rise, same_key, has_index, index_exactly}
use Rattle.paper.proofs.ProfileLaws.{tests_kept, kept_tests}

-- ---- entries by their keys

module _ (t : Keyed) (rise : Rises t.key t.count) (q : ℕ) where
  -- the entry that has the key
  has_at : has t q ≡ true → (index t q < t.count) × (t.key (index t q) ≡ q)
  has_at e = let lt = ltb-true _ _ (sym (has_index t q) ∙ e) in (lt, ((index_exactly t q rise (index t q)).1 (refl, lt)).1)

  has_true : (k : ℕ) → k < t.count → t.key k ≡ q → (has t q ≡ true) × (index t q ≡ k)
  has_true k lt e = let i = ((index_exactly t q rise k).0 (lt, e)).0 in (has_index t q ∙ lt-ltb (index t q) t.count (rw i lt), i)

-- each entry of one stands in the other and does not differ
record Matched (t u : Keyed) (differs : ℕ → ℕ → Bool) : Type 0 where
  pub there : (i : ℕ) → i < t.count → (j : ℕ) × ((j < u.count) × (t.key i ≡ u.key j) × (differs i j ≡ false))
  pub back : (j : ℕ) → j < u.count → (i : ℕ) × ((i < t.count) × (t.key i ≡ u.key j) × (differs i j ≡ false))

-- nothing is told of an entry: both have it, and it does not differ
quiet_both : (x y d : Bool) → (x ≡ true) ⊎ (y ≡ true) → tells (change_of x y d) ≡ false → (x ≡ true) × (y ≡ true) × (d ≡ false)
quiet_both true true true s e = absurd (false≢true (sym e))
quiet_both true true false s e = (refl, refl, refl)
quiet_both true false d s e = absurd (false≢true (sym e))
quiet_both false true d s e = absurd (false≢true (sym e))
quiet_both false false d (inl s) e = absurd (false≢true s)
quiet_both false false d (inr s) e = absurd (false≢true s)

module _ (t u : Keyed) (top : ℕ) (rt : Rising t top) (ru : Rising u top) (differs : ℕ → ℕ → Bool) where
  -- matched exactly if nothing is told at any key
  matched_at : Matched t u differs → (q : ℕ) → change_at t u differs q ≡ unchanged
  unfolding change_at
  matched_at h q = by (has t q) (has u q) refl refl
    where
      by : (x y : Bool) → has t q ≡ x → has u q ≡ y → change_of x y (differs (index t q) (index u q)) ≡ unchanged
      by false false e f = refl
      by false true e f =
          let j = has_at u ru.rise q f in
          let w = h.back (index u q) j.0 in
          absurd (false≢true (sym e ∙ (has_true t rt.rise q w.0 w.1.0 (w.1.1 ∙ j.1)).0))
      by true false e f =
          let i = has_at t rt.rise q e in
          let w = h.there (index t q) i.0 in
          absurd (false≢true (sym f ∙ (has_true u ru.rise q w.0 w.1.0 (sym w.1.1 ∙ i.1)).0))
      by true true e f =
          let i = has_at t rt.rise q e in
          let w = h.there (index t q) i.0 in
          let z : index u q ≡ w.0 = (has_true u ru.rise q w.0 w.1.0 (sym w.1.1 ∙ i.1)).1 in
          rw (z, w.1.2)

  at_matched : ((q : ℕ) → q < top → tells (change_at t u differs q) ≡ false) → Matched t u differs
  unfolding change_at
  at_matched quiet = record {
    there = λ i lt.
        let q = t.key i in
        let own = has_true t rt.rise q i lt refl in
        let w = quiet_both _ _ _ (inl own.0) (quiet q (rt.small i lt)) in
        let j = has_at u ru.rise q w.1 in
        (index u q, (j.0, sym j.1, rw own.1 at w.2));
    back = λ j lt.
        let q = u.key j in
        let own = has_true u ru.rise q j lt refl in
        let w = quiet_both _ _ _ (inr own.0) (quiet q (ru.small j lt)) in
        let i = has_at t rt.rise q w.0 in
        (index t q, (i.0, i.1, rw own.1 at w.2));
  }

-- ---- the routes of an accepted list, and its wide signals

module _ (l : SignalList) (h : Kept l) where
  -- destinations rise
  pub destinations_rise : Rising (routes_of l) route_keys
  destinations_rise = record {
    rise = λ i j lt hj. omega (arith, routes_apart l h i j lt hj, (h.signal (l.route i).signal (h.route i (omega arith)).exists).some);
    small = λ k lt. let r = h.route k lt in omega (arith, r.ends, (h.signal (l.route k).signal r.exists).some);
  }

  -- a signal too wide for codes has no entry, so it knows every code
  pub wide_knows : (k c : ℕ) → 16 < (l.signal k).width → knows l k c ≡ true
  unfolding knows known_in has_codes
  wide_knows k c wide =
      simp (some_false (λ e. eqb (l.code e).signal k) l.codes (λ e lt. ne_eqb (l.code e).signal k (λ q. let n = rw q at (h.code e lt).narrow in omega arith)))

-- ---- lists that are equal as they are compared

-- a signal, a list is equal to itself
pub alike_itself : (a : SignalList) (i : ℕ) → Alike a a i i
alike_itself a i = record { agrees = agree_itself a i; limit = refl; replacement = refl; codes = λ c lt. refl }

pub equal_itself : (a : SignalList) → Equal a a
equal_itself a = record {
  signals = λ i lt. (i, (lt, alike_itself a i));
  signals_back = λ i lt. (i, (lt, alike_itself a i));
  routes = λ i lt. (i, (lt, record { start = refl; vehicle = refl; type = refl; place = refl }));
  routes_back = λ i lt. (i, (lt, record { start = refl; vehicle = refl; type = refl; place = refl }));
}

-- one extends the other
pub equal_extends : (a b : SignalList) → Equal a b → extends a b ≡ true
equal_extends a b h =
    extends_true a b
    (record {
      stands_in = λ i lt. let w = h.signals i lt in (w.0, (w.1.0, record { agrees = w.1.1.agrees; codes = λ c small k. sym (w.1.1.codes c small) ∙ k }));
      newer_than = λ j lt.
          let w = h.signals_back j lt in
          let g = w.1.1.agrees in
          inl (w.0, (w.1.0, same_true (a.signal w.0) (b.signal j) g.type g.start));
    })

-- ---- fields

same_field : (xs ys : List ℕ) (n : ℕ) → some (differs_in xs ys) n ≡ false → (f : ℕ) → f < n → get_or xs f 0 ≡ get_or ys f 0
same_field xs ys n e f lt = eqb-true _ _ (not-false _ (some_none (differs_in xs ys) n e f lt))

no_field : (xs ys : List ℕ) (n : ℕ) → xs ≡ ys → some (differs_in xs ys) n ≡ false
no_field xs ys n e = some_false (differs_in xs ys) n (λ f lt. ap not (eq-eqb (get_or xs f 0) (get_or ys f 0) (ap (λ (l : List ℕ). get_or l f 0) e)))

-- ---- codes

module _ (a b : SignalList) (i j : ℕ) where
  -- all codes are compared where widths are equal and at most 16
  pub compared_all : (a.signal i).width ≡ (b.signal j).width → (a.signal i).width ≤ 16 → codes_compared a b i j ≡ 2 ^ (a.signal i).width
  unfolding codes_compared
  compared_all e le = simp (eq-eqb _ _ e, le-leb _ _ le)

  -- and none elsewhere
  pub compared_of : (c : ℕ) → c < codes_compared a b i j → ((a.signal i).width ≡ (b.signal j).width) × ((a.signal i).width ≤ 16) × (c < 2 ^ (a.signal i).width)
  unfolding codes_compared
  compared_of c lt = by (eqb (a.signal i).width (b.signal j).width && leb (a.signal i).width 16) refl lt
    where
      by : (x : Bool) → (eqb (a.signal i).width (b.signal j).width && leb (a.signal i).width 16) ≡ x → c < cond x (2 ^ (a.signal i).width) 0
          → ((a.signal i).width ≡ (b.signal j).width) × ((a.signal i).width ≤ 16) × (c < 2 ^ (a.signal i).width)
      by true e l = let p = both _ _ e in (eqb-true _ _ p.0, leb-true _ _ p.1, l)
      by false e l = absurd (omega arith)

  -- so 65,536 at most
  pub compared_most : codes_compared a b i j ≤ 65536
  unfolding codes_compared
  compared_most = by (eqb (a.signal i).width (b.signal j).width && leb (a.signal i).width 16) refl
    where
      by : (x : Bool) → (eqb (a.signal i).width (b.signal j).width && leb (a.signal i).width 16) ≡ x → cond x (2 ^ (a.signal i).width) 0 ≤ 65536
      by true e = pow_mono {i = (a.signal i).width} {j = 16} (leb-true _ _ (both (eqb (a.signal i).width (b.signal j).width) (leb (a.signal i).width 16) e).1)
      by false e = omega arith

  -- a code that the first knows as well is not gained
  not_gained : (c : ℕ) → (knows b j c ≡ true → knows a i c ≡ true) → gained a b i j c ≡ false
  unfolding gained
  not_gained c e = by (knows b j c) (knows a i c) e
    where
      by : (x y : Bool) → (x ≡ true → y ≡ true) → (x && not y) ≡ false
      by true y e = ap not (e refl)
      by false y e = refl

  gained_not : (c : ℕ) → gained a b i j c ≡ false → knows b j c ≡ true → knows a i c ≡ true
  unfolding gained
  gained_not c e k = not-false (knows a i c) (rw k at e)

  -- "a code lies in a gained range exactly if known to B and not to A", where codes are compared
  pub gained_exactly : (c : ℕ) → (a.signal i).width ≡ (b.signal j).width → (a.signal i).width ≤ 16 → c < 2 ^ (a.signal i).width
      → ((knows b j c ≡ true) × (knows a i c ≡ false))
      ↔ ((r : Range) × ((Memᴰ r (ranges (gained a b i j) (codes_compared a b i j) 0)) × (r.low ≤ c) × (c ≤ r.high)))
  unfolding gained
  gained_exactly c e le lt =
      let w = in_a_range (gained a b i j) (codes_compared a b i j) c (rw (compared_all e le) lt) in
      (λ k. w.0 (simp (k.0, k.1)), λ r. let p = both _ _ (w.1 r) in (p.0, not-true _ p.1))

compared_swap : (a b : SignalList) (i j : ℕ) → codes_compared b a j i ≡ codes_compared a b i j
unfolding codes_compared
compared_swap a b i j = elim (ℕ_discrete (a.signal i).width (b.signal j).width) [
  | yes e ↦ rw e
  | no ne ↦ simp (ne_eqb _ _ ne, ne_eqb (b.signal j).width (a.signal i).width (λ e. ne (sym e)))
]

-- where none is lost, each code known to A is known to B: of a wide signal each is
none_lost : (a b : SignalList) (i j : ℕ) → Kept b → (a.signal i).width ≡ (b.signal j).width → some (gained b a j i) (codes_compared a b i j) ≡ false
    → (c : ℕ) → c < 2 ^ (a.signal i).width → knows a i c ≡ true → knows b j c ≡ true
none_lost a b i j hb w e c lt k =
    elim (dec_le (a.signal i).width 16) [
      | yes le ↦ gained_not b a j i c (some_none (gained b a j i) (codes_compared a b i j) e c (rw (compared_all a b i j w le) lt)) k
      | no gt ↦ wide_knows b hb j c (omega arith)
    ]

-- none gained and none lost
same_known : (x y : Bool) → (x ≡ true → y ≡ true) → (y ≡ true → x ≡ true) → x ≡ y
same_known true y e f = sym (e refl)
same_known false true e f = f refl
same_known false false e f = refl

-- ---- a signal, a route that doesn't differ

module _ (a b : SignalList) (ha : Kept a) (hb : Kept b) where
  module _ (i j : ℕ) where
    alike_of : i < a.signals → j < b.signals → signal_key (a.signal i) ≡ signal_key (b.signal j) → signal_differs a b i j ≡ false → Alike a b i j
    unfolding signal_differs
    alike_of hi hj key e =
        let p = neither _ _ e in
        let q = neither _ _ p.0 in
        let f = same_field (signal_fields a i) (signal_fields b j) 5 q.0 in
        let s = same_key a b ha hb i j hi hj key in
        let w : (a.signal i).width ≡ (b.signal j).width = f 0 (omega arith) in
        record {
          agrees = record { type = s.0; start = s.1; width = w; place = f 1 (omega arith); since = f 2 (omega arith) };
          limit = f 3 (omega arith);
          replacement = f 4 (omega arith);
          codes = λ c lt.
              same_known (knows a i c) (knows b j c) (none_lost a b i j hb w p.1 c lt)
              (none_lost b a j i ha (sym w) (rw (compared_swap a b i j) q.1) c (rw (← w) lt));
        }

    alike_same : Alike a b i j → signal_differs a b i j ≡ false
    unfolding signal_differs
    alike_same h =
        let g = h.agrees in
        let e : signal_fields a i ≡ signal_fields b j = cc (g.width, g.place, g.since, h.limit, h.replacement) in
        simp (
          no_field (signal_fields a i) (signal_fields b j) 5 e,
          some_false (gained a b i j) (codes_compared a b i j) (λ c lt. not_gained a b i j c (λ k. h.codes c (compared_of a b i j c lt).2 ∙ k)),
          some_false (gained b a j i) (codes_compared a b i j) (λ c lt. not_gained b a j i c (λ k. sym (h.codes c (compared_of a b i j c lt).2) ∙ k)),
        )

    route_of_lem : i < a.routes → j < b.routes → (a.route i).start ≡ (b.route j).start → route_differs a b i j ≡ false → RouteAlike a b i j
    unfolding route_differs
    route_of_lem hi hj start e =
        let f = same_field (route_fields a i) (route_fields b j) 2 e in
        let s = same_key a b ha hb (a.route i).signal (b.route j).signal (ha.route i hi).exists (hb.route j hj).exists (f 1 (omega arith)) in
        record { start = start; vehicle = f 0 (omega arith); type = s.0; place = s.1 }

    route_same : RouteAlike a b i j → route_differs a b i j ≡ false
    unfolding route_differs
    route_same h = no_field (route_fields a i) (route_fields b j) 2 (cc (h.vehicle, h.type, h.place))

  -- ---- when there is only the last line

  abbrev signals_match : Type 0
  signals_match = Matched (signals_of a) (signals_of b) (signal_differs a b)

  abbrev routes_match : Type 0
  routes_match = Matched (routes_of a) (routes_of b) (route_differs a b)

  equal_of : signals_match → routes_match → Equal a b
  equal_of s r = record {
    signals = λ i lt. let w = s.there i lt in (w.0, (w.1.0, alike_of i w.0 lt w.1.0 w.1.1 w.1.2));
    signals_back = λ j lt. let w = s.back j lt in (w.0, (w.1.0, alike_of w.0 j w.1.0 lt w.1.1 w.1.2));
    routes = λ i lt. let w = r.there i lt in (w.0, (w.1.0, route_of_lem i w.0 lt w.1.0 w.1.1 w.1.2));
    routes_back = λ j lt. let w = r.back j lt in (w.0, (w.1.0, route_of_lem w.0 j w.1.0 lt w.1.1 w.1.2));
  }

  signals_match_lem : Equal a b → signals_match
  signals_match_lem h = record {
    there = λ i lt. let w = h.signals i lt in let g = w.1.1.agrees in (w.0, (w.1.0, omega (arith, g.type, g.start), alike_same i w.0 w.1.1));
    back = λ j lt. let w = h.signals_back j lt in let g = w.1.1.agrees in (w.0, (w.1.0, omega (arith, g.type, g.start), alike_same w.0 j w.1.1));
  }

  routes_match_lem : Equal a b → routes_match
  routes_match_lem h = record {
    there = λ i lt. let w = h.routes i lt in (w.0, (w.1.0, w.1.1.start, route_same i w.0 w.1.1));
    back = λ j lt. let w = h.routes_back j lt in (w.0, (w.1.0, w.1.1.start, route_same w.0 j w.1.1));
  }

  nothing_told : {q : ℕ} (l : List ℕ) → length l ≡ 0 → Memᴰ q l → ⊥
  nothing_told [] e m = Memᴰ.not-nil m
  nothing_told (x ∷ l) e m = omega arith

  none_told : (test : ℕ → Bool) (n : ℕ) → length (passing test n 0) ≡ 0 → (q : ℕ) → q < n → test q ≡ false
  none_told test n e q lt = by (test q) refl
    where
      by : (x : Bool) → test q ≡ x → x ≡ false
      by true t = absurd (nothing_told (passing test n 0) e ((passing_exactly test n q).1 (lt, t)))
      by false t = refl

  tells_none : (f : ℕ → Change) (n : ℕ) → ((q : ℕ) → f q ≡ unchanged) → passing (λ q. tells (f q)) n 0 ≡ []
  tells_none f n e = next_none (λ q. tells (f q)) n 0 (next_past (λ q. tells (f q)) n 0 (λ q _ _. ap tells (e q)))

  no_signal_line : Equal a b → signal_lines a b ≡ []
  unfolding signal_lines signal_change
  no_signal_line h =
      ap (map (signal_line_at a b))
      (tells_none (change_at (signals_of a) (signals_of b) (signal_differs a b)) signal_keys
      (matched_at (signals_of a) (signals_of b) signal_keys (signals_rise a ha) (signals_rise b hb) (signal_differs a b) (signals_match_lem h)))

  no_route_line : Equal a b → route_lines a b ≡ []
  unfolding route_lines route_change
  no_route_line h =
      ap (map (route_line_at a b))
      (tells_none (change_at (routes_of a) (routes_of b) (route_differs a b)) route_keys
      (matched_at (routes_of a) (routes_of b) route_keys (destinations_rise a ha) (destinations_rise b hb) (route_differs a b) (routes_match_lem h)))

  -- lists equal so compared: the one line, and it says yes
  pub equal_line : Equal a b → compare a b ≡ verdict true ∷ []
  unfolding compare
  equal_line h = simp (no_signal_line h, no_route_line h, equal_extends a b h)

  line_equal : length (compare a b) ≡ 1 → Equal a b
  unfolding compare signal_lines route_lines signal_change route_change
  line_equal e =
      let s = passing (λ q. tells (change_at (signals_of a) (signals_of b) (signal_differs a b) q)) signal_keys 0 in
      let r = passing (λ q. tells (change_at (routes_of a) (routes_of b) (route_differs a b) q)) route_keys 0 in
      let n : length s + length r + 1 ≡ 1 = simp (length-append, length-map) at e in
      equal_of
      (at_matched (signals_of a) (signals_of b) signal_keys (signals_rise a ha) (signals_rise b hb) (signal_differs a b) (none_told _ signal_keys (omega arith)))
      (at_matched (routes_of a) (routes_of b) route_keys (destinations_rise a ha) (destinations_rise b hb) (route_differs a b) (none_told _ route_keys (omega arith)))

  -- "It is the only line exactly when signals, known codes and routes are equal so compared"
  pub only_line : (length (compare a b) ≡ 1) ↔ Equal a b
  only_line = (line_equal, λ h. ap length (equal_line h))

-- a list compared with itself
pub compare_itself : (a : SignalList) → Kept a → compare a a ≡ verdict true ∷ []
compare_itself a h = equal_line a a h h (equal_itself a)

-- ---- swapping the lists

eqb_swap : (x y : ℕ) → eqb x y ≡ eqb y x
eqb_swap x y = elim (ℕ_discrete x y) [
  | yes e ↦ eq-eqb x y e ∙ sym (eq-eqb y x (sym e))
  | no ne ↦ ne_eqb x y ne ∙ sym (ne_eqb y x (λ e. ne (sym e)))
]

differs_swap : (xs ys : List ℕ) → differs_in ys xs ≡ differs_in xs ys
differs_swap xs ys = fun_ext (λ f. ap not (eqb_swap (get_or ys f 0) (get_or xs f 0)))

when_swap : {A B : Type 0} (f : A → B) (c : Change) (l : List B) (m : List A) → l ≡ map f m → when_changed (swap_change c) l ≡ map f (when_changed c m)
when_swap f unchanged l m e = refl
when_swap f added l m e = refl
when_swap f removed l m e = refl
when_swap f changed l m e = e

when_same : {A : Type 0} (c : Change) (l m : List A) → l ≡ m → when_changed (swap_change c) l ≡ when_changed c m
when_same unchanged l m e = refl
when_same added l m e = refl
when_same removed l m e = refl
when_same changed l m e = e

tells_swap : (c : Change) → tells (swap_change c) ≡ tells c
tells_swap unchanged = refl
tells_swap added = refl
tells_swap removed = refl
tells_swap changed = refl

change_swap : (t u : Keyed) (d e : ℕ → ℕ → Bool) → ((i j : ℕ) → e j i ≡ d i j) → (q : ℕ) → change_at u t e q ≡ swap_change (change_at t u d q)
unfolding change_at
change_swap t u d e h q = rw (h (index t q) (index u q)) (by (has t q) (has u q) (d (index t q) (index u q)))
  where
    by : (x y z : Bool) → change_of y x z ≡ swap_change (change_of x y z)
    by true true true = refl
    by true true false = refl
    by true false z = refl
    by false true z = refl
    by false false z = refl

differing_swap : (xs ys : List ℕ) (n : ℕ) → differing ys xs n ≡ map swap_field (differing xs ys n)
unfolding differing
differing_swap xs ys n =
    ap (λ (d : ℕ → Bool). map (λ f. record { field = f; first = get_or ys f 0; second = get_or xs f 0 }) (passing d n 0)) (differs_swap xs ys)
    ∙ sym (map-map swap_field (λ f. record { field = f; first = get_or xs f 0; second = get_or ys f 0 }) (passing (differs_in xs ys) n 0))

lines_swap : (f g : ℕ → Line) (c d : ℕ → Change) (n : ℕ) → ((q : ℕ) → g q ≡ swap_line (f q)) → ((q : ℕ) → d q ≡ swap_change (c q))
    → map g (passing (λ q. tells (d q)) n 0) ≡ map swap_line (map f (passing (λ q. tells (c q)) n 0))
lines_swap f g c d n line change =
    ap₂ (λ (h : ℕ → Line) (t : ℕ → Bool). map h (passing t n 0)) (fun_ext line) (fun_ext (λ q. ap tells (change q) ∙ tells_swap (c q)))
    ∙ sym (map-map swap_line f (passing (λ q. tells (c q)) n 0))

module _ (a b : SignalList) where
  signal_swap : (i j : ℕ) → signal_differs b a j i ≡ signal_differs a b i j
  unfolding signal_differs
  signal_swap i j =
      simp (compared_swap a b i j, differs_swap (signal_fields a i) (signal_fields b j))
      (turn (some (differs_in (signal_fields a i) (signal_fields b j)) 5) (some (gained b a j i) (codes_compared a b i j)) (some (gained a b i j) (codes_compared a b i j)))
    where
      turn : (x y z : Bool) → (x || y || z) ≡ (x || z || y)
      turn true y z = refl
      turn false true true = refl
      turn false true false = refl
      turn false false true = refl
      turn false false false = refl

  -- what was added is removed the other way round, what was changed stays so
  pub signal_change_swap : (q : ℕ) → signal_change b a q ≡ swap_change (signal_change a b q)
  unfolding signal_change
  signal_change_swap q = change_swap (signals_of a) (signals_of b) (signal_differs a b) (signal_differs b a) signal_swap q

  signal_line_swap : (q : ℕ) → signal_line_at b a q ≡ swap_line (signal_line_at a b q)
  unfolding signal_line_at
  signal_line_swap q =
      let c = signal_change a b q in
      let i = index (signals_of a) q in
      let j = index (signals_of b) q in
      let f : when_changed (swap_change c) (differing (signal_fields b j) (signal_fields a i) 5) ≡ map swap_field (when_changed c (differing (signal_fields a i) (signal_fields b j) 5)) =
      when_swap swap_field c _ (differing (signal_fields a i) (signal_fields b j) 5) (differing_swap (signal_fields a i) (signal_fields b j) 5) in
      let g : when_changed (swap_change c) (ranges (gained b a j i) (codes_compared b a j i) 0) ≡ when_changed c (ranges (gained b a j i) (codes_compared a b i j) 0) =
      when_same c _ _ (ap (λ (n : ℕ). ranges (gained b a j i) n 0) (compared_swap a b i j)) in
      let h : when_changed (swap_change c) (ranges (gained a b i j) (codes_compared b a j i) 0) ≡ when_changed c (ranges (gained a b i j) (codes_compared a b i j) 0) =
      when_same c _ _ (ap (λ (n : ℕ). ranges (gained a b i j) n 0) (compared_swap a b i j)) in
      rw (signal_change_swap q, f, g, h)

  -- swapping the lists swaps added and removed, both numbers, gained and lost, and keeps the order
  pub signal_lines_swap : signal_lines b a ≡ map swap_line (signal_lines a b)
  unfolding signal_lines
  signal_lines_swap = lines_swap (signal_line_at a b) (signal_line_at b a) (signal_change a b) (signal_change b a) signal_keys signal_line_swap signal_change_swap

  route_swap : (i j : ℕ) → route_differs b a j i ≡ route_differs a b i j
  unfolding route_differs
  route_swap i j = ap (λ (d : ℕ → Bool). some d 2) (differs_swap (route_fields a i) (route_fields b j))

  pub route_change_swap : (q : ℕ) → route_change b a q ≡ swap_change (route_change a b q)
  unfolding route_change
  route_change_swap q = change_swap (routes_of a) (routes_of b) (route_differs a b) (route_differs b a) route_swap q

  route_line_swap : (q : ℕ) → route_line_at b a q ≡ swap_line (route_line_at a b q)
  unfolding route_line_at
  route_line_swap q =
      let c = route_change a b q in
      let i = index (routes_of a) q in
      let j = index (routes_of b) q in
      let f : when_changed (swap_change c) (differing (route_fields b j) (route_fields a i) 2) ≡ map swap_field (when_changed c (differing (route_fields a i) (route_fields b j) 2)) =
      when_swap swap_field c _ (differing (route_fields a i) (route_fields b j) 2) (differing_swap (route_fields a i) (route_fields b j) 2) in
      rw (route_change_swap q, f)

  -- and of routes
  pub route_lines_swap : route_lines b a ≡ map swap_line (route_lines a b)
  unfolding route_lines
  route_lines_swap = lines_swap (route_line_at a b) (route_line_at b a) (route_change a b) (route_change b a) route_keys route_line_swap route_change_swap

-- ---- how a caller meets the lines: past the key of each answer it goes on with the next

module _ {A B : Type 0} (test : ℕ → Bool) (top : ℕ) (at : ℕ → A) (key : A → ℕ) (keyed : (q : ℕ) → key (at q) ≡ q) (line : ℕ → B) (from : ℕ) where
  -- what is found is what stands at its key
  next_line : (x : A) → next_in test top at from ≡ found x
      → (map line (passing test top from) ≡ line (key x) ∷ map line (passing test top (suc (key x)))) × (from ≤ key x) × (key x < top) × (x ≡ at (key x))
  next_line x e =
      let w = next_in_some test top at from x e in
      let k : w.0 ≡ key x = sym (keyed w.0) ∙ ap key w.1.0 in
      (rw k at (ap (map line) w.1.4), omega (arith, w.1.1), omega (arith, w.1.2), sym w.1.0 ∙ ap at k)

module _ (a b : SignalList) where
  -- the lines of the keys from one on
  abbrev pub signal_lines_from : ℕ → List Line
  signal_lines_from from = map (signal_line_at a b) (passing (λ q. tells (signal_change a b q)) signal_keys from)

  abbrev pub route_lines_from : ℕ → List Line
  route_lines_from from = map (route_line_at a b) (passing (λ q. tells (route_change a b q)) route_keys from)

  -- from 0 on these are all
  pub all_signal_lines : signal_lines a b ≡ signal_lines_from 0
  unfolding signal_lines
  all_signal_lines = refl

  pub all_route_lines : route_lines a b ≡ route_lines_from 0
  unfolding route_lines
  all_route_lines = refl

  module _ (from : ℕ) where
    -- the line of the key found comes next, and the rest follows behind it
    pub next_signal_line : (c : Changed) → next_signal a b from ≡ found c
        → (signal_lines_from from ≡ signal_line_at a b c.key ∷ signal_lines_from (suc c.key)) × (from ≤ c.key) × (c.key < signal_keys) × (c ≡ signal_changed a b c.key)
    unfolding next_signal
    next_signal_line = next_line _ signal_keys (signal_changed a b) (λ c. c.key) (λ q. refl) (signal_line_at a b) from

    -- where nothing is found, there is no more
    pub no_signal_line_more : next_signal a b from ≡ nothing → signal_lines_from from ≡ []
    unfolding next_signal
    no_signal_line_more e = ap (map (signal_line_at a b)) (next_in_none _ signal_keys (signal_changed a b) from e)

    -- and of routes
    pub next_route_line : (c : Changed) → next_route a b from ≡ found c
        → (route_lines_from from ≡ route_line_at a b c.key ∷ route_lines_from (suc c.key)) × (from ≤ c.key) × (c.key < route_keys) × (c ≡ route_changed a b c.key)
    unfolding next_route
    next_route_line = next_line _ route_keys (route_changed a b) (λ c. c.key) (λ q. refl) (route_line_at a b) from

    pub no_route_line_more : next_route a b from ≡ nothing → route_lines_from from ≡ []
    unfolding next_route
    no_route_line_more e = ap (map (route_line_at a b)) (next_in_none _ route_keys (route_changed a b) from e)

-- the codes that the signal at a key gained, from a code on
abbrev pub gained_from : SignalList → SignalList → ℕ → ℕ → List Range
gained_from a b q k =
    let i = index (signals_of a) q in
    let j = index (signals_of b) q in
    ranges (gained a b i j) (codes_compared a b i j) k

changed_both : (x y d : Bool) → change_of x y d ≡ changed → (x ≡ true) × (y ≡ true)
changed_both true true d e = (refl, refl)
changed_both true false d e = let z : ◌≡◌ {A = ℕ} 0 1 = cc in absurd (omega arith)
changed_both false true d e = let z : ◌≡◌ {A = ℕ} 0 1 = cc in absurd (omega arith)
changed_both false false d e = let z : ◌≡◌ {A = ℕ} 0 1 = cc in absurd (omega arith)

module _ (a b : SignalList) (q : ℕ) (told : signal_change a b q ≡ changed) where
  -- its number in either list
  abbrev i : ℕ
  i = index (signals_of a) q

  abbrev j : ℕ
  j = index (signals_of b) q

  -- a changed signal's line: its differing fields, the codes gained, and those gained the other way round
  pub changed_line : signal_line_at a b q ≡ signal_line changed (q / 1024) (q % 1024) (differing (signal_fields a i) (signal_fields b j) 5) (gained_from a b q 0) (gained_from b a q 0)
  unfolding signal_line_at
  changed_line = rw (told, compared_swap a b i j)

  asked : (from : ℕ) → next_gained a b q from ≡ next_in (starts (gained a b i j)) (codes_compared a b i j) (range_at (gained a b i j) (codes_compared a b i j)) from
  unfolding next_gained signal_change change_at
  asked from = let h = changed_both (has (signals_of a) q) (has (signals_of b) q) _ told in rw (h.0, h.1)

  module _ (from : ℕ) where
    -- how a caller meets the ranges of it; of those lost, with the lists swapped
    pub next_gained_lem : (r : Range) → next_gained a b q from ≡ found r → (gained_from a b q from ≡ r ∷ gained_from a b q (r.high + 1)) × (from ≤ r.low) × (r.low ≤ r.high) × (r.high < codes_compared a b i j)
    next_gained_lem r e = next_range (gained a b i j) (codes_compared a b i j) from r (sym (asked from) ∙ e)

    pub no_gained_more : next_gained a b q from ≡ nothing → gained_from a b q from ≡ []
    no_gained_more e = next_no_range (gained a b i j) (codes_compared a b i j) from (sym (asked from) ∙ e)

-- ---- the verdict is the word of the lines

-- no rule of extending is broken by a signal that both have, exactly if it is kept
module _ (a b : SignalList) (i j : ℕ) where
  tests_none : (a.signal i).width ≡ (b.signal j).width → place_of a (a.signal i) ≡ place_of b (b.signal j) → (a.signal i).since ≡ (b.signal j).since
      → some (gained b a j i) (codes_compared a b i j) ≡ false → broken (keep_tests a b i j) ≡ 0
  tests_none width place since lost =
      eqb-true _ _ (kept_tests 1 (keep_tests a b i j) (eq-eqb _ _ width, (eq-eqb _ _ place, (eq-eqb _ _ since, (ap not lost, tt)))))

  keeps_none : Keeps a b i j → broken (keep_tests a b i j) ≡ 0
  keeps_none h =
      let g = h.agrees in
      tests_none g.width g.place g.since
      (some_false (gained b a j i) (codes_compared a b i j) (λ c lt. not_gained b a j i c (h.codes c (compared_of a b i j c lt).2)))

  none_keeps : Kept a → Kept b → i < a.signals → j < b.signals → signal_key (a.signal i) ≡ signal_key (b.signal j) → broken (keep_tests a b i j) ≡ 0
      → Keeps a b i j
  none_keeps ha hb hi hj key e =
      let t = tests_kept 0 (keep_tests a b i j) (eq-eqb _ _ e) in
      let s = same_key a b ha hb i j hi hj key in
      let w = eqb-true _ _ t.0 in
      record {
        agrees = record { type = s.0; start = s.1; width = w; place = eqb-true _ _ t.1.0; since = eqb-true _ _ t.1.1.0 };
        codes = none_lost a b i j hb w (not-true _ t.1.1.1.0);
      }

  quiet_keeps : signal_differs a b i j ≡ false → broken (keep_tests a b i j) ≡ 0
  unfolding signal_differs
  quiet_keeps e =
      let p = neither _ _ e in
      let f = same_field (signal_fields a i) (signal_fields b j) 5 (neither _ _ p.0).0 in
      tests_none (f 0 (omega arith)) (f 1 (omega arith)) (f 2 (omega arith)) p.1

module _ (a b : SignalList) (q : ℕ) where
  -- a difference that breaks a rule of extending has a line
  pub broken_told : (breaks a b q ≡ 0 → ⊥) → tells (signal_change a b q) ≡ true
  unfolding breaks signal_change change_at
  broken_told h = by (has (signals_of a) q) (has (signals_of b) q) h
    where
      i : ℕ
      i = index (signals_of a) q

      j : ℕ
      j = index (signals_of b) q

      within : (d : Bool) → signal_differs a b i j ≡ d → (broken (keep_tests a b i j) ≡ 0 → ⊥) → tells (cond d changed unchanged) ≡ true
      within true e h = refl
      within false e h = absurd (h (quiet_keeps a b i j e))

      by : (x y : Bool) → (breaks_of x y (broken (keep_tests a b i j)) (ltb (version a) (b.signal j).since) ≡ 0 → ⊥)
          → tells (change_of x y (signal_differs a b i j)) ≡ true
      by true true h = within (signal_differs a b i j) refl h
      by true false h = refl
      by false true h = refl
      by false false h = absurd (h refl)

module _ (a b : SignalList) (ha : Kept a) (hb : Kept b) where
  abbrev ra : Rises (signals_of a).key a.signals
  ra = (signals_rise a ha).rise

  abbrev rb : Rises (signals_of b).key b.signals
  rb = (signals_rise b hb).rise

  extends_none : Extended a b → (q : ℕ) → breaks a b q ≡ 0
  unfolding breaks
  extends_none h q = by (has (signals_of a) q) (has (signals_of b) q) refl refl
    where
      i : ℕ
      i = index (signals_of a) q

      j : ℕ
      j = index (signals_of b) q

      by : (x y : Bool) → has (signals_of a) q ≡ x → has (signals_of b) q ≡ y
          → breaks_of x y (broken (keep_tests a b i j)) (ltb (version a) (b.signal j).since) ≡ 0
      by true true e f =
          let p = has_at (signals_of a) ra q e in
          let w = h.stands_in i p.0 in
          let g = w.1.1.agrees in
          let z : j ≡ w.0 = (has_true (signals_of b) rb q w.0 w.1.0 (omega (arith, p.1, g.type, g.start))).1 in
          keeps_none a b i j (rw z w.1.1)
      by true false e f =
          let p = has_at (signals_of a) ra q e in
          let w = h.stands_in i p.0 in
          let g = w.1.1.agrees in
          absurd (false≢true (sym f ∙ (has_true (signals_of b) rb q w.0 w.1.0 (omega (arith, p.1, g.type, g.start))).0))
      by false true e f =
          let p = has_at (signals_of b) rb q f in
          ⊎_elim
          (λ w. let s = same_of (a.signal w.0) (b.signal j) w.1.1 in
          absurd (false≢true (sym e ∙ (has_true (signals_of a) ra q w.0 w.1.0 (omega (arith, p.1, s.0, s.1))).0)))
          (λ lt. rw (lt-ltb (version a) (b.signal j).since lt))
          (h.newer_than j p.0)
      by false false e f = refl

  none_extends : ((q : ℕ) → q < signal_keys → breaks a b q ≡ 0) → Extended a b
  unfolding breaks
  none_extends none = record { stands_in = stands; newer_than = newer }
    where
      first : (x y : Bool) (kept : ℕ) (new : Bool) → x ≡ true → breaks_of x y kept new ≡ 0 → (y ≡ true) × (kept ≡ 0)
      first true true kept new t e = (refl, e)
      first true false kept new t e = absurd (omega arith)
      first false y kept new t e = absurd (false≢true t)

      second : (x y : Bool) (kept : ℕ) (new : Bool) → y ≡ true → breaks_of x y kept new ≡ 0 → (x ≡ true) ⊎ (new ≡ true)
      second true y kept new t e = inl refl
      second false true kept true t e = inr refl
      second false true kept false t e = absurd (omega arith)
      second false false kept new t e = absurd (false≢true t)

      stands : (i : ℕ) → i < a.signals → (j : ℕ) × ((j < b.signals) × Keeps a b i j)
      stands i lt =
          let q = signal_key (a.signal i) in
          let own = has_true (signals_of a) ra q i lt refl in
          let w = first (has (signals_of a) q) (has (signals_of b) q) _ _ own.0 (none q ((signals_rise a ha).small i lt)) in
          let p = has_at (signals_of b) rb q w.0 in
          (index (signals_of b) q, (p.0, none_keeps a b i (index (signals_of b) q) ha hb lt p.0 (sym p.1) (rw own.1 at w.1)))

      newer : (j : ℕ) → j < b.signals → ((i : ℕ) × ((i < a.signals) × (same (a.signal i) (b.signal j) ≡ true))) ⊎ (version a < (b.signal j).since)
      newer j lt =
          let q = signal_key (b.signal j) in
          let own = has_true (signals_of b) rb q j lt refl in
          let w = second (has (signals_of a) q) (has (signals_of b) q) _ _ own.0 (none q ((signals_rise b hb).small j lt)) in
          ⊎_elim
          (λ e. let i = index (signals_of a) q in
          let p = has_at (signals_of a) ra q e in
          let s = same_key a b ha hb i j p.0 lt p.1 in
          inl (i, (p.0, same_true (a.signal i) (b.signal j) s.0 s.1)))
          (λ e. inr (ltb-true _ _ (rw own.1 at e))) w

  -- the second extends the first exactly if no signal's difference breaks a rule of extending
  pub verdict_by_lines : (extends a b ≡ true) ↔ ((q : ℕ) → q < signal_keys → breaks a b q ≡ 0)
  verdict_by_lines = (λ e q lt. extends_none (extended a b e) q, λ none. extends_true a b (none_extends none))

  -- so where it does not, some line names a rule that is broken
  pub no_by_line : extends a b ≡ false → (q : ℕ) × ((q < signal_keys) × (breaks a b q ≡ 0 → ⊥) × (tells (signal_change a b q) ≡ true))
  no_by_line e = by (some breaking signal_keys) refl
    where
      breaking : ℕ → Bool
      breaking q = not (eqb (breaks a b q) 0)

      by : (x : Bool) → some breaking signal_keys ≡ x → (q : ℕ) × ((q < signal_keys) × (breaks a b q ≡ 0 → ⊥) × (tells (signal_change a b q) ≡ true))
      by true t =
          let w = some_at breaking signal_keys t in
          let ne = eqb-false (breaks a b w.0) 0 (not-true _ w.1.1) in
          (w.0, (w.1.0, ne, broken_told a b w.0 ne))
      by false t = absurd (false≢true (sym e ∙ verdict_by_lines.1 (λ q lt. eqb-true _ _ (not-false _ (some_none breaking signal_keys t q lt)))))

-- ---- two lists as octets

module _ (form : ℕ) (xs : List ℕ) (form' : ℕ) (ys : List ℕ) where
  -- two accepted lists: the lines of them
  pub compares_both : (m n : Counts) → judge form xs ≡ gives m → judge form' ys ≡ gives n
      → comparing form xs form' ys ≡ of_both (compare (list_of xs m) (list_of ys n))
  unfolding comparing
  compares_both m n first second = rw (first, second)

  -- "A refused list is reported by number and offset and nothing is compared."
  pub compares_first : (number at : ℕ) → judge form xs ≡ refused number at → comparing form xs form' ys ≡ first_refused number at
  unfolding comparing
  compares_first number at first = rw first

  pub compares_second : (m : Counts) (number at : ℕ) → judge form xs ≡ gives m → judge form' ys ≡ refused number at
      → comparing form xs form' ys ≡ second_refused number at
  unfolding comparing
  compares_second m number at first second = rw (first, second)

-- what a call on two lists gives is of two that are accepted
given_both : {A : Type 0} (form : ℕ) (xs : List ℕ) (form' : ℕ) (ys : List ℕ) (call : SignalList → SignalList → A) (x : A)
    → under_lists form xs form' ys call ≡ of_both x → (m : Counts) × ((n : Counts) × (call (list_of xs m) (list_of ys n) ≡ x))
given_both form xs form' ys call x e =
    let a = by_both (judge form xs) first_refused _ x (λ n at q. let z : ◌≡◌ {A = ℕ} 0 1 = cc in omega arith) e in
    let b = by_both (judge form' ys) second_refused _ x (λ n at q. let z : ◌≡◌ {A = ℕ} 0 1 = cc in omega arith) a.1.1 in
    (a.0, (b.0, cc b.1.1))

-- every answer of the calls goes further
module _ (form : ℕ) (xs : List ℕ) (form' : ℕ) (ys : List ℕ) where
  pub signal_changes_within : (from : ℕ) (c : Changed) → signal_changes form xs form' ys from ≡ of_both (found c) → (from ≤ c.key) × (c.key < signal_keys)
  unfolding signal_changes
  signal_changes_within from c e =
      let w = given_both form xs form' ys (λ a b. next_signal a b from) (found c) e in
      let n = next_signal_line (list_of xs w.0) (list_of ys w.1.0) from c w.1.1 in
      (n.1, n.2)

  pub route_changes_within : (from : ℕ) (c : Changed) → route_changes form xs form' ys from ≡ of_both (found c) → (from ≤ c.key) × (c.key < route_keys)
  unfolding route_changes
  route_changes_within from c e =
      let w = given_both form xs form' ys (λ a b. next_route a b from) (found c) e in
      let n = next_route_line (list_of xs w.0) (list_of ys w.1.0) from c w.1.1 in
      (n.1, n.2)

  pub codes_gained_within : (q from : ℕ) (r : Range) → codes_gained form xs form' ys q from ≡ of_both (found r)
      → (from ≤ r.low) × (r.low ≤ r.high) × (r.high < 65536)
  unfolding codes_gained next_gained
  codes_gained_within q from r e =
      let w = given_both form xs form' ys (λ a b. next_gained a b q from) (found r) e in
      let a = list_of xs w.0 in
      let b = list_of ys w.1.0 in
      let i = index (signals_of a) q in
      let j = index (signals_of b) q in
      let n = next_range (gained a b i j) (cond (has (signals_of a) q && has (signals_of b) q) (codes_compared a b i j) 0) from r w.1.1 in
      (n.1, n.2, omega (arith, n.3, most (has (signals_of a) q && has (signals_of b) q) (codes_compared a b i j) (compared_most a b i j)))
    where
      most : (x : Bool) (n : ℕ) → n ≤ 65536 → cond x n 0 ≤ 65536
      most true n le = le
      most false n le = omega arith
