-- A rule is named exactly where judging refuses with 3, of the entry at that offset; and it is the first that the entry breaks. Assumes nothing.
use Prim.Native.Nat.{ℕ, zero, suc, ◌+◌, ◌-◌, ◌<◌, ◌≤◌}
use mathlib.Core.Path.{◌≡◌, refl, sym, ap, ◌∙◌}
use mathlib.Core.Bool.{Bool, true, false, not, cond, ◌&&◌, ◌||◌, false≢true}
use mathlib.Core.List.{List, [], ◌∷◌, ◌++◌}
use native.Mathlib.Decide.{dec_lt, ℕ_discrete}
use native.Mathlib.Omega.{arith}
use lib.ListN.{length, get_or}
use lib.Dec.{ltb, leb, eqb}
use borrow.Author.Tests.{lt-ltb, le-ltb, le-leb, lt-leb, eq-eqb, ne_eqb, ltb-true}
use Rattle.paper.specs.Octets.{number}
use Rattle.paper.specs.Answer.{Answer, gives, refused, refuse_if, and_then, shift, Sought, found, nothing}
use Rattle.paper.specs.First.{stop, first_bad}
use Rattle.paper.specs.SignalList.{Signal, Code, Route, Counts, field_end, entry, rest, check_size, signal_size, code_size, route_size, most_checks, most_signals, most_codes, most_routes, check_at, signal_at, code_at, route_at, check_rule, signal_rule, signal_rule_to, code_rule, route_rule, opening, judge_entries, judge_section, ending, from_routes, from_codes, from_signals, from_signals_to, judge, judge_to}
use Rattle.paper.specs.Broken.{check_tests, signal_tests, code_tests, route_tests, broken_or, broken, Fault, check_fault, signal_fault, code_fault, route_fault, where_open, fault_in, fault_from_routes, fault_from_codes, fault_from_signals, fault_of, refused_three, fault_at}
use Rattle.paper.proofs.FirstLaws.{first_fails}

-- ---- The first test that is not kept

-- the tests one after the other, behind b
abbrev pub every : Bool → List Bool → Bool
every b [] = b
every b (t ∷ ts) = every (b && t) ts

every_false : (ts : List Bool) → every false ts ≡ false
every_false [] = refl
every_false (t ∷ ts) = every_false ts

-- all are kept: none is named
pub none_broken : (n : ℕ) (ts : List Bool) (other : ℕ) → every true ts ≡ true → broken_or n ts other ≡ other
none_broken n [] other e = refl
none_broken n (true ∷ ts) other e = none_broken (suc n) ts other e
none_broken n (false ∷ ts) other e = absurd (false≢true (sym (every_false ts) ∙ e))

-- one is not: it is named, whatever stands for "all are kept"
pub one_broken : (n : ℕ) (ts : List Bool) (a b : ℕ) → every true ts ≡ false → (broken_or n ts a ≡ broken_or n ts b) × (n ≤ broken_or n ts a)
one_broken n [] a b e = absurd (false≢true (sym e))
one_broken n (true ∷ ts) a b e = let r = one_broken (suc n) ts a b e in (r.0, omega (arith, r.1))
one_broken n (false ∷ ts) a b e = (refl, omega arith)

-- where the last one is not asked: it is the one that is not kept, unless another is
pub last_broken : (n : ℕ) (ts : List Bool) (last : Bool) → every true (ts ++ (last ∷ [])) ≡ false
    → broken_or n ts (n + length ts) ≡ broken_or n (ts ++ (last ∷ [])) 0
last_broken n [] true e = absurd (false≢true (sym e))
last_broken n [] false e = omega arith
last_broken n (true ∷ ts) last e = ap (broken_or (suc n) ts) (omega arith) ∙ last_broken (suc n) ts last e
last_broken n (false ∷ ts) last e = refl

-- the rule that is named is not kept, and every one before it is
pub broken_at : (n : ℕ) (ts : List Bool) (i : ℕ) → every true ts ≡ false → broken_or n ts 0 ≡ n + i → get_or ts i true ≡ false
broken_at n [] i e q = absurd (false≢true (sym e))
broken_at n (true ∷ ts) zero e q = absurd (omega (arith, (one_broken (suc n) ts 0 0 e).1))
broken_at n (true ∷ ts) (suc i) e q = broken_at (suc n) ts i e (omega arith)
broken_at n (false ∷ ts) zero e q = refl
broken_at n (false ∷ ts) (suc i) e q = absurd (omega arith)

pub kept_before : (n : ℕ) (ts : List Bool) (i : ℕ) → n + i < broken_or n ts 0 → get_or ts i true ≡ true
kept_before n [] i h = refl
kept_before n (true ∷ ts) zero h = refl
kept_before n (true ∷ ts) (suc i) h = kept_before (suc n) ts i (omega arith)
kept_before n (false ∷ ts) i h = absurd (omega arith)

-- ---- The tests of an entry are its rule

-- groups never fall, and within one the entry begins no earlier: asked as two
in_turn_lem : (first : Bool) (last group : ℕ) (on : Bool)
    → ((first || leb last group) && (first || not (eqb last group) || on)) ≡ (first || (ltb last group || eqb last group && on))
in_turn_lem true last group on = refl
in_turn_lem false last group on =
    elim (dec_lt last group) [
      | yes l ↦ simp (le-leb last group (omega arith), ne_eqb last group (λ e. omega arith), lt-ltb last group l)
      | no ge ↦ elim (ℕ_discrete last group) [
        | yes e ↦ simp (le-leb last group (omega arith), eq-eqb last group e, le-ltb last group (omega arith))
        | no ne ↦ simp (lt-leb last group (omega arith), ne_eqb last group ne, le-ltb last group (omega arith))
      ]
    ]

three : (x a b c : Bool) → (((x && a) && b) && c) ≡ (x && ((a && b) && c))
three true a b c = refl
three false a b c = refl

two : (x a b : Bool) → ((x && a) && b) ≡ (x && (a && b))
two true a b = refl
two false a b = refl

pub check_tests_lem : (check : ℕ → ℕ) (k : ℕ) → every true (check_tests check k) ≡ check_rule check k
unfolding check_rule
check_tests_lem check k = refl

pub signal_tests_lem : (checks : ℕ) (check : ℕ → ℕ) (signal : ℕ → Signal) (k : ℕ) → every true (signal_tests checks check signal k) ≡ signal_rule checks check signal k
unfolding signal_rule_to
signal_tests_lem checks check signal k =
    rw (two _ (eqb k 0 || leb (signal (k - 1)).type (signal k).type) _, in_turn_lem (eqb k 0) (signal (k - 1)).type (signal k).type (leb (field_end (signal (k - 1))) (signal k).start), three _ (leb 1 (signal k).since && leb (signal k).since 255) _ _)

module _ (signals : ℕ) (signal : ℕ → Signal) where
  pub code_tests_lem : (code : ℕ → Code) (k : ℕ) → every true (code_tests signals signal code k) ≡ code_rule signals signal code k
  unfolding code_rule
  code_tests_lem code k =
      rw (two _ (eqb k 0 || leb (code (k - 1)).signal (code k).signal) _, in_turn_lem (eqb k 0) (code (k - 1)).signal (code k).signal (leb ((code (k - 1)).high + 2) (code k).low))

  pub route_tests_lem : (route : ℕ → Route) (k : ℕ) → every true (route_tests signals signal route k) ≡ route_rule signals signal route k
  unfolding route_rule
  route_tests_lem route k = rw (two (ltb (route k).signal signals) (leb 1 (route k).vehicle) (leb (route k).vehicle 63))

-- ---- Of a section

then_then : {A B C : Type 0} (x : Answer A) (j : A → Answer B) (k : B → Answer C) → and_then (and_then x j) k ≡ and_then x (λ a. and_then (j a) k)
then_then (gives a) j k = refl
then_then (refused n at) j k = refl

-- a part of a part
shift_twice : {A : Type 0} (a b : ℕ) (x : Answer A) → shift a (shift b x) ≡ shift (a + b) x
shift_twice a b (gives x) = refl
shift_twice a b (refused n at) = ap (refused n) (omega arith)

shift_none : {A : Type 0} (x : Answer A) → shift 0 x ≡ x
shift_none (gives x) = refl
shift_none (refused n at) = ap (refused n) (omega arith)

-- what is said of entry k, where it breaks its rule
pub record Says (rule : ℕ → Bool) (tests : ℕ → List Bool) (size base : ℕ) (fault : ℕ → Fault) : Type 0 where
  pub asks : (k : ℕ) → every true (tests k) ≡ rule k
  pub rule_is : (k : ℕ) → (fault k).rule ≡ broken (tests k)
  pub at_is : (k : ℕ) → (fault k).at ≡ base + entry size k

-- the paper's refusal of a section that does not open is 1 or 2
not_three : {A : Type 0} (limit size base : ℕ) (xs : List ℕ) (next : ℕ → Answer A) (call : ℕ → Sought Fault)
    → ((n : ℕ) → refused_three (shift base (next n)) ≡ fault_at (call n))
    → refused_three (shift base (and_then (opening limit size xs) next)) ≡ fault_at (where_open (opening limit size xs) call)
unfolding opening refuse_if
not_three limit size base xs next call follows =
    by (ltb (length xs) 2) (ltb limit (number xs 0 2)) (ltb (length xs) (entry size (number xs 0 2)))
  where
    by : (a b c : Bool)
        → let o = refuse_if a 1 0 (refuse_if b 2 0 (refuse_if c 1 0 (gives (number xs 0 2)))) in
        refused_three (shift base (and_then o next)) ≡ fault_at (where_open o call)
    by true b c = refl
    by false true c = refl
    by false false true = refl
    by false false false = follows (number xs 0 2)

module _ (limit size base : ℕ) (rule : ℕ → Bool) (xs : List ℕ) (fault : ℕ → Fault) (tests : ℕ → List Bool) (says : Says rule tests size base fault)
    (call : ℕ → Sought Fault) where
  -- after n entries, and behind them
  abbrev looked : ℕ → Sought Fault
  looked n = cond (ltb (first_bad rule n) n) (found (fault (first_bad rule n))) (call n)

  module _ {A : Type 0} (next : ℕ → Answer A) (follows : (n : ℕ) → refused_three (shift base (next n)) ≡ fault_at (call n)) where
    entries_at : (n : ℕ) → refused_three (shift base (and_then (judge_entries size rule n) next)) ≡ fault_at (looked n)
    unfolding judge_entries refuse_if
    entries_at n = by (ltb (first_bad rule n) n)
      where
        by : (b : Bool) → refused_three (shift base (and_then (refuse_if b 3 (entry size (first_bad rule n)) (gives n)) next))
            ≡ fault_at (cond b (found (fault (first_bad rule n))) (call n))
        by true = ap found (sym (says.at_is (first_bad rule n)))
        by false = follows n

    section_at : refused_three (shift base (and_then (judge_section limit size rule xs) next)) ≡ fault_at (fault_in limit size rule xs fault call)
    unfolding judge_section fault_in
    section_at =
        ap (λ x. refused_three (shift base x)) (then_then (opening limit size xs) (judge_entries size rule) next)
        ∙ not_three limit size base xs (λ n. and_then (judge_entries size rule n) next) looked entries_at

  -- where a fault is found, its rule is one that the entry breaks
  section_named : ((n : ℕ) (f : Fault) → call n ≡ found f → 1 ≤ f.rule) → (f : Fault) → fault_in limit size rule xs fault call ≡ found f → 1 ≤ f.rule
  unfolding fault_in
  section_named later f e = opened (opening limit size xs) e
    where
      by : (n : ℕ) (b : Bool) → ltb (first_bad rule n) n ≡ b → cond b (found (fault (first_bad rule n))) (call n) ≡ found f → 1 ≤ f.rule
      by n true t q =
          let is : fault (first_bad rule n) ≡ f = cc in
          let breaks = says.asks (first_bad rule n) ∙ first_fails rule n (ltb-true _ _ t) in
          omega (arith, ap (λ (x : Fault). x.rule) is, says.rule_is (first_bad rule n), (one_broken 1 (tests (first_bad rule n)) 0 0 breaks).1)
      by n false t q = later n f q

      opened : (o : Answer ℕ) → where_open o looked ≡ found f → 1 ≤ f.rule
      opened (gives n) q = by n (ltb (first_bad rule n) n) refl q
      opened (refused m at) q = absurd (let z : ◌≡◌ {A = ℕ} 0 1 = cc in omega arith)

-- ---- Of a list

module _ (base signals : ℕ) (signal : ℕ → Signal) (xs : List ℕ) where
  routes_say : Says (route_rule signals signal (route_at xs)) (route_tests signals signal (route_at xs)) route_size base (route_fault base signals signal (route_at xs))
  routes_say = record { asks = route_tests_lem signals signal (route_at xs); rule_is = λ k. refl; at_is = λ k. refl }

  ends : (n at : ℕ) (counts : Counts) (b : Bool) → refused_three (shift base (refuse_if b 4 at (gives counts))) ≡ nothing
  unfolding refuse_if
  ends n at counts true = refl
  ends n at counts false = refl

  routes_at : (size checks codes : ℕ) → refused_three (shift base (from_routes size signals signal checks codes xs)) ≡ fault_at (fault_from_routes base signals signal xs)
  unfolding from_routes fault_from_routes ending
  routes_at size checks codes = section_at _ _ _ _ _ _ _ routes_say _ _ (λ n. ends n _ _ _)

  routes_named : (f : Fault) → fault_from_routes base signals signal xs ≡ found f → 1 ≤ f.rule
  unfolding fault_from_routes
  routes_named = section_named _ _ _ _ _ _ _ routes_say _ (λ n f e. absurd (let z : ◌≡◌ {A = ℕ} 0 1 = cc in omega arith))

  codes_say : Says (code_rule signals signal (code_at xs)) (code_tests signals signal (code_at xs)) code_size base (code_fault base signals signal (code_at xs))
  codes_say = record { asks = code_tests_lem signals signal (code_at xs); rule_is = λ k. refl; at_is = λ k. refl }

-- the rest of a list, which starts so much further on
further : {A : Type 0} (a b : ℕ) (x : Answer A) {y : Sought ℕ} → refused_three (shift (a + b) x) ≡ y → refused_three (shift a (shift b x)) ≡ y
further a b x e = ap refused_three (shift_twice a b x) ∙ e

module _ (base signals : ℕ) (signal : ℕ → Signal) (xs : List ℕ) where
  codes_at : (size checks : ℕ) → refused_three (shift base (from_codes size signals signal checks xs)) ≡ fault_at (fault_from_codes base signals signal xs)
  unfolding from_codes fault_from_codes
  codes_at size checks =
      section_at _ _ _ _ _ _ _ (codes_say base signals signal xs) _ _
      (λ n. further base (entry code_size n) (from_routes size signals signal checks n (rest code_size n xs)) (routes_at _ _ _ _ size checks n))

  codes_named : (f : Fault) → fault_from_codes base signals signal xs ≡ found f → 1 ≤ f.rule
  unfolding fault_from_codes
  codes_named = section_named _ _ _ _ _ _ _ (codes_say base signals signal xs) _ (λ n. routes_named _ _ _ _)

module _ (size base checks : ℕ) (check : ℕ → ℕ) (xs : List ℕ) where
  signals_say : Says (signal_rule checks check (signal_at size xs)) (signal_tests checks check (signal_at size xs)) size base
      (signal_fault size base checks check (signal_at size xs))
  signals_say = record { asks = signal_tests_lem checks check (signal_at size xs); rule_is = λ k. refl; at_is = λ k. refl }

  signals_at_lem : refused_three (shift base (from_signals size checks check xs)) ≡ fault_at (fault_from_signals size base checks check xs)
  unfolding from_signals_to fault_from_signals
  signals_at_lem =
      section_at _ _ _ _ _ _ _ signals_say _ _
      (λ n. further base (entry size n) (from_codes size n (signal_at size xs) checks (rest size n xs)) (codes_at _ _ _ _ size checks))

  signals_named : (f : Fault) → fault_from_signals size base checks check xs ≡ found f → 1 ≤ f.rule
  unfolding fault_from_signals
  signals_named = section_named _ _ _ _ _ _ _ signals_say _ (λ n. codes_named _ _ _ _)

module _ (form : ℕ) (xs : List ℕ) where
  checks_say : Says (check_rule (check_at xs)) (check_tests (check_at xs)) check_size 0 (check_fault (check_at xs))
  checks_say = record { asks = check_tests_lem (check_at xs); rule_is = λ k. refl; at_is = λ k. omega arith }

  -- an entry is at fault exactly where judging refuses with 3, and at that offset
  pub fault_exactly : refused_three (judge form xs) ≡ fault_at (fault_of form xs)
  unfolding judge_to fault_of
  fault_exactly =
      ap refused_three (sym (shift_none (judge form xs)))
      ∙ section_at _ _ _ _ _ _ _ checks_say _ _
      (λ n. ap refused_three (shift_none (shift (entry check_size n) (from_signals (signal_size form) n (check_at xs) (rest check_size n xs)))) ∙ signals_at_lem _ (entry check_size n) _ _ _)

  -- and a rule of it is named, which it breaks: the rules count from 1
  pub rule_named : (f : Fault) → fault_of form xs ≡ found f → 1 ≤ f.rule
  unfolding fault_of
  rule_named = section_named _ _ _ _ _ _ _ checks_say _ (λ n. signals_named _ _ _ _ _)
