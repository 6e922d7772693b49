-- Request C-18: a list in either form is judged alike, at offsets that follow its entries, and its table of entries is one. Assumes nothing.
use Prim.Native.Nat.{ℕ, zero, suc, ◌+◌, ◌-◌, ◌*◌, ◌/◌, ◌≤◌, ◌<◌, min}
use mathlib.Core.Path.{◌≡◌, refl, sym, ap, ◌∙◌}
use mathlib.Core.Bool.{Bool, true, false}
use mathlib.Core.List.{List, [], ◌∷◌, ◌++◌, append-nil}
use native.Mathlib.Nat.{mul-le-mul_left, mul-add-div, mul-div_right, min-eq_left, min-eq_right, min-zero, min-le_left, min-le_right, zero-div, mul-div-le, zero-add}
use native.Mathlib.Decide.{dec_lt}
use native.Mathlib.Omega.{arith}
use lib.ListN.{length, get_or, take, drop, length-append, length-take, length-drop, get_or-append}
use lib.Seq.{length-take-le, take_at, drop_at, drop-drop, take_all, get_or-take, get_or-drop, get_or-append-add}
use lib.Dec.{ltb, leb, eqb}
use borrow.Author.Tests.{ltb-true, leb-true, eqb-false, le-ltb, lt-ltb}
use Rattle.paper.specs.Octets.{number}
use Rattle.paper.specs.Answer.{Answer, gives, refused, refuse_if, and_then, shift}
use Rattle.paper.specs.First.{first_bad}
use Rattle.paper.specs.SignalList.{Signal, Code, Route, entry, rest, check_size, code_size, route_size, most_checks, most_signals, most_codes, most_routes, check_at, signal_at, code_at, route_at, check_rule, named_rule, apart, signal_rule, signal_rule_to, code_rule, route_rule, opening, judge_entries, judge_section, Counts, ending, from_routes, from_codes, from_signals, from_signals_to, judge_to, judge_sized, signal_size, judge, SignalList, list_of, no_signal, signals_part, codes_part, under_list, under_lists, of_two, of_both, first_refused, second_refused}
use Rattle.paper.specs.Accepted.{Laid}
use Rattle.paper.specs.Forms.{signals_start, signals_from, signal_count, narrowed, dropped_from, dropped, offset_in, sized, relaid, PresentIn, Present}
use Rattle.paper.proofs.AnswerLaws.{gives_one, never_both}
use Rattle.paper.proofs.FirstLaws.{first_same, all_same}
use Rattle.paper.proofs.NumberLaws.{number_ext}
use Rattle.paper.proofs.ListLaws.{holds_of, route_kept, since_same, among_same, laid, sized_as, other_form}

-- ---- tests that agree

check_alike : (check check' : ℕ → ℕ) (n : ℕ) → ((j : ℕ) → j < n → check j ≡ check' j) → (k : ℕ) → k < n → check_rule check k ≡ check_rule check' k
unfolding check_rule
check_alike check check' n e k h = rw (e k h, e (k - 1) (omega arith))

module _ (checks : ℕ) (check check' : ℕ → ℕ) (same : (j : ℕ) → j < checks → check j ≡ check' j) where
  named_alike : (s : Signal) → named_rule checks check s ≡ named_rule checks check' s
  named_alike s = by (eqb s.check 0) refl (leb s.check checks) refl
    where
      by : (z : Bool) → eqb s.check 0 ≡ z → (l : Bool) → leb s.check checks ≡ l → named_rule checks check s ≡ named_rule checks check' s
      by true p l q = rw p
      by false p false q = rw (p, q)
      by false p true q =
          let some : s.check ≡ 0 → ⊥ = eqb-false _ _ p in
          let le : s.check ≤ checks = leb-true _ _ q in
          rw (same (s.check - 1) (omega arith))

  signal_alike : (signal signal' : ℕ → Signal) (n : ℕ) → ((i : ℕ) → i < n → signal i ≡ signal' i) → (k : ℕ) → k < n
      → signal_rule checks check signal k ≡ signal_rule checks check' signal' k
  unfolding signal_rule_to
  signal_alike signal signal' n e k h =
      rw (e k h, e (k - 1) (omega arith), named_alike (signal' k), all_same (λ j. apart (signal' k) (check j)) (λ j. apart (signal' k) (check' j)) checks (λ j l. rw (same j l)))

module _ (signals : ℕ) (signal signal' : ℕ → Signal) (same : (i : ℕ) → i < signals → signal i ≡ signal' i) where
  code_alike : (code : ℕ → Code) (k : ℕ) → code_rule signals signal code k ≡ code_rule signals signal' code k
  unfolding code_rule
  code_alike code k = by (ltb (code k).signal signals) refl
    where
      by : (b : Bool) → ltb (code k).signal signals ≡ b → code_rule signals signal code k ≡ code_rule signals signal' code k
      by true e = rw (same (code k).signal (ltb-true _ _ e))
      by false e = rw e

  route_alike : (route : ℕ → Route) (k : ℕ) → ((j : ℕ) → j < k → route_rule signals signal' route j ≡ true) → route_rule signals signal route k ≡ route_rule signals signal' route k
  unfolding route_rule
  route_alike route k before = by (ltb (route k).signal signals) refl k refl
    where
      by : (b : Bool) → ltb (route k).signal signals ≡ b → (i : ℕ) → k ≡ i → route_rule signals signal route k ≡ route_rule signals signal' route k
      by false e i q = rw e
      by true e zero q = rw (same (route k).signal (ltb-true _ _ e), q)
      by true e (suc i) q =
          let lt : (route (k - 1)).signal < signals = (route_kept signals signal' route (k - 1) (before (k - 1) (omega arith))).exists in
          rw (same (route k).signal (ltb-true _ _ e), same (route (k - 1)).signal lt)

-- ---- the sections past the signals: one list, judged by two readings of the signals

-- the same section under tests that agree
section_alike : (limit size : ℕ) (p q : ℕ → Bool) (xs : List ℕ) → ((k : ℕ) → ((j : ℕ) → j < k → q j ≡ true) → p k ≡ q k)
    → judge_section limit size p xs ≡ judge_section limit size q xs
unfolding judge_section judge_entries
section_alike limit size p q xs e = by (opening limit size xs)
  where
    by : (o : Answer ℕ) → and_then o (judge_entries size p) ≡ and_then o (judge_entries size q)
    by (gives n) = rw (first_same p q n (λ k _ before. e k before))
    by (refused m at) = refl

module _ (a : ℕ) where
  then_alike : (x : Answer ℕ) (next next' : ℕ → Answer Counts) → ((n : ℕ) → next n ≡ relaid a (λ at. at) (next' n)) → and_then x next ≡ relaid a (λ at. at) (and_then x next')
  then_alike (gives n) next next' e = e n
  then_alike (refused m at) next next' e = refl

  shift_alike : (by : ℕ) (x y : Answer Counts) → x ≡ relaid a (λ at. at) y → shift by x ≡ relaid a (λ at. at) (shift by y)
  shift_alike by x (gives n) e = rw e
  shift_alike by x (refused m at) e = rw e

  module _ (b signals : ℕ) (signal signal' : ℕ → Signal) (same : (i : ℕ) → i < signals → signal i ≡ signal' i) (checks : ℕ) where
    routes_alike : (codes : ℕ) (xs : List ℕ) → from_routes a signals signal checks codes xs ≡ relaid a (λ at. at) (from_routes b signals signal' checks codes xs)
    unfolding from_routes ending refuse_if
    routes_alike codes xs =
        rw (section_alike most_routes route_size (route_rule signals signal (route_at xs)) (route_rule signals signal' (route_at xs)) xs (λ k before. route_alike signals signal signal' same (route_at xs) k before))
        (then_alike (judge_section most_routes route_size (route_rule signals signal' (route_at xs)) xs) (ending a signals signal checks codes xs) (ending b signals signal' checks codes xs) (λ n. by n (ltb (entry route_size n) (length xs)) refl))
      where
        by : (n : ℕ) (t : Bool) → ltb (entry route_size n) (length xs) ≡ t → ending a signals signal checks codes xs n ≡ relaid a (λ at. at) (ending b signals signal' checks codes xs n)
        by n true e = rw e
        by n false e = rw (e, since_same signals signal' signal same)

    codes_alike : (xs : List ℕ) → from_codes a signals signal checks xs ≡ relaid a (λ at. at) (from_codes b signals signal' checks xs)
    unfolding from_codes
    codes_alike xs =
        rw (section_alike most_codes code_size (code_rule signals signal (code_at xs)) (code_rule signals signal' (code_at xs)) xs (λ k _. code_alike signals signal signal' same (code_at xs) k))
        (then_alike (judge_section most_codes code_size (code_rule signals signal' (code_at xs)) xs) _ _
        (λ n. shift_alike (entry code_size n) _ (from_routes b signals signal' checks n (rest code_size n xs)) (routes_alike n (rest code_size n xs))))

-- ---- the sections up to the signals: two lists

-- a section whose entries are present, as its count says
opening_there : (limit size s : ℕ) (t : List ℕ) → number t 0 2 ≡ s → entry size s ≤ length t → opening limit size t ≡ refuse_if (ltb limit s) 2 0 (gives s)
unfolding opening refuse_if
opening_there limit size s t c h = rw (le-ltb (length t) 2 (omega arith), c, le-ltb (length t) (entry size s) h)

-- two sections of s entries, of a and of b octets, under tests that agree, and what follows each
module _ (limit a b size s : ℕ) (p q : ℕ → Bool) (t u : List ℕ) (next next' : ℕ → Answer Counts) (f : ℕ → ℕ)
    (t-count : number t 0 2 ≡ s) (u-count : number u 0 2 ≡ s) (t-there : entry a s ≤ length t) (u-there : entry b s ≤ length u)
    (tests : (k : ℕ) → k < s → ((j : ℕ) → j < k → q j ≡ true) → p k ≡ q k)
    (start : f 0 ≡ 0) (entries : (k : ℕ) → k < s → f (entry b k) ≡ entry a k) (after : next s ≡ relaid size f (next' s)) where
  part_alike : and_then (judge_section limit a p t) next ≡ relaid size f (and_then (judge_section limit b q u) next')
  unfolding judge_section judge_entries refuse_if
  part_alike = rw (opening_there limit a s t t-count t-there, opening_there limit b s u u-count u-there) (by (ltb limit s))
    where
      found : first_bad p s ≡ first_bad q s
      found = first_same p q s tests

      inner : (r : Bool) → ltb (first_bad q s) s ≡ r
          → and_then (refuse_if r 3 (entry a (first_bad q s)) (gives s)) next ≡ relaid size f (and_then (refuse_if r 3 (entry b (first_bad q s)) (gives s)) next')
      inner true e = ap (refused 3) (sym (entries (first_bad q s) (ltb-true _ _ e)))
      inner false e = after

      by : (r : Bool) → and_then (and_then (refuse_if r 2 0 (gives s)) (judge_entries a p)) next ≡ relaid size f (and_then (and_then (refuse_if r 2 0 (gives s)) (judge_entries b q)) next')
      by true = ap (refused 2) (sym start)
      by false = rw found (inner (ltb (first_bad q s) s) refl)

-- ---- offsets

module _ (a b base n : ℕ) (pos : 0 < b) where
  -- up to the signals' count they stay
  pub offset_before : (at : ℕ) → at ≤ base + 2 → offset_in a b base n at ≡ at
  unfolding offset_in
  offset_before at h = let z : at - (base + 2) ≡ 0 = omega arith in rw (z, zero-div, min-zero) (omega arith)

  -- an entry goes to its place
  pub offset_entry : (k : ℕ) → k < n → offset_in a b base n (base + entry b k) ≡ base + entry a k
  unfolding offset_in
  offset_entry k h =
      let z : base + (2 + b * k) - (base + 2) ≡ b * k = omega arith in
      let m : min n k ≡ k = min-eq_right (omega arith) in
      rw (z, mul-div_right k pos, m) (omega arith)

  -- and what stands past the entries moves with their end
  pub offset_past : (r : ℕ) → offset_in a b base n (base + (entry b n + r)) ≡ base + (entry a n + r)
  unfolding offset_in
  offset_past r =
      let z : base + (2 + b * n + r) - (base + 2) ≡ b * n + r = omega arith in
      let m : min n (n + r / b) ≡ n = min-eq_left (omega arith) in
      rw (z, mul-add-div pos n r, m) (omega arith)

  -- they move with the base
  pub offset_base : (at : ℕ) → offset_in a b base n (base + at) ≡ base + offset_in a b 0 n at
  unfolding offset_in
  offset_base at =
      let z : base + at - (base + 2) ≡ at - (0 + 2) = omega arith in
      let k = min n ((at - (0 + 2)) / b) in
      let le : b * k ≤ b * ((at - (0 + 2)) / b) = mul-le-mul_left b (min-le_right n ((at - (0 + 2)) / b)) in
      let most : b * ((at - (0 + 2)) / b) ≤ at - (0 + 2) = mul-div-le (at - (0 + 2)) b in
      rw z (omega arith)

-- ---- two lists that carry the same, with signal entries of a and of b octets

pub record Alike (a b : ℕ) (xs ys : List ℕ) : Type 0 where
  pub checks : number ys 0 2 ≡ number xs 0 2
  pub checks_there : signals_start xs ≤ length xs
  pub checks_here : signals_start xs ≤ length ys
  pub check : (k : ℕ) → k < number xs 0 2 → check_at xs k ≡ check_at ys k
  pub signals : number (drop (signals_start xs) ys) 0 2 ≡ signal_count xs
  pub signals_there : entry a (signal_count xs) ≤ length (signals_from xs)
  pub signals_here : entry b (signal_count xs) ≤ length (drop (signals_start xs) ys)
  pub signal : (k : ℕ) → k < signal_count xs → signal_at a (signals_from xs) k ≡ signal_at b (drop (signals_start xs) ys) k
  pub past : drop (entry a (signal_count xs)) (signals_from xs) ≡ drop (entry b (signal_count xs)) (drop (signals_start xs) ys)

-- they are judged alike, to the number, the counts and the version; offsets follow the entries
module _ (a b : ℕ) (pos : 0 < b) (xs ys : List ℕ) (h : Alike a b xs ys) where
  shifted : (by : ℕ) (f : ℕ → ℕ) (x y : Answer Counts) (g : ℕ → ℕ) (to : ℕ) → x ≡ relaid a g y → ((at : ℕ) → f (by + at) ≡ to + g at) → shift to x ≡ relaid a f (shift by y)
  shifted by f x (gives m) g to e k = rw e
  shifted by f x (refused m at) g to e k = rw e (ap (refused m) (sym (k at)))

  signals_alike : from_signals a (number xs 0 2) (check_at xs) (signals_from xs) ≡ relaid a (offset_in a b 0 (signal_count xs)) (from_signals b (number xs 0 2) (check_at ys) (drop (signals_start xs) ys))
  unfolding from_signals_to
  signals_alike =
      let c = number xs 0 2 in
      let n = signal_count xs in
      let us = drop (signals_start xs) ys in
      let past : from_codes a n (signal_at a (signals_from xs)) c (rest a n (signals_from xs)) ≡ relaid a (λ at. at) (from_codes b n (signal_at b us) c (rest b n us)) =
      rw h.past (codes_alike a b n (signal_at a (signals_from xs)) (signal_at b us) h.signal c (rest b n us)) in
      part_alike most_signals a b a n _ _ (signals_from xs) (drop (signals_start xs) ys) _ _ (offset_in a b 0 n) refl h.signals h.signals_there h.signals_here
      (λ k lt _. signal_alike c (check_at xs) (check_at ys) h.check (signal_at a (signals_from xs)) (signal_at b (drop (signals_start xs) ys)) n h.signal k lt)
      (offset_before a b 0 n pos 0 (omega arith))
      (λ k lt. simp zero-add at (offset_entry a b 0 n pos k lt))
      (shifted (entry b n) (offset_in a b 0 n) _ (from_codes b n (signal_at b us) c (rest b n us)) (λ at. at) (entry a n)
      past
      (λ at. simp zero-add at (offset_past a b 0 n pos at)))

  pub judged_alike : judge_sized a xs ≡ relaid a (offset_in a b (signals_start xs) (signal_count xs)) (judge_sized b ys)
  unfolding judge_to
  judged_alike =
      let c = number xs 0 2 in
      let n = signal_count xs in
      part_alike most_checks check_size check_size a c _ _ xs ys _ _ (offset_in a b (signals_start xs) n) refl h.checks h.checks_there h.checks_here
      (λ k lt _. check_alike (check_at xs) (check_at ys) c h.check k lt)
      (offset_before a b (signals_start xs) n pos 0 (omega arith))
      (λ k lt. offset_before a b (signals_start xs) n pos (entry check_size k) (omega arith))
      (shifted (signals_start xs) (offset_in a b (signals_start xs) n) _ (from_signals b c (check_at ys) (drop (signals_start xs) ys)) (offset_in a b 0 n) (signals_start xs) signals_alike (λ at. offset_base a b (signals_start xs) n pos at))

-- ---- serial numbers dropped

pub narrowed_length : (n : ℕ) (zs : List ℕ) → 18 * n ≤ length zs → length (narrowed n zs) ≡ 16 * n
unfolding narrowed
narrowed_length zero zs h = refl
narrowed_length (suc n) zs h =
    let l : length (take 16 zs) ≡ 16 = length-take-le 16 zs (omega arith) in
    let r : length (narrowed n (drop 18 zs)) ≡ 16 * n = narrowed_length n (drop 18 zs) (omega (arith, length-drop 18 zs)) in
    omega (arith, length-append (take 16 zs) (narrowed n (drop 18 zs)))

narrowed_at : (n : ℕ) (zs : List ℕ) → 18 * n ≤ length zs → (k i : ℕ) → k < n → i < 16 → get_or (narrowed n zs) (16 * k + i) 0 ≡ get_or zs (18 * k + i) 0
unfolding narrowed
narrowed_at zero zs h k i lt s = absurd (omega arith)
narrowed_at (suc n) zs h zero i lt s =
    let y : 16 * 0 + i ≡ i = omega arith in
    rw y (get_or-append (take 16 zs) (narrowed n (drop 18 zs)) 0 i (omega (arith, length-take-le 16 zs (omega arith))) ∙ get_or-take 16 zs i 0 s)
narrowed_at (suc n) zs h (suc k) i lt s =
    let y : 16 * suc k + i ≡ length (take 16 zs) + (16 * k + i) = omega (arith, length-take-le 16 zs (omega arith)) in
    let z : 18 * suc k + i ≡ 18 + (18 * k + i) = omega arith in
    rw (y, z)
    (get_or-append-add (take 16 zs) (narrowed n (drop 18 zs)) (16 * k + i) 0
    ∙ narrowed_at n (drop 18 zs) (omega (arith, length-drop 18 zs)) k i (omega arith) s
    ∙ get_or-drop 18 zs (18 * k + i) 0)

-- the same octets are the same signal
signal_ext : (a b : ℕ) (t u : List ℕ) (k : ℕ) → ((i : ℕ) → i < 16 → get_or t (entry a k + i) 0 ≡ get_or u (entry b k + i) 0) → signal_at a t k ≡ signal_at b u k
unfolding signal_at
signal_ext a b t u k h = cc (number_ext t u (entry a k) (entry b k) 2 (λ i lt. h i (omega arith)), h 2 (omega arith), h 3 (omega arith), h 4 (omega arith), h 5 (omega arith), part 6 4 (omega arith), part 10 6 (omega arith))
  where
    part : (o m : ℕ) → o + m ≤ 16 → number t (entry a k + o) m ≡ number u (entry b k + o) m
    part o m l = number_ext t u (entry a k + o) (entry b k + o) m (λ i lt.
        let y : entry a k + o + i ≡ entry a k + (o + i) = omega arith in
        let z : entry b k + o + i ≡ entry b k + (o + i) = omega arith in
        rw (y, z) (h (o + i) (omega arith)))

-- the rest of a list from the signals' count on: the count stays in front, the entries m and what is past them stand behind
module _ (t m r : List ℕ) (there : 2 ≤ length t) where
  pub count_front : take 2 (take 2 t ++ (m ++ r)) ≡ take 2 t
  count_front = take_at (take 2 t) (m ++ r) 2 (length-take-le 2 t there)

  pub count_behind : drop 2 (take 2 t ++ (m ++ r)) ≡ m ++ r
  count_behind = drop_at (take 2 t) (m ++ r) 2 (length-take-le 2 t there)

  pub count_past : (k : ℕ) → length m ≡ k → drop (2 + k) (take 2 t ++ (m ++ r)) ≡ r
  count_past k l = sym (drop-drop k 2 (take 2 t ++ (m ++ r))) ∙ ap (drop k) count_behind ∙ drop_at m r k l

  pub count_same : number (take 2 t ++ (m ++ r)) 0 2 ≡ number t 0 2
  count_same = number_ext (take 2 t ++ (m ++ r)) t 0 0 2 (λ i lt.
      let z : 0 + i ≡ i = omega arith in
      rw z (get_or-append (take 2 t) (m ++ r) 0 i (omega (arith, length-take-le 2 t there)) ∙ get_or-take 2 t i 0 lt))

  pub count_length : length (take 2 t ++ (m ++ r)) ≡ 2 + length m + length r
  count_length = omega (arith, length-take-le 2 t there, length-append (take 2 t) (m ++ r), length-append m r)

pub from_count : (n : ℕ) (t : List ℕ) → 2 ≤ length t → number (dropped_from n t) 0 2 ≡ number t 0 2
unfolding dropped_from
from_count n t there = count_same t (narrowed n (drop 2 t)) (drop (entry 18 n) t) there

module _ (n : ℕ) (t : List ℕ) (there : entry 18 n ≤ length t) where
  kept_long : 18 * n ≤ length (drop 2 t)
  kept_long = omega (arith, length-drop 2 t)

  head_long : length (take 2 t) ≡ 2
  head_long = length-take-le 2 t (omega arith)

  pub middle_long : length (narrowed n (drop 2 t)) ≡ 16 * n
  middle_long = narrowed_length n (drop 2 t) kept_long

  pub from_length : length (dropped_from n t) + 2 * n ≡ length t
  unfolding dropped_from
  from_length = omega (arith, middle_long, length-drop (entry 18 n) t, count_length t (narrowed n (drop 2 t)) (drop (entry 18 n) t) (omega arith))

  from_signal : (k : ℕ) → k < n → signal_at 18 t k ≡ signal_at 16 (dropped_from n t) k
  unfolding dropped_from
  from_signal k lt = signal_ext 18 16 t (dropped_from n t) k (λ i s.
      let y : entry 18 k + i ≡ 2 + (18 * k + i) = omega arith in
      let z : entry 16 k + i ≡ length (take 2 t) + (16 * k + i) = omega (arith, head_long) in
      rw (y, z)
      (sym (get_or-append-add (take 2 t) (narrowed n (drop 2 t) ++ drop (entry 18 n) t) (16 * k + i) 0
      ∙ get_or-append (narrowed n (drop 2 t)) (drop (entry 18 n) t) 0 (16 * k + i) (omega (arith, middle_long))
      ∙ narrowed_at n (drop 2 t) kept_long k i lt s
      ∙ get_or-drop 2 t (18 * k + i) 0)))

  from_past : drop (entry 18 n) t ≡ drop (entry 16 n) (dropped_from n t)
  unfolding dropped_from
  from_past = sym (count_past t (narrowed n (drop 2 t)) (drop (entry 18 n) t) (omega arith) (16 * n) middle_long)

-- what stands before the signals' count stays, so that the count and the rest from there are found again
module _ (xs u : List ℕ) (there : signals_start xs ≤ length xs) where
  front_long : length (take (signals_start xs) xs) ≡ signals_start xs
  front_long = length-take-le (signals_start xs) xs there

  front_at : (i : ℕ) → i < signals_start xs → get_or (take (signals_start xs) xs ++ u) i 0 ≡ get_or xs i 0
  front_at i lt = get_or-append (take (signals_start xs) xs) u 0 i (omega (arith, front_long)) ∙ get_or-take (signals_start xs) xs i 0 lt

  front_count : number (take (signals_start xs) xs ++ u) 0 2 ≡ number xs 0 2
  front_count = number_ext (take (signals_start xs) xs ++ u) xs 0 0 2 (λ i lt. front_at (0 + i) (omega arith))

  pub start_same : signals_start (take (signals_start xs) xs ++ u) ≡ signals_start xs
  start_same = ap (entry check_size) front_count

  pub front_same : take (signals_start xs) (take (signals_start xs) xs ++ u) ≡ take (signals_start xs) xs
  front_same = take_at (take (signals_start xs) xs) u (signals_start xs) front_long

  pub behind_same : drop (signals_start xs) (take (signals_start xs) xs ++ u) ≡ u
  behind_same = drop_at (take (signals_start xs) xs) u (signals_start xs) front_long

  pub whole_length : length (take (signals_start xs) xs ++ u) ≡ signals_start xs + length u
  whole_length = omega (arith, front_long, length-append (take (signals_start xs) xs) u)

-- so it is with the serial numbers dropped
module _ (xs : List ℕ) (there : signals_start xs ≤ length xs) where
  dropped_at : (i : ℕ) → i < signals_start xs → get_or (dropped xs) i 0 ≡ get_or xs i 0
  unfolding dropped
  dropped_at = front_at xs _ there

  dropped_checks : number (dropped xs) 0 2 ≡ number xs 0 2
  unfolding dropped
  dropped_checks = front_count xs _ there

  pub dropped_start : signals_start (dropped xs) ≡ signals_start xs
  unfolding dropped
  dropped_start = start_same xs _ there

  pub dropped_front : take (signals_start xs) (dropped xs) ≡ take (signals_start xs) xs
  unfolding dropped
  dropped_front = front_same xs _ there

  pub dropped_behind : drop (signals_start xs) (dropped xs) ≡ dropped_from (signal_count xs) (signals_from xs)
  unfolding dropped
  dropped_behind = behind_same xs _ there

  pub dropped_whole : length (dropped xs) ≡ signals_start xs + length (dropped_from (signal_count xs) (signals_from xs))
  unfolding dropped
  dropped_whole = whole_length xs _ there

-- a form 2 list whose checks and signals are present carries the same with the serial numbers dropped
pub dropped_alike : (xs : List ℕ) → Present xs → Alike 18 16 xs (dropped xs)
unfolding check_at
dropped_alike xs h =
    let n = signal_count xs in
    let t = signals_from xs in
    let tail_is = dropped_behind xs h.checks in
    record {
      checks = dropped_checks xs h.checks;
      checks_there = h.checks;
      checks_here = omega (arith, dropped_whole xs h.checks);
      check = λ k lt. number_ext xs (dropped xs) (entry check_size k) (entry check_size k) 2 (λ i l. sym (dropped_at xs h.checks (entry check_size k + i) (omega arith)));
      signals = rw tail_is (from_count n t (omega (arith, h.signals)));
      signals_there = h.signals;
      signals_here = rw tail_is (omega (arith, from_length n t h.signals, h.signals));
      signal = λ k lt. rw tail_is (from_signal n t h.signals k lt);
      past = rw tail_is (from_past n t h.signals);
    }

-- "offsets of refusals follow the longer entries": the same number, counts and version, at the offset that the entry has in form 2
pub form_2 : (xs : List ℕ) → Present xs → judge 2 xs ≡ relaid 18 (offset_in 18 16 (signals_start xs) (signal_count xs)) (judge 1 (dropped xs))
unfolding signal_size
form_2 xs h = judged_alike 18 16 (omega arith) xs (dropped xs) (dropped_alike xs h)

-- an accepted list has them present, and is reported with its own counts
pub record Counted (octets : ℕ) (xs : List ℕ) (n : Counts) : Type 0 where
  pub checks : n.checks ≡ number xs 0 2
  pub signals : n.signals ≡ signal_count xs
  pub size : n.size ≡ octets
  pub present : PresentIn octets xs

pub counted : (form : ℕ) (xs : List ℕ) (n : Counts) → judge form xs ≡ gives n → Counted (signal_size form) xs n
counted form xs n e =
    let h = laid form xs n e in
    let c : n.checks ≡ number xs 0 2 = h.checks.opens.count in
    let z : n.size ≡ signal_size form = sym (sized_as (signal_size form) xs n e) in
    let s : n.signals ≡ signal_count xs = rw c at h.signals.opens.count in
    record {
      checks = c;
      signals = s;
      size = z;
      present = record { checks = rw c at h.checks.opens.present; signals = rw (c, z, s) at h.signals.opens.present };
    }

pub accepted_present : (xs : List ℕ) (n : Counts) → judge 2 xs ≡ gives n → Present xs
unfolding signal_size
accepted_present xs n e = (counted 2 xs n e).present

-- "A form 2 list is accepted exactly if it is with the serial numbers dropped": one way
pub accepted_dropped : (xs : List ℕ) (n : Counts) → judge 2 xs ≡ gives n → judge 1 (dropped xs) ≡ gives (sized 16 n)
unfolding signal_size
accepted_dropped xs n e = by (judge 1 (dropped xs)) refl
  where
    f : ℕ → ℕ
    f = offset_in 18 16 (signals_start xs) (signal_count xs)

    told : gives n ≡ relaid 18 f (judge 1 (dropped xs))
    told = sym e ∙ form_2 xs (accepted_present xs n e)

    by : (y : Answer Counts) → judge 1 (dropped xs) ≡ y → y ≡ gives (sized 16 n)
    by (gives m) q =
        let w : gives n ≡ gives (sized 18 m) = rw q at told in
        let z : 16 ≡ m.size = sized_as 16 (dropped xs) m q in
        let u : n ≡ sized 18 m = gives_one (gives n) n (sized 18 m) refl w in
        rw u (ap (λ (x : ℕ). gives (sized x m)) (sym z))
    by (refused k at) q = absurd (never_both (gives n) n k (f at) refl (rw q at told))

-- the other way: with the serial numbers dropped it is accepted only if they were all there
narrowed_most : (n : ℕ) (zs : List ℕ) → (length (narrowed n zs) ≤ 16 * n) × (length (narrowed n zs) ≤ length zs)
unfolding narrowed
narrowed_most zero zs = (omega arith, omega arith)
narrowed_most (suc n) zs =
    let r = narrowed_most n (drop 18 zs) in
    let l = length-append (take 16 zs) (narrowed n (drop 18 zs)) in
    let d = length-drop 18 zs in
    let w : length (take 16 zs) ≤ 16 = rw length-take (min-le_left 16 (length zs)) in
    let v : length (take 16 zs) ≤ length zs = rw length-take (min-le_right 16 (length zs)) in
    (omega arith, elim (dec_lt (length zs) 18) [ yes h ↦ omega arith | no h ↦ omega arith ])

-- where the signals are not all present, nothing is left past them
short_most : (n : ℕ) (t : List ℕ) → length t < entry 18 n → (length (dropped_from n t) ≤ entry 16 n) × (length (dropped_from n t) ≤ length t)
unfolding dropped_from
short_most n t h =
    let r = narrowed_most n (drop 2 t) in
    let l = length-append (take 2 t) (narrowed n (drop 2 t) ++ drop (entry 18 n) t) in
    let m = length-append (narrowed n (drop 2 t)) (drop (entry 18 n) t) in
    let d = length-drop 2 t in
    let e = length-drop (entry 18 n) t in
    let w : length (take 2 t) ≤ 2 = rw length-take (min-le_left 2 (length t)) in
    let v : length (take 2 t) ≤ length t = rw length-take (min-le_right 2 (length t)) in
    (omega arith, elim (dec_lt (length t) 2) [ yes h ↦ omega arith | no h ↦ omega arith ])

short_same : (xs : List ℕ) → length xs < signals_start xs → dropped xs ≡ xs
unfolding dropped
short_same xs h =
    let t = signals_from xs in
    let z : length t ≡ 0 = omega (arith, length-drop (signals_start xs) xs) in
    let s = short_most (signal_count xs) t (omega arith) in
    let n : dropped_from (signal_count xs) t ≡ [] = nothing _ (omega arith) in
    rw (take_all (signals_start xs) xs (omega arith), n) (append-nil xs)
  where
    nothing : (l : List ℕ) → length l ≤ 0 → l ≡ []
    nothing [] e = refl
    nothing (x ∷ l) e = absurd (omega arith)

dropped_present : (xs : List ℕ) (m : Counts) → judge 1 (dropped xs) ≡ gives m → Present xs
unfolding signal_size
dropped_present xs m e = elim (dec_lt (length xs) (signals_start xs)) [
  | yes short ↦ let h = laid 1 xs m (rw (short_same xs short) at e) in
      let c : m.checks ≡ number xs 0 2 = h.checks.opens.count in
      absurd (omega (arith, rw c at h.checks.opens.present))
  | no far ↦ by (omega arith)
]
  where
    by : signals_start xs ≤ length xs → Present xs
    by there =
        let h = laid 1 (dropped xs) m e in
        let t = signals_from xs in
        let n = signal_count xs in
        let u = dropped_from n t in
        let c : m.checks ≡ number xs 0 2 = h.checks.opens.count ∙ dropped_checks xs there in
        let z : m.size ≡ 16 = sym (sized_as 16 (dropped xs) m e) in
        let s : m.signals ≡ number u 0 2 = rw (c, dropped_behind xs there) at h.signals.opens.count in
        let p : entry 16 m.signals ≤ length u = rw (c, z, dropped_behind xs there) at h.signals.opens.present in
        let q : 2 ≤ length (drop (entry 16 m.signals) u) = rw (c, z, dropped_behind xs there) at (le_of_codes h) in
        elim (dec_lt (length t) (entry 18 n)) [
          | yes short ↦ absurd (not_all n t m.signals refl short s p q)
          | no far ↦ record { checks = there; signals = omega arith }
        ]
      where
        le_of_codes : Laid (dropped xs) m → 2 ≤ length (codes_part (dropped xs) m)
        le_of_codes h = omega (arith, h.codes.opens.present)

        not_all : (n : ℕ) (t : List ℕ) (k : ℕ) → n ≡ number t 0 2 → length t < entry 18 n → k ≡ number (dropped_from n t) 0 2 → entry 16 k ≤ length (dropped_from n t)
            → 2 ≤ length (drop (entry 16 k) (dropped_from n t)) → ⊥
        not_all n t k c short s p q =
            let w = short_most n t short in
            let e : k ≡ n = s ∙ from_count n t (omega arith) ∙ sym c in
            omega (arith, length-drop (entry 16 k) (dropped_from n t))

pub dropped_accepted : (xs : List ℕ) (m : Counts) → judge 1 (dropped xs) ≡ gives m → judge 2 xs ≡ gives (sized 18 m)
dropped_accepted xs m e = form_2 xs (dropped_present xs m e) ∙ ap (relaid 18 (offset_in 18 16 (signals_start xs) (signal_count xs))) e

-- "and then gives the same answers everywhere": it is one table of entries, by which every call goes
pub same_table : (xs : List ℕ) (n : Counts) → judge 2 xs ≡ gives n → list_of xs n ≡ list_of (dropped xs) (sized 16 n)
unfolding signal_size
same_table xs n e =
    let a = dropped_alike xs (accepted_present xs n e) in
    let h = counted 2 xs n e in
    let c = h.checks in
    let z = h.size in
    let s = h.signals in
    let past : codes_part xs n ≡ codes_part (dropped xs) (sized 16 n) = rw (z, s, c) a.past in
    let check = among_same n.checks (check_at xs) (check_at (dropped xs)) 0 (λ j lt. a.check j (rw c at lt)) in
    let signal = among_same n.signals (signal_at n.size (signals_part xs n)) (signal_at 16 (signals_part (dropped xs) n)) no_signal
    (λ k lt. rw (z, c) (a.signal k (rw s at lt))) in
    cc (check, signal, ap code_at past, ap (λ (t : List ℕ). route_at (rest code_size n.codes t)) past)

-- so every call that goes by a list, or by two, answers the same
pub same_answers : {A : Type 0} (xs : List ℕ) (n : Counts) (call : SignalList → Answer A) → judge 2 xs ≡ gives n
    → under_list 2 xs call ≡ under_list 1 (dropped xs) call
same_answers xs n call e = rw (e, accepted_dropped xs n e) (ap call (same_table xs n e))

pub same_answers_first : {A : Type 0} (xs : List ℕ) (n : Counts) (form : ℕ) (ys : List ℕ) (call : SignalList → SignalList → A) → judge 2 xs ≡ gives n
    → under_lists 2 xs form ys call ≡ under_lists 1 (dropped xs) form ys call
same_answers_first xs n form ys call e =
    rw (e, accepted_dropped xs n e) (ap (λ (l : SignalList). of_two (judge form ys) second_refused (λ m. of_both (call l (list_of ys m)))) (same_table xs n e))

pub same_answers_second : {A : Type 0} (form : ℕ) (xs ys : List ℕ) (n : Counts) (call : SignalList → SignalList → A) → judge 2 ys ≡ gives n
    → under_lists form xs 2 ys call ≡ under_lists form xs 1 (dropped ys) call
same_answers_second form xs ys n call e =
    rw (e, accepted_dropped ys n e) (ap (λ (l : SignalList). of_two (judge form xs) first_refused (λ m. of_both (call (list_of xs m) l))) (same_table ys n e))

-- and of a list that is refused, the refusal's number is the same and its offset follows the longer entries, whatever is called
module _ (xs : List ℕ) (m at : ℕ) (there : Present xs) (e : judge 1 (dropped xs) ≡ refused m at) where
  refused_2 : judge 2 xs ≡ refused m (offset_in 18 16 (signals_start xs) (signal_count xs) at)
  refused_2 = rw e at (form_2 xs there)

  pub same_refusal : {A : Type 0} (call : SignalList → Answer A) → under_list 2 xs call ≡ refused m (offset_in 18 16 (signals_start xs) (signal_count xs) at)
  same_refusal call = rw refused_2

  pub same_refusal_first : {A : Type 0} (form : ℕ) (ys : List ℕ) (call : SignalList → SignalList → A)
      → under_lists 2 xs form ys call ≡ first_refused m (offset_in 18 16 (signals_start xs) (signal_count xs) at)
  same_refusal_first form ys call = rw refused_2

  pub same_refusal_second : {A : Type 0} (form : ℕ) (ys : List ℕ) (n : Counts) (call : SignalList → SignalList → A) → judge form ys ≡ gives n
      → under_lists form ys 2 xs call ≡ second_refused m (offset_in 18 16 (signals_start xs) (signal_count xs) at)
  same_refusal_second form ys n call accepted = rw (accepted, refused_2)

-- ---- what the laws above leave out

cut_section : (limit size : ℕ) (ok : ℕ → Bool) (xs : List ℕ) → number xs 0 2 ≤ limit → 2 ≤ length xs → length xs < entry size (number xs 0 2)
    → judge_section limit size ok xs ≡ refused 1 0
unfolding judge_section opening refuse_if
cut_section limit size ok xs few counted cut = rw (le-ltb (length xs) 2 counted, le-ltb limit (number xs 0 2) few, lt-ltb (length xs) (entry size (number xs 0 2)) cut) refl

-- a list that ends inside a signal entry, in its serial number too, is refused 1 at the signals' count, where its checks keep their rules and that
-- count its limit
pub cut_signals : (form : ℕ) (xs : List ℕ) (c : ℕ) → judge_section most_checks check_size (check_rule (check_at xs)) xs ≡ gives c
    → signal_count xs ≤ most_signals → 2 ≤ length (signals_from xs) → length (signals_from xs) < entry (signal_size form) (signal_count xs)
    → judge form xs ≡ refused 1 (signals_start xs)
unfolding judge_to from_signals_to
cut_signals form xs c checks few counted cut =
    let q : c ≡ number xs 0 2 = (holds_of _ _ _ _ _ checks).opens.count in
    rw (checks, q, cut_section most_signals (signal_size form) _ (signals_from xs) few counted cut) (ap (refused 1) (omega arith))

-- any number but 2 says form 1, to every call
pub said_otherwise : {A : Type 0} (form : ℕ) (xs : List ℕ) (call : SignalList → Answer A) → (form ≡ 2 → ⊥) → under_list form xs call ≡ under_list 1 xs call
unfolding signal_size
said_otherwise form xs call ne = rw (other_form form ne) refl
