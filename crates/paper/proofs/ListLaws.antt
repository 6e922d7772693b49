-- What an accepted list keeps: one law per section, in numbers and orders, that what keeps it is accepted, and what follows for two
-- entries. Assumes nothing.
use Prim.Native.Nat.{ℕ, zero, suc, ◌+◌, ◌-◌, ◌*◌, ◌≤◌, ◌<◌, zero-le}
use mathlib.Core.Path.{◌≡◌, refl, sym, ap, ◌∙◌, subst, fun_ext}
use mathlib.Core.Logic.{◌⊎◌, inl, inr, ⊎_elim}
use mathlib.Core.Bool.{Bool, true, false, not, cond, ◌&&◌, ◌||◌}
use mathlib.Core.List.{List}
use native.Mathlib.Nat.{lt_irrefl, le_refl, le_of_lt, mul-le-mul_left, add-zero, add-suc}
use native.Mathlib.Decide.{dec_lt, ℕ_discrete}
use native.Mathlib.Omega.{arith}
use lib.ListN.{length, length-drop}
use lib.Dec.{ltb, leb, eqb}
use borrow.Author.Tests.{ltb-true, ltb-false, leb-true, eqb-true, eqb-false, le-ltb, lt-ltb, ne_eqb, not-true}
use Rattle.paper.specs.Octets.{number}
use Rattle.paper.specs.Answer.{Answer, gives, refused, refuse_if, and_then, shift}
use Rattle.paper.specs.First.{first_bad}
use Rattle.paper.specs.SignalList.{Signal, Code, Route, field_end, route_end, entry, rest, check_size, signal_size, code_size, route_size, most_checks, most_signals, most_codes, most_routes, check_at, signal_at, code_at, route_at, check_rule, place_rule, named_rule, order_rule, apart, signal_rule, signal_rule_to, code_rule, route_rule, opening, judge_entries, judge_section, greatest_since, Counts, ending, from_routes, from_codes, from_signals, from_signals_to, judge, judge_to, judge_sized, among, no_signal, SignalList, version, list_of, signals_part, codes_part, routes_part}
use Rattle.paper.specs.Accepted.{Opened, Holds, CheckKept, Placed, CheckNamed, Follows, SignalKept, CodeKept, RouteKept, Kept, Sized, signals_at, Laid, RefusedWithin}
use Rattle.bools.proofs.Tests.{both, either, other}
use Rattle.paper.proofs.AnswerLaws.{not_refused, and_then_lem, not_shifted, gives_one}
use Rattle.paper.proofs.FirstLaws.{first_passed, first_none, all_at, greatest_same}

-- ---- a section

pub opened_of : (limit size : ℕ) (xs : List ℕ) (n : ℕ) → opening limit size xs ≡ gives n → Opened limit size xs n
unfolding opening
opened_of limit size xs n e =
    let p = not_refused _ _ _ _ _ e in
    let q = not_refused _ _ _ _ _ p.1 in
    let r = not_refused _ _ _ _ _ q.1 in
    let c : n ≡ number xs 0 2 = cc r.1 in
    record { count = c; within = rw c (ltb-false _ _ q.0); present = rw c (ltb-false _ _ r.0) }

entries_of : (size : ℕ) (rule : ℕ → Bool) (m n : ℕ) → judge_entries size rule m ≡ gives n → (m ≡ n) × ((k : ℕ) → k < m → rule k ≡ true)
unfolding judge_entries
entries_of size rule m n e =
    let p = not_refused _ _ _ _ _ e in
    let le : m ≤ first_bad rule m = ltb-false _ _ p.0 in
    (cc p.1, λ k h. first_passed rule m k (omega arith))

pub holds_of : (limit size : ℕ) (rule : ℕ → Bool) (xs : List ℕ) (n : ℕ) → judge_section limit size rule xs ≡ gives n → Holds limit size rule xs n
unfolding judge_section
holds_of limit size rule xs n e =
    let o = and_then_lem (opening limit size xs) (judge_entries size rule) n e in
    let p = entries_of size rule o.0 n o.1.1 in
    record { opens = opened_of limit size xs n (rw p.0 at o.1.0); entries = λ k h. p.1 k (omega (arith, p.0)) }

-- and what keeps that is accepted
opens_it : (limit size : ℕ) (xs : List ℕ) (n : ℕ) → Opened limit size xs n → opening limit size xs ≡ gives n
unfolding opening refuse_if
opens_it limit size xs n h =
    rw (le-ltb (length xs) 2 (omega (arith, h.present)), ← h.count, le-ltb _ _ h.within, le-ltb _ _ h.present)

section_it : (limit size : ℕ) (rule : ℕ → Bool) (xs : List ℕ) (n : ℕ) → Holds limit size rule xs n → judge_section limit size rule xs ≡ gives n
unfolding judge_section judge_entries refuse_if
section_it limit size rule xs n h = rw (opens_it limit size xs n h.opens, first_none rule n h.entries, le-ltb n n (le_refl n))

-- an entry of n that are present
pub entry_in : (size k n : ℕ) {most : ℕ} → k < n → entry size n ≤ most → entry size (k + 1) ≤ most
entry_in size k n h le = omega (arith, mul-le-mul_left {m = k + 1} {n = n} size (omega arith))

-- ---- the rule of an entry, as facts on numbers; stated over the tables, for any layout of the octets

positive : (k : ℕ) → 0 < k → eqb k 0 ≡ false
positive k h = ne_eqb k 0 (λ z. lt_irrefl 0 (rw z at h))

pub check_kept : (check : ℕ → ℕ) (k : ℕ) → check_rule check k ≡ true → CheckKept check k
unfolding check_rule
check_kept check k e =
    let p = both _ _ e in
    let q = both _ _ p.0 in
    let r = both _ _ q.0 in
    record {
      even = eqb-true _ _ r.0;
      low = leb-true _ _ r.1;
      high = leb-true _ _ q.1;
      rises = λ h. ltb-true _ _ (other _ _ p.1 (positive k h));
    }

placed_of : (s : Signal) → place_rule s ≡ true → Placed s
placed_of s e = by (either _ _ e)
  where
    by : ((eqb s.type 0 && leb 16 s.start && leb (field_end s) 320) ≡ true)
        ⊎ ((not (eqb s.type 0) && leb 320 s.start && leb (field_end s) 1024) ≡ true) → Placed s
    by (inl h) =
        let p = both _ _ h in
        let q = both _ _ p.0 in
        record { common = λ z. (leb-true _ _ q.1, leb-true _ _ p.1); own = λ n. absurd (n (eqb-true _ _ q.0)) }
    by (inr h) =
        let p = both _ _ h in
        let q = both _ _ p.0 in
        let n : s.type ≡ 0 → ⊥ = eqb-false _ _ (not-true _ q.0) in
        record { common = λ z. absurd (n z); own = λ _. (leb-true _ _ q.1, leb-true _ _ p.1) }

named_of : (checks : ℕ) (check : ℕ → ℕ) (s : Signal) → named_rule checks check s ≡ true → CheckNamed checks check s
named_of checks check s e = by (either _ _ e)
  where
    place : ℕ
    place = check (s.check - 1)

    by : (eqb s.check 0 ≡ true)
        ⊎ ((leb s.check checks && (ltb place 320 && eqb s.type 0 || not (ltb place 320) && not (eqb s.type 0))) ≡ true)
        → CheckNamed checks check s
    by (inl h) =
        let z : s.check ≡ 0 = eqb-true _ _ h in
        record { exists = omega arith; common = λ _ h. absurd (lt_irrefl 0 (rw z at h)); own = λ _ h. absurd (lt_irrefl 0 (rw z at h)) }
    by (inr h) =
        let p = both _ _ h in
        ⊎_elim
        (λ a. let q = both _ _ a in record { exists = leb-true _ _ p.0; common = λ _ _. ltb-true _ _ q.0; own = λ n _. absurd (n (eqb-true _ _ q.1)) })
        (λ a. let q = both _ _ a in record {
          exists = leb-true _ _ p.0;
          common = λ z _. absurd (eqb-false _ _ (not-true _ q.1) z);
          own = λ _ _. ltb-false _ _ (not-true _ q.0);
        })
        (either _ _ p.1)

follows_of : (p s : Signal) → order_rule p s ≡ true → Follows p s
follows_of p s e = ⊎_elim (λ h. inl (ltb-true _ _ h)) (λ h. let q = both _ _ h in inr (eqb-true _ _ q.0, leb-true _ _ q.1)) (either _ _ e)

apart_of : (s : Signal) (place : ℕ) → apart s place ≡ true → (field_end s ≤ place) ⊎ (place + 2 ≤ s.start)
apart_of s place e = ⊎_elim (λ h. inl (leb-true _ _ h)) (λ h. inr (leb-true _ _ h)) (either _ _ e)

pub signal_kept : (checks : ℕ) (check : ℕ → ℕ) (signal : ℕ → Signal) (k : ℕ) → signal_rule checks check signal k ≡ true → SignalKept checks check signal k
unfolding signal_rule_to
signal_kept checks check signal k e =
    let p = both _ _ e in
    let q = both _ _ p.0 in
    let r = both _ _ q.0 in
    let s = both _ _ r.0 in
    let t = both _ _ s.0 in
    let u = both _ _ t.0 in
    let w = both _ _ u.0 in
    let v = both _ _ r.1 in
    let v' = both _ _ v.0 in
    let v'' = both _ _ v'.0 in
    record {
      some = leb-true _ _ w.0;
      wide = leb-true _ _ w.1;
      typed = leb-true _ _ u.1;
      placed = placed_of _ t.1;
      named = named_of _ _ _ s.1;
      since = leb-true _ _ v''.0;
      octet = leb-true _ _ v''.1;
      limited = leb-true _ _ v'.1;
      fits = ltb-true _ _ v.1;
      follows = λ h. follows_of (signal (k - 1)) (signal k) (other _ _ q.1 (positive k h));
      clear = λ j h. apart_of (signal k) (check j) (all_at (λ j. apart (signal k) (check j)) checks p.1 j h);
    }

pub code_kept : (signals : ℕ) (signal : ℕ → Signal) (code : ℕ → Code) (k : ℕ) → code_rule signals signal code k ≡ true → CodeKept signals signal code k
unfolding code_rule
code_kept signals signal code k e =
    let p = both _ _ e in
    let q = both _ _ p.0 in
    let r = both _ _ q.0 in
    let s = both _ _ r.0 in
    record {
      exists = ltb-true _ _ s.0;
      narrow = leb-true _ _ s.1;
      range = leb-true _ _ r.1;
      fits = ltb-true _ _ q.1;
      follows = λ h.
          ⊎_elim (λ a. inl (ltb-true _ _ a)) (λ a. let b = both _ _ a in inr (eqb-true _ _ b.0, leb-true _ _ b.1))
          (either _ _ (other _ _ p.1 (positive k h)));
    }

pub route_kept : (signals : ℕ) (signal : ℕ → Signal) (route : ℕ → Route) (k : ℕ) → route_rule signals signal route k ≡ true → RouteKept signals signal route k
unfolding route_rule
route_kept signals signal route k e =
    let p = both _ _ e in
    let q = both _ _ p.0 in
    let r = both _ _ q.0 in
    let s = both _ _ r.0 in
    let t = both _ _ s.0 in
    record {
      exists = ltb-true _ _ t.0;
      first = leb-true _ _ t.1;
      last = leb-true _ _ s.1;
      null = eqb-true _ _ r.1;
      ends = leb-true _ _ q.1;
      follows = λ h. leb-true _ _ (other _ _ p.1 (positive k h));
    }

-- ---- tables that agree where an entry looks keep the same

check_kept_same : (check check' : ℕ → ℕ) (k : ℕ) → check' k ≡ check k → (0 < k → check' (k - 1) ≡ check (k - 1)) → CheckKept check k → CheckKept check' k
check_kept_same check check' k e p h = record { even = rw e h.even; low = rw e h.low; high = rw e h.high; rises = λ pos. rw (e, p pos) (h.rises pos) }

module _ (checks : ℕ) (check check' : ℕ → ℕ) (same : (j : ℕ) → j < checks → check' j ≡ check j) where
  named_same : (s : Signal) → CheckNamed checks check s → CheckNamed checks check' s
  named_same s h = record {
    exists = h.exists;
    common = λ z pos. rw (same (s.check - 1) (omega (arith, h.exists))) (h.common z pos);
    own = λ z pos. rw (same (s.check - 1) (omega (arith, h.exists))) (h.own z pos);
  }

  signal_kept_same : (signal signal' : ℕ → Signal) (k : ℕ) → signal' k ≡ signal k → (0 < k → signal' (k - 1) ≡ signal (k - 1))
      → SignalKept checks check signal k → SignalKept checks check' signal' k
  signal_kept_same signal signal' k e p h = record {
    some = rw e h.some;
    wide = rw e h.wide;
    typed = rw e h.typed;
    placed = rw e h.placed;
    named = rw e (named_same (signal k) h.named);
    since = rw e h.since;
    octet = rw e h.octet;
    limited = rw e h.limited;
    fits = rw e h.fits;
    follows = λ pos. rw (e, p pos) (h.follows pos);
    clear = λ j lt. rw (e, same j lt) (h.clear j lt);
  }

module _ (signals : ℕ) (signal signal' : ℕ → Signal) (same : (k : ℕ) → k < signals → signal' k ≡ signal k) where
  code_kept_same : (code : ℕ → Code) (k : ℕ) → CodeKept signals signal code k → CodeKept signals signal' code k
  code_kept_same code k h = record {
    exists = h.exists;
    narrow = rw (same (code k).signal h.exists) h.narrow;
    range = h.range;
    fits = rw (same (code k).signal h.exists) h.fits;
    follows = h.follows;
  }

  route_kept_same : (route : ℕ → Route) (k : ℕ) → RouteKept signals signal route k → (0 < k → (route (k - 1)).signal < signals) → RouteKept signals signal' route k
  route_kept_same route k h before = record {
    exists = h.exists;
    first = h.first;
    last = h.last;
    null = h.null;
    ends = rw (same (route k).signal h.exists) h.ends;
    follows = λ pos. rw (same (route (k - 1)).signal (before pos)) (h.follows pos);
  }

  pub since_same : greatest_since signals signal' ≡ greatest_since signals signal
  unfolding greatest_since
  since_same = greatest_same 1 (λ k. (signal' k).since) (λ k. (signal k).since) signals (λ k lt. ap (λ (s : Signal). s.since) (same k lt))

-- ---- the whole list

-- each section in turn: what its part keeps, and what the rest gives, at the counts that the whole reports
module _ (size signals : ℕ) (signal : ℕ → Signal) (checks : ℕ) (n : Counts) where
  from_routes_lem : (codes : ℕ) (xs : List ℕ) → from_routes size signals signal checks codes xs ≡ gives n
      → (r : ℕ) × ((Holds most_routes route_size (route_rule signals signal (route_at xs)) xs r) × ((length xs ≤ entry route_size r)
      × (◌≡◌ {A = Counts} (record { checks = checks; signals = signals; codes = codes; routes = r; version = greatest_since signals signal; size = size }) n)))
  unfolding from_routes ending
  from_routes_lem codes xs e =
      let d = and_then_lem (judge_section most_routes route_size (route_rule signals signal (route_at xs)) xs) (ending size signals signal checks codes xs) n e in
      let z = not_refused _ _ _ _ n d.1.1 in
      (d.0, (holds_of _ _ _ _ _ d.1.0, (ltb-false _ _ z.0, sym (gives_one _ _ _ z.1 refl))))

  from_codes_lem : (xs : List ℕ) → from_codes size signals signal checks xs ≡ gives n
      → (Holds most_codes code_size (code_rule signals signal (code_at xs)) xs n.codes)
      × (from_routes size signals signal checks n.codes (rest code_size n.codes xs) ≡ gives n)
  unfolding from_codes
  from_codes_lem xs e =
      let c = and_then_lem (judge_section most_codes code_size (code_rule signals signal (code_at xs)) xs)
      (λ codes. shift (entry code_size codes) (from_routes size signals signal checks codes (rest code_size codes xs))) n e in
      let f = not_shifted _ _ n c.1.1 in
      let q : c.0 ≡ n.codes = ap (λ (m : Counts). m.codes) (from_routes_lem c.0 _ f).1.1.1 in
      (holds_of _ _ _ _ _ (rw q at c.1.0), rw q at f)

from_signals_lem : (size checks : ℕ) (check : ℕ → ℕ) (n : Counts) (xs : List ℕ) → from_signals size checks check xs ≡ gives n
    → (Holds most_signals size (signal_rule checks check (signal_at size xs)) xs n.signals)
    × (from_codes size n.signals (signal_at size xs) checks (rest size n.signals xs) ≡ gives n)
unfolding from_signals_to
from_signals_lem size checks check n xs e =
    let b = and_then_lem (judge_section most_signals size (signal_rule checks check (signal_at size xs)) xs)
    (λ signals. shift (entry size signals) (from_codes size signals (signal_at size xs) checks (rest size signals xs))) n e in
    let f = not_shifted _ _ n b.1.1 in
    let g = from_codes_lem size b.0 (signal_at size xs) checks n _ f in
    let q : b.0 ≡ n.signals = ap (λ (m : Counts). m.signals) (from_routes_lem size b.0 (signal_at size xs) checks n n.codes _ g.1).1.1.1 in
    (holds_of _ _ _ _ _ (rw q at b.1.0), rw q at f)

from_checks : (size : ℕ) (n : Counts) (xs : List ℕ) → judge_sized size xs ≡ gives n
    → (Holds most_checks check_size (check_rule (check_at xs)) xs n.checks) × (from_signals size n.checks (check_at xs) (rest check_size n.checks xs) ≡ gives n)
unfolding judge_to
from_checks size n xs e =
    let a = and_then_lem (judge_section most_checks check_size (check_rule (check_at xs)) xs)
    (λ checks. shift (entry check_size checks) (from_signals size checks (check_at xs) (rest check_size checks xs))) n e in
    let f = not_shifted _ _ n a.1.1 in
    let ys = rest check_size a.0 xs in
    let g = from_signals_lem size a.0 (check_at xs) n ys f in
    let h = from_codes_lem size n.signals (signal_at size ys) a.0 n _ g.1 in
    let q : a.0 ≡ n.checks = ap (λ (m : Counts). m.checks) (from_routes_lem size n.signals (signal_at size ys) a.0 n n.codes _ h.1).1.1.1 in
    (holds_of _ _ _ _ _ (rw q at a.1.0), rw q at f)

-- what is accepted is reported with the size of its entries
pub sized_as : (size : ℕ) (xs : List ℕ) (n : Counts) → judge_sized size xs ≡ gives n → size ≡ n.size
sized_as size xs n e =
    let ys = signals_part xs n in
    let a = from_checks size n xs e in
    let b = from_signals_lem size n.checks (check_at xs) n ys a.1 in
    let c = from_codes_lem size n.signals (signal_at size ys) n.checks n _ b.1 in
    ap (λ (m : Counts). m.size) (from_routes_lem size n.signals (signal_at size ys) n.checks n n.codes _ c.1).1.1.1

pub form_sized : (form : ℕ) → Sized (signal_size form)
unfolding signal_size
form_sized form = by (eqb form 2)
  where
    by : (b : Bool) → Sized (cond b 18 16)
    by true = record { least = omega arith; most = omega arith }
    by false = record { least = omega arith; most = omega arith }

laid_sized : (xs : List ℕ) (n : Counts) → Sized n.size → judge_sized n.size xs ≡ gives n → Laid xs n
laid_sized xs n sized e =
    let a = from_checks n.size n xs e in
    let b = from_signals_lem n.size n.checks (check_at xs) n (signals_part xs n) a.1 in
    let c = from_codes_lem n.size n.signals (signals_at xs n) n.checks n (codes_part xs n) b.1 in
    let d = from_routes_lem n.size n.signals (signals_at xs n) n.checks n n.codes (routes_part xs n) c.1 in
    let q : d.0 ≡ n.routes = ap (λ (m : Counts). m.routes) d.1.1.1 in
    record {
      checks = a.0;
      signals = b.0;
      codes = c.0;
      routes = rw q at d.1.0;
      ends = rw q at d.1.1.0;
      version = sym (ap (λ (m : Counts). m.version) d.1.1.1);
      sized = sized;
    }

pub laid : (form : ℕ) (xs : List ℕ) (n : Counts) → judge form xs ≡ gives n → Laid xs n
laid form xs n e =
    let q = sized_as (signal_size form) xs n e in
    laid_sized xs n (subst Sized q (form_sized form)) (subst (λ (s : ℕ). judge_sized s xs ≡ gives n) q e)

-- and a list that is laid out so is accepted: 1-4 are given exactly when some rule is broken
pub accepts_it : (xs : List ℕ) (n : Counts) → Laid xs n → judge_sized n.size xs ≡ gives n
unfolding judge_to from_signals_to from_codes from_routes ending refuse_if
accepts_it xs n h =
    rw (
      section_it _ _ _ _ _ h.checks,
      section_it _ _ _ _ _ h.signals,
      section_it _ _ _ _ _ h.codes,
      section_it _ _ _ _ _ h.routes,
      le-ltb _ _ h.ends,
      ← h.version,
    )

pub accepts_in : (form : ℕ) (xs : List ℕ) (n : Counts) → n.size ≡ signal_size form → Laid xs n → judge form xs ≡ gives n
accepts_in form xs n size h = rw (← size) (accepts_it xs n h)

-- any number but 2 says form 1
pub other_form : (form : ℕ) → (form ≡ 2 → ⊥) → signal_size form ≡ 16
unfolding signal_size
other_form form ne = rw (ne_eqb form 2 ne)

-- "The longest list has 10,376 octets"; in form 2 it has 10,888
pub longest : (form : ℕ) (xs : List ℕ) (n : Counts) → judge form xs ≡ gives n → length xs ≤ 6280 + signal_size form * most_signals
longest form xs n e =
    let h = laid form xs n e in
    let q = sized_as (signal_size form) xs n e in
    let most : n.size * n.signals ≤ n.size * most_signals = mul-le-mul_left n.size h.signals.opens.within in
    rw q (omega (
      arith,
      h.checks.opens.within,
      h.signals.opens.within,
      h.codes.opens.within,
      h.routes.opens.within,
      h.ends,
      length-drop (entry check_size n.checks) xs,
      length-drop (entry n.size n.signals) (signals_part xs n),
      length-drop (entry code_size n.codes) (codes_part xs n),
    ))

pub longest_in_form_1 : (xs : List ℕ) (n : Counts) → judge 1 xs ≡ gives n → length xs ≤ 10376
unfolding signal_size
longest_in_form_1 xs n e = longest 1 xs n e

pub longest_in_form_2 : (xs : List ℕ) (n : Counts) → judge 2 xs ≡ gives n → length xs ≤ 10888
unfolding signal_size
longest_in_form_2 xs n e = longest 2 xs n e

-- ---- the tables, which end with their counts

pub among_at : {A : Type 0} (n : ℕ) (table : ℕ → A) (other : A) (k : ℕ) → k < n → among n table other k ≡ table k
unfolding among
among_at n table other k lt = rw (lt-ltb k n lt)

pub among_past : {A : Type 0} (n : ℕ) (table : ℕ → A) (other : A) (k : ℕ) → n ≤ k → among n table other k ≡ other
unfolding among
among_past n table other k le = rw (le-ltb k n le)

-- two tables that agree up to their end are one
pub among_same : {A : Type 0} (n : ℕ) (table table' : ℕ → A) (other : A) → ((k : ℕ) → k < n → table k ≡ table' k) → among n table other ≡ among n table' other
among_same n table table' other same = fun_ext (λ k. elim (dec_lt k n) [
  | yes lt ↦ among_at n table other k lt ∙ same k lt ∙ sym (among_at n table' other k lt)
  | no far ↦ among_past n table other k (omega arith) ∙ sym (among_past n table' other k (omega arith))
])

module _ (xs : List ℕ) (n : Counts) where
  pub check_here : (k : ℕ) → k < n.checks → (list_of xs n).check k ≡ check_at xs k
  check_here k lt = among_at n.checks (check_at xs) 0 k lt

  pub signal_here : (k : ℕ) → k < n.signals → (list_of xs n).signal k ≡ signals_at xs n k
  signal_here k lt = among_at n.signals (signals_at xs n) no_signal k lt

  -- the version that a list is reported with
  pub version_here : Laid xs n → n.version ≡ version (list_of xs n)
  unfolding version
  version_here h = h.version ∙ sym (since_same n.signals (signals_at xs n) (list_of xs n).signal signal_here)

pub kept_of : (xs : List ℕ) (n : Counts) → Laid xs n → Kept (list_of xs n)
kept_of xs n h = record {
  few_checks = h.checks.opens.within;
  few_signals = h.signals.opens.within;
  few_codes = h.codes.opens.within;
  few_routes = h.routes.opens.within;
  check = λ k lt. check_kept_same _ _ k (check_here xs n k lt) (λ pos. check_here xs n (k - 1) (omega arith)) (check_kept _ k (h.checks.entries k lt));
  signal = λ k lt.
      signal_kept_same n.checks _ _ (check_here xs n) _ _ k (signal_here xs n k lt) (λ pos. signal_here xs n (k - 1) (omega arith))
      (signal_kept _ _ _ k (h.signals.entries k lt));
  code = λ k lt. code_kept_same n.signals _ _ (signal_here xs n) _ k (code_kept _ _ _ k (h.codes.entries k lt));
  route = λ k lt.
      route_kept_same n.signals _ _ (signal_here xs n) _ k (route_kept _ _ _ k (h.routes.entries k lt))
      (λ pos. (route_kept _ _ _ (k - 1) (h.routes.entries (k - 1) (omega arith))).exists);
}

-- accepted → each entry keeps its rule
pub kept : (form : ℕ) (xs : List ℕ) (n : Counts) → judge form xs ≡ gives n → Kept (list_of xs n)
kept form xs n e = kept_of xs n (laid form xs n e)

-- ---- where a refusal's offset lies: within the part that was judged

within_if : {A : Type 0} (b : Bool) (n at most : ℕ) (x : Answer A) → (b ≡ true → at ≤ most) → RefusedWithin most x → RefusedWithin most (refuse_if b n at x)
unfolding refuse_if
within_if true n at most x k w = k refl
within_if false n at most x k w = w

last_within : {A : Type 0} (b : Bool) (n at most : ℕ) (a : A) → (b ≡ true → at ≤ most) → RefusedWithin most (refuse_if b n at (gives a))
last_within b n at most a k = within_if b n at most (gives a) k tt

within_then : {A B : Type 0} (most : ℕ) (x : Answer A) (next : A → Answer B) → RefusedWithin most x → ((a : A) → x ≡ gives a → RefusedWithin most (next a))
    → RefusedWithin most (and_then x next)
within_then most (gives a) next w k = k a refl
within_then most (refused n at) next w k = w

-- the rest of a list past n entries, at its place in the list
pub within_rest : {A : Type 0} (size n : ℕ) (xs : List ℕ) (most : ℕ) (x : Answer A) → entry size n ≤ length xs → length xs ≤ most
    → RefusedWithin (length (rest size n xs)) x → RefusedWithin most (shift (entry size n) x)
within_rest size n xs most (gives a) h le w = tt
within_rest size n xs most (refused m at) h le w = omega (arith, length-drop (entry size n) xs)

opening_within : (limit size : ℕ) (xs : List ℕ) → RefusedWithin (length xs) (opening limit size xs)
unfolding opening
opening_within limit size xs =
    within_if _ 1 0 _ _ (λ _. zero-le)
    (within_if _ 2 0 _ _ (λ _. zero-le) (last_within _ 1 0 _ (number xs 0 2) (λ _. zero-le)))

section_within : (limit size : ℕ) (rule : ℕ → Bool) (xs : List ℕ) → RefusedWithin (length xs) (judge_section limit size rule xs)
unfolding judge_section judge_entries
section_within limit size rule xs =
    within_then (length xs) (opening limit size xs) (judge_entries size rule) (opening_within limit size xs)
    (λ n e. last_within _ 3 _ _ n
    (λ t. let le : size * first_bad rule n ≤ size * n = mul-le-mul_left size (le_of_lt (ltb-true _ _ t)) in omega (arith, (opened_of limit size xs n e).present)))

module _ (size signals : ℕ) (signal : ℕ → Signal) (checks : ℕ) where
  pub routes_within : (codes : ℕ) (xs : List ℕ) → RefusedWithin (length xs) (from_routes size signals signal checks codes xs)
  unfolding from_routes ending
  routes_within codes xs =
      within_then (length xs) (judge_section most_routes route_size (route_rule signals signal (route_at xs)) xs) (ending size signals signal checks codes xs)
      (section_within _ _ _ xs) (λ n e. last_within (ltb (entry route_size n) (length xs)) 4 (entry route_size n) (length xs) _ (λ t. le_of_lt (ltb-true _ _ t)))

  pub codes_within : (xs : List ℕ) → RefusedWithin (length xs) (from_codes size signals signal checks xs)
  unfolding from_codes
  codes_within xs =
      within_then (length xs) (judge_section most_codes code_size (code_rule signals signal (code_at xs)) xs) _
      (section_within _ _ _ xs)
      (λ n e.
      within_rest code_size n xs (length xs) (from_routes size signals signal checks n (rest code_size n xs)) (holds_of _ _ _ _ _ e).opens.present (le_refl _)
      (routes_within n (rest code_size n xs)))

pub signals_within : (size checks : ℕ) (check : ℕ → ℕ) (xs : List ℕ) → RefusedWithin (length xs) (from_signals size checks check xs)
unfolding from_signals_to
signals_within size checks check xs =
    within_then (length xs) (judge_section most_signals size (signal_rule checks check (signal_at size xs)) xs) _
    (section_within _ _ _ xs)
    (λ n e.
    within_rest size n xs (length xs) (from_codes size n (signal_at size xs) checks (rest size n xs)) (holds_of _ _ _ _ _ e).opens.present (le_refl _)
    (codes_within size n (signal_at size xs) checks (rest size n xs)))

-- ---- two entries of an accepted list

module _ (l : SignalList) (h : Kept l) where
  -- one step in the order of signals
  next_signal_lem : (j : ℕ) → suc j < l.signals → Follows (l.signal j) (l.signal (suc j))
  next_signal_lem j lt = let z : suc j - 1 ≡ j = omega arith in rw z at ((h.signal (suc j) lt).follows (omega arith))

  -- types never fall
  pub types_rise : (d i : ℕ) → i + d < l.signals → (l.signal i).type ≤ (l.signal (i + d)).type
  types_rise zero i lt = rw add-zero (le_refl _)
  types_rise (suc d) i lt =
      rw add-suc
      (⊎_elim (λ a. omega (arith, types_rise d i (omega arith))) (λ a. omega (arith, types_rise d i (omega arith), a.0)) (next_signal_lem (i + d) (omega arith)))

  -- "within a type each start is at or past the end of the field before": of any two signals of a type
  pub fields_rise : (d i : ℕ) → i + suc d < l.signals → (l.signal i).type ≡ (l.signal (i + suc d)).type → field_end (l.signal i) ≤ (l.signal (i + suc d)).start
  fields_rise zero i lt e =
      let z : i + 1 ≡ suc i = omega arith in
      rw z (⊎_elim (λ a. omega (arith, rw z at e)) (λ a. a.1) (next_signal_lem i (omega arith)))
  fields_rise (suc d) i lt e =
      let z : i + suc (suc d) ≡ suc (i + suc d) = omega arith in
      let e' : (l.signal i).type ≡ (l.signal (suc (i + suc d))).type = rw z at e in
      let r = types_rise (suc d) i (omega arith) in
      rw z
      (⊎_elim (λ a. omega arith)
      (λ a. omega (arith, a.1, fields_rise d i (omega arith) (omega (arith, a.0)), (h.signal (i + suc d) (omega arith)).some))
      (next_signal_lem (i + suc d) (omega arith)))

  -- fields of one type don't overlap
  pub fields_apart : (i j : ℕ) → i < l.signals → j < l.signals → (l.signal i).type ≡ (l.signal j).type → (i ≡ j → ⊥)
      → (field_end (l.signal i) ≤ (l.signal j).start) ⊎ (field_end (l.signal j) ≤ (l.signal i).start)
  fields_apart i j hi hj e ne =
      elim (dec_lt i j) [
        | yes lt ↦ let z : i + suc (j - suc i) ≡ j = omega arith in inl (rw z at (fields_rise (j - suc i) i (rw z hj) (rw z e)))
        | no ge ↦ let z : j + suc (i - suc j) ≡ i = omega arith in inr (rw z at (fields_rise (i - suc j) j (rw z hi) (rw z (sym e))))
      ]

  -- a signal goes by its type and start
  pub one_place : (i j : ℕ) → i < l.signals → j < l.signals → (l.signal i).type ≡ (l.signal j).type → (l.signal i).start ≡ (l.signal j).start → i ≡ j
  one_place i j hi hj e s =
      elim (ℕ_discrete i j) [
        | yes q ↦ q
        | no ne ↦ ⊎_elim (λ a. omega (arith, (h.signal i hi).some)) (λ a. omega (arith, (h.signal j hj).some)) (fields_apart i j hi hj e ne)
      ]

  -- checks lie two bits apart at least
  pub checks_rise : (d j : ℕ) → j + suc d < l.checks → l.check j + 2 ≤ l.check (j + suc d)
  checks_rise zero j lt = let z : j + 1 ≡ suc j = omega arith in rw z (next_check j (omega arith))
    where
      next_check : (j : ℕ) → suc j < l.checks → l.check j + 2 ≤ l.check (suc j)
      next_check j lt =
          let z : suc j - 1 ≡ j = omega arith in
          omega (arith, rw z at ((h.check (suc j) lt).rises (omega arith)), (h.check (suc j) lt).even, (h.check j (omega arith)).even)
  checks_rise (suc d) j lt =
      let z : j + suc (suc d) ≡ suc (j + suc d) = omega arith in
      let y : suc (j + suc d) - 1 ≡ j + suc d = omega arith in
      rw z (omega (arith, checks_rise d j (omega arith), rw y at ((h.check (suc (j + suc d)) (omega arith)).rises (omega arith))))

  pub checks_apart : (i j : ℕ) → i < j → j < l.checks → l.check i + 2 ≤ l.check j
  checks_apart i j lt hj = let z : i + suc (j - suc i) ≡ j = omega arith in rw z at (checks_rise (j - suc i) i (rw z hj))

  -- routes don't overlap
  routes_rise : (d i : ℕ) → i + suc d < l.routes → route_end l.signal (l.route i) ≤ (l.route (i + suc d)).start
  routes_rise zero i lt =
      let z : i + 1 ≡ suc i = omega arith in
      let y : suc i - 1 ≡ i = omega arith in
      rw z (rw y at ((h.route (suc i) (omega arith)).follows (omega arith)))
  routes_rise (suc d) i lt =
      let z : i + suc (suc d) ≡ suc (i + suc d) = omega arith in
      let y : suc (i + suc d) - 1 ≡ i + suc d = omega arith in
      rw z (omega (arith, routes_rise d i (omega arith), rw y at ((h.route (suc (i + suc d)) (omega arith)).follows (omega arith))))

  pub routes_apart : (i j : ℕ) → i < j → j < l.routes → route_end l.signal (l.route i) ≤ (l.route j).start
  routes_apart i j lt hj = let z : i + suc (j - suc i) ≡ j = omega arith in rw z at (routes_rise (j - suc i) i (rw z hj))
