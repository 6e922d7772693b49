-- What a search by key tells, and that the contracts settle the answers. Assumes nothing.
use Prim.Native.Nat.{ℕ, ◌+◌, ◌*◌, ◌≤◌, ◌<◌, min}
use mathlib.Core.Path.{◌≡◌, refl, sym, ap, ap₂, ◌∙◌}
use mathlib.Core.Bool.{cond}
use mathlib.Core.List.{List}
use native.Mathlib.Nat.{le_refl}
use native.Mathlib.Decide.{dec_lt, ℕ_discrete}
use native.Mathlib.Omega.{arith}
use lib.Dec.{eqb}
use borrow.Author.Tests.{eq-eqb, ne_eqb}
use Rattle.paper.specs.Answer.{Answer, gives, refused, and_then, Sought}
use Rattle.paper.specs.SignalList.{Counts, judge, list_of, under_list, OfTwo, of_both, first_refused, second_refused, of_two, under_lists, SignalList, Signal as PaperSignal, Route as PaperRoute}
use Rattle.paper.specs.Accepted.{Kept}
use Rattle.paper.specs.Pairs.{Entry as PaperEntry, signal_found, Keyed, index, signal_keys, signals_of, Rising}
use Rattle.paper.proofs.AnswerLaws.{never_both}
use Rattle.paper.proofs.FirstLaws.{first_most}
use Rattle.paper.proofs.SearchLaws.{falls_between}
use Rattle.paper.proofs.ListLaws.{kept_of}
use Rattle.paper.proofs.PairLaws.{signals_rise, start_small, found_exactly, index_exactly, index_none}
use Rattle.std.specs.Prelude.{Option, Result, Ok, Err, MatchResult}
use Rattle.refusals.specs.declared.Refusal.{Refusal}
use Rattle.refusals.specs.declared.ListRefused.{ListRefused}
use Rattle.refusals.specs.declared.ListRefused.TheVariants.{First, Second}
use Rattle.refusals.specs.Refusal.{refusal_of}
use Rattle.refusals.specs.Outcome.{answer_of, sought_of, of_two_answer}
use Rattle.refusals.proofs.WrittenLaws.{HandedOn, handed_on, one_result, sought_told, sought_told_of}
use Rattle.entries.specs.declared.Signal.{Signal}
use Rattle.entries.specs.declared.Route.{Route}
use Rattle.entries.specs.Entries.{signal_of, route_of}
use Rattle.lists.specs.declared.accepted.AcceptedList.{AcceptedList}
use Rattle.lists.specs.Listed.{list_as, listed_answer}
use Rattle.lists.proofs.Laws.{under_refused}
use Rattle.finding.specs.declared.Entry.{Entry}
use Rattle.finding.specs.declared.Reached.{Reached}
use Rattle.finding.specs.Finding.{Reaches, entry_as, entry_answer, route_answer, found_answer}

pub kept_as : (l : AcceptedList) → Kept (list_as l)
kept_as l = kept_of _ _ l.laid

-- the check that a signal names is there
pub placed_as : (l : AcceptedList) (k : ℕ) → k < l.counts.signals → (s : Signal) → signal_of s ≡ (list_as l).signal k → s.check ≤ l.counts.checks
placed_as l k lt s is = omega (arith, ap (λ (x : PaperSignal). x.check) is, ((kept_as l).signal k lt).named.exists)

pub keys_rise : (l : AcceptedList) → Rising (signals_of (list_as l)) signal_keys
keys_rise l = signals_rise _ (kept_as l)

-- a call by a list that hands on the refusal of judging it
pub under_err : {A B : Type 0} (g : A → B) (r : Result A Refusal) (f : Refusal) (form : ℕ) (xs : List ℕ) (call : SignalList → Answer B)
    → HandedOn r f → refusal_of f ≡ under_list form xs gives → answer_of g r ≡ under_list form xs call
under_err g r f form xs call h e = rw (handed_on r f h) (under_refused form xs call _ _ e)

-- ---- a call by two lists: v and w are the judgings, of which `?` hands on the refusal of the first or of the second

-- the judging v, with a refusal e as that of a list
abbrev pub Refuses : (Refusal → ListRefused) → Result AcceptedList Refusal → ListRefused → Type 0
Refuses which v e = MatchResult v (λ a. ◌≡◌ {A = Result AcceptedList ListRefused} (Err e) (Ok a)) (λ f. e ≡ which f)

-- and with the list l
abbrev pub Accepts : Result AcceptedList Refusal → AcceptedList → Type 0
Accepts v l = MatchResult v (λ a. ◌≡◌ {A = Result AcceptedList ListRefused} (Ok l) (Ok a)) (λ f. ⊥)

module _ {B : Type 0} (form : ℕ) (xs : List ℕ) (refusal : ℕ → ℕ → OfTwo B) (next : SignalList → OfTwo B) where
  two_on : (l : SignalList) (y : OfTwo B) → gives l ≡ under_list form xs gives → y ≡ next l → y ≡ of_two (judge form xs) refusal (λ n. next (list_of xs n))
  two_on l y e q = goes (judge form xs) e
    where
      goes : (j : Answer Counts) → gives l ≡ and_then j (λ n. gives (list_of xs n)) → y ≡ of_two j refusal (λ n. next (list_of xs n))
      goes (gives n) e = let same : l ≡ list_of xs n = cc in q ∙ ap next same
      goes (refused n at) e = absurd (never_both (refused n at) l n at (sym e) refl)

  two_stays : (n at : ℕ) → refused n at ≡ under_list form xs gives → refusal n at ≡ of_two (judge form xs) refusal (λ n. next (list_of xs n))
  two_stays n at e = goes (judge form xs) e
    where
      goes : (j : Answer Counts) → refused n at ≡ and_then j (λ m. gives (list_of xs m)) → refusal n at ≡ of_two j refusal (λ m. next (list_of xs m))
      goes (gives m) e = absurd (never_both {A = SignalList} (refused n at) (list_of xs m) n at e refl)
      goes (refused m b) e = ap₂ refusal (cc) (cc)

accepted_as : (form : ℕ) (xs : List ℕ) (v : Result AcceptedList Refusal) (l : AcceptedList)
    → listed_answer v ≡ under_list form xs gives → Accepts v l → gives (list_as l) ≡ under_list form xs gives
accepted_as form xs (Ok a) l j m = let e : l ≡ a = cc in rw e j
accepted_as form xs (Err f) l j m = absurd m

module _ {B : Type 0} (form : ℕ) (xs : List ℕ) (other : ℕ) (ys : List ℕ) (call : SignalList → SignalList → B) where
  behind : SignalList → OfTwo B
  behind a = of_two (judge other ys) second_refused (λ n. of_both (call a (list_of ys n)))

  pub first_err : {A : Type 0} (g : A → B) (v : Result AcceptedList Refusal) (e : ListRefused) (r : Result A ListRefused) → listed_answer v ≡ under_list form xs gives
      → Refuses First v e → HandedOn r e → of_two_answer g r ≡ under_lists form xs other ys call
  unfolding behind
  first_err g (Ok a) e r j m h = absurd (cc)
  first_err g (Err f) e r j m h = rw (handed_on r e h, m) (two_stays form xs first_refused behind _ _ j)

  module _ (v : Result AcceptedList Refusal) (a : AcceptedList) (j : listed_answer v ≡ under_list form xs gives) (m : Accepts v a) where
    behind_first : (y : OfTwo B) → y ≡ behind (list_as a) → y ≡ under_lists form xs other ys call
    unfolding behind
    behind_first y e = two_on form xs first_refused behind (list_as a) y (accepted_as form xs v a j m) e

    pub second_err : {A : Type 0} (g : A → B) (u : Result AcceptedList Refusal) (e : ListRefused) (r : Result A ListRefused) → listed_answer u ≡ under_list other ys gives
        → Refuses Second u e → HandedOn r e → of_two_answer g r ≡ under_lists form xs other ys call
    unfolding behind
    second_err g (Ok b) e r k n h = absurd (cc)
    second_err g (Err f) e r k n h = behind_first _ (rw (handed_on r e h, n) (two_stays other ys second_refused (λ l. of_both (call (list_as a) l)) _ _ k))

    pub both_accepted : (u : Result AcceptedList Refusal) (b : AcceptedList) (y : B) → listed_answer u ≡ under_list other ys gives → Accepts u b
        → y ≡ call (list_as a) (list_as b) → of_both y ≡ under_lists form xs other ys call
    unfolding behind
    both_accepted u b y k n e =
        behind_first _ (two_on other ys second_refused (λ l. of_both (call (list_as a) l)) (list_as b) _ (accepted_as other ys u b k n) (ap of_both e))

-- ---- what was reached from a key on

module _ (t : Keyed) (top : ℕ) (h : Rising t top) (from : ℕ) (r : Reached) (m : Reaches t top from r) where
  -- a key below `top` is that of an entry
  pub reached_there : r.key < top → r.at < t.count
  reached_there lt =
      elim (dec_lt r.at t.count) [
        | yes l ↦ l
        | no ge ↦ absurd (omega (arith, m.past (omega arith)))
      ]

  pub reached_from : min from top ≤ r.key
  reached_from =
      elim (dec_lt r.at t.count) [
        | yes lt ↦ omega (arith, m.here lt, m.cut.above r.at (le_refl _) lt)
        | no ge ↦ omega (arith, m.past (omega arith))
      ]

  -- of the keys from there on and up to the reached one, only that one is an entry's
  pub reached_here : r.key < top → index t r.key ≡ r.at
  reached_here lt = let l = reached_there lt in ((index_exactly t r.key h.rise r.at).0 (l, sym (m.here l))).0

  pub reached_none : (q : ℕ) → from ≤ q → q < r.key → index t q ≡ t.count
  reached_none q lo hi =
      index_none t q
      (falls_between t.key t.count q h.rise r.at (λ k l. omega (arith, m.cut.below k l)) (λ l. omega (arith, m.here l)))

  pub reached_index : (q : ℕ) → from ≤ q → q ≤ r.key → q < top → cond (eqb r.key q) r.at t.count ≡ index t q
  reached_index q lo hi lt =
      elim (ℕ_discrete r.key q) [
        | yes e ↦ simp (eq-eqb _ _ e) (sym (ap (index t) (sym e) ∙ reached_here (omega arith)))
        | no ne ↦ simp (ne_eqb _ _ ne) (sym (reached_none q lo (omega arith)))
      ]

-- ---- a signal goes by its key, where type and start can be one's

module _ (l : SignalList) (h : Kept l) (type start : ℕ) where
  found_most : signal_found l type start ≤ l.signals
  unfolding signal_found
  found_most = first_most _ _

  found_none : ((k : ℕ) → k < l.signals → (l.signal k).type ≡ type → (l.signal k).start ≡ start → ⊥) → l.signals ≡ signal_found l type start
  found_none none =
      elim (dec_lt (signal_found l type start) l.signals) [
        | yes lt ↦ let w = (found_exactly l h type start (signal_found l type start)).1 (refl, lt) in absurd (none _ w.0 w.1 w.2)
        | no ge ↦ omega (arith, found_most)
      ]

  pub none_typed : 2 < type → l.signals ≡ signal_found l type start
  none_typed lt = found_none (λ k hk e _. omega (arith, (h.signal k hk).typed))

  pub none_placed : 1023 < start → l.signals ≡ signal_found l type start
  none_placed lt = found_none (λ k hk _ e. omega (arith, start_small l h k hk))

  pub found_index : start < 1024 → index (signals_of l) (type * 1024 + start) ≡ signal_found l type start
  found_index small =
      elim (dec_lt (signal_found l type start) l.signals) [
        | yes lt ↦
            let w = (found_exactly l h type start (signal_found l type start)).1 (refl, lt) in
            ((index_exactly (signals_of l) (type * 1024 + start) (signals_rise l h).rise (signal_found l type start)).0 (lt, omega (arith, w.1, w.2))).0
        | no ge ↦
            index_none (signals_of l) (type * 1024 + start) (λ k hk e.
            let s = start_small l h k hk in
            let w = (found_exactly l h type start k).0 (hk, omega arith, omega arith) in
            omega (arith, w.0))
            ∙ omega (arith, found_most)
      ]

-- ---- the contracts settle the answers

pub one_entry : (a : Answer PaperEntry) (v w : Result Entry Refusal) → entry_answer v ≡ a → entry_answer w ≡ a → v ≡ w
one_entry = one_result entry_as (λ e. record { signal = signal_back e.signal; place = e.place }) (λ e. refl)
  where
    signal_back : PaperSignal → Signal
    signal_back s = record {
      start = s.start;
      width = s.width;
      kind = s.type;
      check = s.check;
      since = s.since;
      limit = s.limit;
      replacement = s.replacement;
    }

pub one_route_lem : (a : Answer (Sought PaperRoute)) (v w : Result (Option Route) Refusal) → route_answer v ≡ a → route_answer w ≡ a → v ≡ w
one_route_lem = one_result (sought_of route_of) (sought_told route_back) (sought_told_of route_of route_back (λ t. refl))
  where
    route_back : PaperRoute → Route
    route_back t = record { signal = t.signal; vehicle = t.vehicle; null = t.null; start = t.start }

pub one_found : (a : Answer ℕ) (v w : Result ℕ Refusal) → found_answer v ≡ a → found_answer w ≡ a → v ≡ w
one_found = one_result (λ k. k) (λ k. k) (λ k. refl)
