-- Request C-19: what is accepted under a profile, and how long it can be. Every law is over any profile. Assumes nothing.
use Prim.Native.Nat.{ℕ, zero, suc, ◌+◌, ◌-◌, ◌*◌, ◌≤◌, ◌<◌}
use mathlib.Core.Path.{◌≡◌, refl, sym, ap, ◌∙◌}
use mathlib.Core.Logic.{◌↔◌, ◌⊎◌, inl, inr, ⊎_elim}
use mathlib.Core.Bool.{Bool, true, false, not, cond, ◌&&◌, ◌||◌}
use mathlib.Core.List.{List, [], ◌∷◌}
use native.Mathlib.Nat.{mul-le-mul_left}
use native.Mathlib.Decide.{ℕ_discrete}
use native.Mathlib.Omega.{arith}
use lib.ListN.{length, length-drop}
use lib.Dec.{ltb, leb, eqb}
use borrow.Author.Tests.{ltb-true, ltb-false, leb-true, le-leb, lt-ltb, le-ltb, eqb-true, eqb-false, eq-eqb, ne_eqb, not-true}
use Rattle.bools.proofs.Tests.{both, either}
use Rattle.paper.specs.Answer.{Answer, gives, refused, and_then, Sought, found, nothing}
use Rattle.paper.specs.First.{first_bad}
use Rattle.paper.specs.SignalList.{Signal, SignalList, Counts, entry, check_size, code_size, route_size, most_checks, most_codes, route_end, signal_size, signals_part, codes_part, judge, list_of, knows}
use Rattle.paper.specs.Accepted.{Kept}
use Rattle.paper.specs.Store.{Slot, age, expired}
use Rattle.paper.specs.Reading.{reading_of}
use Rattle.paper.specs.Broken.{Fault, broken_or}
use Rattle.paper.specs.Relaying.{ReplacementsKnown}
use Rattle.paper.specs.Profiles.{Profile, plain_coach, driving_trailer, under_table, type_allowed, signal_tests, route_tests, signal_broken, route_broken, signal_breach, route_breach, first_breach, breach_in, where_accepted, breach_of, unless_breach, profiling, InProfile}
use Rattle.paper.proofs.AnswerLaws.{and_then_lem, gives_one, never_both}
use Rattle.paper.proofs.FirstLaws.{first_none, first_passed, first_fails}
use Rattle.paper.proofs.ListLaws.{kept, laid, sized_as}
use Rattle.paper.proofs.ReadingLaws.{live_exactly}
use Rattle.paper.proofs.RefusalLaws.{judge_low}

-- ---- the rules of an entry

-- every test is kept
abbrev pub kept_all : List Bool → Type 0
kept_all [] = Unit {0}
kept_all (t ∷ ts) = (t ≡ true) × kept_all ts

-- no rule is named exactly where every one is kept
pub tests_kept : (n : ℕ) (ts : List Bool) → eqb (broken_or (suc n) ts 0) 0 ≡ true → kept_all ts
tests_kept n [] e = tt
tests_kept n (true ∷ ts) e = (refl, tests_kept (suc n) ts e)
tests_kept n (false ∷ ts) e = absurd (omega (arith, eqb-true (suc n) 0 e))

pub kept_tests : (n : ℕ) (ts : List Bool) → kept_all ts → eqb (broken_or n ts 0) 0 ≡ true
kept_tests n [] h = refl
kept_tests n (t ∷ ts) h = rw h.0 (kept_tests (suc n) ts h.1)

-- "also allows R1 signals": those are no others than of type 0, so the sixth rule is asked of them alone
if_typed : (t : ℕ) (b : Bool) → (eqb t 0 || b) ≡ true → (t ≡ 0 → ⊥) → b ≡ true
if_typed t b e ne = rw (ne_eqb t 0 ne) at e

typed_if : (t : ℕ) (b : Bool) → ((t ≡ 0 → ⊥) → b ≡ true) → (eqb t 0 || b) ≡ true
typed_if t b h = elim (ℕ_discrete t 0) [
  | yes e ↦ rw (eq-eqb t 0 e)
  | no ne ↦ rw (ne_eqb t 0 ne) (h ne)
]

-- a signal's rules, one by one, and back
module _ (p : Profile) (l : SignalList) (k : ℕ) where
  pub record Allowed : Type 0 where
    pub typed : type_allowed p (l.signal k) ≡ true
    pub few : k < p.signals
    pub checked : (l.signal k).check ≡ 0 → ⊥
    pub limited : (1 ≤ (l.signal k).limit) × ((l.signal k).limit ≤ p.limit)
    pub replaced : knows l k (l.signal k).replacement ≡ true
    pub under : ((l.signal k).type ≡ 0 → ⊥) → under_table l (l.signal k) ≡ true

  pub allowed : eqb (signal_broken p l k) 0 ≡ true → Allowed
  unfolding signal_broken
  allowed e =
      let t = tests_kept 0 (signal_tests p l k) e in
      let limits = both _ _ t.1.1.1.0 in
      record {
        typed = t.0;
        few = ltb-true _ _ t.1.0;
        checked = eqb-false _ _ (not-true _ t.1.1.0);
        limited = (leb-true _ _ limits.0, leb-true _ _ limits.1);
        replaced = t.1.1.1.1.0;
        under = if_typed (l.signal k).type _ t.1.1.1.1.1.0;
      }

  pub allows : Allowed → eqb (signal_broken p l k) 0 ≡ true
  unfolding signal_broken
  allows h =
      let checked : not (eqb (l.signal k).check 0) ≡ true = rw (ne_eqb (l.signal k).check 0 h.checked) in
      let limited : (leb 1 (l.signal k).limit && leb (l.signal k).limit p.limit) ≡ true = rw (le-leb _ _ h.limited.0, le-leb _ _ h.limited.1) in
      kept_tests 1 (signal_tests p l k)
      (h.typed, (lt-ltb _ _ h.few, (checked, (limited, (h.replaced, (typed_if (l.signal k).type _ h.under, tt))))))

-- and a route's
pub route_ends : (p : Profile) (l : SignalList) (r : ℕ) → (eqb (route_broken p l r) 0 ≡ true) ↔ (route_end l.signal (l.route r) ≤ p.bits)
unfolding route_broken
route_ends p l r = (λ e. leb-true _ _ (tests_kept 0 (route_tests p l r) e).0, λ h. kept_tests 1 (route_tests p l r) (le-leb _ _ h, tt))

-- ---- the first breach

module _ (breaks : ℕ → ℕ) (fault : ℕ → Fault) (n : ℕ) (next : Sought Fault) where
  -- where nothing is found, no entry breaks a rule, and nothing follows
  pub none_found : first_breach breaks fault n next ≡ nothing → ((k : ℕ) → k < n → eqb (breaks k) 0 ≡ true) × (next ≡ nothing)
  unfolding first_breach
  none_found e = by (ltb (first_bad (λ j. eqb (breaks j) 0) n) n) refl e
    where
      by : (b : Bool) → ltb (first_bad (λ j. eqb (breaks j) 0) n) n ≡ b → cond b (found (fault (first_bad (λ j. eqb (breaks j) 0) n))) next ≡ nothing
          → ((k : ℕ) → k < n → eqb (breaks k) 0 ≡ true) × (next ≡ nothing)
      by true q e = let z : ◌≡◌ {A = ℕ} 0 1 = cc in absurd (omega arith)
      by false q e = (λ k lt. first_passed (λ j. eqb (breaks j) 0) n k (omega (arith, ltb-false (first_bad (λ j. eqb (breaks j) 0) n) n q)), e)

  pub nothing_found : ((k : ℕ) → k < n → eqb (breaks k) 0 ≡ true) → first_breach breaks fault n next ≡ next
  unfolding first_breach
  nothing_found h = rw (first_none (λ j. eqb (breaks j) 0) n h, le-ltb n n (omega arith))

-- a signal that keeps the profile is among the first that it allows, so there are no more
few_signals : (p : Profile) (l : SignalList) → ((k : ℕ) → k < l.signals → k < p.signals) → l.signals ≤ p.signals
few_signals p l h = by l.signals h
  where
    by : (n : ℕ) → ((k : ℕ) → k < n → k < p.signals) → n ≤ p.signals
    by zero h = omega arith
    by (suc n) h = omega (arith, h n (omega arith))

module _ (p : Profile) (xs : List ℕ) (n : Counts) where
  -- no entry breaks the profile exactly where every rule of it is kept
  pub no_breach : (breach_in p xs n ≡ nothing) ↔ InProfile p (list_of xs n)
  unfolding breach_in
  no_breach = (keeps, kept_by)
    where
      l : SignalList
      l = list_of xs n

      keeps : first_breach (signal_broken p l) (signal_breach p l n) n.signals (first_breach (route_broken p l) (route_breach p l n) n.routes nothing) ≡ nothing
          → InProfile p l
      keeps e =
          let s = none_found _ _ _ _ e in
          let r = none_found _ _ _ _ s.1 in
          record {
            few = few_signals p l (λ k lt. (allowed p l k (s.0 k lt)).few);
            typed = λ k lt. (allowed p l k (s.0 k lt)).typed;
            under = λ k lt. (allowed p l k (s.0 k lt)).under;
            checked = λ k lt. (allowed p l k (s.0 k lt)).checked;
            limited = λ k lt. (allowed p l k (s.0 k lt)).limited;
            replaced = λ k lt. (allowed p l k (s.0 k lt)).replaced;
            routed = λ k lt. (route_ends p l k).0 (r.0 k lt);
          }

      kept_by : InProfile p l
          → first_breach (signal_broken p l) (signal_breach p l n) n.signals (first_breach (route_broken p l) (route_breach p l n) n.routes nothing) ≡ nothing
      kept_by h =
          nothing_found _ _ _ _ (λ k lt. allows p l k (record {
            typed = h.typed k lt;
            few = omega (arith, h.few);
            checked = h.checked k lt;
            limited = h.limited k lt;
            replaced = h.replaced k lt;
            under = h.under k lt;
          }))
          ∙ nothing_found _ _ _ _ (λ k lt. (route_ends p l k).1 (h.routed k lt))

-- ---- what is accepted

unless_given : (m n : Counts) (x : Sought Fault) → unless_breach m x ≡ gives n → (x ≡ nothing) × (m ≡ n)
unless_given m n (found f) e = absurd (never_both _ n _ _ e refl)
unless_given m n nothing e = (refl, gives_one _ _ _ refl e)

module _ (p : Profile) (form : ℕ) (xs : List ℕ) (n : Counts) where
  -- accepted under a profile is exactly: generally accepted, with the same counts and version, and every rule of the profile kept
  pub profile_exactly : (profiling p form xs ≡ gives n) ↔ ((judge form xs ≡ gives n) × InProfile p (list_of xs n))
  unfolding profiling
  profile_exactly = (taken, takes)
    where
      taken : and_then (judge form xs) (λ m. unless_breach m (breach_in p xs m)) ≡ gives n → (judge form xs ≡ gives n) × InProfile p (list_of xs n)
      taken e =
          let o = and_then_lem (judge form xs) _ n e in
          let u = unless_given o.0 n (breach_in p xs o.0) o.1.1 in
          let q : o.0 ≡ n = u.1 in
          (rw q at o.1.0, (no_breach p xs n).0 (rw q at u.0))

      takes : (judge form xs ≡ gives n) × InProfile p (list_of xs n) → and_then (judge form xs) (λ m. unless_breach m (breach_in p xs m)) ≡ gives n
      takes h = rw (h.0, (no_breach p xs n).1 h.1)

  -- "an accepted list is accepted by the general judging too", whichever the profile and the form
  pub accepted_too : profiling p form xs ≡ gives n → judge form xs ≡ gives n
  accepted_too e = (profile_exactly.0 e).0

  pub keeps_profile : profiling p form xs ≡ gives n → InProfile p (list_of xs n)
  keeps_profile e = (profile_exactly.0 e).1

-- ---- what is refused

-- the judging refuses with 34, and the offset of the entry that breaks the profile, exactly where there is one; else it answers as the general judging
module _ (p : Profile) (form : ℕ) (xs : List ℕ) where
  pub with_breach : (f : Fault) → breach_of p form xs ≡ found f → profiling p form xs ≡ refused 34 f.at
  unfolding profiling breach_of
  with_breach f e = by (judge form xs) e
    where
      by : (a : Answer Counts) → where_accepted a (breach_in p xs) ≡ found f → and_then a (λ n. unless_breach n (breach_in p xs n)) ≡ refused 34 f.at
      by (gives n) e = ap (unless_breach n) e
      by (refused m at) e = let z : ◌≡◌ {A = ℕ} 0 1 = cc in absurd (omega arith)

  pub without_breach : breach_of p form xs ≡ nothing → profiling p form xs ≡ judge form xs
  unfolding profiling breach_of
  without_breach e = by (judge form xs) e
    where
      by : (a : Answer Counts) → where_accepted a (breach_in p xs) ≡ nothing → and_then a (λ n. unless_breach n (breach_in p xs n)) ≡ a
      by (gives n) e = ap (unless_breach n) e
      by (refused m at) e = refl

-- the general judging refuses with no number above 4, so 34 is the profile's alone: refused with 34 is exactly that an entry breaks the profile
pub refused_exactly : (p : Profile) (form : ℕ) (xs : List ℕ) (at : ℕ)
    → (profiling p form xs ≡ refused 34 at) ↔ ((f : Fault) × ((breach_of p form xs ≡ found f) × (f.at ≡ at)))
refused_exactly p form xs at = (told (breach_of p form xs) refl, λ w. with_breach p form xs w.0 w.1.0 ∙ ap (refused 34) w.1.1)
  where
    told : (x : Sought Fault) → breach_of p form xs ≡ x → profiling p form xs ≡ refused 34 at → (f : Fault) × ((x ≡ found f) × (f.at ≡ at))
    told (found f) q e =
        let z : refused 34 f.at ≡ refused 34 at = sym (with_breach p form xs f q) ∙ e in
        (f, (refl, let w : f.at ≡ at = cc in w))
    told nothing q e = absurd (omega (arith, judge_low form xs 34 at (sym (without_breach p form xs q) ∙ e)))

-- of n entries: which is found, or what follows
module _ (breaks : ℕ → ℕ) (fault : ℕ → Fault) (n : ℕ) (next : Sought Fault) (f : Fault) where
  pub record Here : Type 0 where
    pub k : ℕ
    pub there : k < n
    pub is : f ≡ fault k
    pub broken_here : breaks k ≡ 0 → ⊥
    pub kept_before : (j : ℕ) → j < k → breaks j ≡ 0

  pub first_breach_lem : first_breach breaks fault n next ≡ found f → Here ⊎ (((k : ℕ) → k < n → breaks k ≡ 0) × (next ≡ found f))
  unfolding first_breach
  first_breach_lem e = by (ltb k n) refl e
    where
      keeps : ℕ → Bool
      keeps j = eqb (breaks j) 0

      k : ℕ
      k = first_bad keeps n

      by : (b : Bool) → ltb k n ≡ b → cond b (found (fault k)) next ≡ found f → Here ⊎ (((j : ℕ) → j < n → breaks j ≡ 0) × (next ≡ found f))
      by true q e =
          inl (record {
            k = k;
            there = ltb-true k n q;
            is = let z : fault k ≡ f = cc in sym z;
            broken_here = eqb-false _ _ (first_fails keeps n (ltb-true k n q));
            kept_before = λ j lt. eqb-true _ _ (first_passed keeps n j lt);
          })
      by false q e = inr (λ j lt. eqb-true _ _ (first_passed keeps n j (omega (arith, ltb-false k n q))), e)

-- "the earliest in list order": the entry named breaks a rule, and every signal and route before it in the list keeps them all
module _ (p : Profile) (xs : List ℕ) (n : Counts) (f : Fault) where
  pub earliest : let l = list_of xs n in breach_in p xs n ≡ found f
      → Here (signal_broken p l) (signal_breach p l n) n.signals (first_breach (route_broken p l) (route_breach p l n) n.routes nothing) f
      ⊎ (((k : ℕ) → k < n.signals → signal_broken p l k ≡ 0) × Here (route_broken p l) (route_breach p l n) n.routes nothing f)
  unfolding breach_in
  earliest e = by (first_breach_lem _ _ _ _ f e)
    where
      l : SignalList
      l = list_of xs n

      by : Here (signal_broken p l) (signal_breach p l n) n.signals (first_breach (route_broken p l) (route_breach p l n) n.routes nothing) f
          ⊎ (((k : ℕ) → k < n.signals → signal_broken p l k ≡ 0) × (first_breach (route_broken p l) (route_breach p l n) n.routes nothing ≡ found f))
          → Here (signal_broken p l) (signal_breach p l n) n.signals (first_breach (route_broken p l) (route_breach p l n) n.routes nothing) f
          ⊎ (((k : ℕ) → k < n.signals → signal_broken p l k ≡ 0) × Here (route_broken p l) (route_breach p l n) n.routes nothing f)
      by (inl h) = inl h
      by (inr h) = inr (h.0, ⊎_elim (λ r. r) (λ none. let z : ◌≡◌ {A = ℕ} 0 1 = cc in absurd (omega arith)) (first_breach_lem _ _ _ _ f h.1))

-- ---- a profile within another

-- what a wider profile allows: a plain coach's list is a driving trailer's too
pub record Within (p q : Profile) : Type 0 where
  pub signals : p.signals ≤ q.signals
  pub limit : p.limit ≤ q.limit
  pub bits : p.bits ≤ q.bits
  pub r1 : p.r1 ≡ true → q.r1 ≡ true

pub coach_in_trailer : Within plain_coach driving_trailer
coach_in_trailer = record { signals = omega arith; limit = omega arith; bits = omega arith; r1 = λ e. refl }

wider_type : (p q : Profile) → Within p q → (s : Signal) → type_allowed p s ≡ true → type_allowed q s ≡ true
wider_type p q w s e = by (eqb s.type 0) (eqb s.type 1) e
  where
    by : (a b : Bool) → (a || p.r1 && b) ≡ true → (a || q.r1 && b) ≡ true
    by true b e = refl
    by false b e = let h = both p.r1 b e in rw (w.r1 h.0, h.1)

pub wider_accepts : (p q : Profile) → Within p q → (form : ℕ) (xs : List ℕ) (n : Counts) → profiling p form xs ≡ gives n → profiling q form xs ≡ gives n
wider_accepts p q w form xs n e =
    let h = keeps_profile p form xs n e in
    (profile_exactly q form xs n).1 (
      accepted_too p form xs n e,
      record {
        few = omega (arith, h.few, w.signals);
        typed = λ k lt. wider_type p q w ((list_of xs n).signal k) (h.typed k lt);
        under = h.under;
        checked = h.checked;
        limited = λ k lt. ((h.limited k lt).0, omega (arith, (h.limited k lt).1, w.limit));
        replaced = h.replaced;
        routed = λ r lt. omega (arith, h.routed r lt, w.bits);
      },
    )

-- ---- what a small controller gains

-- no value is live that is older than the profile's limit
pub never_late : (p : Profile) (l : SignalList) → InProfile p l → (slot : Slot) (now k : ℕ) → k < l.signals → (reading_of l slot now k).reason ≤ 1
    → age now slot.stamp ≤ p.limit
never_late p l h slot now k lt live =
    let limited = h.limited k lt in
    ⊎_elim
    (λ e. omega (arith, leb-true (age now slot.stamp) (l.signal k).limit e, limited.1))
    (λ e. absurd (omega (arith, eqb-true (l.signal k).limit 0 e, limited.0)))
    (either (leb (age now slot.stamp) (l.signal k).limit) (eqb (l.signal k).limit 0) (both (not (expired slot) || eqb (l.signal k).limit 0) _ ((live_exactly l slot now k).0 live).in_time_lem).1)

-- the list meets two premises of C-24: every signal has a check, and every replacement is known, so that no relaying is refused with 15
pub meets_premises : (p : Profile) (l : SignalList) → InProfile p l → ((k : ℕ) → k < l.signals → (l.signal k).check ≡ 0 → ⊥) × ReplacementsKnown l
meets_premises p l h = (h.checked, h.replaced)

-- each route has a bit at least, behind those of the routes before
route_far : (l : SignalList) → Kept l → (k : ℕ) → k < l.routes → k < route_end l.signal (l.route k)
route_far l h zero lt = omega (arith, (h.signal (l.route 0).signal (h.route 0 lt).exists).some)
route_far l h (suc k) lt =
    let q : suc k - 1 ≡ k = omega arith in
    let follows : route_end l.signal (l.route k) ≤ (l.route (suc k)).start = rw q at ((h.route (suc k) lt).follows (omega arith)) in
    omega (
      arith,
      route_far l h k (omega arith),
      (h.signal (l.route (suc k)).signal (h.route (suc k) lt).exists).some,
    )

module _ (p : Profile) (form : ℕ) (xs : List ℕ) (n : Counts) (e : profiling p form xs ≡ gives n) where
  pub few_routes : n.routes ≤ p.bits
  few_routes = by n.routes refl
    where
      by : (m : ℕ) → n.routes ≡ m → m ≤ p.bits
      by zero q = omega arith
      by (suc m) q =
          let lt : m < n.routes = omega arith in
          omega (arith, route_far (list_of xs n) (kept form xs n (accepted_too p form xs n e)) m lt, (keeps_profile p form xs n e).routed m lt)

  -- the longest list that it can be handed
  pub longest_in_profile : length xs ≤ 3208 + signal_size form * p.signals + route_size * p.bits
  longest_in_profile =
      let h = laid form xs n (accepted_too p form xs n e) in
      let q = sized_as (signal_size form) xs n (accepted_too p form xs n e) in
      let most : n.size * n.signals ≤ n.size * p.signals = mul-le-mul_left n.size (keeps_profile p form xs n e).few in
      rw q (omega (
        arith,
        h.checks.opens.within,
        h.codes.opens.within,
        few_routes,
        h.ends,
        length-drop (entry check_size n.checks) xs,
        length-drop (entry n.size n.signals) (signals_part xs n),
        length-drop (entry code_size n.codes) (codes_part xs n),
      ))

-- in numbers, of either profile: 5,000 octets in form 1, 5,128 in form 2
module _ (p : Profile) (both_of : (p ≡ plain_coach) ⊎ (p ≡ driving_trailer)) (xs : List ℕ) (n : Counts) where
  pub longest_coach_1 : profiling p 1 xs ≡ gives n → length xs ≤ 5000
  unfolding signal_size
  longest_coach_1 e =
      ⊎_elim (λ (q : p ≡ plain_coach). rw q at (longest_in_profile p 1 xs n e)) (λ (q : p ≡ driving_trailer). rw q at (longest_in_profile p 1 xs n e)) both_of

  pub longest_coach_2 : profiling p 2 xs ≡ gives n → length xs ≤ 5128
  unfolding signal_size
  longest_coach_2 e =
      ⊎_elim (λ (q : p ≡ plain_coach). rw q at (longest_in_profile p 2 xs n e)) (λ (q : p ≡ driving_trailer). rw q at (longest_in_profile p 2 xs n e)) both_of
