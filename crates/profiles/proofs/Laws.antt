-- The rules of a signal as the code asks them, one after the other, and how its answers are put together. Assumes nothing.
use Prim.Native.Nat.{ℕ, ◌+◌, ◌≤◌, ◌<◌}
use mathlib.Core.Path.{◌≡◌, refl, sym, ap, ◌∙◌}
use mathlib.Core.Logic.{◌↔◌}
use mathlib.Core.Bool.{Bool, true, false, not, ◌&&◌, ◌||◌}
use mathlib.Core.List.{List}
use native.Mathlib.Omega.{arith}
use native.Mathlib.Decide.{dec_lt, ℕ_discrete}
use lib.Dec.{ltb, leb, eqb}
use borrow.Author.Tests.{lt-ltb, le-ltb, le-leb, lt-leb, eq-eqb, ne_eqb, not-true, not-false}
use Rattle.paper.specs.Answer.{Sought, found, nothing}
use Rattle.paper.specs.First.{first_bad, all}
use Rattle.paper.specs.Telegrams.{check_place}
use Rattle.paper.specs.SignalList.{Signal, Route, SignalList, knows, place_of, route_end, judge, list_of}
use Rattle.paper.specs.Accepted.{Laid, Kept}
use Rattle.paper.specs.Broken.{Fault as PaperFault}
use Rattle.paper.specs.Profiles.{Profile as PaperProfile, gives_place, under_table, type_allowed, signal_broken, route_broken, first_breach, where_accepted, breach_in, breach_of, profiling, InProfile}
use Rattle.paper.proofs.ListLaws.{laid, kept_of}
use Rattle.paper.proofs.ProfileLaws.{profile_exactly}
use Rattle.paper.proofs.LoopLaws.{Passed, fails_here}
use Rattle.refusals.specs.declared.Refusal.{Refusal}
use Rattle.lists.specs.declared.Counts.{Counts as CodeCounts}
use Rattle.faults.specs.declared.Fault.{Fault}
use Rattle.faults.specs.Faults.{fault_answer}
use Rattle.std.specs.Prelude.{Option, Some, None, Result, Ok, Err}
use Rattle.std.specs.Result.{result_ok}
use Rattle.lists.specs.declared.accepted.AcceptedList.{AcceptedList}
use Rattle.lists.specs.Listed.{list_as}
use Rattle.lists.specs.Judged.{counts_of, judged_answer}
use Rattle.lists.proofs.Laws.{one_judged}
use Rattle.profiles.specs.declared.Profile.{Profile}
use Rattle.profiles.specs.declared.Profile.TheVariants.{PlainCoach, DrivingTrailer}
use Rattle.profiles.specs.Profiles.{profile_of}

-- ---- what both allow

pub most_signals_lem : (p : Profile) → (profile_of p).signals ≡ 64
most_signals_lem PlainCoach = refl
most_signals_lem DrivingTrailer = refl

pub longest_limit_lem : (p : Profile) → (profile_of p).limit ≡ 5000
longest_limit_lem PlainCoach = refl
longest_limit_lem DrivingTrailer = refl

pub most_bits : (p : Profile) → (profile_of p).bits ≡ 128
most_bits PlainCoach = refl
most_bits DrivingTrailer = refl

-- the limit is asked for what it must not be
limit_asked : (t : ℕ) → (leb 1 t && leb t 5000) ≡ not (eqb t 0 || ltb 5000 t)
limit_asked t =
    elim (ℕ_discrete t 0) [
      | yes e ↦ rw (eq-eqb t 0 e, lt-leb 1 t (omega arith))
      | no ne ↦ elim (dec_lt 5000 t) [
        | yes l ↦ rw (ne_eqb t 0 ne, lt-ltb 5000 t l, lt-leb t 5000 l, le-leb 1 t (omega arith))
        | no ge ↦ rw (ne_eqb t 0 ne, le-ltb 5000 t (omega arith), le-leb t 5000 (omega arith), le-leb 1 t (omega arith))
      ]
    ]

-- ---- the rules of signal k, s, one after the other

module _ (p : Profile) (l : SignalList) (k : ℕ) {s : Signal} (is : s ≡ l.signal k) {b : Bool} (b-is : b ≡ type_allowed (profile_of p) s) where
  pub type_broken : not b ≡ true → 1 ≡ signal_broken (profile_of p) l k
  unfolding signal_broken
  type_broken e = rw (← is, sym b-is ∙ not-true b e)

  module _ (typed : not b ≡ false) where
    allowed : type_allowed (profile_of p) s ≡ true
    allowed = sym b-is ∙ not-false b typed

    pub number_broken : 64 ≤ k → 2 ≡ signal_broken (profile_of p) l k
    unfolding signal_broken
    number_broken ge = rw (← is, allowed, most_signals_lem p, le-ltb k 64 ge)

    module _ (few : k < 64) where
      pub check_broken : s.check ≡ 0 → 3 ≡ signal_broken (profile_of p) l k
      unfolding signal_broken
      check_broken e = rw (← is, allowed, most_signals_lem p, lt-ltb k 64 few, eq-eqb s.check 0 e)

      module _ (checked : s.check ≡ 0 → ⊥) where
        pub limit_broken : (eqb s.limit 0 || ltb 5000 s.limit) ≡ true → 4 ≡ signal_broken (profile_of p) l k
        unfolding signal_broken
        limit_broken e =
            rw (← is, allowed, most_signals_lem p, lt-ltb k 64 few, ne_eqb s.check 0 checked, longest_limit_lem p, limit_asked s.limit, e)

        module _ (limited : (eqb s.limit 0 || ltb 5000 s.limit) ≡ false) {c : Bool} (c-is : c ≡ knows l k s.replacement) where
          pub replacement_broken : not c ≡ true → 5 ≡ signal_broken (profile_of p) l k
          unfolding signal_broken
          replacement_broken e =
              rw (← is, allowed, most_signals_lem p, lt-ltb k 64 few, ne_eqb s.check 0 checked, longest_limit_lem p, limit_asked s.limit, limited, sym c-is ∙ not-true c e)

          module _ (known : not c ≡ false) where
            pub common_kept : s.type ≡ 0 → 0 ≡ signal_broken (profile_of p) l k
            unfolding signal_broken
            common_kept e =
                rw (← is, allowed, most_signals_lem p, lt-ltb k 64 few, ne_eqb s.check 0 checked, longest_limit_lem p, limit_asked s.limit, limited, sym c-is ∙ not-false c known, eq-eqb s.type 0 e)

            module _ (r1 : s.type ≡ 0 → ⊥) {place : ℕ} (place_is : place ≡ place_of l s) {d : Bool}
                (d-is : d ≡ all (λ i. gives_place (check_place (s.start + i)) place) s.width) where
              under_is : d ≡ under_table l s
              unfolding under_table
              under_is = rw (← place_is) d-is

              pub place_kept : d ≡ true → 0 ≡ signal_broken (profile_of p) l k
              unfolding signal_broken
              place_kept e =
                  rw (← is, allowed, most_signals_lem p, lt-ltb k 64 few, ne_eqb s.check 0 checked, longest_limit_lem p, limit_asked s.limit, limited, sym c-is ∙ not-false c known, ne_eqb s.type 0 r1, sym under_is ∙ e)

              pub place_broken : d ≡ false → 6 ≡ signal_broken (profile_of p) l k
              unfolding signal_broken
              place_broken e =
                  rw (← is, allowed, most_signals_lem p, lt-ltb k 64 few, ne_eqb s.check 0 checked, longest_limit_lem p, limit_asked s.limit, limited, sym c-is ∙ not-false c known, ne_eqb s.type 0 r1, sym under_is ∙ e)

-- ---- the rule of route r, t, to a signal of w bits

module _ (p : Profile) (l : SignalList) (r : ℕ) {t : Route} (is : t ≡ l.route r) {w : ℕ} (wide : w ≡ (l.signal t.signal).width) where
  ends : route_end l.signal (l.route r) ≡ t.start + w
  ends = rw (← is, wide)

  pub route_kept : t.start + w ≤ 128 → 0 ≡ route_broken (profile_of p) l r
  unfolding route_broken
  route_kept h = rw (ends, most_bits p, le-leb (t.start + w) 128 h)

  pub route_far : 128 < t.start + w → 1 ≡ route_broken (profile_of p) l r
  unfolding route_broken
  route_far h = rw (ends, most_bits p, lt-leb (t.start + w) 128 h)

-- the signal of a route exists, and the check of a signal
module _ (l : AcceptedList) where
  kept : Kept (list_as l)
  kept = kept_of l.octets.now (counts_of l.counts) l.laid

  pub route_to : (r : ℕ) → r < l.counts.routes → (t : Route) → t ≡ (list_as l).route r → t.signal < l.counts.signals
  route_to r h t e = rw e (kept.route r h).exists

  pub check_of : (k : ℕ) → k < l.counts.signals → (s : Signal) → s ≡ (list_as l).signal k → s.check ≤ l.counts.checks
  check_of k h s e = rw e (kept.signal k h).named.exists

-- what `signal_broken` goes by
pub ruleset signal_laws = (type_broken, number_broken, check_broken, limit_broken, replacement_broken, common_kept, place_kept, place_broken, check_of)

-- ---- a loop over entries that stops where a rule is broken; a is the rule that the entry breaks

module _ (breaks : ℕ → ℕ) {n k a : ℕ} (p : Passed (λ j. eqb (breaks j) 0) n k) (lt : k < n) (is : a ≡ breaks k) where
  pub breaks_here : (a ≡ 0 → ⊥) → k ≡ first_bad (λ j. eqb (breaks j) 0) n
  breaks_here ne = fails_here p lt {b = false} (sym (ne_eqb (breaks k) 0 (λ e. ne (is ∙ e)))) refl

-- ---- the first entry at fault

module _ (breaks : ℕ → ℕ) (fault : ℕ → PaperFault) (n : ℕ) (next : Sought PaperFault) {k : ℕ} (first : k ≡ first_bad (λ j. eqb (breaks j) 0) n) where
  pub breach_here : k < n → {f : PaperFault} → f ≡ fault k → found f ≡ first_breach breaks fault n next
  unfolding first_breach
  breach_here h q = rw (← first, lt-ltb k n h) (ap found q)

  pub breach_past : n ≤ k → {y : Sought PaperFault} → y ≡ next → y ≡ first_breach breaks fault n next
  unfolding first_breach
  breach_past h q = rw (← first, le-ltb k n h) q

-- ---- behind the general judging: r is what it answered

pub ok_laid : (form : ℕ) (xs : List ℕ) (r : Result CodeCounts Refusal) → judged_answer r ≡ judge form xs → (n : CodeCounts) → Some n ≡ result_ok r → Laid xs (counts_of n)
ok_laid form xs (Ok m) said n e = let z : n ≡ m = cc in rw z (laid form xs (counts_of m) (sym said))
ok_laid form xs (Err f) said n e = cc

module _ (p : PaperProfile) (form : ℕ) (xs : List ℕ) (r : Result CodeCounts Refusal) (said : judged_answer r ≡ judge form xs) where
  pub refused_none : None ≡ result_ok r → (o : Option Fault) → o ≡ None → fault_answer o ≡ breach_of p form xs
  unfolding breach_of
  refused_none e o none = rw (none, ← said) (by r e)
    where
      by : (s : Result CodeCounts Refusal) → None ≡ result_ok s → nothing ≡ where_accepted (judged_answer s) (breach_in p xs)
      by (Ok m) e = cc
      by (Err f) e = refl

  pub found_by : (n : CodeCounts) → Some n ≡ result_ok r → (y : Sought PaperFault) → y ≡ breach_in p xs (counts_of n) → y ≡ breach_of p form xs
  unfolding breach_of
  found_by n e y q = rw (← said) (by r e)
    where
      by : (s : Result CodeCounts Refusal) → Some n ≡ result_ok s → y ≡ where_accepted (judged_answer s) (breach_in p xs)
      by (Ok m) e = let z : n ≡ m = cc in q ∙ ap (λ (x : CodeCounts). breach_in p xs (counts_of x)) z
      by (Err f) e = cc

-- ---- what the calls tell, of any profile and form: r is what `judge_profile` answered, j what `judge` does

module _ (p : Profile) (form : ℕ) (xs : List ℕ) (r j : Result CodeCounts Refusal) (under : judged_answer r ≡ profiling (profile_of p) form xs) (general : judged_answer j ≡ judge form xs)
    (n : CodeCounts) where
  -- accepted under the profile is exactly: accepted by the general judging, with the same counts and version, and every rule of the profile kept
  pub accepted_exactly : (r ≡ Ok n) ↔ ((j ≡ Ok n) × InProfile (profile_of p) (list_of xs (counts_of n)))
  accepted_exactly = (told, back)
    where
      told : r ≡ Ok n → (j ≡ Ok n) × InProfile (profile_of p) (list_of xs (counts_of n))
      told e =
          let h = (profile_exactly (profile_of p) form xs (counts_of n)).0 (sym under ∙ ap judged_answer e) in
          (one_judged (judge form xs) j (Ok n) general (sym h.0), h.1)

      back : (j ≡ Ok n) × InProfile (profile_of p) (list_of xs (counts_of n)) → r ≡ Ok n
      back h =
          let q = (profile_exactly (profile_of p) form xs (counts_of n)).1 (sym general ∙ ap judged_answer h.0, h.1) in
          one_judged (profiling (profile_of p) form xs) r (Ok n) under (sym q)

  -- "an accepted list is accepted by the general judging too"
  pub accepted_by_both : r ≡ Ok n → j ≡ Ok n
  accepted_by_both e = (accepted_exactly.0 e).0
