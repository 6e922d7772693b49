-- How a judge puts its answer together, which checks a field need not be tested against, and that an accepted list is laid out as its counts say.
-- Assumes nothing.
use Prim.Native.Nat.{ℕ, zero, suc, ◌+◌, ◌-◌, ◌*◌, ◌≤◌, ◌<◌}
use mathlib.Core.Path.{◌≡◌, refl, sym, ap, ap₂, ◌∙◌}
use mathlib.Core.Bool.{Bool, true, false, cond, ◌&&◌, or-true}
use mathlib.Core.List.{List}
use native.Mathlib.Nat.{le_refl, add-zero, add-suc, lt_of_mul-lt-mul_left, mul-lt-mul_of_pos_left}
use native.Mathlib.Decide.{dec_lt}
use native.Mathlib.Omega.{arith}
use lib.ListN.{length}
use lib.Dec.{ltb, leb}
use borrow.Author.Count.{below_none, below_more}
use borrow.Author.Tests.{lt-ltb, le-ltb, le-leb, lt-leb, ltb-true, ltb-false, leb-true}
use Rattle.paper.specs.Answer.{Answer, gives, refused, refuse_if, and_then, shift}
use Rattle.paper.specs.First.{first_bad, all}
use Rattle.paper.specs.SignalList.{Signal, Counts as PaperCounts, field_end, entry, rest, apart, clear_rule}
use Rattle.paper.specs.SignalList.{most_checks, most_signals, most_codes, most_routes, check_size, code_size, route_size}
use Rattle.paper.specs.SignalList.{check_at, signal_at, code_at, route_at, check_rule, signal_rule, code_rule, route_rule}
use Rattle.paper.specs.SignalList.{SignalList, list_of, under_list, ending, from_routes, from_codes, from_signals}
use Rattle.paper.specs.SignalList.{opening, judge_entries, judge_section, judge}
use Rattle.paper.proofs.AnswerLaws.{never_both}
use Rattle.paper.proofs.FirstLaws.{first_passed, all_true, all_false, all_at}
use Rattle.bools.proofs.Tests.{both}
use Rattle.paper.proofs.ListLaws.{check_kept, opened_of, laid, within_rest}
use Rattle.paper.specs.Accepted.{Laid, RefusedWithin}
use Rattle.std.specs.Prelude.{Result}
use Rattle.refusals.specs.declared.Refusal.{Refusal}
use Rattle.refusals.proofs.WrittenLaws.{HandedOn, handed_on, one_result}
use Rattle.lists.specs.declared.Counts.{Counts}
use Rattle.lists.specs.declared.Broken.{Broken}
use Rattle.lists.specs.Judged.{counts_of, rule_number, sized_answer, judged_answer}

-- what follows a section is judged as the rest of the list, at its place in the list
abbrev pub onward : ℕ → List ℕ → (ℕ → List ℕ → Answer PaperCounts) → ℕ → Answer PaperCounts
onward size xs from n = shift (entry size n) (from n (rest size n xs))

-- ---- a section and what follows it

-- its limit, its entries' size and rule, the list from its count on, and what is answered past n entries that keep the rule
pub record Part : Type 0 where
  pub limit : ℕ
  pub size : ℕ
  pub rule : ℕ → Bool
  pub octets : List ℕ
  pub next : ℕ → Answer PaperCounts

-- those of document 01, each from its count on
abbrev pub routes_from : ℕ → ℕ → (ℕ → Signal) → ℕ → ℕ → List ℕ → Part
routes_from size signals signal checks codes xs = record {
  limit = most_routes;
  size = route_size;
  rule = route_rule signals signal (route_at xs);
  octets = xs;
  next = ending size signals signal checks codes xs;
}

abbrev pub codes_from : ℕ → ℕ → (ℕ → Signal) → ℕ → List ℕ → Part
codes_from size signals signal checks xs = record {
  limit = most_codes;
  size = code_size;
  rule = code_rule signals signal (code_at xs);
  octets = xs;
  next = onward code_size xs (from_routes size signals signal checks);
}

abbrev pub signals_from : ℕ → ℕ → (ℕ → ℕ) → List ℕ → Part
signals_from size checks check xs = record {
  limit = most_signals;
  size = size;
  rule = signal_rule checks check (signal_at size xs);
  octets = xs;
  next = onward size xs (λ n. from_codes size n (signal_at size xs) checks);
}

abbrev pub checks_from : ℕ → List ℕ → Part
checks_from size xs = record {
  limit = most_checks;
  size = check_size;
  rule = check_rule (check_at xs);
  octets = xs;
  next = onward check_size xs (λ n. from_signals size n (check_at xs));
}

abbrev pub judged_part : Part → Answer PaperCounts
judged_part p = and_then (judge_section p.limit p.size p.rule p.octets) p.next

-- it opens with n entries
pub record Opens (p : Part) (n : ℕ) : Type 0 where
  pub told : gives n ≡ opening p.limit p.size p.octets
  pub within : n ≤ p.limit
  pub present : entry p.size n ≤ length p.octets

module _ (p : Part) where
  pub opens : (n : ℕ) → gives n ≡ opening p.limit p.size p.octets → Opens p n
  opens n told = let o = opened_of _ _ _ n (sym told) in record { told = told; within = o.within; present = o.present }

  -- what did not open is the answer of the whole
  pub not_opened : (r : Result Counts Broken) (b : Broken) → HandedOn r b → refused (rule_number b.rule) b.at ≡ opening p.limit p.size p.octets
      → sized_answer r ≡ judged_part p
  unfolding judge_section
  not_opened r b h told = rw (handed_on r b h, ← told)

module _ {p : Part} {n : ℕ} (o : Opens p n) where
  -- `at` is what the loop over its entries answered
  module _ {at : ℕ} (is : at ≡ entry p.size (first_bad p.rule n)) where
    pub entry_broken : at < entry p.size n → refused 3 at ≡ judged_part p
    unfolding judge_section judge_entries refuse_if
    entry_broken h = rw (← o.told, lt-ltb (first_bad p.rule n) n (lt_of_mul-lt-mul_left p.size (omega arith)), is)

    module _ (pos : 0 < p.size) (h : entry p.size n ≤ at) where
      none_broken : n ≤ first_bad p.rule n
      none_broken = elim (dec_lt (first_bad p.rule n) n) [
        | yes lt ↦ let less : p.size * first_bad p.rule n < p.size * n = mul-lt-mul_of_pos_left lt pos in omega arith
        | no ge ↦ omega arith
      ]

      pub entries_kept : (y : Answer PaperCounts) → y ≡ p.next n → y ≡ judged_part p
      unfolding judge_section judge_entries refuse_if
      entries_kept y q = rw (← o.told, le-ltb (first_bad p.rule n) n none_broken) q

      pub all_kept : all p.rule n ≡ true
      all_kept = all_true p.rule n (λ k lt. first_passed p.rule n k (omega (arith, none_broken)))

  -- x is what the judge of the rest answered: it can be moved to its place, and is then what follows
  module _ (from : ℕ → List ℕ → Answer PaperCounts) {x : Answer PaperCounts} {ys : List ℕ} (is : x ≡ from n ys) (past : ys ≡ rest p.size n p.octets) where
    pub moves : {most : ℕ} → length p.octets ≤ most → RefusedWithin (length ys) (from n ys) → RefusedWithin most (shift (entry p.size n) x)
    moves le w = rw (is, past) (within_rest p.size n p.octets _ (from n (rest p.size n p.octets)) o.present le (rw past at w))

    pub follows : {y : Answer PaperCounts} → y ≡ shift (entry p.size n) x → y ≡ onward p.size p.octets from n
    follows e = e ∙ ap (shift (entry p.size n)) (is ∙ ap (from n) past)

-- ---- signals against checks

-- a loop over the checks stands at j: those before end at or before the bit `start`
pub record Behind (checks : ℕ) (check : ℕ → ℕ) (start j : ℕ) : Type 0 where
  pub within : j ≤ checks
  pub each : (m : ℕ) → m < j → check m + 2 ≤ start

module _ {checks : ℕ} {check : ℕ → ℕ} where
  pub behind_none : (start : ℕ) → Behind checks check start 0
  behind_none start = record { within = omega arith; each = below_none _ }

  module _ {start j : ℕ} (b : Behind checks check start j) where
    pub behind_more : j < checks → check j + 2 ≤ start → Behind checks check start (j + 1)
    behind_more lt h = record { within = omega arith; each = below_more _ _ b.each h }

    pub behind_later : (later : ℕ) → start ≤ later → Behind checks check later j
    behind_later later h = record { within = b.within; each = λ m l. omega (arith, b.each m l) }

    -- a field that starts no earlier has them behind it too
    pub behind_resumed : (later : ℕ) → Behind checks check later (cond (leb start later) j 0)
    behind_resumed later = by (leb start later) refl
      where
        by : (t : Bool) → leb start later ≡ t → Behind checks check later (cond t j 0)
        by true e = behind_later later (leb-true _ _ e)
        by false e = behind_none later

module _ (checks : ℕ) (check : ℕ → ℕ) where
  module _ (kept : all (check_rule check) checks ≡ true) where
    checks_rise : (d j : ℕ) → j + d < checks → check j ≤ check (j + d)
    checks_rise zero j lt = rw add-zero (le_refl _)
    checks_rise (suc d) j lt =
        let z : suc (j + d) - 1 ≡ j + d = omega arith in
        let r = rw z at ((check_kept check (suc (j + d)) (all_at (check_rule check) checks kept (suc (j + d)) (omega arith))).rises (omega arith)) in
        rw add-suc (omega (arith, r, checks_rise d j (omega arith)))

    -- where check j does not lie before the bit `end`, none from there on does
    pub none_before : (j end : ℕ) → (ltb j checks && ltb (check j) end) ≡ false → (m : ℕ) → j ≤ m → m < checks → end ≤ check m
    none_before j end e m ge lt =
        let z : j + (m - j) ≡ m = omega arith in
        let far : end ≤ check j = ltb-false _ _ (rw (lt-ltb j checks (omega arith)) at e) in
        let r = rw z at (checks_rise (m - j) j (rw z lt)) in
        omega (arith, far, r)

  module _ (s : Signal) (j : ℕ) where
    -- no check from j on lies before the field's end: it shares a bit with none
    pub shares_none : all (check_rule check) checks ≡ true → Behind checks check s.start j → (ltb j checks && ltb (check j) (field_end s)) ≡ false
        → true ≡ clear_rule checks check s
    shares_none kept b e = sym (all_true (λ m. apart s (check m)) checks (λ m lt. elim (dec_lt m j) [
      | yes h ↦ rw (le-leb (check m + 2) s.start (b.each m h), or-true)
      | no ge ↦ rw (le-leb (field_end s) (check m) (none_before kept j (field_end s) e m (omega arith) lt))
    ]))

    pub shares_one : (ltb j checks && ltb (check j) (field_end s)) ≡ true → s.start < check j + 2 → false ≡ clear_rule checks check s
    shares_one e h =
        let p = both _ _ e in
        sym (all_false (λ m. apart s (check m)) checks j (ltb-true _ _ p.0)
        (rw (lt-leb (field_end s) (check j) (ltb-true _ _ p.1), lt-leb (check j + 2) s.start h)))

-- ---- what an accepted list keeps

module _ (form : ℕ) (xs : List ℕ) (n : Counts) (e : gives (counts_of n) ≡ judge form xs) where
  pub accepted_laid : Laid xs (counts_of n)
  accepted_laid = laid form xs (counts_of n) (sym e)

-- ---- the contract settles the answer

pub one_judged : (a : Answer PaperCounts) (v w : Result Counts Refusal) → judged_answer v ≡ a → judged_answer w ≡ a → v ≡ w
one_judged =
    one_result counts_of
    (λ x. record { checks = x.checks; signals = x.signals; codes = x.codes; routes = x.routes; version = x.version; size = x.size }) (λ x. refl)

-- ---- a call by a list goes on with what is accepted, or is refused as judging is

module _ {A : Type 0} (form : ℕ) (xs : List ℕ) (call : SignalList → Answer A) where
  pub under_accepted : (l : SignalList) (y : Answer A) → gives l ≡ under_list form xs gives → y ≡ call l → y ≡ under_list form xs call
  under_accepted l y e q = goes (judge form xs) e
    where
      goes : (j : Answer PaperCounts) → gives l ≡ and_then j (λ n. gives (list_of xs n)) → y ≡ and_then j (λ n. call (list_of xs n))
      goes (gives n) e = let same : l ≡ list_of xs n = cc in q ∙ ap call same
      goes (refused n at) e = absurd (never_both (refused n at) l n at (sym e) refl)

  pub under_refused : (n at : ℕ) → refused n at ≡ under_list form xs gives → refused n at ≡ under_list form xs call
  under_refused n at e = goes (judge form xs) e
    where
      goes : (j : Answer PaperCounts) → refused n at ≡ and_then j (λ m. gives (list_of xs m)) → refused n at ≡ and_then j (λ m. call (list_of xs m))
      goes (gives m) e = absurd (never_both {A = SignalList} (refused n at) (list_of xs m) n at e refl)
      goes (refused m b) e = ap₂ refused (cc) (cc)
