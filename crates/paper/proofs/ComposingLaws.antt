-- A composed telegram: its field at a carried signal is the value, at a written check place the mark, its head the type and the list's
-- version, and every other bit 0. Assumes nothing.
use Prim.Native.Nat.{ℕ, zero, suc, ◌+◌, ◌-◌, ◌*◌, ◌/◌, ◌%◌, ◌^◌, ◌≤◌, ◌<◌}
use mathlib.Core.Path.{◌≡◌, refl, sym, ap, ◌∙◌}
use mathlib.Core.Logic.{◌⊎◌, inl, inr, ⊎_elim}
use mathlib.Core.Bool.{Bool, true, false, not, cond, ◌||◌}
use mathlib.Core.List.{List}
use native.Mathlib.Nat.{zero-div}
use native.Mathlib.Omega.{arith}
use native.Mathlib.Decide.{ℕ_discrete}
use lib.ListN.{length, get_or, replicate, length-replicate}
use lib.Dec.{eqb, lit<}
use borrow.Author.Tests.{ltb-true, ltb-false, leb-true, eqb-true, eqb-false, eq-eqb, lt-ltb, le-ltb, le-leb, not-false}
use Rattle.paper.specs.Octets.{octet, bit, field, puts, Octets, field_of}
use Rattle.paper.specs.Answer.{gives, refuse_if}
use Rattle.paper.specs.First.{first_bad}
use Rattle.paper.specs.Telegrams.{application_type, telegram_type, is_type, type_length, carries, mark_width}
use Rattle.paper.specs.SignalList.{SignalList, Counts, field_end, greatest_since, judge, list_of, version}
use Rattle.paper.specs.Composing.{writes_check, headed, signal_put, check_put, composed, mark_fits, value_fits, composing, Fitting, Composes}
use Rattle.paper.proofs.AnswerLaws.{not_refused, and_then_lem, gives_one}
use Rattle.paper.proofs.FirstLaws.{first_passed, first_none, greatest_least, greatest_at, greatest_most}
use Rattle.paper.proofs.FieldLaws.{field_octet, octet_field}
use Rattle.paper.proofs.PutsLaws.{Disjoint, length_puts, octets_puts, bit_puts_other, field_puts_other, field_puts}
use Rattle.bools.proofs.Tests.{both, either, other}
use Rattle.paper.specs.Accepted.{Kept}
use Rattle.paper.proofs.ListLaws.{fields_apart, checks_apart}
use Rattle.paper.proofs.StoreLaws.{type_least}

-- ---- versions

module _ (l : SignalList) where
  pub version_least : 1 ≤ version l
  unfolding version greatest_since
  version_least = greatest_least 1 (λ k. (l.signal k).since) l.signals

  pub version_at : (k : ℕ) → k < l.signals → (l.signal k).since ≤ version l
  unfolding version greatest_since
  version_at k h = greatest_at 1 (λ k. (l.signal k).since) l.signals k h

  pub version_octet : Kept l → version l ≤ 255
  unfolding version greatest_since
  version_octet h = greatest_most 1 (λ k. (l.signal k).since) l.signals 255 (omega arith) (λ k lt. (h.signal k lt).octet)

-- ---- what composing tests

pub composes : (form : ℕ) (xs : List ℕ) (type : ℕ) (values marks : List ℕ) (room : ℕ) (telegram : List ℕ) → composing form xs type values marks room ≡ gives telegram
    → Composes form xs type values marks telegram
unfolding composing mark_fits value_fits
composes form xs type values marks room telegram e =
    let o = and_then_lem (judge form xs) _ telegram e in
    let l = list_of xs o.0 in
    let a = not_refused _ _ _ _ _ o.1.1 in
    let b = not_refused _ _ _ _ _ a.1 in
    let c = not_refused _ _ _ _ _ b.1 in
    let d = not_refused _ _ _ _ _ c.1 in
    let f = not_refused _ _ _ _ _ d.1 in
    let each = both _ _ (not-false _ b.0) in
    let marks_fit : l.checks ≤ first_bad (mark_fits l type marks) l.checks = ltb-false _ _ c.0 in
    let values_fit : l.signals ≤ first_bad (value_fits l type values) l.signals = ltb-false _ _ d.0 in
    record {
      counts = o.0;
      accepted = o.1.0;
      fitting = record {
        typed = not-false _ a.0;
        valued = eqb-true _ _ each.0;
        marked = eqb-true _ _ each.1;
        value = λ k lt w.
            let p = both _ _ (other _ _ (first_passed (value_fits l type values) l.signals k (omega arith)) (ap not w)) in
            (ltb-true _ _ p.0, p.1);
        mark = λ j lt w.
            omega (arith, leb-true (get_or marks j 0) 3 (other _ _ (first_passed (mark_fits l type marks) l.checks j (omega arith)) (ap not w)));
      };
      is = sym (gives_one _ _ _ f.1 refl);
    }

-- what is not written is not tested
where_written : (written fits : Bool) → (written ≡ true → fits ≡ true) → (not written || fits) ≡ true
where_written true fits h = h refl
where_written false fits h = refl

-- and what passes the tests is composed, where the room is the type's length
pub composes_it : (form : ℕ) (xs : List ℕ) (n : Counts) (type : ℕ) (values marks : List ℕ) (room : ℕ) → judge form xs ≡ gives n → Fitting (list_of xs n) type values marks
    → room ≡ type_length type → composing form xs type values marks room ≡ gives (composed (list_of xs n) type values marks)
unfolding composing refuse_if mark_fits value_fits
composes_it form xs n type values marks room e fit long =
    let l = list_of xs n in
    let marks_fit : first_bad (mark_fits l type marks) l.checks ≡ l.checks =
    first_none (mark_fits l type marks) l.checks
    (λ j lt. where_written _ _ (λ w. let m = fit.mark j lt w in le-leb (get_or marks j 0) 3 (omega arith))) in
    let values_fit : first_bad (value_fits l type values) l.signals ≡ l.signals =
    first_none (value_fits l type values) l.signals
    (λ k lt. where_written _ _ (λ w. let v = fit.value k lt w in rw (lt-ltb _ _ v.0) v.1)) in
    rw (
      e,
      fit.typed,
      eq-eqb _ _ fit.valued,
      eq-eqb _ _ fit.marked,
      le-ltb (first_bad (mark_fits l type marks) l.checks) l.checks (omega arith),
      le-ltb (first_bad (value_fits l type values) l.signals) l.signals (omega arith),
      eq-eqb _ _ long,
    )

-- ---- zeros

pub zeros_at : (n i : ℕ) → get_or {A = ℕ} (replicate n 0) i 0 ≡ 0
zeros_at zero i = refl
zeros_at (suc n) zero = refl
zeros_at (suc n) (suc i) = zeros_at n i

pub length_zeros : (n : ℕ) → length (replicate {A = ℕ} n 0) ≡ n
length_zeros n = length-replicate n 0

zero_bit : (n : ℕ) → 0 / 2 ^ n % 2 ≡ 0
zero_bit n = ap (λ (x : ℕ). x % 2) (zero-div (2 ^ n))

-- ---- the telegram

-- the types that a telegram type carries
carried_type : (type s : ℕ) → carries type s ≡ true → (s ≡ 0) ⊎ (s ≡ type)
carried_type type s e = ⊎_elim (λ a. inl (eqb-true _ _ a)) (λ a. inr (eqb-true _ _ a)) (either _ _ e)

pub type_range : (type : ℕ) → is_type type ≡ true → (1 ≤ type) × (type ≤ 3)
type_range type e = let p = both _ _ e in (leb-true _ _ p.0, leb-true _ _ p.1)

-- an R3 has 320 bits, any other type 1,024
pub type_bits : (type : ℕ) → ((type ≡ 3) × (type_length type ≡ 40)) ⊎ ((type ≡ 3 → ⊥) × (type_length type ≡ 128))
type_bits type = by (eqb type 3) refl
  where
    by : (b : Bool) → eqb type 3 ≡ b → ((type ≡ 3) × (◌≡◌ {A = ℕ} (cond b 40 128) 40)) ⊎ ((type ≡ 3 → ⊥) × (◌≡◌ {A = ℕ} (cond b 40 128) 128))
    by true e = inl (eqb-true _ _ e, refl)
    by false e = inr (eqb-false _ _ e, refl)

-- what a type carries of an accepted list
module _ (l : SignalList) (h : Kept l) (type : ℕ) where
  -- a carried signal lies within the telegram, past its head
  pub carried_within : (k : ℕ) → k < l.signals → carries type (l.signal k).type ≡ true
      → (16 ≤ (l.signal k).start) × (field_end (l.signal k) ≤ 8 * type_length type)
  carried_within k lt w = by (ℕ_discrete (l.signal k).type 0) (type_bits type)
    where
      by : Dec ((l.signal k).type ≡ 0) → ((type ≡ 3) × (type_length type ≡ 40)) ⊎ ((type ≡ 3 → ⊥) × (type_length type ≡ 128))
          → (16 ≤ (l.signal k).start) × (field_end (l.signal k) ≤ 8 * type_length type)
      by (yes z) b = let p = (h.signal k lt).placed.common z in (p.0, ⊎_elim (λ q. omega (arith, q.1, p.1)) (λ q. omega (arith, q.1, p.1)) b)
      by (no n) b =
          let p = (h.signal k lt).placed.own n in
          let s : (l.signal k).type ≡ type = ⊎_elim (λ z. absurd (n z)) (λ q. q) (carried_type type (l.signal k).type w) in
          (omega (arith, p.0), ⊎_elim (λ q. omega (arith, q.0, (h.signal k lt).typed)) (λ q. omega (arith, q.1, p.1)) b)

  -- two signals that a type carries don't overlap
  pub carried_apart : (i j : ℕ) → i < l.signals → j < l.signals → carries type (l.signal i).type ≡ true → carries type (l.signal j).type ≡ true
      → (i ≡ j → ⊥)
      → Disjoint (l.signal i).start (l.signal i).width (l.signal j).start (l.signal j).width
  carried_apart i j hi hj wi wj ne = by (ℕ_discrete (l.signal i).type (l.signal j).type) (ℕ_discrete (l.signal i).type 0)
    where
      by : Dec ((l.signal i).type ≡ (l.signal j).type) → Dec ((l.signal i).type ≡ 0)
          → Disjoint (l.signal i).start (l.signal i).width (l.signal j).start (l.signal j).width
      by (yes e) z = fields_apart l h i j hi hj e ne
      by (no n) (yes z) = inl (omega (arith, ((h.signal i hi).placed.common z).1, ((h.signal j hj).placed.own (λ y. n (z ∙ sym y))).0))
      by (no n) (no z) =
          let si : (l.signal i).type ≡ type = ⊎_elim (λ q. absurd (z q)) (λ q. q) (carried_type type (l.signal i).type wi) in
          let sj : (l.signal j).type ≡ 0 = ⊎_elim (λ q. q) (λ q. absurd (n (si ∙ sym q))) (carried_type type (l.signal j).type wj) in
          inr (omega (arith, ((h.signal j hj).placed.common sj).1, ((h.signal i hi).placed.own z).0))

  -- a check that a carried signal names is written
  pub named_written : (k : ℕ) → k < l.signals → carries type (l.signal k).type ≡ true → 0 < (l.signal k).check
      → writes_check l type ((l.signal k).check - 1) ≡ true
  named_written k lt w c =
      let n = (h.signal k lt).named in
      let q = h.check ((l.signal k).check - 1) (omega (arith, n.exists)) in
      le-leb (l.check ((l.signal k).check - 1) + mark_width) (8 * type_length type)
      (elim (ℕ_discrete (l.signal k).type 0) [
        | yes z ↦ ⊎_elim (λ b. omega (arith, b.1, n.common z c, q.even)) (λ b. omega (arith, b.1, q.high)) (type_bits type)
        | no z ↦
            let s : (l.signal k).type ≡ type = ⊎_elim (λ y. absurd (z y)) (λ y. y) (carried_type type (l.signal k).type w) in
            ⊎_elim (λ b. omega (arith, b.0, (h.signal k lt).typed)) (λ b. omega (arith, b.1, q.high)) (type_bits type)
      ])

module _ (l : SignalList) (h : Kept l) (type : ℕ) (values marks : List ℕ) (fit : Fitting l type values marks) where
  range : (1 ≤ type) × (type ≤ 3)
  range = type_range type fit.typed

  length_headed : length (headed l type) ≡ type_length type
  unfolding headed
  length_headed = omega (arith, type_least type, length_zeros (type_length type - 2))

  headed_at : (i : ℕ) → 2 ≤ i → get_or (headed l type) i 0 ≡ 0
  unfolding headed
  headed_at zero le = absurd (omega arith)
  headed_at (suc zero) le = absurd (omega arith)
  headed_at (suc (suc i)) le = zeros_at (type_length type - 2) i

  headed_bit : (a : ℕ) → 16 ≤ a → bit (headed l type) a ≡ 0
  unfolding bit
  headed_bit a le = rw (headed_at (a / 8) (omega arith)) (zero_bit (7 - a % 8))

  pub length_composed : length (composed l type values marks) ≡ type_length type
  unfolding composed
  length_composed = length_puts (check_put l type marks) _ l.checks ∙ length_puts (signal_put l type values) _ l.signals ∙ length_headed

  -- what lies in the head is not touched
  head_kept : (t u : ℕ) → t + u ≤ 16 → field (composed l type values marks) t u ≡ field (headed l type) t u
  unfolding composed
  head_kept t u lt =
      field_puts_other (check_put l type marks) _ l.checks t u (λ j hj w. inr (omega (arith, (h.check j hj).low)))
      ∙ field_puts_other (signal_put l type values) _ l.signals t u (λ k hk w. inr (omega (arith, (carried_within l h type k hk w).0)))

  pub composed_application : application_type (composed l type values marks) ≡ 1
  unfolding application_type headed field_of
  composed_application = head_kept 0 4 (omega arith) ∙ field_octet (headed l type) 0 0 4 (omega arith) ∙ omega (arith, range.1)

  pub composed_type : telegram_type (composed l type values marks) ≡ type
  unfolding telegram_type headed field_of
  composed_type = head_kept 4 4 (omega arith) ∙ field_octet (headed l type) 0 4 4 (omega arith) ∙ omega (arith, range.1)

  octets_headed : Octets (headed l type)
  unfolding headed
  octets_headed zero = omega (arith, range.1)
  octets_headed (suc zero) = omega (arith, version_octet l h)
  octets_headed (suc (suc i)) = rw (zeros_at (type_length type - 2) i) (lit< tt)

  octets_composed : Octets (composed l type values marks)
  unfolding composed
  octets_composed = octets_puts (check_put l type marks) _ l.checks (octets_puts (signal_put l type values) _ l.signals octets_headed)

  pub composed_version : octet (composed l type values marks) 2 ≡ version l
  unfolding headed
  composed_version =
      sym (octet_field (composed l type values marks) 1 octets_composed) ∙ head_kept 8 8 (omega arith) ∙ octet_field (headed l type) 1 octets_headed

  -- a composed telegram's field at a carried signal is the value given
  pub composed_signal : (k : ℕ) → k < l.signals → carries type (l.signal k).type ≡ true
      → field (composed l type values marks) (l.signal k).start (l.signal k).width ≡ get_or values k 0
  unfolding composed
  composed_signal k lt w =
      field_puts_other (check_put l type marks) _ l.checks (l.signal k).start (l.signal k).width
      (λ j hj _. ⊎_elim (λ a. inr a) (λ a. inl a) ((h.signal k lt).clear j hj))
      ∙ field_puts (signal_put l type values) (headed l type) l.signals k lt w (rw length_headed (carried_within l h type k lt w).1) (fit.value k lt w).0
      (λ j a b wj. carried_apart l h type j k b lt wj w (λ e. omega arith))

  -- at a written check place, the mark given
  pub composed_check : (j : ℕ) → j < l.checks → writes_check l type j ≡ true → field (composed l type values marks) (l.check j) mark_width ≡ get_or marks j 0
  unfolding composed
  composed_check j lt w =
      field_puts (check_put l type marks) (puts (signal_put l type values) (headed l type) l.signals) l.checks j lt w
      (rw (length_puts (signal_put l type values) (headed l type) l.signals, length_headed) (leb-true _ _ w)) (fit.mark j lt w)
      (λ i a b _. inr (checks_apart l h j i a b))

  -- "all other bits are 0"
  pub composed_elsewhere : (a : ℕ) → 16 ≤ a
      → ((k : ℕ) → k < l.signals → carries type (l.signal k).type ≡ true → (l.signal k).start ≤ a → a < field_end (l.signal k) → ⊥)
      → ((j : ℕ) → j < l.checks → writes_check l type j ≡ true → l.check j ≤ a → a < l.check j + mark_width → ⊥)
      → bit (composed l type values marks) a ≡ 0
  unfolding composed
  composed_elsewhere a low no-signal no-check =
      bit_puts_other (check_put l type marks) _ l.checks a no-check ∙ bit_puts_other (signal_put l type values) _ l.signals a no-signal ∙ headed_bit a low
