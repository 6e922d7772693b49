-- What the order of an accepted list's code entries tells: which are a signal's, and which of them holds a code. Assumes nothing.
use Prim.Native.Nat.{ℕ, zero, suc, ◌+◌, ◌-◌, ◌*◌, ◌^◌, ◌≤◌, ◌<◌, zero-le}
use mathlib.Core.Path.{◌≡◌, ap, ◌∙◌}
use mathlib.Core.Logic.{◌⊎◌, inl, inr, ⊎_elim}
use mathlib.Core.Bool.{Bool, true, false, ◌&&◌, and-false}
use mathlib.Core.List.{List}
use native.Mathlib.Nat.{le_refl}
use native.Mathlib.Decide.{dec_lt, ℕ_discrete}
use native.Mathlib.Omega.{arith}
use lib.Dec.{leb, eqb}
use lib.Pow.{pow_mono}
use borrow.Author.Count.{below_none, below_more}
use borrow.Author.Tests.{le-leb, lt-leb, eq-eqb, ne_eqb}
use Rattle.paper.specs.Search.{Rises, Between, Cut}
use Rattle.paper.proofs.SearchLaws.{onward}
use Rattle.paper.specs.SignalList.{Code, SignalList, Counts, list_of, code_at, codes_part, has_codes, in_range, known_in}
use Rattle.paper.proofs.FirstLaws.{some_true, some_false}
use Rattle.paper.specs.Accepted.{Laid, Kept, CodeFollows}
use Rattle.paper.proofs.ListLaws.{kept_of}
use Rattle.lists.specs.declared.accepted.AcceptedList.{AcceptedList}
use Rattle.lists.specs.Judged.{counts_of}
use Rattle.lists.specs.Listed.{list_as}
use Rattle.known.specs.Known.{Ordered, code_keys, code_signals, Own, From}

-- ---- the order of code entries

module _ (l : SignalList) (h : Kept l) where
  codes_follow : (d e : ℕ) → e + suc d < l.codes → CodeFollows (l.code e) (l.code (e + suc d))
  codes_follow zero e lt =
      let z : e + 1 ≡ suc e = omega arith in
      let y : suc e - 1 ≡ e = omega arith in
      rw z (rw y at ((h.code (suc e) (omega arith)).follows (omega arith)))
  codes_follow (suc d) e lt =
      let z : e + suc (suc d) ≡ suc (e + suc d) = omega arith in
      let y : suc (e + suc d) - 1 ≡ e + suc d = omega arith in
      rw z
      (by (l.code e) (l.code (e + suc d)) (l.code (suc (e + suc d))) (codes_follow d e (omega arith)) (h.code (e + suc d) (omega arith)).range (rw y at ((h.code (suc (e + suc d)) (omega arith)).follows (omega arith))))
    where
      by : (p c q : Code) → CodeFollows p c → c.low ≤ c.high → CodeFollows c q → CodeFollows p q
      by p c q (inl a) r (inl b) = inl (omega arith)
      by p c q (inl a) r (inr b) = inl (omega (arith, b.0))
      by p c q (inr a) r (inl b) = inl (omega (arith, a.0))
      by p c q (inr a) r (inr b) = inr (a.0 ∙ b.0, omega (arith, a.1, b.1))

  pub ordered_of : Ordered l.codes l.code
  ordered_of = record {
    range = λ e lt. (h.code e lt).range;
    small = λ e lt.
        let w = h.code e lt in
        let p : 2 ^ (l.signal (l.code e).signal).width ≤ 2 ^ 16 = pow_mono w.narrow in
        omega (arith, w.fits);
    follows = λ e g lt hg. let z : e + suc (g - suc e) ≡ g = omega arith in rw z at (codes_follow (g - suc e) e (rw z hg));
  }

-- of a list that was accepted with these counts
pub laid_ordered : (xs : List ℕ) (n : Counts) → Laid xs n → Ordered n.codes (code_at (codes_part xs n))
laid_ordered xs n h = ordered_of (list_of xs n) (kept_of xs n h)

pub listed_ordered : (l : AcceptedList) → Ordered l.counts.codes (list_as l).code
listed_ordered l = laid_ordered l.octets.now (counts_of l.counts) l.laid

-- ---- where a search for a signal's entries goes on from

pub from_none : (l : SignalList) → From l 0 0
from_none l = onward (code_signals l.code) l.codes 0 0 zero-le (below_none _)

-- a later signal's does too
pub from_later : (l : SignalList) (k j e : ℕ) → From l k e → k ≤ j → From l j e
from_later l k j e f le = onward (code_signals l.code) l.codes j e f.ordered (λ g lt. omega (arith, f.below g lt))

-- ---- whether a signal has an entry, and one that holds a code

module _ (codes : ℕ) (code : ℕ → Code) (k : ℕ) where
  has_code : (e : ℕ) → e < codes → (code e).signal ≡ k → has_codes codes code k ≡ true
  unfolding has_codes
  has_code e lt q = some_true (λ e. eqb (code e).signal k) codes e lt (eq-eqb _ _ q)

  has_no_code : ((e : ℕ) → e < codes → (code e).signal ≡ k → ⊥) → has_codes codes code k ≡ false
  unfolding has_codes
  has_no_code none = some_false (λ e. eqb (code e).signal k) codes (λ e lt. ne_eqb _ _ (none e lt))

  module _ (c : ℕ) where
    abbrev holds : ℕ → Bool
    holds e = eqb (code e).signal k && leb (code e).low c && leb c (code e).high

    pub in_range_lem : (e : ℕ) → e < codes → (code e).signal ≡ k → (code e).low ≤ c → c ≤ (code e).high → in_range codes code k c ≡ true
    unfolding in_range
    in_range_lem e lt q lo hi = some_true holds codes e lt (simp (eq-eqb _ _ q, le-leb _ _ lo, le-leb _ _ hi))

    pub in_none : ((e : ℕ) → e < codes → (code e).signal ≡ k → (c < (code e).low) ⊎ ((code e).high < c)) → in_range codes code k c ≡ false
    unfolding in_range
    in_none out = some_false holds codes (λ e lt. by e lt (ℕ_discrete (code e).signal k))
      where
        by : (e : ℕ) → e < codes → Dec ((code e).signal ≡ k) → holds e ≡ false
        by e lt (no ne) = simp (ne_eqb _ _ ne)
        by e lt (yes q) =
            ⊎_elim (λ a. simp (eq-eqb _ _ q, lt-leb (code e).low c a))
            (λ a. simp (lt-leb c (code e).high a) (and-false (eqb (code e).signal k && leb (code e).low c))) (out e lt q)

module _ (codes : ℕ) (code : ℕ → Code) (h : Ordered codes code) where
  pub codes_rise : Rises (code_keys code) codes
  codes_rise e g lt hg =
      ⊎_elim (λ a. omega (arith, h.small e (omega arith))) (λ a. omega (arith, a.0, a.1, h.range g hg)) (h.follows e g lt hg)

  -- signals never fall
  signals_rise : (e g : ℕ) → e ≤ g → g < codes → (code e).signal ≤ (code g).signal
  signals_rise e g le hg =
      elim (dec_lt e g) [
        | yes lt ↦ ⊎_elim (λ a. omega arith) (λ a. omega (arith, a.0)) (h.follows e g lt hg)
        | no ge ↦ let z : e ≡ g = omega arith in omega (arith, ap (λ (x : ℕ). (code x).signal) z)
      ]

  -- ---- which entries are a signal's

  module _ (k : ℕ) where
    -- going on from an entry: it is below the signal, or none after it is
    pub reach_more : (e : ℕ) → Between (code_signals code) codes k e codes → e < codes → (code e).signal < k → Between (code_signals code) codes k (e + 1) codes
    reach_more e b lt t = onward (code_signals code) codes k (e + 1) (omega arith) (below_more _ _ b.below t)

    pub reach_here : (e : ℕ) → Between (code_signals code) codes k e codes → e < codes → k ≤ (code e).signal → Cut (code_signals code) codes k e
    reach_here e b lt t = record { ordered = le_refl e; most = b.ordered; below = b.below; above = λ g le hg. omega (arith, signals_rise e g le hg) }

    pub reach_next : (e : ℕ) → Cut (code_signals code) codes k e → Between (code_signals code) codes (k + 1) e codes
    reach_next e c = onward (code_signals code) codes (k + 1) e c.most (λ g lt. omega (arith, c.below g lt))

    -- halving goes by keys
    pub keys_next : (e : ℕ) → Cut (code_keys code) codes (k * 65536) e → Between (code_keys code) codes ((k + 1) * 65536) e codes
    keys_next e c = onward (code_keys code) codes ((k + 1) * 65536) e c.most (λ g lt. omega (arith, c.below g lt))

    pub keys_start : (e : ℕ) → Cut (code_keys code) codes (k * 65536) e → Cut (code_signals code) codes k e
    keys_start e c = record {
      ordered = le_refl e;
      most = c.most;
      below = λ g lt. omega (arith, c.below g lt);
      above = λ g le hg. omega (arith, c.above g le hg, h.small g hg);
    }

    pub own_from : (from to : ℕ) → Cut (code_signals code) codes k from → Cut (code_signals code) codes (k + 1) to → Own codes code k from to
    own_from from to c d = record {
      ordered = elim (dec_lt to from) [
        | yes less ↦ absurd (omega (arith, c.below to less, d.above to (le_refl to) (omega (arith, c.most))))
        | no ge ↦ omega arith
      ];
      most = d.most;
      before = c.below;
      within = λ e le lt. omega (arith, c.above e le (omega (arith, d.most)), d.below e lt);
      after = λ e le lt. omega (arith, d.above e le lt);
    }

    -- past the entries of a signal, none is below a later one's
    pub past_own : (j from to : ℕ) → Own codes code j from to → j < k → Between (code_signals code) codes k to codes
    past_own j from to own lt = onward (code_signals code) codes k to own.most (λ e l. elim (dec_lt e from) [
      | yes less ↦ omega (arith, own.before e less)
      | no ge ↦ omega (arith, own.within e (omega arith) l)
    ])

    -- ---- what a signal with these entries knows

    module _ (from to : ℕ) (own : Own codes code k from to) where
      -- an entry of the signal is one of them
      pub is_within : (e : ℕ) → e < codes → (code e).signal ≡ k → (from ≤ e) × (e < to)
      is_within e lt q =
          elim (dec_lt e from) [
            | yes less ↦ absurd (omega (arith, own.before e less))
            | no ge ↦ elim (dec_lt e to) [
              | yes less ↦ (omega arith, less)
              | no past ↦ absurd (omega (arith, own.after e (omega arith) lt))
            ]
          ]

      pub has_none : from ≡ to → has_codes codes code k ≡ false
      has_none z = has_no_code codes code k (λ e lt q. let w = is_within e lt q in omega (arith, w.0, w.1))

      pub has_some : from < to → has_codes codes code k ≡ true
      has_some lt = has_code codes code k from (omega (arith, own.most)) (own.within from (le_refl from) lt)

      -- what halving for a code of the signal starts with, and what it ends with
      module _ (c : ℕ) where
        pub own_between : c < 65536 → Between (code_keys code) codes (k * 65536 + c) from to
        own_between fits = record {
          ordered = own.ordered;
          most = own.most;
          below = λ e lt. omega (arith, own.before e lt, h.small e (omega (arith, own.ordered, own.most)));
          above = λ e le lt. omega (arith, own.after e le lt);
        }

        module _ (e : ℕ) (cut : Cut (code_keys code) codes (k * 65536 + c) e) where
          module _ (lt : e < to) where
            there : e < codes
            there = omega (arith, own.most)

            cut_within : from ≤ e
            cut_within = elim (dec_lt e from) [
              | yes less ↦ absurd (omega (arith, own.before e less, h.small e there, cut.above e (le_refl e) there))
              | no past ↦ omega arith
            ]

            pub cut_signal : (code e).signal ≡ k
            cut_signal = own.within e cut_within lt

            pub reaches : c ≤ (code e).high
            reaches = omega (arith, cut.above e (le_refl e) there, cut_signal)

            -- a code past the gap after this range is in none; one that is not in it nor past the gap neither
            pub outside : (d : ℕ) → c ≤ d → (d < (code e).low) ⊎ ((code e).high < d) → d < (code e).high + 2 → in_range codes code k d ≡ false
            outside d le here near = in_none codes code k d out
              where
                out : (g : ℕ) → g < codes → (code g).signal ≡ k → (d < (code g).low) ⊎ ((code g).high < d)
                out g hg q =
                    elim (dec_lt g e) [
                      | yes l ↦ inr (omega (arith, cut.below g l))
                      | no m ↦ elim (ℕ_discrete g e) [
                        | yes z ↦ rw z here
                        | no more ↦ ⊎_elim (λ a. absurd (omega (arith, cut_signal))) (λ a. inl (omega (arith, a.1, near))) (h.follows e g (omega arith) hg)
                      ]
                    ]

        pub knows_all : from ≡ to → true ≡ known_in codes code k c
        unfolding known_in
        knows_all z = simp (has_none z)

        module _ (some : from < to) where
          -- every range ends below it
          pub knows_below : ((e : ℕ) → e < codes → (code e).signal ≡ k → (code e).high < c) → false ≡ known_in codes code k c
          unfolding known_in
          knows_below out = simp (has_some some, in_none codes code k c (λ e lt q. inr (out e lt q)))

          module _ (e : ℕ) (cut : Cut (code_keys code) codes (k * 65536 + c) e) where
            pub knows_past : to ≤ e → false ≡ known_in codes code k c
            knows_past le = knows_below (λ g lt q. let w = is_within g lt q in omega (arith, cut.below g (omega (arith, w.1))))

            pub knows_here : e < to → leb (code e).low c ≡ known_in codes code k c
            unfolding known_in
            knows_here lt = elim (dec_lt c (code e).low) [
              | yes less ↦ simp (lt-leb _ _ less, has_some some, outside e cut lt c (le_refl c) (inl less) (omega (arith, reaches e cut lt)))
              | no le ↦
                  let lo : (code e).low ≤ c = omega arith in
                  simp (le-leb _ _ lo, has_some some, in_range_lem codes code k c e (omega (arith, own.most)) (cut_signal e cut lt) lo (reaches e cut lt))
            ]
