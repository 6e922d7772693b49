-- Request C-15: lists accepted under a lesser greatest width still are, and every call answers the same under them; a field of 64 bits holds
-- every value; a replacement is short, and goes out with leading zeros. Assumes nothing.
use Prim.Native.Nat.{ℕ, zero, suc, ◌+◌, ◌-◌, ◌*◌, ◌^◌, ◌≤◌, ◌<◌}
use mathlib.Core.Path.{◌≡◌, refl, sym, ap, ◌∙◌}
use mathlib.Core.Logic.{◌⊎◌, inl, inr}
use mathlib.Core.Bool.{Bool, true, false, not, cond, ◌&&◌, ◌||◌, false≢true}
use mathlib.Core.List.{List}
use native.Mathlib.Nat.{suc-mul}
use native.Mathlib.Omega.{arith}
use native.Mathlib.Decide.{dec_lt}
use lib.ListN.{length, get_or}
use lib.Dec.{ltb, leb, eqb}
use borrow.Author.Tests.{le-leb, lt-leb, leb-true, lt-ltb, ltb-true, eqb-true, ne_eqb}
use Rattle.paper.specs.Octets.{number, field, fits, Octets}
use Rattle.paper.specs.Answer.{Answer, gives, refused, refuse_if, and_then, shift}
use Rattle.paper.specs.First.{some, first_bad}
use Rattle.paper.specs.SignalList.{Signal, Code, SignalList, Counts, OfTwo, widest, entry, check_size, signal_size, most_checks, most_signals, rest, check_at, signal_at, signals_part, check_rule, type_rule, place_rule, named_rule, value_rule, order_rule, clear_rule, opening, judge_entries, judge_section, judge, list_of, width_rule_to, signal_rule_to, from_signals_to, judge_to, under_list_to, under_lists, has_codes, known_in, knows}
use Rattle.paper.specs.Accepted.{Kept}
use Rattle.paper.specs.Reading.{reading_by, reading, reason_of, reading_of, reading_at}
use Rattle.paper.specs.Store.{slot_of}
use Rattle.paper.specs.Marshalling.{Marshalled, Marshals, marshalling_by, marshalling}
use Rattle.paper.specs.Composing.{writes_signal, value_fits, composing_by, composing}
use Rattle.paper.specs.Forms.{signals_from}
use Rattle.paper.specs.Widths.{widest_before, reading_to, marshalling_to, composing_to, under_lists_to, NoneBetween}
use Rattle.bools.proofs.Tests.{both}
use Rattle.paper.proofs.AnswerLaws.{and_then_lem, not_shifted}
use Rattle.paper.proofs.FirstLaws.{first_same, first_fails, some_false}
use Rattle.paper.proofs.FieldLaws.{field_lt, field_split}
use Rattle.paper.proofs.NumberLaws.{number_lt, octets_drop}
use Rattle.paper.proofs.ListLaws.{opened_of, holds_of, signal_here, kept}
use Rattle.paper.proofs.MarshallingLaws.{destination}

-- ---- tests that agree at each entry judge alike

-- what follows need only agree at what the first part gives
same_next : {A B : Type 0} (x : Answer A) (j k : A → Answer B) → ((a : A) → x ≡ gives a → j a ≡ k a) → and_then x j ≡ and_then x k
same_next (gives a) j k e = e a refl
same_next (refused n at) j k e = refl

same_section : (limit size : ℕ) (ok go : ℕ → Bool) (xs : List ℕ) → ((k : ℕ) → k < number xs 0 2 → ok k ≡ go k)
    → judge_section limit size ok xs ≡ judge_section limit size go xs
unfolding judge_section judge_entries
same_section limit size ok go xs h =
    same_next (opening limit size xs) (judge_entries size ok) (judge_entries size go)
    (λ n e. rw (first_same ok go n (λ k lt _. h k (omega (arith, (opened_of limit size xs n e).count)))))

-- ---- the greatest width

-- the first of a rule's seven tests
first_of : (a b c d e f g : Bool) → (a && b && c && d && e && f && g) ≡ true → a ≡ true
first_of true b c d e f g h = refl
first_of false b c d e f g h = absurd (false≢true h)

width_kept : (w checks : ℕ) (check : ℕ → ℕ) (signal : ℕ → Signal) (k : ℕ) → signal_rule_to w checks check signal k ≡ true → (signal k).width ≤ w
unfolding signal_rule_to
width_kept w checks check signal k e =
    let s = signal k in
    let first : width_rule_to w s ≡ true =
    first_of _ (type_rule s) (place_rule s) (named_rule checks check s) (value_rule s) (eqb k 0 || order_rule (signal (k - 1)) s) (clear_rule checks check s) e in
    leb-true _ _ (both (leb 1 s.width) _ first).1

module _ (w w' size : ℕ) (more : w ≤ w') where
  same_width : (s : Signal) → (s.width ≤ w) ⊎ (w' < s.width) → width_rule_to w s ≡ width_rule_to w' s
  same_width s (inl h) = rw (le-leb s.width w h, le-leb s.width w' (omega arith))
  same_width s (inr h) = rw (lt-leb s.width w (omega arith), lt-leb s.width w' h)

  -- "Refusal 3 is amended by the new width only": where no width lies between the two, the judging is the same, refusals too
  pub same_judging : (xs : List ℕ) → NoneBetween w w' size xs → judge_to w size xs ≡ judge_to w' size xs
  unfolding judge_to from_signals_to signal_rule_to
  same_judging xs none =
      same_next (judge_section most_checks check_size (check_rule (check_at xs)) xs) _ _ (λ c e.
      let q : c ≡ number xs 0 2 = (holds_of _ _ _ _ _ e).opens.count in
      rw (
        q,
        same_section most_signals size
            (signal_rule_to w (number xs 0 2) (check_at xs) (signal_at size (signals_from xs)))
            (signal_rule_to w' (number xs 0 2) (check_at xs) (signal_at size (signals_from xs)))
            (signals_from xs)
            (λ k lt. rw (same_width (signal_at size (signals_from xs) k) (none k lt))),
      ))

  -- a list accepted at the lesser width has no width between
  none_between : (xs : List ℕ) (n : Counts) → judge_to w size xs ≡ gives n → NoneBetween w w' size xs
  unfolding judge_to from_signals_to
  none_between xs n e k lt =
      let a = and_then_lem (judge_section most_checks check_size (check_rule (check_at xs)) xs) _ n e in
      let q : a.0 ≡ number xs 0 2 = (holds_of _ _ _ _ _ a.1.0).opens.count in
      let g : from_signals_to w size a.0 (check_at xs) (rest check_size a.0 xs) ≡ gives n = not_shifted _ _ n a.1.1 in
      let f : from_signals_to w size (number xs 0 2) (check_at xs) (signals_from xs) ≡ gives n = rw q at g in
      let b = and_then_lem (judge_section most_signals size (signal_rule_to w (number xs 0 2) (check_at xs) (signal_at size (signals_from xs))) (signals_from xs)) _ n f in
      let h = holds_of _ _ _ _ _ b.1.0 in
      let r = h.entries k (omega (arith, h.opens.count)) in
      inl (width_kept w (number xs 0 2) (check_at xs) (signal_at size (signals_from xs)) k r)

  -- "Lists accepted before still are": with the same counts, and so with the same table of entries
  pub still_accepted : (xs : List ℕ) (n : Counts) → judge_to w size xs ≡ gives n → judge_to w' size xs ≡ gives n
  still_accepted xs n e = sym (same_judging xs (none_between xs n e)) ∙ e

-- "and read the same": every call that goes by such a list, or by two, answers the same
module _ (w w' : ℕ) (more : w ≤ w') where
  pub still_answers : {A : Type 0} (form : ℕ) (xs : List ℕ) (n : Counts) (call : SignalList → Answer A) → judge_to w (signal_size form) xs ≡ gives n
      → under_list_to w' form xs call ≡ under_list_to w form xs call
  still_answers form xs n call e = rw (e, still_accepted w w' (signal_size form) more xs n e)

  pub still_answers_two : {A : Type 0} (form : ℕ) (xs : List ℕ) (form' : ℕ) (ys : List ℕ) (m n : Counts) (call : SignalList → SignalList → A)
      → judge_to w (signal_size form) xs ≡ gives m → judge_to w (signal_size form') ys ≡ gives n
      → under_lists_to w' form xs form' ys call ≡ under_lists_to w form xs form' ys call
  still_answers_two form xs form' ys m n call e f =
      rw (e, still_accepted w w' (signal_size form) more xs m e, f, still_accepted w w' (signal_size form') more ys n f)

-- ---- "Lists accepted before still are and read the same"

-- a list that was accepted before the request
module _ (form : ℕ) (xs : List ℕ) (n : Counts) (before : judge_to widest_before (signal_size form) xs ≡ gives n) where
  pub accepted_still : judge form xs ≡ gives n
  accepted_still = still_accepted widest_before widest (signal_size form) (omega arith) xs n before

  -- each call answers what it answered then: what `reading_at`, `marshalled` and `composed` give by the same table
  pub reads_as_before : (store : List ℕ) (now v k : ℕ)
      → (reading form xs store now v k ≡ reading_to widest_before form xs store now v k) × (reading form xs store now v k ≡ reading_by store now v k (list_of xs n))
  unfolding reading
  reads_as_before store now v k =
      (still_answers widest_before widest (omega arith) form xs n (reading_by store now v k) before, rw (accepted_still) refl)

  pub marshals_as_before : (store : List ℕ) (now : ℕ) (bus : List ℕ)
      → (marshalling form xs store now bus ≡ marshalling_to widest_before form xs store now bus) × (marshalling form xs store now bus ≡ marshalling_by store now bus (list_of xs n))
  unfolding marshalling
  marshals_as_before store now bus =
      (still_answers widest_before widest (omega arith) form xs n (marshalling_by store now bus) before, rw (accepted_still) refl)

  pub composes_as_before : (type : ℕ) (values marks : List ℕ) (room : ℕ)
      → (composing form xs type values marks room ≡ composing_to widest_before form xs type values marks room)
      × (composing form xs type values marks room ≡ composing_by type values marks room (list_of xs n))
  unfolding composing
  composes_as_before type values marks room =
      (still_answers widest_before widest (omega arith) form xs n (composing_by type values marks room) before, rw (accepted_still) refl)

-- ---- "at width 64 every value fits"

-- the greatest value that a call can be handed is below 2 ^ 64
pub every_value_fits : (v : ℕ) → v < 2 ^ 64 → fits v 64 ≡ true
every_value_fits v lt = lt-ltb _ _ lt

-- "known codes" are for widths up to 16: a wider signal has none, and knows every code
pub wider_knows : (l : SignalList) → Kept l → (k : ℕ) → 16 < (l.signal k).width → (c : ℕ) → knows l k c ≡ true
unfolding knows known_in has_codes
wider_knows l h k wide c = rw (some_false (λ e. eqb (l.code e).signal k) l.codes none)
  where
    none : (e : ℕ) → e < l.codes → eqb (l.code e).signal k ≡ false
    none e lt = ne_eqb (l.code e).signal k (λ q. let narrow : (l.signal k).width ≤ 16 = rw q at (h.code e lt).narrow in absurd (omega arith))

-- so refusal 15 never names a signal of 64 bits
module _ (l : SignalList) (h : Kept l) (type : ℕ) (values : List ℕ) (given : (i : ℕ) → get_or values i 0 < 2 ^ 64) where
  wide_fits : (k : ℕ) → (l.signal k).width ≡ 64 → value_fits l type values k ≡ true
  unfolding value_fits
  wide_fits k w = by (writes_signal l type k)
    where
      by : (b : Bool) → (not b || fits (get_or values k 0) (l.signal k).width && knows l k (get_or values k 0)) ≡ true
      by false = refl
      by true = rw (w, every_value_fits _ (given k), wider_knows l h k (omega arith) (get_or values k 0))

  pub fifteen_is_narrower : first_bad (value_fits l type values) l.signals < l.signals
      → (l.signal (first_bad (value_fits l type values) l.signals)).width < 64
  fifteen_is_narrower lt =
      let k = first_bad (value_fits l type values) l.signals in
      let most = (h.signal k lt).wide in
      elim (dec_lt (l.signal k).width 64) [
        | yes narrower ↦ narrower
        | no wide ↦ absurd (false≢true (sym (first_fails (value_fits l type values) l.signals lt) ∙ wide_fits k (omega arith)))
      ]

-- ---- "replacements keep 6 octets, with leading zeros above"

pub replacement_short : (size : ℕ) (xs : List ℕ) → Octets xs → (k : ℕ) → (signal_at size xs k).replacement < 2 ^ 48
unfolding signal_at
replacement_short size xs o k = number_lt xs _ 6 o

-- a number below 2 ^ n in a field of m + n bits: its first m bits are 0, and the n behind them hold it
leading_zeros : (l : List ℕ) (start m n : ℕ) → field l start (m + n) < 2 ^ n → (field l start m ≡ 0) × (field l (start + m) n ≡ field l start (m + n))
leading_zeros l start m n small = by (field l start m) refl
  where
    split : field l start (m + n) ≡ field l start m * 2 ^ n + field l (start + m) n
    split = field_split l start m n

    by : (high : ℕ) → field l start m ≡ high → (field l start m ≡ 0) × (field l (start + m) n ≡ field l start (m + n))
    by zero e = (e, let s : field l start (m + n) ≡ 0 * 2 ^ n + field l (start + m) n = rw e at split in omega arith)
    by (suc high) e =
        let s : field l start (m + n) ≡ suc high * 2 ^ n + field l (start + m) n = rw e at split in
        absurd (omega (arith, suc-mul high (2 ^ n)))

-- a route whose reading is not live: its field above 48 bits holds zeros, and the six octets behind them
pub replacement_leads_with_zeros : (form : ℕ) (xs store : List ℕ) (now : ℕ) (bus : List ℕ) (m : Marshalled) (h : Marshals form xs store now bus m) → Octets xs
    → let l = list_of xs h.counts in (r : ℕ) → r < l.routes
    → 2 ≤ (reading_at l store now (l.route r).vehicle (l.route r).signal).reason
    → (above : ℕ) → (l.signal (l.route r).signal).width ≡ above + 48
    → (field m.octets (l.route r).start above ≡ 0)
    × (field m.octets ((l.route r).start + above) 48 ≡ (l.signal (l.route r).signal).replacement)
unfolding reading_at reading_of
replacement_leads_with_zeros form xs store now bus m h o r lt replaced above w =
    let l = list_of xs h.counts in
    let s = l.signal (l.route r).signal in
    let out : field m.octets (l.route r).start (above + 48) ≡ s.replacement =
    rw (w, le-leb _ _ replaced) at (destination form xs store now bus m h r lt) in
    let there = ((kept form xs h.counts h.accepted).route r lt).exists in
    let short : s.replacement < 2 ^ 48 = rw (signal_here xs h.counts (l.route r).signal there) (replacement_short h.counts.size (signals_part xs h.counts) (octets_drop (entry check_size h.counts.checks) xs o) (l.route r).signal) in
    let z = leading_zeros m.octets (l.route r).start above 48 (rw out short) in
    (z.0, z.1 ∙ out)
