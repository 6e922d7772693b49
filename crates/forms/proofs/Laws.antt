-- A serial number as it stands in either form, what a loop that resizes entries has written, and that the contract settles the answer. Assumes nothing.
use Prim.Native.Nat.{ℕ, zero, suc, ◌+◌, ◌-◌, ◌*◌, ◌≤◌, ◌<◌}
use mathlib.Core.Path.{◌≡◌, refl, sym, ap, ◌∙◌}
use mathlib.Core.Bool.{Bool, true, false, cond}
use mathlib.Core.List.{List, ◌∷◌, ◌++◌, append_assoc, append-nil}
use native.Mathlib.Nat.{mul-le-mul_left, mul-zero}
use native.Mathlib.Numerals.{add-one}
use native.Mathlib.Omega.{arith}
use lib.ListN.{length, take, drop, replicate, length-append, length-drop, length-replicate, drop_of_length-le}
use lib.Seq.{length-take-le, take-add, take_all, drop-drop}
use lib.Dec.{eqb}
use borrow.Author.Tests.{eq-eqb, ne_eqb}
use Rattle.paper.specs.Octets.{number, over}
use Rattle.paper.specs.Answer.{Answer, gives, refuse_if}
use Rattle.paper.specs.SignalList.{Counts, entry, check_size, signal_size, judge, signals_part}
use Rattle.paper.specs.Accepted.{Laid, Sized}
use Rattle.paper.specs.Forms.{serial_at, narrowed, dropped_from, dropped, spread, widened_from, widened}
use Rattle.paper.proofs.FormLaws.{counted}
use Rattle.paper.proofs.ListLaws.{entry_in, laid}
use Rattle.paper.proofs.NumberLaws.{over-over}
use Rattle.std.specs.Prelude.{Result, Ok, Err}
use Rattle.refusals.specs.declared.Refusal.{Refusal}
use Rattle.refusals.specs.declared.Refusal.TheVariants as R
use Rattle.refusals.specs.Outcome.{Written}
use Rattle.refusals.proofs.WrittenLaws.{one_result, written_refused, written_done}
use Rattle.forms.specs.Forms.{InSomeForm, serial_answer, entries_as, first_entry, resized, resizing}

-- ---- the serial number of an entry of 16 octets, and of 18

pub serial_none : (size : ℕ) (t : List ℕ) (k : ℕ) → size ≡ 16 → 0 ≡ serial_at size t k
unfolding serial_at number
serial_none size t k e = rw e

pub serial_there : (size : ℕ) (t : List ℕ) (k r : ℕ) → size ≡ 18 → r ≡ number t (2 + size * k + 16) 2 → r ≡ serial_at size t k
unfolding serial_at
serial_there size t k r e q = q ∙ rw e

-- an accepted list has the one or the other
pub long_entry : (xs : List ℕ) (n : Counts) → InSomeForm xs n → (n.size ≡ 16 → ⊥) → n.size ≡ 18
unfolding signal_size
long_entry xs n h ne = by (eqb h.form 2) (counted h.form xs n h.judged).size
  where
    by : (b : Bool) → n.size ≡ cond b 18 16 → n.size ≡ 18
    by true e = e
    by false e = absurd (ne e)

-- then it stands in the octets
pub serial_present : (xs : List ℕ) (n : Counts) → InSomeForm xs n → (n.size ≡ 16 → ⊥) → (k : ℕ) → k < n.signals
    → 2 + n.size * k + 16 + 2 ≤ length (signals_part xs n)
serial_present xs n h ne k lt =
    omega (arith, long_entry xs n h ne, entry_in n.size k n.signals lt (laid h.form xs n h.judged).signals.opens.present)

-- ---- entries of `from` octets as entries of `to`

module _ (from to : ℕ) where
  entries_next : (k : ℕ) (zs : List ℕ) → entries_as from to (suc k) zs ≡ entries_as from to k zs ++ (take 16 (drop (from * k) zs) ++ replicate (to - 16) 0)
  unfolding entries_as
  entries_next zero zs = simp (append-nil, mul-zero)
  entries_next (suc k) zs =
      let z : from * suc k ≡ from + from * k = omega arith in
      rw (entries_next k (drop from zs), drop-drop (from * k) from zs, z) (simp append_assoc)

  entries_length : 16 ≤ from → 16 ≤ to → (n : ℕ) (zs : List ℕ) → from * n ≤ length zs → length (entries_as from to n zs) ≡ to * n
  unfolding entries_as
  entries_length a b zero zs h = sym (mul-zero to)
  entries_length a b (suc n) zs h =
      let t : length (take 16 zs) ≡ 16 = length-take-le 16 zs (omega arith) in
      let r : length (entries_as from to n (drop from zs)) ≡ to * n = entries_length a b n (drop from zs) (omega (arith, length-drop from zs)) in
      simp (length-append, length-replicate) (omega arith)

-- both moves are such a change
spread_as : (n : ℕ) (zs : List ℕ) → entries_as 16 18 n zs ≡ spread n zs
unfolding entries_as spread
spread_as zero zs = refl
spread_as (suc n) zs = ap (λ (l : List ℕ). take 16 zs ++ (0 ∷ 0 ∷ l)) (spread_as n (drop 16 zs))

narrowed_as : (n : ℕ) (zs : List ℕ) → entries_as 18 16 n zs ≡ narrowed n zs
unfolding entries_as narrowed
narrowed_as zero zs = refl
narrowed_as (suc n) zs = ap (λ (l : List ℕ). take 16 zs ++ l) (narrowed_as n (drop 18 zs))

module _ (xs : List ℕ) (n : Counts) where
  pub widened_as : judge 1 xs ≡ gives n → resized 18 xs n ≡ widened xs
  unfolding resized widened widened_from signal_size
  widened_as e =
      let h = counted 1 xs n e in
      let y : entry check_size n.checks + entry 16 n.signals ≡ first_entry n + 16 * n.signals = omega arith in
      rw (← h.signals, ← h.checks, h.size, ← y, take-add (entry check_size n.checks) 2 xs, spread_as) (simp (append_assoc, drop-drop))

  pub dropped_as : judge 2 xs ≡ gives n → resized 16 xs n ≡ dropped xs
  unfolding resized dropped dropped_from signal_size
  dropped_as e =
      let h = counted 2 xs n e in
      let y : entry check_size n.checks + entry 18 n.signals ≡ first_entry n + 18 * n.signals = omega arith in
      rw (← h.signals, ← h.checks, h.size, ← y, take-add (entry check_size n.checks) 2 xs, narrowed_as) (simp (append_assoc, drop-drop))

-- the front of a list and its first k entries, resized
unfoldable pub resized_to : ℕ → List ℕ → Counts → ℕ → List ℕ
resized_to to xs n k = take (first_entry n) xs ++ entries_as n.size to k (drop (first_entry n) xs)

module _ (to : ℕ) (xs : List ℕ) (n : Counts) where
  pub made_none : resized_to to xs n 0 ≡ take (first_entry n) xs
  unfolding resized_to entries_as
  made_none = append-nil _

  made_next : (k : ℕ) → resized_to to xs n (k + 1)
      ≡ (resized_to to xs n k ++ take 16 (drop (first_entry n + n.size * k) xs)) ++ replicate (to - 16) 0
  unfolding resized_to
  made_next k = rw (add-one, entries_next n.size to k (drop (first_entry n) xs), drop-drop (n.size * k) (first_entry n) xs) (simp append_assoc)

  -- with the rest behind them they are the list resized
  whole : resized_to to xs n n.signals ++ drop (first_entry n + n.size * n.signals) xs ≡ resized to xs n
  unfolding resized resized_to
  whole = append_assoc (take (first_entry n) xs) (entries_as n.size to n.signals (drop (first_entry n) xs)) (drop (first_entry n + n.size * n.signals) xs)

-- a run written behind those that stand at an area's start, and the last one
over_all : (out x : List ℕ) → length out ≡ length x → over out 0 x ≡ x
unfolding over
over_all out x e = let z : length out ≤ 0 + length x = omega arith in rw (drop_of_length-le out z) (append-nil x)

over_behind : (out x y : List ℕ) (at : ℕ) → at ≡ length x → length x + length y ≤ length out → over (over out 0 x) at y ≡ over out 0 (x ++ y)
over_behind out x y at e h = let z : at ≡ 0 + length x = omega arith in rw z (over-over out 0 x y (omega arith))

module _ (to : ℕ) (xs : List ℕ) (n : Counts) (h : Laid xs n) (s : Sized to) where
  -- every entry is present
  pub present : first_entry n + n.size * n.signals ≤ length xs
  present = omega (arith, h.signals.opens.present, h.checks.opens.present, length-drop (entry check_size n.checks) xs)

  made_length : (k : ℕ) → k ≤ n.signals → length (resized_to to xs n k) ≡ first_entry n + to * k
  unfolding resized_to
  made_length k le =
      let m : n.size * k ≤ n.size * n.signals = mul-le-mul_left n.size le in
      rw (length-append, entries_length n.size to h.sized.least s.least k (drop (first_entry n) xs) (omega (arith, present, length-drop (first_entry n) xs)))
      (omega (arith, length-take-le (first_entry n) xs (omega (arith, present))))

  needed : length (resized to xs n) ≡ length xs - n.size * n.signals + to * n.signals
  needed =
      rw (← whole to xs n, length-append)
      (omega (arith, made_length n.signals (omega arith), present, length-drop (first_entry n + n.size * n.signals) xs))

  module _ (out : List ℕ) where
    pub not_resized : (length out ≡ length xs - n.size * n.signals + to * n.signals → ⊥) → Written (resizing to xs n (length out)) out (Err R.FormOutput) out
    unfolding refuse_if
    not_resized ne = written_refused _ _ _ (simp (ne_eqb _ _ (λ e. ne (e ∙ needed))))

    module _ (room : length out ≡ length xs - n.size * n.signals + to * n.signals) where
      pub turn : (k : ℕ) → k < n.signals
          → over (over (over out 0 (resized_to to xs n k)) (first_entry n + to * k) (take 16 (drop (first_entry n + n.size * k) xs))) (first_entry n + to * k + 16) (replicate (to - 16) 0)
          ≡ over out 0 (resized_to to xs n (k + 1))
      turn k lt =
          let w = resized_to to xs n k in
          let p = take 16 (drop (first_entry n + n.size * k) xs) in
          let z : List ℕ = replicate (to - 16) 0 in
          let reads : n.size * k + n.size ≤ n.size * n.signals = omega (arith, mul-le-mul_left {m = k + 1} {n = n.signals} n.size (omega arith)) in
          let writes : to * k + to ≤ to * n.signals = omega (arith, mul-le-mul_left {m = k + 1} {n = n.signals} to (omega arith)) in
          let lw : length w ≡ first_entry n + to * k = made_length k (omega arith) in
          let lp : length p ≡ 16 = length-take-le 16 _ (omega (arith, present, h.sized.least, length-drop (first_entry n + n.size * k) xs)) in
          let lz : length z ≡ to - 16 = length-replicate (to - 16) 0 in
          rw (made_next to xs n k)
          (ap (λ (l : List ℕ). over l (first_entry n + to * k + 16) z) (over_behind out w p (first_entry n + to * k) (omega arith) (omega (arith, present, s.least)))
          ∙ over_behind out (w ++ p) z (first_entry n + to * k + 16) (omega (arith, length-append w p)) (omega (arith, present, s.least, length-append w p)))

      done : over (over out 0 (resized_to to xs n n.signals)) (first_entry n + to * n.signals) (drop (first_entry n + n.size * n.signals) xs) ≡ resized to xs n
      done =
          let w = resized_to to xs n n.signals in
          let r = drop (first_entry n + n.size * n.signals) xs in
          let lw : length w ≡ first_entry n + to * n.signals = made_length n.signals (omega arith) in
          let lr : length r ≡ length xs - (first_entry n + n.size * n.signals) = length-drop _ xs in
          over_behind out w r (first_entry n + to * n.signals) (omega arith) (omega (arith, present))
          ∙ over_all out (w ++ r) (rw length-append (omega (arith, present)))
          ∙ whole to xs n

      pub resized_done : (new : List ℕ) → new ≡ over (over out 0 (resized_to to xs n n.signals)) (first_entry n + to * n.signals) (drop (first_entry n + n.size * n.signals) xs)
          → Written (resizing to xs n (length out)) out (Ok tt) new
      unfolding refuse_if
      resized_done new e = rw (e, done) (written_done _ _ _ (simp (eq-eqb _ _ (room ∙ sym needed))))

-- a part that goes to the end
pub to_the_end : (a : ℕ) (xs : List ℕ) → take (length xs - a) (drop a xs) ≡ drop a xs
to_the_end a xs = take_all (length xs - a) (drop a xs) (simp length-drop (omega arith))

-- ---- the contract settles the answer

pub one_serial : (a : Answer ℕ) (v w : Result ℕ Refusal) → serial_answer v ≡ a → serial_answer w ≡ a → v ≡ w
one_serial = one_result (λ v. v) (λ v. v) (λ v. refl)
