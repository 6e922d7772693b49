-- Request C-18, moving: a list that is moved to form 2 and back, or back and there, is the same octets; and what a move writes, run by run.
-- Assumes nothing.
use Prim.Native.Nat.{ℕ, zero, suc, ◌+◌, ◌-◌, ◌*◌, ◌^◌, ◌≤◌, ◌<◌}
use mathlib.Core.Path.{◌≡◌, refl, sym, ap, ◌∙◌}
use mathlib.Core.Bool.{Bool, true, false, not}
use mathlib.Core.List.{List, [], ◌∷◌, ◌++◌, append_assoc, append-nil}
use native.Mathlib.Nat.{pow-le-pow_right}
use native.Mathlib.Numerals.{add-one}
use native.Mathlib.Omega.{arith}
use lib.ListN.{length, get_or, take, drop, replicate, length-append, length-drop, take-append-drop, drop_of_length-le}
use lib.Seq.{length-take-le, take_at, drop_at, drop-drop, take-add, get_or-drop, get_or-append-add}
use lib.Dec.{eqb, lit<}
use borrow.Author.Tests.{lt-ltb, eqb-true, eq-eqb, ne_eqb, not-false}
use Rattle.paper.specs.Octets.{number, over, Octets}
use Rattle.paper.specs.Answer.{Answer, gives, refused, refuse_if, and_then}
use Rattle.paper.specs.SignalList.{entry, check_size, signal_size, Counts, judge, signals_part}
use Rattle.paper.specs.Accepted.{Sized}
use Rattle.paper.specs.Forms.{serial_at, serial_of, signals_start, signals_from, signal_count, narrowed, dropped_from, dropped, sized, PresentIn, spread, widened_from, widened, to_form2, any_serial, to_form1}
use Rattle.paper.proofs.AnswerLaws.{not_refused, never_both, and_then_lem, gives_one}
use Rattle.paper.proofs.FirstLaws.{some_true, some_false, some_none}
use Rattle.paper.proofs.NumberLaws.{number_lt, number_two, octets_take, octets_drop, octets_append, length_over, over-over}
use Rattle.paper.proofs.FormLaws.{narrowed_length, Alike, count_front, count_behind, count_past, count_same, count_length, from_count, middle_long, from_length, start_same, front_same, behind_same, whole_length, dropped_start, dropped_front, dropped_behind, dropped_whole, dropped_alike, counted, accepted_present, accepted_dropped, dropped_accepted}

-- ---- n entries, spread and narrowed

spread_length : (n : ℕ) (zs : List ℕ) → 16 * n ≤ length zs → length (spread n zs) ≡ 18 * n
unfolding spread
spread_length zero zs h = refl
spread_length (suc n) zs h =
    let l : length (take 16 zs) ≡ 16 = length-take-le 16 zs (omega arith) in
    let r : length (spread n (drop 16 zs)) ≡ 18 * n = spread_length n (drop 16 zs) (omega (arith, length-drop 16 zs)) in
    omega (arith, length-append (take 16 zs) (0 ∷ 0 ∷ spread n (drop 16 zs)))

-- the octets of a run of two parts, the first of 16
module _ (zs m : List ℕ) (there : 16 ≤ length zs) where
  first_16 : length (take 16 zs) ≡ 16
  first_16 = length-take-le 16 zs there

  take_16 : take 16 (take 16 zs ++ m) ≡ take 16 zs
  take_16 = take_at (take 16 zs) m 16 first_16

  drop_16 : drop 16 (take 16 zs ++ m) ≡ m
  drop_16 = drop_at (take 16 zs) m 16 first_16

-- without the zeros they are the entries as they were
narrowed_spread : (n : ℕ) (zs r : List ℕ) → 16 * n ≤ length zs → narrowed n (spread n zs ++ r) ≡ take (16 * n) zs
unfolding narrowed spread
narrowed_spread zero zs r h = refl
narrowed_spread (suc n) zs r h =
    let there : 16 ≤ length zs = omega arith in
    let m : List ℕ = 0 ∷ 0 ∷ (spread n (drop 16 zs) ++ r) in
    let e : (take 16 zs ++ (0 ∷ 0 ∷ spread n (drop 16 zs))) ++ r ≡ take 16 zs ++ m = append_assoc (take 16 zs) (0 ∷ 0 ∷ spread n (drop 16 zs)) r in
    let d : drop 18 (take 16 zs ++ m) ≡ spread n (drop 16 zs) ++ r = sym (drop-drop 2 16 (take 16 zs ++ m)) ∙ ap (drop 2) (drop_16 zs m there) in
    let z : 16 * suc n ≡ 16 + 16 * n = omega arith in
    rw (e, take_16 zs m there, d, narrowed_spread n (drop 16 zs) r (omega (arith, length-drop 16 zs)), z) (sym (take-add 16 (16 * n) zs))

-- the serial numbers of n entries of 18 octets are 0, octet by octet
abbrev Unset : ℕ → List ℕ → Type 0
Unset n zs = (k i : ℕ) → k < n → i < 2 → get_or zs (18 * k + (16 + i)) 0 ≡ 0

-- an entry before them, and two zeros
unset_more : (n : ℕ) (a m : List ℕ) → length a ≡ 16 → Unset n m → Unset (suc n) (a ++ (0 ∷ 0 ∷ m))
unset_more n a m l u k i lt s = by k lt
  where
    zeros : (i : ℕ) → i < 2 → get_or (0 ∷ 0 ∷ m) i 0 ≡ 0
    zeros zero h = refl
    zeros (suc zero) h = refl
    zeros (suc (suc i)) h = absurd (omega arith)

    by : (k : ℕ) → k < suc n → get_or (a ++ (0 ∷ 0 ∷ m)) (18 * k + (16 + i)) 0 ≡ 0
    by zero lt =
        let y : 18 * 0 + (16 + i) ≡ length a + i = omega arith in
        rw y (get_or-append-add a (0 ∷ 0 ∷ m) i 0 ∙ zeros i s)
    by (suc k) lt =
        let y : 18 * suc k + (16 + i) ≡ length a + suc (suc (18 * k + (16 + i))) = omega arith in
        rw y (get_or-append-add a (0 ∷ 0 ∷ m) (suc (suc (18 * k + (16 + i)))) 0 ∙ u k i (omega arith) s)

spread_unset : (n : ℕ) (zs r : List ℕ) → 16 * n ≤ length zs → Unset n (spread n zs ++ r)
unfolding spread
spread_unset zero zs r h = λ k i lt s. absurd (omega arith)
spread_unset (suc n) zs r h =
    rw (append_assoc (take 16 zs) (0 ∷ 0 ∷ spread n (drop 16 zs)) r)
    (unset_more n (take 16 zs) (spread n (drop 16 zs) ++ r) (length-take-le 16 zs (omega arith)) (spread_unset n (drop 16 zs) r (omega (arith, length-drop 16 zs))))

two_zeros : (l : List ℕ) → 2 ≤ length l → get_or l 0 0 ≡ 0 → get_or l 1 0 ≡ 0 → take 2 l ≡ 0 ∷ 0 ∷ []
two_zeros [] h p q = absurd (omega arith)
two_zeros (x ∷ []) h p q = absurd (omega arith)
two_zeros (x ∷ y ∷ l) h p q = rw (p, q)

-- and where they are 0 the entries with them put back are the entries as they were
spread_narrowed : (n : ℕ) (zs r : List ℕ) → 18 * n ≤ length zs → Unset n zs → spread n (narrowed n zs ++ r) ≡ take (18 * n) zs
unfolding narrowed spread
spread_narrowed zero zs r h u = refl
spread_narrowed (suc n) zs r h u =
    let there : 16 ≤ length zs = omega arith in
    let m : List ℕ = narrowed n (drop 18 zs) ++ r in
    let e : (take 16 zs ++ narrowed n (drop 18 zs)) ++ r ≡ take 16 zs ++ m = append_assoc (take 16 zs) (narrowed n (drop 18 zs)) r in
    let later : Unset n (drop 18 zs) = λ k i lt s.
    let y : 18 + (18 * k + (16 + i)) ≡ 18 * suc k + (16 + i) = omega arith in
    get_or-drop 18 zs (18 * k + (16 + i)) 0 ∙ ap (λ (j : ℕ). get_or zs j 0) y ∙ u (suc k) i (omega arith) s in
    let serial : take 2 (drop 16 zs) ≡ 0 ∷ 0 ∷ [] =
    two_zeros (drop 16 zs) (omega (arith, length-drop 16 zs)) (get_or-drop 16 zs 0 0 ∙ u 0 0 (omega arith) (omega arith)) (get_or-drop 16 zs 1 0 ∙ u 0 1 (omega arith) (omega arith)) in
    let z : 18 * suc n ≡ 16 + (2 + 18 * n) = omega arith in
    let d : drop 2 (drop 16 zs) ≡ drop 18 zs = drop-drop 2 16 zs in
    rw (e, take_16 zs m there, drop_16 zs m there, spread_narrowed n (drop 18 zs) r (omega (arith, length-drop 18 zs)) later, z, take-add 16 (2 + 18 * n) zs, take-add 2 (18 * n) (drop 16 zs), serial, d)

-- ---- the rest of a list from the signals' count on: the count, the entries, and what is past them

parts_of : (size n : ℕ) (t : List ℕ) → take 2 t ++ (take (size * n) (drop 2 t) ++ drop (entry size n) t) ≡ t
parts_of size n t = rw (← drop-drop (size * n) 2 t, take-append-drop (size * n) (drop 2 t), take-append-drop 2 t)

-- a serial number is 0 exactly if its octets are
unset_serial : (n : ℕ) (t : List ℕ) → Unset n (drop 2 t) → (k : ℕ) → k < n → serial_at 18 t k ≡ 0
unfolding serial_at
unset_serial n t u k lt =
    let p : get_or t (2 + (18 * k + (16 + 0))) 0 ≡ 0 = sym (get_or-drop 2 t (18 * k + (16 + 0)) 0) ∙ u k 0 lt (omega arith) in
    let q : get_or t (2 + (18 * k + (16 + 1))) 0 ≡ 0 = sym (get_or-drop 2 t (18 * k + (16 + 1)) 0) ∙ u k 1 lt (omega arith) in
    let y : entry 18 k + 16 ≡ 2 + (18 * k + (16 + 0)) = omega arith in
    let z : entry 18 k + 16 + 1 ≡ 2 + (18 * k + (16 + 1)) = omega arith in
    number_two t (entry 18 k + 16) ∙ omega (arith, ap (λ (i : ℕ). get_or t i 0) y, ap (λ (i : ℕ). get_or t i 0) z)

serial_unset : (n : ℕ) (t : List ℕ) → ((k : ℕ) → k < n → serial_at 18 t k ≡ 0) → Unset n (drop 2 t)
unfolding serial_at
serial_unset n t h k i lt s = get_or-drop 2 t (18 * k + (16 + i)) 0 ∙ by i s
  where
    none : get_or t (entry 18 k + 16) 0 * 256 + get_or t (entry 18 k + 16 + 1) 0 ≡ 0
    none = sym (number_two t (entry 18 k + 16)) ∙ h k lt

    by : (i : ℕ) → i < 2 → get_or t (2 + (18 * k + (16 + i))) 0 ≡ 0
    by zero s = let y : 2 + (18 * k + (16 + 0)) ≡ entry 18 k + 16 = omega arith in omega (arith, none, ap (λ (i : ℕ). get_or t i 0) y)
    by (suc zero) s = let y : 2 + (18 * k + (16 + 1)) ≡ entry 18 k + 16 + 1 = omega arith in omega (arith, none, ap (λ (i : ℕ). get_or t i 0) y)
    by (suc (suc i)) s = absurd (omega arith)

module _ (n : ℕ) (t : List ℕ) (there : entry 16 n ≤ length t) where
  spread_here : length (spread n (drop 2 t)) ≡ 18 * n
  spread_here = spread_length n (drop 2 t) (omega (arith, length-drop 2 t))

  widened_count : number (widened_from n t) 0 2 ≡ number t 0 2
  unfolding widened_from
  widened_count = count_same t (spread n (drop 2 t)) (drop (entry 16 n) t) (omega arith)

  widened_from_length : length (widened_from n t) ≡ length t + 2 * n
  unfolding widened_from
  widened_from_length =
      omega (arith, spread_here, length-drop (entry 16 n) t, count_length t (spread n (drop 2 t)) (drop (entry 16 n) t) (omega arith))

  dropped_widened_from : dropped_from n (widened_from n t) ≡ t
  unfolding dropped_from widened_from
  dropped_widened_from =
      let m = spread n (drop 2 t) in
      let r = drop (entry 16 n) t in
      let l : 2 ≤ length t = omega arith in
      rw (count_front t m r l, count_behind t m r l, count_past t m r l (18 * n) spread_here, narrowed_spread n (drop 2 t) r (omega (arith, length-drop 2 t)))
      (parts_of 16 n t)

  widened_unset : Unset n (drop 2 (widened_from n t))
  unfolding widened_from
  widened_unset =
      let m = spread n (drop 2 t) in
      let r = drop (entry 16 n) t in
      rw (count_behind t m r (omega arith)) (spread_unset n (drop 2 t) r (omega (arith, length-drop 2 t)))

module _ (n : ℕ) (t : List ℕ) (there : entry 18 n ≤ length t) where
  widened_dropped_from : Unset n (drop 2 t) → widened_from n (dropped_from n t) ≡ t
  unfolding dropped_from widened_from
  widened_dropped_from u =
      let m = narrowed n (drop 2 t) in
      let r = drop (entry 18 n) t in
      let l : 2 ≤ length t = omega arith in
      rw (count_front t m r l, count_behind t m r l, count_past t m r l (16 * n) (middle_long n t there), spread_narrowed n (drop 2 t) r (omega (arith, length-drop 2 t)) u)
      (parts_of 18 n t)

-- ---- the list

dropped_by : (ys : List ℕ) (s n : ℕ) (t : List ℕ) → signals_start ys ≡ s → drop s ys ≡ t → number t 0 2 ≡ n → dropped ys ≡ take s ys ++ dropped_from n t
unfolding dropped
dropped_by ys s n t p q c = rw (p, q, c)

widened_by : (ys : List ℕ) (s n : ℕ) (t : List ℕ) → signals_start ys ≡ s → drop s ys ≡ t → number t 0 2 ≡ n → widened ys ≡ take s ys ++ widened_from n t
unfolding widened
widened_by ys s n t p q c = rw (p, q, c)

-- a form 1 list whose checks and signals are present
module _ (xs : List ℕ) (h : PresentIn 16 xs) where
  widened_start : signals_start (widened xs) ≡ signals_start xs
  unfolding widened
  widened_start = start_same xs _ h.checks

  widened_from_lem : drop (signals_start xs) (widened xs) ≡ widened_from (signal_count xs) (signals_from xs)
  unfolding widened
  widened_from_lem = behind_same xs _ h.checks

  widened_front : take (signals_start xs) (widened xs) ≡ take (signals_start xs) xs
  unfolding widened
  widened_front = front_same xs _ h.checks

  dropped_widened_there : dropped (widened xs) ≡ xs
  dropped_widened_there =
      dropped_by (widened xs) (signals_start xs) (signal_count xs) (widened_from (signal_count xs) (signals_from xs)) widened_start widened_from_lem
      (widened_count (signal_count xs) (signals_from xs) h.signals)
      ∙ rw (widened_front, dropped_widened_from (signal_count xs) (signals_from xs) h.signals) (take-append-drop (signals_start xs) xs)

  widened_long : length (widened xs) ≡ length xs + 2 * signal_count xs
  unfolding widened
  widened_long =
      omega (
        arith,
        h.checks,
        length-drop (signals_start xs) xs,
        widened_from_length (signal_count xs) (signals_from xs) h.signals,
        whole_length xs (widened_from (signal_count xs) (signals_from xs)) h.checks,
      )

  widened_unset_there : (k : ℕ) → k < signal_count xs → serial_at 18 (drop (signals_start xs) (widened xs)) k ≡ 0
  widened_unset_there k lt =
      rw widened_from_lem
      (unset_serial (signal_count xs) (widened_from (signal_count xs) (signals_from xs)) (widened_unset (signal_count xs) (signals_from xs) h.signals) k lt)

-- a form 2 list
module _ (xs : List ℕ) (h : PresentIn 18 xs) where
  dropped_long : length (dropped xs) + 2 * signal_count xs ≡ length xs
  dropped_long =
      omega (arith, h.checks, length-drop (signals_start xs) xs, from_length (signal_count xs) (signals_from xs) h.signals, dropped_whole xs h.checks)

  widened_dropped_there : ((k : ℕ) → k < signal_count xs → serial_at 18 (signals_from xs) k ≡ 0) → widened (dropped xs) ≡ xs
  widened_dropped_there none =
      widened_by (dropped xs) (signals_start xs) (signal_count xs) (dropped_from (signal_count xs) (signals_from xs)) (dropped_start xs h.checks) (dropped_behind xs h.checks)
      (from_count (signal_count xs) (signals_from xs) (omega (arith, h.signals)))
      ∙ rw (dropped_front xs h.checks, widened_dropped_from (signal_count xs) (signals_from xs) h.signals (serial_unset (signal_count xs) (signals_from xs) none))
      (take-append-drop (signals_start xs) xs)

-- ---- no serial number is set

module _ (xs : List ℕ) (n : Counts) where
  -- the test that a search goes by
  set_at : ℕ → Bool
  set_at k = not (eqb (serial_at n.size (signals_part xs n) k) 0)

  pub none_set : any_serial xs n ≡ false → (k : ℕ) → k < n.signals → serial_at n.size (signals_part xs n) k ≡ 0
  unfolding set_at
  none_set none k lt = eqb-true _ 0 (not-false _ (some_none set_at n.signals none k lt))

  pub all_unset : ((k : ℕ) → k < n.signals → serial_at n.size (signals_part xs n) k ≡ 0) → any_serial xs n ≡ false
  unfolding set_at
  all_unset h = some_false set_at n.signals (λ k lt. ap not (eq-eqb _ 0 (h k lt)))

  pub one_set : (k : ℕ) → k < n.signals → (serial_at n.size (signals_part xs n) k ≡ 0 → ⊥) → any_serial xs n ≡ true
  unfolding set_at
  one_set k lt h = some_true set_at n.signals k lt (ap not (ne_eqb _ 0 h))

-- ---- an accepted list with its entries widened

module _ (xs : List ℕ) (n : Counts) (e : judge 1 xs ≡ gives n) where
  -- the serial numbers dropped again, it is what it was
  pub dropped_widened : dropped (widened xs) ≡ xs
  unfolding signal_size
  dropped_widened = dropped_widened_there xs (counted 1 xs n e).present

  -- so it is accepted in form 2, with the same counts and version, and carries the same
  pub widened_accepted : judge 2 (widened xs) ≡ gives (sized 18 n)
  widened_accepted = dropped_accepted (widened xs) n (ap (judge 1) dropped_widened ∙ e)

  pub widened_alike : Alike 18 16 (widened xs) xs
  widened_alike = rw dropped_widened at (dropped_alike (widened xs) (accepted_present (widened xs) (sized 18 n) widened_accepted))

  pub widened_length : length (widened xs) ≡ length xs + 2 * n.signals
  unfolding signal_size
  widened_length = let h = counted 1 xs n e in rw h.signals (widened_long xs h.present)

  -- "Moving to form 2 writes 0s"
  pub widened_serials : (k : ℕ) → k < n.signals → serial_at 18 (signals_part (widened xs) n) k ≡ 0
  unfolding signal_size
  widened_serials k lt = let h = counted 1 xs n e in rw h.checks (widened_unset_there xs h.present k (rw h.signals at lt))

  pub widened_none : any_serial (widened xs) (sized 18 n) ≡ false
  widened_none = all_unset (widened xs) (sized 18 n) widened_serials

-- ---- an accepted list with its serial numbers dropped

module _ (xs : List ℕ) (n : Counts) (e : judge 2 xs ≡ gives n) where
  dropped_sum : length (dropped xs) + 2 * n.signals ≡ length xs
  unfolding signal_size
  dropped_sum = let h = counted 2 xs n e in rw h.signals (dropped_long xs h.present)

  pub dropped_length : length (dropped xs) ≡ length xs - 2 * n.signals
  dropped_length = omega (arith, dropped_sum)

  -- where none is set, zeros put in their place make it what it was
  pub widened_dropped : any_serial xs n ≡ false → widened (dropped xs) ≡ xs
  unfolding signal_size
  widened_dropped none =
      let h = counted 2 xs n e in
      let c : n.checks ≡ number xs 0 2 = h.checks in
      let z : n.size ≡ 18 = h.size in
      widened_dropped_there xs h.present (λ k lt. rw (z, c) at (none_set xs n none k (rw h.signals lt)))

-- ---- there and back

-- an accepted move was of an accepted list, had the room, and gives it widened; and back, with no serial number set, it gives it dropped
pub record MovedTo2 (xs : List ℕ) (room : ℕ) (ys : List ℕ) : Type 0 where
  pub counts : Counts
  pub judged : judge 1 xs ≡ gives counts
  pub long : room ≡ length (widened xs)
  pub moved : ys ≡ widened xs

pub moved_2 : (xs : List ℕ) (room : ℕ) (ys : List ℕ) → to_form2 xs room ≡ gives ys → MovedTo2 xs room ys
unfolding to_form2
moved_2 xs room ys e =
    let a = and_then_lem (judge 1 xs) (λ n. refuse_if (not (eqb room (length (widened xs)))) 33 0 (gives (widened xs))) ys e in
    let b = not_refused _ 33 0 _ ys a.1.1 in
    record { counts = a.0; judged = a.1.0; long = eqb-true _ _ (not-false _ b.0); moved = gives_one _ _ _ b.1 refl }

pub record MovedTo1 (xs : List ℕ) (room : ℕ) (ys : List ℕ) : Type 0 where
  pub counts : Counts
  pub judged : judge 2 xs ≡ gives counts
  pub none : any_serial xs counts ≡ false
  pub long : room ≡ length (dropped xs)
  pub moved : ys ≡ dropped xs

pub moved_1 : (xs : List ℕ) (room : ℕ) (ys : List ℕ) → to_form1 xs room ≡ gives ys → MovedTo1 xs room ys
unfolding to_form1
moved_1 xs room ys e =
    let a = and_then_lem (judge 2 xs) (λ n. refuse_if (any_serial xs n) 32 0 (refuse_if (not (eqb room (length (dropped xs)))) 33 0 (gives (dropped xs)))) ys e in
    let b = not_refused _ 32 0 _ ys a.1.1 in
    let c = not_refused _ 33 0 _ ys b.1 in
    record { counts = a.0; judged = a.1.0; none = b.0; long = eqb-true _ _ (not-false _ c.0); moved = gives_one _ _ _ c.1 refl }

-- the other way round: such a list is moved
pub moves_2 : (xs : List ℕ) (n : Counts) → judge 1 xs ≡ gives n → to_form2 xs (length (widened xs)) ≡ gives (widened xs)
unfolding to_form2 refuse_if
moves_2 xs n e = rw (e, eq-eqb (length (widened xs)) _ refl)

pub moves_1 : (xs : List ℕ) (n : Counts) → judge 2 xs ≡ gives n → any_serial xs n ≡ false → to_form1 xs (length (dropped xs)) ≡ gives (dropped xs)
unfolding to_form1 refuse_if
moves_1 xs n e none = rw (e, none, eq-eqb (length (dropped xs)) _ refl)

-- "There and back gives the same octets wherever both moves are accepted": the second is, into an area of the list's own length
pub there_and_back : (xs : List ℕ) (room : ℕ) (ys : List ℕ) → to_form2 xs room ≡ gives ys → to_form1 ys (length xs) ≡ gives xs
there_and_back xs room ys e =
    let h = moved_2 xs room ys e in
    let d = dropped_widened xs h.counts h.judged in
    rw h.moved (rw d at (moves_1 (widened xs) (sized 18 h.counts) (widened_accepted xs h.counts h.judged) (widened_none xs h.counts h.judged)))

pub back_and_there : (xs : List ℕ) (room : ℕ) (ys : List ℕ) → to_form1 xs room ≡ gives ys → to_form2 ys (length xs) ≡ gives xs
back_and_there xs room ys e =
    let h = moved_1 xs room ys e in
    let w = widened_dropped xs h.counts h.judged h.none in
    rw h.moved (rw w at (moves_2 (dropped xs) (sized 16 h.counts) (accepted_dropped xs h.counts h.judged)))

-- and whatever the areas were, what comes back is what went
pub there_and_back_same : (xs : List ℕ) (room : ℕ) (ys : List ℕ) (room' : ℕ) (zs : List ℕ) → to_form2 xs room ≡ gives ys → to_form1 ys room' ≡ gives zs → zs ≡ xs
there_and_back_same xs room ys room' zs e e' =
    let h = moved_2 xs room ys e in
    let k = moved_1 ys room' zs e' in
    k.moved ∙ ap dropped h.moved ∙ dropped_widened xs h.counts h.judged

pub back_and_there_same : (xs : List ℕ) (room : ℕ) (ys : List ℕ) (room' : ℕ) (zs : List ℕ) → to_form1 xs room ≡ gives ys → to_form2 ys room' ≡ gives zs → zs ≡ xs
back_and_there_same xs room ys room' zs e e' =
    let h = moved_1 xs room ys e in
    let k = moved_2 ys room' zs e' in
    k.moved ∙ ap widened h.moved ∙ widened_dropped xs h.counts h.judged h.none

-- ---- the serial number of a signal

-- in form 1 there is none
pub serial_plain : (xs : List ℕ) (n : Counts) (k : ℕ) → judge 1 xs ≡ gives n → k < n.signals → serial_of 1 xs k ≡ gives 0
unfolding serial_of serial_at refuse_if number signal_size
serial_plain xs n k e lt = let z : n.size ≡ 16 = (counted 1 xs n e).size in rw (e, lt-ltb k n.signals lt, z)

-- nor in a list that was moved to form 2
pub serial_moved : (xs : List ℕ) (room : ℕ) (ys : List ℕ) (n : Counts) (k : ℕ) → to_form2 xs room ≡ gives ys → judge 1 xs ≡ gives n → k < n.signals
    → serial_of 2 ys k ≡ gives 0
unfolding serial_of refuse_if
serial_moved xs room ys n k e j lt =
    rw ((moved_2 xs room ys e).moved, widened_accepted xs n j, lt-ltb k n.signals lt) (ap gives (widened_serials xs n j k lt))

-- it has 16 bits
pub serial_most : (size : ℕ) (t : List ℕ) (k : ℕ) → Sized size → Octets t → serial_at size t k < 65536
unfolding serial_at
serial_most size t k s o =
    let most : size - 16 ≤ 2 = omega arith in
    let le : 256 ^ (size - 16) ≤ 256 ^ 2 = pow-le-pow_right (lit< tt) most in
    omega (arith, number_lt t (entry size k + 16) (size - 16) o)

-- ---- refusals: "1-4 are judged first, 32 before 33"

pub move_2_judged : (xs : List ℕ) (room m at : ℕ) → judge 1 xs ≡ refused m at → to_form2 xs room ≡ refused m at
unfolding to_form2
move_2_judged xs room m at e = rw e

pub move_2_long : (xs : List ℕ) (room : ℕ) (n : Counts) → judge 1 xs ≡ gives n → (room ≡ length (widened xs) → ⊥) → to_form2 xs room ≡ refused 33 0
unfolding to_form2 refuse_if
move_2_long xs room n e ne = rw (e, ne_eqb room (length (widened xs)) ne)

pub move_1_judged : (xs : List ℕ) (room m at : ℕ) → judge 2 xs ≡ refused m at → to_form1 xs room ≡ refused m at
unfolding to_form1
move_1_judged xs room m at e = rw e

-- whatever the room is
pub move_1_set : (xs : List ℕ) (room : ℕ) (n : Counts) → judge 2 xs ≡ gives n → any_serial xs n ≡ true → to_form1 xs room ≡ refused 32 0
unfolding to_form1 refuse_if
move_1_set xs room n e set = rw (e, set)

pub move_1_long : (xs : List ℕ) (room : ℕ) (n : Counts) → judge 2 xs ≡ gives n → any_serial xs n ≡ false → (room ≡ length (dropped xs) → ⊥)
    → to_form1 xs room ≡ refused 33 0
unfolding to_form1 refuse_if
move_1_long xs room n e none ne = rw (e, none, ne_eqb room (length (dropped xs)) ne)

-- and no other: a refused move is refused in judging, by 32 where a serial number is set, or by 33 where none is and the length is wrong
pub data Unmoved (judged : Answer Counts) (set : Counts → Bool) (wrong : Bool) (m at : ℕ) : Type 0 where
  in_judging : judged ≡ refused m at → Unmoved judged set wrong m at
  by_serial : (n : Counts) → judged ≡ gives n → set n ≡ true → m ≡ 32 → at ≡ 0 → Unmoved judged set wrong m at
  by_length : (n : Counts) → judged ≡ gives n → set n ≡ false → wrong ≡ true → m ≡ 33 → at ≡ 0 → Unmoved judged set wrong m at

module _ (judged : Answer Counts) (set : Counts → Bool) (wrong : Bool) (zs : List ℕ) (m at : ℕ) where
  unmoved : and_then judged (λ n. refuse_if (set n) 32 0 (refuse_if wrong 33 0 (gives zs))) ≡ refused m at → Unmoved judged set wrong m at
  unfolding refuse_if
  unmoved = from judged refl
    where
      last : (n : Counts) → judged ≡ gives n → set n ≡ false → (b : Bool) → wrong ≡ b → refuse_if b 33 0 (gives zs) ≡ refused m at → Unmoved judged set wrong m at
      last n j none true w q = by_length n j none w (cc) (cc)
      last n j none false w q = absurd (never_both (gives zs) zs m at refl q)

      first : (n : Counts) → judged ≡ gives n → (b : Bool) → set n ≡ b → refuse_if b 32 0 (refuse_if wrong 33 0 (gives zs)) ≡ refused m at → Unmoved judged set wrong m at
      first n j true s q = by_serial n j s (cc) (cc)
      first n j false s q = last n j s wrong refl q

      from : (a : Answer Counts) → judged ≡ a → and_then a (λ n. refuse_if (set n) 32 0 (refuse_if wrong 33 0 (gives zs))) ≡ refused m at → Unmoved judged set wrong m at
      from (gives n) j q = first n j (set n) refl q
      from (refused m' at') j q =
          let p : m' ≡ m = cc in
          let r : at' ≡ at = cc in
          in_judging (rw (p, r) at j)

pub unmoved_2 : (xs : List ℕ) (room m at : ℕ) → to_form2 xs room ≡ refused m at
    → Unmoved (judge 1 xs) (λ n. false) (not (eqb room (length (widened xs)))) m at
unfolding to_form2 refuse_if
unmoved_2 xs room m at e = unmoved (judge 1 xs) (λ n. false) (not (eqb room (length (widened xs)))) (widened xs) m at e

pub unmoved_1 : (xs : List ℕ) (room m at : ℕ) → to_form1 xs room ≡ refused m at
    → Unmoved (judge 2 xs) (any_serial xs) (not (eqb room (length (dropped xs)))) m at
unfolding to_form1
unmoved_1 xs room m at e = unmoved (judge 2 xs) (any_serial xs) (not (eqb room (length (dropped xs)))) (dropped xs) m at e

-- ---- octets stay octets

octets_zeros : (l : List ℕ) → Octets l → Octets (0 ∷ 0 ∷ l)
octets_zeros l o zero = lit< tt
octets_zeros l o (suc zero) = lit< tt
octets_zeros l o (suc (suc i)) = o i

octets_spread : (n : ℕ) (zs : List ℕ) → Octets zs → Octets (spread n zs)
unfolding spread
octets_spread zero zs o = λ i. lit< tt
octets_spread (suc n) zs o = octets_append (take 16 zs) _ (octets_take 16 zs o) (octets_zeros (spread n (drop 16 zs)) (octets_spread n (drop 16 zs) (octets_drop 16 zs o)))

octets_narrowed : (n : ℕ) (zs : List ℕ) → Octets zs → Octets (narrowed n zs)
unfolding narrowed
octets_narrowed zero zs o = λ i. lit< tt
octets_narrowed (suc n) zs o = octets_append (take 16 zs) _ (octets_take 16 zs o) (octets_narrowed n (drop 18 zs) (octets_drop 18 zs o))

-- a count, entries and what is past them, behind a front, each of octets
octets_four : (a b c d : List ℕ) → Octets a → Octets b → Octets c → Octets d → Octets (a ++ (b ++ (c ++ d)))
octets_four a b c d oa ob oc od = octets_append a _ oa (octets_append b _ ob (octets_append c d oc od))

pub octets_widened : (xs : List ℕ) → Octets xs → Octets (widened xs)
unfolding widened widened_from
octets_widened xs o =
    let t = signals_from xs in
    let p : Octets t = octets_drop (signals_start xs) xs o in
    octets_four (take (signals_start xs) xs) (take 2 t) (spread (signal_count xs) (drop 2 t)) (drop (entry 16 (signal_count xs)) t)
    (octets_take (signals_start xs) xs o) (octets_take 2 t p) (octets_spread (signal_count xs) (drop 2 t) (octets_drop 2 t p)) (octets_drop (entry 16 (signal_count xs)) t p)

pub octets_dropped : (xs : List ℕ) → Octets xs → Octets (dropped xs)
unfolding dropped dropped_from
octets_dropped xs o =
    let t = signals_from xs in
    let p : Octets t = octets_drop (signals_start xs) xs o in
    octets_four (take (signals_start xs) xs) (take 2 t) (narrowed (signal_count xs) (drop 2 t)) (drop (entry 18 (signal_count xs)) t)
    (octets_take (signals_start xs) xs o) (octets_take 2 t p) (octets_narrowed (signal_count xs) (drop 2 t) (octets_drop 2 t p)) (octets_drop (entry 18 (signal_count xs)) t p)

-- ---- what a move writes, run by run

spread_next : (k : ℕ) (zs : List ℕ) → spread (suc k) zs ≡ spread k zs ++ (take 16 (drop (16 * k) zs) ++ (0 ∷ 0 ∷ []))
unfolding spread
spread_next zero zs = refl
spread_next (suc k) zs =
    let z : 16 * suc k ≡ 16 + 16 * k = omega arith in
    rw (spread_next k (drop 16 zs), drop-drop (16 * k) 16 zs, z) (sym (append_assoc (take 16 zs) (0 ∷ 0 ∷ spread k (drop 16 zs)) _))

narrowed_next : (k : ℕ) (zs : List ℕ) → narrowed (suc k) zs ≡ narrowed k zs ++ take 16 (drop (18 * k) zs)
unfolding narrowed
narrowed_next zero zs = append-nil (take 16 zs)
narrowed_next (suc k) zs =
    let z : 18 * suc k ≡ 18 + 18 * k = omega arith in
    rw (narrowed_next k (drop 18 zs), drop-drop (18 * k) 18 zs, z) (sym (append_assoc (take 16 zs) (narrowed k (drop 18 zs)) _))

-- the front of a list and its first k entries, widened or without their serial numbers; `front` octets stand before the first entry
unfoldable pub widened_to : List ℕ → ℕ → ℕ → List ℕ
widened_to xs front k = take front xs ++ spread k (drop front xs)

unfoldable pub dropped_to : List ℕ → ℕ → ℕ → List ℕ
dropped_to xs front k = take front xs ++ narrowed k (drop front xs)

module _ (xs : List ℕ) (front k : ℕ) where
  widened_to_next : widened_to xs front (suc k) ≡ widened_to xs front k ++ (take 16 (drop (front + 16 * k) xs) ++ (0 ∷ 0 ∷ []))
  unfolding widened_to
  widened_to_next = rw (spread_next k (drop front xs), drop-drop (16 * k) front xs) (sym (append_assoc (take front xs) (spread k (drop front xs)) _))

  dropped_to_next : dropped_to xs front (suc k) ≡ dropped_to xs front k ++ take 16 (drop (front + 18 * k) xs)
  unfolding dropped_to
  dropped_to_next = rw (narrowed_next k (drop front xs), drop-drop (18 * k) front xs) (sym (append_assoc (take front xs) (narrowed k (drop front xs)) _))

  pub widened_to_length : front + 16 * k ≤ length xs → length (widened_to xs front k) ≡ front + 18 * k
  unfolding widened_to
  widened_to_length h =
      omega (
        arith,
        length-take-le front xs (omega arith),
        spread_length k (drop front xs) (omega (arith, length-drop front xs)),
        length-append (take front xs) (spread k (drop front xs)),
      )

  pub dropped_to_length : front + 18 * k ≤ length xs → length (dropped_to xs front k) ≡ front + 16 * k
  unfolding dropped_to
  dropped_to_length h =
      omega (
        arith,
        length-take-le front xs (omega arith),
        narrowed_length k (drop front xs) (omega (arith, length-drop front xs)),
        length-append (take front xs) (narrowed k (drop front xs)),
      )

-- with the rest behind them they are the list moved
widened_all : (xs : List ℕ) → widened_to xs (signals_start xs + 2) (signal_count xs) ++ drop (signals_start xs + 2 + 16 * signal_count xs) xs ≡ widened xs
unfolding widened widened_from widened_to
widened_all xs =
    let s = signals_start xs in
    let n = signal_count xs in
    let y : s + entry 16 n ≡ s + 2 + 16 * n = omega arith in
    rw (take-add s 2 xs, ← drop-drop 2 s xs, ← y, ← drop-drop (entry 16 n) s xs) (simp append_assoc)

dropped_all : (xs : List ℕ) → dropped_to xs (signals_start xs + 2) (signal_count xs) ++ drop (signals_start xs + 2 + 18 * signal_count xs) xs ≡ dropped xs
unfolding dropped dropped_from dropped_to
dropped_all xs =
    let s = signals_start xs in
    let n = signal_count xs in
    let y : s + entry 18 n ≡ s + 2 + 18 * n = omega arith in
    rw (take-add s 2 xs, ← drop-drop 2 s xs, ← y, ← drop-drop (entry 18 n) s xs) (simp append_assoc)

-- a run written behind those that stand at an area's start, and the last one
over_behind : (out x y : List ℕ) (at : ℕ) → at ≡ length x → length x + length y ≤ length out → over (over out 0 x) at y ≡ over out 0 (x ++ y)
over_behind out x y at e h = let z : at ≡ 0 + length x = omega arith in rw z (over-over out 0 x y (omega arith))

over_all : (out x : List ℕ) → length out ≡ length x → over out 0 x ≡ x
unfolding over
over_all out x e = let z : length out ≤ 0 + length x = omega arith in rw (drop_of_length-le out z) (append-nil x)

-- where the first entry stands in a list with these counts
abbrev pub entries_start : Counts → ℕ
entries_start n = entry check_size n.checks + 2

-- The move to form 2, into an area of the needed length: the front, then for each entry its 16 octets and two zeros, then the rest. `from` and
-- `at` are where a run is read and written.
module _ (xs out : List ℕ) (n : Counts) (e : judge 1 xs ≡ gives n) (room : length out ≡ length (widened xs)) where
  pub widens_from : entries_start n + 16 * n.signals ≤ length xs
  unfolding signal_size
  widens_from = let h = counted 1 xs n e in rw (h.checks, h.signals) (omega (arith, h.present, length-drop (signals_start xs) xs))

  pub widens_room : length out ≡ length xs + 2 * n.signals
  widens_room = room ∙ widened_length xs n e

  pub widens_kept : (k : ℕ) → k ≤ n.signals → length (over out 0 (widened_to xs (entries_start n) k)) ≡ length out
  widens_kept k le =
      length_over out 0 (widened_to xs (entries_start n) k)
      (omega (arith, widened_to_length xs (entries_start n) k (omega (arith, widens_from)), widens_from, widens_room))

  pub widens_begun : over out 0 (take (entries_start n) xs) ≡ over out 0 (widened_to xs (entries_start n) 0)
  unfolding widened_to spread
  widens_begun = ap (over out 0) (sym (append-nil (take (entries_start n) xs)))

  pub widens_turn : (k from at : ℕ) → k < n.signals → from ≡ entries_start n + 16 * k → at ≡ entries_start n + 18 * k
      → over (over (over out 0 (widened_to xs (entries_start n) k)) at (take 16 (drop from xs))) (at + 16) (replicate 2 0)
      ≡ over out 0 (widened_to xs (entries_start n) (k + 1))
  widens_turn k from at lt f a =
      let w = widened_to xs (entries_start n) k in
      let p = take 16 (drop from xs) in
      let lw : length w ≡ entries_start n + 18 * k = widened_to_length xs (entries_start n) k (omega (arith, widens_from)) in
      let lp : length p ≡ 16 = length-take-le 16 (drop from xs) (omega (arith, widens_from, length-drop from xs)) in
      let next : widened_to xs (entries_start n) (k + 1) ≡ (w ++ p) ++ (0 ∷ 0 ∷ []) =
      rw (add-one, f) (widened_to_next xs (entries_start n) k ∙ sym (append_assoc w _ _)) in
      rw next
      (ap (λ (l : List ℕ). over l (at + 16) (0 ∷ 0 ∷ [])) (over_behind out w p at (omega arith) (omega (arith, widens_from, widens_room)))
      ∙ over_behind out (w ++ p) (0 ∷ 0 ∷ []) (at + 16) (omega (arith, length-append w p)) (omega (arith, length-append w p, widens_from, widens_room)))

  pub widens_done : (from at : ℕ) → from ≡ entries_start n + 16 * n.signals → at ≡ entries_start n + 18 * n.signals
      → over (over out 0 (widened_to xs (entries_start n) n.signals)) at (drop from xs) ≡ widened xs
  unfolding signal_size
  widens_done from at f a =
      let h = counted 1 xs n e in
      let w = widened_to xs (entries_start n) n.signals in
      let lw : length w ≡ entries_start n + 18 * n.signals = widened_to_length xs (entries_start n) n.signals widens_from in
      let all : w ++ drop from xs ≡ widened xs = rw (f, h.checks, h.signals) (widened_all xs) in
      over_behind out w (drop from xs) at (omega arith) (omega (arith, widens_from, widens_room, length-drop from xs))
      ∙ over_all out (w ++ drop from xs) (rw all room)
      ∙ all

-- The move to form 1: the front, then for each entry its first 16 octets, then the rest
module _ (xs out : List ℕ) (n : Counts) (e : judge 2 xs ≡ gives n) (room : length out ≡ length (dropped xs)) where
  pub drops_from : entries_start n + 18 * n.signals ≤ length xs
  unfolding signal_size
  drops_from = let h = counted 2 xs n e in rw (h.checks, h.signals) (omega (arith, h.present, length-drop (signals_start xs) xs))

  pub drops_room : length out + 2 * n.signals ≡ length xs
  drops_room = rw room (dropped_sum xs n e)

  pub drops_kept : (k : ℕ) → k ≤ n.signals → length (over out 0 (dropped_to xs (entries_start n) k)) ≡ length out
  drops_kept k le =
      length_over out 0 (dropped_to xs (entries_start n) k)
      (omega (arith, dropped_to_length xs (entries_start n) k (omega (arith, drops_from)), drops_from, drops_room))

  pub drops_begun : over out 0 (take (entries_start n) xs) ≡ over out 0 (dropped_to xs (entries_start n) 0)
  unfolding dropped_to narrowed
  drops_begun = ap (over out 0) (sym (append-nil (take (entries_start n) xs)))

  pub drops_turn : (k from at : ℕ) → k < n.signals → from ≡ entries_start n + 18 * k → at ≡ entries_start n + 16 * k
      → over (over out 0 (dropped_to xs (entries_start n) k)) at (take 16 (drop from xs)) ≡ over out 0 (dropped_to xs (entries_start n) (k + 1))
  drops_turn k from at lt f a =
      let w = dropped_to xs (entries_start n) k in
      let p = take 16 (drop from xs) in
      let lw : length w ≡ entries_start n + 16 * k = dropped_to_length xs (entries_start n) k (omega (arith, drops_from)) in
      let lp : length p ≡ 16 = length-take-le 16 (drop from xs) (omega (arith, drops_from, length-drop from xs)) in
      let next : dropped_to xs (entries_start n) (k + 1) ≡ w ++ p = rw (add-one, f) (dropped_to_next xs (entries_start n) k) in
      rw next (over_behind out w p at (omega arith) (omega (arith, drops_from, drops_room)))

  pub drops_done : (from at : ℕ) → from ≡ entries_start n + 18 * n.signals → at ≡ entries_start n + 16 * n.signals
      → over (over out 0 (dropped_to xs (entries_start n) n.signals)) at (drop from xs) ≡ dropped xs
  unfolding signal_size
  drops_done from at f a =
      let h = counted 2 xs n e in
      let w = dropped_to xs (entries_start n) n.signals in
      let lw : length w ≡ entries_start n + 16 * n.signals = dropped_to_length xs (entries_start n) n.signals drops_from in
      let all : w ++ drop from xs ≡ dropped xs = rw (f, h.checks, h.signals) (dropped_all xs) in
      over_behind out w (drop from xs) at (omega arith) (omega (arith, drops_from, drops_room, length-drop from xs))
      ∙ over_all out (w ++ drop from xs) (rw all room)
      ∙ all
