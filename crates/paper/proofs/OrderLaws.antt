-- Request C-22: telegrams of different vehicles leave the same store in either order. Assumes nothing.
use Prim.Native.Nat.{ℕ, zero, suc, ◌+◌, ◌-◌, ◌%◌, ◌≤◌, ◌<◌}
use mathlib.Core.Path.{◌≡◌, refl, sym, ap, ◌∙◌}
use mathlib.Core.Logic.{◌⊎◌, inl, inr, ◌↔◌}
use mathlib.Core.Bool.{Bool, true, false, cond}
use mathlib.Core.List.{List, [], ◌∷◌, ◌++◌}
use native.Mathlib.Omega.{arith}
use native.Mathlib.Decide.{dec_lt, ℕ_discrete}
use lib.ListN.{length, get_or, set, drop, length-set}
use lib.Seq.{ext_get_or, get_or-set_same, get_or-set_other}
use lib.Dec.{ltb, eqb}
use borrow.Author.Tests.{eq-eqb, ne_eqb, eqb-false}
use Rattle.paper.specs.Octets.{over}
use Rattle.paper.specs.Answer.{Answer, gives, refused, refuse_if, after, forget}
use Rattle.paper.specs.Telegrams.{telegram_type}
use Rattle.paper.specs.SignalList.{longest_limit}
use Rattle.paper.specs.Store.{vehicles, telegram_octets, slot_octets, store_octets, slot_start, Slot, slot_to, slot_of, moved, taken, taking, turn, age, Takes, stale, swept_one, swept_to, swept}
use Rattle.paper.specs.Demands.{Step, offer, sweep, step, run}
use Rattle.paper.specs.Order.{Arrival, offered, arrived, own}
use Rattle.paper.proofs.AnswerLaws.{never_both}
use Rattle.paper.proofs.NumberLaws.{length_over, over_at, over_other}
use Rattle.paper.proofs.SweepLaws.{aged, set_other, slot_one, sweeps_it, length_swept, slot_swept}
use Rattle.paper.proofs.StoreLaws.{takes, takes_it, padded, type_short, length_slot, length_taken, slot_other, heard_taken, length_step, length_run}
use Rattle.paper.proofs.GapLaws.{slot_after, moved_aged}

-- ---- octets written in two places

abbrev Outside : ℕ → List ℕ → ℕ → Type 0
Outside k m i = (i < k) ⊎ (k + length m ≤ i)

inside_or_outside : (k : ℕ) (m : List ℕ) (i : ℕ) → ((j : ℕ) × ((j < length m) × (k + j ≡ i))) ⊎ Outside k m i
inside_or_outside k m i =
    elim (dec_lt i k) [
      | yes h ↦ inr (inl h)
      | no h ↦ elim (dec_lt i (k + length m)) [
        | yes g ↦ inl (i - k, (omega arith, omega arith))
        | no g ↦ inr (inr (omega arith))
      ]
    ]

-- what has the octets m from k on, and elsewhere those of l, is l with m written over
over_is : (l : List ℕ) (k : ℕ) (m n : List ℕ) → k + length m ≤ length l → length n ≡ length l
    → ((j : ℕ) → j < length m → get_or n (k + j) 0 ≡ get_or m j 0) → ((i : ℕ) → Outside k m i → get_or n i 0 ≡ get_or l i 0) → n ≡ over l k m
over_is l k m n fits long here there =
    ext_get_or 0 n (over l k m) (long ∙ sym (length_over l k m fits)) (λ i _. by i (inside_or_outside k m i))
  where
    by : (i : ℕ) → ((j : ℕ) × ((j < length m) × (k + j ≡ i))) ⊎ Outside k m i → get_or n i 0 ≡ get_or (over l k m) i 0
    by i (inl q) = rw (← q.1.1) (here q.0 q.1.0 ∙ sym (over_at l k m fits q.0 q.1.0))
    by i (inr o) = there i o ∙ sym (over_other l k m fits i o)

over_apart : (l : List ℕ) (k : ℕ) (m : List ℕ) (j : ℕ) (n : List ℕ) → k + length m ≤ j → j + length n ≤ length l
    → over (over l k m) j n ≡ over (over l j n) k m
over_apart l k m j n apart fits =
    over_is (over l j n) k m (over (over l k m) j n) (omega (arith, long_n)) (length_over (over l k m) j n fits_n ∙ long_m ∙ sym long_n)
    (λ i lt. over_other (over l k m) j n fits_n (k + i) (inl (omega arith)) ∙ over_at l k m fits_m i lt)
    (λ i o. by i o (inside_or_outside j n i))
  where
    fits_m : k + length m ≤ length l
    fits_m = omega arith

    long_m : length (over l k m) ≡ length l
    long_m = length_over l k m fits_m

    long_n : length (over l j n) ≡ length l
    long_n = length_over l j n fits

    fits_n : j + length n ≤ length (over l k m)
    fits_n = omega (arith, long_m)

    by : (i : ℕ) → Outside k m i → ((h : ℕ) × ((h < length n) × (j + h ≡ i))) ⊎ Outside j n i → get_or (over (over l k m) j n) i 0 ≡ get_or (over l j n) i 0
    by i o (inl q) = rw (← q.1.1) (over_at (over l k m) j n fits_n q.0 q.1.0 ∙ sym (over_at l j n fits q.0 q.1.0))
    by i o (inr p) = over_other (over l k m) j n fits_n i p ∙ over_other l k m fits_m i o ∙ sym (over_other l j n fits i p)

set-over : (l : List ℕ) (k : ℕ) (m : List ℕ) (j x : ℕ) → k + length m ≤ length l → j < length l → Outside k m j
    → set (over l k m) j x ≡ over (set l j x) k m
set-over l k m j x fits there out =
    over_is (set l j x) k m (set (over l k m) j x) (omega (arith, long)) (length-set (over l k m) j x ∙ length_over l k m fits ∙ sym long)
    (λ i lt. get_or-set_other (over l k m) j (k + i) x 0 (inside i lt out) ∙ over_at l k m fits i lt)
    (λ i o. by i o (ℕ_discrete i j))
  where
    long : length (set l j x) ≡ length l
    long = length-set l j x

    inside : (i : ℕ) → i < length m → Outside k m j → k + i ≡ j → ⊥
    inside i lt (inl h) e = omega arith
    inside i lt (inr h) e = omega arith

    by : (i : ℕ) → Outside k m i → Dec (i ≡ j) → get_or (set (over l k m) j x) i 0 ≡ get_or (set l j x) i 0
    by i o (yes e) = rw e (get_or-set_same (over l k m) j x 0 (omega (arith, length_over l k m fits)) ∙ sym (get_or-set_same l j x 0 there))
    by i o (no ne) = get_or-set_other (over l k m) j i x 0 ne ∙ over_other l k m fits i o ∙ sym (get_or-set_other l j i x 0 ne)

-- what is written over need not be set before
over-set : (l : List ℕ) (k : ℕ) (m : List ℕ) (x : ℕ) → k + length m ≤ length l → 0 < length m → over (set l k x) k m ≡ over l k m
over-set l k m x fits some =
    over_is l k m (over (set l k x) k m) fits (length_over (set l k x) k m fits_set ∙ length-set l k x)
    (λ i lt. over_at (set l k x) k m fits_set i lt)
    (λ i o. over_other (set l k x) k m fits_set i o ∙ get_or-set_other l k i x 0 (elsewhere i o))
  where
    fits_set : k + length m ≤ length (set l k x)
    fits_set = omega (arith, length-set l k x)

    elsewhere : (i : ℕ) → Outside k m i → i ≡ k → ⊥
    elsewhere i (inl h) e = omega arith
    elsewhere i (inr h) e = omega arith

-- ---- two takings

-- whether a telegram is taken depends on the store's length alone
alike : (s s' : List ℕ) (v : ℕ) (t : List ℕ) → length s' ≡ length s → Takes s v t → Takes s' v t
alike s s' v t e g = record {
  whole = e ∙ g.whole;
  first = g.first;
  last = g.last;
  application = g.application;
  typed = g.typed;
  long = g.long;
}

taken_or_refused : (s : List ℕ) (v now : ℕ) (t : List ℕ) → (Takes s v t) ⊎ (Takes s v t → ⊥)
taken_or_refused s v now t = by (taking s v now t) refl
  where
    by : (a : Answer (List ℕ)) → taking s v now t ≡ a → (Takes s v t) ⊎ (Takes s v t → ⊥)
    by (gives new) e = inl (takes s v now t new e).0
    by (refused n at) e = inr (λ g. never_both (taking s v now t) _ n at (takes_it s v now t g) e)

step_takes : (s : List ℕ) (v now : ℕ) (t : List ℕ) → Takes s v t → step s (offer v now t) ≡ taken s v now t
step_takes s v now t g = ap (after s) (takes_it s v now t g)

step_refused : (s : List ℕ) (v now : ℕ) (t : List ℕ) → (Takes s v t → ⊥) → step s (offer v now t) ≡ s
step_refused s v now t never = by (taking s v now t) refl
  where
    by : (a : Answer (List ℕ)) → taking s v now t ≡ a → after s a ≡ s
    by (gives new) e = absurd (never (takes s v now t new e).0)
    by (refused n at) e = refl

short : {s : List ℕ} {v : ℕ} {t : List ℕ} → Takes s v t → length t ≤ telegram_octets
short {s} {v} {t} g = omega (arith, g.long, type_short (telegram_type t))

pub long_taken : (s : List ℕ) (v now : ℕ) (t : List ℕ) → Takes s v t → length (taken s v now t) ≡ length s
long_taken s v now t g = length_taken s v now t g.whole g.first g.last (short g)

forget_if : {A : Type 0} (b : Bool) (n at : ℕ) (x y : Answer A) → forget x ≡ forget y → forget (refuse_if b n at x) ≡ forget (refuse_if b n at y)
unfolding refuse_if
forget_if true n at x y e = refl
forget_if false n at x y e = e

-- taken, or refused and by which number: the same of any two stores of one length
pub same_refusal : (s s' : List ℕ) (v now : ℕ) (t : List ℕ) → length s' ≡ length s → forget (taking s' v now t) ≡ forget (taking s v now t)
unfolding taking
same_refusal s s' v now t e =
    let done : forget (gives (taken s' v now t)) ≡ forget (gives (taken s v now t)) = refl in
    rw e
    (forget_if _ 5 0 _ _ (forget_if _ 6 0 _ _ (forget_if _ 7 0 _ _ (forget_if _ 8 0 _ _ (forget_if _ 9 0 _ _ (forget_if _ 10 0 _ _ done))))))

module _ (store : List ℕ) (v now : ℕ) (t : List ℕ) (w later : ℕ) (u : List ℕ) (apart : v ≡ w → ⊥) where
  abbrev one : List ℕ
  one = slot_to now (moved (slot_of store v)) t

  abbrev two : List ℕ
  two = slot_to later (moved (slot_of store w)) u

  -- the second slot's stamp, which moves, is that of the store before either
  both_taken : Takes store v t → Takes store w u → taken (taken store v now t) w later u ≡ taken (taken store w later u) v now t
  unfolding taken
  both_taken a b =
      ap (λ (s : Slot). over (taken store v now t) (slot_start w) (slot_to later (moved s) u))
      (slot_other store v now t a.whole a.first a.last (short a) w b.first apart)
      ∙ swapped (dec_lt v w)
      ∙ sym
      (ap (λ (s : Slot). over (taken store w later u) (slot_start v) (slot_to now (moved s) t))
      (slot_other store w later u b.whole b.first b.last (short b) v a.first (λ e. apart (sym e))))
    where
      long_one : length one ≡ slot_octets
      long_one = length_slot now (moved (slot_of store v)) t (short a)

      long_two : length two ≡ slot_octets
      long_two = length_slot later (moved (slot_of store w)) u (short b)

      swapped : Dec (v < w) → over (over store (slot_start v) one) (slot_start w) two ≡ over (over store (slot_start w) two) (slot_start v) one
      swapped (yes h) = over_apart store (slot_start v) one (slot_start w) two (omega (arith, long_one)) (omega (arith, long_two, a.whole, b.last))
      swapped (no h) =
          sym (over_apart store (slot_start w) two (slot_start v) one (omega (arith, long_two, a.first, b.first)) (omega (arith, long_one, a.whole, a.last)))

  -- "leaves the same store in either order, whether either is refused or not"
  pub either_order : step (step store (offer v now t)) (offer w later u) ≡ step (step store (offer w later u)) (offer v now t)
  either_order = by (taken_or_refused store v now t) (taken_or_refused store w later u)
    where
      then_w : {s : List ℕ} → step store (offer v now t) ≡ s → step (step store (offer v now t)) (offer w later u) ≡ step s (offer w later u)
      then_w e = ap (λ (s : List ℕ). step s (offer w later u)) e

      then_v : {s : List ℕ} → step store (offer w later u) ≡ s → step (step store (offer w later u)) (offer v now t) ≡ step s (offer v now t)
      then_v e = ap (λ (s : List ℕ). step s (offer v now t)) e

      by : (Takes store v t) ⊎ (Takes store v t → ⊥) → (Takes store w u) ⊎ (Takes store w u → ⊥)
          → step (step store (offer v now t)) (offer w later u) ≡ step (step store (offer w later u)) (offer v now t)
      by (inl a) (inl b) =
          then_w (step_takes store v now t a)
          ∙ step_takes _ w later u (alike store _ w u (long_taken store v now t a) b)
          ∙ both_taken a b
          ∙ sym (step_takes _ v now t (alike store _ v t (long_taken store w later u b) a))
          ∙ sym (then_v (step_takes store w later u b))
      by (inl a) (inr b) =
          then_w (step_takes store v now t a)
          ∙ step_refused _ w later u (λ g. b (alike _ store w u (sym (long_taken store v now t a)) g))
          ∙ sym (step_takes store v now t a)
          ∙ sym (then_v (step_refused store w later u b))
      by (inr a) (inl b) =
          then_w (step_refused store v now t a)
          ∙ step_takes store w later u b
          ∙ sym (step_refused _ v now t (λ g. a (alike _ store v t (sym (long_taken store w later u b)) g)))
          ∙ sym (then_v (step_takes store w later u b))
      by (inr a) (inr b) =
          then_w (step_refused store v now t a)
          ∙ step_refused store w later u b
          ∙ sym (step_refused store v now t a)
          ∙ sym (then_v (step_refused store w later u b))

  -- and each is answered the same, first or second
  pub same_answer : forget (taking (step store (offer w later u)) v now t) ≡ forget (taking store v now t)
  same_answer = same_refusal store (step store (offer w later u)) v now t (length_step store (offer w later u))

-- ---- any sequence of takings

-- what a taking answers does not depend on what came before
pub answered_alike : (store : List ℕ) (steps : List Step) (v now : ℕ) (t : List ℕ) → forget (taking (run store steps) v now t) ≡ forget (taking store v now t)
answered_alike store steps v now t = same_refusal store (run store steps) v now t (length_run store steps)

own_append : (v : ℕ) (a b : List Arrival) → own v (a ++ b) ≡ own v a ++ own v b
unfolding own
own_append v [] b = refl
own_append v (x ∷ a) b = by (eqb x.vehicle v) (own_append v a b)
  where
    by : (is : Bool) → own v (a ++ b) ≡ own v a ++ own v b → cond is (x ∷ own v (a ++ b)) (own v (a ++ b)) ≡ cond is (x ∷ own v a) (own v a) ++ own v b
    by true e = ap (λ (l : List Arrival). x ∷ l) e
    by false e = e

some_none : {A : Type 0} (x : A) (l : List A) → x ∷ l ≡ [] → ⊥
some_none x l e = let n : suc (length l) ≡ 0 = ap length e in omega arith

-- an arrival that none of its vehicle comes before may come first
to_front : (before : List Arrival) (a : Arrival) (behind : List Arrival) (store : List ℕ) → own a.vehicle before ≡ []
    → arrived store (before ++ (a ∷ behind)) ≡ arrived store (a ∷ (before ++ behind))
unfolding run own
to_front [] a behind store none = refl
to_front (b ∷ before) a behind store none =
    by (eqb b.vehicle a.vehicle) refl none (to_front before a behind (step store (offered b)))
  where
    by : (is : Bool) → eqb b.vehicle a.vehicle ≡ is → cond is (b ∷ own a.vehicle before) (own a.vehicle before) ≡ []
        → (own a.vehicle before ≡ [] → arrived (step store (offered b)) (before ++ (a ∷ behind)) ≡ arrived (step store (offered b)) (a ∷ (before ++ behind)))
        → arrived (step store (offered b)) (before ++ (a ∷ behind)) ≡ arrived (step (step store (offered a)) (offered b)) (before ++ behind)
    by true e some front = absurd (some_none b _ some)
    by false e rest front =
        front rest
        ∙ ap (λ (s : List ℕ). arrived s (before ++ behind))
        (either_order store b.vehicle b.clock b.telegram a.vehicle a.clock a.telegram (eqb-false _ _ e))

-- where the first arrival of vehicle v stands
record FirstOwn (v : ℕ) (a : Arrival) (rest all : List Arrival) : Type 0 where
  before : List Arrival
  behind : List Arrival
  parts : before ++ (a ∷ behind) ≡ all
  none : own v before ≡ []
  left : own v behind ≡ rest

first_own : (v : ℕ) (a : Arrival) (rest all : List Arrival) → own v all ≡ a ∷ rest → FirstOwn v a rest all
unfolding own
first_own v a rest [] e = absurd (some_none a rest (sym e))
first_own v a rest (b ∷ all) e = by (eqb b.vehicle v) refl e (first_own v a rest all)
  where
    by : (is : Bool) → eqb b.vehicle v ≡ is → cond is (b ∷ own v all) (own v all) ≡ a ∷ rest → (own v all ≡ a ∷ rest → FirstOwn v a rest all)
        → FirstOwn v a rest (b ∷ all)
    by true q h later =
        let one : b ≡ a = ap (λ (l : List Arrival). get_or l 0 b) h in
        record { before = []; behind = all; parts = ap (λ (x : Arrival). x ∷ all) (sym one); none = refl; left = ap (drop 1) h }
    by false q h later =
        let f = later h in
        record { before = b ∷ f.before; behind = f.behind; parts = ap (λ (l : List Arrival). b ∷ l) f.parts; none = rw q f.none; left = f.left }

nobody : (all : List Arrival) → ((v : ℕ) → own v all ≡ []) → [] ≡ all
unfolding own
nobody [] none = refl
nobody (a ∷ all) none = absurd (some_none a (own a.vehicle all) (rw (eq-eqb a.vehicle a.vehicle refl) at (none a.vehicle)))

-- any sequence of takings may be reordered as long as the order within each vehicle stays
pub any_order : (one two : List Arrival) → ((v : ℕ) → own v one ≡ own v two) → (store : List ℕ) → arrived store one ≡ arrived store two
unfolding run own
any_order [] two same store = ap (arrived store) (nobody two (λ v. sym (same v)))
any_order (a ∷ one) two same store =
    any_order one (f.before ++ f.behind) still (step store (offered a))
    ∙ sym (to_front f.before a f.behind store f.none)
    ∙ ap (arrived store) f.parts
  where
    first_is : own a.vehicle (a ∷ one) ≡ a ∷ own a.vehicle one
    first_is = rw (eq-eqb a.vehicle a.vehicle refl) refl

    f : FirstOwn a.vehicle a (own a.vehicle one) two
    f = first_own a.vehicle a (own a.vehicle one) two (sym (same a.vehicle) ∙ first_is)

    of : (w : ℕ) → Dec (a.vehicle ≡ w) → own w one ≡ own w (f.before ++ f.behind)
    of w (yes e) =
        rw (← e) (sym f.left ∙ ap (λ (l : List Arrival). l ++ own a.vehicle f.behind) (sym f.none) ∙ sym (own_append a.vehicle f.before f.behind))
    of w (no ne) =
        let skips : (l : List Arrival) → own w (a ∷ l) ≡ own w l = λ l. rw (ne_eqb a.vehicle w ne) refl in
        sym (skips one)
        ∙ same w
        ∙ ap (own w) (sym f.parts)
        ∙ own_append w f.before (a ∷ f.behind)
        ∙ ap (λ (l : List Arrival). own w f.before ++ l) (skips f.behind)
        ∙ sym (own_append w f.before f.behind)

    still : (w : ℕ) → own w one ≡ own w (f.before ++ f.behind)
    still w = of w (ℕ_discrete a.vehicle w)

-- ---- a taking and a sweep

module _ (v c : ℕ) (t s : List ℕ) (g : Takes s v t) where
  long_slot : length (slot_to c (moved (slot_of s v)) t) ≡ slot_octets
  long_slot = length_slot c (moved (slot_of s v)) t (short g)

  fits_slot : slot_start v + length (slot_to c (moved (slot_of s v)) t) ≤ length s
  fits_slot = omega (arith, long_slot, g.whole, g.first, g.last)

  -- another vehicle's heard octet may be set before or behind
  set_taken : (w : ℕ) → 1 ≤ w → w ≤ vehicles → (v ≡ w → ⊥) → set (taken s v c t) (slot_start w) 2 ≡ taken (set s (slot_start w) 2) v c t
  unfolding taken
  set_taken w first last apart =
      set-over s (slot_start v) (slot_to c (moved (slot_of s v)) t) (slot_start w) 2 fits_slot (omega (arith, g.whole)) (side (dec_lt w v))
      ∙ ap (λ (o : Slot). over (set s (slot_start w) 2) (slot_start v) (slot_to c (moved o) t)) (sym (set_other s w 2 first v g.first (λ e. apart (sym e))))
    where
      side : Dec (w < v) → Outside (slot_start v) (slot_to c (moved (slot_of s v)) t) (slot_start w)
      side (yes h) = inl (omega (arith, first))
      side (no h) = inr (omega (arith, long_slot, g.first))

  -- its own is written anew, with the same stamp moved
  taken_aged : (now : ℕ) → taken (swept_one s now v) v c t ≡ taken s v c t
  unfolding taken swept_one
  taken_aged now =
      ap (λ (n : ℕ). over (swept_one s now v) (slot_start v) (slot_to c n t))
      (ap moved (slot_one s now v g.first (omega (arith, g.whole, g.first, g.last))) ∙ moved_aged (slot_of s v) now)
      ∙ by (stale (slot_of s v) now)
    where
      by : (is : Bool) → over (cond is (set s (slot_start v) 2) s) (slot_start v) (slot_to c (moved (slot_of s v)) t)
          ≡ over s (slot_start v) (slot_to c (moved (slot_of s v)) t)
      by true = over-set s (slot_start v) (slot_to c (moved (slot_of s v)) t) 2 fits_slot (omega (arith, long_slot))
      by false = refl

module _ (v c : ℕ) (t : List ℕ) (now : ℕ) (clock : c < turn) (young : ltb longest_limit (age now c) ≡ false) where
  one_past : (s : List ℕ) (w : ℕ) → Takes s v t → 1 ≤ w → w ≤ vehicles → Dec (v ≡ w) → swept_one (taken s v c t) now w ≡ taken (swept_one s now w) v c t
  unfolding swept_one stale
  one_past s w g first last (yes e) = rw (← e) (fresh ∙ sym (taken_aged v c t s g now))
    where
      fresh : swept_one (taken s v c t) now v ≡ taken s v c t
      fresh = rw (slot_after s v c t g clock, young) refl
  one_past s w g first last (no apart) =
      rw (slot_other s v c t g.whole g.first g.last (short g) w first apart) (by (stale (slot_of s w) now))
    where
      by : (is : Bool) → cond is (set (taken s v c t) (slot_start w) 2) (taken s v c t) ≡ taken (cond is (set s (slot_start w) 2) s) v c t
      by true = set_taken v c t s g w first last apart
      by false = refl

  swept_past : (s : List ℕ) (n : ℕ) → Takes s v t → n ≤ vehicles → swept_to (taken s v c t) now n ≡ taken (swept_to s now n) v c t
  unfolding swept_to
  swept_past s zero g h = refl
  swept_past s (suc n) g h =
      ap (λ (x : List ℕ). swept_one x now (suc n)) (swept_past s n g (omega arith))
      ∙ one_past (swept_to s now n) (suc n) (alike s _ v t (length_swept s now n) g) (omega arith) h (ℕ_discrete v (suc n))

-- a taking at c and a sweep at `now` leave the same store in either order exactly if the telegram is not over the longest limit then
pub sweep_order : (store : List ℕ) (v c : ℕ) (t : List ℕ) (now : ℕ) → c < turn → Takes store v t
    → (step (step store (offer v c t)) (sweep now) ≡ step (step store (sweep now)) (offer v c t)) ↔ (ltb longest_limit (age now c) ≡ false)
unfolding stale
sweep_order store v c t now clock g = (
  λ e. needed (ltb longest_limit (age now c)) refl e,
  λ young. first_taken ∙ swept_past v c t now clock young store vehicles g (omega arith) ∙ sym first_swept,
)
  where
    whole_taken : length (taken store v c t) ≡ store_octets
    whole_taken = long_taken store v c t g ∙ g.whole

    first_taken : step (step store (offer v c t)) (sweep now) ≡ swept (taken store v c t) now
    first_taken = ap (λ (s : List ℕ). step s (sweep now)) (step_takes store v c t g) ∙ ap (after _) (sweeps_it (taken store v c t) now whole_taken)

    then_takes : Takes (swept store now) v t
    then_takes = alike store _ v t (length_swept store now vehicles) g

    first_swept : step (step store (sweep now)) (offer v c t) ≡ taken (swept store now) v c t
    first_swept = ap (λ (s : List ℕ). step s (offer v c t)) (ap (after store) (sweeps_it store now g.whole)) ∙ step_takes (swept store now) v c t then_takes

    is : ltb longest_limit (age now c) ≡ true
        → (aged (record { heard = 1; stamp = c; previous = moved (slot_of store v) % turn; telegram = padded t }) now).heard ≡ 2
    is old = rw old refl

    marked : ltb longest_limit (age now c) ≡ true → (slot_of (swept (taken store v c t) now) v).heard ≡ 2
    marked old = rw (slot_swept (taken store v c t) now whole_taken v g.first g.last, slot_after store v c t g clock) (is old)

    needed : (old : Bool) → ltb longest_limit (age now c) ≡ old → step (step store (offer v c t)) (sweep now) ≡ step (step store (sweep now)) (offer v c t) → old ≡ false
    needed false q e = refl
    needed true q e =
        let same : swept (taken store v c t) now ≡ taken (swept store now) v c t = sym first_taken ∙ e ∙ first_swept in
        let one : (slot_of (taken (swept store now) v c t) v).heard ≡ 1 = heard_taken (swept store now) v c t then_takes.whole g.first g.last (short g) in
        let two = marked q in
        let heards : (slot_of (swept (taken store v c t) now) v).heard ≡ (slot_of (taken (swept store now) v c t) v).heard = ap (λ (s : List ℕ). (slot_of s v).heard) same in
        absurd (omega arith)

-- and where the telegram is refused, in either order
pub sweep_order_refused : (store : List ℕ) (v c : ℕ) (t : List ℕ) (now : ℕ) → (Takes store v t → ⊥)
    → step (step store (offer v c t)) (sweep now) ≡ step (step store (sweep now)) (offer v c t)
sweep_order_refused store v c t now never =
    ap (λ (s : List ℕ). step s (sweep now)) (step_refused store v c t never)
    ∙ sym (step_refused (step store (sweep now)) v c t (λ g. never (alike _ store v t (sym (length_step store (sweep now))) g)))

-- 600,000 ms behind it a sweep may change places with a taking, 600,001 ms behind it not
pub in_time_to_sweep : (ltb longest_limit (age 600000 0) ≡ false) × (ltb longest_limit (age 600001 0) ≡ true)
unfolding age
in_time_to_sweep = (refl, refl)
