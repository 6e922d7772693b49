-- The parts of a reading are the reading. Assumes nothing.
use Prim.Native.Nat.{ℕ, ◌+◌, ◌-◌, ◌*◌, ◌≤◌, ◌<◌}
use mathlib.Core.Path.{◌≡◌, refl, sym, ap, ap₂, subst, ◌∙◌}
use mathlib.Core.Bool.{Bool, true, false, not, ◌&&◌, cond}
use mathlib.Core.List.{List, [], ◌∷◌, ◌++◌, append_assoc}
use Rattle.std.specs.Prelude.{get_or, Result, Ok, Err}
use native.Mathlib.Nat.{mul-le-mul, mul-le-mul_right}
use native.Mathlib.Numerals.{add-one}
use native.Mathlib.Omega.{arith}
use native.Mathlib.Decide.{ℕ_discrete}
use lib.ListN.{length, take, drop, length-append}
use lib.Seq.{length-take-le, take-length, take_at}
use borrow.Rule.Slice.PartMut.{mid_of, put_mid, mid_len, same_len_mid}
use lib.Dec.{leb, eqb}
use borrow.Author.Tests.{lt-leb, leb-true, leb-false, le-leb, eq-eqb, ne_eqb, eqb-true, not-false}
use Rattle.bools.proofs.Tests.{both}
use Rattle.paper.specs.Answer.{Answer, gives, and_then}
use Rattle.paper.specs.First.{first_of}
use Rattle.paper.specs.Telegrams.{forced}
use Rattle.paper.specs.SignalList.{Signal, SignalList, Counts, field_end, list_of, place_of, knows, under_list}
use Rattle.paper.specs.Store.{Slot, telegram_octets, slot_octets, slot_start, slot_from, slot_of}
use Rattle.paper.specs.Reading.{Reading, hindrances, reason_of, reading_of, reading_at, mark_of, code_of}
use Rattle.paper.specs.Readings.{Readings, in_turn}
use Rattle.paper.proofs.FirstLaws.{first_front, first_back, first_low}
use Rattle.paper.specs.Accepted.{Laid, SignalKept}
use Rattle.paper.proofs.ListLaws.{kept_of}
use Rattle.refusals.specs.declared.Refusal.{Refusal}
use Rattle.refusals.specs.Refusal.{number_of, carried_of, refusal_of}
use Rattle.refusals.proofs.WrittenLaws.{HandedOn, handed_on, one_outcome, one_result}
use Rattle.lists.proofs.Laws.{under_accepted, under_refused}
use Rattle.octets.specs.Fields.{Within}
use Rattle.reading.specs.declared.reason.Reason.{Reason}
use Rattle.reading.specs.declared.reason.Reason.TheVariants as R
use Rattle.reading.specs.declared.Reading as code
use Rattle.reading.specs.Reason.{reason_number}
use Rattle.reading.specs.Reading.{as_reading, read_answer, slot_tests, mark_tests, telegram_reason, telegram_reading, ReadInto}

-- ---- a reading in its two parts

abbrev given : Signal → List ℕ → ℕ → Reading
given s telegram reason = record { value = cond (leb 2 reason) s.replacement (code_of s telegram); reason = reason }

module _ (l : SignalList) (slot : Slot) (now k : ℕ) where
  abbrev early : ℕ
  early = first_of 2 (slot_tests slot now (l.signal k)) 0

  abbrev mark : ℕ
  mark = mark_of l (l.signal k) slot.telegram

  abbrev known : Bool
  known = knows l k (code_of (l.signal k) slot.telegram)

  -- one of the reasons 2 to 5 applies
  pub slot_reading : (early ≡ 0 → ⊥) → ◌≡◌ {A = Reading} (record { value = (l.signal k).replacement; reason = early }) (reading_of l slot now k)
  unfolding reading_of reason_of hindrances
  slot_reading h =
      let e : reason_of l slot now k ≡ early =
      first_front 1 (slot_tests slot now (l.signal k)) (mark_tests mark known) (cond (eqb mark forced) 1 0) h in
      rw e (simp (le-leb 2 early (first_low 2 (slot_tests slot now (l.signal k)) h)))

  -- none does
  pub telegram_reads : early ≡ 0 → telegram_reading l slot.telegram k ≡ reading_of l slot now k
  unfolding reading_of reason_of hindrances telegram_reading
  telegram_reads h =
      let e : reason_of l slot now k ≡ telegram_reason mark known =
      first_back 1 (slot_tests slot now (l.signal k)) (mark_tests mark known) (cond (eqb mark forced) 1 0) h in
      ap (given (l.signal k) slot.telegram) (sym e)

-- what a vehicle's slot reads is what the vehicle reads
pub read_here : (l : SignalList) (store : List ℕ) (v now k : ℕ) {octets : List ℕ} {r : Reading} → octets ≡ take slot_octets (drop (slot_start v) store)
    → r ≡ reading_of l (slot_from octets) now k → r ≡ reading_at l store now v k
unfolding reading_at slot_of
read_here l store v now k is e = e ∙ ap (λ (x : List ℕ). reading_of l (slot_from x) now k) is

-- what the code puts together there: s is signal k, c the code in its field, r the reason
module _ (l : SignalList) (telegram : List ℕ) (k : ℕ) {c m r : ℕ} {s : Signal} {b : Bool} (is : s ≡ l.signal k) (field : c ≡ code_of s telegram)
    (knows_it : b ≡ knows l k c) (marked : m ≡ mark_of l s telegram) (reason : r ≡ telegram_reason m b) where
  put_together : (v : ℕ) → v ≡ cond (leb 2 r) s.replacement c → ◌≡◌ {A = Reading} (record { value = v; reason = r }) (telegram_reading l telegram k)
  unfolding telegram_reading
  put_together v e =
      let own : c ≡ code_of (l.signal k) telegram = field ∙ ap (λ (x : Signal). code_of x telegram) is in
      let told : r ≡ telegram_reason (mark_of l (l.signal k) telegram) (knows l k (code_of (l.signal k) telegram)) =
      reason ∙ ap₂ telegram_reason (marked ∙ ap (λ (x : Signal). mark_of l x telegram) is) (knows_it ∙ ap (knows l k) own) in
      ap (λ (x : ℕ). record { value = x; reason = r }) (e ∙ ap₂ (λ (x : Signal) (y : ℕ). cond (leb 2 r) x.replacement y) is own)
      ∙ ap (given (l.signal k) telegram) told

  pub telegram_live : leb r 1 ≡ true → ◌≡◌ {A = Reading} (record { value = c; reason = r }) (telegram_reading l telegram k)
  telegram_live h = put_together c (simp (lt-leb 2 r (omega (arith, leb-true r 1 h))))

  pub telegram_replaced : leb r 1 ≡ false → ◌≡◌ {A = Reading} (record { value = s.replacement; reason = r }) (telegram_reading l telegram k)
  telegram_replaced h = put_together s.replacement (simp (le-leb 2 r (leb-false r 1 h)))

-- ---- what an accepted list tells of a signal's field and mark

-- the place of a check that exists, or 0 for none
pub place_within : (xs : List ℕ) (n : Counts) (s : Signal) → Laid xs n → s.check ≤ n.checks → place_of (list_of xs n) s ≤ 1022
unfolding place_of
place_within xs n s h le = elim (ℕ_discrete s.check 0) [
  | yes e ↦ simp (eq-eqb _ 0 e) (omega arith)
  | no ne ↦ simp (ne_eqb _ 0 ne) ((kept_of xs n h).check (s.check - 1) (omega arith)).high
]

module _ (xs : List ℕ) (n : Counts) (k : ℕ) (telegram : List ℕ) (h : Laid xs n) (lt : k < n.signals) (whole : length telegram ≡ telegram_octets) where
  kept : SignalKept n.checks (list_of xs n).check (list_of xs n).signal k
  kept = (kept_of xs n h).signal k lt

  pub field_there : Within telegram ((list_of xs n).signal k).start ((list_of xs n).signal k).width
  field_there = record { some = kept.some; wide = omega (arith, kept.wide); inside = by (ℕ_discrete ((list_of xs n).signal k).type 0) }
    where
      by : Dec (((list_of xs n).signal k).type ≡ 0) → field_end ((list_of xs n).signal k) ≤ 8 * length telegram
      by (yes e) = omega (arith, (kept.placed.common e).1)
      by (no e) = omega (arith, (kept.placed.own e).1)

  pub check_there : ((list_of xs n).signal k).check ≤ n.checks
  check_there = kept.named.exists

-- ---- the contract settles the answer

in_order : List Reason
in_order =
    R.Live ∷ R.Forced ∷ R.NeverHeard ∷ R.TooOld ∷ R.NotCarried ∷ R.NewerThanTelegram ∷ R.MarkError ∷ R.MarkUndefined ∷ R.CodeUnknown ∷ []

-- the reason of a number
pub reason_numbered : ℕ → Reason
unfolding in_order
reason_numbered n = get_or in_order n R.Live

pub reason_numbered_of : (r : Reason) → reason_numbered (reason_number r) ≡ r
unfolding reason_numbered in_order
reason_numbered_of R.Live = refl
reason_numbered_of R.Forced = refl
reason_numbered_of R.NeverHeard = refl
reason_numbered_of R.TooOld = refl
reason_numbered_of R.NotCarried = refl
reason_numbered_of R.NewerThanTelegram = refl
reason_numbered_of R.MarkError = refl
reason_numbered_of R.MarkUndefined = refl
reason_numbered_of R.CodeUnknown = refl

read_back : Reading → code.Reading
read_back r = record { value = r.value; reason = reason_numbered r.reason }

read_back_of : (r : code.Reading) → read_back (as_reading r) ≡ r
unfolding read_back
read_back_of r = ap (λ (x : Reason). record { value = r.value; reason = x }) (reason_numbered_of r.reason)

pub one_read : (a : Answer Reading) (v w : Result code.Reading Refusal) → read_answer v ≡ a → read_answer w ≡ a → v ≡ w
one_read = one_result as_reading read_back read_back_of

-- ---- a call that writes values and reasons: a refusal, new ones, or what goes on from what a first part gave

pub into_refused : (f : Refusal) (a : Answer Readings) (values reasons : List ℕ) → refusal_of f ≡ a → ReadInto a values reasons (Err f) values reasons
into_refused f a values reasons e = record { outcome = rw (← e); value = rw (← e); reason = rw (← e) }

pub into_done : (a : Answer Readings) (values reasons : List ℕ) (r : Readings) → gives r ≡ a → ReadInto a values reasons (Ok tt) r.values r.reasons
into_done a values reasons r e = record { outcome = rw (← e); value = rw (← e); reason = rw (← e) }

pub into_on : {A : Type 0} (n : A) (a : Answer A) (k : A → Answer Readings) (values reasons : List ℕ) (o : Result (Unit {0}) Refusal) (values' reasons' : List ℕ)
    → gives n ≡ a → ReadInto (k n) values reasons o values' reasons' → ReadInto (and_then a k) values reasons o values' reasons'
into_on n a k values reasons o values' reasons' e w = rw (← e) w

-- the same of a call by a list, which judging refuses, or goes on with what is accepted
module _ (form : ℕ) (xs : List ℕ) (call : SignalList → Answer Readings) where
  pub into_list : {r : Result (Unit {0}) Refusal} (f : Refusal) (values reasons : List ℕ) → HandedOn r f → refusal_of f ≡ under_list form xs gives
      → ReadInto (under_list form xs call) values reasons r values reasons
  into_list {r} f values reasons h e =
      rw (handed_on r f h) (into_refused f _ values reasons (under_refused form xs call (number_of f) (carried_of f) e))

  pub into_listed : (l : SignalList) {values reasons : List ℕ} {o : Result (Unit {0}) Refusal} {values' reasons' : List ℕ} → gives l ≡ under_list form xs gives
      → ReadInto (call l) values reasons o values' reasons' → ReadInto (under_list form xs call) values reasons o values' reasons'
  into_listed l {values} {reasons} {o} {values'} {reasons'} e w =
      subst (λ (a : Answer Readings). ReadInto a values reasons o values' reasons') (under_accepted form xs call l (call l) e refl) w

-- any two outcomes that a contract admits are equal, and so is what they leave
pub one_into : (a : Answer Readings) (values reasons : List ℕ) (r s : Result (Unit {0}) Refusal) (v w x y : List ℕ)
    → ReadInto a values reasons r v x → ReadInto a values reasons s w y → (r ≡ s) × (v ≡ w) × (x ≡ y)
one_into a values reasons r s v w x y t u =
    (one_outcome _ r s t.outcome u.outcome, t.value ∙ sym u.value, t.reason ∙ sym u.reason)

-- ---- the test that both areas are as long as what is read

pub as_long : (values reasons many : ℕ) → not (eqb values many && eqb reasons many) ≡ false → (values ≡ many) × (reasons ≡ many)
as_long values reasons many e =
    let n = both (eqb values many) (eqb reasons many) (not-false _ e) in
    (eqb-true _ _ n.0, eqb-true _ _ n.1)

-- ---- a loop that fills an area with f 1, f 2, .. f last, each of n

-- the products stay small, and what is filled next lies inside
pub many_small : (v n : ℕ) → v ≤ 63 → n ≤ 256 → v * n ≤ 16128
many_small v n h g = mul-le-mul {n₂ = 63} {m₂ = 256} h g

pub turn_inside : (v last n : ℕ) → v < last → v * n + n ≤ last * n
turn_inside v last n h = omega (arith, mul-le-mul_right {m = v + 1} {n = last} n (omega arith))

turn_next : (f : ℕ → List ℕ) (v : ℕ) → in_turn f (v + 1) ≡ in_turn f v ++ f (v + 1)
unfolding in_turn
turn_next f v = rw add-one

-- it stands behind f v
pub record Turned (f : ℕ → List ℕ) (n last : ℕ) (xs : List ℕ) (v : ℕ) : Type 0 where
  pub within : v ≤ last
  pub long : length xs ≡ last * n
  pub each : take (v * n) xs ≡ in_turn f v

pub turned_none : (f : ℕ → List ℕ) (n last : ℕ) (xs : List ℕ) → length xs ≡ last * n → Turned f n last xs 0
unfolding in_turn
turned_none f n last xs h = record { within = omega arith; long = h; each = let e : 0 * n ≡ 0 = omega arith in rw e }

module _ {f : ℕ → List ℕ} {n last : ℕ} {xs : List ℕ} {v : ℕ} (t : Turned f n last xs v) where
  module _ (lt : v < last) where
    -- the part that is lent next
    pub lent_long : length (mid_of (v * n) (v * n + n - v * n) xs) ≡ n
    lent_long = mid_len (v * n) (v * n + n) xs (omega (arith, t.long, turn_inside v last n lt)) ∙ omega arith

    pub turned_more : (ys : List ℕ) → ys ≡ f (v + 1) → length (f (v + 1)) ≡ n → Turned f n last (put_mid (v * n) (v * n + n - v * n) xs ys) (v + 1)
    turned_more ys is size =
        let many : length ys ≡ n = ap (λ (l : List ℕ). length l) is ∙ size in
        let head : length (take (v * n) xs) ≡ v * n = length-take-le (v * n) xs (omega (arith, t.long, turn_inside v last n lt)) in
        record {
          within = omega arith;
          long = same_len_mid (v * n) (v * n + n - v * n) xs ys (many ∙ sym lent_long) ∙ t.long;
          each =
              ap (λ (l : List ℕ). take ((v + 1) * n) l) (sym (append_assoc (take (v * n) xs) ys _))
              ∙ take_at (take (v * n) xs ++ ys) _ ((v + 1) * n) (length-append (take (v * n) xs) ys ∙ omega (arith, head, many))
              ∙ ap₂ (λ (l m : List ℕ). l ++ m) t.each is
              ∙ sym (turn_next f v);
        }

  pub turned_all : last ≤ v → xs ≡ in_turn f last
  turned_all ge =
      let e : v ≡ last = omega (arith, t.within) in
      let all : v * n ≡ length xs = ap (λ (w : ℕ). w * n) e ∙ sym t.long in
      sym (take-length xs) ∙ ap (λ (k : ℕ). take k xs) (sym all) ∙ t.each ∙ ap (in_turn f) e
