-- The states of checks, and the marks that come of them. Assumes nothing.
use Prim.Native.Nat.{ℕ, zero, suc, ◌+◌, ◌<◌, ◌≤◌}
use mathlib.Core.Path.{◌≡◌, refl, sym, ap, ◌∙◌}
use mathlib.Core.Bool.{Bool, true, false, not, cond, ◌&&◌, ◌||◌}
use mathlib.Core.List.{List}
use native.Mathlib.Omega.{arith}
use native.Mathlib.Decide.{ℕ_discrete}
use lib.ListN.{length, get_or, set, take, replicate, length-set}
use lib.Seq.{get_or-set_same, get_or-set_other}
use lib.Dec.{leb}
use borrow.Author.Tests.{eq-eqb, ne_eqb}
use Rattle.std.specs.Prelude.{Result}
use Rattle.paper.specs.Octets.{field}
use Rattle.paper.specs.First.{all, some, listed}
use Rattle.paper.specs.Telegrams.{carries, error, mark_width}
use Rattle.paper.specs.SignalList.{Signal, SignalList}
use Rattle.paper.specs.Store.{Slot, slot_of}
use Rattle.paper.specs.Reading.{reading_of, reading_at}
use Rattle.paper.specs.Readings.{values_at, reasons_at}
use Rattle.paper.specs.Relaying.{relay_type, read_live, under, all_live, vouched, relay_value, relay_mark, relay_marks}
use Rattle.paper.proofs.FirstLaws.{listed_at, listed_same, all_true, some_false, all_same, all_more, some_more}
use Rattle.refusals.specs.declared.Refusal.{Refusal}
use Rattle.refusals.specs.Outcome.{Written}
use Rattle.lists.specs.declared.accepted.AcceptedList.{AcceptedList}
use Rattle.lists.specs.Listed.{list_as}
use Rattle.reading.specs.Reading.{EachRead}
use Rattle.composing.specs.Composing.{composing_under}
use Rattle.composing.proofs.Laws.{listed_kept, tested_by}
use Rattle.relaying.specs.declared.State.{State}
use Rattle.relaying.specs.declared.State.TheVariants.{Nothing, Live, NotLive}
use Rattle.relaying.specs.Relaying.{state_with, Fresh, Noted, state_of, Stated, mark_by, MarkedBy, marks_from, relaying_slot}

-- a part of the room for states begins with nothing under any check
pub fresh_part : (n m : ℕ) → Fresh (take n (replicate m Nothing))
fresh_part zero m j = refl
fresh_part (suc n) zero j = refl
fresh_part (suc n) (suc m) zero = refl
fresh_part (suc n) (suc m) (suc j) = fresh_part n m j

-- ---- one signal

-- the check that it names exists
pub has_check : (l : AcceptedList) (k : ℕ) {s : Signal} → s ≡ (list_as l).signal k → k < l.counts.signals → s.check ≤ l.counts.checks
has_check l k is lt = rw is ((listed_kept l).signal k lt).named.exists

module _ (l : SignalList) (type : ℕ) (live : Bool) (k : ℕ) (old : List State) {s : Signal} (is : s ≡ l.signal k) where
  -- it is under no check
  noted_none : ((j : ℕ) → under l type j k ≡ false) → Noted l type live k old old
  noted_none h = record { long = refl; each = λ j lt. rw (h j) }

  pub noted_free : s.check ≡ 0 → Noted l type live k old old
  unfolding under
  noted_free e = noted_none (λ j. rw (← is, ne_eqb s.check (suc j) (λ q. absurd (omega arith))) (none (carries type s.type)))
    where
      none : (b : Bool) → (b && false) ≡ false
      none true = refl
      none false = refl

  pub noted_not : carries type s.type ≡ false → Noted l type live k old old
  unfolding under
  noted_not e = noted_none (λ j. rw (← is, e))

  -- it is under this one
  pub noted_under : (j : ℕ) (x : State) → carries type s.type ≡ true → s.check ≡ suc j → j < length old → x ≡ state_with (get_or old j Nothing) live
      → Noted l type live k old (set old j x)
  unfolding under
  noted_under j x carried named lt e = record {
    long = length-set old j x;
    each = λ i _. elim (ℕ_discrete j i) [
      | yes q ↦ rw (← q, ← is, carried, eq-eqb _ _ named) (get_or-set_same old j x Nothing lt ∙ e)
      | no ne ↦ rw (← is, carried, ne_eqb s.check (suc i) (λ q. ne (omega arith))) (get_or-set_other old j i x Nothing (λ q. ne (sym q)))
    ];
  }

-- ---- every signal

-- what one signal more makes of the state of a check: b is whether it is under it, and live whether it was read live
one_more : (a s b live : Bool) → cond b (state_with (cond a (cond s Live Nothing) NotLive) live) (cond a (cond s Live Nothing) NotLive)
    ≡ cond (a && (not b || live)) (cond (s || b) Live Nothing) NotLive
one_more true true true true = refl
one_more true true true false = refl
one_more true true false live = refl
one_more true false true true = refl
one_more true false true false = refl
one_more true false false live = refl
one_more false s true true = refl
one_more false s true false = refl
one_more false s false live = refl

-- signal i is not under check j, or was read live
abbrev passes : SignalList → ℕ → (ℕ → ℕ) → ℕ → ℕ → Bool
passes l type reason j i = not (under l type j i) || leb (reason i) 1

module _ (l : SignalList) (type : ℕ) (reasons : List ℕ) where
  abbrev test : ℕ → ℕ → Bool
  test = passes l type (λ i. get_or reasons i 0)

  pub state_none : (states : List State) → length states ≡ l.checks → Fresh states → Stated l type reasons 0 states
  state_none states h z = record { long = h; each = λ j lt. z j ∙ sym (none j) }
    where
      none : (j : ℕ) → state_of l type reasons 0 j ≡ Nothing
      none j = rw (all_true (test j) 0 (λ k h. absurd (omega arith)), some_false (under l type j) 0 (λ k h. absurd (omega arith)))

  pub state_more : (k : ℕ) (old new : List State) → Stated l type reasons k old → Noted l type (leb (get_or reasons k 0) 1) k old new
      → Stated l type reasons (k + 1) new
  state_more k old new s n = record { long = n.long ∙ s.long; each = λ j lt. n.each j lt ∙ rw (s.each j lt) (more j) }
    where
      more : (j : ℕ) → cond (under l type j k) (state_with (state_of l type reasons k j) (leb (get_or reasons k 0) 1)) (state_of l type reasons k j)
          ≡ state_of l type reasons (k + 1) j
      more j =
          rw (all_more (test j) k, some_more (under l type j) k)
          (one_more (all (test j) k) (some (under l type j) k) (under l type j k) (leb (get_or reasons k 0) 1))

-- ---- the marks that come of the states are the paper's

module _ (l : SignalList) (slot : Slot) (now : ℕ) (reasons : List ℕ) (is : reasons ≡ listed (λ k. (reading_of l slot now k).reason) l.signals) where
  vouches : (j : ℕ) (a s : Bool) → mark_by l slot.telegram (cond a (cond s Live Nothing) NotLive) j ≡ cond (s && a) (field slot.telegram (l.check j) mark_width) error
  vouches j true true = refl
  vouches j true false = refl
  vouches j false true = refl
  vouches j false false = refl

  read : (i : ℕ) → i < l.signals → get_or reasons i 0 ≡ (reading_of l slot now i).reason
  read i lt = rw is (listed_at (λ k. (reading_of l slot now k).reason) l.signals i lt)

  live : (j : ℕ) → all (test l (relay_type slot) reasons j) l.signals ≡ all_live l slot now j
  unfolding all_live read_live
  live j =
      all_same (test l (relay_type slot) reasons j) (passes l (relay_type slot) (λ i. (reading_of l slot now i).reason) j) l.signals
      (λ i lt. ap (λ (r : ℕ). not (under l (relay_type slot) j i) || leb r 1) (read i lt))

  each : (j : ℕ) → mark_by l slot.telegram (state_of l (relay_type slot) reasons l.signals j) j ≡ relay_mark l slot now j
  unfolding relay_mark vouched
  each j =
      vouches j (all (test l (relay_type slot) reasons j) l.signals) (some (under l (relay_type slot) j) l.signals)
      ∙ ap (λ (b : Bool). cond (some (under l (relay_type slot) j) l.signals && b) (field slot.telegram (l.check j) mark_width) error) (live j)

  pub marks_relayed : marks_from l slot reasons ≡ relay_marks l slot now
  marks_relayed =
      listed_same (λ j. mark_by l slot.telegram (state_of l (relay_type slot) reasons l.signals j) j) (relay_mark l slot now) l.checks (λ j lt. each j)

-- ---- the parts together

-- the marks that are written by those states are the marks of the slot
pub marked_from : (l : SignalList) (slot : Slot) (type : ℕ) (reasons telegram : List ℕ) (states : List State) (marks : List ℕ) → type ≡ relay_type slot → telegram ≡ slot.telegram
    → Stated l type reasons l.signals states → MarkedBy l telegram states marks → marks ≡ marks_from l slot reasons
marked_from l slot type reasons telegram states marks typed held s m = m ∙ rw (held, ← typed)
    (listed_same (λ j. mark_by l slot.telegram (get_or states j Nothing) j) (λ j. mark_by l slot.telegram (state_of l type reasons l.signals j) j) l.checks
    (λ j lt. ap (λ (state : State). mark_by l slot.telegram state j) (s.each j lt)))

-- and composing them with the values that were read is the paper's relaying
pub relayed_by : (l : SignalList) (store : List ℕ) (now v : ℕ) (slot : Slot) (type : ℕ) (values reasons marks : List ℕ) (room : ℕ) (old : List ℕ) (r : Result (Unit {0}) Refusal) (new : List ℕ)
    → EachRead l store now v values reasons → slot ≡ slot_of store v → type ≡ relay_type slot → marks ≡ marks_from l slot reasons
    → Written (composing_under l type values marks room) old r new → Written (relaying_slot l (slot_of store v) now room) old r new
unfolding reading_at relay_value values_at reasons_at
relayed_by l store now v slot type values reasons marks room old r new read is typed marked w =
    let m = rw is at marked in
    let e : composing_under l type values marks room ≡ relaying_slot l (slot_of store v) now room =
    sym (tested_by l type values marks room)
    ∙ rw (typed ∙ ap relay_type is, read.value, m ∙ marks_relayed l (slot_of store v) now reasons read.reason) in
    rw e at w
