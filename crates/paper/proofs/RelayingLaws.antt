-- Request C-24: what a last reader is given behind a gateway that reads under an older list and composes anew. Assumes nothing.
use Prim.Native.Nat.{ℕ, suc, ◌-◌, ◌^◌, ◌≤◌, ◌<◌}
use mathlib.Core.Path.{◌≡◌, refl, sym, ap, ◌∙◌}
use mathlib.Core.Logic.{◌↔◌, ◌⊎◌, inl, inr}
use mathlib.Core.Bool.{Bool, true, false, not, cond, ◌||◌, false≢true}
use mathlib.Core.List.{List}
use native.Mathlib.Omega.{arith}
use native.Mathlib.Decide.{dec_lt}
use lib.ListN.{length, get_or}
use lib.Dec.{leb, eqb}
use borrow.Author.Tests.{leb-true, le-leb, eqb-true, eq-eqb, ne_eqb}
use Rattle.bools.proofs.Tests.{both, other}
use Rattle.paper.specs.Octets.{field}
use Rattle.paper.specs.Answer.{gives, refuse_if}
use Rattle.paper.specs.First.{all, some}
use Rattle.paper.specs.Telegrams.{application_type, telegram_type, is_type, type_length, carries, error, ok, forced, mark_width}
use Rattle.paper.specs.SignalList.{SignalList, Counts, judge, list_of, knows}
use Rattle.paper.specs.Accepted.{Kept}
use Rattle.paper.specs.Extends.{same, extends, Keeps}
use Rattle.paper.specs.Store.{vehicles, store_octets, Slot, slot_of, ever_heard, taken, taking, Takes}
use Rattle.paper.specs.Reading.{Reading, heard, mark_of, code_of, reading_of, reading_at, reading, Live}
use Rattle.paper.specs.Composing.{composed, composing, Fitting}
use Rattle.paper.specs.Demands.{Standing, given_mark, delivered, withheld, Shared}
use Rattle.paper.specs.Relaying.{relay_type, read_live, under, all_live, vouched, relay_mark, relay_value, relay_values, relay_marks, relayed, relaying, ReplacementsKnown, Last, Middle, Requested, LiveThere, Behind, live_through, cut_off, not_carried, only_outer}
use Rattle.paper.proofs.AnswerLaws.{gives_one}
use Rattle.paper.proofs.FirstLaws.{length_listed, listed_at, all_at, all_true, some_true, some_false, some_none, some_at}
use Rattle.paper.proofs.FieldLaws.{field_lt}
use Rattle.paper.proofs.ListLaws.{kept, one_place}
use Rattle.paper.proofs.StoreLaws.{takes, padded, length_run}
use Rattle.paper.proofs.OrderLaws.{long_taken}
use Rattle.paper.proofs.GapLaws.{slot_after, ever_aged, left_run}
use Rattle.paper.proofs.ReadingLaws.{live_exactly, live_value, replaced_value}
use Rattle.paper.proofs.ExtendsLaws.{agree_back, extended, same_of}
use Rattle.paper.proofs.ComposingLaws.{composes_it}
use Rattle.paper.proofs.Demands.{placed_at, as_given, sent_application, sent_type, sent_code, sent_mark, fitted, is_composed, composed_taken, both_have, only_reader}

-- ---- composing in the middle

module _ (l : SignalList) (slot : Slot) (now : ℕ) where
  -- what is composed for a signal fits its field and is known: it was read live, or it is the replacement
  relay_value_fits : Kept l → ReplacementsKnown l → (k : ℕ) → k < l.signals
      → (relay_value l slot now k < 2 ^ (l.signal k).width) × (knows l k (relay_value l slot now k) ≡ true)
  unfolding relay_value code_of
  relay_value_fits h known k lt = by (dec_lt 1 (reading_of l slot now k).reason)
    where
      by : Dec (1 < (reading_of l slot now k).reason)
          → ((reading_of l slot now k).value < 2 ^ (l.signal k).width) × (knows l k (reading_of l slot now k).value ≡ true)
      by (yes r) = rw (replaced_value l slot now k r) ((h.signal k lt).fits, known k lt)
      by (no r) =
          let small : (reading_of l slot now k).reason ≤ 1 = omega arith in
          rw (live_value l slot now k small)
          (field_lt slot.telegram (l.signal k).start (l.signal k).width, ((live_exactly l slot now k).0 small).known)

  relay_mark_small : (j : ℕ) → relay_mark l slot now j < 4
  unfolding relay_mark
  relay_mark_small j = by (vouched l slot now j)
    where
      by : (b : Bool) → cond b (field slot.telegram (l.check j) mark_width) error < 4
      by true = field_lt slot.telegram (l.check j) 2
      by false = omega arith

  pub relay_fits : Kept l → ReplacementsKnown l → is_type (relay_type slot) ≡ true → Fitting l (relay_type slot) (relay_values l slot now) (relay_marks l slot now)
  relay_fits h known typed =
      record {
        typed = typed;
        valued = length_listed (relay_value l slot now) l.signals;
        marked = length_listed (relay_mark l slot now) l.checks;
        value = λ k lt w. rw (listed_at (relay_value l slot now) l.signals k lt) (relay_value_fits h known k lt);
        mark = λ j lt w. rw (listed_at (relay_mark l slot now) l.checks j lt) (relay_mark_small j);
      }

module _ (form : ℕ) (xs store : List ℕ) (now v room : ℕ) where
  -- relaying is composing of what was read, into the same output
  pub relay_composes : (n : Counts) → judge form xs ≡ gives n → length store ≡ store_octets → 1 ≤ v → v ≤ vehicles
      → let l = list_of xs n in
      let slot = slot_of store v in
      relaying form xs store now v room ≡ composing form xs (relay_type slot) (relay_values l slot now) (relay_marks l slot now) room
  unfolding relaying composing refuse_if
  relay_composes n e whole first last = rw (e, eq-eqb _ _ whole, le-leb _ _ first, le-leb _ _ last) refl

-- under a list all of whose replacements it knows, a gateway relays whatever it has heard, into an output of the type's length
pub relays_it : (form : ℕ) (xs store : List ℕ) (now v : ℕ) (n : Counts) → judge form xs ≡ gives n → length store ≡ store_octets → 1 ≤ v → v ≤ vehicles
    → ReplacementsKnown (list_of xs n) → is_type (relay_type (slot_of store v)) ≡ true
    → relaying form xs store now v (type_length (relay_type (slot_of store v))) ≡ gives (relayed (list_of xs n) (slot_of store v) now)
relays_it form xs store now v n e whole first last known typed =
    let l = list_of xs n in
    let slot = slot_of store v in
    relay_composes form xs store now v _ n e whole first last
    ∙ composes_it form xs n (relay_type slot) (relay_values l slot now) (relay_marks l slot now) _ e (relay_fits l slot now (kept form xs n e) known typed) refl

-- ---- the mark

-- the test in words: every signal under check j that the type carries was read live
pub all_live_lem : (l : SignalList) (slot : Slot) (now j : ℕ)
    → (all_live l slot now j ≡ true) ↔ ((k : ℕ) → k < l.signals → under l (relay_type slot) j k ≡ true → (reading_of l slot now k).reason ≤ 1)
unfolding all_live read_live
all_live_lem l slot now j = (
  λ e k lt u. leb-true _ _ (other _ _ (all_at _ l.signals e k lt) (ap not u)),
  λ h. all_true _ l.signals (λ k lt. by k (under l (relay_type slot) j k) (λ u. le-leb _ _ (h k lt u))),
)
  where
    by : (k : ℕ) (b : Bool) → (b ≡ true → leb (reading_of l slot now k).reason 1 ≡ true) → (not b || leb (reading_of l slot now k).reason 1) ≡ true
    by k true h = h refl
    by k false h = refl

module _ (l : SignalList) (slot : Slot) (now j : ℕ) where
  -- "or if the type carries none under it"
  pub mark_none : ((k : ℕ) → k < l.signals → under l (relay_type slot) j k ≡ false) → relay_mark l slot now j ≡ error
  unfolding relay_mark vouched
  mark_none none = rw (some_false (under l (relay_type slot) j) l.signals none)

  module _ (k : ℕ) (hk : k < l.signals) (its : under l (relay_type slot) j k ≡ true) where
    pub mark_any : relay_mark l slot now j ≡ cond (all_live l slot now j) (field slot.telegram (l.check j) mark_width) error
    unfolding relay_mark vouched
    mark_any = rw (some_true (under l (relay_type slot) j) l.signals k hk its)

    -- "if any signal under it that the type carries could not be read live"
    pub mark_lost : 2 ≤ (reading_of l slot now k).reason → relay_mark l slot now j ≡ error
    mark_lost bad = mark_any ∙ by (all_live l slot now j) refl
      where
        by : (b : Bool) → all_live l slot now j ≡ b → cond b (field slot.telegram (l.check j) mark_width) error ≡ error
        by true e = absurd (omega (arith, (all_live_lem l slot now j).0 e k hk its))
        by false e = refl

    -- "and otherwise the mark it read"
    pub mark_kept : all_live l slot now j ≡ true → relay_mark l slot now j ≡ field slot.telegram (l.check j) mark_width
    mark_kept e = mark_any ∙ rw e refl

-- ---- a telegram of C in a slot of the middle, whose list A has a signal that C keeps

-- the signal of A that is C's signal k, by type and start, is kept in it
kept_as_lem : (a c : SignalList) → Kept c → extends a c ≡ true → (i k : ℕ) → i < a.signals → k < c.signals → same (a.signal i) (c.signal k) ≡ true → Keeps a c i k
kept_as_lem a c kc e i k hi hk one =
    let w = (extended a c e).stands_in i hi in
    let g = w.1.1.agrees in
    let p = same_of (a.signal i) (c.signal k) one in
    let q : w.0 ≡ k = one_place c kc w.0 k w.1.0 hk (sym g.type ∙ p.0) (sym g.start ∙ p.1) in
    rw q at w.1.1

-- whenever it was heard, and expired since or not
module _ (a c : SignalList) (ka : Kept a) (kc : Kept c) (type : ℕ) (values marks : List ℕ) (fit : Fitting c type values marks) (slot : Slot) (now : ℕ)
    (ever : ever_heard slot ≡ true) (is : slot.telegram ≡ padded (composed c type values marks)) where
  got_type : relay_type slot ≡ type
  unfolding relay_type heard
  got_type =
      let t : telegram_type slot.telegram ≡ type = rw is (sent_type c kc type values marks fit) in
      let p : application_type slot.telegram ≡ 1 = rw is (sent_application c kc type values marks fit) in
      rw (ever, p, t, fit.typed) refl

  module _ (i k : ℕ) (hi : i < a.signals) (hk : k < c.signals) (one : Keeps a c i k) (carried : carries type (a.signal i).type ≡ true) where
    same_code : code_of (a.signal i) slot.telegram ≡ get_or values k 0
    same_code = rw is (sent_code c kc type values marks fit a k i hk (agree_back a c i k one.agrees) carried)

    same_mark : mark_of a (a.signal i) slot.telegram ≡ given_mark marks (c.signal k)
    same_mark = rw is (sent_mark c kc type values marks fit a k i hk (agree_back a c i k one.agrees) carried ka hi)

    -- read live in the middle: its value is the one first written, its mark the one first given, ok or forced, and C knows the code
    module _ (live : (reading_of a slot now i).reason ≤ 1) where
      is_live : Live a slot now i
      is_live = (live_exactly a slot now i).0 live

      same_value : relay_value a slot now i ≡ get_or values k 0
      unfolding relay_value
      same_value = live_value a slot now i live ∙ same_code

      given_good : (given_mark marks (c.signal k) ≡ ok) ⊎ (given_mark marks (c.signal k) ≡ forced)
      given_good = rw same_mark at is_live.mark

      known_after : knows c k (get_or values k 0) ≡ true
      known_after =
          one.codes (get_or values k 0) (rw one.agrees.width (fit.value k hk (rw (← one.agrees.type) carried)).0) (rw same_code at is_live.known)

    module _ (checked : (a.signal i).check ≡ 0 → ⊥) where
      abbrev its : ℕ
      its = (a.signal i).check - 1

      is_under : under a (relay_type slot) its i ≡ true
      unfolding under
      is_under = rw (got_type, carried) (eq-eqb (a.signal i).check (suc its) (omega arith))

      -- the mark that the middle gives for it
      given_behind : given_mark (relay_marks a slot now) (a.signal i) ≡ cond (all_live a slot now its) (field slot.telegram (a.check its) mark_width) error
      given_behind =
          let q : its < a.checks = omega (arith, (ka.signal i hi).named.exists) in
          rw (ne_eqb (a.signal i).check 0 checked, listed_at (relay_mark a slot now) a.checks its q)
          (mark_any a slot now its i hi is_under)

      read_mark : field slot.telegram (a.check its) mark_width ≡ mark_of a (a.signal i) slot.telegram
      unfolding mark_of
      read_mark = rw (ne_eqb (a.signal i).check 0 checked, placed_at a (a.signal i) checked)

      -- and what the last reader is given of it
      pub delivered_behind : delivered c k (given_mark (relay_marks a slot now) (a.signal i)) (get_or (relay_values a slot now) i 0)
          ≡ cond (all_live a slot now its)
          (record { value = get_or values k 0; reason = cond (eqb (given_mark marks (c.signal k)) forced) 1 0 })
          (record { value = (c.signal k).replacement; reason = 6 })
      delivered_behind = rw (given_behind, listed_at (relay_value a slot now) a.signals i hi) (by (all_live a slot now its) refl)
        where
          by : (b : Bool) → all_live a slot now its ≡ b
              → delivered c k (cond b (field slot.telegram (a.check its) mark_width) error) (relay_value a slot now i)
              ≡ cond b (record { value = get_or values k 0; reason = cond (eqb (given_mark marks (c.signal k)) forced) 1 0 })
              (record { value = (c.signal k).replacement; reason = 6 })
          by false e = refl
          by true e =
              let live : (reading_of a slot now i).reason ≤ 1 = (all_live_lem a slot now its).0 e i hi is_under in
              rw (read_mark, same_mark, same_value live) (as_given c k _ _ (given_good live) (known_after live))

-- ---- as calls

-- the last telegram that was taken stands in the slot, expired since or not
module _ (v stamp : ℕ) (telegram store : List ℕ) (h : Last v stamp telegram store) where
  took_it : Takes h.before v telegram
  took_it = (takes h.before v stamp telegram _ h.took).0

  pub last_telegram : (slot_of store v).telegram ≡ padded telegram
  last_telegram =
      rw (← h.reached)
      (left_run (λ (s : Slot). s.telegram) (λ s now. refl) v took_it.first took_it.last _ h.steps h.later
      ∙ ap (λ (s : Slot). s.telegram) (slot_after h.before v stamp telegram took_it h.clock))

  pub last_ever : ever_heard (slot_of store v) ≡ true
  last_ever =
      rw (← h.reached)
      (left_run ever_heard ever_aged v took_it.first took_it.last _ h.steps h.later
      ∙ ap ever_heard (slot_after h.before v stamp telegram took_it h.clock))

  pub last_whole : length store ≡ store_octets
  last_whole = rw (← h.reached) (length_run _ h.steps ∙ took_whole)
    where
      took_whole : length (taken h.before v stamp telegram) ≡ store_octets
      took_whole = long_taken h.before v stamp telegram took_it ∙ took_it.whole

module _ (form : ℕ) (xs : List ℕ) (m : Counts) (form' : ℕ) (ys : List ℕ) (n : Counts) (type : ℕ) (values marks : List ℕ) (v stamp now : ℕ) (store : List ℕ)
    (mid : Middle form xs m form' ys n type values marks v stamp store) where
  abbrev a : SignalList
  a = list_of xs m

  abbrev c : SignalList
  c = list_of ys n

  abbrev slot : Slot
  slot = slot_of store v

  ka : Kept (list_of xs m)
  ka = kept form xs m mid.inner

  kc : Kept (list_of ys n)
  kc = kept form' ys n mid.outer

  fits : Fitting (list_of ys n) type values marks
  fits = fitted form' ys type values marks mid.room mid.first mid.sent n mid.outer

  there : (slot_of store v).telegram ≡ padded (composed (list_of ys n) type values marks)
  there = rw (is_composed form' ys type values marks mid.room mid.first mid.sent n mid.outer) (last_telegram v stamp mid.first store mid.last)

  ever : ever_heard (slot_of store v) ≡ true
  ever = last_ever v stamp mid.first store mid.last

  pub there_type : relay_type (slot_of store v) ≡ type
  there_type = got_type a c ka kc type values marks fits slot now ever there

  whole : length store ≡ store_octets
  whole = last_whole v stamp mid.first store mid.last

  of_vehicle_lem : Takes mid.last.before v mid.first
  of_vehicle_lem = took_it v stamp mid.first store mid.last

  -- "for each signal of A that the type carries": the last reader has it, and the type carries it there too
  pub has_shared : (i : ℕ) → i < m.signals → carries type ((list_of xs m).signal i).type ≡ true
      → (k : ℕ) × ((k < n.signals) × Shared (list_of xs m) (list_of ys n) type i k)
  has_shared i hi carried =
      let w = (extended a c mid.extending).stands_in i hi in
      let g = w.1.1.agrees in (
        w.0,
        (
          w.1.0,
          record {
            there = hi;
            one = rw (eq-eqb (a.signal i).type (c.signal w.0).type g.type) (eq-eqb (a.signal i).start (c.signal w.0).start g.start);
            carried = rw (← g.type) carried;
          },
        ),
      )

  -- composing in the middle is never refused
  pub middle_relays : ReplacementsKnown (list_of xs m) → relaying form xs store now v (type_length type) ≡ gives (relayed (list_of xs m) (slot_of store v) now)
  middle_relays known =
      rw (← there_type)
      (relays_it form xs store now v m mid.inner whole of_vehicle_lem.first of_vehicle_lem.last known (rw there_type fits.typed))

  -- what the gateway in the middle tests is what the request says
  live_there : (i : ℕ) → i < m.signals → (all_live (list_of xs m) (slot_of store v) now (((list_of xs m).signal i).check - 1) ≡ true) ↔ LiveThere (list_of xs m) type store now v i
  unfolding under reading_at
  live_there i hi =
      let e : suc ((a.signal i).check - 1) ≡ (a.signal i).check = let z = mid.checked i hi in omega arith in
      let t = all_live_lem a slot now ((a.signal i).check - 1) in (
        λ all h lt carried same. t.0 all h lt (rw (there_type, carried) (eq-eqb (a.signal h).check (suc ((a.signal i).check - 1)) (same ∙ sym e))),
        λ live. t.1 (λ h lt u. let p = both _ _ (rw there_type at u) in live h lt p.0 (eqb-true (a.signal h).check (suc ((a.signal i).check - 1)) p.1 ∙ e)),
      )

  module _ (room : ℕ) (second : List ℕ) (sent_on : relaying form xs store now v room ≡ gives second) where
    resent : composing form xs type (relay_values (list_of xs m) (slot_of store v) now) (relay_marks (list_of xs m) (slot_of store v) now) room ≡ gives second
    resent = rw there_type at (sym (relay_composes form xs store now v room m mid.inner whole of_vehicle_lem.first of_vehicle_lem.last) ∙ sent_on)

    -- what the middle composed is taken by whoever has a whole store
    pub relayed_taken : (store' : List ℕ) (u stamp' : ℕ) → length store' ≡ store_octets → 1 ≤ u → u ≤ vehicles
        → taking store' u stamp' second ≡ gives (taken store' u stamp' second)
    relayed_taken = composed_taken form xs type (relay_values a slot now) (relay_marks a slot now) room second resent

    module _ (u stamp' now' k : ℕ) (store' : List ℕ) (hk : k < n.signals)
        (stands : Standing u stamp' now' ((list_of ys n).signal k).limit second store') where
      -- "for each signal of A that the type carries, the last reader gives the value first written or its own replacement with reason 6"
      pub behind_shared : (i : ℕ) → Shared (list_of xs m) (list_of ys n) type i k
          → reading form' ys store' now' u k
          ≡ gives (cond (all_live (list_of xs m) (slot_of store v) now (((list_of xs m).signal i).check - 1))
          (record { value = get_or values k 0; reason = cond (eqb (given_mark marks ((list_of ys n).signal k)) forced) 1 0 })
          (record { value = ((list_of ys n).signal k).replacement; reason = 6 }))
      behind_shared i s =
          let hi = s.there in
          both_have form xs type (relay_values a slot now) (relay_marks a slot now) room second resent m mid.inner
          form' ys n mid.outer u stamp' now' k store' hk stands (inl mid.extending) i hi s.one s.carried
          ∙ ap gives
          (delivered_behind a c ka kc type values marks fits slot now ever there i k hi hk
          (kept_as_lem a c kc mid.extending i k hi hk s.one) (rw (same_of (a.signal i) (c.signal k) s.one).0 s.carried) (mid.checked i hi))

      -- "Its reading is live exactly if every signal of A that the type carries under that check was live in the middle."
      pub behind_live : (i : ℕ) → Shared (list_of xs m) (list_of ys n) type i k → (given : Reading) → reading form' ys store' now' u k ≡ gives given
          → (given.reason ≤ 1) ↔ LiveThere (list_of xs m) type store now v i
      behind_live i s given e = by (all_live a slot now ((a.signal i).check - 1)) refl (gives_one _ _ _ (behind_shared i s) e)
        where
          low : (b : Bool) → cond b 1 0 ≤ 1
          low true = omega arith
          low false = omega arith

          by : (b : Bool) → all_live (list_of xs m) (slot_of store v) now (((list_of xs m).signal i).check - 1) ≡ b
              → cond b (record { value = get_or values k 0; reason = cond (eqb (given_mark marks ((list_of ys n).signal k)) forced) 1 0 })
              (record { value = ((list_of ys n).signal k).replacement; reason = 6 }) ≡ given
              → (given.reason ≤ 1) ↔ LiveThere (list_of xs m) type store now v i
          by true q r = (λ _. (live_there i s.there).0 q, λ _. rw (← r) (low (eqb (given_mark marks ((list_of ys n).signal k)) forced)))
          by false q r =
              (λ le. let z : 6 ≤ 1 = rw (← r) at le in absurd (omega arith), λ live. absurd (false≢true (sym q ∙ (live_there i s.there).1 live)))

      -- "For signals only in C it gives reason 4 or 5": 4 exactly where the type doesn't carry it; so it does for one of A
      pub behind_only : (carries type ((list_of ys n).signal k).type ≡ false) ⊎ ((i : ℕ) → i < m.signals → same ((list_of xs m).signal i) ((list_of ys n).signal k) ≡ true → ⊥)
          → reading form' ys store' now' u k ≡ gives (withheld (list_of ys n) type k)
      behind_only d =
          only_reader form xs type (relay_values a slot now) (relay_marks a slot now) room second resent m mid.inner
          form' ys n mid.outer u stamp' now' k store' hk stands (inl mid.extending) d

      -- all of it: of every signal of its list the last reader is given one of the readings that the request names, and never another
      pub behind_whole : (given : Reading) × ((Behind (list_of xs m) (list_of ys n) type values marks store now v k given) × (reading form' ys store' now' u k ≡ gives given))
      behind_whole = by (carries type (c.signal k).type) refl (some (λ i. same (a.signal i) (c.signal k)) a.signals) refl
        where
          replaced : (b : Bool) → carries type ((list_of ys n).signal k).type ≡ b → reading form' ys store' now' u k ≡ gives (withheld (list_of ys n) type k)
              → reading form' ys store' now' u k ≡ gives (record { value = ((list_of ys n).signal k).replacement; reason = cond b 5 4 })
          replaced b e q = q ∙ ap (λ (x : Bool). gives (record { value = ((list_of ys n).signal k).replacement; reason = cond x 5 4 })) e

          shared : (i : ℕ) → Shared (list_of xs m) (list_of ys n) type i k → (b : Bool) → all_live (list_of xs m) (slot_of store v) now (((list_of xs m).signal i).check - 1) ≡ b
              → (given : Reading) × ((Behind (list_of xs m) (list_of ys n) type values marks store now v k given) × (reading form' ys store' now' u k ≡ gives given))
          shared i s true q = (_, (live_through i s ((live_there i s.there).0 q), rw q at (behind_shared i s)))
          shared i s false q = (_, (cut_off i s (λ live. false≢true (sym q ∙ (live_there i s.there).1 live)), rw q at (behind_shared i s)))

          by : (b : Bool) → carries type ((list_of ys n).signal k).type ≡ b
              → (d : Bool) → some (λ i. same ((list_of xs m).signal i) ((list_of ys n).signal k)) m.signals ≡ d
              → (given : Reading) × ((Behind (list_of xs m) (list_of ys n) type values marks store now v k given) × (reading form' ys store' now' u k ≡ gives given))
          by false e d q = (_, (not_carried e, replaced false e (behind_only (inl e))))
          by true e false q =
              let none : (i : ℕ) → i < m.signals → same ((list_of xs m).signal i) ((list_of ys n).signal k) ≡ true → ⊥ =
              λ i hi s. false≢true (sym (some_none (λ i. same ((list_of xs m).signal i) ((list_of ys n).signal k)) m.signals q i hi) ∙ s) in
              (_, (only_outer e none, replaced true e (behind_only (inr none))))
          by true e true q =
              let t = some_at (λ i. same ((list_of xs m).signal i) ((list_of ys n).signal k)) m.signals q in
              shared t.0 (record { there = t.1.0; one = t.1.1; carried = e }) (all_live a slot now ((a.signal t.0).check - 1)) refl

-- as it is requested: the middle relays with no refusal, and whoever takes what it composed and reads it under C within C's limit is given one of the
-- readings that the request names
pub requested : (form : ℕ) (xs : List ℕ) (m : Counts) (form' : ℕ) (ys : List ℕ) (n : Counts) (type : ℕ) (values marks : List ℕ) (v stamp now : ℕ) (store : List ℕ)
    → Requested form xs m form' ys n type values marks v stamp now store
    → (second : List ℕ) × ((relaying form xs store now v (type_length type) ≡ gives second)
    × ((u stamp' now' k : ℕ) (store' : List ℕ) → k < n.signals → Standing u stamp' now' ((list_of ys n).signal k).limit second store'
    → (given : Reading) × ((Behind (list_of xs m) (list_of ys n) type values marks store now v k given) × (reading form' ys store' now' u k ≡ gives given))))
requested form xs m form' ys n type values marks v stamp now store h =
    let mid = h.middle in
    let e = middle_relays form xs m form' ys n type values marks v stamp now store mid h.known in (
      _,
      (
        e,
        λ u stamp' now' k store' hk stands.
            behind_whole form xs m form' ys n type values marks v stamp now store mid (type_length type) _ e u stamp' now' k store' hk stands,
      ),
    )
