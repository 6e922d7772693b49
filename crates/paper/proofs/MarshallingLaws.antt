-- Marshalled data: each destination field holds its reading, every other bit is as before, and a field routed from one vehicle depends
-- on no other vehicle's slot. Assumes nothing.
use Prim.Native.Nat.{ℕ, ◌*◌, ◌^◌, ◌≤◌, ◌<◌}
use mathlib.Core.Path.{◌≡◌, refl, sym, ap, ◌∙◌}
use mathlib.Core.Logic.{inr, ◌↔◌}
use mathlib.Core.Bool.{Bool, true, false, cond}
use mathlib.Core.List.{List}
use lib.ListN.{length}
use lib.Dec.{ltb, leb}
use borrow.Author.Tests.{ltb-false, le-ltb, leb-true, le-leb, eqb-true, eq-eqb, not-false}
use Rattle.paper.specs.Octets.{bit, field}
use Rattle.paper.specs.Answer.{gives, refuse_if}
use Rattle.paper.specs.First.{count}
use Rattle.paper.specs.SignalList.{SignalList, Counts, route_end, judge, list_of}
use Rattle.paper.specs.Store.{store_octets, Slot, slot_of}
use Rattle.paper.specs.Reading.{Reading, code_of, reason_of, reading_of, reading_at, Live}
use Rattle.paper.specs.Marshalling.{routed, route_put, marshalled, live, Marshalled, marshalling, Marshals}
use Rattle.paper.proofs.AnswerLaws.{not_refused, and_then_lem, gives_one}
use Rattle.paper.proofs.FirstLaws.{some_none, some_false}
use Rattle.paper.proofs.FieldLaws.{field_lt}
use Rattle.paper.proofs.PutsLaws.{bit_puts_other, field_puts}
use Rattle.paper.specs.Accepted.{Kept}
use Rattle.paper.proofs.ListLaws.{kept, routes_apart}
use Rattle.paper.proofs.ReadingLaws.{isolation, live_exactly}

-- a reading fits its signal's width, live or replaced
pub reading_fits : (l : SignalList) → Kept l → (slot : Slot) (now k : ℕ) → k < l.signals → (reading_of l slot now k).value < 2 ^ (l.signal k).width
unfolding reading_of code_of
reading_fits l h slot now k lt = by (leb 2 (reason_of l slot now k))
  where
    by : (b : Bool) → cond b (l.signal k).replacement (field slot.telegram (l.signal k).start (l.signal k).width) < 2 ^ (l.signal k).width
    by true = (h.signal k lt).fits
    by false = field_lt slot.telegram (l.signal k).start (l.signal k).width

module _ (l : SignalList) (h : Kept l) (store : List ℕ) (now : ℕ) (bus : List ℕ) where
  -- "changes no other bit"
  pub outside_routes : (a : ℕ)
      → ((r : ℕ) → r < l.routes → (l.route r).start ≤ a → a < route_end l.signal (l.route r) → ⊥)
      → bit (marshalled l store now bus l.routes) a ≡ bit bus a
  unfolding marshalled
  outside_routes a out = bit_puts_other (route_put l store now) bus l.routes a (λ r lt w. out r lt)

  -- "writes each route's value into its destination field": every route's, the last as the first
  pub each_route : ((r : ℕ) → r < l.routes → route_end l.signal (l.route r) ≤ 8 * length bus) → (r : ℕ) → r < l.routes
      → field (marshalled l store now bus l.routes) (l.route r).start (l.signal (l.route r).signal).width ≡ (routed l store now r).value
  unfolding marshalled routed reading_at
  each_route fits r lt =
      field_puts (route_put l store now) bus l.routes r lt refl (fits r lt)
      (reading_fits l h (slot_of store (l.route r).vehicle) now (l.route r).signal (h.route r lt).exists)
      (λ j a b _. inr (routes_apart l h r j a b))

pub marshals : (form : ℕ) (xs store : List ℕ) (now : ℕ) (bus : List ℕ) (m : Marshalled) → marshalling form xs store now bus ≡ gives m → Marshals form xs store now bus m
unfolding marshalling
marshals form xs store now bus m e =
    let o = and_then_lem (judge form xs) _ m e in
    let l = list_of xs o.0 in
    let a = not_refused _ _ _ _ _ o.1.1 in
    let b = not_refused _ _ _ _ _ a.1 in
    let q = gives_one _ _ _ b.1 refl in
    record {
      counts = o.0;
      accepted = o.1.0;
      whole = eqb-true _ _ (not-false _ a.0);
      room = λ r lt. ltb-false _ _ (some_none (λ r. ltb (8 * length bus) (route_end l.signal (l.route r))) l.routes b.0 r lt);
      octets = ap (λ (x : Marshalled). x.octets) q;
      lives = ap (λ (x : Marshalled). x.lives) q;
    }

-- and what meets that is marshalled
pub marshals_it : (form : ℕ) (xs store : List ℕ) (now : ℕ) (bus : List ℕ) (n : Counts) → judge form xs ≡ gives n → length store ≡ store_octets
    → ((r : ℕ) → r < n.routes → route_end (list_of xs n).signal ((list_of xs n).route r) ≤ 8 * length bus)
    → let l = list_of xs n in marshalling form xs store now bus
    ≡ gives (record { octets = marshalled l store now bus n.routes; lives = count (live l store now) n.routes })
unfolding marshalling refuse_if
marshals_it form xs store now bus n accepted whole room =
    let l = list_of xs n in
    rw (
      accepted,
      eq-eqb _ _ whole,
      some_false (λ r. ltb (8 * length bus) (route_end l.signal (l.route r))) n.routes (λ r lt. le-ltb _ _ (room r lt)),
    )

-- "how many routes had reason 0 or 1": a route counts exactly when its value is live, ok or forced
pub counted_exactly : (l : SignalList) (store : List ℕ) (now r : ℕ)
    → (live l store now r ≡ true) ↔ Live l (slot_of store (l.route r).vehicle) now (l.route r).signal
unfolding live routed reading_at
counted_exactly l store now r =
    let x = live_exactly l (slot_of store (l.route r).vehicle) now (l.route r).signal in
    (λ e. x.0 (leb-true _ _ e), λ h. le-leb _ _ (x.1 h))

-- DEMAND 2 for marshalling: of every accepted call, each destination field holds its reading
pub destination : (form : ℕ) (xs store : List ℕ) (now : ℕ) (bus : List ℕ) (m : Marshalled) (h : Marshals form xs store now bus m)
    → let l = list_of xs h.counts in (r : ℕ) → r < l.routes
    → field m.octets (l.route r).start (l.signal (l.route r).signal).width ≡ (reading_at l store now (l.route r).vehicle (l.route r).signal).value
unfolding routed
destination form xs store now bus m h r lt =
    let l = list_of xs h.counts in
    rw h.octets (each_route l (kept form xs h.counts h.accepted) store now bus h.room r lt)

-- and every bit outside the routes is as before
pub other_bit : (form : ℕ) (xs store : List ℕ) (now : ℕ) (bus : List ℕ) (m : Marshalled) (h : Marshals form xs store now bus m)
    → let l = list_of xs h.counts in (a : ℕ)
    → ((r : ℕ) → r < l.routes → (l.route r).start ≤ a → a < route_end l.signal (l.route r) → ⊥) → bit m.octets a ≡ bit bus a
other_bit form xs store now bus m h a out =
    let l = list_of xs h.counts in
    rw h.octets (outside_routes l (kept form xs h.counts h.accepted) store now bus a out)

-- what a route reads, value and reason, depends on no other vehicle's slot
pub routed_alike : (l : SignalList) (store store' : List ℕ) (now r : ℕ) → slot_of store (l.route r).vehicle ≡ slot_of store' (l.route r).vehicle
    → routed l store now r ≡ routed l store' now r
unfolding routed
routed_alike l store store' now r e = isolation l store store' now (l.route r).vehicle (l.route r).signal e

-- "A field routed from one vehicle depends on no other vehicle's slot": of two stores that agree on that slot, whatever data went in
module _ (form : ℕ) (xs : List ℕ) (n : Counts) (accepted : judge form xs ≡ gives n) (now r : ℕ) (lt : r < n.routes) where
  -- the field of the route's destination, in the data afterwards
  arrived : (store bus : List ℕ) (m : Marshalled) → marshalling form xs store now bus ≡ gives m
      → let l = list_of xs n in field m.octets (l.route r).start (l.signal (l.route r).signal).width ≡ (routed l store now r).value
  unfolding routed
  arrived store bus m e =
      let h = marshals form xs store now bus m e in
      let q : h.counts ≡ n = gives_one (judge form xs) _ _ h.accepted accepted in
      rw q at (destination form xs store now bus m h r (rw q lt))

  pub no_other_slot : (store store' bus bus' : List ℕ) (m m' : Marshalled) → marshalling form xs store now bus ≡ gives m → marshalling form xs store' now bus' ≡ gives m'
      → let l = list_of xs n in slot_of store (l.route r).vehicle ≡ slot_of store' (l.route r).vehicle
      → field m.octets (l.route r).start (l.signal (l.route r).signal).width ≡ field m'.octets (l.route r).start (l.signal (l.route r).signal).width
  no_other_slot store store' bus bus' m m' e e' same =
      arrived store bus m e ∙ ap (λ (x : Reading). x.value) (routed_alike (list_of xs n) store store' now r same) ∙ sym (arrived store' bus' m' e')
