-- Document 01, "Store, age and reading": reading one signal.
use Rattle.std.specs.Prelude.{ℕ, ◌≤◌, ◌<◌, ◌≡◌, ◌⊎◌, Bool, true, false, not, cond, ◌&&◌, ◌||◌, List, [], ◌∷◌, length, ltb, leb, eqb}
use Rattle.paper.specs.Octets.{field}
use Rattle.paper.specs.Answer.{Answer, gives, refuse_if}
use Rattle.paper.specs.First.{first_of}
use Rattle.paper.specs.Telegrams.{application_type, telegram_type, is_type, version_of, carries, error, ok, forced, undefined, mark_width}
use Rattle.paper.specs.SignalList.{Signal, SignalList, Counts, judge, list_of, under_list, knows, place_of}
use Rattle.paper.specs.Store.{vehicles, store_octets, Slot, slot_of, is_store, is_vehicle, age, expired, timely}

-- "Reading gives a value and a reason."
pub record Reading : Type 0 where
  pub value : ℕ
  pub reason : ℕ

-- "(1 = heard, all else not)"; "never heard (also a stored head with application type other than 1 or type not 1-3)".
-- C-12: an expired slot was heard
unfoldable pub heard : Slot → Bool
heard s = (eqb s.heard 1 || expired s) && eqb (application_type s.telegram) 1 && is_type (telegram_type s.telegram)

-- what a vehicle's slot says of its telegram: type, version and age; nothing (0) where it was never heard. The age of one that is expired
-- is none (0): the clock may have come round since
pub record Held : Type 0 where
  pub heard : Bool
  pub expired : Bool
  pub type : ℕ
  pub version : ℕ
  pub age : ℕ

unfoldable pub held_in : Slot → ℕ → Held
held_in s now =
    cond (heard s)
    (record {
      heard = true;
      expired = expired s;
      type = telegram_type s.telegram;
      version = version_of s.telegram;
      age = cond (expired s) 0 (age now s.stamp);
    })
    (record { heard = false; expired = false; type = 0; version = 0; age = 0 })

-- 5, 6
unfoldable pub holding : List ℕ → ℕ → ℕ → Answer Held
holding store now v = refuse_if (not (is_store store)) 5 0 (refuse_if (not (is_vehicle v)) 6 0 (gives (held_in (slot_of store v) now)))

-- the mark over a signal in a telegram; where there is no check it counts as ok
unfoldable pub mark_of : SignalList → Signal → List ℕ → ℕ
mark_of l s telegram = cond (eqb s.check 0) ok (field telegram (place_of l s) mark_width)

-- the code in a signal's own field
unfoldable pub code_of : Signal → List ℕ → ℕ
code_of s telegram = field telegram s.start s.width

-- the tests of the reasons 2 to 8, in the paper's order
unfoldable pub hindrances : SignalList → Slot → ℕ → ℕ → List Bool
hindrances l slot now k =
    let s = l.signal k in
    let t = slot.telegram in
    not (heard slot)  -- 2 never heard
    ∷ not (timely slot now s.limit)  -- 3 too old
    ∷ not (carries (telegram_type t) s.type)  -- 4 type does not carry it
    ∷ ltb (version_of t) s.since  -- 5 since-version above the telegram's
    ∷ eqb (mark_of l s t) error  -- 6 mark error
    ∷ eqb (mark_of l s t) undefined  -- 7 mark undefined
    ∷ not (knows l k (code_of s t))  -- 8 code not known
    ∷ []

-- "The first that applies, from 2 upward .. else 0 live ok (also where there is no check) or 1 live forced."
unfoldable pub reason_of : SignalList → Slot → ℕ → ℕ → ℕ
reason_of l slot now k = first_of 2 (hindrances l slot now k) (cond (eqb (mark_of l (l.signal k) slot.telegram) forced) 1 0)

-- "with 2 to 8 the value is the replacement"
unfoldable pub reading_of : SignalList → Slot → ℕ → ℕ → Reading
reading_of l slot now k =
    record {
      value = cond (leb 2 (reason_of l slot now k)) (l.signal k).replacement (code_of (l.signal k) slot.telegram);
      reason = reason_of l slot now k;
    }

-- signal k of vehicle v
unfoldable pub reading_at : SignalList → List ℕ → ℕ → ℕ → ℕ → Reading
reading_at l store now v k = reading_of l (slot_of store v) now k

-- 1-4, then 5, 6, 11
abbrev pub reading_by : List ℕ → ℕ → ℕ → ℕ → SignalList → Answer Reading
reading_by store now v k l =
    refuse_if (not (is_store store)) 5 0
    (refuse_if (not (is_vehicle v)) 6 0
    (refuse_if (not (ltb k l.signals)) 11 0
    (gives (reading_at l store now v k))))

unfoldable pub reading : ℕ → List ℕ → List ℕ → ℕ → ℕ → ℕ → Answer Reading
reading form xs store now v k = under_list form xs (reading_by store now v k)

-- ---- What is said of readings

-- "A value is live exactly when its telegram was heard, is within its time limit, carries the signal and is new enough, its mark, if it
-- has a check, is ok or forced, and the code is known."
pub record Live (l : SignalList) (slot : Slot) (now k : ℕ) : Type 0 where
  pub heard_from : heard slot ≡ true
  pub in_time_lem : timely slot now (l.signal k).limit ≡ true
  pub carried : carries (telegram_type slot.telegram) (l.signal k).type ≡ true
  pub new_enough : (l.signal k).since ≤ version_of slot.telegram
  pub mark : (mark_of l (l.signal k) slot.telegram ≡ ok) ⊎ (mark_of l (l.signal k) slot.telegram ≡ forced)
  pub known : knows l k (code_of (l.signal k) slot.telegram) ≡ true

-- what a reading that is not refused tells
pub record Reads (form : ℕ) (xs store : List ℕ) (now v k : ℕ) (r : Reading) : Type 0 where
  pub counts : Counts
  pub accepted : judge form xs ≡ gives counts
  pub whole : length store ≡ store_octets
  pub first : 1 ≤ v
  pub last : v ≤ vehicles
  pub there : k < counts.signals
  pub is : reading_of (list_of xs counts) (slot_of store v) now k ≡ r
