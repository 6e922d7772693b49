-- Document 01, "Store, age and reading": the store, its slots, taking a telegram, and age. Document 02, C-12: the sweep;
-- C-16: the stamp before, and the gap.
use Rattle.std.specs.Prelude.{ℕ, zero, suc, ◌+◌, ◌-◌, ◌*◌, ◌%◌, ◌≤◌, ◌≡◌, Bool, true, not, cond, ◌&&◌, ◌||◌, List, ◌∷◌, ◌++◌, length, get_or, set, take, drop, replicate, ltb, leb, eqb}
use Rattle.paper.specs.Octets.{number, octets_of, over}
use Rattle.paper.specs.Answer.{Answer, gives, refuse_if}
use Rattle.paper.specs.Telegrams.{application_type, telegram_type, is_type, type_length}
use Rattle.paper.specs.SignalList.{longest_limit}

-- "The store is 8,379 octets: 63 slots of 133, vehicle 1 first." C-16: "a slot has 137 octets and the store 8,631"
abbrev pub vehicles : ℕ
vehicles = 63

abbrev pub telegram_octets : ℕ
telegram_octets = 128

abbrev pub slot_head : ℕ
slot_head = 9

abbrev pub slot_octets : ℕ
slot_octets = slot_head + telegram_octets

abbrev pub store_octets : ℕ
store_octets = vehicles * slot_octets

abbrev pub is_store : List ℕ → Bool
is_store store = eqb (length store) store_octets

abbrev pub is_vehicle : ℕ → Bool
is_vehicle v = leb 1 v && leb v vehicles

-- "A slot is a heard octet (1 = heard, all else not), a 4-octet stamp and 128 telegram octets." C-12: "heard octet 2, meaning expired". C-16: "a
-- 4-octet previous stamp after the stamp"
pub record Slot : Type 0 where
  pub heard : ℕ
  pub stamp : ℕ
  pub previous : ℕ
  pub telegram : List ℕ

abbrev pub slot_start : ℕ → ℕ
slot_start v = slot_octets * (v - 1)

-- the layout of a slot stands here alone: what its octets say, and the octets that say it
abbrev pub slot_from : List ℕ → Slot
slot_from octets = record { heard = get_or octets 0 0; stamp = number octets 1 4; previous = number octets 5 4; telegram = drop slot_head octets }

abbrev pub slot_to : ℕ → ℕ → List ℕ → List ℕ
slot_to now previous telegram =
    1 ∷ (octets_of 4 now ++ (octets_of 4 previous ++ (telegram ++ replicate (telegram_octets - length telegram) 0)))

unfoldable pub slot_of : List ℕ → ℕ → Slot
slot_of store v = slot_from (take slot_octets (drop (slot_start v) store))

-- C-16: "a slot with heard octet 1 or 2", whatever its telegram's head
abbrev pub ever_heard : Slot → Bool
ever_heard s = eqb s.heard 1 || eqb s.heard 2

-- C-16: "Taking a telegram into" such a slot "moves its stamp there; into any other it writes 0"
abbrev pub moved : Slot → ℕ
moved s = cond (ever_heard s) s.stamp 0

-- "Taking a telegram writes its whole slot (R3 is followed by 88 zeros) and no other octet of the store."
unfoldable pub taken : List ℕ → ℕ → ℕ → List ℕ → List ℕ
taken store v now telegram = over store (slot_start v) (slot_to now (moved (slot_of store v)) telegram)

-- 5, 6, 7, 8, 9 and 10, the lowest that applies; else the store afterwards
unfoldable pub taking : List ℕ → ℕ → ℕ → List ℕ → Answer (List ℕ)
taking store v now telegram =
    refuse_if (not (is_store store)) 5 0
    (refuse_if (not (is_vehicle v)) 6 0
    (refuse_if (ltb (length telegram) 2) 7 0
    (refuse_if (not (eqb (application_type telegram) 1)) 8 0
    (refuse_if (not (is_type (telegram_type telegram))) 9 0
    (refuse_if (not (eqb (length telegram) (type_length (telegram_type telegram)))) 10 0
    (gives (taken store v now telegram)))))))

-- what a telegram that is taken meets
pub record Takes (store : List ℕ) (v : ℕ) (telegram : List ℕ) : Type 0 where
  pub whole : length store ≡ store_octets
  pub first : 1 ≤ v
  pub last : v ≤ vehicles
  pub application : application_type telegram ≡ 1
  pub typed : is_type (telegram_type telegram) ≡ true
  pub long : length telegram ≡ type_length (telegram_type telegram)

-- "The age is now less stamp, modulo 4,294,967,296."
abbrev pub turn : ℕ
turn = 4294967296

unfoldable pub age : ℕ → ℕ → ℕ
age now stamp = (now + turn - stamp) % turn

-- C-16: "A read of the gap gives stamp less previous stamp, modulo 4,294,967,296. For any other heard octet the gap is 0."
unfoldable pub gap : Slot → ℕ
gap s = cond (ever_heard s) (age s.stamp s.previous) 0

-- 5, then 6; else the gap of vehicle v
unfoldable pub gapping : List ℕ → ℕ → Answer ℕ
gapping store v = refuse_if (not (is_store store)) 5 0 (refuse_if (not (is_vehicle v)) 6 0 (gives (gap (slot_of store v))))

-- "Within the limit means age ≤ limit, or limit 0."
abbrev pub in_time : ℕ → ℕ → Bool
in_time old limit = leb old limit || eqb limit 0

-- ---- C-12: sweeping

-- "a heard slot whose age is above 600,000 ms", the longest limit that a list may set: heard octet 1 and no other, whatever the telegram's head
unfoldable pub stale : Slot → ℕ → Bool
stale s now = eqb s.heard 1 && ltb longest_limit (age now s.stamp)

-- "gets heard octet 2, meaning expired": the slot of vehicle v, of the vehicles 1 to n, of all
unfoldable pub swept_one : List ℕ → ℕ → ℕ → List ℕ
swept_one store now v = cond (stale (slot_of store v) now) (set store (slot_start v) 2) store

unfoldable pub swept_to : List ℕ → ℕ → ℕ → List ℕ
swept_to store now zero = store
swept_to store now (suc n) = swept_one (swept_to store now n) now (suc n)

abbrev pub swept : List ℕ → ℕ → List ℕ
swept store now = swept_to store now vehicles

-- "Refusals: 5." Else the store afterwards
unfoldable pub sweeping : List ℕ → ℕ → Answer (List ℕ)
sweeping store now = refuse_if (not (is_store store)) 5 0 (gives (swept store now))

abbrev pub expired : Slot → Bool
expired s = eqb s.heard 2

-- not too old: "For an expired slot, signals with a limit are too old (reason 3) and signals with none read as before."
abbrev pub timely : Slot → ℕ → ℕ → Bool
timely s now limit = (not (expired s) || eqb limit 0) && in_time (age now s.stamp) limit
