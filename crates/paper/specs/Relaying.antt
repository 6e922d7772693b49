-- Request C-24, "An old gateway in the middle": a gateway that reads a telegram under its own list and composes it anew, the premises of what is said of
-- it, and what a last reader may be given behind it.
use Rattle.std.specs.Prelude.{ℕ, suc, ◌≤◌, ◌<◌, ◌≡◌, Bool, true, false, not, cond, ◌&&◌, ◌||◌, List, get_or, leb, eqb}
use Rattle.paper.specs.Octets.{field}
use Rattle.paper.specs.Answer.{Answer, gives, refuse_if}
use Rattle.paper.specs.First.{all, some, listed}
use Rattle.paper.specs.Telegrams.{telegram_type, carries, error, forced, mark_width}
use Rattle.paper.specs.SignalList.{SignalList, Counts, judge, list_of, knows, under_list}
use Rattle.paper.specs.Extends.{same, extends}
use Rattle.paper.specs.Store.{Slot, slot_of, is_store, is_vehicle, taking, taken, turn, age, in_time}
use Rattle.paper.specs.Reading.{Reading, heard, reading_of, reading_at}
use Rattle.paper.specs.Composing.{composed, composing_by, composing}
use Rattle.paper.specs.Demands.{Step, run, NoneLater, NoneExpired, given_mark, Shared}

-- ---- What the gateway in the middle composes

-- "the same telegram type": a slot that was never heard has none, and 0 is no type's number
unfoldable pub relay_type : Slot → ℕ
relay_type slot = cond (heard slot) (telegram_type slot.telegram) 0

-- signal k was "read live": reason 0 or 1
unfoldable pub read_live : SignalList → Slot → ℕ → ℕ → Bool
read_live l slot now k = leb (reading_of l slot now k).reason 1

-- signal k is under check j, counted from 0, and "the type carries" it
unfoldable pub under : SignalList → ℕ → ℕ → ℕ → Bool
under l type j k = carries type (l.signal k).type && eqb (l.signal k).check (suc j)

-- each signal under check j that the type carries was read live
unfoldable pub all_live : SignalList → Slot → ℕ → ℕ → Bool
all_live l slot now j = all (λ k. not (under l (relay_type slot) j k) || read_live l slot now k) l.signals

-- and there is one
unfoldable pub vouched : SignalList → Slot → ℕ → ℕ → Bool
vouched l slot now j = some (under l (relay_type slot) j) l.signals && all_live l slot now j

-- "error for a check if any signal under it that the type carries could not be read live, or if the type carries none under it, and otherwise the
-- mark it read"
unfoldable pub relay_mark : SignalList → Slot → ℕ → ℕ → ℕ
relay_mark l slot now j = cond (vouched l slot now j) (field slot.telegram (l.check j) mark_width) error

-- each value as it was read, the replacement where it is not live
unfoldable pub relay_value : SignalList → Slot → ℕ → ℕ → ℕ
relay_value l slot now k = (reading_of l slot now k).value

-- one value per signal and one mark per check, in list order
abbrev pub relay_values : SignalList → Slot → ℕ → List ℕ
relay_values l slot now = listed (relay_value l slot now) l.signals

abbrev pub relay_marks : SignalList → Slot → ℕ → List ℕ
relay_marks l slot now = listed (relay_mark l slot now) l.checks

abbrev pub relayed : SignalList → Slot → ℕ → List ℕ
relayed l slot now = composed l (relay_type slot) (relay_values l slot now) (relay_marks l slot now)

-- "reads under list A and composes the same telegram type anew", into an output of `room` octets: 1-4, 5 and 6, then those of composing
abbrev pub relaying_by : List ℕ → ℕ → ℕ → ℕ → SignalList → Answer (List ℕ)
relaying_by store now v room l =
    let slot = slot_of store v in
    refuse_if (not (is_store store)) 5 0
    (refuse_if (not (is_vehicle v)) 6 0
    (composing_by (relay_type slot) (relay_values l slot now) (relay_marks l slot now) room l))

unfoldable pub relaying : ℕ → List ℕ → List ℕ → ℕ → ℕ → ℕ → Answer (List ℕ)
relaying form xs store now v room = under_list form xs (relaying_by store now v room)

-- ---- The premises

-- "every signal of A has a check"
abbrev pub AllChecked : SignalList → Type 0
AllChecked l = (k : ℕ) → k < l.signals → (l.signal k).check ≡ 0 → ⊥

-- "every replacement in A is a code known to A"
abbrev pub ReplacementsKnown : SignalList → Type 0
ReplacementsKnown l = (k : ℕ) → k < l.signals → knows l k (l.signal k).replacement ≡ true

-- a telegram of vehicle v was taken at the clock value `stamp`, and no later one from that vehicle
pub record Last (v stamp : ℕ) (telegram store : List ℕ) : Type 0 where
  pub before : List ℕ
  pub steps : List Step
  pub clock : stamp < turn
  pub took : taking before v stamp telegram ≡ gives (taken before v stamp telegram)
  pub later : NoneLater v (taken before v stamp telegram) steps
  pub reached : run (taken before v stamp telegram) steps ≡ store

-- "a gateway that reads under list A", here xs, "for a reader under list C", here ys, "where C extends A"; "the first telegram was composed under C" and
-- is the last that was taken in the middle. What is past its limit there, or expired with one, is relayed as error: no time limit is asked for, and no sweep excluded
pub record Middle (form : ℕ) (xs : List ℕ) (m : Counts) (form' : ℕ) (ys : List ℕ) (n : Counts) (type : ℕ) (values marks : List ℕ) (v stamp : ℕ) (store : List ℕ)
    : Type 0 where
  pub inner : judge form xs ≡ gives m
  pub outer : judge form' ys ≡ gives n
  pub extending : extends (list_of xs m) (list_of ys n) ≡ true
  pub checked : AllChecked (list_of xs m)
  pub room : ℕ
  pub first : List ℕ
  pub sent : composing form' ys type values marks room ≡ gives first
  pub last : Last v stamp first store

-- all that the request asks for before the middle relays. `known` is needed only that composing there is not refused; `unexpired` and `within` for nothing
pub record Requested (form : ℕ) (xs : List ℕ) (m : Counts) (form' : ℕ) (ys : List ℕ) (n : Counts) (type : ℕ) (values marks : List ℕ) (v stamp now : ℕ)
    (store : List ℕ) : Type 0 where
  pub middle : Middle form xs m form' ys n type values marks v stamp store
  pub known : ReplacementsKnown (list_of xs m)
  pub unexpired : NoneExpired v (taken middle.last.before v stamp middle.first) middle.last.steps
  pub within : (i : ℕ) → i < m.signals → in_time (age now stamp) ((list_of xs m).signal i).limit ≡ true

-- ---- What the last reader may be given

-- "every signal of A that the type carries under that check was live in the middle": the check of signal i
abbrev pub LiveThere : SignalList → ℕ → List ℕ → ℕ → ℕ → ℕ → Type 0
LiveThere a type store now v i =
    (h : ℕ) → h < a.signals → carries type (a.signal h).type ≡ true → (a.signal h).check ≡ (a.signal i).check
    → (reading_at a store now v h).reason ≤ 1

-- of its signal k: "the value first written", with the mark's reason, "or its own replacement with reason 6"; "for signals only in C .. reason 4 or 5",
-- and 4 for one of A that the type doesn't carry
pub data Behind (a c : SignalList) (type : ℕ) (values marks store : List ℕ) (now v k : ℕ) : Reading → Type 0 where
  live_through : (i : ℕ) → Shared a c type i k → LiveThere a type store now v i
      → Behind a c type values marks store now v k (record { value = get_or values k 0; reason = cond (eqb (given_mark marks (c.signal k)) forced) 1 0 })
  cut_off : (i : ℕ) → Shared a c type i k → (LiveThere a type store now v i → ⊥)
      → Behind a c type values marks store now v k (record { value = (c.signal k).replacement; reason = 6 })
  not_carried : carries type (c.signal k).type ≡ false
      → Behind a c type values marks store now v k (record { value = (c.signal k).replacement; reason = 4 })
  only_outer : carries type (c.signal k).type ≡ true → ((i : ℕ) → i < a.signals → same (a.signal i) (c.signal k) ≡ true → ⊥)
      → Behind a c type values marks store now v k (record { value = (c.signal k).replacement; reason = 5 })
