-- The premises of the demands and of the true clock (C-12), each as one record over a sequence of steps, and what they name. What a demand
-- says is stated and proved in proofs/.
use Rattle.std.specs.Prelude.{ℕ, ◌+◌, ◌-◌, ◌%◌, ◌≤◌, ◌<◌, ◌≡◌, ◌⊎◌, true, false, not, cond, List, [], ◌∷◌, ◌++◌, map, get_or, leb, eqb}
use Rattle.paper.specs.Answer.{gives, refused, after}
use Rattle.paper.specs.First.{first_of}
use Rattle.paper.specs.Telegrams.{carries, error, ok, forced, undefined}
use Rattle.paper.specs.SignalList.{Signal, SignalList, knows}
use Rattle.paper.specs.Extends.{same}
use Rattle.paper.specs.Reading.{Reading}
use Rattle.paper.specs.Store.{vehicles, slot_of, taking, taken, turn, age, in_time, stale, sweeping}

-- what may happen to a store: a telegram is offered for a vehicle at a clock value, or the store is swept at one
pub data Step : Type 0 where
  offer : ℕ → ℕ → List ℕ → Step
  sweep : ℕ → Step

-- the store after a step: what is refused leaves it as it was
abbrev pub step : List ℕ → Step → List ℕ
step store (offer v now telegram) = after store (taking store v now telegram)
step store (sweep now) = after store (sweeping store now)

unfoldable pub run : List ℕ → List Step → List ℕ
run store [] = store
run store (s ∷ ss) = run (step store s) ss

-- "no later telegram from that vehicle is taken": what is offered is from another vehicle, or is refused; a sweep takes none
abbrev pub Passes : ℕ → List ℕ → Step → Type 0
Passes v store (offer w now telegram) =
    (w ≡ v → ⊥) ⊎ ((n : ℕ) × ((at : ℕ) × (taking store w now telegram ≡ refused n at)))
Passes v store (sweep now) = Unit

unfoldable pub NoneLater : ℕ → List ℕ → List Step → Type 0
NoneLater v store [] = Unit
NoneLater v store (s ∷ ss) = Passes v store s × NoneLater v (step store s) ss

-- C-12: "no sweep has expired the slot"
abbrev pub Spares : ℕ → List ℕ → Step → Type 0
Spares v store (offer w now telegram) = Unit
Spares v store (sweep now) = stale (slot_of store v) now ≡ false

unfoldable pub NoneExpired : ℕ → List ℕ → List Step → Type 0
NoneExpired v store [] = Unit
NoneExpired v store (s ∷ ss) = Spares v store s × NoneExpired v (step store s) ss

-- a telegram of vehicle v was taken at the clock value `stamp`, nothing later was taken from that vehicle, no sweep has expired its slot "between
-- the taking and the read", and the store is read at the clock value `now`, within a time limit
pub record Standing (v stamp now limit : ℕ) (telegram store : List ℕ) : Type 0 where
  pub before : List ℕ
  pub steps : List Step
  pub clock : stamp < turn
  pub took : taking before v stamp telegram ≡ gives (taken before v stamp telegram)
  pub later : NoneLater v (taken before v stamp telegram) steps
  pub unexpired : NoneExpired v (taken before v stamp telegram) steps
  pub reached : run (taken before v stamp telegram) steps ≡ store
  pub within : in_time (age now stamp) limit ≡ true

-- ---- C-12: the true clock

-- Steps by the true clock: their numbers are true times, in ms. The calls are "given the true clock modulo 4,294,967,296"
abbrev pub on_clock : Step → Step
on_clock (offer v t telegram) = offer v (t % turn) telegram
on_clock (sweep t) = sweep (t % turn)

abbrev pub half_turn : ℕ
half_turn = 2147483648

-- "the true clock never goes back, and the start and the sweeps follow each other within 2,147,483,648 ms", and a read at the true time `now`
-- is "no later than that after the last sweep (the start, if none)". `last` is the true time of the step before, `swept` of the sweep before;
-- where there is none, of the start
unfoldable pub Orderly : ℕ → ℕ → List Step → ℕ → Type 0
Orderly last swept [] now = (last ≤ now) × (now ≤ swept + half_turn)
Orderly last swept (offer v t telegram ∷ ss) now = (last ≤ t) × Orderly t swept ss now
Orderly last swept (sweep t ∷ ss) now = (last ≤ t) × ((t ≤ swept + half_turn) × Orderly t t ss now)

-- what the request asks for: steps by the true clock, any takes and sweeps, refused ones too, made from a store at the true time `begun` on; what
-- they leave, run start (map onClock steps), is read at the true time `now`
pub record TrueClock (start : List ℕ) (begun : ℕ) (steps : List Step) (now : ℕ) : Type 0 where
  -- "Start from a store with no slot heard or expired", whatever else stands in it
  pub fresh : (v : ℕ) → 1 ≤ v → v ≤ vehicles → ((slot_of start v).heard ≡ 1 → ⊥) × ((slot_of start v).heard ≡ 2 → ⊥)
  pub timed : Orderly begun begun steps now

-- the last telegram that is taken from vehicle v in such steps is taken at the true time t
pub record LastTaken (v t : ℕ) (start : List ℕ) (steps : List Step) : Type 0 where
  pub before : List Step
  pub telegram : List ℕ
  pub later : List Step
  pub parts : before ++ (offer v t telegram ∷ later) ≡ steps
  pub took :
      let store = run start (map on_clock before) in
      taking store v (t % turn) telegram ≡ gives (taken store v (t % turn) telegram)
  pub none : NoneLater v (taken (run start (map on_clock before)) v (t % turn) telegram) (map on_clock later)

-- ---- what the demands name

-- the mark that was given for a signal; a signal with no check counts as ok
abbrev pub given_mark : List ℕ → Signal → ℕ
given_mark marks s = cond (eqb s.check 0) ok (get_or marks (s.check - 1) 0)

-- what a reader gives of a signal that was composed with a mark and a value and that its list has too: the value with its mark, or its own
-- replacement with 6, 7 (bad mark) or 8 (code unknown to it)
abbrev pub delivered : SignalList → ℕ → ℕ → ℕ → Reading
delivered reader k mark value =
    let reason = first_of 6 (eqb mark error ∷ eqb mark undefined ∷ not (knows reader k value) ∷ []) (cond (eqb mark forced) 1 0) in
    record { value = cond (leb 2 reason) (reader.signal k).replacement value; reason = reason }

-- and of one that the type does not carry (4), or that it carries and only the reader's list has (5): its own replacement
abbrev pub withheld : SignalList → ℕ → ℕ → Reading
withheld reader type k =
    record { value = (reader.signal k).replacement; reason = cond (carries type (reader.signal k).type) 5 4 }

-- signal i of the writer's list is signal j of the reader's, by type and start, and the type carries it
pub record Shared (w r : SignalList) (type i j : ℕ) : Type 0 where
  pub there : i < w.signals
  pub one : same (w.signal i) (r.signal j) ≡ true
  pub carried : carries type (r.signal j).type ≡ true

-- what a reader may be given of its signal j, in the words of the demand: the written value with its mark (0, 1), its own replacement for a
-- bad mark (6, 7) or a code unknown to it (8), or for a signal that the type doesn't carry (4) or that only its own list has (5)
pub data Named (w r : SignalList) (type : ℕ) (values marks : List ℕ) (j : ℕ) : Reading → Type 0 where
  live_ok : (i : ℕ) → Shared w r type i j → given_mark marks (w.signal i) ≡ ok → knows r j (get_or values i 0) ≡ true
      → Named w r type values marks j (record { value = get_or values i 0; reason = 0 })
  live_forced : (i : ℕ) → Shared w r type i j → given_mark marks (w.signal i) ≡ forced → knows r j (get_or values i 0) ≡ true
      → Named w r type values marks j (record { value = get_or values i 0; reason = 1 })
  not_carried : carries type (r.signal j).type ≡ false → Named w r type values marks j (record { value = (r.signal j).replacement; reason = 4 })
  newer : carries type (r.signal j).type ≡ true → ((i : ℕ) → i < w.signals → same (w.signal i) (r.signal j) ≡ true → ⊥)
      → Named w r type values marks j (record { value = (r.signal j).replacement; reason = 5 })
  mark_error : (i : ℕ) → Shared w r type i j → given_mark marks (w.signal i) ≡ error
      → Named w r type values marks j (record { value = (r.signal j).replacement; reason = 6 })
  mark_undefined : (i : ℕ) → Shared w r type i j → given_mark marks (w.signal i) ≡ undefined
      → Named w r type values marks j (record { value = (r.signal j).replacement; reason = 7 })
  code_unknown : (i : ℕ) → Shared w r type i j → (given_mark marks (w.signal i) ≡ ok) ⊎ (given_mark marks (w.signal i) ≡ forced)
      → knows r j (get_or values i 0) ≡ false → Named w r type values marks j (record { value = (r.signal j).replacement; reason = 8 })
