-- Every signal of a vehicle in one call, and of every vehicle from 1 on, so that a cycle judges its list once: for each signal what `reading` gives.
use Rattle.std.specs.Prelude.{ℕ, zero, suc, ◌*◌, ◌≤◌, ◌≡◌, not, ◌&&◌, List, [], ◌++◌, length, eqb}
use Rattle.paper.specs.Answer.{Answer, gives, refuse_if}
use Rattle.paper.specs.First.{listed}
use Rattle.paper.specs.SignalList.{SignalList, Counts, judge, under_list}
use Rattle.paper.specs.Store.{vehicles, store_octets, is_store, is_vehicle}
use Rattle.paper.specs.Reading.{reading_at}

-- "a value and a reason" for each, in list order
pub record Readings : Type 0 where
  pub values : List ℕ
  pub reasons : List ℕ

unfoldable pub values_at : SignalList → List ℕ → ℕ → ℕ → List ℕ
values_at l store now v = listed (λ k. (reading_at l store now v k).value) l.signals

unfoldable pub reasons_at : SignalList → List ℕ → ℕ → ℕ → List ℕ
reasons_at l store now v = listed (λ k. (reading_at l store now v k).reason) l.signals

-- those of vehicle 1, then of vehicle 2, .. to `last`
unfoldable pub in_turn : (ℕ → List ℕ) → ℕ → List ℕ
in_turn f zero = []
in_turn f (suc last) = in_turn f last ++ f (suc last)

-- 1-4, then 5, 6 where the vehicle is none, and 13 where the areas, of so many values and reasons, are not one per signal that is read
abbrev pub room_for : List ℕ → ℕ → ℕ → ℕ → ℕ → Readings → Answer Readings
room_for store v values reasons many r =
    refuse_if (not (is_store store)) 5 0
    (refuse_if (not (is_vehicle v)) 6 0
    (refuse_if (not (eqb values many && eqb reasons many)) 13 0
    (gives r)))

-- every signal of vehicle v
abbrev pub readings_by : List ℕ → ℕ → ℕ → ℕ → ℕ → SignalList → Answer Readings
readings_by store now v values reasons l =
    room_for store v values reasons l.signals (record { values = values_at l store now v; reasons = reasons_at l store now v })

unfoldable pub readings : ℕ → List ℕ → List ℕ → ℕ → ℕ → ℕ → ℕ → Answer Readings
readings form xs store now v values reasons = under_list form xs (readings_by store now v values reasons)

-- of the vehicles 1 to `last`
abbrev pub train_by : List ℕ → ℕ → ℕ → ℕ → ℕ → SignalList → Answer Readings
train_by store now last values reasons l =
    room_for store last values reasons (last * l.signals)
    (record { values = in_turn (values_at l store now) last; reasons = in_turn (reasons_at l store now) last })

unfoldable pub train_readings : ℕ → List ℕ → List ℕ → ℕ → ℕ → ℕ → ℕ → Answer Readings
train_readings form xs store now last values reasons = under_list form xs (train_by store now last values reasons)

-- what is given, exactly: the list is accepted, the store whole, v a vehicle, and each area has as many as are read
pub record Room (form : ℕ) (xs store : List ℕ) (v values reasons : ℕ) (many : ℕ → ℕ) : Type 0 where
  pub counts : Counts
  pub accepted : judge form xs ≡ gives counts
  pub whole : length store ≡ store_octets
  pub first : 1 ≤ v
  pub last : v ≤ vehicles
  pub valued : values ≡ many counts.signals
  pub reasoned : reasons ≡ many counts.signals
