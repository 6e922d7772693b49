-- Document 01, "Store, age and reading": marshalling routed signals into vehicle bus data.
use Rattle.std.specs.Prelude.{ℕ, ◌*◌, ◌≤◌, ◌<◌, ◌≡◌, Bool, true, not, List, length, ltb, leb}
use Rattle.paper.specs.Octets.{Put, puts}
use Rattle.paper.specs.Answer.{Answer, gives, refuse_if}
use Rattle.paper.specs.First.{some, count}
use Rattle.paper.specs.SignalList.{SignalList, Counts, judge, list_of, route_end, under_list}
use Rattle.paper.specs.Store.{store_octets, is_store}
use Rattle.paper.specs.Reading.{Reading, reading_at}

-- what route r reads: its signal of its vehicle
unfoldable pub routed : SignalList → List ℕ → ℕ → ℕ → Reading
routed l store now r = reading_at l store now (l.route r).vehicle (l.route r).signal

-- "writes each route's value into its destination field", in list order: the data after the first n routes
abbrev pub route_put : SignalList → List ℕ → ℕ → ℕ → Put
route_put l store now r =
    record { written = true; start = (l.route r).start; width = (l.signal (l.route r).signal).width; value = (routed l store now r).value }

unfoldable pub marshalled : SignalList → List ℕ → ℕ → List ℕ → ℕ → List ℕ
marshalled l store now bus n = puts (route_put l store now) bus n

-- "reports how many routes had reason 0 or 1"
unfoldable pub live : SignalList → List ℕ → ℕ → ℕ → Bool
live l store now r = leb (routed l store now r).reason 1

pub record Marshalled : Type 0 where
  pub octets : List ℕ
  pub lives : ℕ

-- 1-5, then 12 "data shorter than a route's end"
abbrev pub marshalling_by : List ℕ → ℕ → List ℕ → SignalList → Answer Marshalled
marshalling_by store now bus l =
    refuse_if (not (is_store store)) 5 0
    (refuse_if (some (λ r. ltb (8 * length bus) (route_end l.signal (l.route r))) l.routes) 12 0
    (gives (record { octets = marshalled l store now bus l.routes; lives = count (live l store now) l.routes })))

unfoldable pub marshalling : ℕ → List ℕ → List ℕ → ℕ → List ℕ → Answer Marshalled
marshalling form xs store now bus = under_list form xs (marshalling_by store now bus)

-- what marshalling that is not refused tells
pub record Marshals (form : ℕ) (xs store : List ℕ) (now : ℕ) (bus : List ℕ) (m : Marshalled) : Type 0 where
  pub counts : Counts
  pub accepted : judge form xs ≡ gives counts
  pub whole : length store ≡ store_octets
  pub room : (r : ℕ) → r < counts.routes → route_end (list_of xs counts).signal ((list_of xs counts).route r) ≤ 8 * length bus
  pub octets : m.octets ≡ marshalled (list_of xs counts) store now bus counts.routes
  pub lives : m.lives ≡ count (live (list_of xs counts) store now) counts.routes
