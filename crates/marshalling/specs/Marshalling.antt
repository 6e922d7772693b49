-- The paper's answer for each case of marshalling, what it leaves in the data, and what its parts ask and answer.
use Rattle.std.specs.Prelude.{ℕ, ◌*◌, ◌≤◌, ◌<◌, ◌≡◌, Bool, not, cond, List, length, get_or, ltb, Result}
use Rattle.paper.specs.Octets.{put}
use Rattle.paper.specs.Answer.{Answer, gives, refuse_if, after, map_answer}
use Rattle.paper.specs.First.{some, count}
use Rattle.paper.specs.SignalList.{SignalList, route_end}
use Rattle.paper.specs.Store.{store_octets, is_store}
use Rattle.paper.specs.Marshalling as paper
use Rattle.refusals.specs.declared.Refusal.{Refusal}
use Rattle.refusals.specs.Outcome.{answer_of}
use Rattle.known.specs.Known.{Starts}
use Rattle.reading.specs.Reading.{as_reading}
use Rattle.marshalling.specs.declared.RouteReading.{RouteReading}

abbrev pub live_answer : Result ℕ Refusal → Answer ℕ
live_answer = answer_of (λ m. m)

-- the live count that was reported, and the lent data afterwards, which are as they were where the call is refused
pub record Delivered (answer : Answer paper.Marshalled) (old : List ℕ) (r : Result ℕ Refusal) (new : List ℕ) : Type 0 where
  pub lives : live_answer r ≡ map_answer (λ m. m.lives) answer
  pub octets : new ≡ after old (map_answer (λ m. m.octets) answer)

-- "data shorter than a route's end"
abbrev pub is_short : SignalList → ℕ → ℕ → Bool
is_short l octets r = ltb (8 * octets) (route_end l.signal (l.route r))

-- the paper's `marshalling` under a list
unfoldable pub marshalling_under : SignalList → List ℕ → ℕ → List ℕ → Answer paper.Marshalled
marshalling_under l store now bus =
    refuse_if (not (is_store store)) 5 0
    (refuse_if (some (is_short l (length bus)) l.routes) 12 0
    (gives (record { octets = paper.marshalled l store now bus l.routes; lives = count (paper.live l store now) l.routes })))

-- where the code entries of each signal start, and past the last where they end
pub record Indexed (l : SignalList) (first : List ℕ) : Type 0 where
  pub long : length first ≡ 257
  pub each : (k : ℕ) → k ≤ l.signals → Starts l k (get_or first k 0)

-- a whole store, and data of so many octets, in which every route of the list ends
pub record Served (l : SignalList) (store : List ℕ) (octets : ℕ) : Type 0 where
  pub whole : length store ≡ store_octets
  pub room : (r : ℕ) → r < l.routes → route_end l.signal (l.route r) ≤ 8 * octets

-- a route's field, and what the route reads
pub record RouteRead (l : SignalList) (store : List ℕ) (now r : ℕ) (x : RouteReading) : Type 0 where
  pub start : x.start ≡ (l.route r).start
  pub width : x.width ≡ (l.signal (l.route r).signal).width
  pub reading : as_reading x.reading ≡ paper.routed l store now r

-- one route's value in its field, and what it adds to the live count; and the same of the first n routes
pub record RouteWritten (l : SignalList) (store : List ℕ) (now : ℕ) (old : List ℕ) (r m : ℕ) (new : List ℕ) : Type 0 where
  pub lives : m ≡ cond (paper.live l store now r) 1 0
  pub octets : new ≡ put old (l.route r).start (l.signal (l.route r).signal).width (paper.routed l store now r).value

pub record RoutesWritten (l : SignalList) (store : List ℕ) (now : ℕ) (old : List ℕ) (n m : ℕ) (new : List ℕ) : Type 0 where
  pub lives : m ≡ count (paper.live l store now) n
  pub octets : new ≡ paper.marshalled l store now old n
