-- What an accepted list keeps, in numbers and orders, and how its octets are laid out: the words in which contracts speak of one.
use Rattle.std.specs.Prelude.{ℕ, ◌+◌, ◌-◌, ◌%◌, ◌^◌, ◌≤◌, ◌<◌, ◌≡◌, ◌⊎◌, Bool, true, List, length}
use Rattle.paper.specs.Octets.{number}
use Rattle.paper.specs.Answer.{Answer, gives, refused}
use Rattle.paper.specs.SignalList.{Signal, Code, Route, field_end, route_end, entry, check_size, code_size, route_size, most_checks, most_signals, most_codes, most_routes, widest, longest_limit, check_at, signal_at, code_at, route_at, check_rule, signal_rule, code_rule, route_rule, greatest_since, Counts, SignalList, signals_part, codes_part, routes_part}

-- ---- A section

-- a section that can be opened: its count is within the limit and its entries are present
pub record Opened (limit size : ℕ) (xs : List ℕ) (n : ℕ) : Type 0 where
  pub count : n ≡ number xs 0 2
  pub within : n ≤ limit
  pub present : entry size n ≤ length xs

-- what an accepted section keeps: it could be opened, and each entry passes its test
pub record Holds (limit size : ℕ) (rule : ℕ → Bool) (xs : List ℕ) (n : ℕ) : Type 0 where
  pub opens : Opened limit size xs n
  pub entries : (k : ℕ) → k < n → rule k ≡ true

-- ---- The rule of an entry, over the tables, for any layout of the octets

pub record CheckKept (check : ℕ → ℕ) (k : ℕ) : Type 0 where
  pub even : check k % 2 ≡ 0
  pub low : 16 ≤ check k
  pub high : check k ≤ 1022
  pub rises : 0 < k → check (k - 1) < check k

-- where a signal of each type lies
pub record Placed (s : Signal) : Type 0 where
  pub common : s.type ≡ 0 → (16 ≤ s.start) × (field_end s ≤ 320)
  pub own : (s.type ≡ 0 → ⊥) → (320 ≤ s.start) × (field_end s ≤ 1024)

-- a signal with a check names one that exists, below 320 exactly if its type is 0
pub record CheckNamed (checks : ℕ) (check : ℕ → ℕ) (s : Signal) : Type 0 where
  pub exists : s.check ≤ checks
  pub common : s.type ≡ 0 → 0 < s.check → check (s.check - 1) < 320
  pub own : (s.type ≡ 0 → ⊥) → 0 < s.check → 320 ≤ check (s.check - 1)

-- the signal before has a lower type, or the same and ends at or before this one's start
abbrev pub Follows : Signal → Signal → Type 0
Follows p s = (p.type < s.type) ⊎ ((p.type ≡ s.type) × (field_end p ≤ s.start))

pub record SignalKept (checks : ℕ) (check : ℕ → ℕ) (signal : ℕ → Signal) (k : ℕ) : Type 0 where
  pub some : 1 ≤ (signal k).width
  pub wide : (signal k).width ≤ widest
  pub typed : (signal k).type ≤ 2
  pub placed : Placed (signal k)
  pub named : CheckNamed checks check (signal k)
  pub since : 1 ≤ (signal k).since
  pub octet : (signal k).since ≤ 255
  pub limited : (signal k).limit ≤ longest_limit
  pub fits : (signal k).replacement < 2 ^ (signal k).width
  pub follows : 0 < k → Follows (signal (k - 1)) (signal k)
  pub clear : (j : ℕ) → j < checks → (field_end (signal k) ≤ check j) ⊎ (check j + 2 ≤ (signal k).start)

-- the entry before is of a lower signal, or of the same and ends two below
abbrev pub CodeFollows : Code → Code → Type 0
CodeFollows p c = (p.signal < c.signal) ⊎ ((p.signal ≡ c.signal) × (p.high + 2 ≤ c.low))

pub record CodeKept (signals : ℕ) (signal : ℕ → Signal) (code : ℕ → Code) (k : ℕ) : Type 0 where
  pub exists : (code k).signal < signals
  pub narrow : (signal (code k).signal).width ≤ 16
  pub range : (code k).low ≤ (code k).high
  pub fits : (code k).high < 2 ^ (signal (code k).signal).width
  pub follows : 0 < k → CodeFollows (code (k - 1)) (code k)

pub record RouteKept (signals : ℕ) (signal : ℕ → Signal) (route : ℕ → Route) (k : ℕ) : Type 0 where
  pub exists : (route k).signal < signals
  pub first : 1 ≤ (route k).vehicle
  pub last : (route k).vehicle ≤ 63
  pub null : (route k).null ≡ 0
  pub ends : route_end signal (route k) ≤ 2048
  pub follows : 0 < k → route_end signal (route (k - 1)) ≤ (route k).start

-- ---- The whole list

-- what an accepted list keeps, apart from how its octets are laid out
pub record Kept (l : SignalList) : Type 0 where
  pub few_checks : l.checks ≤ most_checks
  pub few_signals : l.signals ≤ most_signals
  pub few_codes : l.codes ≤ most_codes
  pub few_routes : l.routes ≤ most_routes
  pub check : (k : ℕ) → k < l.checks → CheckKept l.check k
  pub signal : (k : ℕ) → k < l.signals → SignalKept l.checks l.check l.signal k
  pub code : (k : ℕ) → k < l.codes → CodeKept l.signals l.signal l.code k
  pub route : (k : ℕ) → k < l.routes → RouteKept l.signals l.signal l.route k

-- the sizes that a signal entry has, in either form
pub record Sized (size : ℕ) : Type 0 where
  pub least : 16 ≤ size
  pub most : size ≤ 18

-- the signals' entries as they stand in the octets
abbrev pub signals_at : List ℕ → Counts → ℕ → Signal
signals_at xs n = signal_at n.size (signals_part xs n)

-- and how they are laid out: each section's entries are present, and the list ends with the last
pub record Laid (xs : List ℕ) (n : Counts) : Type 0 where
  pub checks : Holds most_checks check_size (check_rule (check_at xs)) xs n.checks
  pub signals : Holds most_signals n.size (signal_rule n.checks (check_at xs) (signals_at xs n)) (signals_part xs n) n.signals
  pub codes : Holds most_codes code_size (code_rule n.signals (signals_at xs n) (code_at (codes_part xs n))) (codes_part xs n) n.codes
  pub routes : Holds most_routes route_size (route_rule n.signals (signals_at xs n) (route_at (routes_part xs n))) (routes_part xs n) n.routes
  pub ends : length (routes_part xs n) ≤ entry route_size n.routes
  pub version : n.version ≡ greatest_since n.signals (signals_at xs n)
  pub sized : Sized n.size

-- ---- Refused

-- a refusal, if it is one, carries no more than `most`
abbrev pub RefusedWithin : {A : Type 0} → ℕ → Answer A → Type 0
RefusedWithin most (gives a) = Unit {0}
RefusedWithin most (refused n at) = at ≤ most
