-- Request C-17: what comparing two accepted lists tells, line by line.
use Rattle.std.specs.Prelude.{ℕ, ◌+◌, ◌-◌, ◌*◌, ◌/◌, ◌%◌, ◌^◌, ◌≤◌, ◌<◌, ◌≡◌, Bool, true, false, not, cond, ◌&&◌, ◌||◌, List, [], ◌∷◌, ◌++◌, map, get_or, ltb, leb, eqb}
use Rattle.paper.specs.Answer.{Sought, found, nothing}
use Rattle.paper.specs.First.{some, passing, next}
use Rattle.paper.specs.SignalList.{Signal, SignalList, OfTwo, under_lists, version, knows, place_of}
use Rattle.paper.specs.Broken.{broken}
use Rattle.paper.specs.Extends.{Agree, extends}
use Rattle.paper.specs.Pairs.{Keyed, has, index, signal_key, signal_keys, signals_of}

-- ---- Ranges of numbers below n that pass a test

pub record Range : Type 0 where
  pub low : ℕ
  pub high : ℕ

-- "ranges as long as possible": one starts at each number that passes and whose neighbour below doesn't, and goes on to before the first that fails
unfoldable pub starts : (ℕ → Bool) → ℕ → Bool
starts test c = test c && (eqb c 0 || not (test (c - 1)))

unfoldable pub past : (ℕ → Bool) → ℕ → ℕ → ℕ
past test n c = next (λ q. not (test q)) n c

abbrev pub range_at : (ℕ → Bool) → ℕ → ℕ → Range
range_at test n c = record { low = c; high = past test n c - 1 }

-- those that start at k or above
unfoldable pub ranges : (ℕ → Bool) → ℕ → ℕ → List Range
ranges test n k = map (range_at test n) (passing (starts test) n k)

-- ---- What became of an entry, which goes by its key

pub data Change : Type 0 where
  unchanged added removed changed : Change

-- there in the first, there in the second, and differing where it is in both
abbrev pub change_of : Bool → Bool → Bool → Change
change_of false false d = unchanged
change_of false true d = added
change_of true false d = removed
change_of true true d = cond d changed unchanged

abbrev pub tells : Change → Bool
tells unchanged = false
tells added = true
tells removed = true
tells changed = true

unfoldable pub change_at : Keyed → Keyed → (ℕ → ℕ → Bool) → ℕ → Change
change_at t u differs q = change_of (has t q) (has u q) (differs (index t q) (index u q))

-- "each differing field and both numbers": its place among the fields compared, and the number in either list
pub record Differing : Type 0 where
  pub field : ℕ
  pub first : ℕ
  pub second : ℕ

abbrev pub differs_in : List ℕ → List ℕ → ℕ → Bool
differs_in xs ys f = not (eqb (get_or xs f 0) (get_or ys f 0))

unfoldable pub differing : List ℕ → List ℕ → ℕ → List Differing
differing xs ys n = map (λ f. record { field = f; first = get_or xs f 0; second = get_or ys f 0 }) (passing (differs_in xs ys) n 0)

-- ---- Signals, "in order of type and start"

-- width, check place, since-version, time limit, replacement; "a check is compared by place, not index"
abbrev pub signal_fields : SignalList → ℕ → List ℕ
signal_fields l k =
    (l.signal k).width ∷ place_of l (l.signal k) ∷ (l.signal k).since ∷ (l.signal k).limit ∷ (l.signal k).replacement ∷ []

-- "Where widths are equal and at most 16": how many codes are compared
unfoldable pub codes_compared : SignalList → SignalList → ℕ → ℕ → ℕ
codes_compared a b i j = cond (eqb (a.signal i).width (b.signal j).width && leb (a.signal i).width 16) (2 ^ (a.signal i).width) 0

-- a code known to B and not to A; lost is gained the other way round. "a full code range counts as no entry": both know every code
unfoldable pub gained : SignalList → SignalList → ℕ → ℕ → ℕ → Bool
gained a b i j c = knows b j c && not (knows a i c)

unfoldable pub signal_differs : SignalList → SignalList → ℕ → ℕ → Bool
signal_differs a b i j =
    some (differs_in (signal_fields a i) (signal_fields b j)) 5
    || some (gained a b i j) (codes_compared a b i j)
    || some (gained b a j i) (codes_compared a b i j)

unfoldable pub signal_change : SignalList → SignalList → ℕ → Change
signal_change a b q = change_at (signals_of a) (signals_of b) (signal_differs a b) q

-- which rule of extending the signal i of A and j of B break: 1 width, 2 check place, 3 since-version, 4 a code is lost
abbrev pub keep_tests : SignalList → SignalList → ℕ → ℕ → List Bool
keep_tests a b i j =
    eqb (a.signal i).width (b.signal j).width ∷ eqb (place_of a (a.signal i)) (place_of b (b.signal j))
    ∷ eqb (a.signal i).since (b.signal j).since ∷ not (some (gained b a j i) (codes_compared a b i j)) ∷ []

-- of the signal at a key, 0 for none: of one in both lists as above; 5 it is only in A; 6 it is only in B and not newer than A
abbrev pub breaks_of : Bool → Bool → ℕ → Bool → ℕ
breaks_of true true kept newer = kept
breaks_of true false kept newer = 5
breaks_of false true kept newer = cond newer 0 6
breaks_of false false kept newer = 0

unfoldable pub breaks : SignalList → SignalList → ℕ → ℕ
breaks a b q =
    let i = index (signals_of a) q in
    let j = index (signals_of b) q in
    breaks_of (has (signals_of a) q) (has (signals_of b) q) (broken (keep_tests a b i j)) (ltb (version a) (b.signal j).since)

-- ---- Routes, "by destination, their signals compared by type and start"

-- above the destination of every route
abbrev pub route_keys : ℕ
route_keys = 2048

abbrev pub routes_of : SignalList → Keyed
routes_of l = record { count = l.routes; key = λ k. (l.route k).start }

-- vehicle, and the signal's type and start
abbrev pub route_fields : SignalList → ℕ → List ℕ
route_fields l k = (l.route k).vehicle ∷ signal_key (l.signal (l.route k).signal) ∷ []

unfoldable pub route_differs : SignalList → SignalList → ℕ → ℕ → Bool
route_differs a b i j = some (differs_in (route_fields a i) (route_fields b j)) 2

unfoldable pub route_change : SignalList → SignalList → ℕ → Change
route_change a b q = change_at (routes_of a) (routes_of b) (route_differs a b) q

-- ---- Lines

pub data Line : Type 0 where
  -- what became of it, type, start, differing fields, codes gained and lost
  signal_line : Change → ℕ → ℕ → List Differing → List Range → List Range → Line
  -- what became of it, destination start, differing fields
  route_line : Change → ℕ → List Differing → Line
  -- "whether the second extends the first"
  verdict : Bool → Line

-- only of an entry that both lists have is there more to tell
abbrev pub when_changed : {A : Type 0} → Change → List A → List A
when_changed unchanged l = []
when_changed added l = []
when_changed removed l = []
when_changed changed l = l

unfoldable pub signal_line_at : SignalList → SignalList → ℕ → Line
signal_line_at a b q =
    let c = signal_change a b q in
    let i = index (signals_of a) q in
    let j = index (signals_of b) q in
    signal_line c (q / 1024) (q % 1024)
    (when_changed c (differing (signal_fields a i) (signal_fields b j) 5))
    (when_changed c (ranges (gained a b i j) (codes_compared a b i j) 0))
    (when_changed c (ranges (gained b a j i) (codes_compared a b i j) 0))

unfoldable pub route_line_at : SignalList → SignalList → ℕ → Line
route_line_at a b q =
    let c = route_change a b q in
    route_line c q (when_changed c (differing (route_fields a (index (routes_of a) q)) (route_fields b (index (routes_of b) q)) 2))

unfoldable pub signal_lines : SignalList → SignalList → List Line
signal_lines a b = map (signal_line_at a b) (passing (λ q. tells (signal_change a b q)) signal_keys 0)

unfoldable pub route_lines : SignalList → SignalList → List Line
route_lines a b = map (route_line_at a b) (passing (λ q. tells (route_change a b q)) route_keys 0)

-- "Routes come last"; "The final line says whether the second extends the first"
unfoldable pub compare : SignalList → SignalList → List Line
compare a b = signal_lines a b ++ route_lines a b ++ (verdict (extends a b) ∷ [])

-- "A refused list is reported by number and offset and nothing is compared."
unfoldable pub comparing : ℕ → List ℕ → ℕ → List ℕ → OfTwo (List Line)
comparing form xs form' ys = under_lists form xs form' ys compare

-- ---- How a caller meets them

-- a key with an entry of either list, the number of its entries where a list has none; and the rule of extending that the two break, of signals
pub record Changed : Type 0 where
  pub key : ℕ
  pub first : ℕ
  pub second : ℕ
  pub breaks : ℕ

abbrev pub signal_changed : SignalList → SignalList → ℕ → Changed
signal_changed a b q = record { key = q; first = index (signals_of a) q; second = index (signals_of b) q; breaks = breaks a b q }

abbrev pub route_changed : SignalList → SignalList → ℕ → Changed
route_changed a b q = record { key = q; first = index (routes_of a) q; second = index (routes_of b) q; breaks = 0 }

-- the next at `from` or above of which there is something to tell, if there is one
abbrev pub next_in : {A : Type 0} → (ℕ → Bool) → ℕ → (ℕ → A) → ℕ → Sought A
next_in test top at from = let q = next test top from in cond (ltb q top) (found (at q)) nothing

unfoldable pub next_signal : SignalList → SignalList → ℕ → Sought Changed
next_signal a b from = next_in (λ q. tells (signal_change a b q)) signal_keys (signal_changed a b) from

unfoldable pub next_route : SignalList → SignalList → ℕ → Sought Changed
next_route a b from = next_in (λ q. tells (route_change a b q)) route_keys (route_changed a b) from

-- the next range of codes that the signal at a key gained, from a code on; none where the signal is in one list only
unfoldable pub next_gained : SignalList → SignalList → ℕ → ℕ → Sought Range
next_gained a b q from =
    let i = index (signals_of a) q in
    let j = index (signals_of b) q in
    let top = cond (has (signals_of a) q && has (signals_of b) q) (codes_compared a b i j) 0 in
    next_in (starts (gained a b i j)) top (range_at (gained a b i j) top) from

-- 1-4 of the first list, then of the second
unfoldable pub signal_changes : ℕ → List ℕ → ℕ → List ℕ → ℕ → OfTwo (Sought Changed)
signal_changes form xs form' ys from = under_lists form xs form' ys (λ a b. next_signal a b from)

unfoldable pub route_changes : ℕ → List ℕ → ℕ → List ℕ → ℕ → OfTwo (Sought Changed)
route_changes form xs form' ys from = under_lists form xs form' ys (λ a b. next_route a b from)

unfoldable pub codes_gained : ℕ → List ℕ → ℕ → List ℕ → ℕ → ℕ → OfTwo (Sought Range)
codes_gained form xs form' ys q from = under_lists form xs form' ys (λ a b. next_gained a b q from)

-- ---- What is said of them

-- signals that are equal as they are compared
pub record Alike (a b : SignalList) (i j : ℕ) : Type 0 where
  pub agrees : Agree a b i j
  pub limit : (a.signal i).limit ≡ (b.signal j).limit
  pub replacement : (a.signal i).replacement ≡ (b.signal j).replacement
  pub codes : (c : ℕ) → c < 2 ^ (a.signal i).width → knows a i c ≡ knows b j c

pub record RouteAlike (a b : SignalList) (i j : ℕ) : Type 0 where
  pub start : (a.route i).start ≡ (b.route j).start
  pub vehicle : (a.route i).vehicle ≡ (b.route j).vehicle
  pub type : (a.signal (a.route i).signal).type ≡ (b.signal (b.route j).signal).type
  pub place : (a.signal (a.route i).signal).start ≡ (b.signal (b.route j).signal).start

-- "when signals, known codes and routes are equal so compared"
pub record Equal (a b : SignalList) : Type 0 where
  pub signals : (i : ℕ) → i < a.signals → (j : ℕ) × ((j < b.signals) × Alike a b i j)
  pub signals_back : (j : ℕ) → j < b.signals → (i : ℕ) × ((i < a.signals) × Alike a b i j)
  pub routes : (i : ℕ) → i < a.routes → (j : ℕ) × ((j < b.routes) × RouteAlike a b i j)
  pub routes_back : (j : ℕ) → j < b.routes → (i : ℕ) × ((i < a.routes) × RouteAlike a b i j)

-- a range that can't be longer: every number in it passes, and its neighbours, where there are any, don't
pub record Longest (test : ℕ → Bool) (n : ℕ) (r : Range) : Type 0 where
  pub ordered : r.low ≤ r.high
  pub within : r.high < n
  pub each : (c : ℕ) → r.low ≤ c → c ≤ r.high → test c ≡ true
  pub below : 0 < r.low → test (r.low - 1) ≡ false
  pub above : r.high + 1 < n → test (r.high + 1) ≡ false

-- ---- The same the other way round

abbrev pub swap_change : Change → Change
swap_change unchanged = unchanged
swap_change added = removed
swap_change removed = added
swap_change changed = changed

abbrev pub swap_field : Differing → Differing
swap_field d = record { field = d.field; first = d.second; second = d.first }

-- of a signal or a route; the last line is another matter
abbrev pub swap_line : Line → Line
swap_line (signal_line c type start fields gain loss) = signal_line (swap_change c) type start (map swap_field fields) loss gain
swap_line (route_line c start fields) = route_line (swap_change c) start (map swap_field fields)
swap_line (verdict v) = verdict v
