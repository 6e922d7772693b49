-- What the parts of a comparison answer, and the paper's answer for each case of the code's.
use Rattle.std.specs.Prelude.{ℕ, ◌+◌, ◌≤◌, ◌<◌, ◌≡◌, ◌⊎◌, Bool, true, false, not, cond, ◌||◌, [], ◌∷◌, Option, Some, None, Result, ltb, eqb}
use Rattle.paper.specs.Answer.{Sought, found, nothing}
use Rattle.paper.specs.SignalList.{Signal, SignalList, knows, OfTwo}
use Rattle.paper.specs.Broken.{broken}
use Rattle.paper.specs.Pairs.{Keyed, Pair, has, index}
use Rattle.paper.specs.Comparing.{Range as PaperRange, Changed as PaperChanged, starts, range_at, tells, gained, signal_differs, signal_change, keep_tests, signal_changed, routes_of, route_keys, route_change, route_changed, next_in}
use Rattle.refusals.specs.declared.ListRefused.{ListRefused}
use Rattle.refusals.specs.Outcome.{sought_of, of_two_answer}
use Rattle.pairing.specs.declared.Pair.{Pair as CodePair}
use Rattle.comparing.specs.declared.Stretch.{Stretch}
use Rattle.comparing.specs.declared.Compared.{Compared}
use Rattle.comparing.specs.declared.Changed.{Changed}
use Rattle.comparing.specs.declared.Range.{Range}

-- ---- codes

-- from c to before `until` every code of signal k is known, or every one not
pub record Steady (l : SignalList) (k c top : ℕ) (r : Stretch) : Type 0 where
  pub more : c < r.until
  pub most : r.until ≤ top
  pub each : (d : ℕ) → c ≤ d → d < r.until → knows l k d ≡ r.known

-- r is the first from k on at which the test passes, n where there is none below it
pub record Next (test : ℕ → Bool) (n k r : ℕ) : Type 0 where
  pub least : k ≤ r
  pub most : r ≤ n
  pub before : (c : ℕ) → k ≤ c → c < r → test c ≡ false
  pub here : r < n → test r ≡ true

-- codes gained, or those not gained
abbrev pub wanted : SignalList → SignalList → ℕ → ℕ → Bool → ℕ → Bool
wanted a b i j want c = cond want (gained a b i j c) (not (gained a b i j c))

-- r is past a range that began before `from`, if there is one: no range starts up to r, and what passes behind r is of a later one
pub record Fresh (test : ℕ → Bool) (n from r : ℕ) : Type 0 where
  pub near : from ≤ r + 1
  pub most : r ≤ n
  pub before : (c : ℕ) → from ≤ c → c < r → starts test c ≡ false
  pub ended : r < n → ((from ≡ 0) × (r ≡ 0)) ⊎ (test r ≡ false)

abbrev pub range_from : (ℕ → Bool) → ℕ → ℕ → Sought PaperRange
range_from test top from = next_in (starts test) top (range_at test top) from

-- ---- a signal of both lists, of which p and q are the places of the checks

unfoldable pub numbers_differ : Signal → ℕ → Signal → ℕ → Bool
numbers_differ s p t q =
    not (eqb s.width t.width) || not (eqb p q) || not (eqb s.since t.since) || not (eqb s.limit t.limit)
    || not (eqb s.replacement t.replacement)

unfoldable pub kept_as : Signal → ℕ → Signal → ℕ → Bool → ℕ
kept_as s p t q lost = broken (eqb s.width t.width ∷ eqb p q ∷ eqb s.since t.since ∷ not lost ∷ [])

pub record ComparedAs (a b : SignalList) (i j : ℕ) (r : Compared) : Type 0 where
  pub differs : r.differs ≡ signal_differs a b i j
  pub breaks : r.breaks ≡ broken (keep_tests a b i j)

-- of one only in the second, with this since-version
abbrev pub added_as : ℕ → ℕ → ℕ
added_as version since = cond (ltb version since) 0 6

-- ---- what is told at a key

abbrev pub told_of : Pair → ℕ → PaperChanged
told_of p breaks = record { key = p.key; first = p.first; second = p.second; breaks = breaks }

-- one of two has an entry with the key, and these are the entries
pub record PairThere (t u : Keyed) (p : Pair) : Type 0 where
  pub first : p.first ≡ index t p.key
  pub second : p.second ≡ index u p.key
  pub there : (has t p.key || has u p.key) ≡ true

abbrev pub signal_told_at : SignalList → SignalList → ℕ → Sought PaperChanged
signal_told_at a b q = cond (tells (signal_change a b q)) (found (signal_changed a b q)) nothing

abbrev pub route_told_at : SignalList → SignalList → ℕ → Sought PaperChanged
route_told_at a b q = cond (tells (route_change a b q)) (found (route_changed a b q)) nothing

-- the next destination that a route of either list has
abbrev pub pair_in : Keyed → Keyed → ℕ → Pair
pair_in t u q = record { key = q; first = index t q; second = index u q }

abbrev pub paired_in : Keyed → Keyed → ℕ → ℕ → Sought Pair
paired_in t u top from = next_in (λ q. has t q || has u q) top (pair_in t u) from

unfoldable pub paired_routes : SignalList → SignalList → ℕ → Sought Pair
paired_routes a b from = paired_in (routes_of a) (routes_of b) route_keys from

-- ---- from a key on, one pair after the other; `meets` and `tells` say what two calls may answer

-- there was nothing to tell of those that were met, and the next is looked for from `key` on
pub data Passed (meets : ℕ → Option CodePair → Type 0) (tells : CodePair → Option Changed → Type 0) (from : ℕ) : ℕ → Type 0 where
  none_passed : Passed meets tells from from
  one_passed : (key : ℕ) (p : CodePair) → Passed meets tells from key → meets key (Some p) → tells p None → Passed meets tells from (p.key + 1)

-- what is told of the pair met then, or that none is left
abbrev pub FirstTold : (ℕ → Option CodePair → Type 0) → (CodePair → Option Changed → Type 0) → ℕ → Option Changed → Type 0
FirstTold meets tells from None = (key : ℕ) × (Passed meets tells from key × meets key None)
FirstTold meets tells from (Some c) = (key : ℕ) × ((p : CodePair) × (Passed meets tells from key × meets key (Some p) × tells p (Some c)))

-- ---- the answers

abbrev pub changed_of : Changed → PaperChanged
changed_of c = record { key = c.key; first = c.first; second = c.second; breaks = c.breaks }

abbrev pub range_of : Range → PaperRange
range_of r = record { low = r.low; high = r.high }

abbrev pub next_changed_of : Option Changed → Sought PaperChanged
next_changed_of = sought_of changed_of

abbrev pub next_range_of : Option Range → Sought PaperRange
next_range_of = sought_of range_of

abbrev pub changes_answer : Result (Option Changed) ListRefused → OfTwo (Sought PaperChanged)
changes_answer = of_two_answer next_changed_of

abbrev pub gained_answer : Result (Option Range) ListRefused → OfTwo (Sought PaperRange)
gained_answer = of_two_answer next_range_of
