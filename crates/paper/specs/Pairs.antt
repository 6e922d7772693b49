-- Signals go by type and start: an accepted list searched by them, and two lists gone along at once.
use Rattle.std.specs.Prelude.{ℕ, ◌+◌, ◌*◌, ◌<◌, ◌≡◌, Bool, not, cond, ◌&&◌, ◌||◌, ltb, eqb}
use mathlib.Core.List.{List, map, Memᴰ}
use Rattle.paper.specs.Answer.{Answer, gives, refuse_if, Sought, found, nothing}
use Rattle.paper.specs.First.{first_bad, some, passing, next}
use Rattle.paper.specs.Search.{Rises}
use Rattle.paper.specs.SignalList.{Signal, Route, SignalList, place_of, under_list, OfTwo, under_lists}

-- ---- One list

-- a signal's entry, and the place of its check, 0 for none
pub record Entry : Type 0 where
  pub signal : Signal
  pub place : ℕ

-- 1-4, then 11: the entry of signal k
abbrev pub entry_by : ℕ → SignalList → Answer Entry
entry_by k l = refuse_if (not (ltb k l.signals)) 11 0 (gives (record { signal = l.signal k; place = place_of l (l.signal k) }))

unfoldable pub entry_of : ℕ → List ℕ → ℕ → Answer Entry
entry_of form xs k = under_list form xs (entry_by k)

-- 1-4: the entry of route r; no number refuses one that is not there
abbrev pub route_entry_by : ℕ → SignalList → Answer (Sought Route)
route_entry_by r l = gives (cond (ltb r l.routes) (found (l.route r)) nothing)

unfoldable pub route_entry : ℕ → List ℕ → ℕ → Answer (Sought Route)
route_entry form xs r = under_list form xs (route_entry_by r)

-- the signal of a type at a start; the number of signals where there is none
unfoldable pub signal_found : SignalList → ℕ → ℕ → ℕ
signal_found l type start = first_bad (λ k. not (eqb (l.signal k).type type && eqb (l.signal k).start start)) l.signals

-- 1-4, then 11: its number
abbrev pub finding_by : ℕ → ℕ → SignalList → Answer ℕ
finding_by type start l = let k = signal_found l type start in refuse_if (not (ltb k l.signals)) 11 0 (gives k)

unfoldable pub finding : ℕ → List ℕ → ℕ → ℕ → Answer ℕ
finding form xs type start = under_list form xs (finding_by type start)

-- ---- Two lists

-- entries that go by a key
pub record Keyed : Type 0 where
  pub count : ℕ
  pub key : ℕ → ℕ

-- an entry has the key
unfoldable pub has : Keyed → ℕ → Bool
has t q = some (λ k. eqb (t.key k) q) t.count

-- the entry that has it; the number of entries where none does
unfoldable pub index : Keyed → ℕ → ℕ
index t q = first_bad (λ k. not (eqb (t.key k) q)) t.count

-- type and start as one number, in their order; no start reaches 1024
abbrev pub signal_key : Signal → ℕ
signal_key s = s.type * 1024 + s.start

-- above the key of every signal
abbrev pub signal_keys : ℕ
signal_keys = 3072

abbrev pub signals_of : SignalList → Keyed
signals_of l = record { count = l.signals; key = λ k. signal_key (l.signal k) }

-- a type and start that one list or both have, with the signal of each; the number of its signals where a list has none
pub record Pair : Type 0 where
  pub key : ℕ
  pub first : ℕ
  pub second : ℕ

abbrev pub pair_at : SignalList → SignalList → ℕ → Pair
pair_at a b q = record { key = q; first = index (signals_of a) q; second = index (signals_of b) q }

abbrev pub in_either : SignalList → SignalList → ℕ → Bool
in_either a b q = has (signals_of a) q || has (signals_of b) q

-- each signal of either list, in order of type and start, paired where both have one
unfoldable pub pairs : SignalList → SignalList → List Pair
pairs a b = map (pair_at a b) (passing (in_either a b) signal_keys 0)

-- how a caller meets them: the next one whose key is `from` or above, if there is one
unfoldable pub next_pair : SignalList → SignalList → ℕ → Sought Pair
next_pair a b from = let q = next (in_either a b) signal_keys from in cond (ltb q signal_keys) (found (pair_at a b q)) nothing

-- 1-4 of the first list, then of the second
unfoldable pub pairing : ℕ → List ℕ → ℕ → List ℕ → ℕ → OfTwo (Sought Pair)
pairing form xs form' ys from = under_lists form xs form' ys (λ a b. next_pair a b from)

-- ---- What is said of them

-- keys that rise, and stay below `top`
pub record Rising (t : Keyed) (top : ℕ) : Type 0 where
  pub rise : Rises t.key t.count
  pub small : (k : ℕ) → k < t.count → t.key k < top

-- of a side of the pairs, `of`: each of its entries is in one of them, and only in one with its key
pub record Once (t : Keyed) (of : Pair → ℕ) (ps : List Pair) : Type 0 where
  pub there : (k : ℕ) → k < t.count → (p : Pair) × ((Memᴰ p ps) × (of p ≡ k))
  pub keyed : (p : Pair) → Memᴰ p ps → of p < t.count → t.key (of p) ≡ p.key

-- the pairs whose key is `from` or above
abbrev pub pairs_from : SignalList → SignalList → ℕ → List Pair
pairs_from a b from = map (pair_at a b) (passing (in_either a b) signal_keys from)
