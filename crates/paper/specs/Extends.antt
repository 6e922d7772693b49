-- Document 01, "The signal list": when one list extends another.
use Rattle.std.specs.Prelude.{ℕ, ◌^◌, ◌<◌, ◌≡◌, ◌⊎◌, Bool, true, not, ◌&&◌, ◌||◌, List, ltb, eqb}
use Rattle.paper.specs.First.{all, some}
use Rattle.paper.specs.SignalList.{Signal, SignalList, OfTwo, under_lists, version, knows, place_of}

-- the same signal in two lists: it goes by type and start, never by index
abbrev pub same : Signal → Signal → Bool
same s t = eqb s.type t.type && eqb s.start t.start

-- "each code of it known under A is known under B"
unfoldable pub codes_kept : SignalList → SignalList → ℕ → ℕ → Bool
codes_kept a b i j = all (λ c. not (knows a i c) || knows b j c) (2 ^ (a.signal i).width)

-- "with equal type, start, width, check place (or none) and since-version; each code of it known under A is known under B"
unfoldable pub keeps : SignalList → SignalList → ℕ → ℕ → Bool
keeps a b i j =
    same (a.signal i) (b.signal j) && eqb (a.signal i).width (b.signal j).width
    && eqb (place_of a (a.signal i)) (place_of b (b.signal j))
    && eqb (a.signal i).since (b.signal j).since
    && codes_kept a b i j

-- "each signal of A stands in B"
unfoldable pub stands : SignalList → SignalList → ℕ → Bool
stands a b i = some (keeps a b i) b.signals

-- "each signal only in B has a since-version above A's version"
unfoldable pub newer : SignalList → SignalList → ℕ → Bool
newer a b j = some (λ i. same (a.signal i) (b.signal j)) a.signals || ltb (version a) (b.signal j).since

-- "List B extends list A"; "Time limits and replacements may differ."
unfoldable pub extends : SignalList → SignalList → Bool
extends a b = all (stands a b) a.signals && all (newer a b) b.signals

-- a call on two lists: whether the second extends the first
unfoldable pub extends_lists : ℕ → List ℕ → ℕ → List ℕ → OfTwo Bool
extends_lists form xs form' ys = under_lists form xs form' ys extends

-- ---- What extending says

-- signal i of one list and signal j of another are the same in all that must not change
pub record Agree (a b : SignalList) (i j : ℕ) : Type 0 where
  pub type : (a.signal i).type ≡ (b.signal j).type
  pub start : (a.signal i).start ≡ (b.signal j).start
  pub width : (a.signal i).width ≡ (b.signal j).width
  pub place : place_of a (a.signal i) ≡ place_of b (b.signal j)
  pub since : (a.signal i).since ≡ (b.signal j).since

-- what it says that a signal of A is kept in B
pub record Keeps (a b : SignalList) (i j : ℕ) : Type 0 where
  pub agrees : Agree a b i j
  pub codes : (c : ℕ) → c < 2 ^ (a.signal i).width → knows a i c ≡ true → knows b j c ≡ true

-- "each signal of A stands in B"; "each signal only in B has a since-version above A's version"
pub record Extended (a b : SignalList) : Type 0 where
  pub stands_in : (i : ℕ) → i < a.signals → (j : ℕ) × ((j < b.signals) × Keeps a b i j)
  pub newer_than : (j : ℕ) → j < b.signals → ((i : ℕ) × ((i < a.signals) × (same (a.signal i) (b.signal j) ≡ true))) ⊎ (version a < (b.signal j).since)

-- one of two lists extends the other
abbrev pub Related : SignalList → SignalList → Type 0
Related a b = (extends a b ≡ true) ⊎ (extends b a ≡ true)
