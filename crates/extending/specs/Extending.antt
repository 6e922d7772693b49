-- The paper's answer for each case of the code's, and what the parts of the comparison answer.
use Rattle.std.specs.Prelude.{ℕ, ◌+◌, ◌≤◌, ◌<◌, ◌≡◌, Bool, false, not, ◌&&◌, ◌||◌, Result, ltb, eqb}
use Rattle.paper.specs.First.{all}
use Rattle.paper.specs.SignalList.{Signal, SignalList, OfTwo, in_range}
use Rattle.paper.specs.Extends.{same}
use Rattle.paper.specs.Pairs.{signal_key}
use Rattle.refusals.specs.declared.ListRefused.{ListRefused}
use Rattle.refusals.specs.Outcome.{of_two_answer}

abbrev pub extends_answer : Result Bool ListRefused → OfTwo Bool
extends_answer = of_two_answer (λ b. b)

-- r is the first signal from j on that is not below the key, or not newer than the version
pub record Newer (l : SignalList) (j key version r : ℕ) : Type 0 where
  pub from : j ≤ r
  pub most : r ≤ l.signals
  pub each : (k : ℕ) → j ≤ k → k < r → (signal_key (l.signal k) < key) × (version < (l.signal k).since)
  pub stops : r < l.signals → (ltb (signal_key (l.signal r)) key && ltb version (l.signal r).since) ≡ false

-- every code from low to high is in a range of signal k
unfoldable pub range_kept : SignalList → ℕ → ℕ → ℕ → Bool
range_kept l k low high = all (λ c. ltb c low || in_range l.codes l.code k c) (high + 1)

-- an entry of A for its signal i: each of its codes is in a range of B's signal j
abbrev pub entry_kept : SignalList → SignalList → ℕ → ℕ → ℕ → Bool
entry_kept a b i j e = not (eqb (a.code e).signal i) || range_kept b j (a.code e).low (a.code e).high

unfoldable pub ranges_kept : SignalList → SignalList → ℕ → ℕ → Bool
ranges_kept a b i j = all (entry_kept a b i j) a.codes

-- signals, with the places of their checks, that are equal in all that must not change
abbrev pub agreed : Signal → ℕ → Signal → ℕ → Bool
agreed s p t q = same s t && eqb s.width t.width && eqb p q && eqb s.since t.since
