-- `lists::first_bad_signal` meets its contract. The outer invariant: every signal passed keeps its rule, and the checks before `from` end at or before the
-- last one's end; the inner: the checks passed end at or before the signal's start. Assumes nothing.
use Prim.Native.Nat.{ℕ, ◌-◌}
use mathlib.Core.List.{List}
use Rattle.paper.specs.SignalList.{Signal, field_end, check_at, signal_rule}
use Rattle.paper.proofs.LoopLaws.{Passed}
use Rattle.entries.specs.Signals.{signals_as}
use Rattle.entries.proofs.Laws.{Before}
use Rattle.lists.proofs.Laws.{Behind}
use Rattle.lists.proofs.first_bad_signal.Given as goal

pub record Stands (list : List ℕ) (checks : ℕ) (signal : ℕ → Signal) (n kind past from k : ℕ) : Type 0 where
  pub passed : Passed (signal_rule checks (check_at list) signal) n k
  pub type : Before (λ j. (signal j).type) k kind
  pub end : Before (λ j. field_end (signal j)) k past
  pub behind : Behind checks (check_at list) past from

abbrev pub invariant-loop-kind : goal.invariant-loop-kind
invariant-loop-kind l = Behind l.checks (check_at l.list) l.s.start l.j

abbrev pub decreases-loop-kind : goal.decreases-loop-kind
decreases-loop-kind l = l.checks - l.j

abbrev pub invariant-loop-k : goal.invariant-loop-k
invariant-loop-k l = Stands l.list l.checks (signals_as l.signals) l.signals.count l.kind l.past l.from l.k
