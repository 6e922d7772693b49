-- `lists::first_bad_code` meets its contract: every entry passed keeps its rule. Assumes nothing.
use Rattle.paper.specs.SignalList.{code_at, code_rule}
use Rattle.paper.proofs.LoopLaws.{Passed}
use Rattle.entries.specs.Signals.{signals_as}
use Rattle.entries.specs.Entries.{code_past}
use Rattle.entries.proofs.Laws.{Before}
use Rattle.lists.proofs.first_bad_code.Given as goal

abbrev pub invariant-loop-k : goal.invariant-loop-k
invariant-loop-k l = (Passed (code_rule l.signals.count (signals_as l.signals) (code_at l.tail)) l.n l.k) × (Before (λ j. code_past (code_at l.tail j)) l.k l.least)
