-- `lists::first_bad_route` meets its contract: every entry passed keeps its rule. Assumes nothing.
use Rattle.paper.specs.SignalList.{route_end, route_at, route_rule}
use Rattle.paper.proofs.LoopLaws.{Passed}
use Rattle.entries.proofs.Laws.{Before}
use Rattle.entries.specs.Signals.{signals_as}
use Rattle.lists.proofs.first_bad_route.Given as goal

abbrev pub invariant-loop-k : goal.invariant-loop-k
invariant-loop-k l = (Passed (route_rule l.signals.count (signals_as l.signals) (route_at l.tail)) l.n l.k) × (Before (λ j. route_end (signals_as l.signals) (route_at l.tail j)) l.k l.past)
