-- `lists::first_bad_check` meets its contract: every entry passed keeps its rule. Assumes nothing.
use Rattle.paper.specs.SignalList.{check_at, check_rule}
use Rattle.paper.proofs.LoopLaws.{Passed}
use Rattle.lists.proofs.first_bad_check.Given as goal

abbrev pub invariant-loop-k : goal.invariant-loop-k
invariant-loop-k l = Passed (check_rule (check_at l.list)) l.n l.k
