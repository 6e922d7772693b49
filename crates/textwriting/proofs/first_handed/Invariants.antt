-- `textwriting::first_handed` meets its contract. Assumes nothing.
use mathlib.Core.List.{map}
use lib.ListN.{length}
use Rattle.paper.specs.Remedies.{blocks_of}
use Rattle.textwriting.proofs.Laws.{Passed}
use Rattle.textwriting.proofs.first_handed.Given as goal

abbrev pub invariant-loop-key : goal.invariant-loop-key
invariant-loop-key l = Passed (blocks_of l.keys (map (λ x. x.now) l.texts)) (length l.texts) l.seen (length l.yielded)
