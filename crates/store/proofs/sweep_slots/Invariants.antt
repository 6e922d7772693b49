-- The slots of the vehicles 1 to n are swept.
use Rattle.std.proofs.Common.{◌≡◌}
use Rattle.paper.specs.Store.{swept_to}
use Rattle.store.proofs.sweep_slots.Given as goal

abbrev pub invariant-loop-n : goal.invariant-loop-n
invariant-loop-n l = l.store ≡ swept_to l.initial.store l.clock l.n
