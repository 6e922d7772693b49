-- `comparing::next_code` meets its contract: it goes from stretch to stretch of both signals. Assumes nothing.
use Prim.Native.Nat.{◌-◌, ◌≤◌}
use Rattle.lists.specs.Listed.{list_as}
use Rattle.comparing.specs.Comparing.{wanted}
use Rattle.comparing.proofs.Laws.{Clear}
use Rattle.comparing.proofs.next_code.Given as goal

abbrev pub invariant-loop-c : goal.invariant-loop-c
invariant-loop-c l = (Clear (wanted (list_as l.a) (list_as l.b) l.i l.j l.want) l.from l.c) × (l.c ≤ l.top)

abbrev pub decreases-loop-c : goal.decreases-loop-c
decreases-loop-c l = l.top - l.c
