-- `extending::compared` meets its contract. Assumes nothing.
use Rattle.lists.specs.Listed.{list_as}
use Rattle.known.specs.Known.{From}
use Rattle.extending.proofs.Laws.{Along}
use Rattle.extending.proofs.compared.Given as goal

abbrev pub invariant-loop-i : goal.invariant-loop-i
invariant-loop-i l = (Along (list_as l.a) (list_as l.b) l.i l.j) × (From (list_as l.a) l.i l.e) × (From (list_as l.b) l.j l.g)
