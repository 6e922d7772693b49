-- `forms::resize` meets its contract: what stands before the first entry and the entries passed are written. Assumes nothing.
use mathlib.Core.Path.{◌≡◌}
use Rattle.paper.specs.Octets.{over}
use Rattle.lists.specs.Judged.{counts_of}
use Rattle.forms.proofs.Laws.{resized_to}
use Rattle.forms.proofs.resize.Given as goal

abbrev pub invariant-loop-k : goal.invariant-loop-k
invariant-loop-k g l = l.out ≡ over l.fn.out 0 (resized_to g.row.SIZE l.list (counts_of l.n) l.k)
