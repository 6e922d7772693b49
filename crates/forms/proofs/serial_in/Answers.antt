-- `forms::serial_in` meets its contract. Assumes nothing.
use Prim.Native.Nat.{◌+◌, ◌*◌, ◌≤◌}
use native.Mathlib.Omega.{arith}
use lib.ListN.{length}
use Rattle.paper.proofs.ListLaws.{laid}
use Rattle.lists.specs.Judged.{counts_of}
use Rattle.forms.proofs.Laws.{serial_none, serial_there, long_entry, serial_present}
use Rattle.forms.proofs.serial_in.Goals as goal
use Rattle.forms.proofs.serial_in.Goals.{After-rest-signals}

pub returns-then-n-eq-SIGNAL_SIZE : goal.returns-then-n-eq-SIGNAL_SIZE
returns-then-n-eq-SIGNAL_SIZE c = serial_none _ _ _ c.if-n-eq-SIGNAL_SIZE.true

pub rest-signals-requires : goal.rest-signals-requires
rest-signals-requires c = (laid _ _ _ c.requires.0.judged).checks.opens.present

there : (c : After-rest-signals) → 2 + c.args.n.size * c.args.k + 16 + 2 ≤ length c.rest-signals.result.now
there c = rw c.rest-signals.ensures (serial_present _ _ c.requires.0 c.if-n-eq-SIGNAL_SIZE.false _ c.requires.1)

pub overflow_mul-n : goal.overflow_mul-n
overflow_mul-n c = omega (arith, there (goal.at.overflow_mul-n c).After-rest-signals)

pub overflow_add-n : goal.overflow_add-n
overflow_add-n c = omega (arith, there (goal.at.overflow_add-n c).After-rest-signals)

pub overflow_add-n-2 : goal.overflow_add-n-2
overflow_add-n-2 c = omega (arith, there (goal.at.overflow_add-n-2 c).After-rest-signals)

pub read16-requires : goal.read16-requires
read16-requires c = omega (arith, there (goal.at.read16-requires c).After-rest-signals)

pub returns : goal.returns
returns c = serial_there _ _ _ _ (long_entry _ (counts_of c.args.n) c.requires.0 c.if-n-eq-SIGNAL_SIZE.false) (rw c.rest-signals.ensures at c.read16.ensures.value)
