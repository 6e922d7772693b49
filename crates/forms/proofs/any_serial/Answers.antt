use mathlib.Core.Path.{sym, ◌∙◌}
use native.Mathlib.Omega.{arith}
use borrow.Author.Count.{below_more}
use Rattle.paper.proofs.MoveLaws.{all_unset, one_set}
use Rattle.lists.specs.Judged.{counts_of}
use Rattle.forms.proofs.any_serial.Goals as goal

pub returns-then-serial_in-ne0 : goal.returns-then-serial_in-ne0
returns-then-serial_in-ne0 c =
    sym (one_set c.args.list.now (counts_of c.args.n) c.loop-k.k c.loop-k-test.true (λ z. c.if-serial_in-ne0.true (c.serial_in.ensures ∙ z)))

pub loop-k-preserved : goal.loop-k-preserved
loop-k-preserved c = below_more _ _ c.loop-k.invariant (sym c.serial_in.ensures ∙ c.if-serial_in-ne0.false)

pub returns : goal.returns
returns c = sym (all_unset c.args.list.now (counts_of c.args.n) (λ j lt. c.loop-k.invariant j (omega arith)))
