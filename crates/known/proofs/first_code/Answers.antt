-- `known::first_code` meets its contract. Assumes nothing.
use mathlib.Core.Path.{ap}
use native.Mathlib.Omega.{arith}
use Rattle.paper.proofs.SearchLaws.{none_between, low_raised, high_lowered}
use Rattle.known.specs.Known.{code_key}
use Rattle.known.proofs.Laws.{codes_rise, listed_ordered}
use Rattle.known.proofs.first_code.Goals as goal

pub loop-low-preserved-then-code_key-key : goal.loop-low-preserved-then-code_key-key
loop-low-preserved-then-code_key-key c =
    low_raised _ _ _ (codes_rise _ _ (listed_ordered c.args.list.now)) _ _ _ c.loop-low.invariant (omega arith)
    (omega (arith, c.code_key.ensures, ap code_key c.code.ensures.is))

pub loop-low-preserved : goal.loop-low-preserved
loop-low-preserved c =
    high_lowered _ _ _ (codes_rise _ _ (listed_ordered c.args.list.now)) _ _ _ c.loop-low.invariant (omega arith) (omega arith)
    (omega (arith, c.code_key.ensures, ap code_key c.code.ensures.is))

pub returns : goal.returns
returns c = none_between _ _ _ _ _ c.loop-low.invariant c.loop-low-test.false
