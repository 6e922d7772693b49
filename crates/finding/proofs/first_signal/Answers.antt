use mathlib.Core.Path.{ap}
use native.Mathlib.Omega.{arith}
use Rattle.paper.specs.Pairs.{signal_key}
use Rattle.paper.proofs.SearchLaws.{none_between, low_raised, high_lowered}
use Rattle.finding.proofs.Laws.{keys_rise}
use Rattle.finding.proofs.first_signal.Goals as goal

pub loop-low-preserved-then-signal_key-key : goal.loop-low-preserved-then-signal_key-key
loop-low-preserved-then-signal_key-key c =
    low_raised _ _ _ (keys_rise c.args.list.now).rise _ _ _ c.loop-low.invariant (omega arith) (omega (arith, c.signal_key.ensures, ap signal_key c.signal.ensures.is))

pub loop-low-preserved : goal.loop-low-preserved
loop-low-preserved c =
    high_lowered _ _ _ (keys_rise c.args.list.now).rise _ _ _ c.loop-low.invariant (omega arith) (omega arith) (omega (arith, c.signal_key.ensures, ap signal_key c.signal.ensures.is))

pub returns : goal.returns
returns c = none_between _ _ _ _ _ c.loop-low.invariant c.loop-low-test.false
