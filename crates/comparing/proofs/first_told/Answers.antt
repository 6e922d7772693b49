use Rattle.comparing.specs.Comparing.{none_passed, one_passed}
use Rattle.comparing.proofs.first_told.Goals as goal

pub loop-p-init : goal.loop-p-init
loop-p-init g c = none_passed

pub loop-p-preserved : goal.loop-p-preserved
loop-p-preserved g c = one_passed _ c.in-Some.p c.loop-p.invariant c.in-Some.ensures c.in_default-told.ensures
