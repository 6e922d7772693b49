use Rattle.paper.specs.Profiles.{signal_broken}
use Rattle.paper.proofs.LoopLaws.{fails_nowhere}
use Rattle.lists.specs.Listed.{list_as}
use Rattle.profiles.specs.Profiles.{profile_of}
use Rattle.profiles.proofs.Laws.{breaks_here}
use Rattle.profiles.proofs.first_bad_signal.Goals as goal

pub returns-then-signal_broken-ne0 : goal.returns-then-signal_broken-ne0
returns-then-signal_broken-ne0 c =
    breaks_here (signal_broken (profile_of c.args.profile) (list_as c.args.list.now)) c.loop-k.invariant.0 c.loop-k-test.true c.signal_broken.ensures
    c.if-signal_broken-ne0.true

pub returns : goal.returns
returns c = fails_nowhere c.loop-k.invariant.0 c.loop-k-test.false
