-- `profiles::first_bad_signal` meets its contract: every signal passed keeps the profile. Assumes nothing.
use lib.Dec.{eqb}
use Rattle.paper.specs.Profiles.{signal_broken}
use Rattle.paper.proofs.LoopLaws.{Passed}
use Rattle.lists.specs.Listed.{list_as}
use Rattle.known.specs.Known.{From}
use Rattle.profiles.specs.Profiles.{profile_of}
use Rattle.profiles.proofs.first_bad_signal.Given as goal

abbrev pub invariant-loop-k : goal.invariant-loop-k
invariant-loop-k l =
    (Passed (λ j. eqb (signal_broken (profile_of l.profile) (list_as l.list) j) 0) l.list.counts.signals l.k) × (From (list_as l.list) l.k l.e)
