-- `profiles::is_under` meets its contract: every bit passed has the place. Assumes nothing.
use Prim.Native.Nat.{◌+◌}
use Rattle.paper.specs.Telegrams.{check_place}
use Rattle.paper.specs.Profiles.{gives_place}
use Rattle.paper.proofs.LoopLaws.{Passed}
use Rattle.profiles.proofs.is_under.Given as goal

abbrev pub invariant-loop-i : goal.invariant-loop-i
invariant-loop-i l = Passed (λ j. gives_place (check_place (l.start + j)) l.place) l.width l.i
