-- `grouping::check_place` meets its contract. The invariant: no row passed covers the bit. Assumes nothing.
use mathlib.Core.Path.{◌≡◌}
use lib.ListN.{drop}
use Rattle.paper.specs.Telegrams.{rows, place_in, check_place}
use Rattle.grouping.proofs.check_place.Given as goal

abbrev pub invariant-loop-row : goal.invariant-loop-row
invariant-loop-row l = check_place l.bit ≡ place_in (drop l.row-index rows) l.bit
