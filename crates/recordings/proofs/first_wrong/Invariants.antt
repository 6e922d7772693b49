-- `recordings::first_wrong` meets its contract: every bit before the end of the last route passed is right. Assumes nothing.
use Prim.Native.Nat.{◌*◌, ◌≤◌}
use lib.ListN.{length}
use Rattle.paper.specs.Marshalling.{marshalled}
use Rattle.lists.specs.Listed.{list_as}
use Rattle.recordings.specs.Recordings.{Agrees, Same, Between}
use Rattle.recordings.proofs.first_wrong.Given as goal

abbrev pub invariant-loop-r : goal.invariant-loop-r
invariant-loop-r l = let of = list_as l.list in
    (l.pos ≤ 2048) × (l.pos ≤ 8 * length l.after) × (Between of l.r l.pos)
    × (Agrees (Same l.after (marshalled of l.store l.clock l.before l.list.counts.routes)) 0 l.pos)
