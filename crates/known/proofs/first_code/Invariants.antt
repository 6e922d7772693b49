-- `known::first_code` meets its contract. Assumes nothing.
use Prim.Native.Nat.{◌-◌}
use Rattle.paper.specs.Search.{Between}
use Rattle.lists.specs.Listed.{list_as}
use Rattle.known.specs.Known.{code_keys}
use Rattle.known.proofs.first_code.Given as goal

abbrev pub invariant-loop-low : goal.invariant-loop-low
invariant-loop-low l = Between (code_keys (list_as l.list).code) l.list.counts.codes l.key l.low l.high

abbrev pub decreases-loop-low : goal.decreases-loop-low
decreases-loop-low l = l.high - l.low
