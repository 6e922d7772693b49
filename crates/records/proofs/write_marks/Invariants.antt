-- `records::write_marks` meets its contract. The invariant: the first i stand over the marks. Assumes nothing.
use mathlib.Core.Path.{◌≡◌}
use mathlib.Core.List.{map}
use lib.Seq.{paste}
use Rattle.records.specs.Records.{below32}
use Rattle.records.proofs.write_marks.Given as goal

abbrev pub invariant-loop-i : goal.invariant-loop-i
invariant-loop-i l = l.marks ≡ paste l.initial.marks 0 (map below32 l.at) l.i
