-- `records::marks_of` meets its contract. The invariant: the octets stored are the marks of the first i vehicles. Assumes nothing.
use mathlib.Core.Path.{◌≡◌}
use lib.ListN.{length, take}
use Rattle.records.proofs.Laws.{marks_of}
use Rattle.records.proofs.marks_of.Given as goal

abbrev pub invariant-loop-i : goal.invariant-loop-i
invariant-loop-i l = (length l.at ≡ 63) × (take l.i l.at ≡ take l.i (marks_of l.records l.pairs))
