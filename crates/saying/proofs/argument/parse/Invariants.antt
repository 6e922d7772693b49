-- `saying::argument::parse` meets its contract. The loop's invariant: what is left, behind the number so far, reads as the whole. Assumes nothing.
use Rattle.std.proofs.Common.{◌≡◌, ◌≤◌, drop}
use Rattle.saying.specs.Numbers.{number_from, number_in}
use Rattle.saying.proofs.argument.parse.Given as goal

abbrev pub invariant-loop-x : goal.invariant-loop-x
invariant-loop-x l = (l.n ≤ l.most) × (number_from l.most l.n (drop l.x-index l.text) ≡ number_in l.most l.text)
