-- `spelling::spell::spell_all` meets its contract. The invariant: the first k characters stand in the output. Assumes nothing.
use Prim.Native.Nat.{◌-◌, ◌≤◌}
use Rattle.spelling.proofs.Turns.{Spelt}
use Rattle.spelling.proofs.spell.spell_all.Given as goal

abbrev pub invariant-loop-k : goal.invariant-loop-k
invariant-loop-k l = (l.k ≤ l.n) × Spelt l.text l.initial.out l.out l.at l.k

abbrev pub decreases-loop-k : goal.decreases-loop-k
decreases-loop-k l = l.n - l.k
