use Prim.Native.Nat.{◌≤◌, ◌*◌}
use native.Mathlib.Omega.{arith}
use native.Mathlib.Nat.{mul-le-mul}
use borrow.Author.Tests.{lt-ltb, le-ltb}
use Rattle.paper.specs.SignalList.{opening}
use Rattle.paper.specs.Answer.{refuse_if}
use Rattle.lists.proofs.open.Goals as goal
use Rattle.lists.proofs.open.Goals.{Else-limit-n}

pub returns-then-tail-lt2-clause-answer : goal.returns-then-tail-lt2-clause-answer
unfolding opening refuse_if
returns-then-tail-lt2-clause-answer c = simp (lt-ltb _ _ c.if-tail-lt2.true)

pub returns-then-limit-n-clause-answer : goal.returns-then-limit-n-clause-answer
unfolding opening refuse_if
returns-then-limit-n-clause-answer c = simp (le-ltb _ _ c.if-tail-lt2.false, ← c.read16-n.ensures.value, lt-ltb _ _ c.if-limit-n.true)

small : (c : Else-limit-n) → c.args.size * c.read16-n.result ≤ 18 * 65536
small c = mul-le-mul {n₂ = 18} {m₂ = 65536} (omega arith) (omega arith)

pub overflow_mul-size : goal.overflow_mul-size
overflow_mul-size c = omega (arith, small c)

pub overflow_add-size : goal.overflow_add-size
overflow_add-size c = omega (arith, small c)

pub returns-then-tail-size-clause-answer : goal.returns-then-tail-size-clause-answer
unfolding opening refuse_if
returns-then-tail-size-clause-answer c =
    let b = c in
    simp (le-ltb _ _ b.if-tail-lt2.false, ← b.read16-n.ensures.value, le-ltb _ _ c.if-limit-n.false, lt-ltb _ _ c.if-tail-size.true)

pub returns-clause-answer : goal.returns-clause-answer
unfolding opening refuse_if
returns-clause-answer c =
    let b = c in
    simp (le-ltb _ _ b.if-tail-lt2.false, ← b.read16-n.ensures.value, le-ltb _ _ c.if-limit-n.false, le-ltb _ _ c.if-tail-size.false)
