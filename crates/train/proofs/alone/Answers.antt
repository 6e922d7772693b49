-- `train::alone` meets its contract. Assumes nothing.
use mathlib.Core.Path.{◌∙◌}
use mathlib.Core.Logic.{inl, inr}
use Prim.Native.Nat.{suc}
use native.Mathlib.Nat.{one-mul, lt_irrefl}
use native.Mathlib.Omega.{arith}
use borrow.Author.Tests.{ne_eqb}
use lib.Dec.{lit<, eqb}
use lib.Pow.{shl_exact}
use Rattle.paper.proofs.SetLaws.{set_none, set_alone}
use Rattle.train.proofs.alone.Goals as goal

pub returns-then-n-v : goal.returns-then-n-v
returns-then-n-v c =
    let a = c.args in
    set_none (λ i. eqb i a.v) a.n (λ i h. ne_eqb (suc i) a.v (λ e. lt_irrefl 0 (elim c.if-n-v.either [ inl z ↦ omega arith | inr w ↦ omega arith ])))

pub returns-else-n-v : goal.returns-else-n-v
returns-else-n-v c =
    let v = c.args.v in
    let some = c.if-n-v.false.0 in
    shl_exact 1 v 64 (lit< tt) (omega arith) ∙ one-mul _ ∙ set_alone v _ (omega arith) (omega arith)
