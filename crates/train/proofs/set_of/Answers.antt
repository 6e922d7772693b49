-- `train::set_of` meets its contract. Assumes nothing.
use mathlib.Core.Path.{refl, sym, ap, ◌∙◌}
use mathlib.Core.Bool.{true, false}
use Prim.Native.Nat.{ℕ, ◌%◌}
use native.Mathlib.Nat.{div-one}
use native.Mathlib.Omega.{arith}
use borrow.Author.Tests.{le-leb, lt-leb, ne_eqb}
use lib.Dec.{eqb}
use lib.ListN.{length}
use Rattle.paper.specs.Train.{meets}
use Rattle.paper.proofs.SetLaws.{set_none}
use Rattle.train.proofs.Over.{set_meets, set_marked}
use Rattle.train.proofs.set_of.Goals as goal

pub returns-in-0-to-63 : goal.returns-in-0-to-63
unfolding meets
returns-in-0-to-63 c =
    let a = c.args in
    c.alone.ensures ∙ set_meets a.marks.now a.address (λ v. eqb v a.address) (λ i. simp (le-leb a.address 63 (omega arith)))

pub returns-in-64 : goal.returns-in-64
unfolding meets
returns-in-64 c =
    let a = c.args in
    c.with_mark.ensures ∙ set_marked a.marks.now a.address 0 (λ v m. rw c.in-64.is (ap (λ (x : ℕ). eqb (x % 2) 1) (sym (div-one m))))

pub returns-in-65 : goal.returns-in-65
unfolding meets
returns-in-65 c =
    let a = c.args in
    c.with_mark-in-65.ensures ∙ set_marked a.marks.now a.address 3 (λ v m. rw c.in-65.is)

pub returns-in-66 : goal.returns-in-66
unfolding meets
returns-in-66 c =
    let a = c.args in
    c.all.ensures ∙ set_meets a.marks.now a.address (λ v. true) (λ i. rw c.in-66.is)

pub returns-in-67 : goal.returns-in-67
unfolding meets
returns-in-67 c =
    let a = c.args in
    c.with_mark-in-67.ensures ∙ set_marked a.marks.now a.address 1 (λ v m. rw c.in-67.is)

pub returns-in-70 : goal.returns-in-70
unfolding meets
returns-in-70 c =
    let a = c.args in
    c.with_mark-in-70.ensures ∙ set_marked a.marks.now a.address 2 (λ v m. rw c.in-70.is)

pub returns-in-92 : goal.returns-in-92
unfolding meets
returns-in-92 c =
    let a = c.args in
    c.with_mark-in-92.ensures ∙ set_marked a.marks.now a.address 4 (λ v m. rw c.in-92.is)

pub returns-in_default : goal.returns-in_default
unfolding meets
returns-in_default c =
    let a = c.args in
    let past = lt-leb a.address 63 (omega arith) in
    set_none (λ v. false) (length a.marks.now) (λ i h. refl) ∙ set_meets a.marks.now a.address (λ v. false) (λ i.
    simp (past, ne_eqb a.address 64 (omega arith), ne_eqb a.address 65 (omega arith), ne_eqb a.address 66 (omega arith), ne_eqb a.address 67 (omega arith), ne_eqb a.address 70 (omega arith), ne_eqb a.address 92 (omega arith)))
