use Prim.Native.Nat.{ℕ, ◌+◌, ◌*◌, ◌%◌, ◌^◌, ◌≤◌}
use mathlib.Core.Path.{◌≡◌, sym, ap, ◌∙◌}
use native.Mathlib.Nat.{one-mul}
use native.Mathlib.Omega.{arith}
use lib.Dec.{lit<}
use lib.Pow.{shl_exact}
use borrow.Author.Rules.{rules}
use borrow.Author.Tests.{eq-eqb, ne_eqb}
use Rattle.doors.specs.Doors.{state_as}
use Rattle.doors.proofs.Laws.{sofar_none, sofar_fits, sofar_passed, sofar_locked, sofar_open, sofar_unknown, sofar_side}
use Rattle.doors.proofs.side_of.Goals as goal
use Rattle.doors.proofs.side_of.Goals.{In-loop-v}

-- a vehicle's bit, which is below 2 ^ 64
bit : (v : ℕ) → v ≤ 63 → (1 * 2 ^ v) % 2 ^ 64 ≡ 2 ^ v
bit v h = shl_exact 1 v 64 (lit< tt) (omega arith) ∙ one-mul (2 ^ v)

pub loop-v-init : goal.loop-v-init
loop-v-init c = (search rules, sofar_none _ _)

pub vehicle_says-state-requires : goal.vehicle_says-state-requires
vehicle_says-state-requires c =
    let p = c.requires in
    (p.0, p.1, omega arith, omega arith, p.3)

pub overflow_add-kept : goal.overflow_add-kept
overflow_add-kept c =
    let l = c.loop-v in
    record { fits = rw (bit (l.v + 1) (omega (arith, c.requires.2))) (sofar_fits _ _ l.v l.kept l.any l.invariant.1 (omega (arith, c.requires.2))) }

pub overflow_add-kept-in-Unknown : goal.overflow_add-kept-in-Unknown
overflow_add-kept-in-Unknown c =
    let l = c.loop-v in
    record { fits = rw (bit (l.v + 1) (omega (arith, c.requires.2))) (sofar_fits _ _ l.v l.kept l.any l.invariant.1 (omega (arith, c.requires.2))) }

pub loop-v-preserved-in-Locked : goal.loop-v-preserved-in-Locked
loop-v-preserved-in-Locked c =
    let l = c.loop-v in (
      omega (arith, c.loop-v-test.true),
      sofar_locked _ _ l.v l.kept l.any l.invariant.1 (eq-eqb _ 1 c.if-set-v-eq1.true) (sym (ap state_as c.in-Locked.is) ∙ c.vehicle_says-state.ensures),
    )

pub loop-v-preserved-in-Open : goal.loop-v-preserved-in-Open
loop-v-preserved-in-Open c =
    let l = c.loop-v in (
      omega (arith, c.loop-v-test.true),
      rw (bit (l.v + 1) (omega (arith, c.requires.2)))
          (sofar_open _ _ l.v l.kept l.any l.invariant.1 (eq-eqb _ 1 c.if-set-v-eq1.true) (sym (ap state_as c.in-Open.is) ∙ c.vehicle_says-state.ensures)),
    )

pub loop-v-preserved-in-Unknown : goal.loop-v-preserved-in-Unknown
loop-v-preserved-in-Unknown c =
    let l = c.loop-v in (
      omega (arith, c.loop-v-test.true),
      rw (bit (l.v + 1) (omega (arith, c.requires.2)))
          (sofar_unknown _ _ l.v l.kept l.any l.invariant.1 (eq-eqb _ 1 c.if-set-v-eq1.true) (sym (ap state_as c.in-Unknown.is) ∙ c.vehicle_says-state.ensures)),
    )

pub loop-v-preserved : goal.loop-v-preserved
loop-v-preserved c =
    let l = c.loop-v in
    (omega (arith, c.loop-v-test.true), sofar_passed _ _ l.v l.kept l.any l.invariant.1 (ne_eqb _ 1 c.if-set-v-eq1.false))

pub returns : goal.returns
returns c =
    let l = c.loop-v in
    let a = c.args in
    let e : l.v ≡ a.last = omega (arith, l.invariant.0, c.loop-v-test.false) in
    let t = c.told.ensures in
    sofar_side _ _ a.last l.kept l.any (rw e at l.invariant.1) _ _ _ t.0 t.1 t.2
