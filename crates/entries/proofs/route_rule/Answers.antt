-- `entries::route_rule` meets its contract. Assumes nothing.
use Prim.Native.Nat.{ℕ, zero, suc, ◌+◌, ◌*◌}
use mathlib.Core.Path.{◌≡◌}
use mathlib.Core.Bool.{◌&&◌, and-true, and-false}
use native.Mathlib.Omega.{arith}
use lib.Dec.{leb, eqb}
use borrow.Author.Tests.{lt-ltb, le-ltb, lt-leb, ne_eqb}
use Rattle.entries.specs.Entries.{route_keeps}
use Rattle.entries.proofs.route_rule.Goals as goal

-- a null that is not 0 puts the number past every vehicle
one_range : (vehicle null : ℕ) → (leb 1 (vehicle + 256 * null) && leb (vehicle + 256 * null) 63) ≡ (leb 1 vehicle && leb vehicle 63 && eqb null 0)
one_range vehicle zero = let e : vehicle + 256 * 0 ≡ vehicle = omega arith in rw (e, and-true)
one_range vehicle (suc null) = simp (lt-leb (vehicle + 256 * suc null) 63 (omega arith), ne_eqb (suc null) 0 (λ z. omega arith), and-false)

pub returns-then-signals-r : goal.returns-then-signals-r
unfolding route_keeps
returns-then-signals-r c = simp (le-ltb _ _ c.if-signals-r.true)

pub returns : goal.returns
unfolding route_keeps
returns c =
    let e = c in
    rw (lt-ltb _ _ e.if-signals-r.false, ← e.route_end.ensures, one_range)
