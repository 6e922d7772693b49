-- A vehicle's marks in one octet, and read out of it again. Assumes nothing.
use Prim.Native.Nat.{ℕ, ◌+◌, ◌*◌, ◌/◌, ◌%◌, ◌≤◌}
use native.Mathlib.Omega.{arith}
use mathlib.Core.Path.{◌≡◌, refl, ap₂}
use mathlib.Core.Bool.{Bool, true, false, cond}
use mathlib.Core.List.{List, [], ◌∷◌, map}
use borrow.Author.Tests.{eq-eqb, ne_eqb}
use lib.Dec.{eqb}
use Rattle.paper.specs.Train.{Vehicle}
use Rattle.train.specs.Marks.{vehicle_of, octet_of}

-- what a mark of weight w adds to an octet, by the bit
weighs : (b : Bool) (w : ℕ) → cond b w 0 ≡ w * cond b 1 0
weighs true w = omega arith
weighs false w = omega arith

bit : (b : Bool) → cond b 1 0 ≤ 1
bit true = omega arith
bit false = omega arith

mark : (x k : ℕ) (b : Bool) → x ≡ cond b 1 0 + 2 * k → eqb (x % 2) 1 ≡ b
mark x k true e = eq-eqb (x % 2) 1 (omega arith)
mark x k false e = ne_eqb (x % 2) 1 (λ q. omega arith)

same : (v w : Vehicle) → v.leading ≡ w.leading → v.coach ≡ w.coach → v.tractive ≡ w.tractive → v.led ≡ w.led → v.sleeping ≡ w.sleeping → v ≡ w
same v w a b c d e = λ i. record { leading = a i; coach = b i; tractive = c i; led = d i; sleeping = e i }

-- the marks read out of a vehicle's octet are its own
pub marks_read : (v : Vehicle) → vehicle_of (octet_of v) ≡ v
marks_read v =
    let l : ℕ = cond v.leading 1 0 in
    let c : ℕ = cond v.coach 1 0 in
    let t : ℕ = cond v.tractive 1 0 in
    let d : ℕ = cond v.led 1 0 in
    let s : ℕ = cond v.sleeping 1 0 in
    let m : ℕ = octet_of v in
    let e : m ≡ l + 2 * c + 4 * t + 8 * d + 16 * s = omega (arith, weighs v.coach 2, weighs v.tractive 4, weighs v.led 8, weighs v.sleeping 16) in
    same (vehicle_of m) v
    (mark m (c + 2 * t + 4 * d + 8 * s) v.leading (omega arith))
    (mark (m / 2) (t + 2 * d + 4 * s) v.coach (omega (arith, bit v.leading)))
    (mark (m / 4) (d + 2 * s) v.tractive (omega (arith, bit v.leading, bit v.coach)))
    (mark (m / 8) s v.led (omega (arith, bit v.leading, bit v.coach, bit v.tractive)))
    (mark (m / 16) 0 v.sleeping (omega (arith, bit v.leading, bit v.coach, bit v.tractive, bit v.led)))

pub marks_back : (vs : List Vehicle) → map vehicle_of (map octet_of vs) ≡ vs
marks_back [] = refl
marks_back (v ∷ vs) = ap₂ ◌∷◌ (marks_read v) (marks_back vs)
