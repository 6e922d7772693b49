-- `shown::value` meets its contract: each scale is a whole number of 4096ths, and equal fractions have one nearest f32. Assumes nothing.
use mathlib.Core.Path.{◌≡◌, ap, ◌∙◌}
use mathlib.Core.Bool.{false}
use Prim.Native.Nat.{ℕ, ◌*◌, ◌<◌}
use native.Mathlib.Omega.{arith}
use lib.Dec.{lit<}
use lib.Ieee.{binary32}
use lib.Ieee.Scale.{round_same}
use Rattle.paper.specs.Shown.{nearest, as_speed, as_current}
use Rattle.shown.proofs.value.Goals as goal

-- a scale of m / d in 4096ths
in_parts : (n m d : ℕ) → 0 < d → n * d ≡ m * 4096 → nearest false n 4096 ≡ nearest false m d
in_parts n m d h e = round_same binary32 false n 4096 m d (lit< tt) h e

pub returns-in-Speed : goal.returns-in-Speed
returns-in-Speed c =
    let raw = c.args.raw in
    rw c.in-Speed.is (ap as_speed (c.parts.ensures ∙ in_parts _ raw 64 (lit< tt) (omega arith)))

pub returns-in-Current : goal.returns-in-Current
returns-in-Current c =
    let raw = c.args.raw in
    rw c.in-Current.is (ap as_current (c.parts-in-Current.ensures ∙ in_parts _ (raw * 125) 2048 (lit< tt) (omega arith)))
