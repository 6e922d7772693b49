use mathlib.Core.Path.{◌≡◌, ap, ◌∙◌}
use Prim.Native.Nat.{ℕ, ◌+◌, ◌-◌, ◌*◌, ◌/◌, ◌%◌, ◌^◌}
use native.Mathlib.Omega.{arith}
use Rattle.octets.proofs.Laws.{shifted, within}
use Rattle.octets.proofs.read_window.Goals as goal

pub returns : goal.returns
returns c =
    let a = c.args in
    let k = 64 - (a.b + a.width) in
    let all : a.b + a.width + k ≡ 64 = omega arith in
    ap (λ (x : ℕ). x * 2 ^ a.b % 2 ^ 64 / 2 ^ (64 - a.width)) c.read64.ensures.value
    ∙ shifted a.b a.width k all _
    ∙ within a.b a.width k all a.s.now a.q (λ i. (c.shared_slice_known-1.given i).fits)
