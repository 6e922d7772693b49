use mathlib.Core.Path.{◌≡◌, ap, ◌∙◌}
use Prim.Native.Nat.{ℕ, ◌+◌, ◌*◌, ◌^◌}
use native.Mathlib.Omega.{arith}
use lib.Bits.{bit_or, or_shifted}
use Rattle.paper.proofs.NumberLaws.{number_split}
use Rattle.octets.proofs.read64.Goals as goal

pub returns : goal.returns
returns c =
    let a = c.args in
    let h = c.read16.result * 65536 + c.read16-2.result in
    let e : c.read16.result * 281474976710656 + c.read16-2.result * 4294967296 ≡ h * 2 ^ 32 = omega arith in
    let j = ap (λ (x : ℕ). bit_or x c.read32.result) e ∙ or_shifted h 32 c.read32.result (omega arith) in
    record {
      value = j ∙ omega (arith, number_split a.s.now a.at 4 4, number_split a.s.now a.at 2 2);
      small = rw j (omega arith);
    }
