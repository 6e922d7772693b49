-- Request C-18: a serial number that is packed and unpacked is the same, is never 0 and has 16 bits; and 16 bits that are unpacked and packed are
-- the same. Assumes nothing.
use Prim.Native.Nat.{ℕ, ◌+◌, ◌*◌, ◌/◌, ◌%◌, ◌<◌}
use mathlib.Core.Path.{◌≡◌, sym, ap, ◌∙◌}
use native.Mathlib.Omega.{arith}
use Rattle.paper.specs.Serials.{Serial, Packable, packed, unpacked}

module _ (s : Serial) (h : Packable s) where
  pub packed_most : packed s < 65536
  unfolding packed
  packed_most = omega (arith, h)

  pub packed_some : 0 < packed s
  unfolding packed
  packed_some = omega (arith, h)

  pub unpacked_packed : unpacked (packed s) ≡ s
  unfolding packed unpacked
  unpacked_packed =
      let n = ((s.group * 64 + s.number) * 8 + s.letters) * 8 + s.variant in
      let g : n / 4096 ≡ s.group = omega (arith, h) in
      let m : n / 64 % 64 ≡ s.number = omega (arith, h) in
      let l : n / 8 % 8 ≡ s.letters = omega (arith, h) in
      let v : n % 8 ≡ s.variant = omega (arith, h) in
      rw (g, m, l, v)

-- two that are packed to one number are one
pub packed_one : (s t : Serial) → Packable s → Packable t → packed s ≡ packed t → s ≡ t
packed_one s t h k e = sym (unpacked_packed s h) ∙ ap unpacked e ∙ unpacked_packed t k

pub packed_unpacked : (n : ℕ) → packed (unpacked n) ≡ n
unfolding packed unpacked
packed_unpacked n = omega arith
