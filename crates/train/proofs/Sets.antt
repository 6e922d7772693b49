-- A set as a number, from its last member down. Assumes nothing.
use mathlib.Core.Path.{◌≡◌, sym, ap, ◌∙◌}
use mathlib.Core.Bool.{Bool, cond}
use Prim.Native.Nat.{ℕ, suc, ◌+◌, ◌*◌, ◌^◌, ◌≤◌, ◌<◌}
use native.Mathlib.Nat.{zero-mul, mul_assoc, add_comm, add-mul, mul-le-mul_left, lt_of_lt_of_le}
use native.Mathlib.Omega.{arith}
use lib.Pow.{pow-add, pow_mono}
use Rattle.paper.specs.Train.{set_to}
use Rattle.paper.proofs.SetLaws.{digit, set_lt}
use Rattle.train.specs.Marks.{above}

pub above_none : (p : ℕ → Bool) (n : ℕ) → above p n n 0
above_none p n = omega (arith, zero-mul (2 ^ suc n))

pub above_one : (p : ℕ → Bool) (m i b : ℕ) → m ≡ suc i → b ≡ cond (p (suc i)) 1 0 → above p m i b
above_one p m i b w e = rw e (rw w (add_comm (set_to p i) _ ∙ sym (digit p i)))

-- d numbers more
pub above_more : (p : ℕ → Bool) (n m i d s r : ℕ) → m ≡ i + d → above p n m s → above p m i r → above p n i (s * 2 ^ d + r)
above_more p n m i d s r e h k =
    let x : suc m ≡ d + suc i = omega arith in
    let w : 2 ^ suc m ≡ 2 ^ d * 2 ^ suc i = ap (λ (x : ℕ). 2 ^ x) x ∙ pow-add 2 d (suc i) in
    let y : s * 2 ^ suc m ≡ s * 2 ^ d * 2 ^ suc i = ap (λ (x : ℕ). s * x) w ∙ sym (mul_assoc s (2 ^ d) (2 ^ suc i)) in
    omega (arith, h, k, y, add-mul (s * 2 ^ d) r (2 ^ suc i))

pub above_all : (p : ℕ → Bool) (n s : ℕ) → above p n 0 s → s * 2 ≡ set_to p n
unfolding set_to
above_all p n s h = omega (arith, h)

pub above_fits : (p : ℕ → Bool) (n i d s : ℕ) → n ≤ 63 → d ≤ suc i → above p n i s → s * 2 ^ d < 2 ^ 64
above_fits p n i d s few less h =
    let l : s * 2 ^ d ≤ s * 2 ^ suc i = mul-le-mul_left s (pow_mono less) in
    let t : set_to p n < 2 ^ 64 = lt_of_lt_of_le (set_lt p n) (pow_mono {i = suc n} {j = 64} (omega arith)) in
    omega (arith, h)
