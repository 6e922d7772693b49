-- A set as a number: how large it is, which bits it has, and that its ones are its members. Assumes nothing.
use mathlib.Core.Path.{◌≡◌, refl, sym, ap, ap₂, ◌∙◌}
use mathlib.Core.Bool.{Bool, true, false, cond}
use Prim.Native.Nat.{ℕ, zero, suc, ◌+◌, ◌-◌, ◌*◌, ◌/◌, ◌%◌, ◌^◌, ◌≤◌, ◌<◌}
use native.Mathlib.Nat.{one-mul, zero-mul, mul_assoc, add_comm, add-zero, lt_irrefl, add-mul-div_right, pow-succ'}
use native.Mathlib.Decide.{dec_le}
use native.Mathlib.Omega.{arith}
use borrow.Author.Tests.{eq-eqb, ne_eqb}
use lib.Dec.{eqb}
use lib.Pow.{pow-add, pow_pos, high}
use lib.Bits.{block_odd}
use lib.Count.{ones, ones_cat}
use Rattle.paper.specs.Train.{set_to}
use Rattle.paper.specs.First.{count}

-- the topmost number is one more digit, set or not
pub digit : (p : ℕ → Bool) (n : ℕ) → set_to p (suc n) ≡ cond (p (suc n)) 1 0 * 2 ^ suc n + set_to p n
unfolding set_to
digit p n = add_comm (set_to p n) (cond (p (suc n)) (2 ^ suc n) 0) ∙ ap (λ (x : ℕ). x + set_to p n) (go (p (suc n)))
  where
    go : (b : Bool) → cond b (2 ^ suc n) 0 ≡ cond b 1 0 * 2 ^ suc n
    go true = sym (one-mul (2 ^ suc n))
    go false = sym (zero-mul (2 ^ suc n))

cond_le : (b : Bool) → cond b 1 0 ≤ 1
cond_le true = omega arith
cond_le false = omega arith

pub set_lt : (p : ℕ → Bool) (n : ℕ) → set_to p n < 2 ^ suc n
unfolding set_to
set_lt p zero = omega arith
set_lt p (suc n) = go (p (suc n)) (set_lt p n)
  where
    go : (b : Bool) → set_to p n < 2 ^ suc n → set_to p n + cond b (2 ^ suc n) 0 < 2 ^ suc (suc n)
    go true h = omega (arith, pow-succ' 2 (suc n))
    go false h = omega (arith, pow-succ' 2 (suc n))

one_digit : (b : Bool) → ones (cond b 1 0) ≡ cond b 1 0
unfolding ones
one_digit true = refl
one_digit false = refl

-- the ones of a set are its members
pub ones_count : (p : ℕ → Bool) (n : ℕ) → ones (set_to p n) ≡ count (λ i. p (suc i)) n
unfolding set_to count ones
ones_count p zero = refl
ones_count p (suc n) =
    ap ones (digit p n) ∙ ones_cat (suc n) (cond (p (suc n)) 1 0) (set_to p n) (set_lt p n)
    ∙ ap₂ ◌+◌ (one_digit (p (suc n))) (ones_count p n) ∙ add_comm (cond (p (suc n)) 1 0) (count (λ i. p (suc i)) n)

-- bit v is set exactly for a member
pub bits : (p : ℕ → Bool) (n v : ℕ) → 1 ≤ v → v ≤ n → set_to p n / 2 ^ v % 2 ≡ cond (p v) 1 0
bits p zero v h k = absurd (omega arith)
bits p (suc n) v h k = elim (dec_le v n) [
  | yes l ↦
      let d = n - v in
      let e : suc n ≡ suc d + v = omega arith in
      let D : ℕ = cond (p (suc n)) 1 0 in
      ap (λ (x : ℕ). x / 2 ^ v % 2)
      (digit p n ∙ add_comm (D * 2 ^ suc n) (set_to p n)
      ∙ ap (λ (x : ℕ). set_to p n + x) (ap (λ (x : ℕ). D * 2 ^ x) e ∙ ap (λ (x : ℕ). D * x) (pow-add 2 (suc d) v) ∙ sym (mul_assoc D (2 ^ suc d) (2 ^ v))))
      ∙ ap (λ (x : ℕ). x % 2) (add-mul-div_right (set_to p n) (D * 2 ^ suc d) (pow_pos v) ∙ add_comm (set_to p n / 2 ^ v) (D * 2 ^ suc d))
      ∙ block_odd D d (set_to p n / 2 ^ v) ∙ bits p n v h l
  | no g ↦
      let e : v ≡ suc n = omega arith in
      rw e (ap (λ (x : ℕ). x / 2 ^ suc n % 2) (digit p n) ∙ ap (λ (x : ℕ). x % 2) (high (cond (p (suc n)) 1 0) (suc n) (set_lt p n)) ∙ small (p (suc n)))
]
  where
    small : (b : Bool) → cond b 1 0 % 2 ≡ cond b 1 0
    small true = refl
    small false = refl

-- ---- sets without a look at each number

pub set_alike : (p q : ℕ → Bool) (n : ℕ) → ((i : ℕ) → i < n → p (suc i) ≡ q (suc i)) → set_to p n ≡ set_to q n
unfolding set_to
set_alike p q zero e = refl
set_alike p q (suc n) e = ap₂ (λ (s : ℕ) (b : Bool). s + cond b (2 ^ suc n) 0) (set_alike p q n (λ i h. e i (omega arith))) (e n (omega arith))

pub set_same : (p q : ℕ → Bool) (n : ℕ) → ((i : ℕ) → p (suc i) ≡ q (suc i)) → set_to p n ≡ set_to q n
set_same p q n e = set_alike p q n (λ i h. e i)

pub set_none : (p : ℕ → Bool) (n : ℕ) → ((i : ℕ) → i < n → p (suc i) ≡ false) → 0 ≡ set_to p n
unfolding set_to
set_none p zero e = refl
set_none p (suc n) e = set_none p n (λ i l. e i (omega arith)) ∙ sym (simp (e n (omega arith), add-zero))

pub set_all : (n : ℕ) → set_to (λ _. true) n + 2 ≡ 2 ^ suc n
unfolding set_to
set_all zero = refl
set_all (suc n) = omega (arith, set_all n, pow-succ' 2 (suc n))

pub set_alone : (v n : ℕ) → 1 ≤ v → v ≤ n → 2 ^ v ≡ set_to (λ i. eqb i v) n
unfolding set_to
set_alone v zero h l = absurd (omega arith)
set_alone v (suc n) h l = elim (dec_le v n) [
  | yes k ↦ simp (ne_eqb (suc n) v (λ e. lt_irrefl n (omega arith))) (set_alone v n h k ∙ sym (add-zero _))
  | no g ↦
      let e : suc n ≡ v = omega arith in
      let z : 0 ≡ set_to (λ i. eqb i v) n = set_none (λ i. eqb i v) n (λ i k. ne_eqb (suc i) v (λ q. lt_irrefl n (omega arith))) in
      ap (λ (x : ℕ). 2 ^ x) (sym e) ∙ simp (eq-eqb (suc n) v e) (omega (arith, z))
]

-- no number stands at bit 0
pub even : (p : ℕ → Bool) (n : ℕ) → set_to p n % 2 ≡ 0
unfolding set_to
even p zero = refl
even p (suc n) = go (p (suc n)) (even p n)
  where
    go : (b : Bool) → set_to p n % 2 ≡ 0 → (set_to p n + cond b (2 ^ suc n) 0) % 2 ≡ 0
    go true h = omega (arith, pow-succ' 2 n)
    go false h = omega arith
