-- Numbers that rise, and what a search among the first n of them keeps.
use Rattle.std.specs.Prelude.{ℕ, ◌≤◌, ◌<◌}

-- of any two the later is the greater
abbrev pub Rises : (ℕ → ℕ) → ℕ → Type 0
Rises f n = (i j : ℕ) → i < j → j < n → f i < f j

-- what a search keeps: the numbers before `low` are below the key, those from `high` on are not
pub record Between (f : ℕ → ℕ) (n key low high : ℕ) : Type 0 where
  pub ordered : low ≤ high
  pub most : high ≤ n
  pub below : (k : ℕ) → k < low → f k < key
  pub above : (k : ℕ) → high ≤ k → k < n → key ≤ f k

-- nothing is left between: r parts the numbers
abbrev pub Cut : (ℕ → ℕ) → ℕ → ℕ → ℕ → Type 0
Cut f n key r = Between f n key r r
