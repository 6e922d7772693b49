-- What the readers and writers of octets ask and answer.
use Rattle.std.specs.Prelude.{ℕ, ◌+◌, ◌*◌, ◌/◌, ◌%◌, ◌^◌, ◌≤◌, ◌<◌, ◌≡◌, List, length}
use Rattle.paper.specs.Octets.{field, number}

-- a field that lies within the octets l, and fits a u64
pub record Within (l : List ℕ) (start width : ℕ) : Type 0 where
  pub some : 1 ≤ width
  pub wide : width ≤ 64
  pub inside : start + width ≤ 8 * length l

-- r is the field's value; its bound spares a caller the law
pub record FieldRead (l : List ℕ) (start width r : ℕ) : Type 0 where
  pub value : r ≡ field l start width
  pub small : r < 2 ^ width

-- r is the number of the n octets from element `at` on
pub record NumberRead (l : List ℕ) (at n r : ℕ) : Type 0 where
  pub value : r ≡ number l at n
  pub small : r < 2 ^ (8 * n)

-- inner, for a number of 64 bits: x with the low n bits of v in place of its n bits above the k lowest
unfoldable pub merged : ℕ → ℕ → ℕ → ℕ → ℕ
merged x k n v = (x / 2 ^ (k + n) * 2 ^ n + v % 2 ^ n) * 2 ^ k + x % 2 ^ k
