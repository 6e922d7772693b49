-- Searching and counting over the indices 0 to n - 1: the tools that the definitions of this folder are written with.
use Rattle.std.specs.Prelude.{ℕ, zero, suc, ◌+◌, ◌-◌, ◌<◌, max, ◌≡◌, Bool, true, false, not, cond, List, [], ◌∷◌, ◌++◌, get_or, eqb}

-- `here` where the test fails, `later` where it passes
abbrev pub stop : Bool → ℕ → ℕ → ℕ
stop false here later = here
stop true here later = later

-- the first of the n indices from i on at which the test fails; i + n where it fails at none
unfoldable pub first_from : (ℕ → Bool) → ℕ → ℕ → ℕ
first_from ok zero i = i
first_from ok (suc n) i = stop (ok i) i (first_from ok n (suc i))

-- the first of the n indices at which the test fails; n where it fails at none
unfoldable pub first_bad : (ℕ → Bool) → ℕ → ℕ
first_bad ok n = first_from ok n 0

-- the test passes at each of the n indices
unfoldable pub all : (ℕ → Bool) → ℕ → Bool
all ok n = eqb (first_bad ok n) n

-- the test passes at one of the n indices at least
unfoldable pub some : (ℕ → Bool) → ℕ → Bool
some ok n = not (all (λ k. not (ok k)) n)

-- the indices from k on and below n at which the test passes, rising
unfoldable pub passing_from : (ℕ → Bool) → ℕ → ℕ → List ℕ
passing_from test zero k = []
passing_from test (suc n) k = cond (test k) (k ∷ passing_from test n (suc k)) (passing_from test n (suc k))

unfoldable pub passing : (ℕ → Bool) → ℕ → ℕ → List ℕ
passing test n k = passing_from test (n - k) k

-- the first of them; n where there is none
unfoldable pub next : (ℕ → Bool) → ℕ → ℕ → ℕ
next test n k = first_from (λ q. not (test q)) (n - k) k

-- at how many of the n indices the test passes
unfoldable pub count : (ℕ → Bool) → ℕ → ℕ
count ok zero = 0
count ok (suc n) = count ok n + cond (ok n) 1 0

-- the greatest of the n numbers f 0, f 1, .., and at least `least`
unfoldable pub greatest : ℕ → (ℕ → ℕ) → ℕ → ℕ
greatest least f zero = least
greatest least f (suc n) = max (greatest least f n) (f n)

-- the n numbers f 0, f 1, ..
unfoldable pub listed : (ℕ → ℕ) → ℕ → List ℕ
listed f zero = []
listed f (suc n) = listed f n ++ (f n ∷ [])

-- the number of the first of the tests that holds, numbered from n on; `other` where none holds
abbrev pub first_of : ℕ → List Bool → ℕ → ℕ
first_of n [] other = other
first_of n (t ∷ ts) other = cond t n (first_of (suc n) ts other)

-- the test i holds and none before it
pub record FirstAt (ts : List Bool) (i : ℕ) : Type 0 where
  pub here : get_or ts i false ≡ true
  pub before : (j : ℕ) → j < i → get_or ts j false ≡ false

-- none holds
abbrev pub None : List Bool → Type 0
None ts = (j : ℕ) → get_or ts j false ≡ false
