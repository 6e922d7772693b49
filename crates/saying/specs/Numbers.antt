-- A decimal number in ASCII, read digit by digit.
use Rattle.std.specs.Prelude.{ℕ, ◌+◌, ◌-◌, ◌*◌, Bool, cond, ◌&&◌, List, [], ◌∷◌, length, ◌==◌, nat_le, Option, None, Some}

-- n with one digit more
abbrev pub and_digit : ℕ → ℕ → ℕ
and_digit n x = n * 10 + (x - 48)

abbrev pub goes_on : ℕ → ℕ → ℕ → Bool
goes_on most n x = nat_le 48 x && nat_le x 57 && nat_le (and_digit n x) most

-- the number n, with the digits that follow
unfoldable pub number_from : ℕ → ℕ → List ℕ → Option ℕ
number_from most n [] = Some n
number_from most n (x ∷ xs) = cond (goes_on most n x) (number_from most (and_digit n x) xs) None

-- at least one digit
abbrev pub number_in : ℕ → List ℕ → Option ℕ
number_in most xs = cond (length xs == 0) None (number_from most 0 xs)
