-- A language, two octets, as it is shown: by its letters, or in hexadecimal where one is no letter.
use Rattle.std.specs.Prelude.{ℕ, ◌+◌, ◌*◌, ◌/◌, ◌%◌, Bool, not, cond, ◌&&◌, ◌||◌, List, [], ◌∷◌, ltb, leb, eqb, length, get_or}
use Rattle.spelling.specs.Hex.{digit_of, pair_of}

-- A to Z, a to z
abbrev pub is_letter : ℕ → Bool
is_letter x = leb 65 x && leb x 90 || leb 97 x && leb x 122

-- a backslash, x and two digits
abbrev pub octet_spelled : ℕ → List ℕ → List ℕ
octet_spelled x rest = 92 ∷ 120 ∷ digit_of (x / 16) ∷ digit_of (x % 16) ∷ rest

unfoldable pub language_spelled : ℕ → List ℕ
language_spelled l =
    cond (is_letter (l / 256) && is_letter (l % 256)) (l / 256 ∷ l % 256 ∷ []) (octet_spelled (l / 256) (octet_spelled (l % 256) []))

-- read back; 65536 for what is no language
unfoldable pub by_letters : ℕ → ℕ → ℕ
by_letters a b = cond (is_letter a && is_letter b) (256 * a + b) 65536

abbrev pub is_mark : ℕ → ℕ → Bool
is_mark a b = eqb a 92 && eqb b 120

unfoldable pub by_digits : ℕ → ℕ → ℕ → ℕ → ℕ
by_digits a b c d = cond (ltb 255 (pair_of a b)) 65536 (cond (ltb 255 (pair_of c d)) 65536 (256 * pair_of a b + pair_of c d))

unfoldable pub language_in : List ℕ → ℕ
language_in w =
    cond (eqb (length w) 2) (by_letters (get_or w 0 0) (get_or w 1 0))
    (cond (not (eqb (length w) 8)) 65536
    (cond (is_mark (get_or w 0 0) (get_or w 1 0) && is_mark (get_or w 4 0) (get_or w 5 0)) (by_digits (get_or w 2 0) (get_or w 3 0) (get_or w 6 0) (get_or w 7 0)) 65536))
