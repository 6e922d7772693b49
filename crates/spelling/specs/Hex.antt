-- Hexadecimal digits in ASCII.
use Rattle.std.specs.Prelude.{ℕ, ◌+◌, ◌-◌, ◌*◌, cond, ltb}

-- of a number below 16: 0 to 9, A to F
unfoldable pub digit_of : ℕ → ℕ
digit_of d = cond (ltb d 10) (48 + d) (55 + d)

-- 0 to 9, A to F, a to f; 16 for what is no digit
unfoldable pub value_of : ℕ → ℕ
value_of x =
    cond (ltb x 48) 16
    (cond (ltb x 58) (x - 48)
    (cond (ltb x 65) 16
    (cond (ltb x 71) (x - 55)
    (cond (ltb x 97) 16
    (cond (ltb x 103) (x - 87) 16)))))

-- the octet that two digits spell; 256 where one is none
unfoldable pub pair_of : ℕ → ℕ → ℕ
pair_of x y = cond (ltb 15 (value_of x)) 256 (cond (ltb 15 (value_of y)) 256 (16 * value_of x + value_of y))
