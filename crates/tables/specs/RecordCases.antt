-- C-14: consists from christening records, properties by their rows, and what is answered where two faults meet.
use Rattle.std.specs.Prelude.{ℕ, zero, suc, ◌≡◌, refl, true, false, List, [], ◌∷◌, ◌++◌, map, take, replicate}
use Rattle.paper.specs.Octets.{address, bit, set_bit, with_bit}
use Rattle.paper.specs.Answer.{refuse_if}
use Rattle.paper.specs.First.{first_from, first_bad, all, count}
use Rattle.paper.specs.Train.{consist_rule}
use Rattle.paper.specs.Christening.{properties, record_octets, Pair, described, vehicles_of, christening, row_in, property_of}
use Rattle.tables.specs.Cases.{Question, christens, asks_row, gave, refuses, ask}
use Rattle.tables.specs.RemedyCases.{Case, case}

-- a record with no bit set, and with one
abbrev pub blank : List ℕ
blank = replicate record_octets 0

abbrev pub only : ℕ → ℕ → List ℕ
only o b = set_bit blank (address o b) 1

abbrev pub unmarked : Pair
unmarked = record { leading = false; led = false }

abbrev pub leads : Pair
leads = record { leading = true; led = false }

abbrev pub follows : Pair
follows = record { leading = false; led = true }

-- one vehicle of this record, whose marks are 2 coach, 4 tractive, 16 sleeping
abbrev pub alone : List ℕ → Question
alone r = christens r (unmarked ∷ [])

abbrev marked : ℕ → ℕ → ℕ → Case
marked o b marks = case (alone (only o b)) (gave (marks ∷ []))

-- n pairs without a mark
unfoldable pub pairs : ℕ → List Pair
pairs zero = []
pairs (suc n) = unmarked ∷ pairs n

unfoldable pub cases : List Case
cases =
    -- each place alone, and some beside them
    marked 50 0 2 ∷ marked 50 1 2 ∷ marked 50 2 0 ∷ marked 51 0 2 ∷ marked 51 1 0 ∷ marked 51 2 0 ∷ marked 51 3 2 ∷ marked 51 4 18
    ∷ marked 51 5 0 ∷ marked 24 0 4 ∷ marked 24 1 4 ∷ marked 24 2 0 ∷ marked 23 7 0
    -- leading and led are handed in, a led one needs to be tractive
    ∷ case (christens (only 24 0 ++ only 51 4) (leads ∷ unmarked ∷ [])) (gave (5 ∷ 18 ∷ []))
    ∷ case (christens (only 24 0 ++ only 24 1) (leads ∷ follows ∷ [])) (gave (5 ∷ 12 ∷ []))
    ∷ case (christens (only 24 0 ++ only 50 0) (leads ∷ follows ∷ [])) (refuses 18 0)
    -- 31: an octet too many, one too few, a record too many, a pair too many
    ∷ case (christens (only 51 4 ++ (0 ∷ [])) (unmarked ∷ [])) (refuses 31 0)
    ∷ case (christens (take 55 (only 51 4)) (unmarked ∷ [])) (refuses 31 0)
    ∷ case (christens (only 51 4 ++ blank) (unmarked ∷ [])) (refuses 31 0)
    ∷ case (christens (only 51 4) (unmarked ∷ unmarked ∷ [])) (refuses 31 0)
    -- 31 before 17 and before 18
    ∷ case (christens [] (unmarked ∷ [])) (refuses 31 0)
    ∷ case (christens blank []) (refuses 31 0)
    ∷ case (christens blank (leads ∷ leads ∷ [])) (refuses 31 0)
    -- 17, and before 18
    ∷ case (christens [] []) (refuses 17 0)
    ∷ case (christens (replicate 3584 0) (follows ∷ pairs 63)) (refuses 17 0)
    ∷ case (christens (replicate 3528 0) (follows ∷ pairs 62)) (refuses 18 0)
    ∷ case (christens (blank ++ blank) (leads ∷ leads ∷ [])) (refuses 18 0)
    -- properties: the first row, of either level, the row behind the gap, the last one; no row 0, 133 to 140, 153
    ∷ case (asks_row (only 50 0) 1) (gave (1 ∷ 1 ∷ 1 ∷ 50 ∷ 0 ∷ 1 ∷ []))
    ∷ case (asks_row (only 50 1) 1) (gave (1 ∷ 1 ∷ 1 ∷ 50 ∷ 0 ∷ 0 ∷ []))
    ∷ case (asks_row (only 22 0) 17) (gave (1 ∷ 17 ∷ 0 ∷ 22 ∷ 0 ∷ 1 ∷ []))
    ∷ case (asks_row (only 34 3) 132) (gave (1 ∷ 132 ∷ 0 ∷ 34 ∷ 3 ∷ 1 ∷ []))
    ∷ case (asks_row (only 54 1) 141) (gave (1 ∷ 141 ∷ 1 ∷ 54 ∷ 1 ∷ 1 ∷ []))
    ∷ case (asks_row (only 23 7) 142) (gave (1 ∷ 142 ∷ 0 ∷ 23 ∷ 7 ∷ 1 ∷ []))
    ∷ case (asks_row (only 35 5) 152) (gave (1 ∷ 152 ∷ 0 ∷ 35 ∷ 5 ∷ 1 ∷ []))
    ∷ case (asks_row (replicate 56 0xFF) 0) (gave (0 ∷ []))
    ∷ case (asks_row (replicate 56 0xFF) 133) (gave (0 ∷ []))
    ∷ case (asks_row (replicate 56 0xFF) 140) (gave (0 ∷ []))
    ∷ case (asks_row (replicate 56 0xFF) 153) (gave (0 ∷ []))
    ∷ []

-- the one computed test
pub records_answered : map (λ c. case c.asked (ask c.asked)) cases ≡ cases
unfolding cases ask pairs bit set_bit with_bit refuse_if first_from first_bad all count consist_rule properties described vehicles_of christening row_in property_of
records_answered = refl
