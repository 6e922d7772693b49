-- The paper's answer for each of the code's, what the reader of a serial number asks, and a list with signal entries of another size.
use Rattle.std.specs.Prelude.{ℕ, zero, suc, ◌+◌, ◌-◌, ◌*◌, ◌≡◌, not, eqb, List, [], ◌++◌, length, take, drop, replicate, Result}
use Rattle.paper.specs.Answer.{Answer, gives, refuse_if}
use Rattle.paper.specs.SignalList.{Counts, entry, check_size, judge}
use Rattle.refusals.specs.declared.Refusal.{Refusal}
use Rattle.refusals.specs.Outcome.{answer_of}

abbrev pub serial_answer : Result ℕ Refusal → Answer ℕ
serial_answer = answer_of (λ v. v)

-- a list that was accepted with these counts, in one form or the other
pub record InSomeForm (xs : List ℕ) (n : Counts) : Type 0 where
  pub form : ℕ
  pub judged : judge form xs ≡ gives n

-- n entries of `from` octets as entries of `to`: of each its first 16, and zeros
unfoldable pub entries_as : ℕ → ℕ → ℕ → List ℕ → List ℕ
entries_as from to zero zs = []
entries_as from to (suc n) zs = take 16 zs ++ (replicate (to - 16) 0 ++ entries_as from to n (drop from zs))

-- where the first signal entry stands
abbrev pub first_entry : Counts → ℕ
first_entry n = entry check_size n.checks + 2

-- a list with these counts, its signal entries as entries of `to` octets
unfoldable pub resized : ℕ → List ℕ → Counts → List ℕ
resized to xs n =
    take (first_entry n) xs
    ++ (entries_as n.size to n.signals (drop (first_entry n) xs) ++ drop (first_entry n + n.size * n.signals) xs)

-- 33 "output not of the needed length": `room` is the output's length
abbrev pub resizing : ℕ → List ℕ → Counts → ℕ → Answer (List ℕ)
resizing to xs n room = refuse_if (not (eqb room (length (resized to xs n)))) 33 0 (gives (resized to xs n))
