-- Pairs of marks and rows of the code as those of the paper, and the paper's answer for each result of the code.
use Rattle.std.specs.Prelude.{ℕ, ◌%◌, ◌≡◌, Option, Result, Bool, ◌||◌, List, map, eqb, length}
use Rattle.paper.specs.Octets.{over}
use Rattle.paper.specs.Answer.{Answer, after, map_answer, Sought}
use Rattle.paper.specs.Train as train
use Rattle.paper.specs.Christening as paper
use Rattle.refusals.specs.declared.Refusal.{Refusal}
use Rattle.refusals.specs.Outcome.{answer_of, sought_of}
use Rattle.train.specs.Marks.{marked, octet_of}
use Rattle.records.specs.declared.Level.{Level}
use Rattle.records.specs.declared.Level.TheVariants as L
use Rattle.records.specs.declared.Property.{Property}

-- a pair of marks in an octet, with the weights of the mark octet: 1 leading, 8 led; the other bits are not read, so every octet is a pair
abbrev pub pair_of : ℕ → paper.Pair
pair_of m = record { leading = eqb (m % 2) 1; led = marked 8 m }

abbrev pub level_as : Level → paper.Level
level_as L.Gateway = paper.gateway
level_as L.Vehicle = paper.vehicle

-- the paper's answer to a question for this row
abbrev pub held_as : ℕ → Property → paper.Held
held_as row p = record { property = record { row = row; level = level_as p.level; octet = p.octet; bit = p.bit }; holds = p.holds }

abbrev pub held_answer : ℕ → Option Property → Sought paper.Held
held_answer row = sought_of (held_as row)

abbrev pub below32 : ℕ → ℕ
below32 m = m % 32

abbrev pub christened_answer : Result ℕ Refusal → Answer ℕ
christened_answer = answer_of (λ n. n)

-- how many vehicles, and the lent marks afterwards: those of the train from the first on, and as they were where the call is refused
pub record ChristenedAs (answer : Answer (List train.Vehicle)) (old : List ℕ) (r : Result ℕ Refusal) (new : List ℕ) : Type 0 where
  pub many : christened_answer r ≡ map_answer length answer
  pub octets : new ≡ after old (map_answer (λ train. over old 0 (map octet_of train)) answer)

-- the paper's marks of a record
abbrev pub coach_of : List ℕ → Bool
coach_of r = paper.is_set r 50 0 || paper.is_set r 50 1 || paper.is_set r 51 0 || paper.is_set r 51 3 || paper.is_set r 51 4

abbrev pub tractive_of : List ℕ → Bool
tractive_of r = paper.is_set r 24 0 || paper.is_set r 24 1
