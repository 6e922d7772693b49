-- A block's faults by a set of keys, and the paper's answer for each result of a call.
use Rattle.std.specs.Prelude.{Option, Result, ℕ, ◌-◌, ◌/◌, ◌%◌, ◌^◌, ◌≤◌, ◌≡◌, Bool, cond, ◌&&◌, List, [], ◌∷◌, ltb, leb, eqb, length}
use Rattle.paper.specs.Answer.{Answer, gives, Sought}
use Rattle.paper.specs.First.{first_of, some}
use Rattle.paper.specs.Remedies as paper
use Rattle.paper.specs.Remedies.{key_at, past, broken, start, block_fault, first_fault, refuse_by}
use Rattle.paper.specs.ETelegrams.{remedy_code}
use Rattle.refusals.specs.declared.Refusal.{Refusal}
use Rattle.refusals.specs.Outcome.{answer_of, sought_of, outcome_of}
use Rattle.texts.specs.declared.Remedies.{Remedies}
use Rattle.texts.specs.declared.Remedy.{Remedy}

-- key x is in the set: its bit x - 1
abbrev pub holds : ℕ → ℕ → Bool
holds set x = eqb (set / 2 ^ (x - 1) % 2) 1

unfoldable pub fault_at : List ℕ → ℕ → ℕ → ℕ
fault_at t at seen = first_of 28 (past t at ∷ broken t at ∷ holds seen (key_at t at) ∷ []) 0

-- the set holds the keys 1-8 of the first n blocks
abbrev pub Holds : (ℕ → ℕ) → ℕ → ℕ → Type 0
Holds key n set = (x : ℕ) → 1 ≤ x → x ≤ 8 → holds set x ≡ some (λ j. eqb (key j) x) n

-- the faults of the n blocks, then octets after the last
unfoldable pub faults_of : List ℕ → ℕ → ℕ
faults_of t n = cond (eqb (first_fault (block_fault t) n) 0) (cond (ltb (start t n) (length t)) 28 0) (first_fault (block_fault t) n)

-- refused by this number, and by none where it is 0
abbrev pub Fault : ℕ → Result (Unit {0}) Refusal → Type 0
Fault expected r = outcome_of r ≡ refuse_by expected (gives tt)

-- the paper's `head_rule` by its numbers
abbrev pub head_holds : ℕ → ℕ → ℕ → Bool
head_holds code ordered count = eqb code remedy_code && leb ordered 1 && leb 1 count && leb count 8

abbrev pub placed : Remedy → paper.Remedy
placed b = record { key = b.key; at = b.at; size = b.size }

abbrev pub remedies_read : Remedies → paper.Remedies
remedies_read r = record { language = r.language; ordered = r.ordered; count = r.count }

abbrev pub read_answer : Result Remedies Refusal → Answer paper.Remedies
read_answer = answer_of remedies_read

abbrev pub remedy_answer : Result (Option Remedy) Refusal → Answer (Sought paper.Remedy)
remedy_answer = answer_of (sought_of placed)
