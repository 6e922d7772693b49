-- A vehicle of the paper as a plain mark octet, and which result of the code stands for which of the paper's answers.
use Rattle.std.specs.Prelude.{◌≡◌, Result, Bool, cond, List, map, ℕ, suc, ◌+◌, ◌-◌, ◌*◌, ◌/◌, ◌%◌, ◌^◌, eqb, length, get_or}
use Rattle.paper.specs.Answer.{Answer}
use Rattle.paper.specs.Train as paper
use Rattle.refusals.specs.declared.Refusal.{Refusal}
use Rattle.refusals.specs.Outcome.{answer_of}
use Rattle.train.specs.declared.Members.{Members}

-- the mark of weight w is set; the three high bits are not read
abbrev pub marked : ℕ → ℕ → Bool
marked w m = eqb (m / w % 2) 1

abbrev pub vehicle_of : ℕ → paper.Vehicle
vehicle_of m = record { leading = eqb (m % 2) 1; coach = marked 2 m; tractive = marked 4 m; led = marked 8 m; sleeping = marked 16 m }

-- the octet of a vehicle's marks
abbrev pub octet_of : paper.Vehicle → ℕ
octet_of v = cond v.leading 1 0 + cond v.coach 2 0 + cond v.tractive 4 0 + cond v.led 8 0 + cond v.sleeping 16 0

abbrev pub members_as : Members → paper.Members
members_as m = record { set = m.set; size = m.size }

abbrev pub resolved_answer : Result Members Refusal → Answer paper.Members
resolved_answer = answer_of members_as

-- the paper's definitions over mark octets: what each function of the code answers
abbrev pub meets_of : ℕ → ℕ → ℕ → Bool
meets_of a v m = paper.meets a v (vehicle_of m)

abbrev pub led_ok : ℕ → Bool
led_ok m = paper.led_rule (vehicle_of m)

abbrev pub consist_ok : List ℕ → Bool
consist_ok marks = paper.consist_rule (map vehicle_of marks)

-- vehicle v has mark k
abbrev pub with_mark : List ℕ → ℕ → ℕ → Bool
with_mark marks k v = eqb (get_or marks (v - 1) 0 / 2 ^ k % 2) 1

-- s holds those of the numbers 1 to n that are above i, and i + 1 is its bit 0
abbrev pub above : (ℕ → Bool) → ℕ → ℕ → ℕ → Type 0
above p n i s = paper.set_to p i + s * 2 ^ suc i ≡ paper.set_to p n

abbrev pub set_of : List ℕ → ℕ → ℕ
set_of marks a = paper.set_to (paper.member (map vehicle_of marks) a) (length (map vehicle_of marks))
