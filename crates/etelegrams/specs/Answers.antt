-- Which case of the code's enums stands for which of the paper's answers.
use Rattle.std.specs.Prelude.{Result, not, List, ℕ, eqb, ltb, length}
use Rattle.paper.specs.Answer.{Answer, gives, refuse_if}
use Rattle.paper.specs.Octets.{over}
use Rattle.paper.specs.ETelegrams as paper
use Rattle.refusals.specs.declared.Refusal.{Refusal}
use Rattle.refusals.specs.Outcome.{answer_of}
use Rattle.etelegrams.specs.declared.EReading.{EReading}

abbrev pub e_reading_of : EReading → paper.EReading
e_reading_of r = record { code = r.code; report = r.report; status = r.status }

abbrev pub e_read_answer : Result EReading Refusal → Answer paper.EReading
e_read_answer = answer_of e_reading_of

-- the paper's `answering` from what was read on
unfoldable pub answer_on : paper.EReading → List ℕ → ℕ → List ℕ → Answer (List ℕ)
answer_on r head status out =
    refuse_if r.report 23 0
    (refuse_if (not (eqb (length head) 6)) 24 0
    (refuse_if (ltb (length out) 9) 25 0
    (gives (over out 0 (paper.answer_to r.code head status)))))
