-- The answer that each result of the code stands for.
use Rattle.std.specs.Prelude.{ℕ, Result}
use Rattle.paper.specs.Answer.{Answer}
use Rattle.refusals.specs.declared.Refusal.{Refusal}
use Rattle.refusals.specs.Outcome.{answer_of}

abbrev pub place_answer : Result ℕ Refusal → Answer ℕ
place_answer = answer_of (λ x. x)
