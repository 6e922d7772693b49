-- The paper's answer for each result of a call.
use Rattle.std.specs.Prelude.{ℕ, ◌≡◌, List, Option, Some, None, Result, Ok, Err}
use Rattle.paper.specs.Answer.{Answer, gives, after, forget, Sought, found, nothing}
use Rattle.paper.specs.SignalList.{OfTwo, of_both, first_refused, second_refused}
use Rattle.refusals.specs.declared.Refusal.{Refusal}
use Rattle.refusals.specs.declared.ListRefused.{ListRefused}
use Rattle.refusals.specs.declared.ListRefused.TheVariants.{First, Second}
use Rattle.refusals.specs.Refusal.{number_of, carried_of, refusal_of}

-- a call that gives a value, which the paper says as f does
abbrev pub answer_of : {A B : Type 0} → (A → B) → Result A Refusal → Answer B
answer_of f (Ok a) = gives (f a)
answer_of f (Err e) = refusal_of e

-- a call that gives nothing but what it wrote
abbrev pub outcome_of : Result (Unit {0}) Refusal → Answer (Unit {0})
outcome_of = answer_of (λ x. x)

-- what is looked for, which the paper says as f does, or that there is none
abbrev pub sought_of : {A B : Type 0} → (A → B) → Option A → Sought B
sought_of f (Some a) = found (f a)
sought_of f None = nothing

-- a call that writes: its outcome, and the lent octets afterwards, which are as they were where it is refused
pub record Written (answer : Answer (List ℕ)) (old : List ℕ) (r : Result (Unit {0}) Refusal) (new : List ℕ) : Type 0 where
  pub outcome : outcome_of r ≡ forget answer
  pub octets : new ≡ after old answer

-- a call over two lists, either of which may be refused
abbrev pub of_two_answer : {A B : Type 0} → (A → B) → Result A ListRefused → OfTwo B
of_two_answer f (Ok a) = of_both (f a)
of_two_answer f (Err (First e)) = first_refused (number_of e) (carried_of e)
of_two_answer f (Err (Second e)) = second_refused (number_of e) (carried_of e)
