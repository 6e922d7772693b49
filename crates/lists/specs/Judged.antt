-- The paper's values for each case of the code's answers.
use Rattle.std.specs.Prelude.{ℕ, ◌≡◌, Result, Ok, Err}
use Rattle.paper.specs.Answer.{Answer, gives, refused}
use Rattle.paper.specs.SignalList.{Counts as PaperCounts}
use Rattle.refusals.specs.declared.Refusal.{Refusal}
use Rattle.refusals.specs.Refusal.{number_of, carried_of}
use Rattle.refusals.specs.Outcome.{answer_of}
use Rattle.lists.specs.declared.Counts.{Counts}
use Rattle.lists.specs.declared.Broken.{Broken}
use Rattle.lists.specs.declared.Rule.{Rule}
use Rattle.lists.specs.declared.Rule.TheVariants.{Ends, CountAbove, Entry, OctetsAfter}

abbrev pub counts_of : Counts → PaperCounts
counts_of n = record { checks = n.checks; signals = n.signals; codes = n.codes; routes = n.routes; version = n.version; size = n.size }

-- the paper's number of a rule that a list breaks
abbrev pub rule_number : Rule → ℕ
rule_number Ends = 1
rule_number CountAbove = 2
rule_number Entry = 3
rule_number OctetsAfter = 4

-- r is the refusal of what is broken
pub record Carries (b : Broken) (r : Refusal) : Type 0 where
  pub number : number_of r ≡ rule_number b.rule
  pub at : carried_of r ≡ b.at

-- an answer of a part of a list, given as f says
abbrev pub part_answer : {A B : Type 0} → (A → B) → Result A Broken → Answer B
part_answer f (Ok a) = gives (f a)
part_answer f (Err b) = refused (rule_number b.rule) b.at

abbrev pub section_answer : Result ℕ Broken → Answer ℕ
section_answer = part_answer (λ n. n)

abbrev pub sized_answer : Result Counts Broken → Answer PaperCounts
sized_answer = part_answer counts_of

abbrev pub judged_answer : Result Counts Refusal → Answer PaperCounts
judged_answer = answer_of counts_of
