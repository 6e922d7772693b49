-- The contract settles the answer. Assumes nothing.
use Prim.Native.Nat.{ℕ}
use mathlib.Core.Path.{◌≡◌, refl}
use Rattle.std.specs.Prelude.{Result}
use Rattle.paper.specs.Answer.{Answer}
use Rattle.refusals.specs.declared.Refusal.{Refusal}
use Rattle.refusals.proofs.WrittenLaws.{one_result}
use Rattle.grouping.specs.Place.{place_answer}

pub one_check_place : (a : Answer ℕ) (v w : Result ℕ Refusal) → place_answer v ≡ a → place_answer w ≡ a → v ≡ w
one_check_place = one_result (λ x. x) (λ x. x) (λ x. refl)
