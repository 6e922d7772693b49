-- Each wrong gateway of the table is ruled out: what is computed over the whole table holds of each row. Assumes nothing.
use Prim.Native.Nat.{ℕ}
use mathlib.Core.Path.{◌≡◌, refl, sym, ap, ap₂, ◌∙◌}
use mathlib.Core.Bool.{true, false≢true}
use mathlib.Core.List.{List, [], ◌∷◌}
use lib.ListN.{get_or, get_or-map}
use borrow.Author.Tests.{eq-eqb}
use Rattle.tables.specs.Cases.{ask}
use Rattle.tables.specs.Wrong.{Row, table, answered, same_numbers, Told, told, written, wrong}

numbers_same : (xs : List ℕ) → same_numbers xs xs ≡ true
unfolding same_numbers
numbers_same [] = refl
numbers_same (x ∷ xs) = rw (eq-eqb x x refl, numbers_same xs)

-- a row whose answers are told to differ: they do
differs : (r : Row) → told r ≡ written r → ask r.asked ≡ answered r.does → ⊥
differs r e q =
    false≢true (sym (ap (λ (t : Told). t.same) e) ∙ ap (same_numbers (ask r.asked)) (sym q) ∙ numbers_same (ask r.asked))

told_at : (i : ℕ) (d : Row) → told d ≡ written d → told (get_or table i d) ≡ written (get_or table i d)
told_at i d e =
    sym (get_or-map told table i d) ∙ ap₂ (λ (l : List Told) (x : Told). get_or l i x) wrong e ∙ get_or-map written table i d

-- a contract says that a call's answer is what is asked of the paper: then it is not what the wrong gateway says
pub ruled_out : (i : ℕ) (d : Row) → told d ≡ written d → (answer : List ℕ)
    → let r = get_or table i d in answer ≡ ask r.asked → answer ≡ answered r.does → ⊥
ruled_out i d e answer right wrongly = differs (get_or table i d) (told_at i d e) (sym right ∙ wrongly)
