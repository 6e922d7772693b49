-- What the parts of composing ask and answer.
use Rattle.std.specs.Prelude.{ℕ, ◌+◌, ◌-◌, ◌≡◌, true, not, ◌&&◌, List, ◌∷◌, length, replicate, ltb, eqb}
use Rattle.paper.specs.Answer.{Answer, gives, refuse_if, and_then}
use Rattle.paper.specs.First.{first_bad}
use Rattle.paper.specs.Telegrams.{is_type, type_length}
use Rattle.paper.specs.SignalList.{SignalList}
use Rattle.paper.specs.Composing.{mark_fits, value_fits, composed}

-- the head of a type and a version, before anything else is written: the paper's `headed`
abbrev pub head_of : ℕ → ℕ → List ℕ
head_of type version = (16 + type) ∷ version ∷ replicate (type_length type - 2) 0

-- an output of a telegram's length
pub record Room (type room : ℕ) : Type 0 where
  pub typed : is_type type ≡ true
  pub long : room ≡ type_length type

-- the tests of the paper's `composing` under a list, and `composing` after them
unfoldable pub composing_tests : SignalList → ℕ → List ℕ → List ℕ → ℕ → Answer (Unit {0})
composing_tests l type values marks room =
    refuse_if (not (is_type type)) 9 0
    (refuse_if (not (eqb (length values) l.signals && eqb (length marks) l.checks)) 13 0
    (refuse_if (ltb (first_bad (mark_fits l type marks) l.checks) l.checks) 14 0
    (refuse_if (ltb (first_bad (value_fits l type values) l.signals) l.signals) 15 (first_bad (value_fits l type values) l.signals)
    (refuse_if (not (eqb room (type_length type))) 16 0
    (gives tt)))))

abbrev pub composing_under : SignalList → ℕ → List ℕ → List ℕ → ℕ → Answer (List ℕ)
composing_under l type values marks room = and_then (composing_tests l type values marks room) (λ _. gives (composed l type values marks))
