-- What four calls in a row answer, by the paper's definitions alone.
use Rattle.std.specs.Prelude.{ℕ, ◌≡◌, List, length}
use Rattle.paper.specs.Store.{taking, sweeping}
use Rattle.paper.specs.Reading.{reading}
use Rattle.paper.specs.Composing.{composing}
use Rattle.refusals.specs.Outcome.{Written}
use Rattle.reading.specs.Reading.{read_answer}
use Rattle.demands.specs.declared.Answers.{Answers}

pub record Told (form : ℕ) (writer : List ℕ) (type : ℕ) (values marks out store : List ℕ) (v stamp sweep form' : ℕ) (reader : List ℕ) (now k : ℕ)
    (sent held : List ℕ) (r : Answers) : Type 0 where
  -- the output after composing, the store after that was taken, and the store after it was swept
  pub composed : Written (composing form writer type values marks (length out)) out r.composed sent
  pub heard : List ℕ
  pub taken : Written (taking store v stamp sent) store r.taken heard
  pub swept : Written (sweeping heard sweep) heard r.swept held
  pub read : read_answer r.read ≡ reading form' reader held now v k
