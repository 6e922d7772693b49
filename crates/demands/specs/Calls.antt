-- Calls of the library in a row, each by what its contract ensures: the words in which the demands and the true clock speak of the calls themselves.
use Rattle.std.specs.Prelude.{ℕ, ◌<◌, ◌≡◌, List, [], ◌∷◌, length, Result, Ok}
use Rattle.paper.specs.Store.{taking, turn, sweeping}
use Rattle.paper.specs.Reading.{reading}
use Rattle.paper.specs.Composing.{composing}
use Rattle.paper.specs.Demands.{Step, offer, sweep, NoneLater, NoneExpired}
use Rattle.refusals.specs.Outcome.{Written}
use Rattle.refusals.specs.declared.Refusal.{Refusal}
use Rattle.reading.specs.declared.Reading.{Reading}
use Rattle.reading.specs.Reading.{read_answer}

-- calls of `take` and `sweep`, from one store to another, whatever each answers: the paper's steps, made
pub data Made : List ℕ → List Step → List ℕ → Type 0 where
  none : {store : List ℕ} → Made store [] store
  takes : {store next last : List ℕ} {steps : List Step} (w now : ℕ) (telegram : List ℕ) (r : Result (Unit {0}) Refusal)
      → Written (taking store w now telegram) store r next → Made next steps last → Made store (offer w now telegram ∷ steps) last
  sweeps : {store next last : List ℕ} {steps : List Step} (now : ℕ) (r : Result (Unit {0}) Refusal)
      → Written (sweeping store now) store r next → Made next steps last → Made store (sweep now ∷ steps) last

-- The calls, each by what its contract ensures, at any octets that meet it.
pub record Calls (form : ℕ) (xs : List ℕ) (type : ℕ) (values marks : List ℕ) (v stamp form' : ℕ) (ys : List ℕ) (now k : ℕ) (r : Result Reading Refusal) : Type 0 where
  -- `compose` under the list xs is done: `out` then holds `telegram`
  pub out : List ℕ
  pub telegram : List ℕ
  pub composed : Written (composing form xs type values marks (length out)) out (Ok tt) telegram
  -- `take` of that telegram for vehicle v is done at the clock value `stamp`, a u32
  pub before : List ℕ
  pub after : List ℕ
  pub clock : stamp < turn
  pub took : Written (taking before v stamp telegram) before (Ok tt) after
  -- no later call of `take` takes a telegram of that vehicle, and none of `sweep` expires its slot
  pub steps : List Step
  pub store : List ℕ
  pub made : Made after steps store
  pub later : NoneLater v after steps
  pub unexpired : NoneExpired v after steps
  -- `read` of signal k under the list ys answers r at the clock value `now`
  pub read : read_answer r ≡ reading form' ys store now v k
