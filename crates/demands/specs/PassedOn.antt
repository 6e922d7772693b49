-- C-24 in calls: a telegram goes through a gateway in the middle to a last reader, each call by what its contract ensures.
use Rattle.std.specs.Prelude.{ℕ, ◌<◌, ◌≡◌, List, length, Result, Ok}
use Rattle.paper.specs.Store.{taking, turn}
use Rattle.paper.specs.Reading.{reading}
use Rattle.paper.specs.Composing.{composing}
use Rattle.paper.specs.Relaying.{relaying}
use Rattle.paper.specs.Demands.{Step, NoneLater, NoneExpired}
use Rattle.refusals.specs.Outcome.{Written}
use Rattle.reading.specs.Reading.{read_answer}
use Rattle.demands.specs.declared.Passed.{Passed}
use Rattle.refusals.specs.declared.Refusal.{Refusal}
use Rattle.reading.specs.declared.Reading.{Reading}
use Rattle.demands.specs.Calls.{Made}

-- what three calls in a row answer: `relay` in the middle, `take` by the last reader, and `read` there
pub record PassedOn (form : ℕ) (inner there : List ℕ) (clock v : ℕ) (out here : List ℕ) (u stamp form' : ℕ) (outer : List ℕ) (now k : ℕ)
    (second held : List ℕ) (r : Passed) : Type 0 where
  pub relayed : Written (relaying form inner there clock v (length out)) out r.relayed second
  pub taken : Written (taking here u stamp second) here r.taken held
  pub read : read_answer r.read ≡ reading form' outer held now u k

-- The middle's store, `there`: `compose` under the list ys (C) is done, `take` of that telegram is done for vehicle v at the clock value `stamp`, and no later
-- call of `take` takes one of that vehicle. Sweeps may follow, also one that expires the slot
pub record Heard (form' : ℕ) (ys : List ℕ) (type : ℕ) (values marks : List ℕ) (v stamp : ℕ) (there : List ℕ) : Type 0 where
  pub out : List ℕ
  pub first : List ℕ
  pub composed : Written (composing form' ys type values marks (length out)) out (Ok tt) first
  pub before : List ℕ
  pub after : List ℕ
  pub clock : stamp < turn
  pub took : Written (taking before v stamp first) before (Ok tt) after
  pub steps : List Step
  pub made : Made after steps there
  pub later : NoneLater v after steps

-- The last reader: `take` of what the middle composed is done for vehicle u, no later call takes a telegram of that vehicle and none of `sweep` expires its
-- slot; `read` of signal k under ys answers r
pub record LastRead (second : List ℕ) (u stamp form' : ℕ) (ys : List ℕ) (now k : ℕ) (r : Result Reading Refusal) : Type 0 where
  pub before : List ℕ
  pub after : List ℕ
  pub clock : stamp < turn
  pub took : Written (taking before u stamp second) before (Ok tt) after
  pub steps : List Step
  pub store : List ℕ
  pub made : Made after steps store
  pub later : NoneLater u after steps
  pub unexpired : NoneExpired u after steps
  pub read : read_answer r ≡ reading form' ys store now u k
