-- Request C-22 of the calls: what two takings in a row answer, and a marshalling made twice, by the paper's definitions alone.
use Rattle.std.specs.Prelude.{ℕ, List}
use Rattle.paper.specs.Store.{taking}
use Rattle.paper.specs.Marshalling.{marshalling}
use Rattle.refusals.specs.Outcome.{Written}
use Rattle.marshalling.specs.Marshalling.{Delivered}
use Rattle.demands.specs.declared.Both.{Both}
use Rattle.demands.specs.declared.Twice.{Twice}

-- a telegram t of vehicle v at the clock value c, then u of w at d; `between` is the store after the first
pub record TakenBoth (store : List ℕ) (v c : ℕ) (t : List ℕ) (w d : ℕ) (u last : List ℕ) (r : Both) : Type 0 where
  pub between : List ℕ
  pub one : Written (taking store v c t) store r.one between
  pub two : Written (taking between w d u) between r.two last

-- `between` are the data after the first
pub record MarshalledTwice (form : ℕ) (xs store : List ℕ) (now : ℕ) (bus last : List ℕ) (r : Twice) : Type 0 where
  pub between : List ℕ
  pub once : Delivered (marshalling form xs store now bus) bus r.once between
  pub again : Delivered (marshalling form xs store now between) between r.again last
