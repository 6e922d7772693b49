-- Request C-22, "Order of arrival": telegrams one after the other, each vehicle's own among them, and the data after a marshalling.
use Rattle.std.specs.Prelude.{ℕ, cond, List, [], ◌∷◌, map, eqb}
use Rattle.paper.specs.Answer.{Answer, after, map_answer}
use Rattle.paper.specs.Marshalling.{Marshalled}
use Rattle.paper.specs.Demands.{Step, offer, run}

-- "telegrams from two different vehicles, each with its own clock value"
pub record Arrival : Type 0 where
  pub vehicle : ℕ
  pub clock : ℕ
  pub telegram : List ℕ

abbrev pub offered : Arrival → Step
offered a = offer a.vehicle a.clock a.telegram

-- the store after they were taken, or refused, one after the other
abbrev pub arrived : List ℕ → List Arrival → List ℕ
arrived store arrivals = run store (map offered arrivals)

-- those of vehicle v, in their order
unfoldable pub own : ℕ → List Arrival → List Arrival
own v [] = []
own v (a ∷ rest) = cond (eqb a.vehicle v) (a ∷ own v rest) (own v rest)

-- the data after a marshalling: a refusal changes no lent octet
abbrev pub data_after : List ℕ → Answer Marshalled → List ℕ
data_after bus a = after bus (map_answer (λ (m : Marshalled). m.octets) a)
