-- The paper's answer for each case of the code's.
use Rattle.std.specs.Prelude.{Option, Result}
use Rattle.paper.specs.Answer.{Sought}
use Rattle.paper.specs.SignalList.{OfTwo}
use Rattle.paper.specs.Pairs.{Pair as PaperPair}
use Rattle.refusals.specs.declared.ListRefused.{ListRefused}
use Rattle.refusals.specs.Outcome.{sought_of, of_two_answer}
use Rattle.pairing.specs.declared.Pair.{Pair}

abbrev pub pair_of : Pair → PaperPair
pair_of p = record { key = p.key; first = p.first; second = p.second }

abbrev pub next_of : Option Pair → Sought PaperPair
next_of = sought_of pair_of

abbrev pub pairing_answer : Result (Option Pair) ListRefused → OfTwo (Sought PaperPair)
pairing_answer = of_two_answer next_of
