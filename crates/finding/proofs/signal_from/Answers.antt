-- `finding::signal_from` meets its contract. Assumes nothing.
use mathlib.Core.Path.{ap, ◌∙◌}
use native.Mathlib.Omega.{arith}
use Rattle.paper.specs.Pairs.{signal_key}
use Rattle.finding.proofs.signal_from.Goals as goal

pub returns : goal.returns
returns c = record {
  cut = c.first_signal-at.ensures;
  here = λ _. c.signal_key.ensures ∙ ap signal_key c.signal.ensures.is;
  past = λ ge. absurd (omega arith);
}
