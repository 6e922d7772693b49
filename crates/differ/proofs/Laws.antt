-- The next pair is past those that have come, and within what there is. Assumes nothing.
use Rattle.std.proofs.Common.{◌≡◌, ℕ, ◌≤◌, ◌<◌, List, Option, None, Some, sym, rules}
use Rattle.std.specs.Prelude.{Result, Ok, Err, IfSome}
use Rattle.std.specs.Result.{result_unwrap_or}
use Rattle.paper.specs.Pairs.{signal_keys, pairing}
use Rattle.paper.proofs.PairLaws.{pairing_within}
use Rattle.refusals.specs.declared.ListRefused.{ListRefused}
use Rattle.pairing.specs.declared.Pair.{Pair}
use Rattle.pairing.specs.Pairing.{pair_of, pairing_answer}

pub pair_within : (form : ℕ) (xs : List ℕ) (form' : ℕ) (ys : List ℕ) (from : ℕ) (r : Result (Option Pair) ListRefused)
    → pairing_answer r ≡ pairing form xs form' ys from → IfSome (result_unwrap_or r None) (λ p. (from ≤ p.key) × (p.key < signal_keys))
pair_within form xs form' ys from (Ok (Some p)) e = pairing_within form xs form' ys from (pair_of p) (sym e)
pair_within form xs form' ys from (Ok None) e = search rules
pair_within form xs form' ys from (Err f) e = search rules
