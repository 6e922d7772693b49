-- What comes next is past what has come, and within what there is. Assumes nothing.
use Rattle.std.proofs.Common.{◌≡◌, ℕ, ◌≤◌, ◌<◌, List, Option, None, Some, sym, arith, rules}
use Rattle.std.specs.Prelude.{Result, Ok, Err, IfSome}
use Rattle.std.specs.Result.{result_unwrap_or}
use Rattle.paper.specs.Pairs.{signal_keys}
use Rattle.paper.specs.Comparing.{route_keys, signal_changes, route_changes, codes_gained}
use Rattle.paper.proofs.ComparingLaws.{signal_changes_within, route_changes_within, codes_gained_within}
use Rattle.refusals.specs.declared.ListRefused.{ListRefused}
use Rattle.comparing.specs.declared.Changed.{Changed}
use Rattle.comparing.specs.declared.Range.{Range}
use Rattle.comparing.specs.Comparing.{changed_of, range_of, changes_answer, gained_answer}

pub signal_within : (form : ℕ) (xs : List ℕ) (form' : ℕ) (ys : List ℕ) (from : ℕ) (r : Result (Option Changed) ListRefused)
    → changes_answer r ≡ signal_changes form xs form' ys from → IfSome (result_unwrap_or r None) (λ c. (from ≤ c.key) × (c.key < signal_keys))
signal_within form xs form' ys from (Ok (Some c)) e = signal_changes_within form xs form' ys from (changed_of c) (sym e)
signal_within form xs form' ys from (Ok None) e = search rules
signal_within form xs form' ys from (Err f) e = search rules

pub route_within : (form : ℕ) (xs : List ℕ) (form' : ℕ) (ys : List ℕ) (from : ℕ) (r : Result (Option Changed) ListRefused)
    → changes_answer r ≡ route_changes form xs form' ys from → IfSome (result_unwrap_or r None) (λ c. (from ≤ c.key) × (c.key < route_keys))
route_within form xs form' ys from (Ok (Some c)) e = route_changes_within form xs form' ys from (changed_of c) (sym e)
route_within form xs form' ys from (Ok None) e = search rules
route_within form xs form' ys from (Err f) e = search rules

pub codes_within : (form : ℕ) (xs : List ℕ) (form' : ℕ) (ys : List ℕ) (key from : ℕ) (r : Result (Option Range) ListRefused)
    → gained_answer r ≡ codes_gained form xs form' ys key from → IfSome (result_unwrap_or r None) (λ c. (from ≤ c.high) × (c.high < 65536))
codes_within form xs form' ys key from (Ok (Some c)) e =
    let w = codes_gained_within form xs form' ys key from (range_of c) (sym e) in
    (omega (arith, w.0, w.1), w.2)
codes_within form xs form' ys key from (Ok None) e = search rules
codes_within form xs form' ys key from (Err f) e = search rules
