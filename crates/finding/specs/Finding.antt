-- The paper's answer for each case of the code's, and what a search by key answers.
use Rattle.std.specs.Prelude.{ℕ, ◌≤◌, ◌<◌, ◌≡◌, Option, Result}
use Rattle.paper.specs.Search.{Cut}
use Rattle.paper.specs.Answer.{Answer, Sought}
use Rattle.paper.specs.SignalList.{Route as PaperRoute}
use Rattle.paper.specs.Pairs.{Entry as PaperEntry, Keyed}
use Rattle.refusals.specs.declared.Refusal.{Refusal}
use Rattle.refusals.specs.Outcome.{answer_of, sought_of}
use Rattle.entries.specs.declared.Route.{Route}
use Rattle.entries.specs.Entries.{signal_of, route_of}
use Rattle.finding.specs.declared.Entry.{Entry}
use Rattle.finding.specs.declared.Reached.{Reached}

abbrev pub entry_as : Entry → PaperEntry
entry_as e = record { signal = signal_of e.signal; place = e.place }

abbrev pub entry_answer : Result Entry Refusal → Answer PaperEntry
entry_answer = answer_of entry_as

abbrev pub route_answer : Result (Option Route) Refusal → Answer (Sought PaperRoute)
route_answer = answer_of (sought_of route_of)

abbrev pub found_answer : Result ℕ Refusal → Answer ℕ
found_answer = answer_of (λ k. k)

-- r is the first entry whose key is `from` or above, with its key; past the last, with `top`
pub record Reaches (t : Keyed) (top from : ℕ) (r : Reached) : Type 0 where
  pub cut : Cut t.key t.count from r.at
  pub here : r.at < t.count → r.key ≡ t.key r.at
  pub past : t.count ≤ r.at → r.key ≡ top
