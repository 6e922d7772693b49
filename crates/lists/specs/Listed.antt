-- An accepted list as the paper sees it.
use Rattle.std.specs.Prelude.{Result}
use Rattle.paper.specs.Answer.{Answer}
use Rattle.paper.specs.SignalList.{SignalList, list_of}
use Rattle.refusals.specs.declared.Refusal.{Refusal}
use Rattle.refusals.specs.Outcome.{answer_of}
use Rattle.lists.specs.Judged.{counts_of}
use Rattle.lists.specs.declared.accepted.AcceptedList.{AcceptedList}

abbrev pub list_as : AcceptedList → SignalList
list_as l = list_of l.octets.now (counts_of l.counts)

abbrev pub listed_answer : Result AcceptedList Refusal → Answer SignalList
listed_answer = answer_of list_as
