-- `finding::signal_entry` meets its contract. Assumes nothing.
use mathlib.Core.Path.{ap}
use mathlib.Core.Bool.{not}
use borrow.Author.Tests.{lt-ltb, le-ltb}
use Rattle.paper.specs.Pairs.{entry_by, entry_of}
use Rattle.paper.proofs.AnswerLaws.{refuses, goes_past}
use Rattle.lists.proofs.Laws.{under_accepted}
use Rattle.finding.proofs.Laws.{placed_as, under_err}
use Rattle.finding.proofs.signal_entry.Goals as goal

pub returns-in_err-list : goal.returns-in_err-list
unfolding entry_of
returns-in_err-list c = under_err _ _ _ _ _ (entry_by _) c.from_residual.ensures c.in_err-list.ensures

pub returns-then-list-signal : goal.returns-then-list-signal
unfolding entry_of
returns-then-list-signal c = under_accepted _ _ (entry_by _) _ _ c.in_ok-list.ensures (refuses _ 11 0 _ (ap not (le-ltb _ _ c.if-list-signal.true)))

pub place-place-requires : goal.place-place-requires
place-place-requires c = placed_as c.in_ok-list.list _ c.if-list-signal.false _ c.signal-signal.ensures.is

pub returns : goal.returns
unfolding entry_of
returns c = under_accepted _ _ (entry_by _) _ _ c.in_ok-list.ensures (goes_past _ 11 0 _ _ (ap not (lt-ltb _ _ c.if-list-signal.false)) cc)
