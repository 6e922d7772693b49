-- `relaying::relay_marks` meets its contract: the marks come of the states that the signals leave. Assumes nothing.
use native.Mathlib.Omega.{arith}
use lib.ListN.{length-take}
use Rattle.composing.proofs.Laws.{listed_kept}
use Rattle.relaying.proofs.Laws.{fresh_part, marked_from}
use Rattle.relaying.proofs.relay_marks.Goals as goal

pub note_signals-requires-clause-states_len : goal.note_signals-requires-clause-states_len
note_signals-requires-clause-states_len c = (
  simp length-take (omega (arith, (listed_kept c.args.list.now).few_checks)),
  fresh_part c.args.list.now.counts.checks 64,
)

pub returns : goal.returns
returns c = marked_from _ _ _ _ _ _ _ c.type_of.ensures c.telegram.ensures c.note_signals.ensures c.write_marks.ensures
