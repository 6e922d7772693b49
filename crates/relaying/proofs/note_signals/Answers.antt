-- `relaying::note_signals` meets its contract. Assumes nothing.
use Rattle.relaying.proofs.Laws.{state_none, state_more}
use Rattle.relaying.proofs.note_signals.Goals as goal

pub loop-k-init : goal.loop-k-init
loop-k-init c = state_none _ _ _ _ c.requires.states_len.0 c.requires.states_len.1

pub loop-k-preserved : goal.loop-k-preserved
loop-k-preserved c = state_more _ _ _ c.loop-k.k c.loop-k.states _ c.loop-k.invariant c.note_signal.ensures
