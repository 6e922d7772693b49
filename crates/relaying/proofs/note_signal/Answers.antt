-- `relaying::note_signal` meets its contract: a signal changes the state of its own check at most. Assumes nothing.
use mathlib.Core.Path.{sym, ap, ◌∙◌}
use mathlib.Core.Bool.{not}
use native.Mathlib.Omega.{arith}
use borrow.Author.Tests.{not-true, not-false}
use Rattle.relaying.proofs.Laws.{has_check, noted_free, noted_not, noted_under}
use Rattle.relaying.proofs.note_signal.Goals as goal

pub returns-then-s-eq0 : goal.returns-then-s-eq0
returns-then-s-eq0 c = noted_free _ _ _ _ _ c.signal-s.ensures.is c.if-s-eq0.true

pub returns-then-not-is_carried : goal.returns-then-not-is_carried
returns-then-not-is_carried c = noted_not _ _ _ _ _ c.signal-s.ensures.is (sym c.is_carried.ensures ∙ not-true _ (ap not c.if-not-is_carried.true))

pub returns : goal.returns
returns c =
    noted_under _ _ _ _ _ c.signal-s.ensures.is _ _ (sym c.is_carried.ensures ∙ not-false _ (ap not c.if-not-is_carried.false)) (omega (arith, c.if-s-eq0.false))
    (omega (arith, has_check c.args.list.now c.args.k c.signal-s.ensures.is c.requires.0, c.if-s-eq0.false, c.requires.1)) c.with.ensures
