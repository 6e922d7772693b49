-- `comparing::signal_told` meets its contract. Assumes nothing.
use mathlib.Core.Path.{sym, ap, ◌∙◌}
use Rattle.paper.specs.Answer.{found}
use Rattle.paper.specs.Comparing.{signal_change, breaks}
use Rattle.paper.proofs.ListLaws.{version_here}
use Rattle.comparing.proofs.Laws.{second_there, told_second, told_first, told_both, told_nowhere, breaks_second, breaks_first, breaks_both}
use Rattle.comparing.proofs.signal_told.Goals as goal

pub added_number-requires : goal.added_number-requires
added_number-requires c = second_there _ _ _ c.requires c.if-a-p.true

pub returns-then-a-p : goal.returns-then-a-p
unfolding signal_change
returns-then-a-p c =
    ap found c.told.ensures
    ∙ told_second _ _ _ c.requires _ (breaks _ _) _
    (c.added_number.ensures ∙ breaks_second _ _ _ c.requires c.if-a-p.true (version_here _ _ c.args.a.now.laid)) c.if-a-p.true

pub returns-then-b-p : goal.returns-then-b-p
unfolding signal_change
returns-then-b-p c =
    ap found c.told-then-b-p.ensures
    ∙ told_first _ _ _ c.requires _ (breaks _ _) _ (breaks_first _ _ _ c.requires c.if-a-p.false c.if-b-p.true) c.if-a-p.false c.if-b-p.true

pub returns-then-c : goal.returns-then-c
unfolding signal_change
returns-then-c c =
    ap found c.told-then-c.ensures
    ∙ told_both _ _ _ c.requires _ (breaks _ _) _ (c.compare_both-c.ensures.breaks ∙ breaks_both _ _ _ c.requires c.if-a-p.false c.if-b-p.false)
    c.if-a-p.false c.if-b-p.false (sym c.compare_both-c.ensures.differs ∙ c.if-c.true)

pub returns : goal.returns
unfolding signal_change
returns c =
    told_nowhere _ _ _ c.requires _ (breaks _ _) c.if-a-p.false c.if-b-p.false (sym c.compare_both-c.ensures.differs ∙ c.if-c.false)
