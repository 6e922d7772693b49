-- `shown::show_under` meets its contract: what is read of a signal fits its width. Assumes nothing.
use mathlib.Core.Path.{sym, ◌∙◌}
use Rattle.shown.proofs.Laws.{read_fits}
use Rattle.shown.proofs.show_under.Goals as goal

pub width-requires : goal.width-requires
width-requires c = (read_fits c.args.list.now _ _ _ _ _ c.in_ok-r.ensures).0

pub shown_as-requires : goal.shown_as-requires
shown_as-requires c = λ q. rw (sym c.width.ensures.is ∙ q) at (read_fits c.args.list.now _ _ _ _ _ c.in_ok-r.ensures).1
