-- `comparing::signal_at` meets its contract: a key that no signal can have is none's. Assumes nothing.
use mathlib.Core.Path.{◌∙◌}
use Rattle.finding.proofs.Laws.{keys_rise}
use Rattle.comparing.proofs.Laws.{reached_any}
use Rattle.comparing.proofs.signal_at.Goals as goal

pub returns : goal.returns
returns c = c.at_key.ensures ∙ reached_any _ _ (keys_rise c.args.list.now) _ _ c.signal_from.ensures
