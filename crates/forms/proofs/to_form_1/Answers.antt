-- `forms::to_form_1` meets its contract. Assumes nothing.
use mathlib.Core.Path.{sym}
use Rattle.lists.proofs.Laws.{accepted_laid}
use Rattle.forms.proofs.to_form_1.Goals as goal

pub any_serial-requires : goal.any_serial-requires
any_serial-requires c = record { form = 2; judged = sym c.in_ok-n.ensures }

pub resize-requires-clause-laid : goal.resize-requires-clause-laid
resize-requires-clause-laid c = accepted_laid 2 _ _ c.in_ok-n.ensures
