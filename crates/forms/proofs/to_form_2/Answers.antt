-- `forms::to_form_2` meets its contract. Assumes nothing.
use Rattle.lists.proofs.Laws.{accepted_laid}
use Rattle.forms.proofs.to_form_2.Goals as goal

pub resize-requires-clause-laid : goal.resize-requires-clause-laid
resize-requires-clause-laid c = accepted_laid 1 _ _ c.in_ok-n.ensures
