use mathlib.Core.Path.{sym, ◌∙◌}
use native.Mathlib.Omega.{arith}
use Rattle.paper.proofs.FieldLaws.{field_octet}
use Rattle.octets.proofs.Laws.{field_at}
use Rattle.octets.proofs.read_pair.Goals as goal

pub returns : goal.returns
returns c = field_at _ _ _ _ _ _ (omega arith) (c.field_of.ensures ∙ sym (field_octet _ _ _ _ (omega arith)))
