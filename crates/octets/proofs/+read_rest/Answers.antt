use mathlib.Core.Path.{sym, ◌∙◌}
use native.Mathlib.Omega.{arith}
use Rattle.paper.proofs.FieldLaws.{field_octet}
use Rattle.octets.proofs.Laws.{field_at, field_is, field_last, joins}
use Rattle.octets.proofs.+read_rest.Goals as goal

pub returns-then-b-width-gt64 : goal.returns-then-b-width-gt64
returns-then-b-width-gt64 t c = field_at _ _ _ _ _ _ (omega arith) c.read_nine.ensures

pub returns-then-end-lt8 : goal.returns-then-end-lt8
returns-then-end-lt8 t c = field_at _ _ _ _ _ _ (omega arith) (c.field_of.ensures ∙ sym (field_octet _ _ _ _ (omega arith)))

pub join-requires : goal.join-requires
join-requires t c =
    joins _ _ _ _ c.args.width _ (omega arith) (omega arith) (omega arith) (omega arith) _ _ c.read_rest.ensures.value c.field_of-last.ensures

pub returns : goal.returns
returns t c =
    field_is (c.join.ensures
    ∙ field_last _ _ _ _ _ _ (omega arith) (omega arith) (omega arith) _ _ c.read_rest.ensures.value c.field_of-last.ensures)
