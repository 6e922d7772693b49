use mathlib.Core.Path.{sym}
use native.Mathlib.Omega.{arith}
use Rattle.paper.proofs.FieldLaws.{put_octet}
use Rattle.octets.proofs.Laws.{put_at, put_last}
use Rattle.octets.proofs.+write_rest.Goals as goal

pub returns-then-b-width-gt64 : goal.returns-then-b-width-gt64
returns-then-b-width-gt64 t c = put_at _ _ _ _ _ _ (omega arith) c.write_nine.ensures

pub returns-then-end-lt8 : goal.returns-then-end-lt8
returns-then-end-lt8 t c = rw c.with_field.ensures (put_at _ _ _ _ _ _ (omega arith) (sym (put_octet _ _ _ _ _ (omega arith) (omega arith))))

pub returns : goal.returns
returns t c =
    rw c.with_field-2.ensures
    (put_last _ _ _ _ _ _ (omega arith) (omega arith) (omega arith) _ _ c.write_rest.ensures (omega arith))
