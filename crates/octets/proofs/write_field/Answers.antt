use mathlib.Core.Path.{sym}
use native.Mathlib.Omega.{arith}
use Rattle.paper.proofs.FieldLaws.{put_octet}
use Rattle.octets.proofs.Laws.{put_at}
use Rattle.octets.proofs.write_field.Goals as goal

pub returns-then-within-width-le8 : goal.returns-then-within-width-le8
returns-then-within-width-le8 c = rw c.with_field.ensures (put_at _ _ _ _ _ _ (omega arith) (sym (put_octet _ _ _ _ _ (omega arith) (omega arith))))

pub returns-then-b-width-le64 : goal.returns-then-b-width-le64
returns-then-b-width-le64 c = put_at _ _ _ _ _ _ (omega arith) c.write_window.ensures
