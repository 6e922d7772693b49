use native.Mathlib.Omega.{arith}
use Rattle.octets.proofs.Laws.{field_at}
use Rattle.octets.proofs.read_field.Goals as goal

pub returns-then-b-width-le64 : goal.returns-then-b-width-le64
returns-then-b-width-le64 c = field_at _ _ _ _ _ _ (omega arith) c.read_window.ensures
