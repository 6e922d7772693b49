use native.Mathlib.Omega.{arith}
use Rattle.octets.proofs.Laws.{put_last}
use Rattle.octets.proofs.write_nine.Goals as goal

pub returns : goal.returns
returns c =
    rw c.with_field.ensures
    (put_last _ _ _ _ _ _ (omega arith) (omega arith) (omega arith) _ _ c.write_window.ensures (omega arith))
