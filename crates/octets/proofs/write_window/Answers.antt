use mathlib.Core.Path.{◌∙◌}
use native.Mathlib.Omega.{arith}
use Rattle.octets.proofs.Laws.{put_window}
use Rattle.octets.proofs.write_window.Goals as goal

pub returns : goal.returns
returns c =
    let m = c in
    let read = m in
    c.write64.ensures
    ∙ rw (m.merge.ensures, read.read64-x.ensures.value)
    (put_window _ _ _ _ _ _ (omega arith) (λ i. (read.slice_known-1.given i).fits) (omega arith))
