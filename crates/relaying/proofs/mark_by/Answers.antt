-- `relaying::mark_by` meets its contract: every check lies at an even bit within the 128 octets of a telegram. Assumes nothing.
use native.Mathlib.Omega.{arith}
use Rattle.composing.proofs.Laws.{listed_kept}
use Rattle.relaying.proofs.mark_by.Goals as goal

pub read_pair-requires : goal.read_pair-requires
read_pair-requires c =
    let p = (listed_kept c.args.list.now).check c.args.j c.requires.0 in
    let is = c.check.ensures.is in
    (rw is p.even, record { some = omega arith; wide = omega arith; inside = omega (arith, is, p.high, c.requires.1) })
