-- `marshalling::entries_at` meets its contract. Assumes nothing.
use Prim.Native.Nat.{◌+◌}
use native.Mathlib.Omega.{arith}
use Rattle.known.proofs.Laws.{listed_ordered, own_from}
use Rattle.marshalling.proofs.entries_at.Goals as goal

pub returns : goal.returns
returns c =
    let k = c.args.k in
    let each = c.requires.0.each in
    rw (c.from-from.ensures, c.from-to.ensures)
    (own_from _ _ (listed_ordered c.args.list.now) k _ _ (each k (omega (arith, c.requires.1))) (each (k + 1) (omega (arith, c.requires.1))))
