-- `records::is_set` meets its contract. Assumes nothing.
use mathlib.Core.Path.{sym, ap}
use Prim.Native.Nat.{ℕ}
use lib.Dec.{eqb}
use Rattle.records.proofs.Table.{place_bit}
use Rattle.records.proofs.is_set.Goals as goal

pub returns : goal.returns
returns c =
    sym (ap (λ (x : ℕ). eqb x 1) (place_bit c.args.octets.now c.args.o c.args.b c.requires.2))
