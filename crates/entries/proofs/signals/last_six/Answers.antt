-- `entries::signals::last_six` meets its contract. Assumes nothing.
use Prim.Native.Nat.{ℕ, ◌+◌, ◌%◌}
use mathlib.Core.Path.{◌≡◌}
use mathlib.Core.List.{List}
use native.Mathlib.Omega.{arith}
use Rattle.paper.specs.Octets.{number, Octets}
use Rattle.paper.proofs.NumberLaws.{number_split, number_lt}
use Rattle.entries.proofs.signals.last_six.Goals as goal

low_48 : (l : List ℕ) (at : ℕ) → Octets l → number l at 8 % 281474976710656 ≡ number l (at + 2) 6
low_48 l at o = omega (arith, number_split l at 2 6, number_lt l (at + 2) 6 o)

pub returns : goal.returns
returns c =
    let o : Octets c.args.tail.now = λ i. (c.shared_slice_known-1.given i).fits in
    record { value = rw c.read64.ensures.value (low_48 c.args.tail.now c.args.at o); small = omega arith }
