-- `lists::rest` meets its contract: the rule of a part gives it as so many elements of the rest. Assumes nothing.
use Prim.Native.Nat.{ℕ, ◌+◌, ◌-◌, ◌*◌}
use mathlib.Core.Path.{◌≡◌}
use mathlib.Core.List.{List}
use native.Mathlib.Omega.{arith}
use lib.ListN.{length, take, drop, length-drop}
use lib.Seq.{take_all}
use Rattle.lists.proofs.rest.Goals as goal

rest_is : (a : ℕ) (xs : List ℕ) → take (length xs - a) (drop a xs) ≡ drop a xs
rest_is a xs = take_all (length xs - a) (drop a xs) (simp length-drop (omega arith))

pub returns : goal.returns
returns c = let a = c.args in rest_is (2 + a.size * a.n) a.tail.now
