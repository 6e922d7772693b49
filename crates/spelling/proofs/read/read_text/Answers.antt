-- `spelling::read::read_text` meets its contract. Assumes nothing.
use Prim.Native.Nat.{ℕ}
use mathlib.Core.Path.{◌≡◌, ap, ◌∙◌}
use native.Mathlib.Omega.{arith}
use lib.ListN.{take, length-take}
use borrow.Author.Rules.{rules}
use Rattle.spelling.proofs.Turns.{first}
use Rattle.spelling.proofs.read.read_text.Goals as goal

pub slice_bounds-read_all-end : goal.slice_bounds-read_all-end
slice_bounds-read_all-end c = simp length-take (omega arith)

pub read_all-requires : goal.read_all-requires
read_all-requires c = (simp length-take (omega arith), search rules)

pub returns : goal.returns
returns c =
    let t = c.args.text.now in
    let e : take c.least-n.result t ≡ take 65536 t = ap (λ (i : ℕ). take i t) c.least-n.ensures ∙ first t 65536 in
    rw e at c.read_all.ensures
