-- `spelling::spell::spell_text` meets its contract. Assumes nothing.
use Prim.Native.Nat.{ℕ, ◌/◌}
use mathlib.Core.Path.{◌≡◌, ap, ◌∙◌}
use native.Mathlib.Omega.{arith}
use lib.ListN.{length, take, length-take}
use borrow.Author.Rules.{rules}
use Rattle.spelling.specs.Spelling.{spelling}
use Rattle.spelling.proofs.Laws.{filled}
use Rattle.spelling.proofs.Turns.{first, spelling_short}
use Rattle.spelling.proofs.spell.spell_text.Goals as goal

pub slice_bounds-spell_all-end : goal.slice_bounds-spell_all-end
slice_bounds-spell_all-end c = simp length-take (omega arith)

pub spell_all-requires : goal.spell_all-requires
spell_all-requires c = simp length-take (omega arith)

pub returns : goal.returns
returns c =
    let t = c.args.text.now in
    let o = c.args.out.now in
    let e : take c.least-n.result t ≡ take 254 t = ap (λ (i : ℕ). take i t) c.least-n.ensures ∙ first t 254 in
    let l : length o ≡ 762 = search rules in
    filled (spelling (take 254 t)) o _ _ (omega (arith, spelling_short (take 254 t) (length (take 254 t) / 2), length-take 254 t)) (rw e at c.spell_all.ensures)
