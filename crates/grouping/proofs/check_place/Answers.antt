use mathlib.Core.Path.{◌≡◌, sym, ap, subst, ◌∙◌}
use Prim.Native.Nat.{ℕ, ◌≤◌, ◌<◌}
use native.Mathlib.Omega.{arith}
use mathlib.Core.List.{List, map}
use lib.ListN.{get_or, get_or-map}
use mathlib.Core.Bool.{false}
use Rattle.paper.specs.Answer.{gives}
use Rattle.paper.specs.Telegrams.{Row, rows, covers, place_in}
use Rattle.grouping.specs.declared.Row as code
use Rattle.grouping.proofs.Once.{step, covers_yes, covers_low, covers_high}
use Rattle.grouping.proofs.check_place.Goals as goal
use Rattle.grouping.proofs.check_place.Goals.{else-row-bit-via-then-row-bit+else-bit-row, else-row-bit-via-else-row-bit}

abbrev nothing : Row
nothing = record { place = 0; from = 0; end = 0 }

-- the code's row for a row of the paper: the code's table is what this makes of the paper's
abbrev row_of : Row → code.Row
row_of r = record { place = r.place; from = r.from; end = r.end }

row_is : (rs : List Row) (i : ℕ) → get_or (map row_of rs) i (row_of nothing) ≡ row_of (get_or rs i nothing)
row_is rs i = get_or-map row_of rs i nothing

pub returns-then-bit-row : goal.returns-then-bit-row
unfolding rows
returns-then-bit-row c =
    let b = c.args.bit in
    let i = c.loop-row.row-index in
    let same = row_is rows i in
    let hit = covers_yes (get_or rows i nothing) b
    (subst (λ (r : code.Row). r.from ≤ b) same c.if-row-bit.true) (subst (λ (r : code.Row). b < r.end) same c.if-bit-row.true) in
    ap (λ (r : code.Row). gives r.place) same ∙ sym (c.loop-row.invariant ∙ step rows nothing i b c.loop-row-test.true ∙ simp hit)

pub loop-row-preserved : goal.loop-row-preserved
unfolding rows
loop-row-preserved c =
    let b = c.args.bit in
    let i = c.loop-row.row-index in
    let row = get_or rows i nothing in
    let same = row_is rows i in
    let missed : covers row b ≡ false = elim c.else-row-bit.branch [
      | else-row-bit-via-then-row-bit+else-bit-row w ↦
          covers_high row b
          (subst (λ (r : code.Row). r.from ≤ b) same w.if-row-bit.true)
          (subst (λ (r : code.Row). r.end ≤ b) same w.if-bit-row.false)
      | else-row-bit-via-else-row-bit w ↦ covers_low row b (subst (λ (r : code.Row). b < r.from) same w.if-row-bit.false)
    ] in
    c.loop-row.invariant ∙ step rows nothing i b c.loop-row-test.true ∙ simp missed

pub returns : goal.returns
unfolding rows place_in
returns c =
    let end : c.loop-row.row-index ≡ 17 = omega arith in
    sym (rw end at c.loop-row.invariant)
