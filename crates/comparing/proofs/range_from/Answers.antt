-- `comparing::range_from` meets its contract: past a range that began before, the first code gained starts one. Assumes nothing.
use Prim.Native.Nat.{ℕ}
use mathlib.Core.Path.{◌∙◌, ap}
use Rattle.paper.specs.Comparing.{gained}
use Rattle.lists.specs.Listed.{list_as}
use Rattle.comparing.specs.Comparing.{range_from}
use Rattle.comparing.proofs.Laws.{range_past, range_none, range_is}
use Rattle.comparing.proofs.range_from.Goals as goal

pub returns-then-top-from : goal.returns-then-top-from
returns-then-top-from c =
    let s = c.args in
    let test = gained (list_as s.a.now) (list_as s.b.now) s.i s.j in
    range_past test _ s.from c.if-top-from.true ∙ ap (λ (x : ℕ). range_from test x s.from) c.codes_compared-top.ensures.0

pub returns-then-top-low : goal.returns-then-top-low
returns-then-top-low c =
    let s = c.args in
    let test = gained (list_as s.a.now) (list_as s.b.now) s.i s.j in
    range_none test _ s.from _ _ c.fresh_from-at.ensures c.next_code-low.ensures c.if-top-low.true
    ∙ ap (λ (x : ℕ). range_from test x s.from) c.codes_compared-top.ensures.0

pub returns : goal.returns
returns c =
    let s = c.args in
    let test = gained (list_as s.a.now) (list_as s.b.now) s.i s.j in
    range_is test _ s.from _ _ c.fresh_from-at.ensures c.next_code-low.ensures c.if-top-low.false _ c.next_code-end.ensures
    ∙ ap (λ (x : ℕ). range_from test x s.from) c.codes_compared-top.ensures.0
