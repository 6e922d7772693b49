-- `extending::codes_kept` meets its contract. Assumes nothing.
use Prim.Native.Nat.{ℕ, ◌-◌, ◌^◌}
use mathlib.Core.Path.{ap, ◌∙◌}
use native.Mathlib.Omega.{arith}
use Rattle.lists.specs.Listed.{list_as}
use Rattle.finding.proofs.Laws.{kept_as}
use Rattle.known.proofs.Laws.{listed_ordered, has_none, has_some}
use Rattle.extending.specs.Extending.{range_kept}
use Rattle.extending.proofs.Laws.{kept_all, kept_ranges, kept_whole}
use Rattle.extending.proofs.codes_kept.Goals as goal

pub returns-then-its : goal.returns-then-its
returns-then-its c = kept_all _ _ _ _ (has_none _ _ (listed_ordered c.args.b.now) _ _ _ c.requires.second.1 c.if-its.true)

pub returns-then-own : goal.returns-then-own
returns-then-own c =
    let a = c.args.a.now in
    let its = c.requires.second.1 in
    c.ranges_kept.ensures
    ∙ kept_ranges _ _ _ _ (has_some _ _ (listed_ordered c.args.b.now) _ _ _ its (omega (arith, c.if-its.false, its.ordered))) (kept_as a)
    (has_some _ _ (listed_ordered a) _ _ _ c.requires.first.1 c.if-own.true)

pub most-requires : goal.most-requires
most-requires c = let k = (kept_as c.args.a.now).signal _ c.requires.first.0 in omega (arith, c.width.ensures.is, k.some, k.wide)

pub returns : goal.returns
returns c =
    let s = c.args in
    let own = c.requires.first.1 in
    let its = c.requires.second.1 in
    c.range_kept.ensures
    ∙ ap (λ (x : ℕ). range_kept (list_as s.b.now) s.j 0 x) (c.most.ensures ∙ ap (λ (x : ℕ). 2 ^ x - 1) c.width.ensures.is)
    ∙ kept_whole _ _ _ _ (has_some _ _ (listed_ordered s.b.now) _ _ _ its (omega (arith, c.if-its.false, its.ordered)))
    (has_none _ _ (listed_ordered s.a.now) _ _ _ own (omega (arith, c.if-own.false, own.ordered)))
