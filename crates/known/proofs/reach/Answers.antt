-- `known::reach` meets its contract. Assumes nothing.
use mathlib.Core.Path.{◌≡◌, ap, subst}
use native.Mathlib.Omega.{arith}
use Rattle.paper.specs.SignalList.{Code}
use Rattle.paper.proofs.SearchLaws.{none_between}
use Rattle.lists.specs.Listed.{list_as}
use Rattle.known.specs.Known.{Starts}
use Rattle.known.proofs.Laws.{listed_ordered, reach_more, reach_here}
use Rattle.known.proofs.reach.Goals as goal

pub returns-then-k-code : goal.returns-then-k-code
returns-then-k-code c =
    reach_here _ _ (listed_ordered c.args.list.now) _ _ c.loop-e.invariant c.loop-e-test.true (omega (arith, ap (λ (x : Code). x.signal) c.code.ensures.is))

pub loop-e-preserved : goal.loop-e-preserved
loop-e-preserved c =
    reach_more _ _ (listed_ordered c.args.list.now) _ _ c.loop-e.invariant c.loop-e-test.true (omega (arith, ap (λ (x : Code). x.signal) c.code.ensures.is))

pub returns : goal.returns
returns c =
    let last : c.loop-e.e ≡ c.args.list.now.counts.codes = omega (arith, c.loop-e.invariant.most) in
    subst (Starts (list_as c.args.list.now) c.args.k) last (none_between _ _ _ _ _ c.loop-e.invariant c.loop-e-test.false)
