-- `known::first_high` meets its contract. Assumes nothing.
use mathlib.Core.Path.{ap}
use native.Mathlib.Omega.{arith}
use borrow.Author.Rules.{rules}
use Prim.Native.Nat.{◌+◌, ◌-◌, ◌/◌}
use Rattle.paper.specs.SignalList.{Code}
use Rattle.paper.proofs.SearchLaws.{none_between, low_raised, high_lowered}
use Rattle.known.proofs.Laws.{codes_rise, listed_ordered, own_between}
use Rattle.known.proofs.first_high.Goals as goal

pub loop-low-init : goal.loop-low-init
loop-low-init c = (own_between _ _ (listed_ordered c.args.list.now) _ _ _ c.requires.0 _ c.requires.1, search rules, search rules)

pub loop-low-preserved-then-code : goal.loop-low-preserved-then-code
loop-low-preserved-then-code c = (
  low_raised _ _ _ (codes_rise _ _ (listed_ordered c.args.list.now)) _ _ _ c.loop-low.invariant.0 (omega arith)
      (omega (
        arith,
        ap (λ (x : Code). x.high) c.code.ensures.is,
        c.requires.0.within (c.loop-low.low + (c.loop-low.high - c.loop-low.low) / 2) (omega arith) (omega arith),
      )),
  search rules,
  search rules,
)

pub loop-low-preserved : goal.loop-low-preserved
loop-low-preserved c = (
  high_lowered _ _ _ (codes_rise _ _ (listed_ordered c.args.list.now)) _ _ _ c.loop-low.invariant.0 (omega arith) (omega arith)
      (omega (
        arith,
        ap (λ (x : Code). x.high) c.code.ensures.is,
        c.requires.0.within (c.loop-low.low + (c.loop-low.high - c.loop-low.low) / 2) (omega arith) (omega arith),
      )),
  search rules,
  search rules,
)

pub returns : goal.returns
returns c = none_between _ _ _ _ _ c.loop-low.invariant.0 c.loop-low-test.false
