-- `comparing::stretch_at` meets its contract: the first range that does not end below the code decides. Assumes nothing.
use mathlib.Core.Path.{ap}
use native.Mathlib.Omega.{arith}
use borrow.Author.Rules.{rules}
use Rattle.paper.specs.SignalList.{Code}
use Rattle.lists.specs.Listed.{list_as}
use Rattle.finding.proofs.Laws.{kept_as}
use Rattle.known.proofs.Laws.{listed_ordered, own_between, reaches}
use Rattle.comparing.proofs.Laws.{steady_all, steady_past, steady_gap, steady_in}
use Rattle.comparing.proofs.stretch_at.Goals as goal

pub returns-then-own : goal.returns-then-own
returns-then-own c =
    let l = c.args.list.now in
    record { more = search rules; most = search rules; each = λ d lo hi. steady_all (list_as l) (kept_as l) _ _ _ c.requires.entries.1 c.if-own.true d }

pub first_code-e-requires : goal.first_code-e-requires
first_code-e-requires c = own_between _ _ (listed_ordered c.args.list.now) _ _ _ c.requires.entries.1 _ (omega arith)

pub returns-then-own-e : goal.returns-then-own-e
returns-then-own-e c =
    let l = c.args.list.now in
    let own = c.requires.entries.1 in
    record {
      more = search rules;
      most = search rules;
      each = λ d lo hi.
          steady_past (list_as l) (kept_as l) _ _ _ own (omega (arith, c.if-own.false, own.ordered)) c.args.c _ c.first_code-e.ensures c.if-own-e.true d lo;
    }

pub returns-then-c-x : goal.returns-then-c-x
returns-then-c-x c =
    let l = c.args.list.now in
    let own = c.requires.entries.1 in
    let low = ap (λ (x : Code). x.low) c.code-x.ensures.is in
    record {
      more = omega (arith, c.min.ensures);
      most = omega (arith, c.min.ensures);
      each = λ g lo hi.
          steady_gap (list_as l) (kept_as l) _ _ _ own (omega (arith, c.if-own.false, own.ordered)) c.args.c _ c.first_code-e.ensures c.if-own-e.false g lo
          (omega (arith, c.min.ensures, low));
    }

pub returns : goal.returns
returns c =
    let l = c.args.list.now in
    let own = c.requires.entries.1 in
    let low = ap (λ (x : Code). x.low) c.code-x.ensures.is in
    let high = ap (λ (x : Code). x.high) c.code-x.ensures.is in
    record {
      more = omega (arith, c.min-2.ensures, high, reaches _ _ (listed_ordered l) _ _ _ own c.args.c _ c.first_code-e.ensures c.if-own-e.false);
      most = omega (arith, c.min-2.ensures);
      each = λ g lo hi.
          steady_in (list_as l) (kept_as l) _ _ _ own (omega (arith, c.if-own.false, own.ordered)) c.args.c _ c.first_code-e.ensures c.if-own-e.false
          (omega (arith, low, c.if-c-x.false)) g lo (omega (arith, c.min-2.ensures, high));
    }
