-- `lists::judge_sized` meets its contract. Assumes nothing.
use mathlib.Core.Path.{ap}
use native.Mathlib.Omega.{arith}
use borrow.Author.Rules.{rules}
use Rattle.paper.specs.SignalList.{entry, check_size, check_at, from_signals, judge_to}
use Rattle.paper.proofs.ListLaws.{signals_within}
use Rattle.lists.proofs.Laws.{checks_from, opens, not_opened, entry_broken, entries_kept, all_kept, moves, follows}
use Rattle.lists.proofs.judge_sized.Goals as goal

pub returns-in_err-checks : goal.returns-in_err-checks
unfolding judge_to
returns-in_err-checks c = not_opened (checks_from _ _) _ _ c.from_residual.ensures c.in_err-checks.ensures.answer

pub returns-then-at-end : goal.returns-then-at-end
unfolding judge_to
returns-then-at-end c =
    entry_broken (opens (checks_from _ _) _ c.in_ok-checks.ensures.answer) (ap (entry check_size) c.first_bad_check.ensures.first) c.if-at-end.true

pub from_signals-requires-clause-checks_in_bounds : goal.from_signals-requires-clause-checks_in_bounds
from_signals-requires-clause-checks_in_bounds c =
    let o = opens (checks_from c.args.size c.args.list.now) _ c.in_ok-checks.ensures.answer in
    (o.present, all_kept o (ap (entry check_size) c.first_bad_check.ensures.first) (omega arith) c.if-at-end.false)

pub moved-requires : goal.moved-requires
moved-requires c =
    let a = c.args in
    moves (opens (checks_from a.size a.list.now) _ c.in_ok-checks.ensures.answer) (λ n. from_signals a.size n (check_at a.list.now)) c.from_signals.ensures c.rest.ensures (search rules) (signals_within _ _ _ _)

pub returns : goal.returns
unfolding judge_to
returns c =
    let a = c.args in
    let o = opens (checks_from a.size a.list.now) _ c.in_ok-checks.ensures.answer in
    entries_kept o (ap (entry check_size) c.first_bad_check.ensures.first) (omega arith) c.if-at-end.false _
    (follows o (λ n. from_signals a.size n (check_at a.list.now)) c.from_signals.ensures c.rest.ensures c.moved.ensures)
