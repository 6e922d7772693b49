-- `lists::from_signals` meets its contract. Assumes nothing.
use native.Mathlib.Omega.{arith}
use borrow.Author.Rules.{rules}
use Rattle.paper.specs.SignalList.{check_at, signal_at, from_codes, from_signals_to}
use Rattle.paper.proofs.ListLaws.{codes_within}
use Rattle.lists.proofs.Laws.{signals_from, opens, not_opened, entry_broken, entries_kept, moves, follows}
use Rattle.lists.proofs.from_signals.Goals as goal

pub returns-in_err-count : goal.returns-in_err-count
unfolding from_signals_to
returns-in_err-count c = not_opened (signals_from _ _ _ _) _ _ c.from_residual.ensures c.in_err-count.ensures.answer

pub returns-then-at-end : goal.returns-then-at-end
unfolding from_signals_to
returns-then-at-end c =
    entry_broken (opens (signals_from _ _ _ _) _ c.in_ok-count.ensures.answer) c.first_bad_signal-at.ensures c.if-at-end.true

pub moved-requires : goal.moved-requires
moved-requires c =
    let a = c.args in
    moves (opens (signals_from a.size a.checks (check_at a.list.now) a.tail.now) _ c.in_ok-count.ensures.answer) (λ n. from_codes a.size n (signal_at a.size a.tail.now) a.checks) c.from_codes.ensures c.rest.ensures (search rules) (codes_within _ _ _ _ _)

pub returns : goal.returns
unfolding from_signals_to
returns c =
    let a = c.args in
    let o = opens (signals_from a.size a.checks (check_at a.list.now) a.tail.now) _ c.in_ok-count.ensures.answer in
    entries_kept o c.first_bad_signal-at.ensures (omega (arith, c.requires.sized.least)) c.if-at-end.false _
    (follows o (λ n. from_codes a.size n (signal_at a.size a.tail.now) a.checks) c.from_codes.ensures c.rest.ensures c.moved.ensures)
