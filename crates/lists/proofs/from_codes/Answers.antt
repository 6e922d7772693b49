-- `lists::from_codes` meets its contract. Assumes nothing.
use mathlib.Core.Path.{ap}
use native.Mathlib.Omega.{arith}
use borrow.Author.Rules.{rules}
use Rattle.paper.specs.SignalList.{entry, code_size, from_routes, from_codes}
use Rattle.paper.proofs.ListLaws.{routes_within}
use Rattle.entries.specs.Signals.{signals_as}
use Rattle.lists.proofs.Laws.{codes_from, opens, not_opened, entry_broken, entries_kept, moves, follows}
use Rattle.lists.proofs.from_codes.Goals as goal

pub returns-in_err-codes : goal.returns-in_err-codes
unfolding from_codes
returns-in_err-codes c = not_opened (codes_from _ _ _ _ _) _ _ c.from_residual.ensures c.in_err-codes.ensures.answer

pub returns-then-at-end : goal.returns-then-at-end
unfolding from_codes
returns-then-at-end c =
    entry_broken (opens (codes_from _ _ _ _ _) _ c.in_ok-codes.ensures.answer) (ap (entry code_size) c.first_bad_code.ensures.first) c.if-at-end.true

pub moved-requires : goal.moved-requires
moved-requires c =
    let a = c.args in
    moves (opens (codes_from a.signals.now.size a.signals.now.count (signals_as a.signals.now) a.checks a.tail.now) _ c.in_ok-codes.ensures.answer) (from_routes a.signals.now.size a.signals.now.count (signals_as a.signals.now) a.checks) c.from_routes.ensures c.rest-onward.ensures (search rules) (routes_within _ _ _ _ _ _)

pub returns : goal.returns
unfolding from_codes
returns c =
    let a = c.args in
    let o = opens (codes_from a.signals.now.size a.signals.now.count (signals_as a.signals.now) a.checks a.tail.now) _ c.in_ok-codes.ensures.answer in
    entries_kept o (ap (entry code_size) c.first_bad_code.ensures.first) (omega arith) c.if-at-end.false _
    (follows o (from_routes a.signals.now.size a.signals.now.count (signals_as a.signals.now) a.checks) c.from_routes.ensures c.rest-onward.ensures c.moved.ensures)
