-- `reading::read_telegram` meets its contract. Assumes nothing.
use mathlib.Core.Path.{sym, ap, subst, ◌∙◌}
use native.Mathlib.Omega.{arith}
use Rattle.paper.specs.SignalList.{Signal}
use Rattle.paper.specs.Reading.{code_of}
use Rattle.octets.specs.Fields.{Within}
use Rattle.lists.specs.Judged.{counts_of}
use Rattle.lists.specs.Listed.{list_as}
use Rattle.reading.proofs.Laws.{field_there, check_there, telegram_live, telegram_replaced}
use Rattle.reading.proofs.read_telegram.Goals as goal

pub read_field-code-requires : goal.read_field-code-requires
read_field-code-requires c =
    let a = c.args in
    let l = a.list.now in
    subst (λ (x : Signal). Within a.telegram.now x.start x.width) (sym c.requires.s_value.0)
    (field_there l.octets.now (counts_of l.counts) a.k a.telegram.now l.laid c.requires.own_entries.0 c.requires.s_value.1)

pub mark_in-requires : goal.mark_in-requires
mark_in-requires c =
    let a = c.args in
    let l = a.list.now in
    let check = check_there l.octets.now (counts_of l.counts) a.k a.telegram.now l.laid c.requires.own_entries.0 c.requires.s_value.1 in
    (omega (arith, ap (λ (x : Signal). x.check) c.requires.s_value.0, check), c.requires.s_value.1)

pub returns-then-is_live : goal.returns-then-is_live
unfolding code_of
returns-then-is_live c =
    telegram_live (list_as c.args.list.now) _ _ c.requires.s_value.0 c.read_field-code.ensures.value c.knows-known.ensures c.mark_in.ensures c.telegram_reason-reason.ensures
    (sym c.is_live.ensures ∙ c.if-is_live.true)

pub returns-else-is_live : goal.returns-else-is_live
unfolding code_of
returns-else-is_live c =
    telegram_replaced (list_as c.args.list.now) _ _ c.requires.s_value.0 c.read_field-code.ensures.value c.knows-known.ensures c.mark_in.ensures c.telegram_reason-reason.ensures
    (sym c.is_live.ensures ∙ c.if-is_live.false)
