-- `extending::range_kept` meets its contract. Assumes nothing.
use mathlib.Core.Path.{ap, ◌∙◌}
use mathlib.Core.Bool.{◌&&◌}
use lib.Dec.{leb}
use Rattle.paper.specs.SignalList.{Code}
use Rattle.finding.proofs.Laws.{kept_as}
use Rattle.known.proofs.Laws.{listed_ordered, own_between}
use Rattle.extending.proofs.Laws.{range_none, range_found}
use Rattle.extending.proofs.range_kept.Goals as goal

pub first_code-e-requires : goal.first_code-e-requires
first_code-e-requires c = own_between _ _ (listed_ordered c.args.list.now) _ _ _ c.requires.entries.1 _ c.requires.ordered.0

pub returns-then-own-e : goal.returns-then-own-e
returns-then-own-e c =
    range_none _ (kept_as c.args.list.now) _ _ _ _ _ _ c.requires.entries.1 c.requires.ordered.1 c.first_code-e.ensures c.if-own-e.true

pub returns : goal.returns
returns c =
    let s = c.args in
    ap (λ (x : Code). leb x.low s.low && leb s.high x.high) c.code-c.ensures.is
    ∙ range_found _ (kept_as s.list.now) _ _ _ _ _ _ c.requires.entries.1 c.requires.ordered.1 c.first_code-e.ensures c.if-own-e.false
