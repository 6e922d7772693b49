-- `records::christen` meets its contract. Assumes nothing.
use mathlib.Core.Path.{◌≡◌, sym, ap, ◌∙◌}
use mathlib.Core.Bool.{Bool}
use mathlib.Core.List.{List, map}
use Prim.Native.Nat.{ℕ}
use Rattle.paper.specs.Octets.{over}
use Rattle.paper.specs.Train.{consist_rule}
use Rattle.train.specs.Marks.{vehicle_of, consist_ok}
use Rattle.train.proofs.MarkOctets.{marks_back}
use Rattle.records.specs.Records.{below32}
use Rattle.records.proofs.Laws.{train_of, marks_of, train_length, marks_below, christened_refused, christened_given, not_whole, not_many, none, long, unruly, given}
use Rattle.records.proofs.christen.Goals as goal
use Rattle.records.proofs.christen.Goals.{then-records-ne0-via-then-records-ne0, then-records-ne0-via-else-records-ne0+then-records-n, then-n-eq0-via-then-n-eq0, then-n-eq0-via-else-n-eq0+then-n-gt63}

-- the rule over the octets is the rule over the train that they are of
ruled : (area pairs at : List ℕ) (b : Bool) → at ≡ marks_of area pairs → b ≡ consist_ok at → b ≡ consist_rule (train_of area pairs)
ruled area pairs at b e said = said ∙ ap consist_rule (ap (map vehicle_of) e ∙ marks_back (train_of area pairs))

pub returns-then-records-ne0 : goal.returns-then-records-ne0
returns-then-records-ne0 c =
    let a = c.args in
    christened_refused _ _ _ (elim c.then-records-ne0.branch [
      | then-records-ne0-via-then-records-ne0 w ↦ not_whole a.records.now a.pairs.now w.if-records-ne0.true
      | then-records-ne0-via-else-records-ne0+then-records-n w ↦ not_many a.records.now a.pairs.now w.if-records-ne0.false w.if-records-n.true
    ])

pub returns-then-n-eq0 : goal.returns-then-n-eq0
returns-then-n-eq0 c =
    let a = c.args in
    christened_refused _ _ _ (elim c.then-n-eq0.branch [
      | then-n-eq0-via-then-n-eq0 w ↦ none a.records.now a.pairs.now c.if-records-ne0.false c.if-records-n.false w.if-n-eq0.true
      | then-n-eq0-via-else-n-eq0+then-n-gt63 w ↦ long a.records.now a.pairs.now c.if-records-ne0.false c.if-records-n.false w.if-n-gt63.true
    ])

pub returns-then-not-consist_ok : goal.returns-then-not-consist_ok
returns-then-not-consist_ok c =
    let records = c.args.records.now in
    let pairs = c.args.pairs.now in
    let rule = sym (ruled records pairs _ _ c.marks_of-octets.ensures c.consist_ok.ensures) ∙ c.if-not-consist_ok.true in
    christened_refused _ _ _ (unruly records pairs c.if-records-ne0.false c.if-records-n.false c.if-n-eq0.false c.if-n-gt63.false rule)

pub returns : goal.returns
returns c =
    let records = c.args.records.now in
    let pairs = c.args.pairs.now in
    let rule = sym (ruled records pairs _ _ c.marks_of-octets.ensures c.consist_ok.ensures) ∙ c.if-not-consist_ok.false in
    christened_given _ (train_of records pairs) _ _ _ (given records pairs c.if-records-ne0.false c.if-records-n.false c.if-n-eq0.false c.if-n-gt63.false rule)
    (sym (train_length records pairs))
    (c.write_marks.ensures ∙ ap (over c.args.marks.now 0) (ap (map below32) c.marks_of-octets.ensures ∙ marks_below (train_of records pairs)))
