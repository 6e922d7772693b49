use mathlib.Core.Path.{◌≡◌, sym, ap, ◌∙◌}
use mathlib.Core.List.{List}
use Prim.Native.Nat.{ℕ}
use native.Mathlib.Omega.{arith}
use lib.ListN.{length, get_or, take, length-set}
use lib.Seq.{take-length}
use Rattle.paper.specs.Christening.{described}
use Rattle.train.specs.Marks.{octet_of}
use Rattle.records.specs.Records.{pair_of}
use Rattle.records.proofs.Laws.{marks_of, marks_length, filled_more, part_is, part_length}
use Rattle.records.proofs.marks_of.Goals as goal

pub mark_octet-requires : goal.mark_octet-requires
mark_octet-requires c = part_length c.args.records.now c.loop-i.i (length c.args.pairs.now) c.requires.1 c.loop-i-test.true

pub loop-i-preserved : goal.loop-i-preserved
loop-i-preserved c =
    let records = c.args.records.now in
    let pairs = c.args.pairs.now in
    let i = c.loop-i.i in
    let at = c.loop-i.at in (
      length-set at i _ ∙ c.loop-i.invariant.0,
      filled_more records pairs at i _ c.loop-i-test.true (omega arith)
          (c.mark_octet.ensures ∙ ap (λ (r : List ℕ). octet_of (described r (pair_of (get_or pairs i 0)))) (part_is records i)) c.loop-i.invariant.1,
    )

pub returns : goal.returns
returns c =
    let records = c.args.records.now in
    let pairs = c.args.pairs.now in
    let end : length pairs ≡ c.loop-i.i = omega arith in
    ap (λ (n : ℕ). take n c.loop-i.at) end ∙ c.loop-i.invariant.1 ∙ ap (λ (n : ℕ). take n (marks_of records pairs)) (sym end ∙ sym (marks_length records pairs))
    ∙ take-length (marks_of records pairs)
