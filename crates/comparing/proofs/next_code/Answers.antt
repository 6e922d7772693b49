use mathlib.Core.Path.{◌∙◌}
use native.Mathlib.Decide.{dec_lt}
use native.Mathlib.Nat.{le_refl}
use native.Mathlib.Omega.{arith}
use Rattle.lists.specs.Listed.{list_as}
use Rattle.comparing.proofs.Laws.{wanted_is}
use Rattle.comparing.proofs.next_code.Goals as goal

pub returns-then-q-p : goal.returns-then-q-p
returns-then-q-p c =
    let s = c.args in
    let z = c.loop-c.c in
    let p = c.stretch_at-p.ensures in
    let q = c.stretch_at-q.ensures in
    record {
      least = c.loop-c.invariant.0.least;
      most = c.loop-c.invariant.1;
      before = c.loop-c.invariant.0.each;
      here = λ lt.
          wanted_is (list_as s.a.now) (list_as s.b.now) s.i s.j z _ _ (p.each z (le_refl z) p.more) (q.each z (le_refl z) q.more) s.want ∙ c.if-q-p.true;
    }

pub loop-c-preserved : goal.loop-c-preserved
loop-c-preserved c =
    let s = c.args in
    let p = c.stretch_at-p.ensures in
    let q = c.stretch_at-q.ensures in (
      record {
        least = omega (arith, c.min-c.ensures, p.more, q.more, c.loop-c.invariant.0.least);
        each = λ d lo hi. elim (dec_lt d c.loop-c.c) [
          | yes less ↦ c.loop-c.invariant.0.each d lo less
          | no ge ↦
              wanted_is (list_as s.a.now) (list_as s.b.now) s.i s.j d _ _ (p.each d (omega arith) (omega (arith, c.min-c.ensures)))
              (q.each d (omega arith) (omega (arith, c.min-c.ensures))) s.want
              ∙ c.if-q-p.false
        ];
      },
      omega (arith, c.min-c.ensures, p.most),
    )
