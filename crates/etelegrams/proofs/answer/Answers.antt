-- `etelegrams::answer` meets its contract. Assumes nothing.
use mathlib.Core.Path.{ap}
use borrow.Author.Tests.{ne_eqb, eq-eqb, lt-ltb, le-ltb}
use Rattle.paper.specs.Answer.{gives, refuse_if}
use Rattle.paper.specs.ETelegrams.{answer_to}
use Rattle.etelegrams.specs.Answers.{answer_on}
use Rattle.etelegrams.proofs.Laws.{nine_octets}
use Rattle.refusals.proofs.WrittenLaws.{written_refused, written_done}
use Rattle.etelegrams.proofs.answer.Goals as goal

pub returns-then-read : goal.returns-then-read
unfolding answer_on refuse_if
returns-then-read c = written_refused _ _ _ (simp c.if-read.true)

pub returns-then-head-ne6 : goal.returns-then-head-ne6
unfolding answer_on refuse_if
returns-then-head-ne6 c = written_refused _ _ _ (simp (c.if-read.false, ne_eqb _ _ c.if-head-ne6.true))

pub returns-then-out-lt9 : goal.returns-then-out-lt9
unfolding answer_on refuse_if
returns-then-out-lt9 c = written_refused _ _ _ (simp (c.if-read.false, eq-eqb _ _ c.if-head-ne6.false, lt-ltb _ _ c.if-out-lt9.true))

pub returns : goal.returns
unfolding answer_on refuse_if answer_to
returns c =
    written_done _ _ _ (simp (c.if-read.false, eq-eqb _ _ c.if-head-ne6.false, le-ltb _ _ c.if-out-lt9.false)
    (ap gives (rw (c.write16.ensures, c.copy_over.ensures) (nine_octets _ _ _ _ c.if-head-ne6.false c.if-out-lt9.false))))
