-- `etelegrams::e_answer` meets its contract. Assumes nothing.
use Rattle.paper.specs.ETelegrams.{answering}
use Rattle.etelegrams.specs.Answers.{answer_on}
use Rattle.refusals.proofs.WrittenLaws.{written_on, written_stays}
use Rattle.etelegrams.proofs.e_answer.Goals as goal

pub returns-in_err-read : goal.returns-in_err-read
unfolding answering
returns-in_err-read c = written_stays _ _ _ _ _ c.from_residual.ensures c.in_err-read.ensures

pub returns : goal.returns
unfolding answering answer_on
returns c = written_on _ _ _ _ _ _ c.in_ok-read.ensures c.answer.ensures
