-- Which case of the code's enums stands for which of the paper's kinds, shown readings and answers.
use Rattle.std.specs.Prelude.{Result}
use Rattle.paper.specs.Answer.{Answer}
use Rattle.paper.specs.Shown as paper
use Rattle.refusals.specs.declared.Refusal.{Refusal}
use Rattle.refusals.specs.Outcome.{answer_of}
use Rattle.reading.specs.Reason.{reason_number}
use Rattle.shown.specs.declared.Kind.{Kind}
use Rattle.shown.specs.declared.Kind.TheVariants as K
use Rattle.shown.specs.declared.Shown.{Shown}
use Rattle.shown.specs.declared.Shown.TheVariants as S
use Rattle.shown.specs.declared.ShownReading.{ShownReading}

abbrev pub kind_of : Kind → paper.Kind
kind_of K.Code = paper.code
kind_of K.Speed = paper.speed
kind_of K.Percentage = paper.percentage
kind_of K.SignedPercentage = paper.signed_percentage
kind_of K.Current = paper.current

abbrev pub shown_of : Shown → paper.Shown
shown_of (S.Code c) = paper.as_code c
shown_of (S.Speed x) = paper.as_speed x
shown_of (S.Percentage x) = paper.as_percentage x
shown_of (S.Current x) = paper.as_current x

abbrev pub reading_of : ShownReading → paper.ShownReading
reading_of s = record { shown = shown_of s.shown; reason = reason_number s.reason }

abbrev pub showing_answer : Result ShownReading Refusal → Answer paper.ShownReading
showing_answer = answer_of reading_of
