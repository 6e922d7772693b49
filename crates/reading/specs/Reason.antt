-- The paper's number of a reason.
use Rattle.std.specs.Prelude.{ℕ, Option, Some, None}
use Rattle.reading.specs.declared.reason.Reason.{Reason}
use Rattle.reading.specs.declared.reason.Reason.TheVariants as R

abbrev pub reason_number : Reason → ℕ
reason_number R.Live = 0
reason_number R.Forced = 1
reason_number R.NeverHeard = 2
reason_number R.TooOld = 3
reason_number R.NotCarried = 4
reason_number R.NewerThanTelegram = 5
reason_number R.MarkError = 6
reason_number R.MarkUndefined = 7
reason_number R.CodeUnknown = 8

-- 0 where there is none
abbrev pub hindrance_number : Option Reason → ℕ
hindrance_number (Some r) = reason_number r
hindrance_number None = 0
