-- The paper's number of a refusal, and what it carries.
use Rattle.std.specs.Prelude.{ℕ}
use Rattle.paper.specs.Answer.{Answer, refused}
use Rattle.refusals.specs.declared.Refusal.{Refusal}
use Rattle.refusals.specs.declared.Refusal.TheVariants as R

abbrev pub number_of : Refusal → ℕ
number_of (R.ListEnds at) = 1
number_of (R.CountAbove at) = 2
number_of (R.EntryBroken at) = 3
number_of (R.OctetsAfter at) = 4
number_of R.StoreLength = 5
number_of R.Vehicle = 6
number_of R.TelegramShort = 7
number_of R.ApplicationType = 8
number_of R.TelegramType = 9
number_of R.TelegramLength = 10
number_of R.NoSuchSignal = 11
number_of R.DataShort = 12
number_of R.ValuesOrMarks = 13
number_of R.MarkAbove = 14
number_of (R.ValueUnfit k) = 15
number_of R.OutputLength = 16
number_of R.ConsistLength = 17
number_of R.ConsistRule = 18
number_of R.AddressUnlisted = 19
number_of R.NobodyMeets = 20
number_of R.ELength = 21
number_of R.ECode = 22
number_of R.AnswerToReport = 23
number_of R.HeadLength = 24
number_of R.OutputShort = 25
number_of R.ScaledKind = 26
number_of R.NoCheckPlace = 27
number_of R.BlockPast = 28
number_of R.RemedyField = 29
number_of R.KeyTwice = 30
number_of R.RecordsMisfit = 31
number_of R.SerialSet = 32
number_of R.FormOutput = 33
number_of (R.Profile at) = 34
number_of R.DoorMissing = 35
number_of R.DataLengths = 36
number_of R.StepBroken = 37
number_of R.StepsTooMany = 38

-- the offset of 1 to 4 and 34, and the signal of 15; nothing (0) of the others
abbrev pub carried_of : Refusal → ℕ
carried_of (R.ListEnds at) = at
carried_of (R.CountAbove at) = at
carried_of (R.EntryBroken at) = at
carried_of (R.OctetsAfter at) = at
carried_of R.StoreLength = 0
carried_of R.Vehicle = 0
carried_of R.TelegramShort = 0
carried_of R.ApplicationType = 0
carried_of R.TelegramType = 0
carried_of R.TelegramLength = 0
carried_of R.NoSuchSignal = 0
carried_of R.DataShort = 0
carried_of R.ValuesOrMarks = 0
carried_of R.MarkAbove = 0
carried_of (R.ValueUnfit k) = k
carried_of R.OutputLength = 0
carried_of R.ConsistLength = 0
carried_of R.ConsistRule = 0
carried_of R.AddressUnlisted = 0
carried_of R.NobodyMeets = 0
carried_of R.ELength = 0
carried_of R.ECode = 0
carried_of R.AnswerToReport = 0
carried_of R.HeadLength = 0
carried_of R.OutputShort = 0
carried_of R.ScaledKind = 0
carried_of R.NoCheckPlace = 0
carried_of R.BlockPast = 0
carried_of R.RemedyField = 0
carried_of R.KeyTwice = 0
carried_of R.RecordsMisfit = 0
carried_of R.SerialSet = 0
carried_of R.FormOutput = 0
carried_of (R.Profile at) = at
carried_of R.DoorMissing = 0
carried_of R.DataLengths = 0
carried_of R.StepBroken = 0
carried_of R.StepsTooMany = 0

-- the answer of a call that is refused
abbrev pub refusal_of : {A : Type 0} → Refusal → Answer A
refusal_of f = refused (number_of f) (carried_of f)
