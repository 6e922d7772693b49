-- The code's readings as those of the paper, and the parts in which the code works them out.
use Rattle.std.specs.Prelude.{Result, ℕ, ◌≡◌, Bool, not, cond, List, [], ◌∷◌, ltb, leb, eqb}
use Rattle.paper.specs.Answer.{Answer, gives, refuse_if, after, forget, map_answer}
use Rattle.paper.specs.First.{first_of}
use Rattle.paper.specs.Telegrams.{telegram_type, version_of, carries, error, forced, undefined}
use Rattle.paper.specs.SignalList.{Signal, SignalList, knows}
use Rattle.paper.specs.Store.{Slot, is_store, is_vehicle, timely}
use Rattle.paper.specs.Reading as paper
use Rattle.paper.specs.Readings.{Readings, values_at, reasons_at, in_turn}
use Rattle.refusals.specs.declared.Refusal.{Refusal}
use Rattle.refusals.specs.Outcome.{answer_of, outcome_of}
use Rattle.reading.specs.declared.Reading.{Reading}
use Rattle.reading.specs.Reason.{reason_number}

abbrev pub as_reading : Reading → paper.Reading
as_reading r = record { value = r.value; reason = reason_number r.reason }

abbrev pub read_answer : Result Reading Refusal → Answer paper.Reading
read_answer = answer_of as_reading

-- the tests of the reasons 2 to 5, which go by the slot
abbrev pub slot_tests : Slot → ℕ → Signal → List Bool
slot_tests slot now s =
    not (paper.heard slot)
    ∷ not (timely slot now s.limit)
    ∷ not (carries (telegram_type slot.telegram) s.type)
    ∷ ltb (version_of slot.telegram) s.since
    ∷ []

-- the tests of the reasons 6 to 8, which go by the mark and the code
abbrev pub mark_tests : ℕ → Bool → List Bool
mark_tests mark known = eqb mark error ∷ eqb mark undefined ∷ not known ∷ []

-- the first of them, else 0 or 1
abbrev pub telegram_reason : ℕ → Bool → ℕ
telegram_reason mark known = first_of 6 (mark_tests mark known) (cond (eqb mark forced) 1 0)

-- what is read where none of the reasons 2 to 5 applies
unfoldable pub telegram_reading : SignalList → List ℕ → ℕ → paper.Reading
telegram_reading l telegram k =
    let s = l.signal k in
    let code = paper.code_of s telegram in
    let reason = telegram_reason (paper.mark_of l s telegram) (knows l k code) in
    record { value = cond (leb 2 reason) s.replacement code; reason = reason }

-- the value and the reason of every signal, in list order
pub record EachRead (l : SignalList) (store : List ℕ) (now v : ℕ) (values reasons : List ℕ) : Type 0 where
  pub value : values ≡ values_at l store now v
  pub reason : reasons ≡ reasons_at l store now v

-- the same of the vehicles 1 to `last`
pub record TrainRead (l : SignalList) (store : List ℕ) (now last : ℕ) (values reasons : List ℕ) : Type 0 where
  pub value : values ≡ in_turn (values_at l store now) last
  pub reason : reasons ≡ in_turn (reasons_at l store now) last

-- a call that writes values and reasons: its outcome, and both areas afterwards, which are as they were where it is refused
pub record ReadInto (answer : Answer Readings) (values reasons : List ℕ) (r : Result (Unit {0}) Refusal) (values' reasons' : List ℕ) : Type 0 where
  pub outcome : outcome_of r ≡ forget answer
  pub value : values' ≡ after values (map_answer (λ x. x.values) answer)
  pub reason : reasons' ≡ after reasons (map_answer (λ x. x.reasons) answer)

-- the paper's `reading` under a list
unfoldable pub reading_under : SignalList → List ℕ → ℕ → ℕ → ℕ → Answer paper.Reading
reading_under l store now v k =
    refuse_if (not (is_store store)) 5 0
    (refuse_if (not (is_vehicle v)) 6 0
    (refuse_if (not (ltb k l.signals)) 11 0
    (gives (paper.reading_at l store now v k))))
