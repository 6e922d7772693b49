-- What a slot holds, as the paper says it, and the tests of finding a slot and of taking a telegram in the parts in which the code works them out.
use Rattle.std.specs.Prelude.{ℕ, true, false, not, List, length, ◌==◌, nat_lt, Option, Some, None, Result}
use Rattle.paper.specs.Answer.{Answer, gives, refuse_if}
use Rattle.paper.specs.Telegrams.{application_type, telegram_type, is_type, type_length}
use Rattle.paper.specs.Store.{store_octets, is_store, is_vehicle, Slot, slot_of}
use Rattle.paper.specs.Reading as paper
use Rattle.refusals.specs.declared.Refusal.{Refusal}
use Rattle.refusals.specs.Outcome.{answer_of}
use Rattle.store.specs.declared.Held.{Held}

-- none is what the paper says of a slot in which nothing was heard
abbrev pub as_held : Option Held → paper.Held
as_held (Some h) = record { heard = true; expired = h.expired; type = h.kind; version = h.version; age = h.age }
as_held None = record { heard = false; expired = false; type = 0; version = 0; age = 0 }

abbrev pub held_answer : Result (Option Held) Refusal → Answer paper.Held
held_answer = answer_of as_held

abbrev pub gap_answer : Result ℕ Refusal → Answer ℕ
gap_answer = answer_of (λ n. n)

-- 5, then 6; else the slot of vehicle v
unfoldable pub finding : List ℕ → ℕ → Answer Slot
finding store v = refuse_if (not (is_store store)) 5 0 (refuse_if (not (is_vehicle v)) 6 0 (gives (slot_of store v)))

-- the tests of `taking`: those of the telegram alone, then all on a store of n octets
unfoldable pub telegram_tests : List ℕ → Answer (Unit {0})
telegram_tests telegram =
    refuse_if (nat_lt (length telegram) 2) 7 0
    (refuse_if (not (application_type telegram == 1)) 8 0
    (refuse_if (not (is_type (telegram_type telegram))) 9 0
    (refuse_if (not (length telegram == type_length (telegram_type telegram))) 10 0
    (gives tt))))

unfoldable pub taking_tests : ℕ → ℕ → List ℕ → Answer (Unit {0})
taking_tests n v telegram =
    refuse_if (not (n == store_octets)) 5 0
    (refuse_if (not (is_vehicle v)) 6 0
    (telegram_tests telegram))
