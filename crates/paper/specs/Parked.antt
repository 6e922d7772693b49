-- C-12: "A coach parked nearly fifty days showed old door signals as live". Vehicle 1 sends the telegram of the marked case (a) at the true time
-- 0 and is silent from then on; the signal of L has a limit of 5,000 ms.
use Rattle.std.specs.Prelude.{ℕ, ◌+◌, ◌%◌, ◌≡◌, refl, List, [], ◌∷◌, map}
use Rattle.paper.specs.Octets.{bit, field, number, octets_of, over}
use Rattle.paper.specs.Answer.{gives, refuse_if}
use Rattle.paper.specs.First.{first_from, first_bad, all, some, greatest}
use Rattle.paper.specs.Telegrams.{application_type, telegram_type, version_of}
use Rattle.paper.specs.SignalList
use Rattle.paper.specs.SignalList.{judge_to, has_codes, in_range, known_in, knows, place_of}
use Rattle.paper.specs.Store.{slot_of, taken, taking, turn, age}
use Rattle.paper.specs.Reading.{heard, mark_of, code_of, hindrances, reason_of, reading_of, reading_at, reading}
use Rattle.paper.specs.Demands.{Step, offer, sweep, run, half_turn, on_clock}
use Rattle.paper.specs.Bench.{list_l, telegram, silent}

abbrev pub sent : ℕ → Step
sent t = offer 1 t (telegram 0x10 0x40)

-- the complaint: with no sweep, at an age of 49.7 days and 1 s (4,294,967,296 ms and 1,000), it reads live
pub come_round :
    let store = run silent (map on_clock (sent 0 ∷ [])) in
    reading 1 list_l store ((turn + 1000) % turn) 1 0 ≡ gives (record { value = 4; reason = 0 })
unfolding run telegram silent list_l bit field number octets_of over refuse_if first_from first_bad all some greatest application_type telegram_type version_of
    SignalList.check_at SignalList.signal_size SignalList.signal_at SignalList.among SignalList.code_at SignalList.route_at SignalList.check_rule SignalList.signal_rule_to SignalList.code_rule
    SignalList.route_rule SignalList.opening SignalList.judge_entries SignalList.judge_section SignalList.greatest_since SignalList.ending
    SignalList.from_routes SignalList.from_codes SignalList.from_signals_to judge_to has_codes in_range known_in knows place_of slot_of taken taking age heard mark_of
    code_of hindrances reason_of reading_of reading_at reading
come_round = refl

-- with sweeps half a turn apart, as the request asks for them; and a whole turn apart
abbrev pub watched : List Step
watched = sent 0 ∷ sweep half_turn ∷ sweep turn ∷ []

abbrev pub seldom : List Step
seldom = sent 0 ∷ sweep turn ∷ sweep (turn + turn) ∷ []
