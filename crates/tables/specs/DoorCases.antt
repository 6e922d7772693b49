-- C-20: summaries of the doors over small trains, and what is answered where two faults meet.
use Rattle.std.specs.Prelude.{ℕ, ◌≡◌, refl, true, false, List, [], ◌∷◌, ◌++◌, map, set, replicate, take}
use Rattle.paper.specs.Octets.{bit, field, number, octets_of, over}
use Rattle.paper.specs.Answer.{refuse_if}
use Rattle.paper.specs.First.{first_from, first_bad, all, some, count, greatest}
use Rattle.paper.specs.Telegrams.{application_type, telegram_type, version_of}
use Rattle.paper.specs.SignalList
use Rattle.paper.specs.SignalList.{Signal, Code, judge_to, has_codes, in_range, known_in, knows, place_of, version}
use Rattle.paper.specs.Pairs.{signal_found}
use Rattle.paper.specs.Store.{slot_start, slot_of, age, stale}
use Rattle.paper.specs.Reading.{heard, mark_of, code_of, hindrances, reason_of, reading_of, reading_at}
use Rattle.paper.specs.Train.{Vehicle, consist_rule, meets, member, set_to, members_of, resolving}
use Rattle.paper.specs.Doors.{state_of, side_of, doors_of, doors}
use Rattle.paper.specs.Bench.{silent}
use Rattle.tables.specs.Cases.{joined, made, signal, code, Question, asks_doors, gave, refuses, ask}
use Rattle.tables.specs.RemedyCases.{Case, case}

-- both door signals, with a limit of 5,000 ms; with codes of the first
unfoldable pub door_list : List Code → List ℕ
door_list codes = made [] (signal 156 1 0 0 1 5000 0 ∷ signal 157 1 0 0 1 5000 0 ∷ []) codes []

-- with a third bit behind them
unfoldable pub three_bits : List ℕ
three_bits = made [] (signal 156 1 0 0 1 5000 0 ∷ signal 157 1 0 0 1 5000 0 ∷ signal 158 1 0 0 1 5000 0 ∷ []) [] []

-- lists without them: other places, another width
unfoldable pub other_list : Signal → Signal → List ℕ
other_list s t = made [] (s ∷ t ∷ []) [] []

abbrev pub door_bit : ℕ → ℕ → Signal
door_bit start width = signal start width 0 0 1 5000 0

-- vehicle v heard at 0 with this octet 20: 8 is the left side locked, 4 the right
abbrev pub said_by : ℕ → ℕ → List ℕ → List ℕ
said_by v o20 store = over store (slot_start v) (1 ∷ octets_of 4 0 ++ (octets_of 4 0 ++ set (0x11 ∷ 0x01 ∷ replicate 126 0) 19 o20))

abbrev pub a_coach : Vehicle
a_coach = record { leading = false; coach = true; tractive = false; led = false; sleeping = false }

abbrev pub an_engine : Vehicle
an_engine = record { leading = true; coach = false; tractive = true; led = false; sleeping = false }

-- the door signals under a check at octet 4 bits 4-5, and vehicle 1 heard with this mark and both sides locked
unfoldable pub checked_list : List ℕ
checked_list = made (28 ∷ []) (signal 156 1 0 1 1 5000 0 ∷ signal 157 1 0 1 1 5000 0 ∷ []) [] []

abbrev pub marked_by : ℕ → List ℕ
marked_by o4 = over silent 0 (1 ∷ octets_of 4 0 ++ (octets_of 4 0 ++ set (set (0x11 ∷ 0x01 ∷ replicate 126 0) 3 o4) 19 0x0C))

-- a train of these, both sides at 5,000 ms, at this address
abbrev pub summary : List ℕ → List Vehicle → ℕ → Question
summary store train a = asks_doors (door_list []) store 5000 train a

abbrev pub coaches : List Vehicle
coaches = a_coach ∷ a_coach ∷ []

abbrev pub both_sides : ℕ → ℕ → ℕ → ℕ → ℕ → ℕ → List ℕ
both_sides left set size right set' size' = gave (left ∷ set ∷ size ∷ right ∷ set' ∷ size' ∷ [])

unfoldable pub cases : List Case
cases =
    -- both locked; the left one open at vehicle 2; the right one; vehicle 2 never heard; vehicle 1 open and vehicle 2 never heard
    case (summary (said_by 1 0x0C (said_by 2 0x0C silent)) coaches 66) (both_sides 0 0 0 0 0 0)
    ∷ case (summary (said_by 1 0x0C (said_by 2 0x04 silent)) coaches 66) (both_sides 1 4 1 0 0 0)
    ∷ case (summary (said_by 1 0x0C (said_by 2 0x08 silent)) coaches 66) (both_sides 0 0 0 1 4 1)
    ∷ case (summary (said_by 1 0x0C silent) coaches 66) (both_sides 2 4 1 2 4 1)
    ∷ case (summary (said_by 1 0x00 silent) coaches 66) (both_sides 1 6 2 1 6 2)
    ∷ case (summary silent coaches 66) (both_sides 2 6 2 2 6 2)
    -- too old by a millisecond
    ∷ case (asks_doors (door_list []) (said_by 1 0x0C (said_by 2 0x0C silent)) 5001 coaches 66) (both_sides 2 6 2 2 6 2)
    -- narrowed: vehicle 1 alone, the coaches, whom the engine does not hold up
    ∷ case (summary (said_by 1 0x0C silent) coaches 1) (both_sides 0 0 0 0 0 0)
    ∷ case (summary (said_by 2 0x0C silent) (an_engine ∷ a_coach ∷ []) 67) (both_sides 0 0 0 0 0 0)
    ∷ case (summary (said_by 2 0x0C silent) (an_engine ∷ a_coach ∷ []) 66) (both_sides 2 2 1 2 2 1)
    -- vehicle 3, which the train does not have, is open
    ∷ case (summary (said_by 1 0x0C (said_by 2 0x0C (said_by 3 0x00 silent))) coaches 66) (both_sides 0 0 0 0 0 0)
    -- of the left door 0 is no known code: not live, so not known
    ∷ case (asks_doors (door_list (code 0 1 1 ∷ [])) (said_by 1 0x04 silent) 5000 (a_coach ∷ []) 66) (both_sides 2 2 1 0 0 0)
    -- forced counts as live, error does not
    ∷ case (asks_doors checked_list (marked_by 0x08) 5000 (a_coach ∷ []) 66) (both_sides 0 0 0 0 0 0)
    ∷ case (asks_doors checked_list (marked_by 0x00) 5000 (a_coach ∷ []) 66) (both_sides 2 2 1 2 2 1)
    -- 35: a place beside, the right one of two bits, one field over both, the right one alone
    ∷ case (asks_doors (other_list (door_bit 156 1) (door_bit 158 1)) silent 0 coaches 66) (refuses 35 0)
    ∷ case (asks_doors (other_list (door_bit 156 1) (door_bit 157 2)) silent 0 coaches 66) (refuses 35 0)
    ∷ case (asks_doors (other_list (door_bit 155 1) (door_bit 156 2)) silent 0 coaches 66) (refuses 35 0)
    ∷ case (asks_doors (other_list (door_bit 157 1) (door_bit 159 1)) silent 0 coaches 66) (refuses 35 0)
    -- two faults: list and store, store and door, door and train or address, train and address; then an address by itself
    ∷ case (asks_doors [] [] 0 [] 0) (refuses 1 0)
    ∷ case (asks_doors (other_list (door_bit 156 1) (door_bit 158 1)) (take 8630 silent) 0 coaches 66) (refuses 5 0)
    ∷ case (asks_doors (other_list (door_bit 156 1) (door_bit 158 1)) silent 0 [] 66) (refuses 35 0)
    ∷ case (asks_doors (other_list (door_bit 156 1) (door_bit 158 1)) silent 0 (an_engine ∷ an_engine ∷ []) 66) (refuses 35 0)
    ∷ case (asks_doors (other_list (door_bit 156 1) (door_bit 158 1)) silent 0 coaches 68) (refuses 35 0)
    ∷ case (summary silent [] 0) (refuses 17 0)
    ∷ case (summary silent (an_engine ∷ an_engine ∷ []) 0) (refuses 18 0)
    ∷ case (summary silent coaches 68) (refuses 19 0)
    ∷ case (summary silent coaches 64) (refuses 20 0)
    ∷ []

-- the one computed test
pub doors_answered : map (λ c. case c.asked (ask c.asked)) cases ≡ cases
unfolding cases ask door_list other_list checked_list joined made silent bit field number octets_of over refuse_if first_from first_bad all some count greatest application_type telegram_type version_of
    SignalList.check_at SignalList.signal_size SignalList.signal_at SignalList.among SignalList.code_at SignalList.route_at SignalList.check_rule SignalList.signal_rule_to SignalList.code_rule SignalList.route_rule
    SignalList.opening SignalList.judge_entries SignalList.judge_section SignalList.greatest_since SignalList.ending SignalList.from_routes SignalList.from_codes SignalList.from_signals_to judge_to
    has_codes in_range known_in knows place_of version signal_found slot_of age stale heard mark_of code_of hindrances reason_of reading_of reading_at consist_rule meets member set_to members_of resolving
    state_of side_of doors_of doors
doors_answered = refl
