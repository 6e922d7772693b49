-- Wrong gateways: those that document 01 names, the slips that have been shipped, and for each call the mistakes nearest at hand. Each is
-- shown at a question where it answers otherwise than the contract fixes: one table, one computed test. A contract is an equation, so no
-- code that answers so can meet it.
use Rattle.std.specs.Prelude.{ℕ, ◌+◌, ◌-◌, ◌*◌, ◌≡◌, refl, Bool, true, false, ◌&&◌, List, [], ◌∷◌, ◌++◌, map, take, drop, replicate, set, eqb}
use Prim.Native.String.{String}
use Rattle.std.specs.Float.Ieee.{to_bits, of_bits, round}
use Rattle.paper.specs.Octets.{field, bit, number, octets_of, over, put, puts, set_bit, with_bit}
use Rattle.paper.specs.Answer.{refuse_if, after}
use Rattle.paper.specs.First.{first_from, first_bad, all, some, next, count, greatest, listed}
use Rattle.paper.specs.Telegrams.{application_type, telegram_type, version_of, rows, place_in}
use Rattle.paper.specs.SignalList
use Rattle.paper.specs.SignalList.{Signal, Code, Route, judge_to, version, has_codes, in_range, known_in, knows, place_of}
use Rattle.paper.specs.Broken.{fault_in, fault_from_routes, fault_from_codes, fault_from_signals, fault_of}
use Rattle.paper.specs.Forms.{serial_at, serial_of, narrowed, dropped_from, dropped, spread, widened_from, widened, to_form2, to_form1}
use Rattle.paper.specs.Extends.{codes_kept, keeps, stands, newer, extends_lists}
use Rattle.paper.specs.Extends as Extending
use Rattle.paper.specs.Pairs.{entry_of, route_entry, signal_found, finding, has, index, next_pair, pairing}
use Rattle.paper.specs.Comparing.{starts, past, change_at, codes_compared, gained, signal_differs, signal_change, breaks, route_differs, route_change, next_signal, next_route, next_gained, signal_changes, route_changes, codes_gained}
use Rattle.paper.specs.Store.{slot_head, slot_octets, store_octets, slot_start, slot_of, taken, taking, age, gap, gapping, stale, swept_one, swept_to, sweeping}
use Rattle.paper.specs.Reading.{heard, held_in, holding, mark_of, code_of, hindrances, reason_of, reading_of, reading_at, reading}
use Rattle.paper.specs.Readings.{values_at, reasons_at, in_turn, readings, train_readings}
use Rattle.paper.specs.Marshalling.{routed, marshalled, live, marshalling}
use Rattle.paper.specs.Composing.{headed, composed, mark_fits, value_fits, composing}
use Rattle.paper.specs.Relaying.{relay_type, read_live, under, all_live, vouched, relay_mark, relay_value, relaying}
use Rattle.paper.specs.Profiles.{plain_coach, driving_trailer, under_table, signal_broken, route_broken, first_breach, breach_in, breach_of, profiling}
use Rattle.paper.specs.Shown.{Kind, speed, percentage, signed_percentage, showing}
use Rattle.paper.specs.Shown as Shown
use Rattle.paper.specs.Train.{Vehicle, consist_rule, meets, member, set_to, members_of, resolving}
use Rattle.paper.specs.ETelegrams.{requests, is_request, is_report, e_limit, e_reading, answer_to, answering}
use Rattle.paper.specs.Doors.{state_of, side_of, doors_of, doors}
use Rattle.paper.specs.Recordings.{route_with, located, first_wrong, same_octets, checking, onward, judged, recording}
use Rattle.paper.specs.Recordings as Recordings
use Rattle.paper.specs.Christening.{properties, described, vehicles_of, christening, row_in, property_of}
use Rattle.paper.specs.Remedies.{start, twice, block_fault, first_fault, remedy_reading, remedy_block, remedy_text, area_to, block_octets, blocks_to, front_octets, telegram_of, size_to, handed_fault, remedy_writing}
use Rattle.paper.specs.Bench.{list_l, list_l2, list_v, telegram, silent}
use Rattle.tables.specs.Marked.{heard_at, raw_at}
use Rattle.tables.specs.Cases.{joined, made, made2, bits, signal, code, route, Question, judges, judges_in, faults, faults_in, profiles_in, profiles, breaches, extends, extends_in, serials_in, moves_to2, moves_to1, reads_in, signal_entries, route_entries, finds, pairs, signal_changes_in, changes, reroutes, gains, places, takes, gaps, sweeps, holds, reads, reads_all, reads_train, marshals, composes, relays, shows, resolves, e_reads, e_answers, gave, refuses, ask, christens, asks_row, asks_doors, checks_step, checks_all, remedy_reads, remedy_blocks, remedy_writes, texts_writes}
use Rattle.tables.specs.DoorCases.{door_list, three_bits, other_list, checked_list, door_bit, said_by, marked_by, a_coach, an_engine, summary, coaches, both_sides}
use Rattle.tables.specs.RecordingCases.{two_routes, heard_two, step, data2, first, later, is_right, wrong_in, wrong_out}
use Rattle.tables.specs.RecordCases.{blank, only, unmarked, leads, follows, alone}
use Rattle.tables.specs.RemedyCases.{front, two_texts, but, long, write}

-- ---- A wrong gateway

-- what it does where it is asked a question: it answers as the paper does to another one, or it says this
pub data Wrongly : Type 0 where
  answers : Question → Wrongly
  says : List ℕ → Wrongly

unfoldable pub answered : Wrongly → List ℕ
answered (answers q) = ask q
answered (says xs) = xs

-- its name, the question, what the contract fixes, what the wrong gateway does, and the answer it gives so
pub record Row : Type 0 where
  pub name : String
  pub asked : Question
  pub right : List ℕ
  pub does : Wrongly
  pub wrong : List ℕ

abbrev pub asked_as : String → Question → List ℕ → Question → List ℕ → Row
asked_as name q right other wrong = record { name = name; asked = q; right = right; does = answers other; wrong = wrong }

abbrev pub saying : String → Question → List ℕ → List ℕ → Row
saying name q right wrong = record { name = name; asked = q; right = right; does = says wrong; wrong = wrong }

-- ---- Words for the questions

-- L with another octet; without its codes; with a second route, of vehicle 2 to bit 4
abbrev since_2 : List ℕ
since_2 = set list_l 11 2

abbrev no_codes : List ℕ
no_codes = take 22 list_l ++ (0 ∷ 0 ∷ drop 36 list_l)

abbrev two_routes_lem : List ℕ
two_routes_lem = set list_l 37 2 ++ (0 ∷ 0 ∷ 2 ∷ 0 ∷ 0 ∷ 4 ∷ [])

-- signal 0 of vehicle 1 under L, of a telegram 5,000 ms old with these octets 41 and 54
abbrev read : ℕ → ℕ → Question
read o41 o54 = reads list_l (heard_at o41 o54 0) 5000 1 0

-- the same of a telegram with another octet 1 or 2
abbrev headed_by : ℕ → ℕ → List ℕ
headed_by o1 o2 = set (set (heard_at 0x10 0x40 0) slot_head o1) (slot_head + 1) o2

-- vehicle 1 heard at 0 with the code 4, and this heard octet put in its place: 2 is expired
abbrev mark : ℕ → List ℕ
mark x = set (heard_at 0x10 0x40 0) 0 x

-- a sweep at 600,000, the clock having come round: vehicle 1 was heard at the stamp 01 02 03 04, vehicle 63 at 01 00 00 00, and vehicle 3 at 0;
-- vehicle 2 has the heard octet 7 and the stamp 01 00 00 00. Looked at: the heard octet, the stamp and the telegram's octet 1 of vehicle 1, and the
-- heard octets of the others
abbrev with_slot : ℕ → ℕ → ℕ → List ℕ → List ℕ
with_slot v mark high store = set (set store (slot_start v) mark) (slot_start v + 1) high

abbrev parked : Question
parked =
    sweeps (with_slot 2 7 1 (with_slot 3 1 0 (with_slot 63 1 1 (heard_at 0x10 0x40 0x01020304)))) 600000
    (0 ∷ 1 ∷ 2 ∷ 3 ∷ 4 ∷ slot_head ∷ slot_start 2 ∷ slot_start 3 ∷ slot_start 63 ∷ [])

abbrev swept_to_lem : ℕ → List ℕ → ℕ → ℕ → ℕ → List ℕ
swept_to_lem one stamp two three last = gave (one ∷ stamp ++ (0x11 ∷ two ∷ three ∷ last ∷ []))

abbrev stamp : List ℕ
stamp = 1 ∷ 2 ∷ 3 ∷ 4 ∷ []

-- C-16: vehicle 1 with this heard octet, stamp and previous stamp
abbrev stamped : ℕ → ℕ → ℕ → List ℕ
stamped mark stamp previous = over silent 0 (mark ∷ octets_of 4 stamp ++ (octets_of 4 previous ++ telegram 0x10 0x40))

-- a telegram taken at 0A 0B 0C 0D from vehicle 1 with this heard octet, the stamp 01 02 03 04 and the previous stamp 05 06 07 08. Looked at: both
-- stamps, octets 1 to 4 of the telegram, and the heard octet of vehicle 2
abbrev renewed : List ℕ → Question
renewed store = takes store 1 0x0A0B0C0D (telegram 0 0) (1 ∷ 2 ∷ 3 ∷ 4 ∷ 5 ∷ 6 ∷ 7 ∷ 8 ∷ 9 ∷ 10 ∷ 11 ∷ 12 ∷ slot_octets ∷ [])

abbrev renewed_to : List ℕ → List ℕ → ℕ → List ℕ
renewed_to previous head next = gave (0x0A ∷ 0x0B ∷ 0x0C ∷ 0x0D ∷ previous ++ (head ++ (next ∷ [])))

abbrev heard_before : ℕ → List ℕ
heard_before mark = stamped mark 0x01020304 0x05060708

abbrev earlier : List ℕ
earlier = 5 ∷ 6 ∷ 7 ∷ 8 ∷ []

abbrev head : List ℕ
head = 0x11 ∷ 1 ∷ 0 ∷ 0 ∷ []

abbrev gap_is : ℕ → List ℕ
gap_is n = gave (n ∷ [])

-- L without a time limit
abbrev no_limit : List ℕ
no_limit = set (set list_l 14 0) 15 0

-- the elements of a store at the end of an R3 in the first slot, behind it, at the slot's end and behind that
abbrev behind_r3 : List ℕ
behind_r3 = (slot_head + 39) ∷ (slot_head + 40) ∷ (slot_octets - 1) ∷ slot_octets ∷ []

abbrev value : ℕ → ℕ → List ℕ
value x reason = gave (x ∷ reason ∷ [])

-- L marshalled into an octet AB, vehicle 1 heard with the code 4 and vehicle 2 never
abbrev marshal : List ℕ → Question
marshal xs = marshals xs (heard_at 0x10 0x40 0) 0 (0xAB ∷ [])

abbrev filled : ℕ → ℕ → List ℕ
filled lives octet = gave (lives ∷ octet ∷ [])

-- a raw value of 16 bits, 5,000 ms old, shown
abbrev shown_as_lem : Kind → ℕ → Question
shown_as_lem kind raw = shows (list_v 16 64) (raw_at raw) 5000 1 0 kind

-- C-24: a list with these checks, two common signals of 4 bits at 24 and 28, under the first check and under this one, replacement 1 and this one, which
-- know the codes 0 to 5
abbrev relay_list : List ℕ → ℕ → ℕ → List ℕ
relay_list checks second replacement =
    made checks (signal 24 4 0 1 1 0 1 ∷ signal 28 4 0 second 1 0 replacement ∷ []) (code 0 0 5 ∷ code 1 0 5 ∷ []) []

-- an R3 of version 3 with these octets 3, 4 and 5 relayed into octets EE; octets 1 to 5 of what comes out
abbrev relayed_r3 : List ℕ → ℕ → ℕ → ℕ → Question
relayed_r3 xs o3 o4 o5 =
    relays xs (after silent (taking silent 1 0 (0x13 ∷ 0x03 ∷ o3 ∷ o4 ∷ o5 ∷ replicate 35 0))) 0 1 (replicate 40 0xEE) (0 ∷ 1 ∷ 2 ∷ 3 ∷ 4 ∷ [])

abbrev comes_out : ℕ → ℕ → ℕ → ℕ → List ℕ
comes_out o2 o3 o4 o5 = gave (0x13 ∷ o2 ∷ o3 ∷ o4 ∷ o5 ∷ [])

abbrev under_two : List ℕ
under_two = relay_list (16 ∷ 18 ∷ []) 2 1

abbrev under_one : List ℕ
under_one = relay_list (16 ∷ 18 ∷ []) 1 1

-- a vehicle heard by an R3 of version 3 with these octets 3 and 4: vehicle 1 so, with these marks and the codes 2 and 3, and vehicle 2 with the marks ok and
-- the codes 4 and 5
abbrev heard_r3 : ℕ → ℕ → ℕ → List ℕ → List ℕ
heard_r3 v o3 o4 store = after store (taking store v 0 (0x13 ∷ 0x03 ∷ o3 ∷ o4 ∷ replicate 36 0))

abbrev coupled : ℕ → List ℕ
coupled o3 = heard_r3 2 0x50 0x45 (heard_r3 1 o3 0x23 silent)

-- both signals read, of a vehicle and of the two, with room for so many values and reasons
abbrev read_all : List ℕ → ℕ → ℕ → ℕ → Question
read_all store v values reasons = reads_all under_two store 0 v values reasons

abbrev read_train : ℕ → ℕ → Question
read_train values reasons = reads_train under_two (coupled 0x50) 0 2 values reasons

-- refused, with so many numbers left as they were
abbrev unread : ℕ → ℕ → List ℕ
unread n many = refuses n 0 ++ replicate many 0xEE

-- an R1 composed with a value and a mark into octets EE: octets 1, 2, 41 and 54
abbrev compose : List ℕ → ℕ → ℕ → Question
compose xs v m = composes xs 1 (v ∷ []) (m ∷ []) (replicate 128 0xEE) (0 ∷ 1 ∷ 40 ∷ 53 ∷ [])

abbrev sent : ℕ → ℕ → ℕ → List ℕ
sent o2 o41 o54 = gave (0x11 ∷ o2 ∷ o41 ∷ o54 ∷ [])

abbrev unsent : ℕ → ℕ → List ℕ
unsent n at = refuses n at ++ (0xEE ∷ 0xEE ∷ 0xEE ∷ 0xEE ∷ [])

-- a list of one signal of type 1; one of two signals; what judging gives for them
abbrev one : Signal → List ℕ
one s = made [] (s ∷ []) [] []

abbrev two : Signal → Signal → List ℕ
two s t = made [] (s ∷ t ∷ []) [] []

abbrev plain : ℕ → ℕ → ℕ → Signal
plain start type since = signal start 8 type 0 since 0 0

-- two signals in form 2, with these serial numbers
abbrev numbered : ℕ → ℕ → List ℕ
numbered a b = made2 [] ((plain 320 1 1, a) ∷ (plain 328 1 1, b) ∷ []) [] []

-- one of so many bits; an R1 composed with such a one into octets EE: octets 54, 61 and 62
abbrev wide : ℕ → ℕ → Signal
wide start width = signal start width 1 0 1 0 0

abbrev composes_wide_lem : ℕ → ℕ → ℕ → Question
composes_wide_lem start width v = composes (one (wide start width)) 1 (v ∷ []) [] (replicate 128 0xEE) (53 ∷ 60 ∷ 61 ∷ [])

abbrev counts : ℕ → ℕ → ℕ → ℕ → List ℕ
counts checks signals codes routes = gave (checks ∷ signals ∷ codes ∷ routes ∷ 1 ∷ [])

-- an entry at fault
abbrev at_fault : List ℕ → List ℕ
at_fault xs = gave (1 ∷ xs)

abbrev yes : List ℕ
yes = gave (1 ∷ [])

abbrev no : List ℕ
no = gave (0 ∷ [])

-- vehicles: a leading one, a coach, a tractive one, a led one that is tractive, a led one that is not
abbrev leading : Vehicle
leading = record { leading = true; coach = false; tractive = false; led = false; sleeping = false }

abbrev coach : Vehicle
coach = record { leading = false; coach = true; tractive = false; led = false; sleeping = false }

abbrev tractive : Vehicle
tractive = record { leading = false; coach = false; tractive = true; led = false; sleeping = false }

abbrev led : Vehicle
led = record { leading = false; coach = false; tractive = true; led = true; sleeping = false }

abbrev led_only : Vehicle
led_only = record { leading = false; coach = false; tractive = false; led = true; sleeping = false }

-- an E-telegram of 9 octets with this code and order
abbrev e_telegram : ℕ → ℕ → List ℕ
e_telegram c status = 1 ∷ 2 ∷ 3 ∷ 4 ∷ 5 ∷ 6 ∷ octets_of 2 c ++ (status ∷ [])

-- ---- The table

-- C-19: a check at 16 and a common signal of 4 bits at 24 with this check, limit and replacement, which knows the codes 0 to 6; with these routes
abbrev small : ℕ → ℕ → ℕ → List Route → List ℕ
small check limit replacement routes = made (16 ∷ []) (signal 24 4 0 check 1 limit replacement ∷ []) (code 0 0 6 ∷ []) routes

-- a check at a place, and an R1 signal under it from a bit on, so wide
abbrev small_r1 : ℕ → ℕ → ℕ → List ℕ
small_r1 place start width = made (place ∷ []) (signal start width 1 1 1 5000 0 ∷ []) [] []

-- two common signals under the check at 16, with these limits
abbrev small_two : ℕ → ℕ → List ℕ
small_two first second = made (16 ∷ []) (signal 24 4 0 1 1 first 0 ∷ signal 28 4 0 1 1 second 0 ∷ []) [] []

abbrev accepted_small : List ℕ
accepted_small = gave (1 ∷ 1 ∷ 1 ∷ 0 ∷ 1 ∷ [])

abbrev accepted_r1 : List ℕ
accepted_r1 = gave (1 ∷ 1 ∷ 0 ∷ 0 ∷ 1 ∷ [])

-- C-17: a common signal of 4 bits at 24, with these checks, check, since-version, limit and codes
abbrev one_of : List ℕ → ℕ → ℕ → ℕ → List Code → List ℕ
one_of checks check since limit codes = made checks (signal 24 4 0 check since limit 0 ∷ []) codes []

-- one that knows the codes 0 to `high`
abbrev knowing : ℕ → List ℕ
knowing high = one_of [] 0 1 0 (code 0 0 high ∷ [])

-- such a one without check, limit and codes, and one of 4 bits at 28 with this since-version
abbrev one_more : ℕ → List ℕ
one_more since = made [] (signal 24 4 0 0 1 0 0 ∷ signal 28 4 0 0 since 0 0 ∷ []) [] []

abbrev plain_one : List ℕ
plain_one = one_of [] 0 1 0 []

-- one of 4 bits at 24 behind these, and a route of signal k from this vehicle to bit 0
abbrev routed_one : List Signal → ℕ → ℕ → List ℕ
routed_one before k vehicle = made [] (before ++ (signal 24 4 0 0 1 0 0 ∷ [])) [] (route k vehicle 0 ∷ [])

-- nothing differs; something does, in the first signal of both
abbrev nothing_more : List ℕ
nothing_more = gave (0 ∷ [])

abbrev told_of_lem : ℕ → List ℕ
told_of_lem rule = gave (1 ∷ 24 ∷ 0 ∷ 0 ∷ rule ∷ [])

unfoldable pub table : List Row
table =
    -- judging
    asked_as "signals-257" (judges (0 ∷ 0 ∷ octets_of 2 257)) (refuses 2 2) (judges (0 ∷ 0 ∷ octets_of 2 256)) (refuses 1 2)
    ∷ asked_as "check-at-1024" (judges (made (1024 ∷ []) [] [] [])) (refuses 3 2) (judges (made (1022 ∷ []) [] [] [])) (counts 1 0 0 0)
    ∷ asked_as "replacement-two-to-the-width"
    (judges (one (signal 320 8 1 0 1 0 256))) (refuses 3 4)
    (judges (one (signal 320 8 1 0 1 0 255))) (counts 0 1 0 0)
    ∷ asked_as "types-fall"
    (judges (two (plain 320 1 1) (plain 100 0 1))) (refuses 3 20)
    (judges (two (plain 100 0 1) (plain 320 1 1))) (counts 0 2 0 0)
    ∷ asked_as "start-before-the-end-before"
    (judges (two (plain 320 1 1) (plain 327 1 1))) (refuses 3 20)
    (judges (two (plain 320 1 1) (plain 328 1 1))) (counts 0 2 0 0)
    ∷ asked_as "width-65" (judges (one (signal 320 65 1 0 1 0 0))) (refuses 3 4) (judges (one (signal 320 64 1 0 1 0 0))) (counts 0 1 0 0)
    ∷ saying "overlap-at-the-next-entry" (judges (made (400 ∷ []) (plain 320 1 1 ∷ plain 400 1 1 ∷ []) [] [])) (refuses 3 22) (refuses 3 38)
    ∷ asked_as "overlap-passed"
    (judges (made (400 ∷ []) (plain 400 1 1 ∷ []) [] [])) (refuses 3 6)
    (judges (made (400 ∷ []) (plain 402 1 1 ∷ []) [] [])) (counts 1 1 0 0)
    ∷ asked_as "later-type-not-from-the-first-check"
    (judges (made (400 ∷ []) (plain 500 1 1 ∷ plain 400 2 1 ∷ []) [] [])) (refuses 3 22)
    (judges (made (600 ∷ []) (plain 500 1 1 ∷ plain 400 2 1 ∷ []) [] [])) (counts 1 2 0 0)
    ∷ asked_as "low-exceeds-high-by-one" (judges (set list_l 33 7)) (refuses 3 30) (judges (set list_l 33 8)) (counts 1 1 2 1)
    ∷ asked_as "route-ends-at-2049"
    (judges (made [] (plain 320 1 1 ∷ []) [] (route 0 1 2041 ∷ []))) (refuses 3 24)
    (judges (made [] (plain 320 1 1 ∷ []) [] (route 0 1 2040 ∷ []))) (counts 0 1 0 1)
    ∷ saying "offset-of-its-section" (judges (set list_l 41 1)) (refuses 3 38) (refuses 3 2)
    ∷ saying "counts-exchanged" (judges list_l) (counts 1 1 2 1) (counts 1 1 1 2)
    -- C-18, judging in form 2
    ∷ asked_as "form-1-offset-in-form-2" (judges_in 2 (set (list_l2 7) 43 1)) (refuses 3 40) (judges_in 1 (set list_l 41 1)) (refuses 3 38)
    ∷ asked_as "codes-at-entry-size-16" (judges_in 2 (list_l2 0)) (counts 1 1 2 1) (judges_in 1 (list_l2 0)) (refuses 3 26)
    ∷ saying "set-serial-refused" (judges_in 2 (list_l2 7)) (counts 1 1 2 1) (refuses 32 0)
    ∷ saying "serial-cut-passed" (judges_in 2 (take 23 (list_l2 7))) (refuses 1 4) (refuses 1 24)
    ∷ asked_as "form-3-is-form-2" (judges_in 3 list_l) (counts 1 1 2 1) (judges_in 2 list_l) (refuses 4 28)
    -- the entry at fault
    ∷ saying "last-rule-named" (faults (one (signal 320 0 3 0 1 0 0))) (at_fault (2 ∷ 0 ∷ 1 ∷ 0 ∷ 3 ∷ 320 ∷ 0 ∷ 4 ∷ [])) (at_fault (2 ∷ 0 ∷ 7 ∷ 0 ∷ 3 ∷ 320 ∷ 0 ∷ 4 ∷ []))
    ∷ asked_as "entry-before-named"
    (faults (two (plain 320 1 1) (plain 327 1 1))) (at_fault (2 ∷ 1 ∷ 9 ∷ 1 ∷ 1 ∷ 327 ∷ 8 ∷ 20 ∷ []))
    (faults (two (plain 319 1 1) (plain 327 1 1))) (at_fault (2 ∷ 0 ∷ 3 ∷ 0 ∷ 1 ∷ 319 ∷ 8 ∷ 4 ∷ []))
    ∷ saying "entry-from-1" (faults (set list_l 41 1)) (at_fault (4 ∷ 0 ∷ 3 ∷ 0 ∷ 1 ∷ 424 ∷ 4 ∷ 38 ∷ [])) (at_fault (4 ∷ 1 ∷ 3 ∷ 0 ∷ 1 ∷ 424 ∷ 4 ∷ 38 ∷ []))
    ∷ saying "missing-signal-placed"
    (faults (set list_l 25 1)) (at_fault (3 ∷ 0 ∷ 1 ∷ 1 ∷ 0 ∷ 0 ∷ 0 ∷ 24 ∷ []))
    (at_fault (3 ∷ 0 ∷ 1 ∷ 1 ∷ 0 ∷ 2 ∷ 0 ∷ 24 ∷ []))
    ∷ asked_as "fault-of-an-accepted-list" (faults list_l) no (faults (set list_l 41 1)) (at_fault (4 ∷ 0 ∷ 3 ∷ 0 ∷ 1 ∷ 424 ∷ 4 ∷ 38 ∷ []))
    ∷ saying "fault-of-another-refusal" (faults (list_l ++ (0 ∷ []))) no (at_fault (4 ∷ 0 ∷ 5 ∷ 0 ∷ 1 ∷ 424 ∷ 4 ∷ 44 ∷ []))
    ∷ saying "fault-at-form-1-offset"
    (faults_in 2 (set (list_l2 7) 43 1)) (at_fault (4 ∷ 0 ∷ 3 ∷ 0 ∷ 1 ∷ 424 ∷ 4 ∷ 40 ∷ []))
    (at_fault (4 ∷ 0 ∷ 3 ∷ 0 ∷ 1 ∷ 424 ∷ 4 ∷ 38 ∷ []))
    -- extending
    ∷ asked_as "signal-by-index"
    (extends (one (plain 320 1 1)) (two (plain 100 0 2) (plain 320 1 1))) yes
    (extends (one (plain 320 1 1)) (one (plain 100 0 2))) no
    ∷ saying "check-by-index" (extends list_l (set list_l 3 0x44)) no yes
    ∷ saying "check-index-kept" (extends list_l (made (320 ∷ 322 ∷ []) (signal 424 4 1 2 1 5000 0 ∷ []) (code 0 0 6 ∷ code 0 15 15 ∷ []) [])) yes no
    ∷ asked_as "since-equal"
    (extends list_l (made (322 ∷ []) (plain 100 0 1 ∷ signal 424 4 1 1 1 5000 0 ∷ []) (code 1 0 6 ∷ code 1 15 15 ∷ []) [])) no
    (extends list_l (made (322 ∷ []) (plain 100 0 2 ∷ signal 424 4 1 1 1 5000 0 ∷ []) (code 1 0 6 ∷ code 1 15 15 ∷ []) [])) yes
    ∷ asked_as "code-lost" (extends list_l (set list_l 29 5)) no (extends list_l (set list_l 29 7)) yes
    ∷ saying "width-changed-extends" (extends plain_one (made [] (signal 24 5 0 0 1 0 0 ∷ []) [] [])) no yes
    ∷ saying "since-changed-extends" (extends plain_one (one_of [] 0 2 0 [])) no yes
    ∷ saying "check-one-place-off-extends" (extends (one_of (16 ∷ 18 ∷ []) 1 1 0 []) (one_of (16 ∷ 18 ∷ []) 2 1 0 [])) no yes
    ∷ saying "which-list" (extends list_l []) (refuses 1 0 ++ (2 ∷ [])) (refuses 1 0 ++ (1 ∷ []))
    ∷ saying "second-judged-first" (extends [] (list_l ++ (0 ∷ []))) (refuses 1 0 ++ (1 ∷ [])) (refuses 4 44 ++ (2 ∷ []))
    ∷ asked_as "one-form-for-both" (extends_in 1 list_l 2 (list_l2 7)) yes (extends_in 1 list_l 1 (list_l2 7)) (refuses 1 22 ++ (2 ∷ []))
    -- entries of a list, and two lists gone along
    ∷ saying "check-for-its-place"
    (signal_entries list_l 0) (gave (1 ∷ 168 ∷ 4 ∷ 1 ∷ 1 ∷ 1 ∷ 0 ∷ 0 ∷ 19 ∷ 136 ∷ 0 ∷ 0 ∷ 0 ∷ 0 ∷ 0 ∷ 0 ∷ 322 ∷ []))
    (gave (1 ∷ 168 ∷ 4 ∷ 1 ∷ 1 ∷ 1 ∷ 0 ∷ 0 ∷ 19 ∷ 136 ∷ 0 ∷ 0 ∷ 0 ∷ 0 ∷ 0 ∷ 0 ∷ 1 ∷ []))
    ∷ asked_as "signal-past-the-last"
    (signal_entries list_l 1) (refuses 11 0)
    (signal_entries list_l 0) (gave (1 ∷ 168 ∷ 4 ∷ 1 ∷ 1 ∷ 1 ∷ 0 ∷ 0 ∷ 19 ∷ 136 ∷ 0 ∷ 0 ∷ 0 ∷ 0 ∷ 0 ∷ 0 ∷ 322 ∷ []))
    ∷ asked_as "routes-from-1"
    (route_entries two_routes_lem 1) (gave (1 ∷ 0 ∷ 0 ∷ 2 ∷ 0 ∷ 0 ∷ 4 ∷ []))
    (route_entries two_routes_lem 0) (gave (1 ∷ 0 ∷ 0 ∷ 1 ∷ 0 ∷ 0 ∷ 0 ∷ []))
    ∷ saying "no-route-refused" (route_entries list_l 1) (gave (0 ∷ [])) (refuses 11 0)
    ∷ asked_as "type-2-left-out" (finds (one (plain 320 2 1)) 2 320) (gave (0 ∷ [])) (finds (one (plain 320 2 1)) 3 320) (refuses 11 0)
    ∷ asked_as "found-by-start-alone"
    (finds (two (plain 320 1 1) (plain 320 2 1)) 2 320) (gave (1 ∷ []))
    (finds (two (plain 320 1 1) (plain 320 2 1)) 1 320) (gave (0 ∷ []))
    ∷ asked_as "last-key-left-out"
    (pairs (one (signal 1023 1 2 0 1 0 0)) list_l 3071) (gave (1 ∷ 3071 ∷ 0 ∷ 1 ∷ []))
    (pairs (one (signal 1023 1 2 0 1 0 0)) list_l 3072) (gave (0 ∷ []))
    ∷ saying "paired-by-start-alone"
    (pairs (one (plain 320 1 1)) (one (plain 320 2 1)) 0) (gave (1 ∷ 1344 ∷ 0 ∷ 1 ∷ []))
    (gave (1 ∷ 1344 ∷ 0 ∷ 0 ∷ []))
    ∷ saying "signals-of-the-other-list"
    (pairs (two (plain 320 1 1) (plain 328 1 1)) list_l 0) (gave (1 ∷ 1344 ∷ 0 ∷ 1 ∷ []))
    (gave (1 ∷ 1344 ∷ 0 ∷ 2 ∷ []))
    -- C-18, serial numbers
    ∷ asked_as "serial-low-first" (serials_in 2 (list_l2 0x1234) 0) (gave (0x1234 ∷ [])) (serials_in 2 (list_l2 0x3412) 0) (gave (0x3412 ∷ []))
    ∷ saying "serial-in-form-1" (serials_in 1 list_l 0) (gave (0 ∷ [])) (gave (2 ∷ []))
    ∷ asked_as "serial-past-the-last" (serials_in 2 (list_l2 7) 1) (refuses 11 0) (serials_in 2 (list_l2 7) 0) (gave (7 ∷ []))
    ∷ asked_as "serial-of-the-next-signal" (serials_in 2 (numbered 7 9) 0) (gave (7 ∷ [])) (serials_in 2 (numbered 7 9) 1) (gave (9 ∷ []))
    ∷ saying "replacement-to-the-entry-s-end" (reads_in 2 (list_l2 7) silent 0 1 0) (value 0 2) (value 7 2)
    -- C-18, moving
    ∷ asked_as "serial-dropped-silently"
    (moves_to1 (list_l2 7) (replicate 44 0xEE)) (refuses 32 0 ++ replicate 44 0xEE)
    (moves_to1 (list_l2 0) (replicate 44 0xEE)) (gave list_l)
    ∷ asked_as "first-serial-only"
    (moves_to1 (numbered 0 9) (replicate 40 0xEE)) (refuses 32 0 ++ replicate 40 0xEE)
    (moves_to1 (numbered 0 0) (replicate 40 0xEE)) (gave (two (plain 320 1 1) (plain 328 1 1)))
    ∷ asked_as "low-octet-only"
    (moves_to1 (list_l2 0x0700) (replicate 44 0xEE)) (refuses 32 0 ++ replicate 44 0xEE)
    (moves_to1 (list_l2 0) (replicate 44 0xEE)) (gave list_l)
    ∷ saying "thirty-two-names-the-signal"
    (moves_to1 (numbered 0 9) (replicate 40 0xEE)) (refuses 32 0 ++ replicate 40 0xEE)
    (refuses 32 1 ++ replicate 40 0xEE)
    ∷ saying "moved-though-refused" (moves_to1 (list_l2 7) (replicate 44 0xEE)) (refuses 32 0 ++ replicate 44 0xEE) (refuses 32 0 ++ list_l)
    ∷ asked_as "needed-length-before-serial"
    (moves_to1 (list_l2 7) (replicate 43 0xEE)) (refuses 32 0 ++ replicate 43 0xEE)
    (moves_to1 (list_l2 0) (replicate 43 0xEE)) (refuses 33 0 ++ replicate 43 0xEE)
    ∷ saying "serial-before-judging"
    (moves_to1 (set (list_l2 7) 43 1) (replicate 44 0xEE)) (refuses 3 40 ++ replicate 44 0xEE)
    (refuses 32 0 ++ replicate 44 0xEE)
    ∷ saying "needed-length-before-judging"
    (moves_to2 (set list_l 41 1) (replicate 45 0xEE)) (refuses 3 38 ++ replicate 45 0xEE)
    (refuses 33 0 ++ replicate 45 0xEE)
    ∷ saying "longer-output-filled"
    (moves_to2 list_l (replicate 47 0xEE)) (refuses 33 0 ++ replicate 47 0xEE)
    (gave (list_l2 0 ++ (0xEE ∷ [])))
    ∷ saying "longer-output-filled-on-moving-back"
    (moves_to1 (list_l2 0) (replicate 45 0xEE)) (refuses 33 0 ++ replicate 45 0xEE)
    (gave (list_l ++ (0xEE ∷ [])))
    ∷ saying "shorter-output-cut" (moves_to2 list_l (replicate 45 0xEE)) (refuses 33 0 ++ replicate 45 0xEE) (gave (take 45 (list_l2 0)))
    ∷ saying "serial-left-as-it-stood" (moves_to2 list_l (replicate 46 0xEE)) (gave (list_l2 0)) (gave (list_l2 0xEEEE))
    -- the grouping
    ∷ asked_as "row-end" (places 491) (gave (328 ∷ [])) (places 492) (gave (330 ∷ []))
    ∷ asked_as "row-shifted" (places 492) (gave (330 ∷ [])) (places 491) (gave (328 ∷ []))
    ∷ asked_as "before-the-first-row" (places 367) (refuses 27 0) (places 368) (gave (320 ∷ []))
    -- taking: the heard octet, the stamp, the first and the last octet of a slot, the next slot's first
    ∷ saying "refuses-every-telegram" (takes silent 1 0x01020304 (telegram 0 0) (0 ∷ [])) (gave (1 ∷ [])) (refuses 10 0 ++ (0 ∷ []))
    ∷ saying "first-telegram-only" (takes (heard_at 0x10 0x40 0) 2 0 (telegram 0 0) (slot_octets ∷ [])) (gave (1 ∷ [])) (gave (0 ∷ []))
    ∷ asked_as "first-vehicle-only"
    (takes silent 2 0 (telegram 0 0) (0 ∷ slot_octets ∷ [])) (gave (0 ∷ 1 ∷ []))
    (takes silent 1 0 (telegram 0 0) (0 ∷ slot_octets ∷ [])) (gave (1 ∷ 0 ∷ []))
    ∷ asked_as "stamp-low-first"
    (takes silent 1 0x01020304 (telegram 0 0) (1 ∷ 2 ∷ 3 ∷ 4 ∷ [])) (gave (1 ∷ 2 ∷ 3 ∷ 4 ∷ []))
    (takes silent 1 0x04030201 (telegram 0 0) (1 ∷ 2 ∷ 3 ∷ 4 ∷ [])) (gave (4 ∷ 3 ∷ 2 ∷ 1 ∷ []))
    ∷ saying "last-octet-left"
    (takes (replicate store_octets 0xEE) 1 0 (0x13 ∷ replicate 39 7) behind_r3) (gave (7 ∷ 0 ∷ 0 ∷ 0xEE ∷ []))
    (gave (7 ∷ 0 ∷ 0xEE ∷ 0xEE ∷ []))
    ∷ saying "next-slot-touched"
    (takes (replicate store_octets 0xEE) 1 0 (0x13 ∷ replicate 39 7) behind_r3) (gave (7 ∷ 0 ∷ 0 ∷ 0xEE ∷ []))
    (gave (7 ∷ 0 ∷ 0 ∷ 0 ∷ []))
    ∷ saying "written-though-refused"
    (takes silent 1 0 (0x14 ∷ replicate 127 0) (0 ∷ slot_head ∷ [])) (refuses 9 0 ++ (0 ∷ 0 ∷ []))
    (refuses 9 0 ++ (1 ∷ 0x14 ∷ []))
    -- C-22: vehicle 2 is heard behind vehicle 1. A count of arrivals in the last octet of its slot, and a stamp that never goes behind another's,
    -- would be others were it heard first
    ∷ saying "arrivals-counted" (takes (heard_at 0x10 0x40 0) 2 0 (0x13 ∷ replicate 39 7) ((2 * slot_octets - 1) ∷ [])) (gave (0 ∷ [])) (gave (2 ∷ []))
    ∷ saying "stamp-of-the-latest"
    (takes (heard_at 0x10 0x40 0x01020304) 2 5 (telegram 0 0) ((slot_octets + 1) ∷ (slot_octets + 4) ∷ [])) (gave (0 ∷ 5 ∷ [])) (gave (1 ∷ 4 ∷ []))
    ∷ saying "length-before-type" (takes silent 1 0 (0x14 ∷ 0 ∷ []) []) (refuses 9 0) (refuses 10 0)
    ∷ saying "new-telegram-left-expired" (takes (mark 2) 1 5 (telegram 0 0) (0 ∷ [])) (gave (1 ∷ [])) (gave (2 ∷ []))
    -- C-16, taking: what becomes of the stamp that was there
    ∷ saying "expired-not-moved" (renewed (heard_before 2)) (renewed_to stamp head 0) (renewed_to (replicate 4 0) head 0)
    ∷ asked_as "unheard-moved"
    (renewed (heard_before 3)) (renewed_to (replicate 4 0) head 0)
    (renewed (heard_before 1)) (renewed_to stamp head 0)
    ∷ saying "moved-by-its-head"
    (renewed (set (heard_before 1) slot_head 0x21)) (renewed_to stamp head 0)
    (renewed_to (replicate 4 0) head 0)
    ∷ saying "new-stamp-moved" (renewed (heard_before 1)) (renewed_to stamp head 0) (renewed_to (0x0A ∷ 0x0B ∷ 0x0C ∷ 0x0D ∷ []) head 0)
    ∷ saying "previous-left" (renewed (heard_before 1)) (renewed_to stamp head 0) (renewed_to earlier head 0)
    ∷ saying "previous-over-the-telegram" (renewed (heard_before 1)) (renewed_to stamp head 0) (renewed_to earlier stamp 0)
    ∷ saying "previous-over-the-neighbour" (renewed (heard_before 1)) (renewed_to stamp head 0) (renewed_to earlier head 1)
    ∷ saying "slots-133-apart"
    (takes silent 2 0x0A0B0C0D (telegram 0 0) (133 ∷ slot_octets ∷ [])) (gave (0 ∷ 1 ∷ []))
    (gave (1 ∷ 0x0D ∷ []))
    ∷ saying "old-store-taken" (takes (replicate 8379 0) 1 0 (telegram 0 0) (0 ∷ [])) (refuses 5 0 ++ (0 ∷ [])) (gave (1 ∷ []))
    -- C-16, the gap
    ∷ saying "gap-of-itself" (gaps (stamped 1 9 4) 1) (gap_is 5) (gap_is 0)
    ∷ saying "gap-backwards" (gaps (stamped 1 9 4) 1) (gap_is 5) (gap_is 4294967291)
    ∷ saying "gap-wrap-lost" (gaps (stamped 1 3 4294967294) 1) (gap_is 5) (gap_is 0)
    ∷ asked_as "gap-unheard" (gaps (stamped 0 9 4) 1) (gap_is 0) (gaps (stamped 1 9 4) 1) (gap_is 5)
    ∷ asked_as "gap-gone-when-expired" (gaps (stamped 2 9 4) 1) (gap_is 5) (gaps (stamped 0 9 4) 1) (gap_is 0)
    ∷ saying "gap-by-its-head" (gaps (set (stamped 1 9 4) slot_head 0x21) 1) (gap_is 5) (gap_is 0)
    ∷ saying "first-gap-0" (gaps (heard_at 0x10 0x40 9) 1) (gap_is 9) (gap_is 0)
    ∷ asked_as "gap-of-the-next-vehicle" (gaps (stamped 1 9 4) 1) (gap_is 5) (gaps (stamped 1 9 4) 2) (gap_is 0)
    ∷ saying "gap-vehicle-before-store" (gaps (0 ∷ silent) 64) (refuses 5 0) (refuses 6 0)
    -- sweeping
    ∷ saying "expired-at-600000" parked (swept_to_lem 2 stamp 7 1 2) (swept_to_lem 2 stamp 7 2 2)
    ∷ saying "first-vehicle-swept" parked (swept_to_lem 2 stamp 7 1 2) (swept_to_lem 2 stamp 7 1 1)
    ∷ saying "stamp-cleared" parked (swept_to_lem 2 stamp 7 1 2) (swept_to_lem 2 (replicate 4 0) 7 1 2)
    ∷ saying "previous-cleared"
    (sweeps (heard_before 1) 600000 (0 ∷ 4 ∷ 5 ∷ 6 ∷ 7 ∷ 8 ∷ [])) (gave (2 ∷ 4 ∷ earlier))
    (gave (2 ∷ 4 ∷ replicate 4 0))
    ∷ saying "octet-7-swept" parked (swept_to_lem 2 stamp 7 1 2) (swept_to_lem 2 stamp 2 1 2)
    ∷ saying "swept-though-refused" (sweeps (heard_at 0x10 0x40 0 ++ (0 ∷ [])) 600001 (0 ∷ [])) (refuses 5 0 ++ (1 ∷ [])) (refuses 5 0 ++ (2 ∷ []))
    -- what a slot holds: heard, expired, type, version, age
    ∷ asked_as "unheard-held"
    (holds (mark 3) 5 1) (gave (0 ∷ 0 ∷ 0 ∷ 0 ∷ 0 ∷ []))
    (holds (mark 1) 5 1) (gave (1 ∷ 0 ∷ 1 ∷ 1 ∷ 5 ∷ []))
    ∷ saying "version-0-held" (holds (headed_by 0x11 0) 5 1) (gave (1 ∷ 0 ∷ 1 ∷ 1 ∷ 5 ∷ [])) (gave (1 ∷ 0 ∷ 1 ∷ 0 ∷ 5 ∷ []))
    ∷ asked_as "held-of-the-next-vehicle"
    (holds (heard_at 0x10 0x40 0) 5 1) (gave (1 ∷ 0 ∷ 1 ∷ 1 ∷ 5 ∷ []))
    (holds (heard_at 0x10 0x40 0) 5 2) (gave (0 ∷ 0 ∷ 0 ∷ 0 ∷ 0 ∷ []))
    ∷ saying "expired-held-with-an-age" (holds (mark 2) 5 1) (gave (1 ∷ 1 ∷ 1 ∷ 1 ∷ 0 ∷ [])) (gave (1 ∷ 1 ∷ 1 ∷ 1 ∷ 5 ∷ []))
    -- reading
    ∷ saying "refuses-every-reading" (read 0x10 0x40) (value 4 0) (refuses 11 0)
    ∷ asked_as "replaces-every-value" (read 0x10 0x40) (value 4 0) (reads list_l silent 5000 1 0) (value 0 2)
    ∷ asked_as "bit-0-least" (read 0x10 0x40) (value 4 0) (read 0x10 0x02) (value 0 0)
    ∷ saying "cut-to-48-bits" (reads (one (wide 424 64)) (heard_at 0 0x80 0) 0 1 0) (value 0x8000000000000000 0) (value 0 0)
    ∷ asked_as "forced-as-error" (read 0x20 0x40) (value 4 1) (read 0x00 0x40) (value 0 6)
    ∷ asked_as "forced-as-ok" (read 0x20 0x40) (value 4 1) (read 0x10 0x40) (value 4 0)
    ∷ asked_as "undefined-passed" (read 0x30 0x40) (value 0 7) (read 0x10 0x40) (value 4 0)
    ∷ asked_as "mark-one-place-off" (read 0x10 0x40) (value 4 0) (reads (set list_l 3 0x44) (heard_at 0x10 0x40 0) 5000 1 0) (value 0 6)
    ∷ asked_as "newer-signal-read" (reads since_2 (heard_at 0x10 0x40 0) 5000 1 0) (value 0 5) (read 0x10 0x40) (value 4 0)
    ∷ asked_as "reserved-code-passed" (read 0x10 0x70) (value 0 8) (reads no_codes (heard_at 0x10 0x70 0) 5000 1 0) (value 7 0)
    ∷ asked_as "high-left-out" (read 0x10 0x60) (value 6 0) (read 0x10 0x70) (value 0 8)
    ∷ asked_as "r1-signal-from-r2" (reads list_l (headed_by 0x12 1) 5000 1 0) (value 0 4) (read 0x10 0x40) (value 4 0)
    ∷ asked_as "reasons-3-and-4-swapped" (reads list_l (headed_by 0x12 1) 5001 1 0) (value 0 3) (reads list_l (headed_by 0x12 1) 5000 1 0) (value 0 4)
    ∷ asked_as "heard-not-zero" (reads list_l (mark 3) 5000 1 0) (value 0 2) (read 0x10 0x40) (value 4 0)
    ∷ asked_as "head-not-looked-at" (reads list_l (headed_by 0x21 1) 5000 1 0) (value 0 2) (read 0x10 0x40) (value 4 0)
    ∷ asked_as "version-0-is-0" (reads list_l (headed_by 0x11 0) 5000 1 0) (value 4 0) (reads since_2 (headed_by 0x11 0) 5000 1 0) (value 0 5)
    ∷ asked_as "version-0-is-2" (reads since_2 (headed_by 0x11 0) 5000 1 0) (value 0 5) (reads since_2 (headed_by 0x11 2) 5000 1 0) (value 4 0)
    ∷ asked_as "limit-reached-too-old" (read 0x10 0x40) (value 4 0) (reads list_l (heard_at 0x10 0x40 0) 5001 1 0) (value 0 3)
    ∷ asked_as "limit-0-is-over"
    (reads no_limit (heard_at 0x10 0x40 0) 5000 1 0) (value 4 0)
    (reads (set no_limit 15 1) (heard_at 0x10 0x40 0) 5000 1 0) (value 0 3)
    ∷ asked_as "expired-read-live" (reads list_l (mark 2) 0 1 0) (value 0 3) (reads list_l (mark 1) 0 1 0) (value 4 0)
    ∷ asked_as "limit-0-expired" (reads no_limit (mark 2) 600001 1 0) (value 4 0) (reads list_l (mark 2) 600001 1 0) (value 0 3)
    ∷ asked_as "expired-never-heard" (reads list_l (mark 2) 5000 1 0) (value 0 3) (reads list_l (mark 3) 5000 1 0) (value 0 2)
    ∷ asked_as "expired-head-not-looked-at"
    (reads list_l (set (mark 2) slot_head 0x21) 5000 1 0) (value 0 2)
    (reads list_l (mark 2) 5000 1 0) (value 0 3)
    ∷ asked_as "wrap-lost" (reads list_l (heard_at 0x10 0x40 4294967000) 4000 1 0) (value 4 0) (reads list_l (heard_at 0x10 0x40 0) 5001 1 0) (value 0 3)
    ∷ asked_as "clock-gone-back-young"
    (reads list_l (heard_at 0x10 0x40 1000) 999 1 0) (value 0 3)
    (reads list_l (heard_at 0x10 0x40 1000) 1000 1 0) (value 4 0)
    ∷ asked_as "reads-the-first-vehicle" (reads list_l (heard_at 0x10 0x40 0) 5000 2 0) (value 0 2) (read 0x10 0x40) (value 4 0)
    -- reading every signal, of a vehicle and of a train: the values, then the reasons
    ∷ saying "vehicle-before-store-read-all" (read_all (0 ∷ silent) 64 2 2) (unread 5 4) (unread 6 4)
    ∷ saying "room-before-vehicle" (read_all (coupled 0x50) 64 1 1) (unread 6 2) (unread 13 2)
    ∷ saying "reasons-room-untested" (read_all (coupled 0x50) 1 2 1) (unread 13 3) (gave (2 ∷ 3 ∷ 0 ∷ []))
    ∷ saying "values-written-though-refused" (read_all (coupled 0x50) 1 2 1) (unread 13 3) (refuses 13 0 ++ (2 ∷ 3 ∷ 0xEE ∷ []))
    ∷ saying "not-live-left-as-it-was" (read_all (coupled 0x40) 1 2 2) (gave (2 ∷ 1 ∷ 0 ∷ 6 ∷ [])) (gave (2 ∷ 0xEE ∷ 0 ∷ 6 ∷ []))
    ∷ asked_as "one-vehicle-s-room-for-a-train" (read_train 2 2) (unread 13 4) (read_all (coupled 0x50) 1 2 2) (gave (2 ∷ 3 ∷ 0 ∷ 0 ∷ []))
    ∷ saying "train-by-signal" (read_train 4 4) (gave (2 ∷ 3 ∷ 4 ∷ 5 ∷ replicate 4 0)) (gave (2 ∷ 4 ∷ 3 ∷ 5 ∷ replicate 4 0))
    ∷ saying "train-ends-a-vehicle-early"
    (read_train 4 4) (gave (2 ∷ 3 ∷ 4 ∷ 5 ∷ replicate 4 0))
    (gave (2 ∷ 3 ∷ 0xEE ∷ 0xEE ∷ 0 ∷ 0 ∷ 0xEE ∷ 0xEE ∷ []))
    -- marshalling: the live count and the octet
    ∷ saying "leaves-the-data" (marshal list_l) (filled 1 0x4B) (filled 1 0xAB)
    ∷ asked_as "first-route-only" (marshal two_routes_lem) (filled 1 0x40) (marshal list_l) (filled 1 0x4B)
    ∷ asked_as "first-vehicle-served" (marshal (set list_l 40 2)) (filled 0 0x0B) (marshal list_l) (filled 1 0x4B)
    -- C-22: into data that have been marshalled already
    ∷ saying "adds-to-the-field" (marshals list_l (heard_at 0x10 0x40 0) 0 (0x4B ∷ [])) (filled 1 0x4B) (filled 1 0x8B)
    ∷ saying "counts-what-it-changed" (marshals list_l (heard_at 0x10 0x40 0) 0 (0x4B ∷ [])) (filled 1 0x4B) (filled 0 0x4B)
    ∷ saying "made-up-count" (marshal (set list_l 40 2)) (filled 0 0x0B) (filled 1 0x0B)
    ∷ saying "forced-not-counted" (marshals list_l (heard_at 0x20 0x40 0) 0 (0xAB ∷ [])) (filled 1 0x4B) (filled 0 0x4B)
    ∷ saying "four-bits-write-eight" (marshal list_l) (filled 1 0x4B) (filled 1 0x04)
    ∷ saying "neighbour-bits-wiped" (marshal list_l) (filled 1 0x4B) (filled 1 0x40)
    ∷ saying "replacement-in-the-high-octets"
    (marshals (made [] (signal 424 64 1 0 1 0 0x010203040506 ∷ []) [] (route 0 1 0 ∷ [])) silent 0 (replicate 8 0xAB)) (gave (0 ∷ 0 ∷ 0 ∷ 1 ∷ 2 ∷ 3 ∷ 4 ∷ 5 ∷ 6 ∷ []))
    (gave (0 ∷ 1 ∷ 2 ∷ 3 ∷ 4 ∷ 5 ∷ 6 ∷ 0 ∷ 0 ∷ []))
    ∷ saying "stale-value-left" (marshals list_l silent 0 (0xAB ∷ [])) (filled 0 0x0B) (filled 0 0xAB)
    ∷ saying "twelve-loosened" (marshal (set list_l 43 5)) (refuses 12 0 ++ (0xAB ∷ [])) (filled 1 0xAA)
    -- composing
    ∷ saying "composes-nothing" (compose list_l 4 1) (sent 1 0x10 0x40) (unsent 16 0)
    ∷ asked_as "first-check-skipped" (compose list_l 4 1) (sent 1 0x10 0x40) (compose list_l 4 0) (sent 1 0x00 0x40)
    ∷ saying "version-left-0" (compose list_l 4 1) (sent 1 0x10 0x40) (sent 0 0x10 0x40)
    ∷ asked_as "version-one" (compose since_2 4 1) (sent 2 0x10 0x40) (compose list_l 4 1) (sent 1 0x10 0x40)
    ∷ asked_as "mark-untested" (compose list_l 4 5) (unsent 14 0) (compose list_l 4 1) (sent 1 0x10 0x40)
    ∷ asked_as "value-untested" (compose list_l 16 1) (unsent 15 0) (compose list_l 0 1) (sent 1 0x10 0x00)
    ∷ asked_as "reserved-code-composed" (compose list_l 7 1) (unsent 15 0) (compose no_codes 7 1) (sent 1 0x10 0x70)
    ∷ saying "all-ones-refused" (composes_wide_lem 424 64 0xFFFFFFFFFFFFFFFF) (gave (0xFF ∷ 0xFF ∷ 0 ∷ [])) (refuses 15 0 ++ (0xEE ∷ 0xEE ∷ 0xEE ∷ []))
    ∷ asked_as "two-to-the-49-at-49"
    (composes_wide_lem 424 49 0x2000000000000) (refuses 15 0 ++ (0xEE ∷ 0xEE ∷ 0xEE ∷ []))
    (composes_wide_lem 424 49 0) (gave (0 ∷ 0 ∷ 0 ∷ []))
    ∷ saying "ninth-octet-left-out" (composes_wide_lem 425 64 0xFFFFFFFFFFFFFFFF) (gave (0x7F ∷ 0xFF ∷ 0x80 ∷ [])) (gave (0x7F ∷ 0xFF ∷ 0 ∷ []))
    ∷ saying "values-before-marks" (compose list_l 16 5) (unsent 14 0) (unsent 15 0)
    ∷ saying "r3-past-octet-40"
    (composes list_l 3 (4 ∷ []) (5 ∷ []) (replicate 40 0xEE) (0 ∷ 39 ∷ [])) (gave (0x13 ∷ 0 ∷ []))
    (refuses 14 0 ++ (0xEE ∷ 0xEE ∷ []))
    ∷ saying "rest-not-zeroed" (composes list_l 1 (4 ∷ []) (1 ∷ []) (replicate 128 0xEE) (127 ∷ [])) (gave (0 ∷ [])) (gave (0xEE ∷ []))
    -- C-17: two lists compared
    ∷ saying "compare-check-by-index" (changes (one_of (18 ∷ []) 1 1 0 []) (one_of (16 ∷ 18 ∷ []) 2 1 0 []) 0) nothing_more (told_of_lem 2)
    ∷ saying "check-one-place-off-passed" (changes (one_of (16 ∷ 18 ∷ []) 1 1 0 []) (one_of (16 ∷ 18 ∷ []) 2 1 0 []) 0) (told_of_lem 2) nothing_more
    ∷ saying "unnamed-check-told" (changes plain_one (one_of (16 ∷ []) 0 1 0 []) 0) nothing_more (told_of_lem 2)
    ∷ saying "full-range-told" (changes plain_one (knowing 15) 0) nothing_more (told_of_lem 0)
    ∷ saying "serial-told" (signal_changes_in 2 (made2 [] ((signal 24 4 0 0 1 0 0, 7) ∷ []) [] []) 2 (made2 [] ((signal 24 4 0 0 1 0 0, 8) ∷ []) [] []) 0) nothing_more (told_of_lem 0)
    ∷ saying "limit-not-told" (changes plain_one (one_of [] 0 1 5000 []) 0) (told_of_lem 0) nothing_more
    ∷ saying "limit-breaks" (changes plain_one (one_of [] 0 1 5000 []) 0) (told_of_lem 0) (told_of_lem 3)
    ∷ saying "width-passed" (changes plain_one (made [] (signal 24 5 0 0 1 0 0 ∷ []) [] []) 0) (told_of_lem 1) (told_of_lem 0)
    ∷ saying "since-passed" (changes plain_one (one_of [] 0 2 0 []) 0) (told_of_lem 3) (told_of_lem 0)
    ∷ saying "lost-code-passed" (changes (knowing 7) (knowing 3) 0) (told_of_lem 4) (told_of_lem 0)
    ∷ saying "gained-code-breaks" (changes (knowing 3) (knowing 7) 0) (told_of_lem 0) (told_of_lem 4)
    ∷ saying "codes-not-told" (changes (knowing 3) (knowing 7) 0) (told_of_lem 0) nothing_more
    ∷ saying "removed-passed" (changes (one_more 2) plain_one 0) (gave (1 ∷ 28 ∷ 1 ∷ 1 ∷ 5 ∷ [])) (gave (1 ∷ 28 ∷ 1 ∷ 1 ∷ 0 ∷ []))
    ∷ saying "removed-as-added" (changes (one_more 2) plain_one 0) (gave (1 ∷ 28 ∷ 1 ∷ 1 ∷ 5 ∷ [])) (gave (1 ∷ 28 ∷ 2 ∷ 0 ∷ 0 ∷ []))
    ∷ saying "newer-breaks" (changes plain_one (one_more 2) 0) (gave (1 ∷ 28 ∷ 1 ∷ 1 ∷ 0 ∷ [])) (gave (1 ∷ 28 ∷ 1 ∷ 1 ∷ 6 ∷ []))
    ∷ saying "not-newer-passed" (changes plain_one (one_more 1) 0) (gave (1 ∷ 28 ∷ 1 ∷ 1 ∷ 6 ∷ [])) (gave (1 ∷ 28 ∷ 1 ∷ 1 ∷ 0 ∷ []))
    ∷ saying "told-again" (changes plain_one (one_of [] 0 1 5000 []) 25) nothing_more (told_of_lem 0)
    ∷ saying "second-compared-first" (changes [] (0 ∷ []) 0) (refuses 1 0 ++ (1 ∷ [])) (refuses 1 0 ++ (2 ∷ []))
    ∷ saying "range-in-two" (gains (knowing 3) (knowing 7) 24 0) (gave (1 ∷ 4 ∷ 7 ∷ [])) (gave (1 ∷ 4 ∷ 5 ∷ []))
    ∷ saying "lost-as-gained" (gains (knowing 7) (knowing 3) 24 0) nothing_more (gave (1 ∷ 4 ∷ 7 ∷ []))
    ∷ saying "codes-of-another-width" (gains (knowing 7) (made [] (signal 24 5 0 0 1 0 0 ∷ []) [] []) 24 0) nothing_more (gave (1 ∷ 8 ∷ 31 ∷ []))
    ∷ saying "rest-of-a-range" (gains (knowing 3) (knowing 7) 24 5) nothing_more (gave (1 ∷ 5 ∷ 7 ∷ []))
    ∷ saying "codes-of-an-added-signal" (gains plain_one (one_more 2) 28 0) nothing_more (gave (1 ∷ 0 ∷ 15 ∷ []))
    ∷ saying "route-by-signal-number" (reroutes (routed_one [] 0 1) (routed_one (signal 20 4 0 0 2 0 0 ∷ []) 1 1) 0) nothing_more (gave (1 ∷ 0 ∷ 0 ∷ 0 ∷ 0 ∷ []))
    ∷ saying "route-to-another-signal-passed" (reroutes (routed_one [] 0 1) (routed_one (signal 20 4 0 0 2 0 0 ∷ []) 0 1) 0) (gave (1 ∷ 0 ∷ 0 ∷ 0 ∷ 0 ∷ [])) nothing_more
    ∷ saying "route-of-another-vehicle-passed" (reroutes (routed_one [] 0 1) (routed_one [] 0 2) 0) (gave (1 ∷ 0 ∷ 0 ∷ 0 ∷ 0 ∷ [])) nothing_more
    -- C-19: profiles
    ∷ saying "profile-limit-0" (profiles plain_coach (small 1 0 1 [])) (refuses 34 6) accepted_small
    ∷ saying "profile-limit-5001" (profiles plain_coach (small 1 5001 1 [])) (refuses 34 6) accepted_small
    ∷ saying "profile-without-check" (profiles plain_coach (small 0 5000 1 [])) (refuses 34 6) accepted_small
    ∷ saying "profile-replacement-unknown" (profiles plain_coach (small 1 5000 7 [])) (refuses 34 6) accepted_small
    ∷ saying "replacement-charged-to-its-codes" (profiles plain_coach (small 1 5000 7 [])) (refuses 34 6) (refuses 34 24)
    ∷ asked_as "coach-taken-for-trailer" (profiles plain_coach (small_r1 320 368 4)) (refuses 34 6) (profiles driving_trailer (small_r1 320 368 4)) accepted_r1
    ∷ asked_as "trailer-taken-for-coach" (profiles driving_trailer (small_r1 320 368 4)) accepted_r1 (profiles plain_coach (small_r1 320 368 4)) (refuses 34 6)
    ∷ saying "r2-for-r1" (profiles driving_trailer (made (320 ∷ []) (signal 368 4 2 1 1 5000 0 ∷ []) [] [])) (refuses 34 6) accepted_r1
    ∷ saying "common-by-the-grouping" (profiles driving_trailer (small 1 5000 1 [])) accepted_small (refuses 34 6)
    ∷ saying "check-by-its-number" (profiles driving_trailer (small_r1 322 368 4)) (refuses 34 6) accepted_r1
    ∷ saying "first-bit-decides" (profiles driving_trailer (small_r1 322 455 2)) (refuses 34 6) accepted_r1
    ∷ saying "last-bit-decides" (profiles driving_trailer (small_r1 324 455 2)) (refuses 34 6) accepted_r1
    ∷ saying "outside-the-grouping" (profiles driving_trailer (small_r1 352 584 1)) (refuses 34 6) accepted_r1
    ∷ saying "route-to-129" (profiles plain_coach (small 1 5000 1 (route 0 1 125 ∷ []))) (refuses 34 32) (gave (1 ∷ 1 ∷ 1 ∷ 1 ∷ 1 ∷ []))
    ∷ saying "route-starts-within" (profiles plain_coach (small 1 5000 1 (route 0 1 127 ∷ []))) (refuses 34 32) (gave (1 ∷ 1 ∷ 1 ∷ 1 ∷ 1 ∷ []))
    ∷ saying "sixteen-octets-are-sixteen-bits" (profiles plain_coach (small 1 5000 1 (route 0 1 124 ∷ []))) (gave (1 ∷ 1 ∷ 1 ∷ 1 ∷ 1 ∷ [])) (refuses 34 32)
    ∷ saying "route-before-signal" (profiles plain_coach (small 1 0 1 (route 0 1 125 ∷ []))) (refuses 34 6) (refuses 34 32)
    ∷ saying "last-route-named" (profiles plain_coach (small 1 5000 1 (route 0 1 125 ∷ route 0 1 129 ∷ []))) (refuses 34 32) (refuses 34 38)
    ∷ saying "last-signal-named" (profiles plain_coach (small_two 0 0)) (refuses 34 6) (refuses 34 22)
    ∷ saying "first-signal-named" (profiles plain_coach (small_two 1 0)) (refuses 34 22) (refuses 34 6)
    ∷ saying "sixty-fifth-at-the-count" (profiles plain_coach (made (16 ∷ []) (bits 65) [] [])) (refuses 34 1030) (refuses 34 4)
    ∷ saying "profile-offset-of-form-1" (profiles_in plain_coach 2 (made2 (16 ∷ []) ((signal 24 4 0 1 1 1 0, 0) ∷ (signal 28 4 0 1 1 0 0, 0) ∷ []) [] []))
    (refuses 34 24) (refuses 34 22)
    ∷ saying "profile-before-octets-after" (profiles plain_coach (small 1 0 1 [] ++ (0 ∷ []))) (refuses 4 32) (refuses 34 6)
    ∷ saying "profile-before-entry" (profiles plain_coach (made (16 ∷ []) (signal 24 4 0 1 1 0 0 ∷ signal 28 4 0 1 0 1 0 ∷ []) [] [])) (refuses 3 22) (refuses 34 6)
    ∷ saying "every-profile-refused" (profiles plain_coach (small 1 5000 1 [])) accepted_small (refuses 34 6)
    ∷ asked_as "profile-not-asked" (profiles plain_coach (small 0 0 7 [])) (refuses 34 6) (judges (small 0 0 7 [])) accepted_small
    ∷ saying "breach-last-rule-named" (breaches plain_coach (small 1 0 7 [])) (gave (1 ∷ 2 ∷ 0 ∷ 4 ∷ 0 ∷ 0 ∷ 24 ∷ 4 ∷ 6 ∷ [])) (gave (1 ∷ 2 ∷ 0 ∷ 5 ∷ 0 ∷ 0 ∷ 24 ∷ 4 ∷ 6 ∷ []))
    ∷ saying "breach-of-a-refused-list" (breaches plain_coach (small 1 0 1 [] ++ (0 ∷ []))) (gave (0 ∷ [])) (gave (1 ∷ 2 ∷ 0 ∷ 4 ∷ 0 ∷ 0 ∷ 24 ∷ 4 ∷ 6 ∷ []))
    ∷ saying "breach-without-its-signal" (breaches plain_coach (small 1 5000 1 (route 0 1 125 ∷ []))) (gave (1 ∷ 4 ∷ 0 ∷ 1 ∷ 0 ∷ 0 ∷ 24 ∷ 4 ∷ 32 ∷ []))
    (gave (1 ∷ 4 ∷ 0 ∷ 1 ∷ 0 ∷ 0 ∷ 125 ∷ 4 ∷ 32 ∷ []))
    -- relaying: octets 1 to 5
    ∷ saying "relays-nothing" (relayed_r3 under_two 0x50 0x44 0) (comes_out 1 0x50 0x44 0) (gave (0xEE ∷ 0xEE ∷ 0xEE ∷ 0xEE ∷ 0xEE ∷ []))
    ∷ saying "refuses-every-relay" (relayed_r3 under_two 0x50 0x44 0) (comes_out 1 0x50 0x44 0) (refuses 9 0 ++ (0xEE ∷ 0xEE ∷ 0xEE ∷ 0xEE ∷ 0xEE ∷ []))
    ∷ saying "too-old-passed-on" (relays list_l (heard_at 0x10 0x40 0) 5001 1 (replicate 128 0xEE) (40 ∷ 53 ∷ [])) (gave (0 ∷ 0 ∷ [])) (gave (0x10 ∷ 0x40 ∷ []))
    ∷ saying "mark-passed-on" (relayed_r3 under_one 0x40 0x47 0) (comes_out 1 0x00 0x41 0) (comes_out 1 0x40 0x41 0)
    ∷ saying "first-signal-decides" (relayed_r3 under_one 0x40 0x74 0) (comes_out 1 0x00 0x14 0) (comes_out 1 0x40 0x14 0)
    ∷ saying "error-for-the-first-check-only" (relayed_r3 under_two 0x50 0x77 0) (comes_out 1 0x00 0x11 0) (comes_out 1 0x10 0x11 0)
    ∷ saying "error-for-every-check" (relayed_r3 under_two 0x50 0x74 0) (comes_out 1 0x10 0x14 0) (comes_out 1 0x00 0x14 0)
    ∷ saying "forced-relayed-as-ok" (relayed_r3 under_one 0x80 0x44 0) (comes_out 1 0x80 0x44 0) (comes_out 1 0x40 0x44 0)
    ∷ saying "incoming-version-passed-on" (relayed_r3 under_two 0x50 0x44 0) (comes_out 1 0x50 0x44 0) (comes_out 3 0x50 0x44 0)
    ∷ saying "newer-signal-copied" (relayed_r3 under_two 0x50 0x44 0xFF) (comes_out 1 0x50 0x44 0) (comes_out 1 0x50 0x44 0xFF)
    ∷ saying "check-without-signals-ok" (relayed_r3 under_one 0x50 0x44 0) (comes_out 1 0x40 0x44 0) (comes_out 1 0x50 0x44 0)
    ∷ saying "code-passed-on" (relayed_r3 under_two 0x50 0x47 0) (comes_out 1 0x40 0x41 0) (comes_out 1 0x40 0x47 0)
    ∷ saying "relays-what-was-never-heard" (relays under_two silent 0 1 (replicate 40 0xEE) (0 ∷ [])) (refuses 9 0 ++ (0xEE ∷ [])) (gave (0x10 ∷ []))
    ∷ saying "unknown-replacement-relayed" (relayed_r3 (relay_list (16 ∷ 18 ∷ []) 2 8) 0x50 0x47 0)
    (refuses 15 1 ++ (0xEE ∷ 0xEE ∷ 0xEE ∷ 0xEE ∷ 0xEE ∷ [])) (comes_out 1 0x40 0x48 0)
    ∷ saying "sixteen-before-nine" (relays under_two silent 0 1 (replicate 39 0xEE) (0 ∷ [])) (refuses 9 0 ++ (0xEE ∷ [])) (refuses 16 0 ++ (0xEE ∷ []))
    ∷ saying "sixteen-before-fifteen" (relays (relay_list (16 ∷ 18 ∷ []) 2 8) (after silent (taking silent 1 0 (0x13 ∷ 0x03 ∷ 0x50 ∷ 0x47 ∷ replicate 36 0))) 0 1 (0xEE ∷ []) (0 ∷ []))
    (refuses 15 1 ++ (0xEE ∷ [])) (refuses 16 0 ++ (0xEE ∷ []))
    ∷ saying "fifteen-before-nine" (relays (relay_list (16 ∷ 18 ∷ []) 2 8) silent 0 1 (replicate 40 0xEE) (0 ∷ [])) (refuses 9 0 ++ (0xEE ∷ [])) (refuses 15 1 ++ (0xEE ∷ []))
    ∷ saying "relay-store-before-list" (relays [] [] 0 1 (0xEE ∷ []) (0 ∷ [])) (refuses 1 0 ++ (0xEE ∷ [])) (refuses 5 0 ++ (0xEE ∷ []))
    ∷ saying "relay-vehicle-before-store" (relays under_two [] 0 64 (0xEE ∷ []) (0 ∷ [])) (refuses 5 0 ++ (0xEE ∷ [])) (refuses 6 0 ++ (0xEE ∷ []))
    -- showing: the case, the code or the bits of the f32, and the reason
    ∷ asked_as "signed-edge" (shown_as_lem signed_percentage 32768) (gave (2 ∷ 0xC3480000 ∷ 0 ∷ [])) (shown_as_lem percentage 32768) (gave (2 ∷ 0x43480000 ∷ 0 ∷ []))
    ∷ saying "speed-scale" (shown_as_lem speed 64) (gave (1 ∷ 0x3F800000 ∷ 0 ∷ [])) (gave (1 ∷ 0x3F820821 ∷ 0 ∷ []))
    ∷ saying "minus-zero" (shown_as_lem signed_percentage 0) (gave (2 ∷ 0 ∷ 0 ∷ [])) (gave (2 ∷ 0x80000000 ∷ 0 ∷ []))
    ∷ saying "refuses-every-showing" (shown_as_lem speed 64) (gave (1 ∷ 0x3F800000 ∷ 0 ∷ [])) (refuses 26 0)
    ∷ saying "replacement-shown-live" (shows (list_v 16 64) (raw_at 16384) 5001 1 0 speed) (gave (1 ∷ 0x3F800000 ∷ 3 ∷ [])) (gave (1 ∷ 0x3F800000 ∷ 0 ∷ []))
    ∷ saying "too-old-value-shown" (shows (list_v 16 64) (raw_at 16384) 5001 1 0 speed) (gave (1 ∷ 0x3F800000 ∷ 3 ∷ [])) (gave (1 ∷ 0x43800000 ∷ 3 ∷ []))
    ∷ saying "width-15-scaled" (shows (list_v 15 0) (raw_at 64) 5000 1 0 speed) (refuses 26 0) (gave (1 ∷ 0x3F000000 ∷ 0 ∷ []))
    ∷ saying "width-17-scaled" (shows (list_v 17 0) (raw_at 64) 5000 1 0 speed) (refuses 26 0) (gave (1 ∷ 0x40000000 ∷ 0 ∷ []))
    ∷ saying "code-needs-width-16" (shows (list_v 15 0) (raw_at 64) 5000 1 0 Shown.code) (gave (0 ∷ 32 ∷ 0 ∷ [])) (refuses 26 0)
    ∷ saying "twenty-six-before-eleven" (shows (list_v 15 0) (raw_at 64) 5000 1 1 speed) (refuses 11 0) (refuses 26 0)
    ∷ saying "twenty-six-before-five" (shows (list_v 15 0) [] 5000 1 0 speed) (refuses 5 0) (refuses 26 0)
    ∷ saying "twenty-six-before-the-list" (shows (take 23 (list_v 15 0)) (raw_at 64) 5000 1 0 speed) (refuses 1 22) (refuses 26 0)
    ∷ saying "twenty-six-before-six" (shows (list_v 15 0) (raw_at 64) 5000 64 0 speed) (refuses 6 0) (refuses 26 0)
    -- the train: the set and its size
    ∷ asked_as "two-leading" (resolves (leading ∷ leading ∷ []) 66) (refuses 18 0) (resolves (leading ∷ coach ∷ []) 66) (gave (6 ∷ 2 ∷ []))
    ∷ asked_as "led-without-tractive" (resolves (led_only ∷ []) 65) (refuses 18 0) (resolves (led ∷ []) 65) (gave (2 ∷ 1 ∷ []))
    ∷ saying "nobody-before-unknown" (resolves (coach ∷ []) 68) (refuses 19 0) (refuses 20 0)
    ∷ saying "nobody-is-empty" (resolves (coach ∷ []) 64) (refuses 20 0) (gave (0 ∷ 0 ∷ []))
    ∷ asked_as "size-of-another-set" (resolves (coach ∷ tractive ∷ []) 67) (gave (2 ∷ 1 ∷ [])) (resolves (coach ∷ coach ∷ []) 67) (gave (6 ∷ 2 ∷ []))
    ∷ asked_as "two-marks-exchanged"
    (resolves (coach ∷ tractive ∷ []) 67) (gave (2 ∷ 1 ∷ []))
    (resolves (tractive ∷ coach ∷ []) 67) (gave (4 ∷ 1 ∷ []))
    ∷ asked_as "last-vehicle-left-out" (resolves (coach ∷ coach ∷ []) 66) (gave (6 ∷ 2 ∷ [])) (resolves (coach ∷ []) 66) (gave (2 ∷ 1 ∷ []))
    ∷ asked_as "sixty-four-accepted" (resolves (replicate 64 coach) 1) (refuses 17 0) (resolves (replicate 63 coach) 1) (gave (2 ∷ 1 ∷ []))
    -- christening records: the places, the pairs, 31 first; a property by its row
    ∷ asked_as "record-bit-0-least" (alone (only 51 4)) (gave (18 ∷ [])) (alone (only 51 3)) (gave (2 ∷ []))
    ∷ saying "special-coach-is-a-coach" (alone (only 51 5)) (gave (0 ∷ [])) (gave (2 ∷ []))
    ∷ saying "sleeping-car-is-no-coach" (alone (only 51 4)) (gave (18 ∷ [])) (gave (16 ∷ []))
    ∷ asked_as "second-traction-left-out" (alone (only 24 1)) (gave (4 ∷ [])) (alone blank) (gave (0 ∷ []))
    ∷ asked_as "couchette-as-sleeping-car" (alone (only 51 3)) (gave (2 ∷ [])) (alone (only 51 4)) (gave (18 ∷ []))
    ∷ asked_as "places-one-octet-on" (alone (only 50 3)) (gave (0 ∷ [])) (alone (only 51 3)) (gave (2 ∷ []))
    ∷ asked_as "records-of-55" (christens (take 55 (only 51 4)) (unmarked ∷ [])) (refuses 31 0) (alone (only 51 4)) (gave (18 ∷ []))
    ∷ asked_as "marks-of-the-neighbour"
    (christens (only 24 0 ++ only 51 4) (unmarked ∷ unmarked ∷ [])) (gave (4 ∷ 18 ∷ []))
    (christens (only 51 4 ++ only 24 0) (unmarked ∷ unmarked ∷ [])) (gave (18 ∷ 4 ∷ []))
    ∷ asked_as "pairs-of-the-neighbour"
    (christens (only 24 0 ++ only 24 0) (leads ∷ unmarked ∷ [])) (gave (5 ∷ 4 ∷ []))
    (christens (only 24 0 ++ only 24 0) (unmarked ∷ leads ∷ [])) (gave (4 ∷ 5 ∷ []))
    ∷ asked_as "leading-from-the-record" (alone (only 24 0)) (gave (4 ∷ [])) (christens (only 24 0) (leads ∷ [])) (gave (5 ∷ []))
    ∷ asked_as "leading-and-led-exchanged"
    (christens (only 24 0) (leads ∷ [])) (gave (5 ∷ []))
    (christens (only 24 0) (follows ∷ [])) (gave (12 ∷ []))
    ∷ saying "seventeen-before-31" (christens [] (unmarked ∷ [])) (refuses 31 0) (refuses 17 0)
    ∷ saying "eighteen-before-31" (christens (only 24 0) (leads ∷ leads ∷ [])) (refuses 31 0) (refuses 18 0)
    ∷ asked_as "record-too-many-left-out" (christens (only 51 4 ++ blank) (unmarked ∷ [])) (refuses 31 0) (alone (only 51 4)) (gave (18 ∷ []))
    ∷ asked_as "property-of-the-next-row" (asks_row (only 50 0) 1) (gave (1 ∷ 1 ∷ 1 ∷ 50 ∷ 0 ∷ 1 ∷ [])) (asks_row (only 50 0) 2) (gave (1 ∷ 2 ∷ 1 ∷ 50 ∷ 1 ∷ 0 ∷ []))
    ∷ saying "gateway-s-as-the-vehicle-s" (asks_row (only 22 0) 17) (gave (1 ∷ 17 ∷ 0 ∷ 22 ∷ 0 ∷ 1 ∷ [])) (gave (1 ∷ 17 ∷ 1 ∷ 22 ∷ 0 ∷ 1 ∷ []))
    ∷ asked_as "rows-without-a-gap" (asks_row blank 133) (gave (0 ∷ [])) (asks_row blank 141) (gave (1 ∷ 141 ∷ 1 ∷ 54 ∷ 1 ∷ 0 ∷ []))
    -- the doors: who is asked, what a side says, who kept it from locked; 35 behind 5 and before 17
    ∷ saying "unheard-vehicle-skipped" (summary (said_by 1 0x0C silent) coaches 66) (both_sides 2 4 1 2 4 1) (both_sides 0 0 0 0 0 0)
    ∷ saying "locked-of-nobody" (summary silent coaches 64) (refuses 20 0) (both_sides 0 0 0 0 0 0)
    ∷ saying "open-hidden-by-not-known" (summary (said_by 1 0 silent) coaches 66) (both_sides 1 6 2 1 6 2) (both_sides 2 6 2 2 6 2)
    ∷ saying "sides-exchanged" (summary (said_by 1 0x04 silent) (a_coach ∷ []) 66) (both_sides 1 2 1 0 0 0) (both_sides 0 0 0 1 2 1)
    ∷ saying "bits-5-and-6-read" (asks_doors three_bits (said_by 1 0x0C silent) 5000 (a_coach ∷ []) 66) (both_sides 0 0 0 0 0 0) (both_sides 0 0 0 1 2 1)
    ∷ saying "set-of-the-fine" (summary (said_by 1 0x0C (said_by 2 0x04 silent)) coaches 66) (both_sides 1 4 1 0 0 0) (both_sides 1 2 1 0 6 2)
    ∷ saying "forced-holds-up" (asks_doors checked_list (marked_by 0x08) 5000 (a_coach ∷ []) 66) (both_sides 0 0 0 0 0 0) (both_sides 2 2 1 2 2 1)
    ∷ saying "not-live-is-open" (summary silent (a_coach ∷ []) 66) (both_sides 2 2 1 2 2 1) (both_sides 1 2 1 1 2 1)
    ∷ asked_as "all-asked-at-an-address"
    (summary (said_by 2 0x0C silent) (an_engine ∷ a_coach ∷ []) 67) (both_sides 0 0 0 0 0 0)
    (summary (said_by 2 0x0C silent) (an_engine ∷ a_coach ∷ []) 66) (both_sides 2 2 1 2 2 1)
    ∷ saying "vehicle-outside-the-train" (summary (said_by 1 0x0C (said_by 2 0 silent)) (a_coach ∷ []) 66) (both_sides 0 0 0 0 0 0) (both_sides 1 4 1 1 4 1)
    ∷ saying "seventeen-before-a-door" (asks_doors (other_list (door_bit 156 1) (door_bit 158 1)) silent 0 [] 66) (refuses 35 0) (refuses 17 0)
    ∷ saying "thirty-five-before-5" (asks_doors (other_list (door_bit 156 1) (door_bit 158 1)) [] 0 coaches 66) (refuses 5 0) (refuses 35 0)
    ∷ saying "door-of-two-bits" (asks_doors (other_list (door_bit 156 1) (door_bit 157 2)) silent 0 coaches 66) (refuses 35 0) (both_sides 2 6 2 2 6 2)
    -- recordings: every bit is compared with our own step's, the first that is off is named with its own route; 38, then 12, 36, 37
    ∷ saying "bits-outside-not-compared" (first (data2 0x4A 0x0D)) (wrong_out 7) is_right
    ∷ saying "bits-behind-not-compared" (first (data2 0x4B 0x0C)) (wrong_out 15) is_right
    ∷ saying "last-route-only" (first (data2 0x5B 0x0D)) (wrong_in 3 0 0) is_right
    ∷ saying "last-wrong-bit-named" (first (data2 0x5B 0x1D)) (wrong_in 3 0 0) (wrong_in 11 1 5)
    ∷ saying "whole-route-named-at-its-start" (first (data2 0x4B 0x1D)) (wrong_in 11 1 5) (wrong_in 8 1 5)
    ∷ saying "reason-of-the-neighbour-route" (first (data2 0x4B 0x1D)) (wrong_in 11 1 5) (wrong_in 11 1 0)
    ∷ saying "bit-behind-as-in-the-route" (first (data2 0x43 0x0D)) (wrong_out 4) (wrong_in 4 0 0)
    ∷ saying "whole-octet-as-the-route" (first (data2 0x4A 0x0D)) (wrong_out 7) (wrong_in 7 0 0)
    ∷ asked_as "after-as-it-was-before" (first (data2 0xAB 0xCD)) (wrong_in 0 0 0) (checks_step (made [] [] [] []) 0 [] (step 0 (data2 0xAB 0xCD) (data2 0xAB 0xCD))) is_right
    ∷ asked_as "twelve-of-the-data-after" (first (0x4B ∷ [])) (refuses 36 0) (checks_step two_routes 0 [] (step 0 (0x4B ∷ []) (data2 0xAB 0xCD))) (refuses 12 0)
    ∷ saying "thirty-six-before-12" (checks_step two_routes 0 [] (step 0 (0xAB ∷ []) (data2 0x4B 0x0D))) (refuses 12 0) (refuses 36 0)
    ∷ saying "thirty-seven-before-36" (later 1 (data2 0xAB 0xCC) (0x4B ∷ [])) (refuses 36 0) (refuses 37 0)
    ∷ asked_as "thousandth-step-refused" (later 999 (data2 0xAB 0xCD) (data2 0x4B 0x0D)) is_right (later 1000 (data2 0xAB 0xCD) (data2 0x4B 0x0D)) (refuses 38 0)
    ∷ saying "step-1001-accepted" (later 1000 (data2 0xAB 0xCD) (data2 0x4B 0x0D)) (refuses 38 0) is_right
    ∷ saying "longer-data-after-accepted" (first (0x4B ∷ 0x0D ∷ 0 ∷ [])) (refuses 36 0) is_right
    ∷ saying "another-octet-follows-on" (later 1 (data2 0xAB 0xCC) (data2 0x4B 0x0D)) (refuses 37 0) is_right
    ∷ saying "list-before-38" (checks_step [] 1000 [] (step 0 [] [])) (refuses 38 0) (refuses 1 0)
    ∷ asked_as "first-step-held-to-the-last" (first (data2 0x4B 0x0D)) is_right (later 1 [] (data2 0x4B 0x0D)) (refuses 37 0)
    ∷ saying "longer-last-follows-on" (later 1 (0xAB ∷ 0xCD ∷ 0 ∷ []) (data2 0x4B 0x0D)) (refuses 37 0) is_right
    ∷ saying "by-the-clock-of-the-step-before"
    (checks_all two_routes (step 0 (data2 0xAB 0xCD) (data2 0x4B 0x0D) ∷ step 5001 (data2 0x4B 0x0D) (data2 0x4B 0x0D) ∷ [])) (gave (1 ∷ 1 ∷ wrong_in 1 0 3)) (gave (0 ∷ 2 ∷ []))
    ∷ saying "goes-on-behind-a-finding"
    (checks_all two_routes (step 0 (data2 0xAB 0xCD) (data2 0x4B 0x0C) ∷ step 0 (data2 0x4B 0x0C) (data2 0x4A 0x0C) ∷ [])) (gave (1 ∷ 0 ∷ wrong_out 15)) (gave (1 ∷ 1 ∷ wrong_out 7))
    ∷ saying "no-steps-without-a-list" (checks_all [] []) (refuses 1 0) (gave (0 ∷ 0 ∷ []))
    -- E-telegrams: code, report or not, octet 9; the answer's octets
    ∷ asked_as "code-missing" (e_reads (e_telegram 0x4047 9)) (gave (0x4047 ∷ 0 ∷ 9 ∷ [])) (e_reads (e_telegram 0x4048 9)) (refuses 22 0)
    ∷ saying "octet-8-for-9" (e_reads (e_telegram 0x1012 9)) (gave (0x1012 ∷ 0 ∷ 9 ∷ [])) (gave (0x1012 ∷ 0 ∷ 0x12 ∷ []))
    ∷ saying "report-as-request" (e_reads (e_telegram 0x1A12 9)) (gave (0x1A12 ∷ 1 ∷ 9 ∷ [])) (gave (0x1A12 ∷ 0 ∷ 9 ∷ []))
    ∷ saying "code-and-status-exchanged" (e_reads (e_telegram 0x1012 9)) (gave (0x1012 ∷ 0 ∷ 9 ∷ [])) (gave (9 ∷ 0 ∷ 0x1012 ∷ []))
    ∷ saying "report-offset"
    (e_answers (e_telegram 0x1012 9) (replicate 6 7) 5 (replicate 9 0xEE)) (gave (replicate 6 7 ++ (0x1A ∷ 0x12 ∷ 5 ∷ [])))
    (gave (replicate 6 7 ++ (0x1B ∷ 0x12 ∷ 5 ∷ [])))
    ∷ saying "answer-touches-octet-10"
    (e_answers (e_telegram 0x1012 9) (replicate 6 7) 5 (replicate 10 0xEE)) (gave (replicate 6 7 ++ (0x1A ∷ 0x12 ∷ 5 ∷ 0xEE ∷ [])))
    (gave (replicate 6 7 ++ (0x1A ∷ 0x12 ∷ 5 ∷ 0 ∷ [])))
    ∷ asked_as "old-head-kept"
    (e_answers (e_telegram 0x1012 9) (replicate 6 7) 5 (replicate 9 0xEE)) (gave (replicate 6 7 ++ (0x1A ∷ 0x12 ∷ 5 ∷ [])))
    (e_answers (e_telegram 0x1012 9) (1 ∷ 2 ∷ 3 ∷ 4 ∷ 5 ∷ 6 ∷ []) 5 (replicate 9 0xEE)) (gave (1 ∷ 2 ∷ 3 ∷ 4 ∷ 5 ∷ 6 ∷ 0x1A ∷ 0x12 ∷ 5 ∷ []))
    ∷ saying "report-answered"
    (e_answers (e_telegram 0x1A12 9) (replicate 6 7) 5 (replicate 9 0xEE)) (refuses 23 0 ++ replicate 9 0xEE)
    (gave (replicate 6 7 ++ (0x24 ∷ 0x12 ∷ 5 ∷ [])))
    -- remedy texts: the code, the limit, octets 21-24, the blocks in order; a block's key and text; what is written
    ∷ saying "other-code-is-22" (remedy_reads (but 8 7 (two_texts 9))) (refuses 29 0) (refuses 22 0)
    ∷ saying "remedies-end-at-1024" (e_reads (long 0x8A08 1016)) (gave (0x8A08 ∷ 1 ∷ 1 ∷ [])) (refuses 21 0)
    ∷ saying "limit-2110-for-every-code" (e_reads (long 0x8008 1016)) (refuses 21 0) (gave (0x8008 ∷ 0 ∷ 1 ∷ []))
    ∷ saying "long-report-is-21" (e_answers (long 0x8A08 1016) (replicate 6 7) 5 []) (refuses 23 0) (refuses 21 0)
    ∷ saying "language-low-first" (remedy_reads (two_texts 9)) (gave (0x6465 ∷ 1 ∷ 2 ∷ [])) (gave (0x6564 ∷ 1 ∷ 2 ∷ []))
    ∷ saying "reserve-examined" (remedy_reads (two_texts 9)) (gave (0x6465 ∷ 1 ∷ 2 ∷ [])) (refuses 29 0)
    ∷ asked_as "key-twice-passed" (remedy_reads (but 41 3 (two_texts 9))) (refuses 30 0) (remedy_reads (two_texts 9)) (gave (0x6465 ∷ 1 ∷ 2 ∷ []))
    ∷ asked_as "octets-after-the-last-passed" (remedy_reads (two_texts 9 ++ (0 ∷ []))) (refuses 28 0) (remedy_reads (two_texts 9)) (gave (0x6465 ∷ 1 ∷ 2 ∷ []))
    ∷ saying "odd-text-passed" (remedy_reads (front 1 1 9 ++ (0 ∷ 7 ∷ 3 ∷ 9 ∷ 0 ∷ 1 ∷ 0x61 ∷ []))) (refuses 29 0) (gave (0x6465 ∷ 1 ∷ 1 ∷ []))
    ∷ saying "lowest-of-all-blocks" (remedy_reads (but 40 7 (but 33 0 (two_texts 9)))) (refuses 29 0) (refuses 28 0)
    ∷ saying "field-before-the-end" (remedy_reads (but 33 0 (but 31 1 (two_texts 9)))) (refuses 28 0) (refuses 29 0)
    ∷ saying "key-twice-before-its-length" (remedy_reads (but 44 2 (but 41 3 (two_texts 9)))) (refuses 29 0) (refuses 30 0)
    ∷ saying "after-the-last-before-the-blocks" (remedy_reads (but 41 3 (two_texts 9) ++ (0 ∷ []))) (refuses 30 0) (refuses 28 0)
    ∷ saying "block-ends-by-its-text" (remedy_reads (but 36 254 (two_texts 9))) (refuses 29 0) (refuses 28 0)
    ∷ saying "text-two-octets-early" (remedy_blocks (two_texts 9) 0) (gave (1 ∷ 3 ∷ 36 ∷ 2 ∷ 0x61 ∷ 0x62 ∷ [])) (gave (1 ∷ 3 ∷ 34 ∷ 2 ∷ 0 ∷ 2 ∷ []))
    ∷ saying "text-to-the-block-s-length"
    (remedy_blocks (two_texts 9) 0) (gave (1 ∷ 3 ∷ 36 ∷ 2 ∷ 0x61 ∷ 0x62 ∷ []))
    (gave (1 ∷ 3 ∷ 36 ∷ 8 ∷ 0x61 ∷ 0x62 ∷ 0 ∷ 6 ∷ 1 ∷ 9 ∷ 0 ∷ 0 ∷ []))
    ∷ saying "key-of-the-next-block" (remedy_blocks (two_texts 9) 0) (gave (1 ∷ 3 ∷ 36 ∷ 2 ∷ 0x61 ∷ 0x62 ∷ [])) (gave (1 ∷ 1 ∷ 36 ∷ 2 ∷ 0x61 ∷ 0x62 ∷ []))
    ∷ asked_as "last-block-again" (remedy_blocks (two_texts 9) 2) (gave (0 ∷ [])) (remedy_blocks (two_texts 9) 1) (gave (1 ∷ 1 ∷ 44 ∷ 0 ∷ []))
    ∷ asked_as "block-before-the-fault"
    (remedy_blocks (but 41 3 (two_texts 9)) 0) (refuses 30 0)
    (remedy_blocks (two_texts 9) 0) (gave (1 ∷ 3 ∷ 36 ∷ 2 ∷ 0x61 ∷ 0x62 ∷ []))
    ∷ saying "reserve-left-as-it-stood"
    (remedy_writes 1 (1 ∷ []) (0 ∷ []) [] (replicate 36 0xEE)) (gave (36 ∷ front 1 1 0 ++ (0 ∷ 6 ∷ 1 ∷ 0 ∷ 0 ∷ 0 ∷ [])))
    (gave (36 ∷ front 1 1 0xEE ++ (0 ∷ 6 ∷ 1 ∷ 0xEE ∷ 0 ∷ 0 ∷ [])))
    ∷ saying "block-length-without-its-six"
    (remedy_writes 1 (1 ∷ []) (0 ∷ []) [] (replicate 36 0xEE)) (gave (36 ∷ front 1 1 0 ++ (0 ∷ 6 ∷ 1 ∷ 0 ∷ 0 ∷ 0 ∷ [])))
    (gave (36 ∷ front 1 1 0 ++ (0 ∷ 0 ∷ 1 ∷ 0 ∷ 0 ∷ 0 ∷ [])))
    ∷ saying "output-past-the-telegram-cleared"
    (remedy_writes 1 (1 ∷ []) (0 ∷ []) [] (replicate 37 0xEE)) (gave (36 ∷ front 1 1 0 ++ (0 ∷ 6 ∷ 1 ∷ 0 ∷ 0 ∷ 0 ∷ 0xEE ∷ [])))
    (gave (36 ∷ front 1 1 0 ++ (0 ∷ 6 ∷ 1 ∷ 0 ∷ 0 ∷ 0 ∷ 0 ∷ [])))
    ∷ saying "length-of-the-output"
    (remedy_writes 1 (1 ∷ []) (0 ∷ []) [] (replicate 37 0xEE)) (gave (36 ∷ front 1 1 0 ++ (0 ∷ 6 ∷ 1 ∷ 0 ∷ 0 ∷ 0 ∷ 0xEE ∷ [])))
    (gave (37 ∷ front 1 1 0 ++ (0 ∷ 6 ∷ 1 ∷ 0 ∷ 0 ∷ 0 ∷ 0xEE ∷ [])))
    ∷ asked_as "keys-exchanged"
    (texts_writes 1 (3 ∷ 1 ∷ []) ([] ∷ [] ∷ []) (replicate 42 0xEE)) (gave (42 ∷ front 1 2 0 ++ (0 ∷ 6 ∷ 3 ∷ 0 ∷ 0 ∷ 0 ∷ 0 ∷ 6 ∷ 1 ∷ 0 ∷ 0 ∷ 0 ∷ [])))
    (texts_writes 1 (1 ∷ 3 ∷ []) ([] ∷ [] ∷ []) (replicate 42 0xEE)) (gave (42 ∷ front 1 2 0 ++ (0 ∷ 6 ∷ 1 ∷ 0 ∷ 0 ∷ 0 ∷ 0 ∷ 6 ∷ 3 ∷ 0 ∷ 0 ∷ 0 ∷ [])))
    ∷ saying "octet-23-before-the-room" (write 2 (3 ∷ []) (0 ∷ []) 0 35) (refuses 25 0 ++ replicate 35 0xEE) (refuses 29 0 ++ replicate 35 0xEE)
    ∷ saying "room-of-eight-blocks" (write 1 (replicate 9 1) (replicate 9 0) 0 83) (refuses 25 0 ++ replicate 83 0xEE) (refuses 29 0 ++ replicate 83 0xEE)
    ∷ saying "area-cut-to-its-lengths"
    (write 1 (1 ∷ []) (0 ∷ []) 2 36) (refuses 29 0 ++ replicate 36 0xEE)
    (gave (36 ∷ front 1 1 0 ++ (0 ∷ 6 ∷ 1 ∷ 0 ∷ 0 ∷ 0 ∷ [])))
    ∷ saying "written-though-refused"
    (write 1 (9 ∷ []) (0 ∷ []) 0 36) (refuses 29 0 ++ replicate 36 0xEE)
    (refuses 29 0 ++ (front 1 1 0 ++ (0 ∷ 6 ∷ 9 ∷ 0 ∷ 0 ∷ 0 ∷ [])))
    ∷ []

-- what is told of a row, and what is written in it
pub record Told : Type 0 where
  pub paper_says : List ℕ
  pub it_says : List ℕ
  pub same : Bool

unfoldable pub same_numbers : List ℕ → List ℕ → Bool
same_numbers [] [] = true
same_numbers [] (y ∷ ys) = false
same_numbers (x ∷ xs) [] = false
same_numbers (x ∷ xs) (y ∷ ys) = eqb x y && same_numbers xs ys

abbrev pub told : Row → Told
told r =
    record { paper_says = ask r.asked; it_says = answered r.does; same = same_numbers (ask r.asked) (answered r.does) }

abbrev pub written : Row → Told
written r = record { paper_says = r.right; it_says = r.wrong; same = false }

-- the one computed test: of every row both answers are as written, and they differ
pub wrong : map told table ≡ map written table
unfolding table bits answered same_numbers joined made made2 ask list_l list_l2 list_v raw_at serial_at serial_of narrowed dropped_from dropped spread widened_from widened to_form2 to_form1 telegram silent heard_at bit field with_bit set_bit put puts number octets_of over refuse_if
    first_from first_bad all some next count greatest application_type telegram_type version_of rows place_in SignalList.check_at SignalList.signal_size SignalList.signal_at SignalList.among
    SignalList.code_at SignalList.route_at SignalList.check_rule SignalList.signal_rule_to SignalList.code_rule SignalList.route_rule SignalList.opening
    SignalList.judge_entries SignalList.judge_section SignalList.greatest_since SignalList.ending SignalList.from_routes SignalList.from_codes
    SignalList.from_signals_to judge_to fault_in fault_from_routes fault_from_codes fault_from_signals fault_of has_codes in_range known_in knows place_of version codes_kept keeps stands newer Extending.extends extends_lists entry_of
    route_entry signal_found finding has index next_pair pairing starts past change_at codes_compared gained signal_differs signal_change breaks route_differs route_change next_signal next_route next_gained signal_changes route_changes codes_gained slot_of taken taking age gap gapping stale swept_one swept_to sweeping heard held_in holding mark_of code_of hindrances reason_of reading_of
    reading_at reading values_at reasons_at in_turn readings train_readings routed marshalled live marshalling headed composed mark_fits value_fits composing relay_type read_live under all_live vouched relay_mark relay_value relaying under_table signal_broken route_broken first_breach breach_in breach_of profiling listed showing of_bits round to_bits consist_rule meets member
    set_to members_of resolving requests is_request is_report e_limit e_reading answer_to answering
    door_list three_bits other_list checked_list state_of side_of doors_of doors
    two_routes heard_two route_with located first_wrong Recordings.finding same_octets checking onward judged recording
    properties described vehicles_of christening row_in property_of
    two_texts start twice block_fault first_fault remedy_reading remedy_block remedy_text area_to block_octets blocks_to front_octets telegram_of size_to handed_fault remedy_writing
wrong = refl
