-- Cases for computed tables: a question to any call, and its answer as numbers, with what a lent area holds afterwards.
use Rattle.std.specs.Prelude.{ℕ, zero, suc, ◌+◌, ◌*◌, Bool, cond, List, [], ◌∷◌, ◌++◌, map, length, get_or, replicate}
use Rattle.std.specs.Float.{binary32}
use Rattle.std.specs.Float.Ieee.{to_bits}
use Rattle.paper.specs.Octets.{octets_of}
use Rattle.paper.specs.Answer.{Answer, gives, refused, after, map_answer, Sought, found, nothing}
use Rattle.paper.specs.Telegrams.{check_place}
use Rattle.paper.specs.SignalList.{Signal, Code, Route, Counts, OfTwo, of_both, first_refused, second_refused, judge}
use Rattle.paper.specs.Broken.{Fault, fault_of}
use Rattle.paper.specs.Forms.{serial_of, to_form2, to_form1}
use Rattle.paper.specs.Extends.{extends_lists}
use Rattle.paper.specs.Pairs.{Entry, Pair, entry_of, route_entry, finding, pairing}
use Rattle.paper.specs.Store.{taking, gapping, sweeping}
use Rattle.paper.specs.Reading.{Reading, Held, holding, reading}
use Rattle.paper.specs.Readings.{Readings, readings, train_readings}
use Rattle.paper.specs.Marshalling.{marshalling}
use Rattle.paper.specs.Composing.{composing}
use Rattle.paper.specs.Relaying.{relaying}
use Rattle.paper.specs.Profiles.{Profile, breach_of, profiling}
use Rattle.paper.specs.Comparing.{Changed, Range, signal_changes, route_changes, codes_gained}
use Rattle.paper.specs.Shown.{Kind, Shown, ShownReading, as_code, as_speed, as_percentage, as_current, showing}
use Rattle.paper.specs.Train.{Vehicle, Members, resolving}
use Rattle.paper.specs.Christening as E1
use Rattle.paper.specs.Christening.{Level, christening, property_of}
use Rattle.paper.specs.Christening.{Held as Row, Pair as MarkPair}
use Rattle.paper.specs.Doors.{State, locked, opened, unknown, Side, Doors, doors}
use Rattle.paper.specs.Recordings.{Step, Place, in_route, outside, Finding, right, wrong, checking, Verdict, accepted, unlisted, named, recording}
use Rattle.paper.specs.ETelegrams.{EReading, e_reading, answering}
use Rattle.paper.specs.Remedies.{Remedies, remedy_reading, Remedy, remedy_block, remedy_text, Blocks, blocks_of, area_blocks, Handed, WrittenRemedies, remedy_writing}

-- ---- Lists made of entries

unfoldable pub joined : {A : Type 0} → (A → List ℕ) → List A → List ℕ
joined f [] = []
joined f (e ∷ es) = f e ++ joined f es

abbrev pub section : {A : Type 0} → (A → List ℕ) → List A → List ℕ
section f es = octets_of 2 (length es) ++ joined f es

abbrev pub signal_octets : Signal → List ℕ
signal_octets s =
    octets_of 2 s.start ++ (s.width ∷ s.type ∷ s.check ∷ s.since ∷ [])
    ++ octets_of 4 s.limit
    ++ octets_of 6 s.replacement

abbrev pub code_octets : Code → List ℕ
code_octets c = octets_of 2 c.signal ++ octets_of 2 c.low ++ octets_of 2 c.high

abbrev pub route_octets : Route → List ℕ
route_octets r = octets_of 2 r.signal ++ (r.vehicle ∷ r.null ∷ []) ++ octets_of 2 r.start

unfoldable pub made : List ℕ → List Signal → List Code → List Route → List ℕ
made checks signals codes routes =
    section (octets_of 2) checks ++ section signal_octets signals ++ section code_octets codes ++ section route_octets routes

-- the same in form 2, each signal with its serial number
abbrev pub numbered_octets : Signal × ℕ → List ℕ
numbered_octets s = signal_octets s.0 ++ octets_of 2 s.1

unfoldable pub made2 : List ℕ → List (Signal × ℕ) → List Code → List Route → List ℕ
made2 checks signals codes routes =
    section (octets_of 2) checks ++ section numbered_octets signals ++ section code_octets codes ++ section route_octets routes

-- start, width, type, check, since-version, time limit, replacement
abbrev pub signal : ℕ → ℕ → ℕ → ℕ → ℕ → ℕ → ℕ → Signal
signal start width type check since limit replacement =
    record { start = start; width = width; type = type; check = check; since = since; limit = limit; replacement = replacement }

-- signal number, low, high
abbrev pub code : ℕ → ℕ → ℕ → Code
code signal low high = record { signal = signal; low = low; high = high }

-- signal number, vehicle, destination start
abbrev pub route : ℕ → ℕ → ℕ → Route
route signal vehicle start = record { signal = signal; vehicle = vehicle; null = 0; start = start }

-- n common signals of a bit, from 24 on, under the first check, with the limit 5,000
unfoldable pub bits : ℕ → List Signal
bits zero = []
bits (suc n) = bits n ++ (signal (24 + n) 1 0 1 1 5000 0 ∷ [])

-- ---- Questions

pub data Question : Type 0 where
  -- a form and a list, here and below wherever a list stands
  judges_in faults_in : ℕ → List ℕ → Question
  -- a profile and a list
  profiles_in breaches_in : Profile → ℕ → List ℕ → Question
  -- two lists
  extends_in : ℕ → List ℕ → ℕ → List ℕ → Question
  -- a list and a signal; a list and a route; a list, a type and a start
  signal_entries_in route_entries_in : ℕ → List ℕ → ℕ → Question
  finds_in : ℕ → List ℕ → ℕ → ℕ → Question
  -- a list and a signal, whose serial number is asked for
  serials_in : ℕ → List ℕ → ℕ → Question
  -- a list and an output
  moves_to2 moves_to1 : List ℕ → List ℕ → Question
  -- two lists and a key
  pairs_in : ℕ → List ℕ → ℕ → List ℕ → ℕ → Question
  -- two lists and a key, of signals and of routes; two lists, a key and a code
  signal_changes_in route_changes_in : ℕ → List ℕ → ℕ → List ℕ → ℕ → Question
  codes_gained_in : ℕ → List ℕ → ℕ → List ℕ → ℕ → ℕ → Question
  -- a bit
  places : ℕ → Question
  -- a store, a vehicle, the clock and a telegram; the elements of the store that are looked at afterwards
  takes : List ℕ → ℕ → ℕ → List ℕ → List ℕ → Question
  -- a store and a vehicle
  gaps : List ℕ → ℕ → Question
  -- a store and the clock; the elements of the store that are looked at afterwards
  sweeps : List ℕ → ℕ → List ℕ → Question
  -- a store, the clock and a vehicle
  holds : List ℕ → ℕ → ℕ → Question
  -- a list, a store, the clock, a vehicle and a signal
  reads_in : ℕ → List ℕ → List ℕ → ℕ → ℕ → ℕ → Question
  -- a list, a store, the clock, a vehicle, or the last of a train, and how many values and reasons there is room for
  reads_all_in reads_train_in : ℕ → List ℕ → List ℕ → ℕ → ℕ → ℕ → ℕ → Question
  -- a list, a store, the clock and vehicle bus data
  marshals_in : ℕ → List ℕ → List ℕ → ℕ → List ℕ → Question
  -- a list, a type, values, marks and an output; the elements of the output that are looked at afterwards
  composes_in : ℕ → List ℕ → ℕ → List ℕ → List ℕ → List ℕ → List ℕ → Question
  -- a list, a store, the clock, a vehicle and an output; the elements of the output that are looked at afterwards
  relays_in : ℕ → List ℕ → List ℕ → ℕ → ℕ → List ℕ → List ℕ → Question
  -- a list, a store, the clock, a vehicle, a signal and a kind
  shows_in : ℕ → List ℕ → List ℕ → ℕ → ℕ → ℕ → Kind → Question
  -- a consist and an address
  resolves : List Vehicle → ℕ → Question
  -- christening records and pairs of marks; a record and a row of table E.1
  christens : List ℕ → List MarkPair → Question
  asks_row : List ℕ → ℕ → Question
  -- a list, a store, the clock, a consist and an address, of which the doors are asked for
  asks_doors : List ℕ → List ℕ → ℕ → List Vehicle → ℕ → Question
  -- a list, how many steps went before, the last one's data after, a step; a list and the steps of a recording
  checks_step : List ℕ → ℕ → List ℕ → Step → Question
  checks_all : List ℕ → List Step → Question
  -- an E-telegram
  e_reads : List ℕ → Question
  -- an E-telegram, a head, a status and an output
  e_answers : List ℕ → List ℕ → ℕ → List ℕ → Question
  -- a telegram with remedy texts; one and a block
  remedy_reads : List ℕ → Question
  remedy_blocks : List ℕ → ℕ → Question
  -- octet 23, keys, lengths, the area of the texts and an output; octet 23, keys, texts and an output
  remedy_writes : ℕ → List ℕ → List ℕ → List ℕ → List ℕ → Question
  texts_writes : ℕ → List ℕ → List (List ℕ) → List ℕ → Question

-- the same in form 1
abbrev pub judges : List ℕ → Question
judges xs = judges_in 1 xs

abbrev pub faults : List ℕ → Question
faults xs = faults_in 1 xs

abbrev pub profiles : Profile → List ℕ → Question
profiles p xs = profiles_in p 1 xs

abbrev pub breaches : Profile → List ℕ → Question
breaches p xs = breaches_in p 1 xs

abbrev pub extends : List ℕ → List ℕ → Question
extends xs ys = extends_in 1 xs 1 ys

abbrev pub signal_entries : List ℕ → ℕ → Question
signal_entries xs k = signal_entries_in 1 xs k

abbrev pub route_entries : List ℕ → ℕ → Question
route_entries xs r = route_entries_in 1 xs r

abbrev pub finds : List ℕ → ℕ → ℕ → Question
finds xs type start = finds_in 1 xs type start

abbrev pub pairs : List ℕ → List ℕ → ℕ → Question
pairs xs ys from = pairs_in 1 xs 1 ys from

abbrev pub changes : List ℕ → List ℕ → ℕ → Question
changes xs ys from = signal_changes_in 1 xs 1 ys from

abbrev pub reroutes : List ℕ → List ℕ → ℕ → Question
reroutes xs ys from = route_changes_in 1 xs 1 ys from

abbrev pub gains : List ℕ → List ℕ → ℕ → ℕ → Question
gains xs ys key from = codes_gained_in 1 xs 1 ys key from

abbrev pub reads : List ℕ → List ℕ → ℕ → ℕ → ℕ → Question
reads xs store now v k = reads_in 1 xs store now v k

abbrev pub reads_all : List ℕ → List ℕ → ℕ → ℕ → ℕ → ℕ → Question
reads_all xs store now v values reasons = reads_all_in 1 xs store now v values reasons

abbrev pub reads_train : List ℕ → List ℕ → ℕ → ℕ → ℕ → ℕ → Question
reads_train xs store now last values reasons = reads_train_in 1 xs store now last values reasons

abbrev pub relays : List ℕ → List ℕ → ℕ → ℕ → List ℕ → List ℕ → Question
relays xs store now v out at = relays_in 1 xs store now v out at

abbrev pub shows : List ℕ → List ℕ → ℕ → ℕ → ℕ → Kind → Question
shows xs store now v k kind = shows_in 1 xs store now v k kind

abbrev pub marshals : List ℕ → List ℕ → ℕ → List ℕ → Question
marshals xs store now bus = marshals_in 1 xs store now bus

abbrev pub composes : List ℕ → ℕ → List ℕ → List ℕ → List ℕ → List ℕ → Question
composes xs type values marks out at = composes_in 1 xs type values marks out at

-- ---- Answers as numbers

-- 0 and what is given, or the refusal's number and what it carries
abbrev pub gave : List ℕ → List ℕ
gave xs = 0 ∷ xs

abbrev pub refuses : ℕ → ℕ → List ℕ
refuses n at = n ∷ at ∷ []

abbrev pub said : {A : Type 0} → (A → List ℕ) → Answer A → List ℕ
said f (gives a) = gave (f a)
said f (refused n at) = refuses n at

-- of two lists: also which one was refused
abbrev pub said_of_two : {A : Type 0} → (A → List ℕ) → OfTwo A → List ℕ
said_of_two f (of_both a) = gave (f a)
said_of_two f (first_refused n at) = refuses n at ++ (1 ∷ [])
said_of_two f (second_refused n at) = refuses n at ++ (2 ∷ [])

abbrev pub yes_no_lem : Bool → ℕ
yes_no_lem b = cond b 1 0

-- 1 and what was found, or 0
abbrev pub of_sought : {A : Type 0} → (A → List ℕ) → Sought A → List ℕ
of_sought f (found a) = 1 ∷ f a
of_sought f nothing = 0 ∷ []

abbrev pub of_counts : Counts → List ℕ
of_counts n = n.checks ∷ n.signals ∷ n.codes ∷ n.routes ∷ n.version ∷ []

-- section, number, rule; signal, type, start, width; offset
abbrev pub of_fault : Fault → List ℕ
of_fault f = f.section ∷ f.index ∷ f.rule ∷ f.signal ∷ f.type ∷ f.start ∷ f.width ∷ f.at ∷ []

-- a signal's entry by its octets, then the place of its check
abbrev pub of_entry : Entry → List ℕ
of_entry e = signal_octets e.signal ++ (e.place ∷ [])

abbrev pub of_pair : Pair → List ℕ
of_pair p = p.key ∷ p.first ∷ p.second ∷ []

abbrev pub of_changed : Changed → List ℕ
of_changed c = c.key ∷ c.first ∷ c.second ∷ c.breaks ∷ []

abbrev pub of_range : Range → List ℕ
of_range r = r.low ∷ r.high ∷ []

abbrev pub of_held : Held → List ℕ
of_held h = yes_no_lem h.heard ∷ yes_no_lem h.expired ∷ h.type ∷ h.version ∷ h.age ∷ []

abbrev pub of_reading : Reading → List ℕ
of_reading r = r.value ∷ r.reason ∷ []

-- which case, and the code or the bits of the f32
abbrev pub of_shown : Shown → List ℕ
of_shown (as_code n) = 0 ∷ n ∷ []
of_shown (as_speed x) = 1 ∷ to_bits binary32 x ∷ []
of_shown (as_percentage x) = 2 ∷ to_bits binary32 x ∷ []
of_shown (as_current x) = 3 ∷ to_bits binary32 x ∷ []

-- and the reason
abbrev pub of_shown_reading : ShownReading → List ℕ
of_shown_reading s = of_shown s.shown ++ (s.reason ∷ [])

abbrev pub of_members : Members → List ℕ
of_members m = m.set ∷ m.size ∷ []

abbrev pub of_e_read : EReading → List ℕ
of_e_read r = r.code ∷ yes_no_lem r.report ∷ r.status ∷ []

-- a vehicle's marks with the weights of a mark octet: 1 leading, 2 coach, 4 tractive, 8 led, 16 sleeping
abbrev pub of_vehicle : Vehicle → ℕ
of_vehicle v = yes_no_lem v.leading + 2 * yes_no_lem v.coach + 4 * yes_no_lem v.tractive + 8 * yes_no_lem v.led + 16 * yes_no_lem v.sleeping

-- row, level (0 gateway, 1 vehicle), octet, bit; whether it holds
abbrev pub of_level : Level → ℕ
of_level E1.gateway = 0
of_level E1.vehicle = 1

abbrev pub of_row : Row → List ℕ
of_row h = h.property.row ∷ of_level h.property.level ∷ h.property.octet ∷ h.property.bit ∷ yes_no_lem h.holds ∷ []

-- state (0 locked, 1 open, 2 not known), the set that kept it from locked and its size
abbrev pub of_state : State → ℕ
of_state locked = 0
of_state opened = 1
of_state unknown = 2

abbrev pub of_side : Side → List ℕ
of_side s = of_state s.state ∷ of_members s.kept

abbrev pub of_doors : Doors → List ℕ
of_doors d = of_side d.left ++ of_side d.right

-- 0 right; 1, the wrong bit, and 1 with its route and our reason, or 0 for outside
abbrev pub of_place : Place → List ℕ
of_place (in_route r reason) = 1 ∷ r ∷ reason ∷ []
of_place outside = 0 ∷ []

abbrev pub of_finding : Finding → List ℕ
of_finding right = 0 ∷ []
of_finding (wrong a p) = 1 ∷ a ∷ of_place p

-- 0 and how many steps; 1 and the step that is named, with what is said of it
abbrev pub of_verdict : Verdict → List ℕ
of_verdict (accepted k) = gave (0 ∷ k ∷ [])
of_verdict (unlisted n at) = refuses n at
of_verdict (named k x) = gave (1 ∷ k ∷ said of_finding x)

abbrev pub of_remedies : Remedies → List ℕ
of_remedies m = m.language ∷ m.ordered ∷ m.count ∷ []

abbrev pub of_remedy : Remedy → List ℕ
of_remedy b = b.key ∷ b.at ∷ b.size ∷ []

-- these elements of a lent area
abbrev pub seen : List ℕ → List ℕ → List ℕ
seen at xs = map (λ i. get_or xs i 0) at

-- of a call that writes: what it answers, then the lent area afterwards, all of it or the elements that are looked at
abbrev pub wrote : List ℕ → Answer (List ℕ) → List ℕ → List ℕ
wrote old a at = said (λ new. []) a ++ seen at (after old a)

abbrev pub wrote_all : List ℕ → Answer (List ℕ) → List ℕ
wrote_all old a = said (λ new. []) a ++ after old a

-- values, then reasons, which both were EE
abbrev pub wrote_both : ℕ → ℕ → Answer Readings → List ℕ
wrote_both values reasons a =
    said (λ r. []) a ++ after (replicate values 0xEE) (map_answer (λ r. r.values) a) ++ after (replicate reasons 0xEE) (map_answer (λ r. r.reasons) a)

-- the length written, then the output
abbrev pub wrote_remedies : List ℕ → Answer WrittenRemedies → List ℕ
wrote_remedies out a = said (λ w. w.size ∷ []) a ++ after out (map_answer (λ w. w.octets) a)

-- blocks handed in with octets 1-6 from 1 to 6, octets 9-20 all 7, and the language "de"
abbrev pub handed : ℕ → Blocks → Handed
handed ordered blocks =
    record { head = 1 ∷ 2 ∷ 3 ∷ 4 ∷ 5 ∷ 6 ∷ []; carried = replicate 12 7; language = 0x6465; ordered = ordered; blocks = blocks }

unfoldable pub ask : Question → List ℕ
ask (judges_in form xs) = said of_counts (judge form xs)
ask (faults_in form xs) = gave (of_sought of_fault (fault_of form xs))
ask (profiles_in p form xs) = said of_counts (profiling p form xs)
ask (breaches_in p form xs) = gave (of_sought of_fault (breach_of p form xs))
ask (extends_in form xs form' ys) = said_of_two (λ b. yes_no_lem b ∷ []) (extends_lists form xs form' ys)
ask (signal_entries_in form xs k) = said of_entry (entry_of form xs k)
ask (route_entries_in form xs r) = said (of_sought route_octets) (route_entry form xs r)
ask (finds_in form xs type start) = said (λ k. k ∷ []) (finding form xs type start)
ask (serials_in form xs k) = said (λ s. s ∷ []) (serial_of form xs k)
ask (moves_to2 xs out) = wrote_all out (to_form2 xs (length out))
ask (moves_to1 xs out) = wrote_all out (to_form1 xs (length out))
ask (pairs_in form xs form' ys from) = said_of_two (of_sought of_pair) (pairing form xs form' ys from)
ask (signal_changes_in form xs form' ys from) = said_of_two (of_sought of_changed) (signal_changes form xs form' ys from)
ask (route_changes_in form xs form' ys from) = said_of_two (of_sought of_changed) (route_changes form xs form' ys from)
ask (codes_gained_in form xs form' ys key from) = said_of_two (of_sought of_range) (codes_gained form xs form' ys key from)
ask (places b) = said (λ p. p ∷ []) (check_place b)
ask (takes store v now telegram at) = wrote store (taking store v now telegram) at
ask (gaps store v) = said (λ n. n ∷ []) (gapping store v)
ask (sweeps store now at) = wrote store (sweeping store now) at
ask (holds store now v) = said of_held (holding store now v)
ask (reads_in form xs store now v k) = said of_reading (reading form xs store now v k)
ask (reads_all_in form xs store now v values reasons) = wrote_both values reasons (readings form xs store now v values reasons)
ask (reads_train_in form xs store now last values reasons) = wrote_both values reasons (train_readings form xs store now last values reasons)
ask (marshals_in form xs store now bus) =
    let a = marshalling form xs store now bus in
    said (λ m. m.lives ∷ []) a ++ after bus (map_answer (λ m. m.octets) a)
ask (composes_in form xs type values marks out at) = wrote out (composing form xs type values marks (length out)) at
ask (relays_in form xs store now v out at) = wrote out (relaying form xs store now v (length out)) at
ask (shows_in form xs store now v k kind) = said of_shown_reading (showing form xs store now v k kind)
ask (resolves train a) = said of_members (resolving train a)
ask (christens area pairs) = said (map of_vehicle) (christening area pairs)
ask (asks_row octets row) = gave (of_sought of_row (property_of octets row))
ask (asks_doors xs store now train a) = said of_doors (doors 1 xs store now train a)
ask (checks_step xs k last s) = said of_finding (checking 1 xs k last s)
ask (checks_all xs ss) = of_verdict (recording 1 xs ss)
ask (e_reads telegram) = said of_e_read (e_reading telegram)
ask (e_answers telegram head status out) = wrote_all out (answering telegram head status out)
ask (remedy_reads telegram) = said of_remedies (remedy_reading telegram)
ask (remedy_blocks telegram k) = said (of_sought of_remedy) (remedy_block telegram k) ++ remedy_text telegram k
ask (remedy_writes ordered keys lengths area out) = wrote_remedies out (remedy_writing (handed ordered (area_blocks keys lengths area)) out)
ask (texts_writes ordered keys texts out) = wrote_remedies out (remedy_writing (handed ordered (blocks_of keys texts)) out)
