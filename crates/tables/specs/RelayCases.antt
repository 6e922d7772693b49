-- C-24 by cases: what a last reader is given behind a gateway in the middle, and what becomes of it where a premise is left out.
use Rattle.std.specs.Prelude.{ℕ, zero, suc, ◌<◌, ◌≡◌, refl, true, List, [], ◌∷◌, map, replicate}
use Rattle.std.proofs.Common.{arith, lit<}
use Rattle.paper.specs.Octets.{bit, field, with_bit, set_bit, put, puts, number, octets_of, over}
use Rattle.paper.specs.Answer.{Answer, gives, refused, refuse_if, and_then, after}
use Rattle.paper.specs.First.{first_from, first_bad, all, some, greatest, listed}
use Rattle.paper.specs.Telegrams.{application_type, telegram_type, version_of, error, ok, forced, undefined}
use Rattle.paper.specs.SignalList
use Rattle.paper.specs.SignalList.{Counts, judge_to, list_of, has_codes, in_range, known_in, knows, place_of, version}
use Rattle.paper.specs.Extends.{codes_kept, keeps, stands, newer, extends}
use Rattle.paper.specs.Store.{slot_of, taken, taking, age, in_time, stale, swept_one, swept_to, sweeping}
use Rattle.paper.specs.Reading.{Reading, heard, mark_of, code_of, hindrances, reason_of, reading_of, reading_at, reading}
use Rattle.paper.specs.Composing.{headed, composed, mark_fits, value_fits, composing}
use Rattle.paper.specs.Demands.{Step, offer, sweep, run, NoneLater, NoneExpired}
use Rattle.paper.specs.Relaying.{Requested, relay_type, read_live, under, all_live, vouched, relay_mark, relay_value, relaying}
use Rattle.paper.specs.Bench.{silent}
use Rattle.tables.specs.Cases.{joined, made, signal, code}

-- ---- The trip of a telegram

-- composed as an R3 under one list, taken in the middle at 0 and relayed there under another, taken by the last reader at 0 and read under a third
pub record Trip : Type 0 where
  pub composer : List ℕ
  pub inner : List ℕ
  pub outer : List ℕ
  pub values : List ℕ
  pub mark : ℕ
  -- what happens in the middle after the taking, and the clock at which it relays
  pub meanwhile : List Step
  pub now : ℕ
  -- what happens at the last reader after the taking, the clock at which it reads, and the signal
  pub later : List Step
  pub at_clock : ℕ
  pub k : ℕ

-- the store of a gateway that takes this telegram from vehicle 1 at 0, and what happens then
abbrev store_of : List ℕ → List Step → List ℕ
store_of telegram steps = run (after silent (taking silent 1 0 telegram)) steps

unfoldable pub relayed_on : Trip → Answer (List ℕ)
relayed_on t =
    and_then (composing 1 t.composer 3 t.values (t.mark ∷ []) 40)
    (λ first. relaying 1 t.inner (store_of first t.meanwhile) t.now 1 40)

unfoldable pub arrives : Trip → Answer Reading
arrives t = and_then (relayed_on t) (λ second. reading 1 t.outer (store_of second t.later) t.at_clock 1 t.k)

-- ---- Lists

-- one check, at 16; a common signal of 4 bits at 24, with this check, limit and replacement, that knows the codes 0 to `high`
abbrev one : ℕ → ℕ → ℕ → ℕ → List ℕ
one check limit replacement high = made (16 ∷ []) (signal 24 4 0 check 1 limit replacement ∷ []) (code 0 0 high ∷ []) []

-- two such signals, at 24 and 28, of which the second has this since-version
abbrev two : ℕ → ℕ → ℕ → List ℕ
two since replacement high =
    made (16 ∷ []) (signal 24 4 0 1 1 0 replacement ∷ signal 28 4 0 1 since 0 replacement ∷ []) (code 0 0 high ∷ code 1 0 high ∷ []) []

-- a common signal and one of R1, which no R3 carries
abbrev with_r1 : List ℕ
with_r1 = made (16 ∷ []) (signal 24 4 0 1 1 0 2 ∷ signal 400 4 1 0 2 0 3 ∷ []) (code 0 0 9 ∷ []) []

-- a field of 8 bits where the others have 4
abbrev wide : List ℕ
wide = made (16 ∷ []) (signal 24 8 0 1 1 0 2 ∷ []) [] []

-- A: the replacement is 1, and codes from 6 on are not known. C extends it: its replacement is 2, and it knows the codes to 9
abbrev A : List ℕ
A = one 1 0 1 5

abbrev C : List ℕ
C = one 1 0 2 9

abbrev timed : List ℕ → List ℕ → List ℕ → List ℕ → ℕ → List Step → ℕ → List Step → ℕ → ℕ → Trip
timed d a c values mark meanwhile now later at_clock k =
    record { composer = d; inner = a; outer = c; values = values; mark = mark; meanwhile = meanwhile; now = now; later = later; at_clock = at_clock; k = k }

-- composed and read under the second list; nothing else happens, and signal k is read
abbrev trip : List ℕ → List ℕ → List ℕ → ℕ → ℕ → Trip
trip a c values mark k = timed c a c values mark [] 0 [] 0 k

-- vehicle 1 sends another R3, version 1, mark ok, with the value 3
abbrev another : Step
another = offer 1 0 (0x13 ∷ 0x01 ∷ 0x40 ∷ 0x30 ∷ replicate 36 0)

-- ---- The table

pub record Row : Type 0 where
  pub trip_of : Trip
  pub given : Answer Reading

abbrev gets : Trip → ℕ → ℕ → Row
gets t value reason = record { trip_of = t; given = gives (record { value = value; reason = reason }) }

unfoldable pub table : List Row
table =
    -- the premises hold
    gets (trip A C (4 ∷ []) ok 0) 4 0
    ∷ gets (trip A C (4 ∷ []) forced 0) 4 1
    ∷ gets (trip A C (7 ∷ []) ok 0) 2 6  -- not known in the middle
    ∷ gets (trip A C (4 ∷ []) error 0) 2 6
    ∷ gets (trip A C (4 ∷ []) undefined 0) 2 6
    ∷ gets (trip (two 1 1 5) (two 1 2 9) (4 ∷ 3 ∷ []) ok 0) 4 0
    ∷ gets (trip (two 1 1 5) (two 1 2 9) (4 ∷ 7 ∷ []) ok 0) 2 6  -- the other signal under the check was not live there
    ∷ gets (trip A (two 2 2 9) (4 ∷ 3 ∷ []) ok 1) 2 5  -- only in C
    ∷ gets (trip A with_r1 (4 ∷ 3 ∷ []) ok 1) 3 4  -- only in C, and not carried
    -- past its limit in the middle, or expired there with one: error, so neither premise is needed there; without a limit it is read all the same
    ∷ gets (timed C (one 1 100 1 5) C (4 ∷ []) ok [] 101 [] 0 0) 2 6
    ∷ gets (timed C (one 1 100 1 5) C (4 ∷ []) ok (sweep 600001 ∷ []) 0 [] 0 0) 2 6
    ∷ gets (timed C A C (4 ∷ []) ok (sweep 600001 ∷ []) 600001 [] 0 0) 4 0
    -- without "every signal of A has a check": the middle's own replacement comes as live, where 7 was written
    ∷ gets (trip (one 0 0 1 5) (one 0 0 2 9) (7 ∷ []) ok 0) 1 0
    -- without "every replacement in A is a code known to A": composing in the middle is refused
    ∷ record { trip_of = trip (one 1 0 8 5) C (7 ∷ []) ok 0; given = refused 15 0 }
    -- without "C extends A": of the value 71 the middle hands on the four bits that it has
    ∷ gets (trip A wide (71 ∷ []) ok 0) 64 0
    -- without "the first telegram was composed under C": so it does of what another list wrote
    ∷ gets (timed wide A C (71 ∷ []) ok [] 0 [] 0 0) 4 0
    -- with a later telegram, in the middle or at the last reader: that telegram's value
    ∷ gets (timed C A C (4 ∷ []) ok (another ∷ []) 0 [] 0 0) 3 0
    ∷ gets (timed C A C (4 ∷ []) ok [] 0 (another ∷ []) 0 0) 3 0
    -- past the last reader's limit, or expired there: too old
    ∷ gets (timed C A (one 1 100 2 9) (4 ∷ []) ok [] 0 [] 101 0) 2 3
    ∷ gets (timed C A (one 1 100 2 9) (4 ∷ []) ok [] 0 (sweep 600001 ∷ []) 0 0) 2 3
    ∷ []

-- the one computed test: every row's answer is the expected one
pub arrived : map (λ r. arrives r.trip_of) table ≡ map (λ r. r.given) table
unfolding table joined made relayed_on arrives run silent listed relay_type read_live under all_live vouched relay_mark relay_value relaying bit field with_bit set_bit put puts number octets_of over refuse_if first_from first_bad all some
    greatest application_type telegram_type version_of SignalList.check_at SignalList.signal_size SignalList.signal_at SignalList.among SignalList.code_at SignalList.route_at SignalList.check_rule SignalList.signal_rule_to
    SignalList.code_rule SignalList.route_rule SignalList.opening SignalList.judge_entries SignalList.judge_section SignalList.greatest_since SignalList.ending SignalList.from_routes SignalList.from_codes
    SignalList.from_signals_to judge_to version has_codes in_range known_in knows place_of slot_of taken taking age stale swept_one swept_to sweeping heard mark_of code_of hindrances reason_of reading_of reading_at reading headed composed mark_fits
    value_fits composing
arrived = refl

-- ---- The premises can be met: those of the first row

abbrev counts : Counts
counts = record { checks = 1; signals = 1; codes = 1; routes = 0; version = 1; size = 16 }

abbrev first_sent : List ℕ
first_sent = 0x13 ∷ 0x01 ∷ 0x40 ∷ 0x40 ∷ replicate 36 0

pub met : Requested 1 A counts 1 C counts 3 (4 ∷ []) (ok ∷ []) 1 0 0 (store_of first_sent [])
unfolding joined made run NoneLater NoneExpired silent bit field with_bit set_bit put puts number octets_of over refuse_if first_from first_bad all some greatest application_type telegram_type version_of
    SignalList.check_at SignalList.signal_size SignalList.signal_at SignalList.among SignalList.code_at SignalList.route_at SignalList.check_rule SignalList.signal_rule_to SignalList.code_rule SignalList.route_rule
    SignalList.opening SignalList.judge_entries SignalList.judge_section SignalList.greatest_since SignalList.ending SignalList.from_routes SignalList.from_codes SignalList.from_signals_to judge_to version has_codes in_range
    known_in knows place_of codes_kept keeps stands newer extends slot_of taken taking age headed composed mark_fits value_fits composing
met = record {
  middle = record {
    inner = refl;
    outer = refl;
    extending = refl;
    checked = only;
    room = 40;
    first = first_sent;
    sent = refl;
    last = record { before = silent; steps = []; clock = lit< tt; took = refl; later = tt; reached = refl };
  };
  known = known;
  unexpired = tt;
  within = in_time_lem;
}
  where
    only : (k : ℕ) → k < 1 → ((list_of A counts).signal k).check ≡ 0 → ⊥
    only zero lt z = omega arith
    only (suc k) lt z = omega arith

    known : (k : ℕ) → k < 1 → knows (list_of A counts) k ((list_of A counts).signal k).replacement ≡ true
    known zero lt = refl
    known (suc k) lt = absurd (omega arith)

    in_time_lem : (i : ℕ) → i < 1 → in_time (age 0 0) ((list_of A counts).signal i).limit ≡ true
    in_time_lem zero lt = refl
    in_time_lem (suc i) lt = absurd (omega arith)
