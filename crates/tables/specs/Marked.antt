-- Document 01, "Bench examples": the marked cases (a) to (l), a single table under a single proof. A row is the inputs and the expected
-- answer; the answers are those of the definitions that the public contracts cite.
use Rattle.std.specs.Prelude.{ℕ, ◌/◌, ◌%◌, ◌≡◌, refl, List, [], ◌∷◌, map, set, replicate}
use Rattle.std.specs.Float.{binary32}
use Rattle.std.specs.Float.Ieee.{of_bits, round}
use Rattle.paper.specs.Octets.{bit, field, with_bit, set_bit, put, puts, number, octets_of, over}
use Rattle.paper.specs.Answer.{Answer, gives, refuse_if, after}
use Rattle.paper.specs.First.{first_from, first_bad, all, some, count, greatest}
use Rattle.paper.specs.Telegrams.{application_type, telegram_type, version_of, ok}
use Rattle.paper.specs.SignalList
use Rattle.paper.specs.SignalList.{judge, judge_to, version, has_codes, in_range, known_in, knows, place_of}
use Rattle.paper.specs.Store.{slot_of, taken, taking, age}
use Rattle.paper.specs.Reading.{Reading, heard, mark_of, code_of, hindrances, reason_of, reading_of, reading_at, reading}
use Rattle.paper.specs.Marshalling.{Marshalled, routed, marshalled, live, marshalling}
use Rattle.paper.specs.Composing.{headed, composed, mark_fits, value_fits, composing}
use Rattle.paper.specs.Shown.{speed, Shown, as_speed, shown_as, ShownReading, showing}
use Rattle.paper.specs.Bench.{list_l, list_v, telegram, silent}

unfoldable pub heard_at : ℕ → ℕ → ℕ → List ℕ
heard_at o41 o54 stamp = after silent (taking silent 1 stamp (telegram o41 o54))

-- vehicle 1 sends R1, version 1, at 0, with a raw value in octets 51 and 52
unfoldable pub raw_at : ℕ → List ℕ
raw_at raw = after silent (taking silent 1 0 (set (set (0x11 ∷ 0x01 ∷ replicate 126 0) 50 (raw / 256)) 51 (raw % 256)))

-- what is asked
pub data Question : Type 0 where
  -- octets 41 and 54, stamp and now: signal 0 of vehicle 1 read under L
  reads : ℕ → ℕ → ℕ → ℕ → Question
  -- stamp and now: the age
  ages : ℕ → ℕ → Question
  -- octets 41 and 54, stamp and now, an octet of vehicle bus data: marshalled under L
  marshals : ℕ → ℕ → ℕ → ℕ → ℕ → Question
  -- an octet of vehicle bus data: marshalled under L, with vehicle 1 never heard
  unheard : ℕ → Question
  -- a raw value of width 16: shown as a speed, by the definition alone, and read out of a store (C-23)
  speeds shows : ℕ → Question

-- what is answered
pub data Response : Type 0 where
  reading_is : Answer Reading → Response
  age_is : ℕ → Response
  octets_are : Answer Marshalled → Response
  shown_is : Shown → Response
  shows_as : Answer ShownReading → Response

abbrev pub response : Question → Response
response (reads o41 o54 stamp now) = reading_is (reading 1 list_l (heard_at o41 o54 stamp) now 1 0)
response (ages stamp now) = age_is (age now stamp)
response (marshals o41 o54 stamp now before) = octets_are (marshalling 1 list_l (heard_at o41 o54 stamp) now (before ∷ []))
response (unheard before) = octets_are (marshalling 1 list_l silent 0 (before ∷ []))
response (speeds raw) = shown_is (shown_as speed raw)
response (shows raw) = shows_as (showing 1 (list_v 16 0) (raw_at raw) 5000 1 0 speed)

pub record Row : Type 0 where
  pub asked : Question
  pub expected : Response

abbrev pub row : Question → Response → Row
row q r = record { asked = q; expected = r }

-- the value and the reason; the octets and the live count; the f32 of these bits
abbrev pub valued : ℕ → ℕ → Response
valued value reason = reading_is (gives (record { value = value; reason = reason }))

abbrev pub filled : ℕ → ℕ → Response
filled octet lives = octets_are (gives (record { octets = octet ∷ []; lives = lives }))

abbrev pub kmh : ℕ → Response
kmh bits = shown_is (as_speed (of_bits binary32 bits))

abbrev pub kmh_read : ℕ → ℕ → Response
kmh_read bits reason = shows_as (gives (record { shown = as_speed (of_bits binary32 bits); reason = reason }))

unfoldable pub table : List Row
table =
    row (reads 0x10 0x40 0 5000) (valued 4 0)  -- (a)
    ∷ row (reads 0x10 0x40 0 5001) (valued 0 3)  -- (b)
    ∷ row (reads 0x20 0x40 0 5000) (valued 4 1)  -- (c)
    ∷ row (reads 0x00 0x40 0 5000) (valued 0 6)  -- (d)
    ∷ row (reads 0x30 0x40 0 5000) (valued 0 7)  -- (e)
    ∷ row (reads 0x10 0x70 0 5000) (valued 0 8)  -- (f)
    ∷ row (reads 0x10 0xF0 0 5000) (valued 15 0)  -- (g)
    ∷ row (ages 4294967000 4000) (age_is 4296)  -- (h)
    ∷ row (reads 0x10 0x40 1000 999) (valued 0 3)  -- (i)
    ∷ row (marshals 0x10 0x40 0 5000 0xAB) (filled 0x4B 1)  -- (j)
    ∷ row (unheard 0xAB) (filled 0x0B 0)  -- (k)
    ∷ row (speeds 16384) (kmh 0x43800000)  -- (l): 256.0
    ∷ row (shows 16384) (kmh_read 0x43800000 0)  -- (l), by a list and a store
    ∷ []

-- the one computed test: every row's answer is the expected one
pub marked : map (λ r. response r.asked) table ≡ map (λ r. r.expected) table
unfolding table telegram silent heard_at raw_at list_l list_v bit field with_bit set_bit put puts number octets_of over refuse_if first_from first_bad all some count greatest application_type telegram_type version_of SignalList.check_at SignalList.signal_size SignalList.signal_at SignalList.among SignalList.code_at SignalList.route_at SignalList.check_rule SignalList.signal_rule_to SignalList.code_rule SignalList.route_rule SignalList.opening SignalList.judge_entries SignalList.judge_section SignalList.greatest_since SignalList.ending SignalList.from_routes SignalList.from_codes SignalList.from_signals_to judge_to has_codes in_range known_in knows place_of slot_of taken taking age heard mark_of code_of hindrances reason_of reading_of reading_at reading routed marshalled live marshalling showing of_bits round
marked = refl

-- the other way: an R1 composed under L with the value 4 and the mark ok is the telegram of (a)
pub composed_a : composing 1 list_l 1 (4 ∷ []) (ok ∷ []) 128 ≡ gives (telegram 0x10 0x40)
unfolding telegram list_l with_bit set_bit put puts number refuse_if first_from first_bad all some greatest SignalList.check_at SignalList.signal_size SignalList.signal_at SignalList.among SignalList.code_at SignalList.route_at SignalList.check_rule SignalList.signal_rule_to SignalList.code_rule SignalList.route_rule SignalList.opening SignalList.judge_entries SignalList.judge_section SignalList.greatest_since SignalList.ending SignalList.from_routes SignalList.from_codes SignalList.from_signals_to judge_to has_codes in_range known_in knows version headed composed mark_fits value_fits composing
composed_a = refl
