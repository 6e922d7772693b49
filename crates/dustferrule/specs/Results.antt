-- What crosses the boundary for each of the paper's answers: the refusal's number and what it carries, or 0 and the values.
use Rattle.std.specs.Prelude.{ℕ, ◌/◌, ◌%◌, ◌≡◌, Bool, true, false, cond, List, map, length, eqb, Float}
use Rattle.std.specs.Float.{binary32}
use Rattle.std.specs.Float.Ieee.{of_bits}
use Rattle.paper.specs.Answer.{Answer, gives, refused, after, forget, map_answer, Sought, found, nothing}
use Rattle.paper.specs.SignalList.{Counts, OfTwo, of_both, first_refused, second_refused}
use Rattle.paper.specs.Profiles.{Profile, plain_coach, driving_trailer}
use Rattle.paper.specs.Pairs.{Entry}
use Rattle.paper.specs.Comparing.{Changed, Range}
use Rattle.paper.specs.Reading.{Reading}
use Rattle.paper.specs.Readings.{Readings}
use Rattle.paper.specs.Marshalling.{Marshalled}
use Rattle.paper.specs.Shown.{Kind, code, speed, percentage, signed_percentage, current, Shown, as_code, as_speed, as_percentage, as_current, ShownReading}
use Rattle.paper.specs.Octets.{over}
use Rattle.paper.specs.Train.{Vehicle, Members}
use Rattle.train.specs.Marks.{octet_of}
use Rattle.paper.specs.Christening.{Level, gateway, vehicle, Held}
use Rattle.paper.specs.Doors.{State, locked, opened, unknown, Doors}
use Rattle.paper.specs.Recordings.{Place, in_route, outside, Finding, right, wrong}
use Rattle.paper.specs.ETelegrams.{EReading}
use Rattle.paper.specs.Remedies.{Remedies, Remedy, WrittenRemedies}
use Rattle.dustferrule.specs.declared.DfOutcome.{DfOutcome}
use Rattle.dustferrule.specs.declared.DfJudged.{DfJudged}
use Rattle.dustferrule.specs.declared.DfExtending.{DfExtending}
use Rattle.dustferrule.specs.declared.DfChange.{DfChange}
use Rattle.dustferrule.specs.declared.DfRange.{DfRange}
use Rattle.dustferrule.specs.declared.DfEntry.{DfEntry}
use Rattle.dustferrule.specs.declared.DfFound.{DfFound}
use Rattle.dustferrule.specs.declared.DfSerial.{DfSerial}
use Rattle.dustferrule.specs.declared.DfGap.{DfGap}
use Rattle.dustferrule.specs.declared.DfMarshalled.{DfMarshalled}
use Rattle.dustferrule.specs.declared.DfPlace.{DfPlace}
use Rattle.dustferrule.specs.declared.DfReading.{DfReading}
use Rattle.dustferrule.specs.declared.DfShown.{DfShown}
use Rattle.dustferrule.specs.declared.DfMembers.{DfMembers}
use Rattle.dustferrule.specs.declared.DfProperty.{DfProperty}
use Rattle.dustferrule.specs.declared.DfChristened.{DfChristened}
use Rattle.dustferrule.specs.declared.DfDoors.{DfDoors}
use Rattle.dustferrule.specs.declared.DfChecked.{DfChecked}
use Rattle.dustferrule.specs.declared.DfERead.{DfERead}
use Rattle.dustferrule.specs.declared.DfRemedies.{DfRemedies}
use Rattle.dustferrule.specs.declared.DfRemedy.{DfRemedy}
use Rattle.dustferrule.specs.declared.DfWrote.{DfWrote}

abbrev pub yes_no : Bool → ℕ
yes_no true = 1
yes_no false = 0

abbrev pub outcome_c : Answer (Unit {0}) → DfOutcome
outcome_c (gives a) = record { refusal = 0; carried = 0 }
outcome_c (refused n at) = record { refusal = n; carried = at }

abbrev pub judged_c : Answer Counts → DfJudged
judged_c (gives n) =
    record { refusal = 0; carried = 0; checks = n.checks; signals = n.signals; codes = n.codes; routes = n.routes; version = n.version }
judged_c (refused n at) = record { refusal = n; carried = at; checks = 0; signals = 0; codes = 0; routes = 0; version = 0 }

-- C-19, the profiles by number: 2 the driving trailers', every other number the plain coaches', which allow less
abbrev pub profile_numbered : ℕ → Profile
profile_numbered n = cond (eqb n 2) driving_trailer plain_coach

abbrev pub extending_c : OfTwo Bool → DfExtending
extending_c (of_both b) = record { refusal = 0; which = 0; carried = 0; extends = yes_no b }
extending_c (first_refused n at) = record { refusal = n; which = 1; carried = at; extends = 0 }
extending_c (second_refused n at) = record { refusal = n; which = 2; carried = at; extends = 0 }

-- C-17: a difference, or that there is none more; of a refused list which it is
abbrev pub change_refused : ℕ → ℕ → ℕ → DfChange
change_refused n which at = record { refusal = n; which = which; carried = at; found = 0; breaks = 0; key = 0; first = 0; second = 0 }

abbrev pub change_c : OfTwo (Sought Changed) → DfChange
change_c (of_both (found c)) =
    record { refusal = 0; which = 0; carried = 0; found = 1; breaks = c.breaks; key = c.key; first = c.first; second = c.second }
change_c (of_both nothing) = record { refusal = 0; which = 0; carried = 0; found = 0; breaks = 0; key = 0; first = 0; second = 0 }
change_c (first_refused n at) = change_refused n 1 at
change_c (second_refused n at) = change_refused n 2 at

abbrev pub range_refused : ℕ → ℕ → ℕ → DfRange
range_refused n which at = record { refusal = n; which = which; carried = at; found = 0; low = 0; high = 0 }

abbrev pub range_c : OfTwo (Sought Range) → DfRange
range_c (of_both (found r)) = record { refusal = 0; which = 0; carried = 0; found = 1; low = r.low; high = r.high }
range_c (of_both nothing) = record { refusal = 0; which = 0; carried = 0; found = 0; low = 0; high = 0 }
range_c (first_refused n at) = range_refused n 1 at
range_c (second_refused n at) = range_refused n 2 at

-- the paper's type is the code's kind
abbrev pub entry_c : Answer Entry → DfEntry
entry_c (gives e) = record {
  refusal = 0;
  carried = 0;
  start = e.signal.start;
  width = e.signal.width;
  kind = e.signal.type;
  check = e.signal.check;
  since = e.signal.since;
  limit = e.signal.limit;
  replacement = e.signal.replacement;
  place = e.place;
}
entry_c (refused n at) =
    record { refusal = n; carried = at; start = 0; width = 0; kind = 0; check = 0; since = 0; limit = 0; replacement = 0; place = 0 }

abbrev pub serial_c : Answer ℕ → DfSerial
serial_c (gives v) = record { refusal = 0; carried = 0; serial = v }
serial_c (refused n at) = record { refusal = n; carried = at; serial = 0 }

abbrev pub found_c : Answer ℕ → DfFound
found_c (gives k) = record { refusal = 0; carried = 0; signal = k }
found_c (refused n at) = record { refusal = n; carried = at; signal = 0 }

abbrev pub gap_c : Answer ℕ → DfGap
gap_c (gives n) = record { refusal = 0; gap = n }
gap_c (refused n at) = record { refusal = n; gap = 0 }

abbrev pub lives_c : Answer ℕ → DfMarshalled
lives_c (gives n) = record { refusal = 0; carried = 0; lives = n }
lives_c (refused n at) = record { refusal = n; carried = at; lives = 0 }

abbrev pub place_c : Answer ℕ → DfPlace
place_c (gives place) = record { refusal = 0; place = place }
place_c (refused n at) = record { refusal = n; place = 0 }

abbrev pub reading_c : Answer Reading → DfReading
reading_c (gives r) = record { refusal = 0; reason = r.reason; carried = 0; value = r.value }
reading_c (refused n at) = record { refusal = n; reason = 0; carried = at; value = 0 }

-- C-23, the kinds by number: 1 speed, 2 percentage, 3 two's complement, 4 current; every other number shows the code
abbrev pub kind_numbered : ℕ → Kind
kind_numbered n = cond (eqb n 1) speed (cond (eqb n 2) percentage (cond (eqb n 3) signed_percentage (cond (eqb n 4) current code)))

-- the whole number of a code; a scaled reading has none
abbrev pub code_of : Shown → ℕ
code_of (as_code c) = c
code_of (as_speed x) = 0
code_of (as_percentage x) = 0
code_of (as_current x) = 0

-- 0 a code, 1 km/h, 2 %, 3 A
abbrev pub unit_of : Shown → ℕ
unit_of (as_code c) = 0
unit_of (as_speed x) = 1
unit_of (as_percentage x) = 2
unit_of (as_current x) = 3

-- the f32 of a scaled reading; a code has none
abbrev pub float_of : Shown → Float
float_of (as_code c) = of_bits binary32 0
float_of (as_speed x) = x
float_of (as_percentage x) = x
float_of (as_current x) = x

abbrev pub shown_c : Answer ShownReading → DfShown
shown_c (gives s) =
    record { refusal = 0; reason = s.reason; carried = 0; code = code_of s.shown; unit = unit_of s.shown; value = float_of s.shown }
shown_c (refused n at) = record { refusal = n; reason = 0; carried = at; code = 0; unit = 0; value = of_bits binary32 0 }

abbrev pub members_c : Answer Members → DfMembers
members_c (gives m) = record { refusal = 0; size = m.size; set = m.set }
members_c (refused n at) = record { refusal = n; size = 0; set = 0 }

abbrev pub level_c : Level → ℕ
level_c gateway = 0
level_c vehicle = 1

abbrev pub property_c : Sought Held → DfProperty
property_c (found h) =
    record { found = 1; level = level_c h.property.level; octet = h.property.octet; bit = h.property.bit; holds = yes_no h.holds }
property_c nothing = record { found = 0; level = 0; octet = 0; bit = 0; holds = 0 }

abbrev pub christened_c : Answer ℕ → DfChristened
christened_c (gives n) = record { refusal = 0; vehicles = n }
christened_c (refused n at) = record { refusal = n; vehicles = 0 }

-- 0 is what a refusal leaves in every field, so it is never locked.
abbrev pub state_c : State → ℕ
state_c unknown = 0
state_c locked = 1
state_c opened = 2

abbrev pub doors_c : Answer Doors → DfDoors
doors_c (gives d) =
    record {
      refusal = 0;
      left = state_c d.left.state;
      carried = 0;
      left_set = d.left.kept.set;
      left_size = d.left.kept.size;
      right = state_c d.right.state;
      right_set = d.right.kept.set;
      right_size = d.right.kept.size;
    }
doors_c (refused n at) =
    record { refusal = n; left = 0; carried = at; left_set = 0; left_size = 0; right = 0; right_set = 0; right_size = 0 }

-- a place: whether in a route, the route, its reason
abbrev pub routed_c : Place → ℕ
routed_c (in_route r reason) = 1
routed_c outside = 0

abbrev pub route_c : Place → ℕ
route_c (in_route r reason) = r
route_c outside = 0

abbrev pub reason_c : Place → ℕ
reason_c (in_route r reason) = reason
reason_c outside = 0

-- the wrong bit by its octet, from 0, and its place in it
abbrev pub checked_c : Answer Finding → DfChecked
checked_c (gives right) = record { refusal = 0; right = 1; carried = 0; octet = 0; bit = 0; in_route = 0; route = 0; reason = 0 }
checked_c (gives (wrong a p)) =
    record {
      refusal = 0;
      right = 0;
      carried = 0;
      octet = a / 8;
      bit = a % 8;
      in_route = routed_c p;
      route = route_c p;
      reason = reason_c p;
    }
checked_c (refused n at) = record { refusal = n; right = 0; carried = at; octet = 0; bit = 0; in_route = 0; route = 0; reason = 0 }

abbrev pub e_read_c : Answer EReading → DfERead
e_read_c (gives r) = record { refusal = 0; code = r.code; report = yes_no r.report; status = r.status }
e_read_c (refused n at) = record { refusal = n; code = 0; report = 0; status = 0 }

abbrev pub remedies_c : Answer Remedies → DfRemedies
remedies_c (gives m) = record { refusal = 0; language = m.language; ordered = m.ordered; count = m.count }
remedies_c (refused n at) = record { refusal = n; language = 0; ordered = 0; count = 0 }

abbrev pub remedy_c : Answer (Sought Remedy) → DfRemedy
remedy_c (gives (found b)) = record { refusal = 0; found = 1; key = b.key; at = b.at; size = b.size }
remedy_c (gives nothing) = record { refusal = 0; found = 0; key = 0; at = 0; size = 0 }
remedy_c (refused n at) = record { refusal = n; found = 0; key = 0; at = 0; size = 0 }

abbrev pub wrote_c : Answer ℕ → DfWrote
wrote_c (gives n) = record { refusal = 0; size = n }
wrote_c (refused n at) = record { refusal = n; size = 0 }

-- a call that writes: its result, and the lent octets afterwards
pub record WrittenC (answer : Answer (List ℕ)) (old : List ℕ) (r : DfOutcome) (new : List ℕ) : Type 0 where
  pub result : r ≡ outcome_c (forget answer)
  pub octets : new ≡ after old answer

-- one that writes values and reasons
pub record ReadIntoC (answer : Answer Readings) (values reasons : List ℕ) (r : DfOutcome) (values' reasons' : List ℕ) : Type 0 where
  pub result : r ≡ outcome_c (forget answer)
  pub value : values' ≡ after values (map_answer (λ x. x.values) answer)
  pub reason : reasons' ≡ after reasons (map_answer (λ x. x.reasons) answer)

pub record DeliveredC (answer : Answer Marshalled) (old : List ℕ) (r : DfMarshalled) (new : List ℕ) : Type 0 where
  pub result : r ≡ lives_c (map_answer (λ m. m.lives) answer)
  pub octets : new ≡ after old (map_answer (λ m. m.octets) answer)

pub record WroteC (answer : Answer WrittenRemedies) (old : List ℕ) (r : DfWrote) (new : List ℕ) : Type 0 where
  pub result : r ≡ wrote_c (map_answer (λ w. w.size) answer)
  pub octets : new ≡ after old (map_answer (λ w. w.octets) answer)

pub record ChristenedC (answer : Answer (List Vehicle)) (old : List ℕ) (r : DfChristened) (new : List ℕ) : Type 0 where
  pub result : r ≡ christened_c (map_answer length answer)
  pub octets : new ≡ after old (map_answer (λ train. over old 0 (map octet_of train)) answer)
