-- At the boundary `refusal` is 0 exactly where the call was not refused, and where it is not 0 the lent octets are as they were. Assumes nothing.
use Prim.Native.Nat.{ℕ, ◌+◌, ◌*◌, ◌/◌, ◌%◌, ◌<◌}
use mathlib.Core.Path.{◌≡◌, refl, ap}
use mathlib.Core.Logic.{◌↔◌}
use mathlib.Core.Bool.{Bool, true, false, cond}
use mathlib.Core.List.{List}
use lib.ListN.{length}
use native.Mathlib.Omega.{arith}
use Rattle.paper.specs.Answer.{Answer, gives, refused, forget, map_answer, Given, Numbered, Sought, found, nothing}
use Rattle.paper.specs.Telegrams.{check_place}
use Rattle.paper.specs.SignalList.{Counts, judge, OfTwo, of_both, GivenTwo, NumberedTwo}
use Rattle.paper.specs.Profiles.{Profile, profiling}
use Rattle.paper.specs.Extends.{extends_lists}
use Rattle.paper.specs.Pairs.{Entry, entry_of, finding}
use Rattle.paper.specs.Comparing.{Changed, Range, signal_changes, route_changes, codes_gained}
use Rattle.paper.specs.Forms.{serial_of, to_form2, to_form1}
use Rattle.paper.specs.Store.{taking, gapping, sweeping}
use Rattle.paper.specs.Reading.{Reading, reading}
use Rattle.paper.specs.Readings.{Readings, readings, train_readings}
use Rattle.paper.specs.Marshalling.{Marshalled, marshalling}
use Rattle.paper.specs.Composing.{composing}
use Rattle.paper.specs.Relaying.{relaying}
use Rattle.paper.specs.Shown.{Kind, ShownReading, showing}
use Rattle.paper.specs.Train.{Vehicle, Members, resolving}
use Rattle.paper.specs.ETelegrams.{EReading, e_reading, answering}
use Rattle.paper.specs.Christening.{Pair, christening}
use Rattle.paper.specs.Doors.{Doors, doors}
use Rattle.paper.specs.Recordings.{Step, in_route, outside, Finding, right, wrong, checking}
use Rattle.paper.specs.Remedies.{Remedies, remedy_reading, Remedy, remedy_block, Handed, WrittenRemedies, remedy_writing}
use Rattle.paper.proofs.RefusalLaws as laws
use Rattle.dustferrule.specs.declared.DfOutcome.{DfOutcome}
use Rattle.dustferrule.specs.declared.DfMarshalled.{DfMarshalled}
use Rattle.dustferrule.specs.declared.DfChristened.{DfChristened}
use Rattle.dustferrule.specs.declared.DfChecked.{DfChecked}
use Rattle.dustferrule.specs.declared.DfWrote.{DfWrote}
use Rattle.dustferrule.specs.Results.{yes_no, outcome_c, judged_c, extending_c, change_c, range_c, entry_c, found_c, serial_c, gap_c, lives_c, place_c, reading_c, shown_c, members_c, e_read_c, remedies_c, christened_c, doors_c, checked_c, remedy_c, wrote_c, WrittenC, ReadIntoC, DeliveredC, ChristenedC, WroteC}

-- ---- each result, of any answer

pub outcome_given : (a : Answer (Unit {0})) → Numbered a → ((outcome_c a).refusal ≡ 0) ↔ Given a
outcome_given = laws.zero_given (λ a. (outcome_c a).refusal) (λ a. refl) (λ n at. refl)

pub judged_given : (a : Answer Counts) → Numbered a → ((judged_c a).refusal ≡ 0) ↔ Given a
judged_given = laws.zero_given (λ a. (judged_c a).refusal) (λ a. refl) (λ n at. refl)

pub extending_given : (a : OfTwo Bool) → NumberedTwo a → ((extending_c a).refusal ≡ 0) ↔ GivenTwo a
extending_given = laws.zero_given_two (λ a. (extending_c a).refusal) (λ a. refl) (λ n at. refl) (λ n at. refl)

change_zero : (a : Sought Changed) → (change_c (of_both a)).refusal ≡ 0
change_zero (found c) = refl
change_zero nothing = refl

pub change_given : (a : OfTwo (Sought Changed)) → NumberedTwo a → ((change_c a).refusal ≡ 0) ↔ GivenTwo a
change_given = laws.zero_given_two (λ a. (change_c a).refusal) change_zero (λ n at. refl) (λ n at. refl)

range_zero : (a : Sought Range) → (range_c (of_both a)).refusal ≡ 0
range_zero (found c) = refl
range_zero nothing = refl

pub range_given : (a : OfTwo (Sought Range)) → NumberedTwo a → ((range_c a).refusal ≡ 0) ↔ GivenTwo a
range_given = laws.zero_given_two (λ a. (range_c a).refusal) range_zero (λ n at. refl) (λ n at. refl)

pub entry_given : (a : Answer Entry) → Numbered a → ((entry_c a).refusal ≡ 0) ↔ Given a
entry_given = laws.zero_given (λ a. (entry_c a).refusal) (λ a. refl) (λ n at. refl)

pub found_given : (a : Answer ℕ) → Numbered a → ((found_c a).refusal ≡ 0) ↔ Given a
found_given = laws.zero_given (λ a. (found_c a).refusal) (λ a. refl) (λ n at. refl)

pub serial_c_given : (a : Answer ℕ) → Numbered a → ((serial_c a).refusal ≡ 0) ↔ Given a
serial_c_given = laws.zero_given (λ a. (serial_c a).refusal) (λ a. refl) (λ n at. refl)

pub gap_c_given : (a : Answer ℕ) → Numbered a → ((gap_c a).refusal ≡ 0) ↔ Given a
gap_c_given = laws.zero_given (λ a. (gap_c a).refusal) (λ a. refl) (λ n at. refl)

pub lives_given : (a : Answer ℕ) → Numbered a → ((lives_c a).refusal ≡ 0) ↔ Given a
lives_given = laws.zero_given (λ a. (lives_c a).refusal) (λ a. refl) (λ n at. refl)

pub place_given : (a : Answer ℕ) → Numbered a → ((place_c a).refusal ≡ 0) ↔ Given a
place_given = laws.zero_given (λ a. (place_c a).refusal) (λ a. refl) (λ n at. refl)

pub reading_given : (a : Answer Reading) → Numbered a → ((reading_c a).refusal ≡ 0) ↔ Given a
reading_given = laws.zero_given (λ a. (reading_c a).refusal) (λ a. refl) (λ n at. refl)

pub shown_given : (a : Answer ShownReading) → Numbered a → ((shown_c a).refusal ≡ 0) ↔ Given a
shown_given = laws.zero_given (λ a. (shown_c a).refusal) (λ a. refl) (λ n at. refl)

pub members_given : (a : Answer Members) → Numbered a → ((members_c a).refusal ≡ 0) ↔ Given a
members_given = laws.zero_given (λ a. (members_c a).refusal) (λ a. refl) (λ n at. refl)

pub summary_given : (a : Answer Doors) → Numbered a → ((doors_c a).refusal ≡ 0) ↔ Given a
summary_given = laws.zero_given (λ a. (doors_c a).refusal) (λ a. refl) (λ n at. refl)

pub finding_given : (a : Answer Finding) → Numbered a → ((checked_c a).refusal ≡ 0) ↔ Given a
finding_given = laws.zero_given (λ a. (checked_c a).refusal) answered (λ n at. refl)
  where
    answered : (f : Finding) → (checked_c (gives f)).refusal ≡ 0
    answered right = refl
    answered (wrong a p) = refl

pub e_reading_given : (a : Answer EReading) → Numbered a → ((e_read_c a).refusal ≡ 0) ↔ Given a
e_reading_given = laws.zero_given (λ a. (e_read_c a).refusal) (λ a. refl) (λ n at. refl)

pub remedies_given : (a : Answer Remedies) → Numbered a → ((remedies_c a).refusal ≡ 0) ↔ Given a
remedies_given = laws.zero_given (λ a. (remedies_c a).refusal) (λ a. refl) (λ n at. refl)

remedy_zero : (a : Sought Remedy) → (remedy_c (gives a)).refusal ≡ 0
remedy_zero (found b) = refl
remedy_zero nothing = refl

pub remedy_given : (a : Answer (Sought Remedy)) → Numbered a → ((remedy_c a).refusal ≡ 0) ↔ Given a
remedy_given = laws.zero_given (λ a. (remedy_c a).refusal) remedy_zero (λ n at. refl)

-- ---- a call that writes, of any answer: "changes no lent octet"

pub written_given : (a : Answer (List ℕ)) (old : List ℕ) (r : DfOutcome) (new : List ℕ) → WrittenC a old r new → Numbered a
    → (r.refusal ≡ 0) ↔ Given a
written_given a old r new w h = rw w.result (laws.zero_given (λ x. (outcome_c (forget x)).refusal) (λ x. refl) (λ n at. refl) a h)

pub written_kept : (a : Answer (List ℕ)) (old : List ℕ) (r : DfOutcome) (new : List ℕ) → WrittenC a old r new
    → (r.refusal ≡ 0 → ⊥) → new ≡ old
written_kept (gives x) old r new w h = absurd (h (ap (λ (o : DfOutcome). o.refusal) w.result))
written_kept (refused n at) old r new w h = w.octets

pub into_given : (a : Answer Readings) (values reasons : List ℕ) (r : DfOutcome) (values' reasons' : List ℕ) → ReadIntoC a values reasons r values' reasons' → Numbered a
    → (r.refusal ≡ 0) ↔ Given a
into_given a values reasons r values' reasons' w h =
    rw w.result (laws.zero_given (λ x. (outcome_c (forget x)).refusal) (λ x. refl) (λ n at. refl) a h)

pub into_kept : (a : Answer Readings) (values reasons : List ℕ) (r : DfOutcome) (values' reasons' : List ℕ) → ReadIntoC a values reasons r values' reasons'
    → (r.refusal ≡ 0 → ⊥) → (values' ≡ values) × (reasons' ≡ reasons)
into_kept (gives x) values reasons r values' reasons' w h = absurd (h (ap (λ (o : DfOutcome). o.refusal) w.result))
into_kept (refused n at) values reasons r values' reasons' w h = (w.value, w.reason)

pub delivered_given : (a : Answer Marshalled) (old : List ℕ) (r : DfMarshalled) (new : List ℕ) → DeliveredC a old r new → Numbered a
    → (r.refusal ≡ 0) ↔ Given a
delivered_given a old r new d h =
    rw d.result (laws.zero_given (λ x. (lives_c (map_answer (λ (m : Marshalled). m.lives) x)).refusal) (λ x. refl) (λ n at. refl) a h)

pub delivered_kept : (a : Answer Marshalled) (old : List ℕ) (r : DfMarshalled) (new : List ℕ) → DeliveredC a old r new
    → (r.refusal ≡ 0 → ⊥) → new ≡ old
delivered_kept (gives m) old r new d h = absurd (h (ap (λ (o : DfMarshalled). o.refusal) d.result))
delivered_kept (refused n at) old r new d h = d.octets

pub christened_given : (a : Answer (List Vehicle)) (old : List ℕ) (r : DfChristened) (new : List ℕ) → ChristenedC a old r new → Numbered a
    → (r.refusal ≡ 0) ↔ Given a
christened_given a old r new d h =
    rw d.result (laws.zero_given (λ x. (christened_c (map_answer (length {A = Vehicle}) x)).refusal) (λ x. refl) (λ n at. refl) a h)

pub christened_kept : (a : Answer (List Vehicle)) (old : List ℕ) (r : DfChristened) (new : List ℕ) → ChristenedC a old r new
    → (r.refusal ≡ 0 → ⊥) → new ≡ old
christened_kept (gives m) old r new d h = absurd (h (ap (λ (o : DfChristened). o.refusal) d.result))
christened_kept (refused n at) old r new d h = d.octets

pub wrote_given : (a : Answer WrittenRemedies) (old : List ℕ) (r : DfWrote) (new : List ℕ) → WroteC a old r new → Numbered a
    → (r.refusal ≡ 0) ↔ Given a
wrote_given a old r new d h =
    rw d.result (laws.zero_given (λ x. (wrote_c (map_answer (λ (m : WrittenRemedies). m.size) x)).refusal) (λ x. refl) (λ n at. refl) a h)

pub wrote_kept : (a : Answer WrittenRemedies) (old : List ℕ) (r : DfWrote) (new : List ℕ) → WroteC a old r new
    → (r.refusal ≡ 0 → ⊥) → new ≡ old
wrote_kept (gives m) old r new d h = absurd (h (ap (λ (o : DfWrote). o.refusal) d.result))
wrote_kept (refused n at) old r new d h = d.octets

-- ---- the calls

pub judge_given : (form : ℕ) (xs : List ℕ) → ((judged_c (judge form xs)).refusal ≡ 0) ↔ Given (judge form xs)
judge_given form xs = judged_given _ (laws.numbered_judge form xs)

pub judge_profile_given : (p : Profile) (form : ℕ) (xs : List ℕ) → ((judged_c (profiling p form xs)).refusal ≡ 0) ↔ Given (profiling p form xs)
judge_profile_given p form xs = judged_given _ (laws.numbered_profiling p form xs)

pub extends_given : (form : ℕ) (xs : List ℕ) (form' : ℕ) (ys : List ℕ) → ((extending_c (extends_lists form xs form' ys)).refusal ≡ 0) ↔ GivenTwo (extends_lists form xs form' ys)
extends_given form xs form' ys = extending_given _ (laws.numbered_extends form xs form' ys)

module _ (form : ℕ) (xs : List ℕ) (form' : ℕ) (ys : List ℕ) where
  pub signal_change_given : (from : ℕ) → ((change_c (signal_changes form xs form' ys from)).refusal ≡ 0) ↔ GivenTwo (signal_changes form xs form' ys from)
  signal_change_given from = change_given _ (laws.numbered_signal_changes form xs form' ys from)

  pub route_change_given : (from : ℕ) → ((change_c (route_changes form xs form' ys from)).refusal ≡ 0) ↔ GivenTwo (route_changes form xs form' ys from)
  route_change_given from = change_given _ (laws.numbered_route_changes form xs form' ys from)

  pub codes_gained_given : (key from : ℕ) → ((range_c (codes_gained form xs form' ys key from)).refusal ≡ 0) ↔ GivenTwo (codes_gained form xs form' ys key from)
  codes_gained_given key from = range_given _ (laws.numbered_codes_gained form xs form' ys key from)

pub signal_entry_given : (form : ℕ) (xs : List ℕ) (k : ℕ) → ((entry_c (entry_of form xs k)).refusal ≡ 0) ↔ Given (entry_of form xs k)
signal_entry_given form xs k = entry_given _ (laws.numbered_entry form xs k)

pub find_signal_given : (form : ℕ) (xs : List ℕ) (type start : ℕ) → ((found_c (finding form xs type start)).refusal ≡ 0) ↔ Given (finding form xs type start)
find_signal_given form xs type start = found_given _ (laws.numbered_finding form xs type start)

pub serial_given : (form : ℕ) (xs : List ℕ) (k : ℕ) → ((serial_c (serial_of form xs k)).refusal ≡ 0) ↔ Given (serial_of form xs k)
serial_given form xs k = serial_c_given _ (laws.numbered_serial form xs k)

module _ (xs out : List ℕ) (room : ℕ) (r : DfOutcome) (new : List ℕ) where
  pub to_form_2_given : WrittenC (to_form2 xs room) out r new → (r.refusal ≡ 0) ↔ Given (to_form2 xs room)
  to_form_2_given w = written_given _ out r new w (laws.numbered_to_form2 xs room)

  pub to_form_2_kept : WrittenC (to_form2 xs room) out r new → (r.refusal ≡ 0 → ⊥) → new ≡ out
  to_form_2_kept w = written_kept _ out r new w

  pub to_form_1_given : WrittenC (to_form1 xs room) out r new → (r.refusal ≡ 0) ↔ Given (to_form1 xs room)
  to_form_1_given w = written_given _ out r new w (laws.numbered_to_form1 xs room)

  pub to_form_1_kept : WrittenC (to_form1 xs room) out r new → (r.refusal ≡ 0 → ⊥) → new ≡ out
  to_form_1_kept w = written_kept _ out r new w

pub check_place_given : (b : ℕ) → ((place_c (check_place b)).refusal ≡ 0) ↔ Given (check_place b)
check_place_given b = place_given _ (laws.numbered_place b)

pub gap_given : (store : List ℕ) (v : ℕ) → ((gap_c (gapping store v)).refusal ≡ 0) ↔ Given (gapping store v)
gap_given store v = gap_c_given _ (laws.numbered_gapping store v)

pub read_given : (form : ℕ) (xs store : List ℕ) (now v k : ℕ) → ((reading_c (reading form xs store now v k)).refusal ≡ 0) ↔ Given (reading form xs store now v k)
read_given form xs store now v k = reading_given _ (laws.numbered_reading form xs store now v k)

pub show_given : (form : ℕ) (xs store : List ℕ) (now v k : ℕ) (kind : Kind)
    → ((shown_c (showing form xs store now v k kind)).refusal ≡ 0) ↔ Given (showing form xs store now v k kind)
show_given form xs store now v k kind = shown_given _ (laws.numbered_showing form xs store now v k kind)

pub resolve_given : (train : List Vehicle) (a : ℕ) → ((members_c (resolving train a)).refusal ≡ 0) ↔ Given (resolving train a)
resolve_given train a = members_given _ (laws.numbered_resolving train a)

pub doors_given : (form : ℕ) (xs store : List ℕ) (now : ℕ) (train : List Vehicle) (a : ℕ)
    → ((doors_c (doors form xs store now train a)).refusal ≡ 0) ↔ Given (doors form xs store now train a)
doors_given form xs store now train a = summary_given _ (laws.numbered_doors form xs store now train a)

pub check_step_given : (form : ℕ) (xs : List ℕ) (k : ℕ) (last : List ℕ) (s : Step)
    → ((checked_c (checking form xs k last s)).refusal ≡ 0) ↔ Given (checking form xs k last s)
check_step_given form xs k last s = finding_given _ (laws.numbered_recordings form xs k last s)

pub e_read_given : (telegram : List ℕ) → ((e_read_c (e_reading telegram)).refusal ≡ 0) ↔ Given (e_reading telegram)
e_read_given telegram = e_reading_given _ (laws.numbered_e_reading telegram)

module _ (store : List ℕ) (v now : ℕ) (telegram : List ℕ) (r : DfOutcome) (new : List ℕ) (w : WrittenC (taking store v now telegram) store r new) where
  pub take_given : (r.refusal ≡ 0) ↔ Given (taking store v now telegram)
  take_given = written_given _ store r new w (laws.numbered_taking store v now telegram)

  pub take_kept : (r.refusal ≡ 0 → ⊥) → new ≡ store
  take_kept = written_kept _ store r new w

module _ (store : List ℕ) (now : ℕ) (r : DfOutcome) (new : List ℕ) (w : WrittenC (sweeping store now) store r new) where
  pub sweep_given : (r.refusal ≡ 0) ↔ Given (sweeping store now)
  sweep_given = written_given _ store r new w (laws.numbered_sweeping store now)

  pub sweep_kept : (r.refusal ≡ 0 → ⊥) → new ≡ store
  sweep_kept = written_kept _ store r new w

module _ (form : ℕ) (xs : List ℕ) (type : ℕ) (values marks : List ℕ) (room : ℕ) (out : List ℕ) (r : DfOutcome) (new : List ℕ)
    (w : WrittenC (composing form xs type values marks room) out r new) where
  pub compose_given : (r.refusal ≡ 0) ↔ Given (composing form xs type values marks room)
  compose_given = written_given _ out r new w (laws.numbered_composing form xs type values marks room)

  pub compose_kept : (r.refusal ≡ 0 → ⊥) → new ≡ out
  compose_kept = written_kept _ out r new w

module _ (form : ℕ) (xs store : List ℕ) (now v room : ℕ) (out : List ℕ) (r : DfOutcome) (new : List ℕ) (w : WrittenC (relaying form xs store now v room) out r new) where
  pub relay_given : (r.refusal ≡ 0) ↔ Given (relaying form xs store now v room)
  relay_given = written_given _ out r new w (laws.numbered_relaying form xs store now v room)

  pub relay_kept : (r.refusal ≡ 0 → ⊥) → new ≡ out
  relay_kept = written_kept _ out r new w

module _ (form : ℕ) (xs store : List ℕ) (now v : ℕ) (values reasons : List ℕ) (r : DfOutcome) (values' reasons' : List ℕ)
    (w : ReadIntoC (readings form xs store now v (length values) (length reasons)) values reasons r values' reasons') where
  pub read_all_given : (r.refusal ≡ 0) ↔ Given (readings form xs store now v (length values) (length reasons))
  read_all_given = into_given _ values reasons r values' reasons' w (laws.numbered_readings form xs store now v (length values) (length reasons))

  pub read_all_kept : (r.refusal ≡ 0 → ⊥) → (values' ≡ values) × (reasons' ≡ reasons)
  read_all_kept = into_kept _ values reasons r values' reasons' w

module _ (form : ℕ) (xs store : List ℕ) (now last : ℕ) (values reasons : List ℕ) (r : DfOutcome) (values' reasons' : List ℕ)
    (w : ReadIntoC (train_readings form xs store now last (length values) (length reasons)) values reasons r values' reasons') where
  pub read_train_given : (r.refusal ≡ 0) ↔ Given (train_readings form xs store now last (length values) (length reasons))
  read_train_given = into_given _ values reasons r values' reasons' w (laws.numbered_train form xs store now last (length values) (length reasons))

  pub read_train_kept : (r.refusal ≡ 0 → ⊥) → (values' ≡ values) × (reasons' ≡ reasons)
  read_train_kept = into_kept _ values reasons r values' reasons' w

module _ (telegram head : List ℕ) (status : ℕ) (out : List ℕ) (r : DfOutcome) (new : List ℕ) (w : WrittenC (answering telegram head status out) out r new) where
  pub e_answer_given : (r.refusal ≡ 0) ↔ Given (answering telegram head status out)
  e_answer_given = written_given _ out r new w (laws.numbered_answering telegram head status out)

  pub e_answer_kept : (r.refusal ≡ 0 → ⊥) → new ≡ out
  e_answer_kept = written_kept _ out r new w

module _ (form : ℕ) (xs store : List ℕ) (now : ℕ) (bus : List ℕ) (r : DfMarshalled) (new : List ℕ) (d : DeliveredC (marshalling form xs store now bus) bus r new) where
  pub marshal_given : (r.refusal ≡ 0) ↔ Given (marshalling form xs store now bus)
  marshal_given = delivered_given _ bus r new d (laws.numbered_marshalling form xs store now bus)

  pub marshal_kept : (r.refusal ≡ 0 → ⊥) → new ≡ bus
  marshal_kept = delivered_kept _ bus r new d

module _ (area : List ℕ) (pairs : List Pair) (marks : List ℕ) (r : DfChristened) (new : List ℕ) (w : ChristenedC (christening area pairs) marks r new) where
  pub christen_given : (r.refusal ≡ 0) ↔ Given (christening area pairs)
  christen_given = christened_given _ marks r new w (laws.numbered_christening area pairs)

  pub christen_kept : (r.refusal ≡ 0 → ⊥) → new ≡ marks
  christen_kept = christened_kept _ marks r new w

pub read_remedies_given : (telegram : List ℕ) → ((remedies_c (remedy_reading telegram)).refusal ≡ 0) ↔ Given (remedy_reading telegram)
read_remedies_given telegram = remedies_given _ (laws.numbered_remedies telegram)

pub remedy_block_given : (telegram : List ℕ) (k : ℕ) → ((remedy_c (remedy_block telegram k)).refusal ≡ 0) ↔ Given (remedy_block telegram k)
remedy_block_given telegram k = remedy_given _ (laws.numbered_remedy telegram k)

module _ (h : Handed) (out : List ℕ) (r : DfWrote) (new : List ℕ) (w : WroteC (remedy_writing h out) out r new) where
  pub write_remedies_given : (r.refusal ≡ 0) ↔ Given (remedy_writing h out)
  write_remedies_given = wrote_given _ out r new w (laws.numbered_writing h out)

  pub write_remedies_kept : (r.refusal ≡ 0 → ⊥) → new ≡ out
  write_remedies_kept = wrote_kept _ out r new w

-- ---- a wrong bit, by its octet and its place in it

pub wrong_c : (octet bit route reason : ℕ) (t : Bool) → bit < 8 → (t ≡ false → (route ≡ 0) × (reason ≡ 0))
    → ◌≡◌ {A = DfChecked}
    (record { refusal = 0; right = 0; carried = 0; octet = octet; bit = bit; in_route = yes_no t; route = route; reason = reason })
    (checked_c (gives (wrong (8 * octet + bit) (cond t (in_route route reason) outside))))
wrong_c octet bit route reason true lt z =
    let o : octet ≡ (8 * octet + bit) / 8 = omega arith in
    let b : bit ≡ (8 * octet + bit) % 8 = omega arith in
    λ i. record { refusal = 0; right = 0; carried = 0; octet = o i; bit = b i; in_route = 1; route = route; reason = reason }
wrong_c octet bit route reason false lt z =
    let o : octet ≡ (8 * octet + bit) / 8 = omega arith in
    let b : bit ≡ (8 * octet + bit) % 8 = omega arith in
    let n = z refl in
    λ i. record { refusal = 0; right = 0; carried = 0; octet = o i; bit = b i; in_route = 0; route = n.0 i; reason = n.1 i }
