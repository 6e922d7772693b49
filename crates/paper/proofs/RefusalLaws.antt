-- No refusal of the paper has the number 0, so that 0 can stand for none at the C boundary. Assumes nothing.
use Prim.Native.Nat.{ℕ, ◌*◌, ◌≤◌}
use mathlib.Core.Path.{◌≡◌, refl, ap₂}
use mathlib.Core.Logic.{◌↔◌, ◌⊎◌, inl, inr}
use mathlib.Core.Bool.{Bool, true, false, not, cond}
use lib.Dec.{ltb, eqb}
use lib.ListN.{length}
use borrow.Author.Tests.{eqb-false}
use mathlib.Core.List.{List, [], ◌∷◌}
use native.Mathlib.Omega.{arith}
use Rattle.paper.specs.Answer.{Answer, gives, refused, refuse_if, and_then, shift, map_answer, forget, Given, Numbered, Sought, found, nothing}
use Rattle.paper.specs.Telegrams.{Row, covers, rows, place_in, check_place}
use Rattle.paper.specs.SignalList
use Rattle.paper.specs.SignalList.{Counts, judge, judge_to, list_of, OfTwo, of_both, of_two, first_refused, second_refused, GivenTwo, NumberedTwo, under_lists}
use Rattle.paper.specs.Forms.{serial_of, to_form2, to_form1}
use Rattle.paper.specs.Pairs.{entry_of, finding}
use Rattle.paper.specs.Store.{taking, gapping, sweeping}
use Rattle.paper.specs.Reading.{reading, reading_by}
use Rattle.paper.specs.Readings.{Readings, room_for, readings, train_readings}
use Rattle.paper.specs.Marshalling.{marshalling, marshalling_by}
use Rattle.paper.specs.Recordings.{Step, checking}
use Rattle.paper.specs.Composing.{composing}
use Rattle.paper.specs.Relaying.{relaying}
use Rattle.paper.specs.Broken.{Fault}
use Rattle.paper.specs.Comparing.{next_signal, next_route, next_gained, signal_changes, route_changes, codes_gained}
use Rattle.paper.specs.Profiles.{Profile, breach_in, unless_breach, profiling}
use Rattle.paper.specs.Shown.{Kind, showing}
use Rattle.paper.specs.Train.{Vehicle, resolving}
use Rattle.paper.specs.Christening.{Pair, christening}
use Rattle.paper.specs.Doors.{doors}
use Rattle.paper.specs.Remedies.{block_count, start, block_fault, first_fault, refuse_by, remedies_of, remedy_reading, remedy_block, Handed, handed_fault, written_of, remedy_writing}
use Rattle.paper.specs.ETelegrams.{e_reading, answering}
use Rattle.paper.specs.Extends.{extends, extends_lists}
use Rattle.paper.proofs.AnswerLaws.{never_both}

-- ---- how answers are put together

pub numbered_gives : {A : Type 0} (a : A) → Numbered (gives a)
unfolding Numbered
numbered_gives a = tt

pub numbered_if : {A : Type 0} (b : Bool) (n at : ℕ) (rest : Answer A) → 1 ≤ n → Numbered rest → Numbered (refuse_if b n at rest)
unfolding Numbered refuse_if
numbered_if true n at rest h k = h
numbered_if false n at rest h k = k

pub numbered_then : {A B : Type 0} (x : Answer A) (k : A → Answer B) → Numbered x → ((a : A) → Numbered (k a)) → Numbered (and_then x k)
unfolding Numbered
numbered_then (gives a) k h g = g a
numbered_then (refused n at) k h g = h

pub numbered_shift : {A : Type 0} (b : ℕ) (x : Answer A) → Numbered x → Numbered (shift b x)
unfolding Numbered
numbered_shift b (gives a) h = tt
numbered_shift b (refused n at) h = h

pub numbered_map : {A B : Type 0} (f : A → B) (x : Answer A) → Numbered x → Numbered (map_answer f x)
unfolding Numbered
numbered_map f (gives a) h = tt
numbered_map f (refused n at) h = h

pub numbered_forget : {A : Type 0} (x : Answer A) → Numbered x → Numbered (forget x)
unfolding Numbered
numbered_forget (gives a) h = tt
numbered_forget (refused n at) h = h

-- what says the number of a refusal, and 0 of what is given, says 0 exactly where the call is not refused
pub zero_given : {A : Type 0} (say : Answer A → ℕ) → ((a : A) → say (gives a) ≡ 0) → ((n at : ℕ) → say (refused n at) ≡ n)
    → (x : Answer A) → Numbered x → (say x ≡ 0) ↔ Given x
unfolding Numbered
zero_given say none number (gives a) h = (λ e. (a, refl), λ g. none a)
zero_given say none number (refused n at) h = (λ e. absurd (omega (arith, number n at)), λ g. absurd (never_both _ g.0 n at g.1 refl))

-- ---- judging

numbered_section : (limit size : ℕ) (rule : ℕ → Bool) (xs : List ℕ) → Numbered (SignalList.judge_section limit size rule xs)
unfolding SignalList.judge_section SignalList.opening SignalList.judge_entries
numbered_section limit size rule xs =
    numbered_then _ _
    (numbered_if _ 1 _ _ (omega arith) (numbered_if _ 2 _ _ (omega arith) (numbered_if _ 1 _ _ (omega arith) (numbered_gives _))))
    (λ n. numbered_if _ 3 _ _ (omega arith) (numbered_gives _))

pub numbered_judge : (form : ℕ) (xs : List ℕ) → Numbered (judge form xs)
unfolding judge_to SignalList.from_signals_to SignalList.from_codes SignalList.from_routes SignalList.ending
numbered_judge form xs =
    numbered_then _ _ (numbered_section _ _ _ _) (λ checks. numbered_shift _ _
    (numbered_then _ _ (numbered_section _ _ _ _) (λ signals. numbered_shift _ _
    (numbered_then _ _ (numbered_section _ _ _ _) (λ codes. numbered_shift _ _
    (numbered_then _ _ (numbered_section _ _ _ _) (λ routes. numbered_if _ 4 _ _ (omega arith) (numbered_gives _))))))))

-- and none of its numbers is above 4
unfoldable Low : {A : Type 0} → Answer A → Type 0
Low (gives a) = Unit {0}
Low (refused n at) = n ≤ 4

low_gives : {A : Type 0} (a : A) → Low (gives a)
unfolding Low
low_gives a = tt

low_if : {A : Type 0} (b : Bool) (n at : ℕ) (rest : Answer A) → n ≤ 4 → Low rest → Low (refuse_if b n at rest)
unfolding Low refuse_if
low_if true n at rest h k = h
low_if false n at rest h k = k

low_then : {A B : Type 0} (x : Answer A) (k : A → Answer B) → Low x → ((a : A) → Low (k a)) → Low (and_then x k)
unfolding Low
low_then (gives a) k h g = g a
low_then (refused n at) k h g = h

low_shift : {A : Type 0} (b : ℕ) (x : Answer A) → Low x → Low (shift b x)
unfolding Low
low_shift b (gives a) h = tt
low_shift b (refused n at) h = h

low_section : (limit size : ℕ) (rule : ℕ → Bool) (xs : List ℕ) → Low (SignalList.judge_section limit size rule xs)
unfolding SignalList.judge_section SignalList.opening SignalList.judge_entries
low_section limit size rule xs =
    low_then _ _ (low_if _ 1 _ _ (omega arith) (low_if _ 2 _ _ (omega arith) (low_if _ 1 _ _ (omega arith) (low_gives _))))
    (λ n. low_if _ 3 _ _ (omega arith) (low_gives _))

low_judge : (form : ℕ) (xs : List ℕ) → Low (judge form xs)
unfolding judge_to SignalList.from_signals_to SignalList.from_codes SignalList.from_routes SignalList.ending
low_judge form xs =
    low_then _ _ (low_section _ _ _ _) (λ checks. low_shift _ _
    (low_then _ _ (low_section _ _ _ _) (λ signals. low_shift _ _
    (low_then _ _ (low_section _ _ _ _) (λ codes. low_shift _ _
    (low_then _ _ (low_section _ _ _ _) (λ routes. low_if _ 4 _ _ (omega arith) (low_gives _))))))))

pub judge_low : (form : ℕ) (xs : List ℕ) (n at : ℕ) → judge form xs ≡ refused n at → n ≤ 4
unfolding Low
judge_low form xs n at e = rw e at (low_judge form xs)

numbered_under : {A : Type 0} (form : ℕ) (xs : List ℕ) (call : Counts → Answer A) → ((n : Counts) → Numbered (call n)) → Numbered (and_then (judge form xs) call)
numbered_under form xs call h = numbered_then (judge form xs) call (numbered_judge form xs) h

-- ---- the calls

numbered_in : (rs : List Row) (b : ℕ) → Numbered (place_in rs b)
unfolding place_in Numbered
numbered_in [] b = omega arith
numbered_in (r ∷ rs) b = by (covers r b) (numbered_in rs b)
  where
    by : (c : Bool) → Numbered (place_in rs b) → Numbered (cond c (gives r.place) (place_in rs b))
    by true h = tt
    by false h = h

pub numbered_place : (b : ℕ) → Numbered (check_place b)
numbered_place b = numbered_in rows b

pub numbered_entry : (form : ℕ) (xs : List ℕ) (k : ℕ) → Numbered (entry_of form xs k)
unfolding entry_of
numbered_entry form xs k = numbered_under form xs _ (λ n. numbered_if _ 11 _ _ (omega arith) (numbered_gives _))

pub numbered_finding : (form : ℕ) (xs : List ℕ) (type start : ℕ) → Numbered (finding form xs type start)
unfolding finding
numbered_finding form xs type start = numbered_under form xs _ (λ n. numbered_if _ 11 _ _ (omega arith) (numbered_gives _))

pub numbered_serial : (form : ℕ) (xs : List ℕ) (k : ℕ) → Numbered (serial_of form xs k)
unfolding serial_of
numbered_serial form xs k = numbered_under form xs _ (λ n. numbered_if _ 11 _ _ (omega arith) (numbered_gives _))

pub numbered_to_form2 : (xs : List ℕ) (room : ℕ) → Numbered (to_form2 xs room)
unfolding to_form2
numbered_to_form2 xs room = numbered_under 1 xs _ (λ n. numbered_if _ 33 _ _ (omega arith) (numbered_gives _))

pub numbered_to_form1 : (xs : List ℕ) (room : ℕ) → Numbered (to_form1 xs room)
unfolding to_form1
numbered_to_form1 xs room =
    numbered_under 2 xs _ (λ n. numbered_if _ 32 _ _ (omega arith) (numbered_if _ 33 _ _ (omega arith) (numbered_gives _)))

pub numbered_taking : (store : List ℕ) (v now : ℕ) (telegram : List ℕ) → Numbered (taking store v now telegram)
unfolding taking
numbered_taking store v now telegram =
    numbered_if _ 5 _ _ (omega arith) (numbered_if _ 6 _ _ (omega arith) (numbered_if _ 7 _ _ (omega arith)
    (numbered_if _ 8 _ _ (omega arith) (numbered_if _ 9 _ _ (omega arith) (numbered_if _ 10 _ _ (omega arith) (numbered_gives _))))))

pub numbered_gapping : (store : List ℕ) (v : ℕ) → Numbered (gapping store v)
unfolding gapping
numbered_gapping store v = numbered_if _ 5 _ _ (omega arith) (numbered_if _ 6 _ _ (omega arith) (numbered_gives _))

pub numbered_sweeping : (store : List ℕ) (now : ℕ) → Numbered (sweeping store now)
unfolding sweeping
numbered_sweeping store now = numbered_if _ 5 _ _ (omega arith) (numbered_gives _)

pub numbered_reading : (form : ℕ) (xs store : List ℕ) (now v k : ℕ) → Numbered (reading form xs store now v k)
unfolding reading
numbered_reading form xs store now v k =
    numbered_under form xs _ (λ n. numbered_if _ 5 _ _ (omega arith) (numbered_if _ 6 _ _ (omega arith) (numbered_if _ 11 _ _ (omega arith) (numbered_gives _))))

numbered_room : (store : List ℕ) (v values reasons many : ℕ) (r : Readings) → Numbered (room_for store v values reasons many r)
numbered_room store v values reasons many r =
    numbered_if _ 5 _ _ (omega arith) (numbered_if _ 6 _ _ (omega arith) (numbered_if _ 13 _ _ (omega arith) (numbered_gives _)))

pub numbered_readings : (form : ℕ) (xs store : List ℕ) (now v values reasons : ℕ) → Numbered (readings form xs store now v values reasons)
unfolding readings
numbered_readings form xs store now v values reasons = numbered_under form xs _ (λ n. numbered_room store v values reasons n.signals _)

pub numbered_train : (form : ℕ) (xs store : List ℕ) (now last values reasons : ℕ) → Numbered (train_readings form xs store now last values reasons)
unfolding train_readings
numbered_train form xs store now last values reasons = numbered_under form xs _ (λ n. numbered_room store last values reasons (last * n.signals) _)

numbered_marshalling_by : (store : List ℕ) (now : ℕ) (bus : List ℕ) (l : SignalList.SignalList) → Numbered (marshalling_by store now bus l)
numbered_marshalling_by store now bus l = numbered_if _ 5 _ _ (omega arith) (numbered_if _ 12 _ _ (omega arith) (numbered_gives _))

pub numbered_marshalling : (form : ℕ) (xs store : List ℕ) (now : ℕ) (bus : List ℕ) → Numbered (marshalling form xs store now bus)
unfolding marshalling
numbered_marshalling form xs store now bus = numbered_under form xs _ (λ n. numbered_marshalling_by store now bus (list_of xs n))

pub numbered_recordings : (form : ℕ) (xs : List ℕ) (k : ℕ) (last : List ℕ) (s : Step) → Numbered (checking form xs k last s)
unfolding checking
numbered_recordings form xs k last s =
    numbered_if _ 38 _ _ (omega arith) (numbered_under form xs _ (λ n.
    numbered_then (marshalling_by s.store s.clock s.before (list_of xs n)) _ (numbered_marshalling_by s.store s.clock s.before (list_of xs n))
    (λ m. numbered_if _ 36 _ _ (omega arith) (numbered_if _ 37 _ _ (omega arith) (numbered_gives _)))))

-- and a step's refusals have no other numbers than 1-5, 12, 36, 37 and 38
module _ (P : ℕ → Type 0) {A : Type 0} (n at : ℕ) where
  by_if : (b : Bool) (n' at' : ℕ) (rest : Answer A) → P n' → (rest ≡ refused n at → P n) → refuse_if b n' at' rest ≡ refused n at → P n
  unfolding refuse_if
  by_if true n' at' rest p h e = let q : n' ≡ n = cc in rw q at p
  by_if false n' at' rest p h e = h e

  by_then : {B : Type 0} (x : Answer B) (k : B → Answer A) → (x ≡ refused n at → P n) → ((b : B) → k b ≡ refused n at → P n) → and_then x k ≡ refused n at → P n
  by_then (gives b) k h g e = g b e
  by_then (refused n' at') k h g e = let q : n' ≡ n = cc in let z : at' ≡ at = cc in h (ap₂ (λ (i j : ℕ). refused i j) q z)

  by_gives : (a : A) → gives a ≡ refused n at → P n
  by_gives a e = absurd (never_both (gives a) a n at refl e)

pub recordings_numbers : (form : ℕ) (xs : List ℕ) (k : ℕ) (last : List ℕ) (s : Step) (n at : ℕ) → checking form xs k last s ≡ refused n at
    → (n ≤ 5) ⊎ ((n ≡ 12) ⊎ ((36 ≤ n) × (n ≤ 38)))
unfolding checking
recordings_numbers form xs k last s n at =
    by_if P n at _ 38 0 _ (inr (inr (omega arith, omega arith)))
    (by_then P n at (judge form xs) _ (λ e. inl (omega (arith, judge_low form xs n at e)))
    (λ c. by_then P n at (marshalling_by s.store s.clock s.before (list_of xs c)) _
    (by_if P n at _ 5 0 _ (inl (omega arith)) (by_if P n at _ 12 0 _ (inr (inl refl)) (by_gives P n at _)))
    (λ m. by_if P n at _ 36 0 _ (inr (inr (omega arith, omega arith))) (by_if P n at _ 37 0 _ (inr (inr (omega arith, omega arith))) (by_gives P n at _)))))
  where
    P : ℕ → Type 0
    P n = (n ≤ 5) ⊎ ((n ≡ 12) ⊎ ((36 ≤ n) × (n ≤ 38)))

pub numbered_composing : (form : ℕ) (xs : List ℕ) (type : ℕ) (values marks : List ℕ) (room : ℕ) → Numbered (composing form xs type values marks room)
unfolding composing
numbered_composing form xs type values marks room =
    numbered_under form xs _ (λ n.
    numbered_if _ 9 _ _ (omega arith) (numbered_if _ 13 _ _ (omega arith) (numbered_if _ 14 _ _ (omega arith)
    (numbered_if _ 15 _ _ (omega arith) (numbered_if _ 16 _ _ (omega arith) (numbered_gives _))))))

pub numbered_relaying : (form : ℕ) (xs store : List ℕ) (now v room : ℕ) → Numbered (relaying form xs store now v room)
unfolding relaying
numbered_relaying form xs store now v room =
    numbered_under form xs _ (λ n.
    numbered_if _ 5 _ _ (omega arith) (numbered_if _ 6 _ _ (omega arith)
    (numbered_if _ 9 _ _ (omega arith) (numbered_if _ 13 _ _ (omega arith) (numbered_if _ 14 _ _ (omega arith)
    (numbered_if _ 15 _ _ (omega arith) (numbered_if _ 16 _ _ (omega arith) (numbered_gives _))))))))

pub numbered_profiling : (p : Profile) (form : ℕ) (xs : List ℕ) → Numbered (profiling p form xs)
unfolding profiling Numbered
numbered_profiling p form xs = numbered_under form xs _ (λ n. by n (breach_in p xs n))
  where
    by : (n : Counts) (x : Sought Fault) → Numbered (unless_breach n x)
    by n (found f) = omega arith
    by n nothing = tt

pub numbered_showing : (form : ℕ) (xs store : List ℕ) (now v k : ℕ) (kind : Kind) → Numbered (showing form xs store now v k kind)
unfolding showing
numbered_showing form xs store now v k kind =
    numbered_under form xs _ (λ n.
    numbered_then (reading_by store now v k (list_of xs n)) _
    (numbered_if _ 5 _ _ (omega arith) (numbered_if _ 6 _ _ (omega arith) (numbered_if _ 11 _ _ (omega arith) (numbered_gives _))))
    (λ r. numbered_if _ 26 _ _ (omega arith) (numbered_gives _)))

pub numbered_resolving : (train : List Vehicle) (a : ℕ) → Numbered (resolving train a)
unfolding resolving
numbered_resolving train a =
    numbered_if _ 17 _ _ (omega arith) (numbered_if _ 18 _ _ (omega arith)
    (numbered_if _ 19 _ _ (omega arith) (numbered_if _ 20 _ _ (omega arith) (numbered_gives _))))

pub numbered_christening : (area : List ℕ) (pairs : List Pair) → Numbered (christening area pairs)
unfolding christening
numbered_christening area pairs =
    numbered_if _ 31 _ _ (omega arith) (numbered_if _ 17 _ _ (omega arith) (numbered_if _ 18 _ _ (omega arith) (numbered_gives _)))

pub numbered_doors : (form : ℕ) (xs store : List ℕ) (now : ℕ) (train : List Vehicle) (a : ℕ) → Numbered (doors form xs store now train a)
unfolding doors
numbered_doors form xs store now train a =
    numbered_under form xs _ (λ n.
    numbered_if _ 5 _ _ (omega arith) (numbered_if _ 35 _ _ (omega arith) (numbered_map _ _ (numbered_resolving train a))))

pub numbered_e_reading : (telegram : List ℕ) → Numbered (e_reading telegram)
unfolding e_reading
numbered_e_reading telegram = numbered_if _ 21 _ _ (omega arith) (numbered_if _ 22 _ _ (omega arith) (numbered_gives _))

pub numbered_answering : (telegram head : List ℕ) (status : ℕ) (out : List ℕ) → Numbered (answering telegram head status out)
unfolding answering
numbered_answering telegram head status out =
    numbered_then _ _ (numbered_e_reading telegram)
    (λ r. numbered_if _ 23 _ _ (omega arith) (numbered_if _ 24 _ _ (omega arith) (numbered_if _ 25 _ _ (omega arith) (numbered_gives _))))

numbered_by : {A : Type 0} (fault : ℕ) (rest : Answer A) → Numbered rest → Numbered (refuse_by fault rest)
unfolding Numbered refuse_if
numbered_by fault rest k = by (eqb fault 0) refl
  where
    by : (b : Bool) → eqb fault 0 ≡ b → Numbered (refuse_if (not b) fault 0 rest)
    by true e = k
    by false e = let z : fault ≡ 0 → ⊥ = eqb-false fault 0 e in omega arith

pub numbered_remedies : (telegram : List ℕ) → Numbered (remedy_reading telegram)
unfolding remedy_reading
numbered_remedies telegram =
    numbered_if _ 21 _ _ (omega arith) (numbered_if _ 29 _ _ (omega arith) (numbered_by (first_fault (block_fault telegram) (block_count telegram)) _ (numbered_if (ltb (start telegram (block_count telegram)) (length telegram)) 28 0 (gives (remedies_of telegram)) (omega arith) (numbered_gives (remedies_of telegram)))))

pub numbered_remedy : (telegram : List ℕ) (k : ℕ) → Numbered (remedy_block telegram k)
unfolding remedy_block
numbered_remedy telegram k = numbered_then _ _ (numbered_remedies telegram) (λ r. numbered_gives _)

pub numbered_writing : (h : Handed) (out : List ℕ) → Numbered (remedy_writing h out)
unfolding remedy_writing
numbered_writing h out =
    numbered_if _ 29 _ _ (omega arith) (numbered_if _ 25 _ _ (omega arith) (numbered_if _ 29 _ _ (omega arith) (numbered_by (first_fault (handed_fault h.blocks) h.blocks.many) (gives (written_of h out)) (numbered_gives (written_of h out)))))

numbered_two : {A B : Type 0} (x : Answer A) (refusal : ℕ → ℕ → OfTwo B) (next : A → OfTwo B) → Numbered x
    → ((n at : ℕ) → 1 ≤ n → NumberedTwo (refusal n at)) → ((a : A) → NumberedTwo (next a)) → NumberedTwo (of_two x refusal next)
unfolding Numbered NumberedTwo
numbered_two (gives a) refusal next h r k = k a
numbered_two (refused n at) refusal next h r k = r n at h

-- every call that goes by two lists
module _ (form : ℕ) (xs : List ℕ) (form' : ℕ) (ys : List ℕ) where
  pub numbered_lists : {A : Type 0} (call : SignalList.SignalList → SignalList.SignalList → A) → NumberedTwo (under_lists form xs form' ys call)
  unfolding NumberedTwo
  numbered_lists call =
      numbered_two (judge form xs) first_refused _ (numbered_judge form xs) (λ n at h. h)
      (λ m. numbered_two (judge form' ys) second_refused _ (numbered_judge form' ys) (λ n at h. h) (λ n. tt))

  pub numbered_extends : NumberedTwo (extends_lists form xs form' ys)
  unfolding extends_lists
  numbered_extends = numbered_lists extends

  pub numbered_signal_changes : (from : ℕ) → NumberedTwo (signal_changes form xs form' ys from)
  unfolding signal_changes
  numbered_signal_changes from = numbered_lists (λ a b. next_signal a b from)

  pub numbered_route_changes : (from : ℕ) → NumberedTwo (route_changes form xs form' ys from)
  unfolding route_changes
  numbered_route_changes from = numbered_lists (λ a b. next_route a b from)

  pub numbered_codes_gained : (key from : ℕ) → NumberedTwo (codes_gained form xs form' ys key from)
  unfolding codes_gained
  numbered_codes_gained key from = numbered_lists (λ a b. next_gained a b key from)

-- what says the number of a refusal, and 0 of what is given of both, says 0 exactly where neither list is refused
pub zero_given_two : {A : Type 0} (say : OfTwo A → ℕ) → ((a : A) → say (of_both a) ≡ 0) → ((n at : ℕ) → say (first_refused n at) ≡ n)
    → ((n at : ℕ) → say (second_refused n at) ≡ n) → (x : OfTwo A) → NumberedTwo x → (say x ≡ 0) ↔ GivenTwo x
unfolding NumberedTwo
zero_given_two say none first second (of_both a) h = (λ e. (a, refl), λ g. none a)
zero_given_two say none first second (first_refused n at) h =
    (λ e. absurd (omega (arith, first n at)), λ g. let e = g.1 in let z : ◌≡◌ {A = ℕ} 0 1 = cc in absurd (omega arith))
zero_given_two say none first second (second_refused n at) h =
    (λ e. absurd (omega (arith, second n at)), λ g. let e = g.1 in let z : ◌≡◌ {A = ℕ} 0 1 = cc in absurd (omega arith))
