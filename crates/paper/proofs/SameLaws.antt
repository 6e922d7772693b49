-- Request C-18: "A form 2 list is accepted exactly if it is with the serial numbers dropped, and then gives the same answers everywhere": each
-- call that goes by a list, in form 2 and in form 1 with the serial numbers dropped. Assumes nothing.
use Prim.Native.Nat.{ℕ, ◌+◌, ◌<◌}
use mathlib.Core.Path.{◌≡◌, refl, sym, ap, ap₂, ◌∙◌}
use mathlib.Core.Bool.{Bool, true, false, cond}
use mathlib.Core.List.{List}
use lib.Dec.{ltb, eqb, lit<}
use borrow.Author.Tests.{ltb-true}
use Rattle.paper.specs.Answer.{Answer, gives, refused, and_then, Sought, found, nothing}
use Rattle.paper.specs.First.{first_bad}
use Rattle.paper.specs.SignalList.{SignalList, Counts, entry, check_size, code_size, route_size, signal_size, judge, list_of}
use Rattle.paper.specs.Broken.{Fault, fault_of, refused_three, fault_at}
use Rattle.paper.specs.Forms.{signals_start, signal_count, dropped, offset_in, sized, relaid, Present}
use Rattle.paper.specs.Extends.{extends, extends_lists}
use Rattle.paper.specs.Pairs.{entry_by, entry_of, route_entry_by, route_entry, finding_by, finding, next_pair, pairing}
use Rattle.paper.specs.Reading.{reading_by, reading}
use Rattle.paper.specs.Shown.{Kind, showing_by, showing}
use Rattle.paper.specs.Marshalling.{marshalling_by, marshalling}
use Rattle.paper.specs.Composing.{composing_by, composing}
use Rattle.paper.specs.Relaying.{relaying_by, relaying}
use Rattle.paper.specs.Profiles.{Profile, signal_broken, route_broken, signal_breach, route_breach, first_breach, breach_in, unless_breach, profiling}
use Rattle.paper.specs.Comparing.{compare, comparing, next_signal, next_route, next_gained, signal_changes, route_changes, codes_gained}
use Rattle.paper.proofs.BrokenLaws.{fault_exactly}
use Rattle.paper.proofs.ListLaws.{sized_as}
use Rattle.paper.proofs.FormLaws.{form_2, accepted_dropped, dropped_accepted, counted, same_table, offset_entry, offset_past, same_answers, same_answers_first, same_answers_second}

module _ (xs : List ℕ) (n : Counts) (e : judge 2 xs ≡ gives n) where
  pub entry_same : (k : ℕ) → entry_of 2 xs k ≡ entry_of 1 (dropped xs) k
  unfolding entry_of
  entry_same k = same_answers xs n (entry_by k) e

  pub route_same : (r : ℕ) → route_entry 2 xs r ≡ route_entry 1 (dropped xs) r
  unfolding route_entry
  route_same r = same_answers xs n (route_entry_by r) e

  pub finds_same : (type start : ℕ) → finding 2 xs type start ≡ finding 1 (dropped xs) type start
  unfolding finding
  finds_same type start = same_answers xs n (finding_by type start) e

  pub reads_same : (store : List ℕ) (now v k : ℕ) → reading 2 xs store now v k ≡ reading 1 (dropped xs) store now v k
  unfolding reading
  reads_same store now v k = same_answers xs n (reading_by store now v k) e

  pub shows_same : (store : List ℕ) (now v k : ℕ) (kind : Kind) → showing 2 xs store now v k kind ≡ showing 1 (dropped xs) store now v k kind
  unfolding showing
  shows_same store now v k kind = same_answers xs n (showing_by store now v k kind) e

  pub marshals_same : (store : List ℕ) (now : ℕ) (bus : List ℕ) → marshalling 2 xs store now bus ≡ marshalling 1 (dropped xs) store now bus
  unfolding marshalling
  marshals_same store now bus = same_answers xs n (marshalling_by store now bus) e

  pub composes_same : (type : ℕ) (values marks : List ℕ) (room : ℕ) → composing 2 xs type values marks room ≡ composing 1 (dropped xs) type values marks room
  unfolding composing
  composes_same type values marks room = same_answers xs n (composing_by type values marks room) e

  pub relays_same : (store : List ℕ) (now v room : ℕ) → relaying 2 xs store now v room ≡ relaying 1 (dropped xs) store now v room
  unfolding relaying
  relays_same store now v room = same_answers xs n (relaying_by store now v room) e

  -- of two lists, the first, then the second
  pub extends_same_first : (form : ℕ) (ys : List ℕ) → extends_lists 2 xs form ys ≡ extends_lists 1 (dropped xs) form ys
  unfolding extends_lists
  extends_same_first form ys = same_answers_first xs n form ys extends e

  pub extends_same_second : (form : ℕ) (ys : List ℕ) → extends_lists form ys 2 xs ≡ extends_lists form ys 1 (dropped xs)
  unfolding extends_lists
  extends_same_second form ys = same_answers_second form ys xs n extends e

  pub pairs_same_first : (form : ℕ) (ys : List ℕ) (from : ℕ) → pairing 2 xs form ys from ≡ pairing 1 (dropped xs) form ys from
  unfolding pairing
  pairs_same_first form ys from = same_answers_first xs n form ys (λ a b. next_pair a b from) e

  pub pairs_same_second : (form : ℕ) (ys : List ℕ) (from : ℕ) → pairing form ys 2 xs from ≡ pairing form ys 1 (dropped xs) from
  unfolding pairing
  pairs_same_second form ys from = same_answers_second form ys xs n (λ a b. next_pair a b from) e

  -- C-17
  pub compares_same_first : (form : ℕ) (ys : List ℕ) → comparing 2 xs form ys ≡ comparing 1 (dropped xs) form ys
  unfolding comparing
  compares_same_first form ys = same_answers_first xs n form ys compare e

  pub compares_same_second : (form : ℕ) (ys : List ℕ) → comparing form ys 2 xs ≡ comparing form ys 1 (dropped xs)
  unfolding comparing
  compares_same_second form ys = same_answers_second form ys xs n compare e

  pub signal_changes_same_first : (form : ℕ) (ys : List ℕ) (from : ℕ) → signal_changes 2 xs form ys from ≡ signal_changes 1 (dropped xs) form ys from
  unfolding signal_changes
  signal_changes_same_first form ys from = same_answers_first xs n form ys (λ a b. next_signal a b from) e

  pub signal_changes_same_second : (form : ℕ) (ys : List ℕ) (from : ℕ) → signal_changes form ys 2 xs from ≡ signal_changes form ys 1 (dropped xs) from
  unfolding signal_changes
  signal_changes_same_second form ys from = same_answers_second form ys xs n (λ a b. next_signal a b from) e

  pub route_changes_same_first : (form : ℕ) (ys : List ℕ) (from : ℕ) → route_changes 2 xs form ys from ≡ route_changes 1 (dropped xs) form ys from
  unfolding route_changes
  route_changes_same_first form ys from = same_answers_first xs n form ys (λ a b. next_route a b from) e

  pub route_changes_same_second : (form : ℕ) (ys : List ℕ) (from : ℕ) → route_changes form ys 2 xs from ≡ route_changes form ys 1 (dropped xs) from
  unfolding route_changes
  route_changes_same_second form ys from = same_answers_second form ys xs n (λ a b. next_route a b from) e

  pub codes_gained_same_first : (form : ℕ) (ys : List ℕ) (q from : ℕ) → codes_gained 2 xs form ys q from ≡ codes_gained 1 (dropped xs) form ys q from
  unfolding codes_gained
  codes_gained_same_first form ys q from = same_answers_first xs n form ys (λ a b. next_gained a b q from) e

  pub codes_gained_same_second : (form : ℕ) (ys : List ℕ) (q from : ℕ) → codes_gained form ys 2 xs q from ≡ codes_gained form ys 1 (dropped xs) q from
  unfolding codes_gained
  codes_gained_same_second form ys q from = same_answers_second form ys xs n (λ a b. next_gained a b q from) e

-- ---- the entry at fault

no_fault : (form : ℕ) (xs : List ℕ) (n : Counts) → judge form xs ≡ gives n → fault_of form xs ≡ nothing
no_fault form xs n e = by (fault_of form xs) refl
  where
    by : (f : Sought Fault) → fault_of form xs ≡ f → f ≡ nothing
    by nothing q = refl
    by (found f) q =
        let z : nothing ≡ found f.at = sym (ap refused_three e) ∙ fault_exactly form xs ∙ ap fault_at q in
        cc

pub faults_same : (xs : List ℕ) (n : Counts) → judge 2 xs ≡ gives n → fault_of 2 xs ≡ fault_of 1 (dropped xs)
faults_same xs n e = no_fault 2 xs n e ∙ sym (no_fault 1 (dropped xs) (sized 16 n) (accepted_dropped xs n e))

-- of a list that is refused: there is one exactly if there is one with the serial numbers dropped, and its offset follows the longer entries
abbrev pub relaid_at : (ℕ → ℕ) → Sought ℕ → Sought ℕ
relaid_at f (found at) = found (f at)
relaid_at f nothing = nothing

pub fault_follows : (xs : List ℕ) → Present xs
    → fault_at (fault_of 2 xs) ≡ relaid_at (offset_in 18 16 (signals_start xs) (signal_count xs)) (fault_at (fault_of 1 (dropped xs)))
fault_follows xs h =
    sym (fault_exactly 2 xs)
    ∙ ap refused_three (form_2 xs h)
    ∙ three (judge 1 (dropped xs))
    ∙ ap (relaid_at f) (fault_exactly 1 (dropped xs))
  where
    f : ℕ → ℕ
    f = offset_in 18 16 (signals_start xs) (signal_count xs)

    at_three : (m at : ℕ) (b : Bool) → cond b (found (f at)) nothing ≡ relaid_at f (cond b (found at) nothing)
    at_three m at true = refl
    at_three m at false = refl

    three : (y : Answer Counts) → refused_three (relaid 18 f y) ≡ relaid_at f (refused_three y)
    three (gives n) = refl
    three (refused m at) = at_three m at (eqb m 3)

-- ---- C-19: under a profile

-- the entry of a list in form 2 that breaks a profile is the one that does with the serial numbers dropped; its offset follows the longer entries
abbrev pub moved_to : (ℕ → ℕ) → Sought Fault → Sought Fault
moved_to f (found x) =
    found (record {
      section = x.section;
      index = x.index;
      rule = x.rule;
      signal = x.signal;
      type = x.type;
      start = x.start;
      width = x.width;
      at = f x.at;
    })
moved_to f nothing = nothing

module _ (breaks : ℕ → ℕ) (fault fault' : ℕ → Fault) (n : ℕ) (next next' : Sought Fault) (f : ℕ → ℕ) where
  first_moves : ((k : ℕ) → k < n → found (fault k) ≡ moved_to f (found (fault' k))) → next ≡ moved_to f next'
      → first_breach breaks fault n next ≡ moved_to f (first_breach breaks fault' n next')
  unfolding first_breach
  first_moves each after = by (ltb k n) refl
    where
      k : ℕ
      k = first_bad (λ j. eqb (breaks j) 0) n

      by : (b : Bool) → ltb k n ≡ b → cond b (found (fault k)) next ≡ moved_to f (cond b (found (fault' k)) next')
      by true q = each k (ltb-true k n q)
      by false q = after

module _ (p : Profile) (l : SignalList) (m : Counts) (short : m.size ≡ 16) where
  moves : ℕ → ℕ
  moves = offset_in 18 16 (entry check_size m.checks) m.signals

  signal_moves : (k : ℕ) → k < m.signals → found (signal_breach p l (sized 18 m) k) ≡ moved_to moves (found (signal_breach p l m k))
  unfolding moves
  signal_moves k lt = rw (short, offset_entry 18 16 (entry check_size m.checks) m.signals (lit< tt) k lt)

  route_moves : (r : ℕ) → found (route_breach p l (sized 18 m) r) ≡ moved_to moves (found (route_breach p l m r))
  unfolding moves
  route_moves r = rw (short, offset_past 18 16 (entry check_size m.checks) m.signals (lit< tt) (entry code_size m.codes + entry route_size r))

  breaches_move : let breach : Counts → Sought Fault = λ n.
      first_breach (signal_broken p l) (signal_breach p l n) n.signals (first_breach (route_broken p l) (route_breach p l n) n.routes nothing) in
      breach (sized 18 m) ≡ moved_to moves (breach m)
  breaches_move = first_moves _ _ _ _ _ _ moves signal_moves (first_moves _ _ _ _ _ _ moves (λ r lt. route_moves r) refl)

moved_refusal : (f : ℕ → ℕ) (n : Counts) (x : Sought Fault) → unless_breach (sized 18 n) (moved_to f x) ≡ relaid 18 f (unless_breach n x)
moved_refusal f n (found x) = refl
moved_refusal f n nothing = refl

-- accepted exactly if it is with the serial numbers dropped, and refused alike
pub profile_follows : (p : Profile) (xs : List ℕ) → Present xs
    → profiling p 2 xs ≡ relaid 18 (offset_in 18 16 (signals_start xs) (signal_count xs)) (profiling p 1 (dropped xs))
unfolding profiling breach_in signal_size moves
profile_follows p xs h = by (judge 1 (dropped xs)) refl
  where
    f : ℕ → ℕ
    f = offset_in 18 16 (signals_start xs) (signal_count xs)

    by : (y : Answer Counts) → judge 1 (dropped xs) ≡ y
        → and_then (judge 2 xs) (λ n. unless_breach n (breach_in p xs n)) ≡ relaid 18 f (and_then y (λ n. unless_breach n (breach_in p (dropped xs) n)))
    by (gives m) q =
        let e = dropped_accepted xs m q in
        let c = counted 2 xs (sized 18 m) e in
        let short : m.size ≡ 16 = sym (sized_as 16 (dropped xs) m q) in
        let same : list_of xs (sized 18 m) ≡ list_of (dropped xs) m = same_table xs (sized 18 m) e ∙ ap (λ (x : ℕ). list_of (dropped xs) (sized x m)) (sym short) in
        let there : offset_in 18 16 (entry check_size m.checks) m.signals ≡ f = ap₂ (offset_in 18 16) (ap (entry check_size) c.checks) c.signals in
        let move : breach_in p xs (sized 18 m) ≡ moved_to f (breach_in p (dropped xs) m) = rw (same, ← there) (breaches_move p (list_of (dropped xs) m) m short) in
        rw e (ap (unless_breach (sized 18 m)) move ∙ moved_refusal f m (breach_in p (dropped xs) m))
    by (refused k at) q = rw (form_2 xs h, q)
