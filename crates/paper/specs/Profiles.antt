-- Request C-19: profiles, which are narrower rules for the lists of small controllers.
use Rattle.std.specs.Prelude.{ℕ, ◌+◌, ◌*◌, ◌≤◌, ◌<◌, ◌≡◌, Bool, true, false, not, cond, ◌&&◌, ◌||◌, List, [], ◌∷◌, ltb, leb, eqb}
use Rattle.paper.specs.Answer.{Answer, gives, refused, and_then, Sought, found, nothing}
use Rattle.paper.specs.First.{first_bad, all}
use Rattle.paper.specs.Telegrams.{check_place}
use Rattle.paper.specs.Broken.{Fault, broken}
use Rattle.paper.specs.SignalList.{Signal, SignalList, Counts, entry, check_size, code_size, route_size, route_end, judge, list_of, knows, place_of}

-- a profile is what it allows: so many signals, so long a time limit, destination data of so many bits, and R1 signals or none
pub record Profile : Type 0 where
  pub signals : ℕ
  pub limit : ℕ
  pub bits : ℕ
  pub r1 : Bool

-- "only type 0 signals, at most 64; every signal has a check and a time limit from 1 to 5,000 ms; at most 16 octets of destination data"
abbrev pub plain_coach : Profile
plain_coach = record { signals = 64; limit = 5000; bits = 8 * 16; r1 = false }

-- "A second profile, for driving trailers, also allows R1 signals"
abbrev pub driving_trailer : Profile
driving_trailer = record { signals = 64; limit = 5000; bits = 8 * 16; r1 = true }

-- ---- The rules

-- a lookup gives this place
abbrev pub gives_place : Answer ℕ → ℕ → Bool
gives_place (gives p) place = eqb p place
gives_place (refused n at) place = false

-- "in octets 47-73 and wholly under the check place that the table in document 01 gives for its bits": the table has a place for the bits of these
-- octets alone, and for every bit of the field it is that of the signal's own check
unfoldable pub under_table : SignalList → Signal → Bool
under_table l s = all (λ i. gives_place (check_place (s.start + i)) (place_of l s)) s.width

-- "only type 0 signals"; "also allows R1 signals"
abbrev pub type_allowed : Profile → Signal → Bool
type_allowed p s = eqb s.type 0 || p.r1 && eqb s.type 1

-- of signal k: 1 its type, 2 "at most 64", 3 "every signal has a check", 4 "a time limit from 1 to 5,000 ms", 5 "every replacement is a known code",
-- 6 an R1 signal's place and check
abbrev pub signal_tests : Profile → SignalList → ℕ → List Bool
signal_tests p l k =
    let s = l.signal k in
    type_allowed p s ∷ ltb k p.signals ∷ not (eqb s.check 0) ∷ (leb 1 s.limit && leb s.limit p.limit) ∷ knows l k s.replacement
    ∷ (eqb s.type 0 || under_table l s) ∷ []

-- of route r: 1 its field ends within the destination data
abbrev pub route_tests : Profile → SignalList → ℕ → List Bool
route_tests p l r = leb (route_end l.signal (l.route r)) p.bits ∷ []

-- the first rule that an entry breaks, 0 for none
unfoldable pub signal_broken : Profile → SignalList → ℕ → ℕ
signal_broken p l k = broken (signal_tests p l k)

unfoldable pub route_broken : Profile → SignalList → ℕ → ℕ
route_broken p l r = broken (route_tests p l r)

-- ---- The entry at fault

-- a list with these counts: where its signal k, and its route r, stands, and what it breaks
abbrev pub signal_breach : Profile → SignalList → Counts → ℕ → Fault
signal_breach p l n k =
    record {
      section = 2;
      index = k;
      rule = signal_broken p l k;
      signal = k;
      type = (l.signal k).type;
      start = (l.signal k).start;
      width = (l.signal k).width;
      at = entry check_size n.checks + entry n.size k;
    }

abbrev pub route_breach : Profile → SignalList → Counts → ℕ → Fault
route_breach p l n r =
    let s = l.signal (l.route r).signal in
    record {
      section = 4;
      index = r;
      rule = route_broken p l r;
      signal = (l.route r).signal;
      type = s.type;
      start = s.start;
      width = s.width;
      at = entry check_size n.checks + (entry n.size n.signals + (entry code_size n.codes + entry route_size r));
    }

-- the first of n entries that breaks a rule; where there is none, what follows
unfoldable pub first_breach : (ℕ → ℕ) → (ℕ → Fault) → ℕ → Sought Fault → Sought Fault
first_breach breaks fault n next =
    let k = first_bad (λ j. eqb (breaks j) 0) n in
    cond (ltb k n) (found (fault k)) next

-- "the earliest in list order": signals come before routes, and no check and no code entry breaks a profile
unfoldable pub breach_in : Profile → List ℕ → Counts → Sought Fault
breach_in p xs n =
    let l = list_of xs n in
    first_breach (signal_broken p l) (signal_breach p l n) n.signals (first_breach (route_broken p l) (route_breach p l n) n.routes nothing)

-- of a list that the general judging accepts; nothing where it refuses it, or no rule is broken
abbrev pub where_accepted : Answer Counts → (Counts → Sought Fault) → Sought Fault
where_accepted (gives n) call = call n
where_accepted (refused m at) call = nothing

unfoldable pub breach_of : Profile → ℕ → List ℕ → Sought Fault
breach_of p form xs = where_accepted (judge form xs) (breach_in p xs)

-- ---- The judging

-- "34 profile rule broken, with the entry's offset"
abbrev pub unless_breach : Counts → Sought Fault → Answer Counts
unless_breach n (found f) = refused 34 f.at
unless_breach n nothing = gives n

-- "after 1-4"
unfoldable pub profiling : Profile → ℕ → List ℕ → Answer Counts
profiling p form xs = and_then (judge form xs) (λ n. unless_breach n (breach_in p xs n))

-- ---- What is said of it

-- every rule of a profile is kept
pub record InProfile (p : Profile) (l : SignalList) : Type 0 where
  pub few : l.signals ≤ p.signals
  pub typed : (k : ℕ) → k < l.signals → type_allowed p (l.signal k) ≡ true
  pub under : (k : ℕ) → k < l.signals → ((l.signal k).type ≡ 0 → ⊥) → under_table l (l.signal k) ≡ true
  pub checked : (k : ℕ) → k < l.signals → (l.signal k).check ≡ 0 → ⊥
  pub limited : (k : ℕ) → k < l.signals → (1 ≤ (l.signal k).limit) × ((l.signal k).limit ≤ p.limit)
  pub replaced : (k : ℕ) → k < l.signals → knows l k (l.signal k).replacement ≡ true
  pub routed : (r : ℕ) → r < l.routes → route_end l.signal (l.route r) ≤ p.bits
