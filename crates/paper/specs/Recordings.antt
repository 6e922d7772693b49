-- C-21, "Check a supplier's marshalling": recordings of list, store, clock, data before and data after, judged step by step.
use Rattle.std.specs.Prelude.{ℕ, suc, ◌+◌, ◌*◌, ◌≤◌, ◌<◌, ◌≡◌, ◌↔◌, ◌⊎◌, Bool, not, cond, ◌&&◌, ◌||◌, List, [], ◌∷◌, ◌++◌, length, get_or, ltb, leb, eqb}
use Rattle.paper.specs.Octets.{bit, Octets}
use Rattle.paper.specs.Answer.{Answer, gives, refused, refuse_if, and_then}
use Rattle.paper.specs.First.{first_bad, all}
use Rattle.paper.specs.SignalList.{SignalList, Counts, judge, list_of, route_end, under_list}
use Rattle.paper.specs.Marshalling.{routed, Marshalled, marshalling_by, marshalling}

-- "each with its store, clock and data"
pub record Step : Type 0 where
  pub store : List ℕ
  pub clock : ℕ
  pub before : List ℕ
  pub after : List ℕ

-- ---- One step

-- the bit at address a lies in the field of route r
abbrev pub lies_in : SignalList → ℕ → ℕ → Bool
lies_in l a r = leb (l.route r).start a && ltb a (route_end l.signal (l.route r))

-- the route that it lies in; the number of routes where it lies in none
unfoldable pub route_with : SignalList → ℕ → ℕ
route_with l a = first_bad (λ r. not (lies_in l a r)) l.routes

-- "the route it lies in with the reason our reading gives, or neither"
pub data Place : Type 0 where
  in_route : ℕ → ℕ → Place
  outside : Place

unfoldable pub located : SignalList → List ℕ → ℕ → ℕ → Place
located l store now a =
    cond (ltb (route_with l a) l.routes) (in_route (route_with l a) (routed l store now (route_with l a)).reason) outside

-- "the first wrong bit", by its address; 8 × the length where no bit is wrong
unfoldable pub first_wrong : List ℕ → List ℕ → ℕ
first_wrong ours after = first_bad (λ a. eqb (bit after a) (bit ours a)) (8 * length after)

-- "Accept the data after exactly if it is what our rules give, bits outside the routes included. If not, name the first wrong bit, and .."
pub data Finding : Type 0 where
  right : Finding
  wrong : ℕ → Place → Finding

unfoldable pub finding : SignalList → List ℕ → ℕ → List ℕ → List ℕ → Finding
finding l store now ours after =
    cond (ltb (first_wrong ours after) (8 * length after)) (wrong (first_wrong ours after) (located l store now (first_wrong ours after))) right

-- "a step's data before must be the last one's data after"; the first step, with none before it, follows no other
unfoldable pub same_octets : List ℕ → List ℕ → Bool
same_octets xs ys = eqb (length xs) (length ys) && all (λ i. eqb (get_or xs i 0) (get_or ys i 0)) (length xs)

abbrev pub follows : ℕ → List ℕ → List ℕ → Bool
follows k last before = eqb k 0 || same_octets last before

-- "up to 1,000 steps"
abbrev pub most_steps : ℕ
most_steps = 1000

-- behind 38 and 1-4: 5 and 12 as marshalling the data before has them, then 36 and 37
abbrev pub checking_by : ℕ → List ℕ → Step → SignalList → Answer Finding
checking_by k last s l =
    and_then (marshalling_by s.store s.clock s.before l) (λ m.
    refuse_if (not (eqb (length s.after) (length s.before))) 36 0
    (refuse_if (not (follows k last s.before)) 37 0
    (gives (finding l s.store s.clock m.octets s.after))))

-- "Order in a step: 38, then 1-5 and 12, 36, 37": k steps went before it, and the data after of the last of them are `last`
unfoldable pub checking : ℕ → List ℕ → ℕ → List ℕ → Step → Answer Finding
checking form xs k last s = refuse_if (leb most_steps k) 38 0 (under_list form xs (checking_by k last s))

-- ---- A recording, its steps "taken in one at a time"

-- the judging so far: it goes on, with so many steps accepted and the last one's data after; or a step, counted from 0, ended it
pub data Course : Type 0 where
  going : ℕ → List ℕ → Course
  ended : ℕ → Answer Finding → Course

-- "the first step refused or wrong is named and ends the judging"
abbrev pub onward_by : ℕ → List ℕ → Answer Finding → Course
onward_by k after (gives right) = going (suc k) after
onward_by k after (gives (wrong a p)) = ended k (gives (wrong a p))
onward_by k after (refused n at) = ended k (refused n at)

unfoldable pub onward : ℕ → List ℕ → Course → Step → Course
onward form xs (going k last) s = onward_by k s.after (checking form xs k last s)
onward form xs (ended k x) s = ended k x

unfoldable pub judged : ℕ → List ℕ → Course → List Step → Course
judged form xs c [] = c
judged form xs c (s ∷ ss) = judged form xs (onward form xs c s) ss

-- so many steps accepted; the list's own refusal; or the step that is named, with what is said of it
pub data Verdict : Type 0 where
  accepted : ℕ → Verdict
  unlisted : ℕ → ℕ → Verdict
  named : ℕ → Answer Finding → Verdict

-- "A recording of no steps is accepted if its list is."
abbrev pub of_list : ℕ → Answer Counts → Verdict
of_list k (gives n) = accepted k
of_list k (refused n at) = unlisted n at

abbrev pub concluded : ℕ → List ℕ → Course → Verdict
concluded form xs (going k last) = of_list k (judge form xs)
concluded form xs (ended k x) = named k x

unfoldable pub recording : ℕ → List ℕ → List Step → Verdict
recording form xs ss = concluded form xs (judged form xs (going 0 []) ss)

-- ---- What is accepted and what is named, exactly

-- the bit at address a lies in route r
abbrev pub LiesIn : SignalList → ℕ → ℕ → Type 0
LiesIn l a r = (r < l.routes) × ((l.route r).start ≤ a) × (a < route_end l.signal (l.route r))

-- a step with k before it is the first one, or its data before are the last one's data after
abbrev pub Follows : ℕ → List ℕ → List ℕ → Type 0
Follows k last before = (k ≡ 0) ⊎ (last ≡ before)

-- the bit at a is the first at which the data after differ from ours, and p is its place
pub record Names (l : SignalList) (store : List ℕ) (now : ℕ) (ours after : List ℕ) (a : ℕ) (p : Place) : Type 0 where
  pub inside : a < 8 * length after
  pub differs : bit after a ≡ bit ours a → ⊥
  pub agree : (b : ℕ) → b < a → bit after b ≡ bit ours b
  pub place : p ≡ located l store now a

-- what a step that is not refused tells
pub record Checked (form : ℕ) (xs : List ℕ) (k : ℕ) (last : List ℕ) (s : Step) (f : Finding) : Type 0 where
  pub few : k < most_steps
  pub counts : Counts
  pub listed : judge form xs ≡ gives counts
  pub given : Marshalled
  pub ours : marshalling form xs s.store s.clock s.before ≡ gives given
  pub long : length s.after ≡ length s.before
  pub on : Follows k last s.before
  pub found : f ≡ finding (list_of xs counts) s.store s.clock given.octets s.after

-- a step that is accepted: its data after are what marshalling its data before gives
pub record Right (form : ℕ) (xs : List ℕ) (k : ℕ) (last : List ℕ) (s : Step) : Type 0 where
  pub few : k < most_steps
  pub given : Marshalled
  pub ours : marshalling form xs s.store s.clock s.before ≡ gives given
  pub same : given.octets ≡ s.after
  pub on : Follows k last s.before

-- a step in which the bit at a is named, at the place p
pub record Wrong (form : ℕ) (xs : List ℕ) (k : ℕ) (last : List ℕ) (s : Step) (a : ℕ) (p : Place) : Type 0 where
  pub few : k < most_steps
  pub counts : Counts
  pub listed : judge form xs ≡ gives counts
  pub given : Marshalled
  pub ours : marshalling form xs s.store s.clock s.before ≡ gives given
  pub long : length s.after ≡ length s.before
  pub on : Follows k last s.before
  pub inside : a < 8 * length s.after
  pub differs : bit s.after a ≡ bit given.octets a → ⊥
  pub agree : (b : ℕ) → b < a → bit s.after b ≡ bit given.octets b
  pub in_it : (r reason : ℕ) → (p ≡ in_route r reason) ↔ (LiesIn (list_of xs counts) a r × (reason ≡ (routed (list_of xs counts) s.store s.clock r).reason))
  pub in_no : (p ≡ outside) ↔ ((r : ℕ) → LiesIn (list_of xs counts) a r → ⊥)

-- every step is accepted at its place, with k before the first of them and `last` the data after of the last of those
unfoldable pub AllRight : ℕ → List ℕ → ℕ → List ℕ → List Step → Type 0
AllRight form xs k last [] = Unit {0}
AllRight form xs k last (s ∷ ss) = Right form xs k last s × AllRight form xs (suc k) s.after ss

-- the data after the last step, which are those before the next
unfoldable pub last_after : List ℕ → List Step → List ℕ
last_after last [] = last
last_after last (s ∷ ss) = last_after s.after ss

-- step j is the first that is refused or wrong, and x is what is said of it: the steps before it, it, and those behind it
pub record FirstNamed (form : ℕ) (xs : List ℕ) (k : ℕ) (last : List ℕ) (ss : List Step) (j : ℕ) (x : Answer Finding) : Type 0 where
  pub before : List Step
  pub step : Step
  pub behind : List Step
  pub split : ss ≡ before ++ (step ∷ behind)
  pub place : k + length before ≡ j
  pub right_before : AllRight form xs k last before
  pub said : checking form xs j (last_after last before) step ≡ x
  pub not_right : x ≡ gives right → ⊥

-- the data of every step are octets
unfoldable pub OctetSteps : List Step → Type 0
OctetSteps [] = Unit {0}
OctetSteps (s ∷ ss) = (Octets s.before × Octets s.after) × OctetSteps ss

-- a step of our own marshalling
abbrev pub Ours : ℕ → List ℕ → Step → Type 0
Ours form xs s = (m : Marshalled) × ((marshalling form xs s.store s.clock s.before ≡ gives m) × (m.octets ≡ s.after))

-- the next step, if there is one, has these data before
abbrev pub Next : List ℕ → List Step → Type 0
Next last [] = Unit {0}
Next last (s ∷ ss) = last ≡ s.before

-- a recording of our own marshalling: each step's data before are the last one's data after
unfoldable pub OurSteps : ℕ → List ℕ → List Step → Type 0
OurSteps form xs [] = Unit {0}
OurSteps form xs (s ∷ ss) = Ours form xs s × Next s.after ss × OurSteps form xs ss
