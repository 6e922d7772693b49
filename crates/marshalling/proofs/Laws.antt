-- The parts of marshalling are the paper's, and how its answer is put together. Assumes nothing.
use Prim.Native.Nat.{ℕ, ◌+◌, ◌-◌, ◌*◌, ◌/◌, ◌%◌, ◌≤◌, ◌<◌}
use mathlib.Core.Path.{◌≡◌, refl, sym, ap, ap₂, subst, subst⁻¹, ◌∙◌}
use mathlib.Core.Bool.{Bool, true, false, cond}
use mathlib.Core.List.{List}
use native.Mathlib.Omega.{arith}
use native.Mathlib.Decide.{dec_lt}
use native.Mathlib.Nat.{lt_irrefl}
use lib.ListN.{length, get_or, set}
use lib.Seq.{get_or-set_same, get_or-set_other}
use lib.Dec.{ltb}
use borrow.Author.Tests.{lt-ltb, le-ltb, ltb-false, eqb-true}
use Rattle.paper.specs.Octets.{bit, field}
use Rattle.paper.specs.Answer.{Answer, gives, refused}
use Rattle.paper.specs.First.{some, count}
use Rattle.paper.specs.SignalList.{Route, SignalList, Counts, route_end, judge, list_of, under_list}
use Rattle.paper.specs.Store.{vehicles, is_store}
use Rattle.paper.specs.Reading.{reading_at}
use Rattle.paper.specs.Marshalling as paper
use Rattle.paper.proofs.AnswerLaws.{gives_one}
use Rattle.paper.proofs.FirstLaws.{some_true, some_false, some_none}
use Rattle.paper.specs.Accepted.{Kept}
use Rattle.paper.proofs.ListLaws.{kept_of, routes_apart}
use Rattle.paper.proofs.MarshallingLaws as laws
use mir.Val.{bool_byte}
use Rattle.std.specs.Prelude.{Result, Ok, Err, min}
use Rattle.known.specs.Known.{Starts}
use Rattle.refusals.specs.declared.Refusal.{Refusal}
use Rattle.refusals.specs.Refusal.{number_of, carried_of, refusal_of}
use Rattle.refusals.proofs.WrittenLaws.{HandedOn, handed_on, one_result}
use Rattle.lists.specs.declared.accepted.AcceptedList.{AcceptedList}
use Rattle.lists.specs.Judged.{counts_of}
use Rattle.lists.specs.Listed.{list_as}
use Rattle.lists.proofs.Laws.{under_accepted, under_refused}
use Rattle.marshalling.specs.Marshalling.{Delivered, is_short, Served}

-- ---- the routes

-- so many octets are too few for a field's end, in bits or rounded up to octets
pub too_few : (octets end : ℕ) → ltb octets (end / 8 + min 1 (end % 8)) ≡ ltb (8 * octets) end
too_few octets end =
    elim (dec_lt octets (end / 8 + min 1 (end % 8))) [
      | yes h ↦ lt-ltb _ _ h ∙ sym (lt-ltb (8 * octets) end (omega arith))
      | no h ↦ le-ltb octets (end / 8 + min 1 (end % 8)) (omega arith) ∙ sym (le-ltb (8 * octets) end (omega arith))
    ]

pub listed_kept : (l : AcceptedList) → Kept (list_as l)
listed_kept l = kept_of l.octets.now (counts_of l.counts) l.laid

-- t is a route of the list: its signal and its vehicle exist, and its field ends in time
pub record RouteOf (l : SignalList) (t : Route) : Type 0 where
  pub exists : t.signal < l.signals
  pub first : 1 ≤ t.vehicle
  pub last : t.vehicle ≤ vehicles
  pub some : 1 ≤ (l.signal t.signal).width
  pub wide : (l.signal t.signal).width ≤ 64
  pub ends : route_end l.signal t ≤ 2048

pub route_of_list : (l : AcceptedList) {r : ℕ} {t : Route} → t ≡ (list_as l).route r → r < l.counts.routes → RouteOf (list_as l) t
route_of_list l {r} {t} is lt =
    let k = (listed_kept l).route r lt in
    let s = (listed_kept l).signal ((list_as l).route r).signal k.exists in
    subst⁻¹ (RouteOf (list_as l)) is (record { exists = k.exists; first = k.first; last = k.last; some = s.some; wide = s.wide; ends = k.ends })

-- a store is whole and no route ends past the data
pub serves : (l : SignalList) (store : List ℕ) (octets : ℕ) → true ≡ is_store store → false ≡ some (is_short l octets) l.routes → Served l store octets
serves l store octets whole none = record { whole = eqb-true _ _ (sym whole); room = λ r h. ltb-false _ _ (some_none (is_short l octets) l.routes (sym none) r h) }

-- the last route ends last
pub last_short : (l : SignalList) → Kept l → (octets : ℕ) → 0 < l.routes → is_short l octets (l.routes - 1) ≡ some (is_short l octets) l.routes
last_short l h octets some-route =
    elim (dec_lt (8 * octets) (end last)) [
      | yes lt ↦ lt-ltb _ _ lt ∙ sym (some_true (is_short l octets) l.routes last (omega arith) (lt-ltb _ _ lt))
      | no ge ↦ le-ltb (8 * octets) (end last) (omega arith)
          ∙ sym (some_false (is_short l octets) l.routes (λ r hr. le-ltb (8 * octets) (end r) (omega (arith, ends r hr))))
    ]
  where
    last : ℕ
    last = l.routes - 1

    end : ℕ → ℕ
    end r = route_end l.signal (l.route r)

    ends : (r : ℕ) → r < l.routes → end r ≤ end last
    ends r hr =
        elim (dec_lt r last) [
          | yes lt ↦ omega (arith, routes_apart l h r last lt (omega arith))
          | no ge ↦ let z : r ≡ last = omega arith in omega (arith, ap end z)
        ]

-- one start more is written
pub starts_more : (l : SignalList) (first : List ℕ) (k e : ℕ) → k < length first → ((g : ℕ) → g < k → Starts l g (get_or first g 0)) → Starts l k e
    → (g : ℕ) → g < k + 1 → Starts l g (get_or (set first k e) g 0)
starts_more l first k e there before here g lt =
    elim (dec_lt g k) [
      | yes less ↦ subst⁻¹ (Starts l g) (get_or-set_other first k g e 0 (λ z. lt_irrefl k (rw z at less))) (before g less)
      | no ge ↦ let z : g ≡ k = omega arith in rw z (subst⁻¹ (Starts l k) (get_or-set_same first k e 0 there) here)
    ]

pub one_more : (b : Bool) → cond b 1 0 ≤ 1
one_more true = omega arith
one_more false = omega arith

-- ---- the answer

pub byte_of : (b : Bool) → bool_byte b ≡ cond b 1 0
byte_of true = refl
byte_of false = refl

pub delivered_refused : (f : Refusal) (a : Answer paper.Marshalled) (old : List ℕ) → refusal_of f ≡ a → Delivered a old (Err f) old
delivered_refused f a old e = record { lives = rw (← e); octets = rw (← e) }

-- the same of a call by a list, which judging refuses, or goes on with what is accepted
module _ (form : ℕ) (xs : List ℕ) (call : SignalList → Answer paper.Marshalled) (old : List ℕ) where
  pub delivered_list : {r : Result ℕ Refusal} (f : Refusal) → HandedOn r f → refusal_of f ≡ under_list form xs gives → Delivered (under_list form xs call) old r old
  delivered_list {r} f h e = rw (handed_on r f h) (delivered_refused f _ old (under_refused form xs call (number_of f) (carried_of f) e))

  pub delivered_listed : (l : SignalList) {r : Result ℕ Refusal} {new : List ℕ} → gives l ≡ under_list form xs gives → Delivered (call l) old r new
      → Delivered (under_list form xs call) old r new
  delivered_listed l {r} {new} e d =
      subst (λ (a : Answer paper.Marshalled). Delivered a old r new) (under_accepted form xs call l (call l) e refl) d

-- ---- what a call tells

pub delivered_gives : (a : Answer paper.Marshalled) (old : List ℕ) (k : ℕ) (new : List ℕ) → Delivered a old (Ok k) new
    → a ≡ gives (record { octets = new; lives = k })
delivered_gives (gives m) old k new d =
    let e = d.lives in
    let q : m.lives ≡ k = cc in
    ap₂ (λ (o : List ℕ) (c : ℕ). gives (record { octets = o; lives = c })) (sym d.octets) q
delivered_gives (refused n at) old k new d = let e = d.lives in let z : ◌≡◌ {A = ℕ} 0 1 = cc in absurd (omega arith)

-- "changes no lent octet"
pub refused_keeps : (a : Answer paper.Marshalled) (old : List ℕ) (f : Refusal) (new : List ℕ) → Delivered a old (Err f) new → new ≡ old
refused_keeps (gives m) old f new d = let e = d.lives in let z : ◌≡◌ {A = ℕ} 0 1 = cc in absurd (omega arith)
refused_keeps (refused n at) old f new d = d.octets

module _ (form : ℕ) (xs store : List ℕ) (now : ℕ) (bus : List ℕ) (k : ℕ) (new : List ℕ) (d : Delivered (paper.marshalling form xs store now bus) bus (Ok k) new) where
  -- the list was accepted, the store is whole, the data are long enough, and the count and the data afterwards are the definition's
  pub marshal_tells : paper.Marshals form xs store now bus (record { octets = new; lives = k })
  marshal_tells = laws.marshals form xs store now bus _ (delivered_gives _ bus k new d)

  module _ (n : Counts) (accepted : judge form xs ≡ gives n) where
    is : marshal_tells.counts ≡ n
    is = gives_one (judge form xs) marshal_tells.counts n marshal_tells.accepted accepted

    -- DEMAND 2 of the call: each destination field holds its reading
    pub destination : let l = list_of xs n in (r : ℕ) → r < n.routes
        → field new (l.route r).start (l.signal (l.route r).signal).width ≡ (reading_at l store now (l.route r).vehicle (l.route r).signal).value
    destination = rw is at (laws.destination form xs store now bus _ marshal_tells)

    -- and every bit outside the routes is as before
    pub other_bit : let l = list_of xs n in (a : ℕ) → ((r : ℕ) → r < n.routes → (l.route r).start ≤ a → a < route_end l.signal (l.route r) → ⊥)
        → bit new a ≡ bit bus a
    other_bit = rw is at (laws.other_bit form xs store now bus _ marshal_tells)

    -- the count is the number of routes that are live, each exactly as the paper's `counted_exactly` says
    pub lives_counted : k ≡ count (paper.live (list_of xs n) store now) n.routes
    lives_counted = rw is at marshal_tells.lives

-- ---- the contract settles the answer

pub one_delivered : (a : Answer paper.Marshalled) (old : List ℕ) (r s : Result ℕ Refusal) (new other : List ℕ)
    → Delivered a old r new → Delivered a old s other → (r ≡ s) × (new ≡ other)
one_delivered a old r s new other t u =
    (one_result (λ m. m) (λ m. m) (λ m. refl) _ r s t.lives u.lives, t.octets ∙ sym u.octets)
