-- The doors summary: three states, each exactly when the request says so, and the set that kept a side from locked. Assumes nothing.
use mathlib.Core.Path.{◌≡◌, refl, sym, ap, ap₂, subst, ◌∙◌}
use mathlib.Core.Logic.{◌↔◌, ◌⊎◌, inl, inr}
use mathlib.Core.Bool.{Bool, true, false, not, cond, ◌&&◌, ◌||◌, false≢true}
use mathlib.Core.List.{List}
use Prim.Native.Nat.{ℕ, zero, suc, ◌+◌, ◌-◌, ◌/◌, ◌%◌, ◌^◌, ◌≤◌, ◌<◌}
use native.Mathlib.Decide.{dec_le}
use native.Mathlib.Omega.{arith}
use borrow.Author.Tests.{le-leb, eq-eqb, ne_eqb, leb-true, eqb-true, eqb-false, ltb-true, not-true, not-false}
use lib.Dec.{leb, ltb, eqb}
use lib.ListN.{length}
use Rattle.paper.specs.Octets.{field}
use Rattle.paper.specs.Answer.{Answer, gives, refused, refuse_if, and_then, map_answer}
use Rattle.paper.specs.First.{first_bad, all, some, count}
use Rattle.paper.specs.SignalList.{SignalList, Counts, list_of, judge, under_list}
use Rattle.paper.specs.Store.{is_store, slot_of}
use Rattle.paper.specs.Reading.{Reading, heard, reading_of, reading_at, code_of, Live}
use Rattle.paper.specs.Train.{Vehicle, Members, consist_rule, meets, member, set_to, members_of, resolving}
use Rattle.paper.specs.Doors.{left_doors, right_doors, door_of, has_door, State, locked, opened, unknown, live, says_locked, says_open, state_of, keeps, Side, side_of, Doors, doors_of, doors_by, doors, Asked, Locked, Open, EachLocked, OneOpen, OneNotLive, OneOfThree, SideExactly}
use Rattle.paper.proofs.AnswerLaws.{not_refused, and_then_lem, goes_past}
use Rattle.paper.proofs.FirstLaws.{all_true, all_at, not_all, first_fails, some_true, some_false, some_at, all_same, count_none, none_counted}
use Rattle.bools.proofs.Tests.{both, neither, other}
use Rattle.paper.proofs.FieldLaws.{field_lt}
use Rattle.paper.proofs.ReadingLaws.{live_value, live_exactly, isolation}
use Rattle.paper.proofs.SetLaws.{bits, set_lt, set_alike, even}

-- ---- tests

says_locked_lem : (r : Reading) → says_locked r ≡ true → Locked r
says_locked_lem r e = let h = both (live r) (eqb r.value 1) e in (leb-true r.reason 1 h.0, eqb-true r.value 1 h.1)

locked_says : (r : Reading) → Locked r → says_locked r ≡ true
locked_says r h = simp (le-leb r.reason 1 h.0, eq-eqb r.value 1 h.1)

says_open_lem : (r : Reading) → says_open r ≡ true → Open r
says_open_lem r e = let h = both (live r) (eqb r.value 0) e in (leb-true r.reason 1 h.0, eqb-true r.value 0 h.1)

open_says : (r : Reading) → Open r → says_open r ≡ true
open_says r h = simp (le-leb r.reason 1 h.0, eq-eqb r.value 0 h.1)

if_asked : (a b : Bool) → (a ≡ true → b ≡ true) → (not a || b) ≡ true
if_asked true b f = f refl
if_asked false b f = refl

not_kept : (a b : Bool) → (not a || b) ≡ true → (a && not b) ≡ false
not_kept true true e = refl
not_kept true false e = absurd (false≢true e)
not_kept false b e = refl

kept_not : (a b : Bool) → (a && not b) ≡ false → (not a || b) ≡ true
kept_not true true e = refl
kept_not true false e = absurd (false≢true (sym e))
kept_not false b e = refl

-- ---- the three states, of the two tests

abbrev told : Bool → Bool → State
told a o = cond a locked (cond o opened unknown)

told_locked : (a o : Bool) → (told a o ≡ locked) ↔ (a ≡ true)
told_locked true o = (λ _. refl, λ _. refl)
told_locked false true = (λ e. let z : ◌≡◌ {A = ℕ} 0 1 = cc in absurd (omega arith), λ e. absurd (false≢true e))
told_locked false false = (λ e. let z : ◌≡◌ {A = ℕ} 0 1 = cc in absurd (omega arith), λ e. absurd (false≢true e))

told_open : (a o : Bool) → (a ≡ true → o ≡ true → ⊥) → (told a o ≡ opened) ↔ (o ≡ true)
told_open true o h = (λ e. let z : ◌≡◌ {A = ℕ} 0 1 = cc in absurd (omega arith), λ e. absurd (h refl e))
told_open false true h = (λ _. refl, λ _. refl)
told_open false false h = (λ e. let z : ◌≡◌ {A = ℕ} 0 1 = cc in absurd (omega arith), λ e. absurd (false≢true e))

told_unknown : (a o : Bool) → (told a o ≡ unknown) ↔ ((a ≡ false) × (o ≡ false))
told_unknown true o = (λ e. let z : ◌≡◌ {A = ℕ} 0 1 = cc in absurd (omega arith), λ h. absurd (false≢true (sym h.0)))
told_unknown false true = (λ e. let z : ◌≡◌ {A = ℕ} 0 1 = cc in absurd (omega arith), λ h. absurd (false≢true (sym h.1)))
told_unknown false false = (λ _. (refl, refl), λ _. refl)

no_true : (b : Bool) → (b ≡ true → ⊥) → b ≡ false
no_true true h = absurd (h refl)
no_true false h = refl

-- ---- who kept a side from locked

-- vehicle v is in the set exactly if it is asked and not live and 1
pub kept_exactly : (asked : ℕ → Bool) (read : ℕ → Reading) (n v : ℕ) → 1 ≤ v → v ≤ n
    → ((side_of asked read n).kept.set / 2 ^ v % 2 ≡ 1) ↔ ((asked v ≡ true) × (Locked (read v) → ⊥))
unfolding side_of
kept_exactly asked read n v h k =
    let e = bits (keeps asked read) n v h k in (
      λ q.
          let t : keeps asked read v ≡ true = one_is (keeps asked read v) (sym e ∙ q) in
          let w = both (asked v) (not (says_locked (read v))) t in
          (w.0, λ l. false≢true (sym (not-true (says_locked (read v)) w.1) ∙ locked_says (read v) l)),
      λ w.
          let f : says_locked (read v) ≡ false = no_true (says_locked (read v)) (λ t. w.1 (says_locked_lem (read v) t)) in
          e ∙ simp (w.0, f),
    )
  where
    one_is : (b : Bool) → ◌≡◌ {A = ℕ} (cond b 1 0) 1 → b ≡ true
    one_is true q = refl
    one_is false q = absurd (omega (arith, q))

-- and no other number is in it: none above, and not 0
pub none_beside : (asked : ℕ → Bool) (read : ℕ → Reading) (n : ℕ) → ((side_of asked read n).kept.set < 2 ^ suc n) × ((side_of asked read n).kept.set % 2 ≡ 0)
unfolding side_of
none_beside asked read n = (set_lt (keeps asked read) n, even (keeps asked read) n)

-- ---- one side; a live reading of one bit is 0 or 1

module _ (asked : ℕ → Bool) (read : ℕ → Reading) (n : ℕ) (one_bit : (v : ℕ) → (read v).reason ≤ 1 → (read v).value < 2) where
  abbrev fine : ℕ → Bool
  fine i = not (asked (suc i)) || says_locked (read (suc i))

  abbrev bad : ℕ → Bool
  bad i = asked (suc i) && says_open (read (suc i))

  all_locked : all fine n ≡ true → EachLocked asked read n
  all_locked e v h =
      let q : suc (v - 1) ≡ v = omega (arith, h.0) in
      let t : (not (asked v) || says_locked (read v)) ≡ true = rw (← q) (all_at fine n e (v - 1) (omega (arith, h.0, h.1))) in
      says_locked_lem (read v) (other (not (asked v)) (says_locked (read v)) t (ap not h.2))

  each_all : EachLocked asked read n → all fine n ≡ true
  each_all h = all_true fine n (λ i l. if_asked (asked (suc i)) (says_locked (read (suc i))) (λ a. locked_says (read (suc i)) (h (suc i) (omega arith, omega arith, a))))

  some_one : some bad n ≡ true → OneOpen asked read n
  some_one e =
      let s = some_at bad n e in
      let b = both (asked (suc s.0)) (says_open (read (suc s.0))) s.1.1 in
      (suc s.0, ((omega arith, omega (arith, s.1.0), b.0), says_open_lem (read (suc s.0)) b.1))

  one_some : OneOpen asked read n → some bad n ≡ true
  one_some s =
      let v = s.0 in
      let h = s.1.0 in
      let q : suc (v - 1) ≡ v = omega (arith, h.0) in
      some_true bad n (v - 1) (omega (arith, h.0, h.1)) (rw q (simp (h.2, open_says (read v) s.1.1)))

  never_both : all fine n ≡ true → some bad n ≡ true → ⊥
  never_both e f =
      let s = some_one f in
      omega (arith, (all_locked e s.0 s.1.0).1, s.1.1.1)

  -- the first vehicle that is not locked is open, or is not live
  one_lost : all fine n ≡ false → some bad n ≡ false → OneNotLive asked read n
  one_lost e f =
      let i = first_bad fine n in
      let l : i < n = not_all fine n e in
      let h = neither (not (asked (suc i))) (says_locked (read (suc i))) (first_fails fine n l) in
      let a : asked (suc i) ≡ true = not-false (asked (suc i)) h.0 in
      let w : Asked asked n (suc i) = (omega arith, omega arith, a) in
      elim (dec_le 2 (read (suc i)).reason) [
        | yes k ↦ (suc i, (w, k))
        | no k ↦ elim (dec_le 1 (read (suc i)).value) [
          | yes m ↦ absurd (false≢true (sym h.1 ∙ locked_says (read (suc i)) (omega arith, omega (arith, one_bit (suc i) (omega arith)))))
          | no m ↦ absurd (false≢true (sym f ∙ one_some (suc i, (w, (omega arith, omega arith)))))
        ]
      ]

  pub side_exactly : SideExactly asked read n (side_of asked read n)
  unfolding side_of state_of
  side_exactly =
      record {
        when_locked = (λ e. all_locked ((told_locked (all fine n) (some bad n)).0 e), λ h. (told_locked (all fine n) (some bad n)).1 (each_all h));
        when_open = (λ e. some_one ((told_open (all fine n) (some bad n) never_both).0 e), λ h. (told_open (all fine n) (some bad n) never_both).1 (one_some h));
        when_unknown = (
          λ e. let t = (told_unknown (all fine n) (some bad n)).0 e in (λ o. false≢true (sym t.1 ∙ one_some o), one_lost t.0 t.1),
          λ h. (told_unknown (all fine n) (some bad n)).1 (
            no_true (all fine n) (λ e. omega (arith, (all_locked e h.1.0 h.1.1.0).0, h.1.1.1)),
            no_true (some bad n) (λ e. h.0 (some_one e)),
          ),
        );
        each = kept_exactly asked read n;
        beside = none_beside asked read n;
        size = refl;
        none_kept = (
          λ z. (told_locked (all fine n) (some bad n)).1 (all_true fine n (λ i l. kept_not (asked (suc i)) _ (none_counted (λ i. keeps asked read (suc i)) n z i l))),
          λ e. count_none (λ i. keeps asked read (suc i)) n (λ i l. not_kept (asked (suc i)) _ (all_at fine n ((told_locked (all fine n) (some bad n)).0 e) i l)),
        );
      }

  -- one of the three cases holds, and no two do
  pub one_of_three : OneOfThree asked read n
  one_of_three =
      record {
        one = by (all fine n) (some bad n) refl refl;
        locked_or_open = λ h o. never_both (each_all h) (one_some o);
        locked_or_lost = λ h w. omega (arith, (h w.0 w.1.0).0, w.1.1);
      }
    where
      by : (a o : Bool) → all fine n ≡ a → some bad n ≡ o
          → EachLocked asked read n ⊎ (OneOpen asked read n ⊎ ((OneOpen asked read n → ⊥) × OneNotLive asked read n))
      by true o e f = inl (all_locked e)
      by false true e f = inr (inl (some_one f))
      by false false e f = inr (inr (λ w. false≢true (sym f ∙ one_some w), one_lost e f))

-- ---- the call

-- a list that has the door has it at a signal of one bit
door_width : (l : SignalList) (place : ℕ) → has_door l place ≡ true → (l.signal (door_of l place)).width ≡ 1
door_width l place e = eqb-true (l.signal (door_of l place)).width 1 (both (ltb (door_of l place) l.signals) (eqb (l.signal (door_of l place)).width 1) e).1

door_bit_lem : (l : SignalList) (store : List ℕ) (now place v : ℕ) → has_door l place ≡ true
    → (reading_at l store now v (door_of l place)).reason ≤ 1 → (reading_at l store now v (door_of l place)).value < 2
unfolding reading_at code_of
door_bit_lem l store now place v e h =
    let k = door_of l place in
    let w : (l.signal k).width ≡ 1 = door_width l place e in
    let value = live_value l (slot_of store v) now k h in
    let small : field (slot_of store v).telegram (l.signal k).start 1 < 2 = field_lt (slot_of store v).telegram (l.signal k).start 1 in
    rw (value, w) small

map_given : {A B : Type 0} (f : A → B) (x : Answer A) (b : B) → map_answer f x ≡ gives b → (a : A) × ((x ≡ gives a) × (gives (f a) ≡ gives b))
map_given f (gives a) b e = (a, (refl, e))
map_given f (refused n at) b e = let z : ◌≡◌ {A = ℕ} 0 1 = cc in absurd (omega arith)

gives_same : {A : Type 0} (a b : A) → gives a ≡ gives b → a ≡ b
gives_same a b e = cc

-- what a summary that is given says
pub record DoorsExactly (form : ℕ) (xs store : List ℕ) (now : ℕ) (train : List Vehicle) (a : ℕ) (d : Doors) : Type 0 where
  pub counts : Counts
  pub accepted : judge form xs ≡ gives counts
  pub members : Members
  pub meets : resolving train a ≡ gives members
  pub left : SideExactly (member train a) (λ v. reading_at (list_of xs counts) store now v (door_of (list_of xs counts) left_doors)) (length train) d.left
  pub right : SideExactly (member train a) (λ v. reading_at (list_of xs counts) store now v (door_of (list_of xs counts) right_doors)) (length train) d.right

abbrev Shown : (l : SignalList) (store : List ℕ) (now : ℕ) (train : List Vehicle) (a place : ℕ) → Side → Type 0
Shown l store now train a place s = SideExactly (member train a) (λ v. reading_at l store now v (door_of l place)) (length train) s

module _ (l : SignalList) (store : List ℕ) (now : ℕ) (train : List Vehicle) (a : ℕ) where
  shown : (place : ℕ) → has_door l place ≡ true → Shown l store now train a place (side_of (member train a) (λ v. reading_at l store now v (door_of l place)) (length train))
  shown place h = side_exactly (member train a) (λ v. reading_at l store now v (door_of l place)) (length train) (λ v. door_bit_lem l store now place v h)

  sides : (d : Doors) → doors_of l store now train a ≡ d → (has_door l left_doors && has_door l right_doors) ≡ true
      → Shown l store now train a left_doors d.left × Shown l store now train a right_doors d.right
  unfolding doors_of
  sides d e t =
      let h = both (has_door l left_doors) (has_door l right_doors) t in (
        subst (Shown l store now train a left_doors) (ap (λ (x : Doors). x.left) e) (shown left_doors h.0),
        subst (Shown l store now train a right_doors) (ap (λ (x : Doors). x.right) e) (shown right_doors h.1),
      )

pub doors_exactly : (form : ℕ) (xs store : List ℕ) (now : ℕ) (train : List Vehicle) (a : ℕ) (d : Doors) → doors form xs store now train a ≡ gives d
    → DoorsExactly form xs store now train a d
unfolding doors
doors_exactly form xs store now train a d e =
    let p = and_then_lem (judge form xs) _ d e in
    let l = list_of xs p.0 in
    let q = not_refused (not (is_store store)) 5 0 _ d p.1.1 in
    let r = not_refused (not (has_door l left_doors && has_door l right_doors)) 35 0 _ d q.1 in
    let g = map_given (λ _. doors_of l store now train a) (resolving train a) d r.1 in
    let s = sides l store now train a d (gives_same _ d g.1.1) (not-false _ r.0) in
    record { counts = p.0; accepted = p.1.0; members = g.0; meets = g.1.0; left = s.0; right = s.1 }

-- 35 before 17-20: with a list that is accepted and a whole store, it is the answer exactly if a door is missing, and else the answer is
-- that of the train and the address, with the summary in place of the set
module _ (form : ℕ) (xs store : List ℕ) (now : ℕ) (train : List Vehicle) (a : ℕ) (m : Counts) (accepted : judge form xs ≡ gives m) (whole : is_store store ≡ true) where
  pub door_missing : (has_door (list_of xs m) left_doors && has_door (list_of xs m) right_doors) ≡ false → doors form xs store now train a ≡ refused 35 0
  unfolding doors refuse_if
  door_missing e = rw (accepted, whole, e)

  pub doors_there : (has_door (list_of xs m) left_doors && has_door (list_of xs m) right_doors) ≡ true
      → doors form xs store now train a ≡ map_answer (λ _. doors_of (list_of xs m) store now train a) (resolving train a)
  unfolding doors refuse_if
  doors_there e = rw (accepted, whole, e)

-- every vehicle of the consist is asked at address 66
pub all_asked : (train : List Vehicle) (v : ℕ) → member train 66 v ≡ true
unfolding member meets
all_asked train v = refl

-- so neither 19 nor 20 comes without an address
pub none_refused : (train : List Vehicle) → (eqb (length train) 0 || ltb 63 (length train)) ≡ false → consist_rule train ≡ true
    → resolving train 66 ≡ gives (members_of train 66)
unfolding resolving members_of
none_refused train e f =
    let n = neither (eqb (length train) 0) (ltb 63 (length train)) e in
    let some : length train ≡ 0 → ⊥ = eqb-false (length train) 0 n.0 in
    let size : eqb (count (λ i. member train 66 (suc i)) (length train)) 0 ≡ false
    = ne_eqb _ 0 (λ z. false≢true (sym (none_counted (λ i. member train 66 (suc i)) (length train) z 0 (omega (arith, some))) ∙ all_asked train 1)) in
    sym (goes_past _ 17 0 _ _ e (goes_past _ 18 0 _ _ (ap not f) (goes_past _ 19 0 _ _ refl (goes_past _ 20 0 _ _ size refl))))

-- ---- a vehicle never heard

-- a vehicle that is asked and never heard keeps its side from locked
module _ (l : SignalList) (store : List ℕ) (now : ℕ) (train : List Vehicle) (a place v : ℕ) (door : has_door l place ≡ true)
    (there : Asked (member train a) (length train) v) (unheard : heard (slot_of store v) ≡ false) where
  abbrev read : ℕ → Reading
  read w = reading_at l store now w (door_of l place)

  not_locked : Locked (read v) → ⊥
  unfolding reading_at
  not_locked h = false≢true (sym unheard ∙ ((live_exactly l (slot_of store v) now (door_of l place)).0 h.0).heard_from)

  pub unheard_keeps : ((side_of (member train a) read (length train)).state ≡ locked → ⊥) × ((side_of (member train a) read (length train)).kept.set / 2 ^ v % 2 ≡ 1)
  unheard_keeps = (
    λ e. not_locked ((shown l store now train a place door).when_locked.0 e v there),
    (kept_exactly (member train a) read (length train) v there.0 there.1).1 (there.2, not_locked),
  )

-- ---- no other vehicle matters

if_both : (a x y : Bool) → (a ≡ true → x ≡ y) → (a && x) ≡ (a && y)
if_both true x y f = f refl
if_both false x y f = refl

if_either : (a x y : Bool) → (a ≡ true → x ≡ y) → (not a || x) ≡ (not a || y)
if_either true x y f = f refl
if_either false x y f = refl

count_same : (p q : ℕ → Bool) (n : ℕ) → ((i : ℕ) → i < n → p i ≡ q i) → count p n ≡ count q n
unfolding count
count_same p q zero same = refl
count_same p q (suc n) same = ap₂ (λ (m : ℕ) (b : Bool). m + cond b 1 0) (count_same p q n (λ i h. same i (omega arith))) (same n (omega arith))

-- whatever else differs: the same is said where the vehicles asked are read alike
pub sides_alike : (asked : ℕ → Bool) (read other : ℕ → Reading) (n : ℕ) → ((v : ℕ) → Asked asked n v → read v ≡ other v) → side_of asked read n ≡ side_of asked other n
unfolding side_of state_of some
sides_alike asked read other n same =
    let at : (f : Reading → Bool) (i : ℕ) → i < n → (asked (suc i) && f (read (suc i))) ≡ (asked (suc i) && f (other (suc i))) =
    λ f i h. if_both (asked (suc i)) (f (read (suc i))) (f (other (suc i))) (λ a. ap f (same (suc i) (omega arith, omega arith, a))) in
    let locks : all (λ i. not (asked (suc i)) || says_locked (read (suc i))) n ≡ all (λ i. not (asked (suc i)) || says_locked (other (suc i))) n =
    all_same _ _ n (λ i h. if_either (asked (suc i)) (says_locked (read (suc i))) (says_locked (other (suc i))) (λ a. ap says_locked (same (suc i) (omega arith, omega arith, a)))) in
    let opens : all (λ i. not (asked (suc i) && says_open (read (suc i)))) n ≡ all (λ i. not (asked (suc i) && says_open (other (suc i)))) n =
    all_same _ _ n (λ i h. ap not (at says_open i h)) in
    let set : set_to (keeps asked read) n ≡ set_to (keeps asked other) n = set_alike (keeps asked read) (keeps asked other) n (λ i h. at (λ r. not (says_locked r)) i h) in
    let size : count (λ i. keeps asked read (suc i)) n ≡ count (λ i. keeps asked other (suc i)) n = count_same _ _ n (λ i h. at (λ r. not (says_locked r)) i h) in
    rw (locks, opens, set, size) refl

-- so another store with the same slots of the vehicles asked gives the same summary
pub others_unseen : (l : SignalList) (store other : List ℕ) (now : ℕ) (train : List Vehicle) (a : ℕ)
    → ((v : ℕ) → Asked (member train a) (length train) v → slot_of store v ≡ slot_of other v) → doors_of l store now train a ≡ doors_of l other now train a
unfolding doors_of
others_unseen l store other now train a same =
    let at : (k v : ℕ) → Asked (member train a) (length train) v → reading_at l store now v k ≡ reading_at l other now v k =
    λ k v h. isolation l store other now v k (same v h) in
    ap₂ (λ (x y : Side). record { left = x; right = y })
    (sides_alike (member train a) (λ v. reading_at l store now v (door_of l left_doors)) (λ v. reading_at l other now v (door_of l left_doors)) (length train) (at (door_of l left_doors)))
    (sides_alike (member train a) (λ v. reading_at l store now v (door_of l right_doors)) (λ v. reading_at l other now v (door_of l right_doors)) (length train) (at (door_of l right_doors)))

-- nor does it matter to the whole answer, as long as both stores are whole or neither is
pub others_unasked : (form : ℕ) (xs store other : List ℕ) (now : ℕ) (train : List Vehicle) (a : ℕ) → is_store store ≡ is_store other
    → ((v : ℕ) → Asked (member train a) (length train) v → slot_of store v ≡ slot_of other v) → doors form xs store now train a ≡ doors form xs other now train a
unfolding doors
others_unasked form xs store other now train a whole same =
    let under : (l : SignalList) → doors_by store now train a l ≡ doors_by other now train a l =
    λ l. ap₂ (λ (b : Bool) (d : Doors). refuse_if (not b) 5 0 (refuse_if (not (has_door l left_doors && has_door l right_doors)) 35 0 (map_answer (λ _. d) (resolving train a)))) whole
    (others_unseen l store other now train a same) in
    λ i. under_list form xs (λ l. under l i)

-- the same vehicles, asked for otherwise
pub sides_asked : (asked other : ℕ → Bool) (read : ℕ → Reading) (n : ℕ) → ((v : ℕ) → 1 ≤ v → v ≤ n → asked v ≡ other v) → side_of asked read n ≡ side_of other read n
unfolding side_of state_of some
sides_asked asked other read n same =
    let at : (i : ℕ) → i < n → asked (suc i) ≡ other (suc i) = λ i h. same (suc i) (omega arith) (omega arith) in
    let locks : all (λ i. not (asked (suc i)) || says_locked (read (suc i))) n ≡ all (λ i. not (other (suc i)) || says_locked (read (suc i))) n =
    all_same _ _ n (λ i h. ap (λ (b : Bool). not b || says_locked (read (suc i))) (at i h)) in
    let opens : all (λ i. not (asked (suc i) && says_open (read (suc i)))) n ≡ all (λ i. not (other (suc i) && says_open (read (suc i)))) n =
    all_same _ _ n (λ i h. ap (λ (b : Bool). not (b && says_open (read (suc i)))) (at i h)) in
    let set : set_to (keeps asked read) n ≡ set_to (keeps other read) n =
    set_alike (keeps asked read) (keeps other read) n (λ i h. ap (λ (b : Bool). b && not (says_locked (read (suc i)))) (at i h)) in
    let size : count (λ i. keeps asked read (suc i)) n ≡ count (λ i. keeps other read (suc i)) n =
    count_same _ _ n (λ i h. ap (λ (b : Bool). b && not (says_locked (read (suc i)))) (at i h)) in
    rw (locks, opens, set, size) refl
