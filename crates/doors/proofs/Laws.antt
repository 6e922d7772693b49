-- Laws of the summary: what each call of the library tells, and a side told vehicle by vehicle. Assumes nothing.
use Prim.Native.Nat.{ℕ, suc, ◌+◌, ◌^◌, ◌≤◌, ◌<◌}
use mathlib.Core.Path.{◌≡◌, refl, sym, ap, ap₂, ◌∙◌}
use mathlib.Core.Bool.{Bool, true, false, not, cond, ◌&&◌, ◌||◌, false≢true}
use mathlib.Core.List.{List}
use native.Mathlib.Nat.{add-zero, pow-succ'}
use native.Mathlib.Numerals.{add-one}
use native.Mathlib.Omega.{arith}
use borrow.Author.Tests.{le-leb, lt-leb, eq-eqb, ne_eqb, lt-ltb, ltb-true, ltb-false, eqb-true, eqb-false, not-true, not-false}
use lib.Count.{ones}
use lib.Dec.{leb, ltb, eqb}
use lib.ListN.{length}
use lib.Pow.{pow_mono}
use Rattle.paper.specs.Answer.{Answer, gives, refused, refuse_if, found, nothing}
use Rattle.paper.specs.First.{all, some, count}
use Rattle.paper.specs.SignalList.{SignalList, Counts, judge, list_of, place_of}
use Rattle.paper.specs.Pairs.{Entry, entry_of, finding_by, finding}
use Rattle.paper.specs.Store.{store_octets, is_store, gapping}
use Rattle.paper.specs.Reading.{Reading, reading_at, reading}
use Rattle.paper.specs.Train.{Vehicle, Members, member, set_to, members_of, resolving}
use Rattle.paper.specs.Doors.{left_doors, right_doors, door_of, has_door, State, locked, opened, unknown, says_locked, says_open, state_of, keeps, Side, side_of, Doors, doors_of, doors_by, doors}
use Rattle.paper.proofs.AnswerLaws.{not_refused, last_here, never_both, gives_one, refuses, goes_past, stays, goes_on_lem}
use Rattle.paper.proofs.FirstLaws.{all_true, all_at, some_more, some_false, none_counted}
use Rattle.paper.proofs.SetLaws.{set_lt, set_none, ones_count, bits}
use Rattle.paper.proofs.ReadingLaws.{reads_it}
use Rattle.paper.proofs.DoorsLaws.{sides_asked}
use Rattle.bools.proofs.Tests.{both, neither}
use Rattle.doors.specs.Doors.{door_on, said_by, in_set, state_by, train_summary}

-- ---- the door signals: an accepted list is searched, and a signal that is found has its entry

module _ (form : ℕ) (xs : List ℕ) (n : Counts) (accepted : judge form xs ≡ gives n) where
  sought : (place : ℕ) → finding form xs 0 place ≡ finding_by 0 place (list_of xs n)
  unfolding finding
  sought place = rw accepted

  pub not_found : (place m at : ℕ) → refused m at ≡ finding form xs 0 place → nothing ≡ door_on (list_of xs n) place
  not_found place m at e =
      let out : ltb (door_of (list_of xs n) place) n.signals ≡ false = not-true _ (last_here _ 11 0 _ m at (sym (e ∙ sought place))) in
      rw out

  pub is_found_lem : (place k : ℕ) → gives k ≡ finding form xs 0 place → (door_of (list_of xs n) place ≡ k) × (k < n.signals)
  is_found_lem place k e =
      let g = not_refused _ 11 0 _ k (sym (e ∙ sought place)) in
      let q : door_of (list_of xs n) place ≡ k = gives_one _ _ _ refl g.1 in
      (q, rw (← q) (ltb-true _ _ (not-false _ g.0)))

  has_entry : (k : ℕ) → k < n.signals
      → entry_of form xs k ≡ gives (record { signal = (list_of xs n).signal k; place = place_of (list_of xs n) ((list_of xs n).signal k) })
  unfolding entry_of refuse_if
  has_entry k h = rw (accepted, lt-ltb k n.signals h)

  pub entry_there : (k m at : ℕ) → k < n.signals → refused m at ≡ entry_of form xs k → ⊥
  entry_there k m at h e = never_both _ _ m at (has_entry k h) (sym e)

  pub entry_width : (k : ℕ) (e : Entry) → k < n.signals → gives e ≡ entry_of form xs k → ((list_of xs n).signal k).width ≡ e.signal.width
  entry_width k e h q = ap (λ (x : Entry). x.signal.width) (gives_one _ _ _ (has_entry k h) (sym q))

module _ (l : SignalList) (place k w : ℕ) (is : door_of l place ≡ k) (there : k < l.signals) (wide : (l.signal k).width ≡ w) where
  pub door_found : w ≡ 1 → found k ≡ door_on l place
  door_found e = rw (is, lt-ltb k l.signals there, eq-eqb _ 1 (wide ∙ e))

  pub door_wide : (w ≡ 1 → ⊥) → nothing ≡ door_on l place
  door_wide d = rw (is, lt-ltb k l.signals there, ne_eqb _ 1 (λ e. d (sym wide ∙ e)))

-- ---- one vehicle: it is read, since nothing refuses it

module _ (form : ℕ) (xs store : List ℕ) (now v k : ℕ) (n : Counts) (accepted : judge form xs ≡ gives n) (whole : length store ≡ store_octets)
    (first : 1 ≤ v) (last : v ≤ 63) (there : k < n.signals) where
  reads_at : reading form xs store now v k ≡ gives (reading_at (list_of xs n) store now v k)
  unfolding reading_at
  reads_at = reads_it form xs store now v k n accepted whole first last there

  pub never_refused : (m at : ℕ) → refused m at ≡ reading form xs store now v k → ⊥
  never_refused m at e = never_both _ _ m at reads_at (sym e)

  pub is_read : (r : Reading) → gives r ≡ reading form xs store now v k → r ≡ reading_at (list_of xs n) store now v k
  is_read r e = gives_one _ _ _ (sym e) reads_at

module _ (r : Reading) where
  pub said_lost : 1 < r.reason → unknown ≡ said_by r
  said_lost h = simp (lt-leb r.reason 1 h)

  pub said_locked : r.reason ≤ 1 → r.value ≡ 1 → locked ≡ said_by r
  said_locked h e = simp (le-leb r.reason 1 h, eq-eqb r.value 1 e)

  pub said_open : r.reason ≤ 1 → r.value ≡ 0 → opened ≡ said_by r
  said_open h e = simp (le-leb r.reason 1 h, ne_eqb r.value 1 (λ q. omega arith), eq-eqb r.value 0 e)

  pub said_other : r.reason ≤ 1 → (r.value ≡ 1 → ⊥) → (r.value ≡ 0 → ⊥) → unknown ≡ said_by r
  said_other h p q = simp (le-leb r.reason 1 h, ne_eqb r.value 1 p, ne_eqb r.value 0 q)

-- and back: what it alone would give says which it is
told_locked : (a o : Bool) → locked ≡ cond a locked (cond o opened unknown) → a ≡ true
told_locked true o e = refl
told_locked false true e = let z : ◌≡◌ {A = ℕ} 0 1 = cc in absurd (omega arith)
told_locked false false e = let z : ◌≡◌ {A = ℕ} 0 1 = cc in absurd (omega arith)

told_open : (a o : Bool) → opened ≡ cond a locked (cond o opened unknown) → (a ≡ false) × (o ≡ true)
told_open true o e = let z : ◌≡◌ {A = ℕ} 0 1 = cc in absurd (omega arith)
told_open false true e = (refl, refl)
told_open false false e = let z : ◌≡◌ {A = ℕ} 0 1 = cc in absurd (omega arith)

told_unknown : (a o : Bool) → unknown ≡ cond a locked (cond o opened unknown) → (a ≡ false) × (o ≡ false)
told_unknown true o e = let z : ◌≡◌ {A = ℕ} 0 1 = cc in absurd (omega arith)
told_unknown false true e = let z : ◌≡◌ {A = ℕ} 0 1 = cc in absurd (omega arith)
told_unknown false false e = (refl, refl)

-- ---- one side: what is known of the vehicles 1 to v

abbrev opens : (ℕ → Bool) → (ℕ → Reading) → ℕ → Bool
opens asked read i = asked (suc i) && says_open (read (suc i))

pub record Sofar (asked : ℕ → Bool) (read : ℕ → Reading) (v kept : ℕ) (any : Bool) : Type 0 where
  pub set : kept ≡ set_to (keeps asked read) v
  pub one : any ≡ some (opens asked read) v

module _ (asked : ℕ → Bool) (read : ℕ → Reading) where
  pub sofar_none : Sofar asked read 0 0 false
  unfolding set_to
  sofar_none = record { set = refl; one = sym (some_false (opens asked read) 0 (λ k h. absurd (omega arith))) }

  -- one vehicle more
  sofar_more : (v kept : ℕ) (any k o : Bool) → Sofar asked read v kept any → keeps asked read (suc v) ≡ k → opens asked read v ≡ o
      → Sofar asked read (v + 1) (kept + cond k (2 ^ (v + 1)) 0) (any || o)
  unfolding set_to
  sofar_more v kept any k o s p q =
      record {
        set = rw (add-one, p, ← s.set);
        one = sym (some_more (opens asked read) v ∙ ap₂ ◌||◌ (sym s.one) q);
      }

  -- no room is lacking for it
  pub sofar_fits : (v kept : ℕ) (any : Bool) → Sofar asked read v kept any → v + 1 ≤ 63 → kept + 2 ^ (v + 1) < 2 ^ 64
  sofar_fits v kept any s h =
      let small : kept < 2 ^ suc v = rw s.set (set_lt (keeps asked read) v) in
      let top : 2 ^ suc (suc v) ≤ 2 ^ 64 = pow_mono {i = suc (suc v)} {j = 64} (omega arith) in
      rw add-one (omega (arith, pow-succ' 2 (suc v)))

module _ (asked : ℕ → Bool) (read : ℕ → Reading) (v kept : ℕ) (any : Bool) (s : Sofar asked read v kept any) where
  or-false : (b : Bool) → (b || false) ≡ b
  or-false true = refl
  or-false false = refl

  or-true : (b : Bool) → (b || true) ≡ true
  or-true true = refl
  or-true false = refl

  -- it is not asked, or it is locked
  pub sofar_passed : asked (v + 1) ≡ false → Sofar asked read (v + 1) kept any
  sofar_passed e =
      let a : asked (suc v) ≡ false = rw add-one at e in
      simp (add-zero, or-false) at (sofar_more asked read v kept any false false s (rw a) (rw a))

  module _ (is : asked (v + 1) ≡ true) where
    abbrev is' : asked (suc v) ≡ true
    is' = rw add-one at is

    pub sofar_locked : locked ≡ said_by (read (v + 1)) → Sofar asked read (v + 1) kept any
    sofar_locked e =
        let l : says_locked (read (suc v)) ≡ true = told_locked _ (says_open (read (suc v))) (rw add-one at e) in
        let z : says_open (read (suc v)) ≡ false = not_open l in
        simp (add-zero, or-false) at (sofar_more asked read v kept any false false s (rw (is', l)) (rw (is', z)))
      where
        not_open : says_locked (read (suc v)) ≡ true → says_open (read (suc v)) ≡ false
        not_open e =
            let h = both (leb (read (suc v)).reason 1) (eqb (read (suc v)).value 1) e in
            let q : (read (suc v)).value ≡ 1 = eqb-true _ 1 h.1 in
            simp (h.0, ne_eqb (read (suc v)).value 0 (λ z. omega arith))

    pub sofar_open : opened ≡ said_by (read (v + 1)) → Sofar asked read (v + 1) (kept + 2 ^ (v + 1)) true
    sofar_open e =
        let t = told_open (says_locked (read (suc v))) (says_open (read (suc v))) (rw add-one at e) in
        simp or-true at (sofar_more asked read v kept any true true s (rw (is', t.0)) (rw (is', t.1)))

    pub sofar_unknown : unknown ≡ said_by (read (v + 1)) → Sofar asked read (v + 1) (kept + 2 ^ (v + 1)) any
    sofar_unknown e =
        let t = told_unknown (says_locked (read (suc v))) (says_open (read (suc v))) (rw add-one at e) in
        simp or-false at (sofar_more asked read v kept any true false s (rw (is', t.0)) (rw (is', t.1)))

-- all of them: the side
module _ (asked : ℕ → Bool) (read : ℕ → Reading) (n kept : ℕ) (any : Bool) (s : Sofar asked read n kept any) where
  abbrev fine : ℕ → Bool
  fine i = not (asked (suc i)) || says_locked (read (suc i))

  kept_not : (a b : Bool) → (a && not b) ≡ false → (not a || b) ≡ true
  kept_not true true e = refl
  kept_not true false e = absurd (false≢true (sym e))
  kept_not false b e = refl

  not_kept : (a b : Bool) → (not a || b) ≡ true → (a && not b) ≡ false
  not_kept true true e = refl
  not_kept true false e = absurd (false≢true e)
  not_kept false b e = refl

  size_is : ones kept ≡ count (λ i. keeps asked read (suc i)) n
  size_is = ap ones s.set ∙ ones_count (keeps asked read) n

  ones_none : kept ≡ 0 → ones kept ≡ 0
  unfolding ones
  ones_none e = rw e

  -- nobody kept it from locked exactly if each is locked
  none_kept : eqb kept 0 ≡ all fine n
  none_kept = by (eqb kept 0) (all fine n) refl refl
    where
      by : (a b : Bool) → eqb kept 0 ≡ a → all fine n ≡ b → eqb kept 0 ≡ all fine n
      by true b e q =
          let z : count (λ i. keeps asked read (suc i)) n ≡ 0 = sym size_is ∙ ones_none (eqb-true kept 0 e) in
          e ∙ sym (all_true fine n (λ i h. kept_not (asked (suc i)) _ (none_counted (λ i. keeps asked read (suc i)) n z i h)))
      by false true e q =
          let z : 0 ≡ set_to (keeps asked read) n = set_none (keeps asked read) n (λ i h. not_kept (asked (suc i)) _ (all_at fine n q i h)) in
          absurd (eqb-false kept 0 e (s.set ∙ sym z))
      by false false e q = e ∙ sym q

  pub sofar_side : (state : State) (k size : ℕ) → k ≡ kept → size ≡ ones kept → state ≡ state_by kept any
      → ◌≡◌ {A = Side} (record { state = state; kept = record { set = k; size = size } }) (side_of asked read n)
  unfolding side_of state_of
  sofar_side state k size p q e =
      rw (p, q, e, none_kept, size_is, s.one, s.set)

-- ---- the train: who meets the address are the bits of the set, over at most 63 vehicles

module _ (train : List Vehicle) (a : ℕ) (m : Members) (e : gives m ≡ resolving train a) where
  resolved : (length train ≤ 63) × (members_of train a ≡ m)
  unfolding resolving
  resolved =
      let p = not_refused _ 17 0 _ m (sym e) in
      let q = not_refused _ 18 0 _ m p.1 in
      let r = not_refused _ 19 0 _ m q.1 in
      let s = not_refused _ 20 0 _ m r.1 in
      (ltb-false 63 (length train) (neither (eqb (length train) 0) (ltb 63 (length train)) p.0).1, gives_one _ _ _ refl s.1)

  pub few : length train ≤ 63
  few = resolved.0

  in_set_lem : (v : ℕ) → 1 ≤ v → v ≤ length train → in_set m.set v ≡ member train a v
  unfolding members_of
  in_set_lem v h k =
      let s : set_to (member train a) (length train) ≡ m.set = ap (λ (x : Members). x.set) resolved.1 in
      ap (λ (x : ℕ). in_set x v) (sym s) ∙ ap (λ (x : ℕ). eqb x 1) (bits (member train a) (length train) v h k) ∙ digit_is (member train a v)
    where
      digit_is : (b : Bool) → eqb (cond b 1 0) 1 ≡ b
      digit_is true = refl
      digit_is false = refl

  pub by_members : (l : SignalList) (store : List ℕ) (now left right n : ℕ) (x y : Side) → n ≡ length train
      → x ≡ side_of (in_set m.set) (λ v. reading_at l store now v left) n
      → y ≡ side_of (in_set m.set) (λ v. reading_at l store now v right) n
      → gives (record { left = x; right = y }) ≡ train_summary l store now train a left right
  unfolding train_summary
  by_members l store now left right n x y q p r =
      let same : (k : ℕ) → side_of (in_set m.set) (λ v. reading_at l store now v k) (length train) ≡ side_of (member train a) (λ v. reading_at l store now v k) (length train) =
      λ k. sides_asked (in_set m.set) (member train a) (λ v. reading_at l store now v k) (length train) in_set_lem in
      rw (← e, p, r, q, same left, same right)

pub by_nobody : (l : SignalList) (store : List ℕ) (now : ℕ) (train : List Vehicle) (a left right m at : ℕ) → refused m at ≡ resolving train a
    → refused m at ≡ train_summary l store now train a left right
unfolding train_summary
by_nobody l store now train a left right m at e = rw (← e)

-- ---- the list: 5, then 35, then what the train says

-- the gap of vehicle 1 is refused exactly for the store's length
pub gap_refused : (store : List ℕ) (now : ℕ) (train : List Vehicle) (a : ℕ) (l : SignalList) (m at : ℕ) → refused m at ≡ gapping store 1
    → refused m at ≡ doors_by store now train a l
unfolding gapping refuse_if
gap_refused store now train a l m at e = by (is_store store) _ _ e
  where
    by : (b : Bool) (g : ℕ) (rest : Answer Doors) → ◌≡◌ {A = Answer ℕ} (refused m at) (refuse_if (not b) 5 0 (gives g)) → refused m at ≡ refuse_if (not b) 5 0 rest
    by true g rest q = absurd (never_both (gives g) g m at refl (sym q))
    by false g rest q =
        let n : m ≡ 5 = cc in
        let o : at ≡ 0 = cc in
        ap₂ refused n o

pub gap_given : (store : List ℕ) (g : ℕ) → gives g ≡ gapping store 1 → is_store store ≡ true
unfolding gapping
gap_given store g e = not-false _ (not_refused _ 5 0 _ g (sym e)).0

-- what a door's answer tells
pub door_missing : (l : SignalList) (place : ℕ) → nothing ≡ door_on l place → has_door l place ≡ false
door_missing l place e = by (has_door l place) (door_of l place) e
  where
    by : (b : Bool) (k : ℕ) → nothing ≡ cond b (found k) nothing → b ≡ false
    by true k q = let z : ◌≡◌ {A = ℕ} 0 1 = cc in absurd (omega arith)
    by false k q = refl

pub door_there : (l : SignalList) (place k : ℕ) → found k ≡ door_on l place → (has_door l place ≡ true) × (door_of l place ≡ k)
door_there l place k e = by (has_door l place) (door_of l place) e
  where
    by : (b : Bool) (d : ℕ) → found k ≡ cond b (found d) nothing → (b ≡ true) × (d ≡ k)
    by true d q = (refl, cc)
    by false d q = let z : ◌≡◌ {A = ℕ} 0 1 = cc in absurd (omega arith)

pub door_low : (l : SignalList) (place k : ℕ) → found k ≡ door_on l place → k < l.signals
door_low l place k e =
    let d = door_there l place k e in
    rw (← d.1) (ltb-true _ _ (both (ltb (door_of l place) l.signals) (eqb (l.signal (door_of l place)).width 1) d.0).0)

module _ (store : List ℕ) (now : ℕ) (train : List Vehicle) (a : ℕ) (l : SignalList) (whole : is_store store ≡ true) where
  pub left_missing : nothing ≡ door_on l left_doors → refused 35 0 ≡ doors_by store now train a l
  left_missing e = goes_past _ 5 0 _ _ (ap not whole) (refuses _ 35 0 _ (rw (door_missing l left_doors e)))

  pub right_missing : nothing ≡ door_on l right_doors → refused 35 0 ≡ doors_by store now train a l
  right_missing e = goes_past _ 5 0 _ _ (ap not whole) (refuses _ 35 0 _ (missing (has_door l left_doors) (has_door l right_doors) (door_missing l right_doors e)))
    where
      missing : (x y : Bool) → y ≡ false → not (x && y) ≡ true
      missing true y q = ap not q
      missing false y q = refl

  pub both_there : (left right : ℕ) (x : Answer Doors) → found left ≡ door_on l left_doors → found right ≡ door_on l right_doors
      → x ≡ train_summary l store now train a left right → x ≡ doors_by store now train a l
  unfolding train_summary doors_of
  both_there left right x p q e =
      let f = door_there l left_doors left p in
      let g = door_there l right_doors right q in
      goes_past _ 5 0 _ _ (ap not whole) (goes_past _ 35 0 _ _ (rw (f.0, g.0)) (rw (f.1, g.1) e))

-- ---- the call

pub summary_refused : (form : ℕ) (xs store : List ℕ) (now : ℕ) (train : List Vehicle) (a m at : ℕ) → refused m at ≡ judge form xs
    → refused m at ≡ doors form xs store now train a
unfolding doors
summary_refused form xs store now train a m at e = stays m at (judge form xs) _ e

pub summary_given : (form : ℕ) (xs store : List ℕ) (now : ℕ) (train : List Vehicle) (a : ℕ) (n : Counts) (x : Answer Doors) → gives n ≡ judge form xs
    → x ≡ doors_by store now train a (list_of xs n) → x ≡ doors form xs store now train a
unfolding doors
summary_given form xs store now train a n x e q = goes_on_lem n (judge form xs) _ x e q
