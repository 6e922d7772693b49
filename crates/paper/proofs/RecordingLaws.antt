-- A supplier's recording: a step is accepted exactly if its data after are what marshalling gives, the bit that is named is the first that differs, and
-- it lies in the route that is named. Assumes nothing.
use Prim.Native.Nat.{ℕ, suc, ◌+◌, ◌*◌, ◌≤◌, ◌<◌}
use mathlib.Core.Path.{◌≡◌, refl, sym, ap, ap₂, ◌∙◌}
use mathlib.Core.Logic.{◌↔◌, ◌⊎◌, inl, inr, ⊎_elim}
use mathlib.Core.Bool.{Bool, true, false, not, cond, ◌&&◌, ◌||◌}
use mathlib.Core.List.{List, [], ◌∷◌, ◌++◌}
use native.Mathlib.Omega.{arith}
use lib.ListN.{length, get_or}
use lib.Seq.{ext_get_or}
use lib.Dec.{ltb, eqb}
use borrow.Author.Tests.{lt-ltb, le-ltb, le-leb, lt-leb, eq-eqb, ne_eqb, ltb-true, ltb-false, leb-true, leb-false, eqb-true, eqb-false, not-false}
use Rattle.bools.proofs.Tests.{both, either}
use Rattle.paper.specs.Octets.{bit, Octets}
use Rattle.paper.specs.Answer.{Answer, gives, refused, and_then}
use Rattle.paper.specs.First.{first_bad}
use Rattle.paper.specs.SignalList.{SignalList, Counts, route_end, judge, list_of}
use Rattle.paper.specs.Marshalling.{routed, route_put, marshalled, Marshalled, marshalling_by, marshalling}
use Rattle.paper.specs.Accepted.{Kept}
use Rattle.paper.specs.Recordings.{Step, Place, in_route, outside, Finding, right, wrong, lies_in, route_with, located, first_wrong, finding, same_octets, follows, most_steps, checking_by, checking, Course, going, ended, onward_by, onward, judged, accepted, named, of_list, concluded, recording}
use Rattle.paper.specs.Recordings.{LiesIn, Follows, Names, Checked, Right, Wrong, AllRight, last_after, FirstNamed, OctetSteps, Next, OurSteps}
use Rattle.paper.proofs.AnswerLaws.{not_refused, and_then_lem, gives_one, goes_on_lem, goes_past, refuses}
use Rattle.paper.proofs.FirstLaws.{first_here, first_none, first_passed, first_fails, all_true, all_at}
use Rattle.paper.proofs.FieldLaws.{ext_bit}
use Rattle.paper.proofs.PutsLaws.{length_puts, octets_puts}
use Rattle.paper.proofs.ListLaws.{kept, routes_apart}
use Rattle.paper.proofs.MarshallingLaws.{marshals}

-- ---- where a bit lies

module _ (l : SignalList) (a : ℕ) where
  held : (r : ℕ) → lies_in l a r ≡ true → ((l.route r).start ≤ a) × (a < route_end l.signal (l.route r))
  held r e = let q = both _ _ e in (leb-true _ _ q.0, ltb-true _ _ q.1)

  is_held : (r : ℕ) → (l.route r).start ≤ a → a < route_end l.signal (l.route r) → lies_in l a r ≡ true
  is_held r lo hi = ap₂ (λ (x y : Bool). x && y) (le-leb _ _ lo) (lt-ltb _ _ hi)

  -- the bit lies in the route that is found
  pub found_lies : route_with l a < l.routes → LiesIn l a (route_with l a)
  unfolding route_with
  found_lies lt = let q = held _ (not-false _ (first_fails (λ r. not (lies_in l a r)) l.routes lt)) in (lt, q.0, q.1)

  -- the route that it lies in is the one that is found: routes share no bit
  pub lies_found : Kept l → (r : ℕ) → LiesIn l a r → route_with l a ≡ r
  unfolding route_with
  lies_found h r (lt, lo, hi) =
      first_here (λ r. not (lies_in l a r)) l.routes r lt
      (λ j less. ap not (off j (lies_in l a j) refl less)) (ap not (is_held r lo hi))
    where
      off : (j : ℕ) (b : Bool) → lies_in l a j ≡ b → j < r → b ≡ false
      off j false e less = refl
      off j true e less = let q = held j e in absurd (omega (arith, q.0, q.1, routes_apart l h j r less lt))

  -- "the route it lies in with the reason our reading gives, or neither"
  module _ (h : Kept l) (store : List ℕ) (now : ℕ) where
    -- a bit that lies in a route is said to, with the reason of what the route reads
    pub in_route_lem : (r : ℕ) → LiesIn l a r → located l store now a ≡ in_route r (routed l store now r).reason
    unfolding located
    in_route_lem r q = rw (lies_found h r q, lt-ltb r l.routes q.0) refl

    -- and one that is said to does
    pub route_of_lem : (r reason : ℕ) → located l store now a ≡ in_route r reason → LiesIn l a r × (reason ≡ (routed l store now r).reason)
    unfolding located
    route_of_lem r reason = by (ltb (route_with l a) l.routes) refl
      where
        by : (b : Bool) → ltb (route_with l a) l.routes ≡ b → cond b (in_route (route_with l a) (routed l store now (route_with l a)).reason) outside ≡ in_route r reason
            → LiesIn l a r × (reason ≡ (routed l store now r).reason)
        by true t e =
            let q : route_with l a ≡ r = cc in
            let p : (routed l store now (route_with l a)).reason ≡ reason = cc in
            (rw q at (found_lies (ltb-true _ _ t)), sym p ∙ ap (λ (x : ℕ). (routed l store now x).reason) q)
        by false t e = let z : ◌≡◌ {A = ℕ} 0 1 = cc in absurd (omega arith)

    -- a bit that lies in no route is said to lie in none
    pub in_none : ((r : ℕ) → LiesIn l a r → ⊥) → located l store now a ≡ outside
    unfolding located
    in_none out = by (ltb (route_with l a) l.routes) refl
      where
        by : (b : Bool) → ltb (route_with l a) l.routes ≡ b → cond b (in_route (route_with l a) (routed l store now (route_with l a)).reason) outside ≡ outside
        by true t = absurd (out _ (found_lies (ltb-true _ _ t)))
        by false t = refl

    -- and one that is said to does
    pub none_of : located l store now a ≡ outside → (r : ℕ) → LiesIn l a r → ⊥
    none_of e r q = let e' = in_route_lem r q in let z : ◌≡◌ {A = ℕ} 0 1 = cc in omega arith

-- ---- the first wrong bit

module _ (l : SignalList) (store : List ℕ) (now : ℕ) (ours after : List ℕ) where
  abbrev alike : ℕ → Bool
  alike a = eqb (bit after a) (bit ours a)

  -- nothing is named exactly if every bit agrees, those outside the routes included
  pub right_exactly : (finding l store now ours after ≡ right) ↔ ((a : ℕ) → a < 8 * length after → bit after a ≡ bit ours a)
  unfolding finding first_wrong
  right_exactly = (to, from)
    where
      to : finding l store now ours after ≡ right → (a : ℕ) → a < 8 * length after → bit after a ≡ bit ours a
      to = by (ltb (first_bad alike (8 * length after)) (8 * length after)) refl
        where
          by : (b : Bool) → ltb (first_bad alike (8 * length after)) (8 * length after) ≡ b
              → cond b (wrong (first_bad alike (8 * length after)) (located l store now (first_bad alike (8 * length after)))) right ≡ right
              → (a : ℕ) → a < 8 * length after → bit after a ≡ bit ours a
          by true t e a h = let z : ◌≡◌ {A = ℕ} 0 1 = cc in absurd (omega arith)
          by false t e a h = eqb-true (bit after a) (bit ours a) (first_passed alike (8 * length after) a (omega (arith, ltb-false (first_bad alike (8 * length after)) (8 * length after) t)))

      from : ((a : ℕ) → a < 8 * length after → bit after a ≡ bit ours a) → finding l store now ours after ≡ right
      from each = rw (first_none alike (8 * length after) (λ a h. eq-eqb (bit after a) (bit ours a) (each a h)), le-ltb (8 * length after) (8 * length after) (omega arith)) refl

  -- the bit that is named differs, and every bit before it agrees
  pub names_first : (a : ℕ) (p : Place) → finding l store now ours after ≡ wrong a p → Names l store now ours after a p
  unfolding finding first_wrong
  names_first a p = by (ltb (first_bad alike (8 * length after)) (8 * length after)) refl
    where
      by : (b : Bool) → ltb (first_bad alike (8 * length after)) (8 * length after) ≡ b
          → cond b (wrong (first_bad alike (8 * length after)) (located l store now (first_bad alike (8 * length after)))) right ≡ wrong a p
          → Names l store now ours after a p
      by true t e =
          let q : first_bad alike (8 * length after) ≡ a = cc in
          let z : located l store now (first_bad alike (8 * length after)) ≡ p = cc in
          let lt = ltb-true (first_bad alike (8 * length after)) (8 * length after) t in
          record {
            inside = rw q at lt;
            differs = eqb-false (bit after a) (bit ours a) (ap alike (sym q) ∙ first_fails alike (8 * length after) lt);
            agree = λ b h. eqb-true (bit after b) (bit ours b) (first_passed alike (8 * length after) b (rw q h));
            place = sym z ∙ ap (located l store now) q;
          }
      by false t e = let z : ◌≡◌ {A = ℕ} 0 1 = cc in absurd (omega arith)

  -- and no other bit is named: how code shows what it found
  pub named_is : (a : ℕ) → a < 8 * length after → (bit after a ≡ bit ours a → ⊥) → ((b : ℕ) → b < a → bit after b ≡ bit ours b)
      → finding l store now ours after ≡ wrong a (located l store now a)
  unfolding finding first_wrong
  named_is a lt ne agree =
      rw (
        first_here alike (8 * length after) a lt (λ b h. eq-eqb (bit after b) (bit ours b) (agree b h)) (ne_eqb (bit after a) (bit ours a) ne),
        lt-ltb a (8 * length after) lt,
      )
      refl

-- ---- following on

-- the test of two areas tells exactly whether they are the same octets
pub same_octets_lem : (xs ys : List ℕ) → (same_octets xs ys ≡ true) ↔ (xs ≡ ys)
unfolding same_octets
same_octets_lem xs ys = (to, from)
  where
    to : same_octets xs ys ≡ true → xs ≡ ys
    to e =
        let q = both _ _ e in
        ext_get_or 0 xs ys (eqb-true _ _ q.0) (λ i h. eqb-true _ _ (all_at (λ i. eqb (get_or xs i 0) (get_or ys i 0)) (length xs) q.1 i h))

    from : xs ≡ ys → same_octets xs ys ≡ true
    from e =
        rw e (ap₂ (λ (x y : Bool). x && y) (eq-eqb (length ys) (length ys) refl) (all_true (λ i. eqb (get_or ys i 0) (get_or ys i 0)) (length ys) (λ i h. eq-eqb (get_or ys i 0) (get_or ys i 0) refl)))

-- "a step's data before must be the last one's data after"
pub follows_exactly : (k : ℕ) (last before : List ℕ) → (follows k last before ≡ true) ↔ Follows k last before
follows_exactly k last before = (to, from)
  where
    to : follows k last before ≡ true → Follows k last before
    to e = ⊎_elim (λ q. inl (eqb-true _ _ q)) (λ q. inr ((same_octets_lem last before).0 q)) (either _ _ e)

    from : Follows k last before → follows k last before ≡ true
    from (inl e) = rw e
    from (inr e) = by (eqb k 0) ((same_octets_lem last before).1 e)
      where
        by : (b : Bool) → same_octets last before ≡ true → (b || same_octets last before) ≡ true
        by true q = refl
        by false q = q

-- ---- a step

module _ (form : ℕ) (xs : List ℕ) where
  -- under an accepted list, marshalling is what is behind 1-4
  under_list_lem : (n : Counts) (store : List ℕ) (now : ℕ) (bus : List ℕ) → judge form xs ≡ gives n → marshalling form xs store now bus ≡ marshalling_by store now bus (list_of xs n)
  unfolding marshalling
  under_list_lem n store now bus e = rw e

  -- what a step that is not refused tells
  pub checked : (k : ℕ) (last : List ℕ) (s : Step) (f : Finding) → checking form xs k last s ≡ gives f → Checked form xs k last s f
  unfolding checking
  checked k last s f e =
      let a = not_refused _ _ _ _ _ e in
      let o = and_then_lem (judge form xs) _ f a.1 in
      let m = and_then_lem (marshalling_by s.store s.clock s.before (list_of xs o.0)) _ f o.1.1 in
      let b = not_refused _ _ _ _ _ m.1.1 in
      let c = not_refused _ _ _ _ _ b.1 in
      record {
        few = leb-false most_steps k a.0;
        counts = o.0;
        listed = o.1.0;
        given = m.0;
        ours = under_list_lem o.0 s.store s.clock s.before o.1.0 ∙ m.1.0;
        long = eqb-true _ _ (not-false _ b.0);
        on = (follows_exactly k last s.before).0 (not-false _ c.0);
        found = gives_one _ _ _ c.1 refl;
      }

  -- and what meets that is not refused
  pub checks_it : (k : ℕ) (last : List ℕ) (s : Step) (f : Finding) → Checked form xs k last s f → checking form xs k last s ≡ gives f
  unfolding checking
  checks_it k last s f h =
      sym
      (goes_past _ 38 0 _ _ (lt-leb most_steps k h.few)
      (goes_on_lem _ _ _ _ (sym h.listed)
      (goes_on_lem _ _ _ _ (sym (sym (under_list_lem h.counts s.store s.clock s.before h.listed) ∙ h.ours))
      (goes_past _ 36 0 _ _ (ap not (eq-eqb (length s.after) (length s.before) h.long))
      (goes_past _ 37 0 _ _ (ap not ((follows_exactly k last s.before).1 h.on))
      (ap gives h.found))))))

  -- what marshalling gives is as long as the data before
  pub given_long : (store : List ℕ) (now : ℕ) (bus : List ℕ) (m : Marshalled) → marshalling form xs store now bus ≡ gives m → length m.octets ≡ length bus
  unfolding marshalled
  given_long store now bus m e =
      let h = marshals form xs store now bus m e in
      ap length h.octets ∙ length_puts (route_put (list_of xs h.counts) store now) bus h.counts.routes

  -- and of octets
  pub given_octets : (store : List ℕ) (now : ℕ) (bus : List ℕ) (m : Marshalled) → marshalling form xs store now bus ≡ gives m → Octets bus → Octets m.octets
  unfolding marshalled
  given_octets store now bus m e o =
      let h = marshals form xs store now bus m e in
      rw h.octets (octets_puts (route_put (list_of xs h.counts) store now) bus h.counts.routes o)

module _ (form : ℕ) (xs : List ℕ) (k : ℕ) (last : List ℕ) (s : Step) where
  is_right_lem : Octets s.before → Octets s.after → checking form xs k last s ≡ gives right → Right form xs k last s
  is_right_lem o p e =
      let h = checked form xs k last s right e in
      let long = h.long ∙ sym (given_long form xs s.store s.clock s.before h.given h.ours) in
      let each = (right_exactly (list_of xs h.counts) s.store s.clock h.given.octets s.after).0 (sym h.found) in
      record {
        few = h.few;
        given = h.given;
        ours = h.ours;
        same = sym (ext_bit s.after h.given.octets long p (given_octets form xs s.store s.clock s.before h.given h.ours o) each);
        on = h.on;
      }

  -- a step whose data after are what marshalling gives is accepted, of any lists of numbers
  pub right_is : Right form xs k last s → checking form xs k last s ≡ gives right
  right_is h =
      let m = marshals form xs s.store s.clock s.before h.given h.ours in
      checks_it form xs k last s right
      (record {
        few = h.few;
        counts = m.counts;
        listed = m.accepted;
        given = h.given;
        ours = h.ours;
        long = sym (ap length h.same) ∙ given_long form xs s.store s.clock s.before h.given h.ours;
        on = h.on;
        found = sym ((right_exactly (list_of xs m.counts) s.store s.clock h.given.octets s.after).1 (λ a lt. rw h.same refl));
      })

  -- "Accept the data after exactly if it is what our rules give, bits outside the routes included."
  pub accepted_exactly : Octets s.before → Octets s.after → (checking form xs k last s ≡ gives right) ↔ Right form xs k last s
  accepted_exactly o p = (is_right_lem o p, right_is)

  wrong_tells : (a : ℕ) (p : Place) → checking form xs k last s ≡ gives (wrong a p) → Wrong form xs k last s a p
  wrong_tells a p e =
      let h = checked form xs k last s (wrong a p) e in
      let l = list_of xs h.counts in
      let n = names_first l s.store s.clock h.given.octets s.after a p (sym h.found) in
      let good = kept form xs h.counts h.listed in
      record {
        few = h.few;
        counts = h.counts;
        listed = h.listed;
        given = h.given;
        ours = h.ours;
        long = h.long;
        on = h.on;
        inside = n.inside;
        differs = n.differs;
        agree = n.agree;
        in_it = λ r reason. (
          λ q. route_of_lem l a good s.store s.clock r reason (sym n.place ∙ q),
          λ q. n.place ∙ in_route_lem l a good s.store s.clock r q.0 ∙ ap (in_route r) (sym q.1),
        );
        in_no = (λ q. none_of l a good s.store s.clock (sym n.place ∙ q), λ q. n.place ∙ in_none l a good s.store s.clock q);
      }

  -- what is said of a bit's place by the routes is where it lies
  placed : (a : ℕ) (p : Place) (h : Wrong form xs k last s a p) → located (list_of xs h.counts) s.store s.clock a ≡ p
  placed a p h = by (located (list_of xs h.counts) s.store s.clock a) refl
    where
      good : Kept (list_of xs h.counts)
      good = kept form xs h.counts h.listed

      by : (q : Place) → located (list_of xs h.counts) s.store s.clock a ≡ q → q ≡ p
      by (in_route r reason) e = sym ((h.in_it r reason).1 (route_of_lem (list_of xs h.counts) a good s.store s.clock r reason e))
      by outside e = sym (h.in_no.1 (none_of (list_of xs h.counts) a good s.store s.clock e))

  tells_wrong : (a : ℕ) (p : Place) → Wrong form xs k last s a p → checking form xs k last s ≡ gives (wrong a p)
  tells_wrong a p h =
      checks_it form xs k last s (wrong a p)
      (record {
        few = h.few;
        counts = h.counts;
        listed = h.listed;
        given = h.given;
        ours = h.ours;
        long = h.long;
        on = h.on;
        found =
            sym
            (named_is (list_of xs h.counts) s.store s.clock h.given.octets s.after a h.inside h.differs h.agree
            ∙ ap (wrong a) (placed a p h));
      })

  -- "If not, name the first wrong bit, and the route it lies in with the reason our reading gives, or neither."
  pub wrong_exactly : (a : ℕ) (p : Place) → (checking form xs k last s ≡ gives (wrong a p)) ↔ Wrong form xs k last s a p
  wrong_exactly a p = (wrong_tells a p, tells_wrong a p)

  -- "38 a 1,001st step is handed in", whatever the step
  pub thousand_first : most_steps ≤ k → checking form xs k last s ≡ refused 38 0
  unfolding checking
  thousand_first most = sym (refuses _ 38 0 _ (le-leb most_steps k most))

  -- "then 1-5 and 12": as marshalling the data before has them
  pub marshalling_next : (n at : ℕ) → k < most_steps → marshalling form xs s.store s.clock s.before ≡ refused n at → checking form xs k last s ≡ refused n at
  unfolding checking marshalling
  marshalling_next n at few e = sym (goes_past _ 38 0 _ _ (lt-leb most_steps k few) (by (judge form xs) e))
    where
      by : (a : Answer Counts) → and_then a (λ c. marshalling_by s.store s.clock s.before (list_of xs c)) ≡ refused n at
          → refused n at ≡ and_then a (λ c. checking_by k last s (list_of xs c))
      by (gives c) q = rw q
      by (refused i j) q = let x : i ≡ n = cc in let y : j ≡ at = cc in rw (x, y)

  -- "36 the two data areas differ in length"
  pub lengths_next : (m : Marshalled) → k < most_steps → marshalling form xs s.store s.clock s.before ≡ gives m
      → (length s.after ≡ length s.before → ⊥) → checking form xs k last s ≡ refused 36 0
  unfolding checking
  lengths_next m few e ne =
      let h = marshals form xs s.store s.clock s.before m e in
      sym
      (goes_past _ 38 0 _ _ (lt-leb most_steps k few)
      (goes_on_lem _ _ _ _ (sym h.accepted)
      (goes_on_lem _ _ _ _ (sym (sym (under_list_lem form xs h.counts s.store s.clock s.before h.accepted) ∙ e))
      (refuses _ 36 0 _ (ap not (ne_eqb (length s.after) (length s.before) ne))))))

  -- "37 a step doesn't follow on"
  pub following_last : (m : Marshalled) → k < most_steps → marshalling form xs s.store s.clock s.before ≡ gives m
      → length s.after ≡ length s.before → (Follows k last s.before → ⊥) → checking form xs k last s ≡ refused 37 0
  unfolding checking
  following_last m few e long off =
      let h = marshals form xs s.store s.clock s.before m e in
      sym
      (goes_past _ 38 0 _ _ (lt-leb most_steps k few)
      (goes_on_lem _ _ _ _ (sym h.accepted)
      (goes_on_lem _ _ _ _ (sym (sym (under_list_lem form xs h.counts s.store s.clock s.before h.accepted) ∙ e))
      (goes_past _ 36 0 _ _ (ap not (eq-eqb (length s.after) (length s.before) long))
      (refuses _ 37 0 _ (by (follows k last s.before) refl))))))
    where
      by : (b : Bool) → follows k last s.before ≡ b → not b ≡ true
      by true q = absurd (off ((follows_exactly k last s.before).0 q))
      by false q = refl

-- our own marshalling's data, as a step, are accepted
pub own_accepted : (form : ℕ) (xs store : List ℕ) (now : ℕ) (bus : List ℕ) (m : Marshalled) → marshalling form xs store now bus ≡ gives m
    → (k : ℕ) (last : List ℕ) → k < most_steps → Follows k last bus
    → checking form xs k last (record { store = store; clock = now; before = bus; after = m.octets }) ≡ gives right
own_accepted form xs store now bus m e k last few on =
    right_is form xs k last (record { store = store; clock = now; before = bus; after = m.octets }) (record { few = few; given = m; ours = e; same = refl; on = on })

-- ---- a recording

module _ (form : ℕ) (xs : List ℕ) where
  -- "the first step refused or wrong is named and ends the judging": whatever steps follow
  pub stays_ended : (k : ℕ) (x : Answer Finding) (ss : List Step) → judged form xs (ended k x) ss ≡ ended k x
  unfolding judged onward
  stays_ended k x [] = refl
  stays_ended k x (s ∷ ss) = stays_ended k x ss

  -- "taken in one at a time": the judging of some steps goes on with the next
  pub judged_on : (c : Course) (ss ts : List Step) → judged form xs c (ss ++ ts) ≡ judged form xs (judged form xs c ss) ts
  unfolding judged
  judged_on c [] ts = refl
  judged_on c (s ∷ ss) ts = judged_on (onward form xs c s) ss ts

  -- a step that is named stays so, whatever is handed in behind it
  pub finding_stays : (ss ts : List Step) (k : ℕ) (x : Answer Finding) → recording form xs ss ≡ named k x → recording form xs (ss ++ ts) ≡ named k x
  unfolding recording
  finding_stays ss ts k x e = by (judged form xs (going 0 []) ss) refl e
    where
      by : (c : Course) → judged form xs (going 0 []) ss ≡ c → concluded form xs c ≡ named k x → concluded form xs (judged form xs (going 0 []) (ss ++ ts)) ≡ named k x
      by (going j last) q e = off (judge form xs) e
        where
          off : (a : Answer Counts) → of_list j a ≡ named k x → concluded form xs (judged form xs (going 0 []) (ss ++ ts)) ≡ named k x
          off (gives n) e = let z : ◌≡◌ {A = ℕ} 0 1 = cc in absurd (omega arith)
          off (refused n at) e = let z : ◌≡◌ {A = ℕ} 0 1 = cc in absurd (omega arith)
      by (ended j y) q e = rw (judged_on (going 0 []) ss ts, q, stays_ended j y ts) e

  all_going : (k : ℕ) (last : List ℕ) (ss : List Step) → AllRight form xs k last ss → judged form xs (going k last) ss ≡ going (k + length ss) (last_after last ss)
  unfolding judged onward AllRight last_after
  all_going k last [] h = ap (λ (n : ℕ). going n last) (omega arith)
  all_going k last (s ∷ ss) h =
      rw (right_is form xs k last s h.0) (all_going (suc k) s.after ss h.1 ∙ ap (λ (n : ℕ). going n (last_after s.after ss)) (omega arith))

  going_all : (k : ℕ) (last : List ℕ) (ss : List Step) → OctetSteps ss → (j : ℕ) (m : List ℕ) → judged form xs (going k last) ss ≡ going j m
      → AllRight form xs k last ss
  unfolding judged onward AllRight OctetSteps
  going_all k last [] o j m e = tt
  going_all k last (s ∷ ss) o j m e = by (checking form xs k last s) refl e (λ q. going_all (suc k) s.after ss o.1 j m q)
    where
      by : (a : Answer Finding) → checking form xs k last s ≡ a → judged form xs (onward_by k s.after a) ss ≡ going j m
          → (judged form xs (going (suc k) s.after) ss ≡ going j m → AllRight form xs (suc k) s.after ss)
          → Right form xs k last s × AllRight form xs (suc k) s.after ss
      by (gives right) q e rest = (is_right_lem form xs k last s o.0.0 o.0.1 q, rest e)
      by (gives (wrong a p)) q e rest = let t = stays_ended k (gives (wrong a p)) ss in let z : ◌≡◌ {A = ℕ} 0 1 = cc in absurd (omega arith)
      by (refused n at) q e rest = let t = stays_ended k (refused n at) ss in let z : ◌≡◌ {A = ℕ} 0 1 = cc in absurd (omega arith)

  -- a recording is accepted exactly if its list is, and each step is right at its place and follows on; all are counted
  pub recording_exactly : (ss : List Step) → OctetSteps ss → (k : ℕ)
      → (recording form xs ss ≡ accepted k) ↔ ((k ≡ length ss) × ((n : Counts) × (judge form xs ≡ gives n)) × AllRight form xs 0 [] ss)
  unfolding recording
  recording_exactly ss o k = (to, from)
    where
      to : recording form xs ss ≡ accepted k → (k ≡ length ss) × ((n : Counts) × (judge form xs ≡ gives n)) × AllRight form xs 0 [] ss
      to e = by (judged form xs (going 0 []) ss) refl e
        where
          by : (c : Course) → judged form xs (going 0 []) ss ≡ c → concluded form xs c ≡ accepted k
              → (k ≡ length ss) × ((n : Counts) × (judge form xs ≡ gives n)) × AllRight form xs 0 [] ss
          by (going j last) q e =
              let h = going_all 0 [] ss o j last q in
              let t = all_going 0 [] ss h in
              let z : j ≡ 0 + length ss = cc in
              let w = off (judge form xs) refl e in
              (omega (arith, z, w.0), w.1, h)
            where
              off : (a : Answer Counts) → judge form xs ≡ a → of_list j a ≡ accepted k → (j ≡ k) × ((n : Counts) × (judge form xs ≡ gives n))
              off (gives n) q e = let z : j ≡ k = cc in (z, (n, q))
              off (refused n at) q e = let z : ◌≡◌ {A = ℕ} 0 1 = cc in absurd (omega arith)
          by (ended j y) q e = let z : ◌≡◌ {A = ℕ} 0 1 = cc in absurd (omega arith)

      from : (k ≡ length ss) × ((n : Counts) × (judge form xs ≡ gives n)) × AllRight form xs 0 [] ss → recording form xs ss ≡ accepted k
      from (z, l, h) = rw (all_going 0 [] ss h, l.1) (ap accepted (omega (arith, z)))

  -- a step that ended the judging is the first that is refused or wrong
  ended_first : (k : ℕ) (last : List ℕ) (ss : List Step) → OctetSteps ss → (j : ℕ) (x : Answer Finding) → judged form xs (going k last) ss ≡ ended j x
      → FirstNamed form xs k last ss j x
  unfolding judged onward AllRight OctetSteps last_after
  ended_first k last [] o j x e = let z : ◌≡◌ {A = ℕ} 0 1 = cc in absurd (omega arith)
  ended_first k last (s ∷ ss) o j x e = by (checking form xs k last s) refl e (λ q. ended_first (suc k) s.after ss o.1 j x q)
    where
      here : (a : Answer Finding) → checking form xs k last s ≡ a → (a ≡ gives right → ⊥) → judged form xs (ended k a) ss ≡ ended j x
          → FirstNamed form xs k last (s ∷ ss) j x
      here a q ne e =
          let t = stays_ended k a ss in
          let same : ended k a ≡ ended j x = sym t ∙ e in
          let kj : k ≡ j = cc in
          let ax : a ≡ x = cc in
          record {
            before = [];
            step = s;
            behind = ss;
            split = refl;
            place = omega (arith, kj);
            right_before = tt;
            said = ap (λ (i : ℕ). checking form xs i last s) (sym kj) ∙ q ∙ ax;
            not_right = λ r. ne (ax ∙ r);
          }

      by : (a : Answer Finding) → checking form xs k last s ≡ a → judged form xs (onward_by k s.after a) ss ≡ ended j x
          → (judged form xs (going (suc k) s.after) ss ≡ ended j x → FirstNamed form xs (suc k) s.after ss j x)
          → FirstNamed form xs k last (s ∷ ss) j x
      by (gives right) q e rest =
          let h = rest e in
          record {
            before = s ∷ h.before;
            step = h.step;
            behind = h.behind;
            split = ap (λ (ts : List Step). s ∷ ts) h.split;
            place = omega (arith, h.place);
            right_before = (is_right_lem form xs k last s o.0.0 o.0.1 q, h.right_before);
            said = h.said;
            not_right = h.not_right;
          }
      by (gives (wrong a p)) q e rest = here (gives (wrong a p)) q (λ r. let z : ◌≡◌ {A = ℕ} 0 1 = cc in omega arith) e
      by (refused n at) q e rest = here (refused n at) q (λ r. let z : ◌≡◌ {A = ℕ} 0 1 = cc in omega arith) e

  not_right_ends : (k : ℕ) (after : List ℕ) (x : Answer Finding) → (x ≡ gives right → ⊥) → onward_by k after x ≡ ended k x
  not_right_ends k after (gives right) ne = absurd (ne refl)
  not_right_ends k after (gives (wrong a p)) ne = refl
  not_right_ends k after (refused n at) ne = refl

  first_ends : (ss : List Step) (j : ℕ) (x : Answer Finding) → FirstNamed form xs 0 [] ss j x → judged form xs (going 0 []) ss ≡ ended j x
  unfolding judged onward
  first_ends ss j x h =
      rw (h.split, judged_on (going 0 []) h.before (h.step ∷ h.behind), all_going 0 [] h.before h.right_before, h.place, h.said, not_right_ends j h.step.after x h.not_right)
      (stays_ended j x h.behind)

  -- "the first step refused or wrong is named and ends the judging"
  pub named_exactly : (ss : List Step) → OctetSteps ss → (j : ℕ) (x : Answer Finding) → (recording form xs ss ≡ named j x) ↔ FirstNamed form xs 0 [] ss j x
  unfolding recording
  named_exactly ss o j x = (to, from)
    where
      to : recording form xs ss ≡ named j x → FirstNamed form xs 0 [] ss j x
      to e = by (judged form xs (going 0 []) ss) refl e
        where
          by : (c : Course) → judged form xs (going 0 []) ss ≡ c → concluded form xs c ≡ named j x → FirstNamed form xs 0 [] ss j x
          by (going i last) q e = off (judge form xs) e
            where
              off : (a : Answer Counts) → of_list i a ≡ named j x → FirstNamed form xs 0 [] ss j x
              off (gives n) e = let z : ◌≡◌ {A = ℕ} 0 1 = cc in absurd (omega arith)
              off (refused n at) e = let z : ◌≡◌ {A = ℕ} 0 1 = cc in absurd (omega arith)
          by (ended i y) q e = let z : i ≡ j = cc in let w : y ≡ x = cc in ended_first 0 [] ss o j x (q ∙ ap (λ (n : ℕ). ended n y) z ∙ ap (ended j) w)

      from : FirstNamed form xs 0 [] ss j x → recording form xs ss ≡ named j x
      from h = ap (concluded form xs) (first_ends ss j x h)

  own_right : (k : ℕ) (last : List ℕ) (ss : List Step) → k + length ss ≤ most_steps → (k ≡ 0) ⊎ Next last ss → OurSteps form xs ss → AllRight form xs k last ss
  unfolding AllRight OurSteps
  own_right k last [] few on h = tt
  own_right k last (s ∷ ss) few on h = (
    record { few = omega arith; given = h.0.0; ours = h.0.1.0; same = h.0.1.1; on = on },
    own_right (suc k) s.after ss (omega arith) (inr h.1) h.2,
  )

  -- a recording of our own marshalling, of up to 1,000 steps, is accepted
  pub own_recording : (n : Counts) → judge form xs ≡ gives n → (ss : List Step) → length ss ≤ most_steps → OurSteps form xs ss
      → recording form xs ss ≡ accepted (length ss)
  unfolding recording
  own_recording n e ss few h = rw (all_going 0 [] ss (own_right 0 [] ss (omega arith) (inl refl) h), e) (ap accepted (omega arith))

  -- "A recording of no steps is accepted if its list is", and else the list's refusal is the answer
  pub no_steps : recording form xs [] ≡ of_list 0 (judge form xs)
  unfolding recording judged
  no_steps = refl
