-- The demands over the definitions: what is composed reads back (demand 2), and what a reader of an extending or an extended list is
-- given (demand 3). Assumes nothing.
use Prim.Native.Nat.{ℕ, zero, suc, ◌+◌, ◌-◌, ◌*◌, ◌≤◌, ◌<◌}
use mathlib.Core.Path.{◌≡◌, refl, sym, ap, ◌∙◌}
use mathlib.Core.Logic.{◌⊎◌, inl, inr, ⊎_elim}
use mathlib.Core.Bool.{Bool, true, false, not, cond, false≢true}
use mathlib.Core.List.{List, [], ◌∷◌}
use native.Mathlib.Omega.{arith}
use native.Mathlib.Decide.{ℕ_discrete}
use lib.ListN.{length, get_or, get_or-append}
use lib.Dec.{ltb, leb, eqb}
use borrow.Author.Tests.{leb-true, le-ltb, lt-ltb, ne_eqb}
use Rattle.paper.specs.Octets.{octet, field}
use Rattle.paper.specs.Answer.{gives}
use Rattle.paper.specs.First.{some, first_of}
use Rattle.paper.specs.Telegrams.{application_type, telegram_type, version_of, type_length, carries, error, ok, forced, undefined, mark_width}
use Rattle.paper.specs.SignalList.{Signal, SignalList, Counts, judge, list_of, version, knows, place_of}
use Rattle.paper.specs.Extends.{same, Agree, Related}
use Rattle.paper.specs.Store.{vehicles, store_octets, Slot, taken, taking, age, in_time}
use Rattle.paper.specs.Reading.{Reading, heard, mark_of, code_of, hindrances, reason_of, reading_of, reading}
use Rattle.paper.specs.Composing.{composed, composing, Fitting, Composes}
use Rattle.paper.specs.Demands.{Standing, given_mark, delivered, withheld, Shared, Named, live_ok, live_forced, not_carried, newer, mark_error, mark_undefined, code_unknown}
use Rattle.paper.proofs.AnswerLaws.{gives_one}
use Rattle.paper.proofs.FirstLaws.{some_none, some_at}
use Rattle.paper.proofs.FieldLaws.{field_front}
use Rattle.paper.specs.Accepted.{Kept}
use Rattle.paper.proofs.ListLaws.{kept}
use Rattle.paper.proofs.StoreLaws.{type_least, takes_it, padded, stood, standing_slot, standing_whole}
use Rattle.paper.proofs.ReadingLaws.{mark_lt, unseen, reads_it}
use Rattle.paper.proofs.ExtendsLaws.{agree_itself, agree, only_newer, same_of}
use Rattle.paper.proofs.ComposingLaws.{version_least, version_at, composes, carried_within, named_written, length_composed, composed_application, composed_type, composed_version, composed_signal, composed_check}

-- the place of a signal's check: none is 0, and any other lies past the head
unplaced : (l : SignalList) (s : Signal) → s.check ≡ 0 → place_of l s ≡ 0
unfolding place_of
unplaced l s z = rw z

pub placed_at : (l : SignalList) (s : Signal) → (s.check ≡ 0 → ⊥) → place_of l s ≡ l.check (s.check - 1)
unfolding place_of
placed_at l s n = rw (ne_eqb s.check 0 n)

positive : {n : ℕ} → (n ≡ 0 → ⊥) → 0 < n
positive {n} h = omega arith

placed_high : (l : SignalList) → Kept l → (k : ℕ) → k < l.signals → ((l.signal k).check ≡ 0 → ⊥) → 16 ≤ place_of l (l.signal k)
placed_high l h k lt n =
    let q : (l.signal k).check - 1 < l.checks = omega (arith, (h.signal k lt).named.exists, positive n) in
    rw (placed_at l (l.signal k) n) (h.check ((l.signal k).check - 1) q).low

-- a mark ok or forced and a known code: the value as given
pub as_given : (l : SignalList) (k mark value : ℕ) → (mark ≡ ok) ⊎ (mark ≡ forced) → knows l k value ≡ true
    → delivered l k mark value ≡ record { value = value; reason = cond (eqb mark forced) 1 0 }
as_given l k mark value (inl e) h = rw (e, h)
as_given l k mark value (inr e) h = rw (e, h)

-- what is delivered is named, by its mark and whether the reader knows the code
delivered_named : (w r : SignalList) (type : ℕ) (values marks : List ℕ) (i j : ℕ) → Shared w r type i j → given_mark marks (w.signal i) < 4
    → Named w r type values marks j (delivered r j (given_mark marks (w.signal i)) (get_or values i 0))
delivered_named w r type values marks i j s small = by (given_mark marks (w.signal i)) refl small (knows r j (get_or values i 0)) refl
  where
    by : (mark : ℕ) → given_mark marks (w.signal i) ≡ mark → mark < 4 → (known : Bool) → knows r j (get_or values i 0) ≡ known
        → let reason = first_of 6 (eqb mark error ∷ eqb mark undefined ∷ not known ∷ []) (cond (eqb mark forced) 1 0) in
        Named w r type values marks j (record { value = cond (leb 2 reason) (r.signal j).replacement (get_or values i 0); reason = reason })
    by zero e lt known k = mark_error i s e
    by (suc zero) e lt true k = live_ok i s e k
    by (suc zero) e lt false k = code_unknown i s (inl e) k
    by (suc (suc zero)) e lt true k = live_forced i s e k
    by (suc (suc zero)) e lt false k = code_unknown i s (inr e) k
    by (suc (suc (suc zero))) e lt known k = mark_undefined i s e
    by (suc (suc (suc (suc mark)))) e lt known k = absurd (omega arith)

-- ---- a telegram of the writer's list, as it stands in a slot

module _ (w : SignalList) (hw : Kept w) (type : ℕ) (values marks : List ℕ) (fit : Fitting w type values marks) where
  telegram : List ℕ
  telegram = composed w type values marks

  abbrev Sent : ℕ → Slot
  Sent stamp = record { heard = 1; stamp = stamp; previous = 0; telegram = padded (composed w type values marks) }

  long : 2 ≤ length (composed w type values marks)
  long = omega (arith, length_composed w hw type values marks fit, type_least type)

  kept_field : (s u : ℕ) → s + u ≤ 8 * type_length type → field (padded (composed w type values marks)) s u ≡ field (composed w type values marks) s u
  kept_field s u h = field_front _ _ s u (rw (length_composed w hw type values marks fit) h)

  pub sent_application : application_type (padded (composed w type values marks)) ≡ 1
  unfolding application_type
  sent_application = field_front (composed w type values marks) _ 0 4 (omega (arith, long)) ∙ composed_application w hw type values marks fit

  pub sent_type : telegram_type (padded (composed w type values marks)) ≡ type
  unfolding telegram_type
  sent_type = field_front (composed w type values marks) _ 4 4 (omega (arith, long)) ∙ composed_type w hw type values marks fit

  sent_version : version_of (padded (composed w type values marks)) ≡ version w
  unfolding version_of
  sent_version =
      let e : octet (padded (composed w type values marks)) 2 ≡ version w =
      get_or-append (composed w type values marks) _ 0 1 (omega (arith, long)) ∙ composed_version w hw type values marks fit in
      rw (e, ne_eqb (version w) 0 (λ z. omega (arith, version_least w)))

  sent_heard : (stamp : ℕ) → heard (Sent stamp) ≡ true
  unfolding heard
  sent_heard stamp = rw (sent_application, sent_type) fit.typed

  -- a signal that both lists have and the type carries: its field holds the value given, its check's place the mark, however old they are
  module _ (r : SignalList) (i j : ℕ) (hi : i < w.signals) (same_one : Agree w r i j) (carried : carries type (r.signal j).type ≡ true) where
    carried_there : carries type (w.signal i).type ≡ true
    carried_there = rw same_one.type carried

    pub sent_code : code_of (r.signal j) (padded (composed w type values marks)) ≡ get_or values i 0
    unfolding code_of
    sent_code =
        rw (← same_one.start, ← same_one.width)
        (kept_field (w.signal i).start (w.signal i).width (carried_within w hw type i hi carried_there).1
        ∙ composed_signal w hw type values marks fit i hi carried_there)

    -- the mark at the place of the check, whichever index it has in either list
    pub sent_mark : Kept r → j < r.signals → mark_of r (r.signal j) (padded (composed w type values marks)) ≡ given_mark marks (w.signal i)
    unfolding mark_of
    sent_mark hr hj = by (ℕ_discrete (w.signal i).check 0) (ℕ_discrete (r.signal j).check 0)
      where
        by : Dec ((w.signal i).check ≡ 0) → Dec ((r.signal j).check ≡ 0)
            → cond (eqb (r.signal j).check 0) ok (field (padded (composed w type values marks)) (place_of r (r.signal j)) mark_width)
            ≡ cond (eqb (w.signal i).check 0) ok (get_or marks ((w.signal i).check - 1) 0)
        by (yes a) (yes b) = rw (a, b)
        by (yes a) (no b) = absurd (omega (arith, placed_high r hr j hj b, same_one.place, unplaced w (w.signal i) a))
        by (no a) (yes b) = absurd (omega (arith, placed_high w hw i hi a, same_one.place, unplaced r (r.signal j) b))
        by (no a) (no b) =
            let q : (w.signal i).check - 1 < w.checks = omega (arith, (hw.signal i hi).named.exists, positive a) in
            let named = named_written w hw type i hi carried_there (positive a) in
            rw (ne_eqb _ _ a, ne_eqb _ _ b, ← same_one.place, placed_at w (w.signal i) a)
            (kept_field (w.check ((w.signal i).check - 1)) 2 (leb-true _ _ named) ∙ composed_check w hw type values marks fit ((w.signal i).check - 1) q named)

  -- a reader within its time limit gets past reasons 2 and 3, and goes by the type and version that were sent
  module _ (r : SignalList) (stamp now j : ℕ) (within : in_time (age now stamp) (r.signal j).limit ≡ true) where
    sent_reason : reason_of r (Sent stamp) now j
        ≡ first_of 4 (
        not (carries type (r.signal j).type)
        ∷ ltb (version w) (r.signal j).since
        ∷ eqb (mark_of r (r.signal j) (padded (composed w type values marks))) error
        ∷ eqb (mark_of r (r.signal j) (padded (composed w type values marks))) undefined
        ∷ not (knows r j (code_of (r.signal j) (padded (composed w type values marks))))
        ∷ []
        ) (cond (eqb (mark_of r (r.signal j) (padded (composed w type values marks))) forced) 1 0)
    unfolding reason_of hindrances
    sent_reason = rw (sent_heard stamp, within, sent_type, sent_version)

    -- a signal that the type carries and only the reader's list has, or that the type does not carry
    sent_withheld : (carries type (r.signal j).type ≡ false) ⊎ (version w < (r.signal j).since)
        → reading_of r (Sent stamp) now j ≡ withheld r type j
    unfolding reading_of
    sent_withheld d = by (carries type (r.signal j).type) refl d
      where
        by : (b : Bool) → carries type (r.signal j).type ≡ b → (carries type (r.signal j).type ≡ false) ⊎ (version w < (r.signal j).since)
            → ◌≡◌ {A = Reading} (record { value = cond (leb 2 (reason_of r (Sent stamp) now j)) (r.signal j).replacement (code_of (r.signal j) (padded (composed w type values marks))); reason = reason_of r (Sent stamp) now j })
            (record { value = (r.signal j).replacement; reason = cond b 5 4 })
        by false e d = rw (sent_reason, e)
        by true e (inl n) = absurd (false≢true (sym n ∙ e))
        by true e (inr lt) = rw (sent_reason, e, lt-ltb _ _ lt)

    -- a signal that both lists have and the type carries
    module _ (i : ℕ) (hi : i < w.signals) (same_one : Agree w r i j) (carried : carries type (r.signal j).type ≡ true) where
      -- the written value with its mark, or the reader's own replacement with the named reason
      sent_delivered : Kept r → j < r.signals → reading_of r (Sent stamp) now j ≡ delivered r j (given_mark marks (w.signal i)) (get_or values i 0)
      unfolding reading_of
      sent_delivered hr hj =
          let old : ltb (version w) (r.signal j).since ≡ false = le-ltb (version w) (r.signal j).since (rw same_one.since at (version_at w i hi)) in
          rw (sent_reason, carried, old, sent_mark r i j hi same_one carried hr hj, sent_code r i j hi same_one carried)

-- ---- a signal's reading, as a call gives it

-- a composed telegram is always taken in: no store of the right length refuses it for a vehicle of the 63
pub composed_taken : (form : ℕ) (xs : List ℕ) (type : ℕ) (values marks : List ℕ) (room : ℕ) (telegram : List ℕ) → composing form xs type values marks room ≡ gives telegram
    → (store : List ℕ) (v now : ℕ) → length store ≡ store_octets → 1 ≤ v → v ≤ vehicles → taking store v now telegram ≡ gives (taken store v now telegram)
composed_taken form xs type values marks room telegram sent store v now whole first last =
    let c = composes form xs type values marks room telegram sent in
    let l = list_of xs c.counts in
    let h = kept form xs c.counts c.accepted in
    let is_type_lem : telegram_type telegram ≡ type = rw (← c.is) (composed_type l h type values marks c.fitting) in
    takes_it store v now telegram
    (record {
      whole = whole;
      first = first;
      last = last;
      application = rw (← c.is) (composed_application l h type values marks c.fitting);
      typed = rw is_type_lem c.fitting.typed;
      long = rw is_type_lem (rw (← c.is) (length_composed l h type values marks c.fitting));
    })

module _ (form : ℕ) (xs : List ℕ) (type : ℕ) (values marks : List ℕ) (room : ℕ) (telegram : List ℕ) (sent : composing form xs type values marks room ≡ gives telegram)
    (m : Counts) (writer : judge form xs ≡ gives m) where
  made : Composes form xs type values marks telegram
  made = composes form xs type values marks room telegram sent

  -- the writer's list is the one that was judged
  same_list : made.counts ≡ m
  same_list = gives_one (judge form xs) made.counts m made.accepted writer

  pub fitted : Fitting (list_of xs m) type values marks
  fitted = rw same_list at made.fitting

  pub is_composed : composed (list_of xs m) type values marks ≡ telegram
  is_composed = rw same_list at made.is

  module _ (form' : ℕ) (ys : List ℕ) (n : Counts) (reader : judge form' ys ≡ gives n) (v stamp now j : ℕ) (store : List ℕ) (hj : j < n.signals)
      (stands : Standing v stamp now ((list_of ys n).signal j).limit telegram store) where
    arrived : (given : Reading)
        → reading_of (list_of ys n) (record { heard = 1; stamp = stamp; previous = 0; telegram = padded (composed (list_of xs m) type values marks) }) now j ≡ given
        → reading form' ys store now v j ≡ gives given
    arrived given e =
        let t = stood v stamp now _ telegram store stands in
        reads_it form' ys store now v j n reader (standing_whole v stamp now _ telegram store stands) t.first t.last hj
        ∙ ap gives (ap (λ (s : Slot). reading_of (list_of ys n) s now j) (standing_slot v stamp now _ telegram store stands)
        ∙ unseen (list_of ys n) 1 stamp _ (padded telegram) now j
        ∙ rw (← is_composed) e)

    -- DEMAND 3, a signal that both lists have and the type carries: the written value with its mark, or the reader's own replacement
    -- with 6 or 7 exactly when the mark is error or undefined, or with 8 exactly when it is neither and the code is unknown to the reader
    pub both_have : Related (list_of xs m) (list_of ys n) → (i : ℕ) → i < m.signals → same ((list_of xs m).signal i) ((list_of ys n).signal j) ≡ true
        → carries type ((list_of ys n).signal j).type ≡ true
        → reading form' ys store now v j ≡ gives (delivered (list_of ys n) j (given_mark marks ((list_of xs m).signal i)) (get_or values i 0))
    both_have related i hi one carried =
        let w = list_of xs m in
        let r = list_of ys n in
        let p = same_of (w.signal i) (r.signal j) one in
        let a = agree w r (kept form xs m writer) (kept form' ys n reader) related i j hi hj p.0 p.1 in
        arrived _ (sent_delivered w (kept form xs m writer) type values marks fitted r stamp now j stands.within i hi a carried (kept form' ys n reader) hj)

    -- DEMAND 3, a signal that only the reader's list has, or that the type doesn't carry: its replacement, with 4 or 5
    pub only_reader : Related (list_of xs m) (list_of ys n)
        → (carries type ((list_of ys n).signal j).type ≡ false) ⊎ ((i : ℕ) → i < m.signals → same ((list_of xs m).signal i) ((list_of ys n).signal j) ≡ true → ⊥)
        → reading form' ys store now v j ≡ gives (withheld (list_of ys n) type j)
    only_reader related d =
        let w = list_of xs m in
        let r = list_of ys n in
        arrived _
        (sent_withheld w (kept form xs m writer) type values marks fitted r stamp now j stands.within
        (⊎_elim (λ a. inl a) (λ a. inr (only_newer w r related j hj a)) d))

    -- DEMAND 3, whole: of every signal of its list the reader is given one of the readings that the demand names. Never another value
    pub never_another : Related (list_of xs m) (list_of ys n)
        → (given : Reading) × ((Named (list_of xs m) (list_of ys n) type values marks j given) × (reading form' ys store now v j ≡ gives given))
    never_another related = by (carries type (r.signal j).type) refl (some (λ i. same (w.signal i) (r.signal j)) w.signals) refl
      where
        w : SignalList
        w = list_of xs m

        r : SignalList
        r = list_of ys n

        replaced : (b : Bool) → carries type (r.signal j).type ≡ b → reading form' ys store now v j ≡ gives (withheld r type j)
            → reading form' ys store now v j ≡ gives (record { value = (r.signal j).replacement; reason = cond b 5 4 })
        replaced b e q = q ∙ ap (λ (x : Bool). gives (record { value = (r.signal j).replacement; reason = cond x 5 4 })) e

        by : (b : Bool) → carries type (r.signal j).type ≡ b → (c : Bool) → some (λ i. same (w.signal i) (r.signal j)) w.signals ≡ c
            → (given : Reading) × ((Named w r type values marks j given) × (reading form' ys store now v j ≡ gives given))
        by false e c q = (record { value = (r.signal j).replacement; reason = 4 }, (not_carried e, replaced false e (only_reader related (inl e))))
        by true e false q =
            let none : (i : ℕ) → i < w.signals → same (w.signal i) (r.signal j) ≡ true → ⊥ =
            λ i hi s. false≢true (sym (some_none (λ i. same (w.signal i) (r.signal j)) w.signals q i hi) ∙ s) in
            (record { value = (r.signal j).replacement; reason = 5 }, (newer e none, replaced true e (only_reader related (inr none))))
        by true e true q =
            let t = some_at (λ i. same (w.signal i) (r.signal j)) w.signals q in
            let i = t.0 in
            let p = same_of (w.signal i) (r.signal j) t.1.1 in
            let a = agree w r (kept form xs m writer) (kept form' ys n reader) related i j t.1.0 hj p.0 p.1 in
            let mark = sent_mark w (kept form xs m writer) type values marks fitted r i j t.1.0 a e (kept form' ys n reader) hj in
            let small = rw mark at (mark_lt r (r.signal j) (padded (composed w type values marks))) in (
              delivered r j (given_mark marks (w.signal i)) (get_or values i 0),
              (
                delivered_named w r type values marks i j (record { there = t.1.0; one = t.1.1; carried = e }) small,
                both_have related i t.1.0 t.1.1 e,
              ),
            )

  -- DEMAND 2, reading back: what is composed with a mark ok or forced, or no check, reads back within its time limit as given
  pub read_back : (v stamp now k : ℕ) (store : List ℕ) → k < m.signals → carries type ((list_of xs m).signal k).type ≡ true
      → (given_mark marks ((list_of xs m).signal k) ≡ ok) ⊎ (given_mark marks ((list_of xs m).signal k) ≡ forced)
      → Standing v stamp now ((list_of xs m).signal k).limit telegram store
      → reading form xs store now v k ≡ gives (record { value = get_or values k 0; reason = cond (eqb (given_mark marks ((list_of xs m).signal k)) forced) 1 0 })
  read_back v stamp now k store hk carried mark stands =
      let l = list_of xs m in
      let h = kept form xs m writer in
      arrived form xs m writer v stamp now k store hk stands _
      (sent_delivered l h type values marks fitted l stamp now k stands.within k hk (agree_itself l k) carried h hk
      ∙ as_given l k (given_mark marks (l.signal k)) (get_or values k 0) mark (fitted.value k hk carried).1)
