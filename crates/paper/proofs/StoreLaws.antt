-- The laws of the store: a slot that was written says what was written, and every other slot is as before. Assumes nothing.
use Prim.Native.Nat.{ℕ, ◌+◌, ◌-◌, ◌%◌, ◌≤◌, ◌<◌}
use mathlib.Core.Path.{◌≡◌, refl, sym, ap, ap₂, ◌∙◌}
use mathlib.Core.Logic.{◌⊎◌, inl, inr}
use mathlib.Core.Bool.{Bool, true, false, cond}
use mathlib.Core.List.{List, [], ◌∷◌, ◌++◌}
use native.Mathlib.Nat.{mod-eq_of_lt}
use native.Mathlib.Omega.{arith}
use native.Mathlib.Decide.{dec_lt}
use lib.ListN.{length, take, drop, replicate, length-append, length-replicate}
use lib.Seq.{drop_at, drop-drop}
use lib.Dec.{eqb}
use borrow.Author.Tests.{eq-eqb, le-leb, le-ltb, leb-true, eqb-true, not-false}
use Rattle.paper.specs.Octets.{number, octets_of, over}
use Rattle.paper.specs.Answer.{Answer, gives, refused, refuse_if, after}
use Rattle.paper.specs.Telegrams.{telegram_type, type_length, carries}
use Rattle.paper.specs.Store.{vehicles, telegram_octets, slot_octets, store_octets, slot_start, slot_from, slot_to, slot_of, moved, taken, taking, turn, in_time, Takes, sweeping}
use Rattle.paper.specs.Demands.{Step, offer, sweep, step, run, Passes, NoneLater, Spares, NoneExpired, Standing}
use Rattle.paper.proofs.AnswerLaws.{not_refused, never_both}
use Rattle.bools.proofs.Tests.{both}
use Rattle.paper.proofs.NumberLaws.{length-octets_of, number-octets_of_front, number_back, length_over, part_over, other_over}
use Rattle.paper.proofs.SweepLaws.{length_swept, slot_swept, sweeps}

-- ---- cases at which a sentence misread shows

-- "age ≤ limit, or limit 0": 5,000 ms are in time at a limit of 5,000, 5,001 are not, and any age is where there is no limit
pub limit_reached : (in_time 5000 5000 ≡ true) × (in_time 5001 5000 ≡ false) × (in_time 5001 0 ≡ true)
limit_reached = (refl, refl, refl)

-- "stamps and codes too, has its high octet first": 01 02 03 04, read and written
pub stamp_high_first : ((slot_from (1 ∷ 1 ∷ 2 ∷ 3 ∷ 4 ∷ [])).stamp ≡ 0x01020304)
    × ((slot_from (1 ∷ 1 ∷ 2 ∷ 3 ∷ 4 ∷ 5 ∷ 6 ∷ 7 ∷ 8 ∷ [])).previous ≡ 0x05060708)
    × (take 9 (slot_to 0x01020304 0x05060708 []) ≡ 1 ∷ 1 ∷ 2 ∷ 3 ∷ 4 ∷ 5 ∷ 6 ∷ 7 ∷ 8 ∷ [])
unfolding number octets_of
stamp_high_first = (refl, refl, refl)

-- "only R1 carries type 1, only R2 type 2", though the octets are there in the other too
pub only_its_type : (carries 1 1 ≡ true) × (carries 2 1 ≡ false) × (carries 3 1 ≡ false) × (carries 2 2 ≡ true) × (carries 1 2 ≡ false) × (carries 3 2 ≡ false)
only_its_type = (refl, refl, refl, refl, refl, refl)

-- ---- taking

pub takes : (store : List ℕ) (v now : ℕ) (telegram new : List ℕ) → taking store v now telegram ≡ gives new
    → (Takes store v telegram) × (taken store v now telegram ≡ new)
unfolding taking
takes store v now telegram new e =
    let a = not_refused _ _ _ _ _ e in
    let b = not_refused _ _ _ _ _ a.1 in
    let c = not_refused _ _ _ _ _ b.1 in
    let d = not_refused _ _ _ _ _ c.1 in
    let f = not_refused _ _ _ _ _ d.1 in
    let g = not_refused _ _ _ _ _ f.1 in
    let w = both _ _ (not-false _ b.0) in (
      record {
        whole = eqb-true _ _ (not-false _ a.0);
        first = leb-true _ _ w.0;
        last = leb-true _ _ w.1;
        application = eqb-true _ _ (not-false _ d.0);
        typed = not-false _ f.0;
        long = eqb-true _ _ (not-false _ g.0);
      },
      cc g.1,
    )

pub type_short : (t : ℕ) → type_length t ≤ telegram_octets
type_short t = by (eqb t 3)
  where
    by : (b : Bool) → cond b 40 128 ≤ 128
    by true = omega arith
    by false = omega arith

pub type_least : (t : ℕ) → 40 ≤ type_length t
type_least t = by (eqb t 3)
  where
    by : (b : Bool) → 40 ≤ cond b 40 128
    by true = omega arith
    by false = omega arith

-- and what meets that is taken
pub takes_it : (store : List ℕ) (v now : ℕ) (telegram : List ℕ) → Takes store v telegram → taking store v now telegram ≡ gives (taken store v now telegram)
unfolding taking refuse_if
takes_it store v now telegram t =
    rw (
      eq-eqb _ _ t.whole,
      le-leb _ _ t.first,
      le-leb _ _ t.last,
      le-ltb (length telegram) 2 (omega (arith, t.long, type_least (telegram_type telegram))),
      eq-eqb _ _ t.application,
      t.typed,
      eq-eqb _ _ t.long,
    )

-- the octets of a slot: as many as a slot has
pub length_slot : (now previous : ℕ) (telegram : List ℕ) → length telegram ≤ telegram_octets → length (slot_to now previous telegram) ≡ slot_octets
length_slot now previous telegram h =
    let zeros : List ℕ = replicate (telegram_octets - length telegram) 0 in
    let z : length zeros ≡ telegram_octets - length telegram = length-replicate (telegram_octets - length telegram) 0 in
    let back : List ℕ = octets_of 4 previous ++ (telegram ++ zeros) in
    let p = length-append (octets_of 4 previous) (telegram ++ zeros) in
    omega (arith, length-append (octets_of 4 now) back, length-octets_of 4 now, p, length-octets_of 4 previous, length-append telegram zeros)

-- the telegram as it stands in a slot: followed by zeros
abbrev pub padded : List ℕ → List ℕ
padded telegram = telegram ++ replicate (telegram_octets - length telegram) 0

-- what a slot that was written says; what is no stamp comes round, so that nothing need be known of the store
pub slot_says : (now previous : ℕ) (telegram : List ℕ) → now < turn
    → slot_from (slot_to now previous telegram) ≡ record { heard = 1; stamp = now; previous = previous % turn; telegram = padded telegram }
slot_says now previous telegram h =
    let back : List ℕ = octets_of 4 previous ++ padded telegram in
    let s : number (1 ∷ (octets_of 4 now ++ back)) 1 4 ≡ now =
    number_back (1 ∷ []) (octets_of 4 now ++ back) 0 4 ∙ number-octets_of_front 4 now back ∙ mod-eq_of_lt h in
    let p : number (1 ∷ (octets_of 4 now ++ back)) 5 4 ≡ previous % turn =
    number_back (1 ∷ []) (octets_of 4 now ++ back) 4 4
    ∙ ap (λ (k : ℕ). number (octets_of 4 now ++ back) (k + 0) 4) (sym (length-octets_of 4 now))
    ∙ number_back (octets_of 4 now) back 0 4
    ∙ number-octets_of_front 4 previous (padded telegram) in
    let d : drop 9 (1 ∷ (octets_of 4 now ++ back)) ≡ padded telegram =
    sym (drop-drop 4 4 (octets_of 4 now ++ back))
    ∙ ap (drop 4) (drop_at (octets_of 4 now) back 4 (length-octets_of 4 now))
    ∙ drop_at (octets_of 4 previous) (padded telegram) 4 (length-octets_of 4 previous) in
    rw (s, p, d)

module _ (store : List ℕ) (v now : ℕ) (telegram : List ℕ) (whole : length store ≡ store_octets) (first : 1 ≤ v) (last : v ≤ vehicles)
    (short : length telegram ≤ telegram_octets) where
  abbrev written : List ℕ
  written = slot_to now (moved (slot_of store v)) telegram

  long : length written ≡ slot_octets
  long = length_slot now (moved (slot_of store v)) telegram short

  fits : slot_start v + length written ≤ length store
  fits = omega (arith, long)

  pub length_taken : length (taken store v now telegram) ≡ length store
  unfolding taken
  length_taken = length_over store (slot_start v) written fits

  -- the slot of the vehicle says what was written
  pub slot_taken : slot_of (taken store v now telegram) v ≡ slot_from (slot_to now (moved (slot_of store v)) telegram)
  unfolding taken slot_of
  slot_taken =
      ap slot_from
      (ap (λ (n : ℕ). take n (drop (slot_start v) (over store (slot_start v) written))) (sym long) ∙ part_over store (slot_start v) written fits)

  -- C-12: "A new telegram sets the octet to 1", whatever it was
  pub heard_taken : (slot_of (taken store v now telegram) v).heard ≡ 1
  heard_taken = rw slot_taken

  -- and every other vehicle's slot is as before
  pub slot_other : (w : ℕ) → 1 ≤ w → (v ≡ w → ⊥) → slot_of (taken store v now telegram) w ≡ slot_of store w
  unfolding taken slot_of
  slot_other w h ne = ap slot_from (other_over store (slot_start v) written fits (slot_start w) slot_octets (side (dec_lt w v)))
    where
      side : Dec (w < v) → (slot_start w + slot_octets ≤ slot_start v) ⊎ (slot_start v + length written ≤ slot_start w)
      side (yes lt) = inl (omega arith)
      side (no ge) = inr (omega (arith, long))

-- ---- steps

-- a step that takes nothing from v and does not expire v's slot leaves it as it was
pub step_other : (v : ℕ) (store : List ℕ) (s : Step) → 1 ≤ v → v ≤ vehicles → Passes v store s → Spares v store s
    → slot_of (step store s) v ≡ slot_of store v
step_other v store (sweep now) h l p spared = by (sweeping store now) refl
  where
    by : (a : Answer (List ℕ)) → sweeping store now ≡ a → slot_of (after store a) v ≡ slot_of store v
    by (refused n at) e = refl
    by (gives new) e = let t = sweeps store now new e in rw (← t.1) (slot_swept store now t.0 v h l ∙ rw spared)
step_other v store (offer w now telegram) h l p spared = by (taking store w now telegram) refl p
  where
    by : (a : Answer (List ℕ)) → taking store w now telegram ≡ a → (w ≡ v → ⊥) ⊎ ((n : ℕ) × ((at : ℕ) × (taking store w now telegram ≡ refused n at)))
        → slot_of (after store a) v ≡ slot_of store v
    by (refused n at) e q = refl
    by (gives new) e (inr q) = absurd (never_both (taking store w now telegram) new q.0 q.1.0 e q.1.1)
    by (gives new) e (inl ne) =
        let t = takes store w now telegram new e in
        let g = t.0 in
        rw (← t.1) (slot_other store w now telegram g.whole g.first g.last (omega (arith, g.long, type_short (telegram_type telegram))) v h ne)

pub run_other : (v : ℕ) (store : List ℕ) (steps : List Step) → 1 ≤ v → v ≤ vehicles → NoneLater v store steps → NoneExpired v store steps
    → slot_of (run store steps) v ≡ slot_of store v
unfolding run NoneLater NoneExpired
run_other v store [] h l n x = refl
run_other v store (s ∷ ss) h l n x = run_other v (step store s) ss h l n.1 x.1 ∙ step_other v store s h l n.0 x.0

-- a step keeps the store's length
pub length_step : (store : List ℕ) (s : Step) → length (step store s) ≡ length store
length_step store (sweep now) = by (sweeping store now) refl
  where
    by : (a : Answer (List ℕ)) → sweeping store now ≡ a → length (after store a) ≡ length store
    by (refused n at) e = refl
    by (gives new) e = rw (← (sweeps store now new e).1) (length_swept store now vehicles)
length_step store (offer w now telegram) = by (taking store w now telegram) refl
  where
    by : (a : Answer (List ℕ)) → taking store w now telegram ≡ a → length (after store a) ≡ length store
    by (refused n at) e = refl
    by (gives new) e =
        let t = takes store w now telegram new e in
        let g = t.0 in
        rw (← t.1) (length_taken store w now telegram g.whole g.first g.last (omega (arith, g.long, type_short (telegram_type telegram))))

pub length_run : (store : List ℕ) (steps : List Step) → length (run store steps) ≡ length store
unfolding run
length_run store [] = refl
length_run store (s ∷ ss) = length_run (step store s) ss ∙ length_step store s

-- what stands in a store that keeps a telegram: the slot says it, and the store is whole
module _ (v stamp now limit : ℕ) (telegram store : List ℕ) (h : Standing v stamp now limit telegram store) where
  pub stood : Takes h.before v telegram
  stood = (takes h.before v stamp telegram (taken h.before v stamp telegram) h.took).0

  pub standing_slot : slot_of store v
      ≡ record { heard = 1; stamp = stamp; previous = moved (slot_of h.before v) % turn; telegram = padded telegram }
  standing_slot =
      let g = stood in
      let short : length telegram ≤ telegram_octets = omega (arith, g.long, type_short (telegram_type telegram)) in
      rw (← h.reached)
      (run_other v (taken h.before v stamp telegram) h.steps g.first g.last h.later h.unexpired
      ∙ slot_taken h.before v stamp telegram g.whole g.first g.last short
      ∙ slot_says stamp (moved (slot_of h.before v)) telegram h.clock)

  pub standing_whole : length store ≡ store_octets
  standing_whole =
      let g = stood in
      let short : length telegram ≤ telegram_octets = omega (arith, g.long, type_short (telegram_type telegram)) in
      rw (← h.reached)
      (length_run (taken h.before v stamp telegram) h.steps ∙ length_taken h.before v stamp telegram g.whole g.first g.last short ∙ g.whole)
