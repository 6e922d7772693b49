-- C-12, the true clock over the definitions: where the store is swept often enough, a signal with a limit is too old exactly when its true age is
-- above the limit, however often the clock has come round. Assumes nothing.
use Prim.Native.Nat.{ℕ, zero, suc, ◌+◌, ◌-◌, ◌%◌, ◌≤◌, ◌<◌}
use mathlib.Core.Path.{◌≡◌, refl, sym, ap, ◌∙◌}
use mathlib.Core.Logic.{◌↔◌, ◌⊎◌, inl, inr}
use mathlib.Core.Bool.{Bool, true, false, not, cond, ◌&&◌, ◌||◌}
use mathlib.Core.List.{List, [], ◌∷◌, ◌++◌, map}
use native.Mathlib.Omega.{arith}
use native.Mathlib.Decide.{dec_lt, ℕ_discrete}
use lib.ListN.{length, get_or, get_or-replicate, length-replicate}
use lib.Dec.{eqb, leb, ltb, lit<, lit≤}
use borrow.Author.Tests.{leb-false, lt-leb, lt-ltb, le-ltb, ne_eqb, not-true}
use Rattle.paper.specs.Octets.{bit, field, number, octets_of, over}
use Rattle.paper.specs.Answer.{Answer, gives, refused, refuse_if, after}
use Rattle.paper.specs.First.{FirstAt}
use Rattle.paper.specs.Telegrams.{application_type, telegram_type, is_type}
use Rattle.paper.specs.SignalList
use Rattle.paper.specs.SignalList.{SignalList, Counts, longest_limit, judge, list_of}
use Rattle.paper.specs.Store.{vehicles, telegram_octets, store_octets, slot_start, Slot, slot_of, moved, taken, taking, turn, age, Takes, stale, timely}
use Rattle.paper.specs.Reading.{Reading, heard, hindrances, reason_of, reading_of, reading}
use Rattle.paper.specs.Demands.{Step, offer, sweep, step, run, NoneLater, NoneExpired, half_turn, on_clock, Orderly, TrueClock, LastTaken}
use Rattle.paper.specs.Bench.{list_l, counts_l, judged, telegram, silent}
use Rattle.paper.specs.Parked.{sent, come_round, watched, seldom}
use Rattle.paper.proofs.FieldLaws.{field_front}
use Rattle.paper.proofs.ListLaws.{kept}
use Rattle.paper.proofs.SweepLaws.{aged, heard_octet, slot_swept, sweeps_it}
use Rattle.paper.proofs.StoreLaws.{takes, type_short, type_least, padded, slot_says, length_taken, slot_taken, step_other, run_other, length_step, length_run}
use Rattle.paper.proofs.ReadingLaws.{reason_exactly, reads, reads_it}

-- the clock tells a true age of less than a turn
pub age_true : (now t : ℕ) → t ≤ now → now < t + turn → age (now % turn) (t % turn) ≡ now - t
unfolding age
age_true now t h k = omega arith

-- ---- the slot of a vehicle after its last telegram was taken, at the true time t

-- by its heard octet: it is heard, and the last sweep (the start, if none) came no later than 600,000 ms after t; or it is expired, and t is more
-- than 600,000 ms back. `last` and `swept` as in Orderly
abbrev Aging : ℕ → ℕ → ℕ → ℕ → Type 0
Aging t last swept mark = ((mark ≡ 1) × ((t ≤ last) × (swept ≤ t + longest_limit))) ⊎ ((mark ≡ 2) × (t + longest_limit < last))

record Keeps (t last swept : ℕ) (telegram : List ℕ) (s : Slot) : Type 0 where
  stamped : s.stamp ≡ t % turn
  said : s.telegram ≡ telegram
  aging : Aging t last swept s.heard

module _ (t last swept : ℕ) (telegram : List ℕ) (s : Slot) (k : Keeps t last swept telegram s) where
  -- time passes
  later_keeps : (u : ℕ) → last ≤ u → Keeps t u swept telegram s
  later_keeps u h = record { stamped = k.stamped; said = k.said; aging = by k.aging }
    where
      by : Aging t last swept s.heard → Aging t u swept s.heard
      by (inl a) = inl (a.0, (omega arith, a.1.1))
      by (inr a) = inr (a.0, omega arith)

  -- the age of a heard slot is the true one, within half a turn of the last sweep: it is at most 600,000 ms and half a turn
  heard_age : (u : ℕ) → last ≤ u → u ≤ swept + half_turn → (t ≤ last) × (swept ≤ t + longest_limit) → age (u % turn) s.stamp ≡ u - t
  heard_age u h g a = rw k.stamped (age_true u t (omega arith) (omega arith))

  -- a sweep in time
  swept_keeps : (u : ℕ) → last ≤ u → u ≤ swept + half_turn → Keeps t u u telegram (aged s (u % turn))
  unfolding stale
  swept_keeps u h g = record { stamped = k.stamped; said = k.said; aging = by k.aging (dec_lt (t + longest_limit) u) }
    where
      by : Aging t last swept s.heard → Dec (t + longest_limit < u)
          → Aging t u u (cond (eqb s.heard 1 && ltb longest_limit (age (u % turn) s.stamp)) 2 s.heard)
      by (inl a) (yes lt) = inr (rw (a.0, heard_age u h g a.1, lt-ltb longest_limit (u - t) (omega arith)), lt)
      by (inl a) (no ge) =
          inl (rw (a.0, heard_age u h g a.1, le-ltb longest_limit (u - t) (omega arith)), (omega arith, omega arith))
      by (inr a) d = inr (rw a.0, omega arith)

-- the steps after that
run_keeps : (v t now : ℕ) (telegram : List ℕ) → 1 ≤ v → v ≤ vehicles → (steps : List Step) (store : List ℕ) (last swept : ℕ)
    → length store ≡ store_octets → Orderly last swept steps now → NoneLater v store (map on_clock steps) → Keeps t last swept telegram (slot_of store v)
    → (late : ℕ) × ((now ≤ late + half_turn) × (Keeps t now late telegram (slot_of (run store (map on_clock steps)) v)))
unfolding run Orderly NoneLater
run_keeps v t now telegram a b [] store last swept whole o n k = (swept, (o.1, later_keeps t last swept telegram (slot_of store v) k now o.0))
run_keeps v t now telegram a b (offer w u other ∷ ss) store last swept whole o n k =
    let s = on_clock (offer w u other) in
    run_keeps v t now telegram a b ss (step store s) u swept (length_step store s ∙ whole) o.1 n.1
    (rw (step_other v store s a b n.0 tt) (later_keeps t last swept telegram (slot_of store v) k u o.0))
run_keeps v t now telegram a b (sweep u ∷ ss) store last swept whole o n k =
    let s = on_clock (sweep u) in
    run_keeps v t now telegram a b ss (step store s) u u (length_step store s ∙ whole) o.1.1 n.1
    (rw (sweeps_it store (u % turn) whole, slot_swept store (u % turn) whole v a b)
    (swept_keeps t last swept telegram (slot_of store v) k u o.0 o.1.0))

-- the steps before it
run_append : (before later : List Step) (store : List ℕ)
    → run store (map on_clock (before ++ later)) ≡ run (run store (map on_clock before)) (map on_clock later)
unfolding run
run_append [] later store = refl
run_append (s ∷ ss) later store = run_append ss later (step store (on_clock s))

-- what is orderly is so from any of its steps on
orderly_from : (before later : List Step) (last swept now : ℕ) → swept ≤ last → Orderly last swept (before ++ later) now
    → (u : ℕ) × ((late : ℕ) × ((late ≤ u) × Orderly u late later now))
unfolding Orderly
orderly_from [] later last swept now h o = (last, (swept, (h, o)))
orderly_from (offer w u other ∷ ss) later last swept now h o = orderly_from ss later u swept now (omega arith) o.1
orderly_from (sweep u ∷ ss) later last swept now h o = orderly_from ss later u u now (omega arith) o.1.1

module _ (start : List ℕ) (begun : ℕ) (steps : List Step) (now : ℕ) (timed : Orderly begun begun steps now)
    (v t : ℕ) (h : LastTaken v t start steps) where
  abbrev last_store : List ℕ
  last_store = run start (map on_clock h.before)

  abbrev last_steps : List Step
  last_steps = offer v t h.telegram ∷ h.later

  last_takes : Takes (run start (map on_clock h.before)) v h.telegram
  last_takes = (takes _ v (t % turn) h.telegram _ h.took).0

  short : length h.telegram ≤ telegram_octets
  short = omega (arith, last_takes.long, type_short (telegram_type h.telegram))

  last_run : run (taken last_store v (t % turn) h.telegram) (map on_clock h.later) ≡ run start (map on_clock steps)
  unfolding run
  last_run =
      ap (λ (a : Answer (List ℕ)). run (after last_store a) (map on_clock h.later)) (sym h.took)
      ∙ sym (run_append h.before last_steps start)
      ∙ ap (λ (ss : List Step). run start (map on_clock ss)) h.parts

  last_kept : (late : ℕ) × ((now ≤ late + half_turn) × (Keeps t now late (padded h.telegram) (slot_of (run start (map on_clock steps)) v)))
  unfolding Orderly
  last_kept =
      let g = last_takes in
      let o = orderly_from h.before last_steps begun begun now (omega arith) (rw h.parts timed) in
      let before = moved (slot_of last_store v) in
      let is : slot_of (taken last_store v (t % turn) h.telegram) v
      ≡ record { heard = 1; stamp = t % turn; previous = before % turn; telegram = padded h.telegram } =
      slot_taken _ v (t % turn) h.telegram g.whole g.first g.last short ∙ slot_says (t % turn) before h.telegram (omega arith) in
      rw (← last_run)
      (run_keeps v t now (padded h.telegram) g.first g.last h.later (taken last_store v (t % turn) h.telegram) t o.1.0
      (length_taken _ v (t % turn) h.telegram g.whole g.first g.last short ∙ g.whole)
      o.1.1.1.1
      h.none
      (rw is (record { stamped = refl; said = refl; aging = inl (refl, (omega arith, omega (arith, o.1.1.0, o.1.1.1.0))) })))

  last_whole : length (run start (map on_clock steps)) ≡ store_octets
  last_whole = rw (← h.parts, run_append h.before last_steps start) (length_run _ _ ∙ last_takes.whole)

-- ---- the reading

or-false : (b : Bool) → (b || false) ≡ b
or-false true = refl
or-false false = refl

-- a taken telegram has a good head, as it stands in a slot too
good_head : (telegram : List ℕ) → application_type telegram ≡ 1 → is_type (telegram_type telegram) ≡ true → 2 ≤ length telegram
    → (application_type (padded telegram) ≡ 1) × (is_type (telegram_type (padded telegram)) ≡ true)
unfolding application_type telegram_type
good_head telegram a b h =
    let e : field (padded telegram) 4 4 ≡ field telegram 4 4 = field_front telegram _ 4 4 (omega arith) in
    (field_front telegram _ 0 4 (omega arith) ∙ a, rw e b)

module _ (t now late limit : ℕ) (telegram : List ℕ) (s : Slot) (k : Keeps t now late telegram s)
    (recent : now ≤ late + half_turn) (some : 1 ≤ limit) where
  -- the test of reason 3 is on the true age. HERE IT COUNTS THAT NO LIMIT IS ABOVE 600,000: an expired slot is older than that, and too old under
  -- every limit that a list may set
  timely_true : limit ≤ longest_limit → timely s (now % turn) limit ≡ leb (now - t) limit
  timely_true most = by k.aging
    where
      by : Aging t now late s.heard → timely s (now % turn) limit ≡ leb (now - t) limit
      by (inl a) =
          let e : age (now % turn) s.stamp ≡ now - t = heard_age t now late telegram s k now (omega arith) recent a.1 in
          rw (a.0, e, ne_eqb limit 0 (λ z. omega arith)) (or-false (leb (now - t) limit))
      by (inr a) = rw (a.0, ne_eqb limit 0 (λ z. omega arith), lt-leb (now - t) limit (omega arith))

  -- and what was taken was heard, expired or not
  heard_true : application_type telegram ≡ 1 → is_type (telegram_type telegram) ≡ true → heard s ≡ true
  unfolding heard
  heard_true a b = by k.aging
    where
      by : Aging t now late s.heard
          → ((eqb s.heard 1 || eqb s.heard 2) && eqb (application_type s.telegram) 1 && is_type (telegram_type s.telegram)) ≡ true
      by (inl q) = rw (q.0, k.said, a) b
      by (inr q) = rw (q.0, k.said, a) b

  reason_true : limit ≤ longest_limit → (l : SignalList) (j : ℕ) → (l.signal j).limit ≡ limit → application_type telegram ≡ 1
      → is_type (telegram_type telegram) ≡ true → (reason_of l s (now % turn) j ≡ 3) ↔ (limit < now - t)
  unfolding hindrances
  reason_true most l j is a b = (
    λ e. old ((reason_exactly l s (now % turn) j 1 (omega arith)).0 e),
    λ lt. (reason_exactly l s (now % turn) j 1 (omega arith)).1 (first lt),
  )
    where
      old : FirstAt (hindrances l s (now % turn) j) 1 → limit < now - t
      old f = leb-false (now - t) limit (sym (timely_true most) ∙ not-true _ (rw is at f.here))

      first : limit < now - t → FirstAt (hindrances l s (now % turn) j) 1
      first lt = record { here = rw (is, timely_true most, lt-leb (now - t) limit lt); before = λ i small. before i small }
        where
          before : (i : ℕ) → i < 1 → get_or (hindrances l s (now % turn) j) i false ≡ false
          before zero small = ap not (heard_true a b)
          before (suc i) small = absurd (omega arith)

-- of any start, slots heard or expired or not: that none is, is not needed of a vehicle that was taken from
pub last_age : (start : List ℕ) (begun : ℕ) (steps : List Step) (now : ℕ) → Orderly begun begun steps now
    → (v t : ℕ) → LastTaken v t start steps → (form : ℕ) (xs : List ℕ) (n : Counts) → judge form xs ≡ gives n
    → (k : ℕ) → k < n.signals → 1 ≤ ((list_of xs n).signal k).limit
    → let store = run start (map on_clock steps) in
    (given : Reading) × ((reading form xs store (now % turn) v k ≡ gives given) × ((given.reason ≡ 3) ↔ (((list_of xs n).signal k).limit < now - t)))
unfolding reading_of
last_age start begun steps now timed v t h form xs n accepted k lt limited =
    let g = last_takes start begun steps now timed v t h in
    let q = last_kept start begun steps now timed v t h in
    let head = good_head h.telegram g.application g.typed (omega (arith, g.long, type_least (telegram_type h.telegram))) in
    let l = list_of xs n in
    let store = run start (map on_clock steps) in (
      reading_of l (slot_of store v) (now % turn) k,
      (
        reads_it form xs store (now % turn) v k n accepted (last_whole start begun steps now timed v t h) g.first g.last lt,
        reason_true t now q.0 (l.signal k).limit _ (slot_of store v) q.1.1 q.1.0 limited
            ((kept form xs n accepted).signal k lt).limited l k refl head.0 head.1,
      ),
    )

-- THE TRUE CLOCK. C-12: "A read given the true clock .. of a vehicle taken from and a signal with a limit, gives reason 3 exactly when the true age
-- is above the limit", the true age being the true time of the read less that of the last telegram taken from the vehicle
pub true_age : (start : List ℕ) (begun : ℕ) (steps : List Step) (now : ℕ) → TrueClock start begun steps now
    → (v t : ℕ) → LastTaken v t start steps → (form : ℕ) (xs : List ℕ) (n : Counts) → judge form xs ≡ gives n
    → (k : ℕ) → k < n.signals → 1 ≤ ((list_of xs n).signal k).limit
    → let store = run start (map on_clock steps) in
    (given : Reading) × ((reading form xs store (now % turn) v k ≡ gives given) × ((given.reason ≡ 3) ↔ (((list_of xs n).signal k).limit < now - t)))
true_age start begun steps now c = last_age start begun steps now c.timed

-- ---- a vehicle that was not taken from

-- whatever was swept, at any clock values
spared : (v : ℕ) (steps : List Step) (store : List ℕ) → 1 ≤ v → v ≤ vehicles → ((slot_of store v).heard ≡ 1 → ⊥) → NoneLater v store steps
    → NoneExpired v store steps
unfolding NoneLater NoneExpired stale
spared v [] store a b ne n = tt
spared v (offer w now other ∷ ss) store a b ne n =
    let e = step_other v store (offer w now other) a b n.0 tt in
    (tt, spared v ss (step store (offer w now other)) a b (λ q. ne (sym (ap (λ (s : Slot). s.heard) e) ∙ q)) n.1)
spared v (sweep now ∷ ss) store a b ne n =
    let x : stale (slot_of store v) now ≡ false = rw (ne_eqb _ _ ne) in
    let e = step_other v store (sweep now) a b tt x in
    (x, spared v ss (step store (sweep now)) a b (λ q. ne (sym (ap (λ (s : Slot). s.heard) e) ∙ q)) n.1)

-- reason 2, with a limit or none: it was neither heard nor expired at the start, and nothing was taken since
pub untaken : (start : List ℕ) (begun : ℕ) (steps : List Step) (now : ℕ) → TrueClock start begun steps now
    → (v : ℕ) → NoneLater v start (map on_clock steps)
    → (form : ℕ) (xs : List ℕ) (k : ℕ) (given : Reading) → reading form xs (run start (map on_clock steps)) (now % turn) v k ≡ gives given → given.reason ≡ 2
unfolding reading_of reason_of hindrances heard
untaken start begun steps now c v none form xs k given e =
    let r = reads form xs (run start (map on_clock steps)) (now % turn) v k given e in
    let f = c.fresh v r.first r.last in
    let x = spared v (map on_clock steps) start r.first r.last f.0 none in
    let same = run_other v start (map on_clock steps) r.first r.last none x in
    rw (← r.is, same, ne_eqb _ _ f.0, ne_eqb _ _ f.1)

-- ---- any sequence: vehicle v was taken from, and then for a last time, or it was not

pub taken_or_not : (v : ℕ) (steps : List Step) (start : List ℕ) → NoneLater v start (map on_clock steps) ⊎ ((t : ℕ) × LastTaken v t start steps)
unfolding NoneLater run
taken_or_not v [] start = inl tt
taken_or_not v (s ∷ ss) start = by s (taken_or_not v ss (step start (on_clock s)))
  where
    more : (s : Step) (t : ℕ) → LastTaken v t (step start (on_clock s)) ss → LastTaken v t start (s ∷ ss)
    more s t f =
        record {
          before = s ∷ f.before;
          telegram = f.telegram;
          later = f.later;
          parts = ap (λ (l : List Step). s ∷ l) f.parts;
          took = f.took;
          none = f.none;
        }

    offered : (w u : ℕ) (telegram : List ℕ) → NoneLater v (step start (offer w (u % turn) telegram)) (map on_clock ss) → Dec (w ≡ v)
        → (a : Answer (List ℕ)) → taking start w (u % turn) telegram ≡ a
        → NoneLater v start (map on_clock (offer w u telegram ∷ ss)) ⊎ ((t : ℕ) × LastTaken v t start (offer w u telegram ∷ ss))
    offered w u telegram n (no ne) a e = inl (inl ne, n)
    offered w u telegram n (yes q) (refused i at) e = inl (inr (i, (at, e)), n)
    offered w u telegram n (yes q) (gives new) e =
        let is : taken start w (u % turn) telegram ≡ new = (takes start w (u % turn) telegram new e).1 in
        let took : taking start w (u % turn) telegram ≡ gives (taken start w (u % turn) telegram) = e ∙ ap gives (sym is) in
        inr (
          u,
          record {
            before = [];
            telegram = telegram;
            later = ss;
            parts = ap (λ (x : ℕ). offer x u telegram ∷ ss) (sym q);
            took = rw (← q) took;
            none = rw (← q, is) (rw (e, ← q) at n);
          },
        )

    by : (s : Step) → NoneLater v (step start (on_clock s)) (map on_clock ss) ⊎ ((t : ℕ) × LastTaken v t (step start (on_clock s)) ss)
        → NoneLater v start (map on_clock (s ∷ ss)) ⊎ ((t : ℕ) × LastTaken v t start (s ∷ ss))
    by s (inr f) = inr (f.0, more s f.0 f.1)
    by (sweep u) (inl n) = inl (tt, n)
    by (offer w u telegram) (inl n) = offered w u telegram n (ℕ_discrete w v) (taking start w (u % turn) telegram) refl

-- ---- computed: the request's complaint, that the premises can be met, and that sweeps may not come a turn apart

-- a store of zeros has no slot heard or expired
silent_fresh : (v : ℕ) → 1 ≤ v → v ≤ vehicles → ((slot_of silent v).heard ≡ 1 → ⊥) × ((slot_of silent v).heard ≡ 2 → ⊥)
unfolding silent
silent_fresh v a b =
    let e : (slot_of silent v).heard ≡ 0 = heard_octet silent v ∙ get_or-replicate {A = ℕ} store_octets (slot_start v) 0 0 (omega arith) in
    (λ q. omega arith, λ q. omega arith)

-- sweeps half a turn apart: the premises hold
pub met : TrueClock silent 0 watched (turn + 1000)
unfolding Orderly
met =
    record {
      fresh = silent_fresh;
      timed = (lit≤ tt, (lit≤ tt, (lit≤ tt, (lit≤ tt, (lit≤ tt, (lit≤ tt, lit≤ tt))))));
    }

pub last_sent : LastTaken 1 0 silent watched
unfolding NoneLater run telegram silent bit field refuse_if application_type telegram_type taking
last_sent =
    record { before = []; telegram = telegram 0x10 0x40; later = sweep half_turn ∷ sweep turn ∷ []; parts = refl; took = refl; none = (tt, (tt, tt)) }

-- so the telegram that `come_round` reads live without a sweep is too old
pub swept_round :
    let store = run silent (map on_clock watched) in
    (given : Reading) × ((reading 1 list_l store ((turn + 1000) % turn) 1 0 ≡ gives given) × (given.reason ≡ 3))
unfolding list_l number SignalList.signal_at SignalList.among
swept_round =
    let t = true_age silent 0 watched (turn + 1000) met 1 0 last_sent 1 list_l counts_l judged.0 0 (lit< tt) (lit≤ tt) in
    (t.0, (t.1.0, t.1.1.1 (lit< tt)))

-- sweeps a turn apart see the age 0 each time: "old door signals as live", after two turns too
young : stale (slot_of (run silent (map on_clock (sent 0 ∷ []))) 1) 0 ≡ false
unfolding run telegram silent bit field number octets_of over refuse_if application_type telegram_type slot_of taken taking age stale
young = refl

silent_length : length silent ≡ store_octets
unfolding silent
silent_length = length-replicate {A = ℕ} store_octets 0

pub swept_seldom : reading 1 list_l (run silent (map on_clock seldom)) ((turn + turn + 1000) % turn) 1 0 ≡ gives (record { value = 4; reason = 0 })
unfolding NoneLater NoneExpired run
swept_seldom =
    let heard = run silent (map on_clock (sent 0 ∷ [])) in
    let whole : length heard ≡ store_octets = length_run silent (map on_clock (sent 0 ∷ [])) ∙ silent_length in
    let one : slot_of (step heard (sweep 0)) 1 ≡ slot_of heard 1 = step_other 1 heard (sweep 0) (lit≤ tt) (lit≤ tt) tt young in
    let two : slot_of (run heard (sweep 0 ∷ sweep 0 ∷ [])) 1 ≡ slot_of heard 1 =
    run_other 1 heard (sweep 0 ∷ sweep 0 ∷ []) (lit≤ tt) (lit≤ tt) (tt, (tt, tt)) (young, (rw one young, tt)) in
    reads_it 1 list_l _ 1000 1 0 counts_l judged.0 (length_run heard (sweep 0 ∷ sweep 0 ∷ []) ∙ whole) (lit≤ tt) (lit≤ tt) (lit< tt)
    ∙ ap (λ (s : Slot). gives (reading_of (list_of list_l counts_l) s 1000 0)) two
    ∙ sym (reads_it 1 list_l heard 1000 1 0 counts_l judged.0 whole (lit≤ tt) (lit≤ tt) (lit< tt))
    ∙ come_round
