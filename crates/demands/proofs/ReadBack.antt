-- DEMANDS 2 and 3 of the calls themselves: what `compose` wrote, `take` took, `sweep` did not expire and `read` answers, by nothing but what these
-- calls ensure. Assumes nothing.
use Prim.Native.Nat.{ℕ, ◌≤◌, ◌<◌}
use mathlib.Core.Path.{◌≡◌, refl, sym, ap, ◌∙◌}
use mathlib.Core.Logic.{◌⊎◌, inr}
use mathlib.Core.Bool.{true, false, cond}
use mathlib.Core.List.{List, [], ◌∷◌}
use lib.ListN.{length, get_or}
use lib.Dec.{eqb}
use Rattle.paper.specs.Answer.{gives}
use Rattle.paper.specs.Telegrams.{carries, ok, forced}
use Rattle.paper.specs.SignalList.{Counts, judge, list_of}
use Rattle.paper.specs.Extends.{same, Related}
use Rattle.paper.specs.Store.{vehicles, store_octets, slot_of, taking, taken, turn, age, in_time, stale}
use Rattle.paper.specs.Reading.{Reading}
use Rattle.paper.specs.Composing.{composing}
use Rattle.paper.specs.Demands.{Step, offer, sweep, run, Passes, NoneLater, NoneExpired, Standing, given_mark, delivered, withheld, Named}
use Rattle.paper.proofs.StoreLaws as laws
use Rattle.paper.proofs.Demands as paper
use Rattle.refusals.specs.declared.Refusal.{Refusal}
use Rattle.refusals.specs.Refusal.{number_of, carried_of}
use Rattle.refusals.specs.Outcome.{Written}
use Rattle.refusals.proofs.WrittenLaws.{written_done, written_gives, written_not, one_written}
use Rattle.reading.specs.Reading.{read_answer}
use Rattle.demands.specs.declared.Answers.{Answers}
use Rattle.demands.specs.Told.{Told}
use Rattle.std.specs.Prelude.{Result, Ok, Err}
use Rattle.reading.specs.declared.Reading as code
use Rattle.demands.specs.Calls.{Made, none, takes, sweeps, Calls}

-- ---- the calls are the paper's steps

pub made_runs : {store last : List ℕ} {steps : List Step} → Made store steps last → run store steps ≡ last
unfolding run
made_runs none = refl
made_runs (takes w now telegram r t rest) = rw (← t.octets) (made_runs rest)
made_runs (sweeps now r t rest) = rw (← t.octets) (made_runs rest)

-- a call of `take` that is done takes the telegram, and one that is refused takes none
pub done_takes : (store : List ℕ) (v now : ℕ) (telegram next : List ℕ) → Written (taking store v now telegram) store (Ok tt) next
    → (taking store v now telegram ≡ gives (taken store v now telegram)) × (taken store v now telegram ≡ next)
done_takes store v now telegram next w =
    let e = written_gives _ store next w in
    let t : taken store v now telegram ≡ next = (laws.takes store v now telegram next e).1 in
    (e ∙ ap gives (sym t), t)

pub refused_passes : (store : List ℕ) (v w now : ℕ) (telegram : List ℕ) (f : Refusal) (next : List ℕ)
    → Written (taking store w now telegram) store (Err f) next → Passes v store (offer w now telegram)
refused_passes store v w now telegram f next t = inr (number_of f, (carried_of f, written_not _ store f next t))

-- `told` is such a run of calls, with one of `sweep` between: what it ensures it has from the contracts of the four, so they fit this record
pub told_calls : (form : ℕ) (xs : List ℕ) (type : ℕ) (values marks out store : List ℕ) (v stamp at form' : ℕ) (ys : List ℕ) (now k : ℕ)
    (sent held : List ℕ) (r : Answers) → (t : Told form xs type values marks out store v stamp at form' ys now k sent held r) → stamp < turn → r.composed ≡ Ok tt → r.taken ≡ Ok tt
    → stale (slot_of t.heard v) at ≡ false → Calls form xs type values marks v stamp form' ys now k r.read
unfolding NoneLater NoneExpired
told_calls form xs type values marks out store v stamp at form' ys now k sent held r t clock composed took young =
    record {
      out = out;
      telegram = sent;
      composed = rw composed at t.composed;
      before = store;
      after = t.heard;
      clock = clock;
      took = rw took at t.taken;
      steps = sweep at ∷ [];
      store = held;
      made = sweeps at r.swept t.swept none;
      later = (tt, tt);
      unexpired = (young, tt);
      read = t.read;
    }

module _ (form : ℕ) (xs : List ℕ) (type : ℕ) (values marks : List ℕ) (v stamp form' : ℕ) (ys : List ℕ) (now k : ℕ) (r : Result code.Reading Refusal)
    (c : Calls form xs type values marks v stamp form' ys now k r) where
  sent : composing form xs type values marks (length c.out) ≡ gives c.telegram
  sent = written_gives _ c.out c.telegram c.composed

  standing : (limit : ℕ) → in_time (age now stamp) limit ≡ true → Standing v stamp now limit c.telegram c.store
  standing limit within =
      let t = done_takes c.before v stamp c.telegram c.after c.took in
      record {
        before = c.before;
        steps = c.steps;
        clock = c.clock;
        took = t.0;
        later = rw t.1 c.later;
        unexpired = rw t.1 c.unexpired;
        reached = rw t.1 (made_runs c.made);
        within = within;
      }

  -- DEMAND 3: a signal that both lists have and the type carries
  pub both_have : (m n : Counts) → judge form xs ≡ gives m → judge form' ys ≡ gives n → Related (list_of xs m) (list_of ys n)
      → (i : ℕ) → i < m.signals → k < n.signals → same ((list_of xs m).signal i) ((list_of ys n).signal k) ≡ true
      → carries type ((list_of ys n).signal k).type ≡ true → in_time (age now stamp) ((list_of ys n).signal k).limit ≡ true
      → read_answer r ≡ gives (delivered (list_of ys n) k (given_mark marks ((list_of xs m).signal i)) (get_or values i 0))
  both_have m n writer reader related i hi hk one carried within =
      c.read ∙ paper.both_have _ _ _ _ _ _ _ sent m writer _ _ n reader _ _ _ _ _ hk (standing _ within) related i hi one carried

  -- DEMAND 3: a signal that only the reader's list has, or that the type doesn't carry
  pub only_reader : (m n : Counts) → judge form xs ≡ gives m → judge form' ys ≡ gives n → Related (list_of xs m) (list_of ys n) → k < n.signals
      → (carries type ((list_of ys n).signal k).type ≡ false) ⊎ ((i : ℕ) → i < m.signals → same ((list_of xs m).signal i) ((list_of ys n).signal k) ≡ true → ⊥)
      → in_time (age now stamp) ((list_of ys n).signal k).limit ≡ true
      → read_answer r ≡ gives (withheld (list_of ys n) type k)
  only_reader m n writer reader related hk d within =
      c.read ∙ paper.only_reader _ _ _ _ _ _ _ sent m writer _ _ n reader _ _ _ _ _ hk (standing _ within) related d

  -- DEMAND 3, whole: every signal of the reader's list comes with one of the readings that the demand names. Never another value
  pub never_another : (m n : Counts) → judge form xs ≡ gives m → judge form' ys ≡ gives n → Related (list_of xs m) (list_of ys n) → k < n.signals
      → in_time (age now stamp) ((list_of ys n).signal k).limit ≡ true
      → (given : Reading) × ((Named (list_of xs m) (list_of ys n) type values marks k given) × (read_answer r ≡ gives given))
  never_another m n writer reader related hk within =
      let t = paper.never_another _ _ _ _ _ _ _ sent m writer _ _ n reader _ _ _ _ _ hk (standing _ within) related in
      (t.0, (t.1.0, c.read ∙ t.1.1))

-- DEMAND 2, reading back under the list that it was composed with: a signal that the type carries, with a mark ok or forced, or no check,
-- reads back within its time limit as given
pub read_back : (form : ℕ) (xs : List ℕ) (type : ℕ) (values marks : List ℕ) (v stamp now k : ℕ) (r : Result code.Reading Refusal) → Calls form xs type values marks v stamp form xs now k r
    → (m : Counts) → judge form xs ≡ gives m → k < m.signals → carries type ((list_of xs m).signal k).type ≡ true
    → (given_mark marks ((list_of xs m).signal k) ≡ ok) ⊎ (given_mark marks ((list_of xs m).signal k) ≡ forced)
    → in_time (age now stamp) ((list_of xs m).signal k).limit ≡ true
    → read_answer r ≡ gives (record { value = get_or values k 0; reason = cond (eqb (given_mark marks ((list_of xs m).signal k)) forced) 1 0 })
read_back form xs type values marks v stamp now k r c m e hk carried mark within =
    c.read
    ∙ paper.read_back _ _ _ _ _ _ _ (sent form xs type values marks v stamp form xs now k r c) m e _ _ _ _ _ hk carried mark
    (standing form xs type values marks v stamp form xs now k r c _ within)

-- what `compose` wrote, `take` never refuses for a vehicle of the 63 and a store of the right length
pub composed_taken : (form : ℕ) (xs : List ℕ) (type : ℕ) (values marks out telegram : List ℕ) → Written (composing form xs type values marks (length out)) out (Ok tt) telegram
    → (before : List ℕ) (v now : ℕ) (r : Result (Unit {0}) Refusal) (after : List ℕ) → length before ≡ store_octets → 1 ≤ v → v ≤ vehicles
    → Written (taking before v now telegram) before r after → (r ≡ Ok tt) × (after ≡ taken before v now telegram)
composed_taken form xs type values marks out telegram composed before v now r after whole first last took =
    let e = paper.composed_taken form xs type values marks (length out) telegram (written_gives _ out telegram composed) before v now whole first last in
    one_written _ before r (Ok tt) after (taken before v now telegram) took (written_done _ before _ (sym e))
