-- C-24 of the calls themselves: what `read` answers behind a gateway in the middle, by nothing but what `compose`, `take`, `sweep`, `relay` and `read`
-- ensure. Assumes nothing.
use Prim.Native.Nat.{ℕ, ◌≤◌, ◌<◌}
use mathlib.Core.Path.{◌≡◌, sym, ap, ◌∙◌}
use mathlib.Core.Logic.{◌↔◌, ◌⊎◌}
use mathlib.Core.Bool.{true, false}
use mathlib.Core.List.{List, []}
use lib.ListN.{length}
use Rattle.paper.specs.Answer.{gives}
use Rattle.paper.specs.Telegrams.{type_length, carries}
use Rattle.paper.specs.SignalList.{Counts, judge, list_of}
use Rattle.paper.specs.Extends.{same, extends}
use Rattle.paper.specs.Store.{vehicles, store_octets, taking, turn, age, in_time}
use Rattle.paper.specs.Reading.{Reading}
use Rattle.paper.specs.Demands.{NoneLater, NoneExpired, Standing, Shared, withheld}
use Rattle.paper.specs.Relaying.{relaying, AllChecked, ReplacementsKnown, Middle, LiveThere, Behind}
use Rattle.paper.proofs.RelayingLaws as paper
use Rattle.refusals.specs.Outcome.{Written}
use Rattle.refusals.proofs.WrittenLaws.{written_done, written_gives, one_written}
use Rattle.reading.specs.Reading.{read_answer}
use Rattle.demands.specs.declared.Passed.{Passed}
use Rattle.demands.specs.Calls.{none}
use Rattle.demands.specs.PassedOn.{PassedOn, Heard, LastRead}
use Rattle.std.specs.Prelude.{Result, Ok}
use Rattle.refusals.specs.declared.Refusal.{Refusal}
use Rattle.reading.specs.declared.Reading as code
use Rattle.demands.proofs.ReadBack.{made_runs, done_takes}

-- `pass_on` is such a last reading, with nothing between: what it ensures it has from the contracts of the three calls, so they fit these records
pub passed_last : (form : ℕ) (xs there : List ℕ) (now v : ℕ) (out here : List ℕ) (u stamp form' : ℕ) (ys : List ℕ) (later k : ℕ) (second held : List ℕ) (r : Passed)
    → PassedOn form xs there now v out here u stamp form' ys later k second held r → stamp < turn → r.taken ≡ Ok tt
    → LastRead second u stamp form' ys later k r.read
unfolding NoneLater NoneExpired
passed_last form xs there now v out here u stamp form' ys later k second held r p clock took =
    record {
      before = here;
      after = held;
      clock = clock;
      took = rw took at p.taken;
      steps = [];
      store = held;
      made = none;
      later = tt;
      unexpired = tt;
      read = p.read;
    }

module _ (form : ℕ) (xs : List ℕ) (m : Counts) (form' : ℕ) (ys : List ℕ) (n : Counts) (type : ℕ) (values marks : List ℕ) (v stamp : ℕ) (there : List ℕ)
    (inner : judge form xs ≡ gives m) (outer : judge form' ys ≡ gives n) (extending : extends (list_of xs m) (list_of ys n) ≡ true)
    (checked : AllChecked (list_of xs m)) (h : Heard form' ys type values marks v stamp there) where
  middle : Middle form xs m form' ys n type values marks v stamp there
  middle =
      let t = done_takes h.before v stamp h.first h.after h.took in
      record {
        inner = inner;
        outer = outer;
        extending = extending;
        checked = checked;
        room = length h.out;
        first = h.first;
        sent = written_gives _ h.out h.first h.composed;
        last = record { before = h.before; steps = h.steps; clock = h.clock; took = t.0; later = rw t.1 h.later; reached = rw t.1 (made_runs h.made) };
      }

  -- where every replacement in A is a code known to A, `relay` into an output of the type's length is done, whatever the clock
  pub never_refused : ReplacementsKnown (list_of xs m) → (now : ℕ) (out : List ℕ) → length out ≡ type_length type → (r : Result (Unit {0}) Refusal) (second : List ℕ)
      → Written (relaying form xs there now v (length out)) out r second → r ≡ Ok tt
  never_refused known now out long r second w =
      let e = paper.middle_relays form xs m form' ys n type values marks v stamp now there middle known in
      (one_written _ out r (Ok tt) second _ w (written_done _ out _ (sym (ap (relaying form xs there now v) long ∙ e)))).0

  -- what `relay` wrote is taken by whoever has a whole store, for a vehicle of the 63
  pub relayed_taken : (now : ℕ) (out second : List ℕ) → Written (relaying form xs there now v (length out)) out (Ok tt) second
      → (store : List ℕ) (u stamp' : ℕ) → length store ≡ store_octets → 1 ≤ u → u ≤ vehicles → (r : Result (Unit {0}) Refusal) (new : List ℕ)
      → Written (taking store u stamp' second) store r new → r ≡ Ok tt
  relayed_taken now out second w store u stamp' whole first last r new t =
      let e = paper.relayed_taken form xs m form' ys n type values marks v stamp now there middle (length out) second (written_gives _ out second w) store u stamp' whole first last in
      (one_written _ store r (Ok tt) new _ t (written_done _ store _ (sym e))).0

  -- `relay` is done in the middle at the clock value `now`, into `out`
  module _ (now : ℕ) (out second : List ℕ) (w : Written (relaying form xs there now v (length out)) out (Ok tt) second)
      (u stamp' now' k : ℕ) (r : Result code.Reading Refusal) (l : LastRead second u stamp' form' ys now' k r) (hk : k < n.signals)
      (within : in_time (age now' stamp') ((list_of ys n).signal k).limit ≡ true) where
    sent_on : relaying form xs there now v (length out) ≡ gives second
    sent_on = written_gives _ out second w

    stands : Standing u stamp' now' ((list_of ys n).signal k).limit second l.store
    stands =
        let t = done_takes l.before u stamp' second l.after l.took in
        record {
          before = l.before;
          steps = l.steps;
          clock = l.clock;
          took = t.0;
          later = rw t.1 l.later;
          unexpired = rw t.1 l.unexpired;
          reached = rw t.1 (made_runs l.made);
          within = within;
        }

    -- every signal of C comes with one of the readings that the request names, and never another
    pub behind : (given : Reading) × ((Behind (list_of xs m) (list_of ys n) type values marks there now v k given) × (read_answer r ≡ gives given))
    behind =
        let t = paper.behind_whole form xs m form' ys n type values marks v stamp now there middle (length out) second sent_on u stamp' now' k l.store hk stands in
        (t.0, (t.1.0, l.read ∙ t.1.1))

    -- and one of A that the type carries is live exactly if every such signal under its check was live in the middle
    pub behind_live : (i : ℕ) → Shared (list_of xs m) (list_of ys n) type i k → (given : Reading) → read_answer r ≡ gives given
        → (given.reason ≤ 1) ↔ LiveThere (list_of xs m) type there now v i
    behind_live i s given e =
        paper.behind_live form xs m form' ys n type values marks v stamp now there middle (length out) second sent_on u stamp' now' k l.store hk stands i s given
        (sym l.read ∙ e)

    -- "for signals only in C", and those that the type doesn't carry: 4 or 5, each exactly when
    pub behind_only : (carries type ((list_of ys n).signal k).type ≡ false) ⊎ ((i : ℕ) → i < m.signals → same ((list_of xs m).signal i) ((list_of ys n).signal k) ≡ true → ⊥)
        → read_answer r ≡ gives (withheld (list_of ys n) type k)
    behind_only d =
        l.read ∙ paper.behind_only form xs m form' ys n type values marks v stamp now there middle (length out) second sent_on u stamp' now' k l.store hk stands d
