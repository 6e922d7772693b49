-- DEMAND 2 of the call `read`: when what it answers is live and which reason it gives otherwise, by nothing but what it ensures. Assumes nothing.
use Prim.Native.Nat.{ℕ, ◌+◌, ◌≤◌, ◌<◌}
use mathlib.Core.Path.{◌≡◌, sym, ap, subst, ◌∙◌}
use mathlib.Core.Logic.{◌↔◌}
use mathlib.Core.List.{List}
use Rattle.paper.specs.Answer.{gives}
use Rattle.paper.specs.First.{FirstAt}
use Rattle.paper.specs.Telegrams.{ok, forced}
use Rattle.paper.specs.SignalList.{Counts, judge, list_of}
use Rattle.paper.specs.Store.{slot_of}
use Rattle.paper.specs.Reading as paper
use Rattle.paper.proofs.AnswerLaws.{gives_one}
use Rattle.paper.proofs.ReadingLaws as laws
use Rattle.reading.specs.declared.Reading.{Reading}
use Rattle.std.specs.Prelude.{Ok}
use Rattle.reading.specs.Reason.{reason_number}
use Rattle.reading.specs.Reading.{as_reading, read_answer}

module _ (form : ℕ) (xs store : List ℕ) (now v k : ℕ) (g : Reading) (read : read_answer (Ok g) ≡ paper.reading form xs store now v k) where
  -- the list was accepted, the store is whole, and the vehicle and the signal are there
  pub read_tells : paper.Reads form xs store now v k (as_reading g)
  read_tells = laws.reads form xs store now v k (as_reading g) (sym read)

  module _ (n : Counts) (accepted : judge form xs ≡ gives n) where
    is : paper.reading_of (list_of xs n) (slot_of store v) now k ≡ as_reading g
    is =
        let h = read_tells in
        ap (λ (m : Counts). paper.reading_of (list_of xs m) (slot_of store v) now k) (gives_one (judge form xs) n h.counts accepted h.accepted) ∙ h.is

    -- "A value is live exactly when its telegram was heard, is within its time limit, carries the signal and is new enough, its mark .. is
    -- ok or forced, and the code is known."
    pub live_exactly : (reason_number g.reason ≤ 1) ↔ paper.Live (list_of xs n) (slot_of store v) now k
    live_exactly = rw is at (laws.live_exactly (list_of xs n) (slot_of store v) now k)

    -- "0 live ok (also where there is no check) or 1 live forced"
    pub ok_exactly : let l = list_of xs n in let slot = slot_of store v in
        (reason_number g.reason ≡ 0) ↔ (paper.Live l slot now k × (paper.mark_of l (l.signal k) slot.telegram ≡ ok))
    ok_exactly = rw is at (laws.ok_exactly (list_of xs n) (slot_of store v) now k)

    pub forced_exactly : let l = list_of xs n in let slot = slot_of store v in
        (reason_number g.reason ≡ 1) ↔ (paper.Live l slot now k × (paper.mark_of l (l.signal k) slot.telegram ≡ forced))
    forced_exactly = rw is at (laws.forced_exactly (list_of xs n) (slot_of store v) now k)

    -- "the first reason that applies": reason 2 + i exactly when test i is the first to hold
    pub reason_exactly : (i : ℕ) → i < 7 → (reason_number g.reason ≡ 2 + i) ↔ FirstAt (paper.hindrances (list_of xs n) (slot_of store v) now k) i
    unfolding paper.reading_of
    reason_exactly i lt =
        subst (λ (x : paper.Reading). (x.reason ≡ 2 + i) ↔ FirstAt (paper.hindrances (list_of xs n) (slot_of store v) now k) i) is
        (laws.reason_exactly (list_of xs n) (slot_of store v) now k i lt)

    -- a live value is the code in the signal's field, and any other the replacement
    pub live_value : reason_number g.reason ≤ 1 → g.value ≡ paper.code_of ((list_of xs n).signal k) (slot_of store v).telegram
    live_value = rw is at (laws.live_value (list_of xs n) (slot_of store v) now k)

    pub replaced_value : 2 ≤ reason_number g.reason → g.value ≡ ((list_of xs n).signal k).replacement
    replaced_value = rw is at (laws.replaced_value (list_of xs n) (slot_of store v) now k)
