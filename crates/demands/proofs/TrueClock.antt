-- C-12, THE TRUE CLOCK of the calls themselves: what `read` answers after calls of `take` and `sweep`, by nothing but what these calls ensure.
-- Assumes nothing.
use Prim.Native.Nat.{ℕ, ◌-◌, ◌%◌, ◌≤◌, ◌<◌}
use mathlib.Core.Path.{◌≡◌, refl, sym, ap, ◌∙◌}
use mathlib.Core.Logic.{◌↔◌}
use mathlib.Core.List.{List, [], ◌∷◌, map}
use native.Mathlib.Omega.{arith}
use Rattle.paper.specs.Answer.{gives}
use Rattle.paper.specs.SignalList.{Counts, judge, list_of}
use Rattle.paper.specs.Store.{turn}
use Rattle.paper.specs.Reading as paper
use Rattle.paper.specs.Demands.{Step, offer, sweep, run, NoneLater, on_clock, TrueClock, LastTaken}
use Rattle.paper.proofs.AnswerLaws.{gives_one}
use Rattle.paper.proofs.TrueClock as laws
use Rattle.reading.specs.declared.Reading.{Reading}
use Rattle.reading.specs.Reading.{as_reading, read_answer}
use Rattle.demands.specs.declared.Answers.{Answers}
use Rattle.demands.specs.Told.{Told}
use Rattle.demands.specs.Calls.{Made, none, takes, sweeps}
use Rattle.std.specs.Prelude.{Result, Ok, Err}
use Rattle.refusals.specs.declared.Refusal.{Refusal}
use Rattle.reading.specs.Reason.{reason_number}
use Rattle.demands.proofs.ReadBack.{made_runs}

-- `told` makes such calls
pub told_made : (form : ℕ) (xs : List ℕ) (type : ℕ) (values marks out store : List ℕ) (v stamp at form' : ℕ) (ys : List ℕ) (now k : ℕ)
    (sent held : List ℕ) (r : Answers) → Told form xs type values marks out store v stamp at form' ys now k sent held r
    → Made store (offer v stamp sent ∷ sweep at ∷ []) held
told_made form xs type values marks out store v stamp at form' ys now k sent held r t =
    takes v stamp sent r.taken t.taken (sweeps at r.swept t.swept none)

-- an answer that the paper gives is a value and a reason
answered : (r : Result Reading Refusal) (given : paper.Reading) → read_answer r ≡ gives given → (g : Reading) × ((r ≡ Ok g) × (as_reading g ≡ given))
answered (Ok g) given e = (g, (refl, gives_one _ _ _ refl e))
answered (Err f) given e = let z : ◌≡◌ {A = ℕ} 0 1 = cc in absurd (omega arith)

-- calls of `take` and `sweep`, each given the true clock modulo 4,294,967,296, and then one of `read`, given it too
module _ (start : List ℕ) (begun : ℕ) (steps : List Step) (now : ℕ) (c : TrueClock start begun steps now)
    (store : List ℕ) (made : Made start (map on_clock steps) store)
    (form : ℕ) (xs : List ℕ) (v k : ℕ) (r : Result Reading Refusal) (read : read_answer r ≡ paper.reading form xs store (now % turn) v k) where
  -- what is read is what the paper's steps leave
  reading_run : read_answer r ≡ paper.reading form xs (run start (map on_clock steps)) (now % turn) v k
  reading_run = read ∙ ap (λ (s : List ℕ). paper.reading form xs s (now % turn) v k) (sym (made_runs made))

  -- of a vehicle taken from and a signal with a limit, `read` answers reason 3 exactly when the true age is above the limit
  pub true_age : (t : ℕ) → LastTaken v t start steps → (n : Counts) → judge form xs ≡ gives n → k < n.signals → 1 ≤ ((list_of xs n).signal k).limit
      → (g : Reading) × ((r ≡ Ok g) × ((reason_number g.reason ≡ 3) ↔ (((list_of xs n).signal k).limit < now - t)))
  true_age t h n accepted lt limited =
      let a = laws.true_age start begun steps now c v t h form xs n accepted k lt limited in
      let q = answered r a.0 (reading_run ∙ a.1.0) in
      (q.0, (q.1.0, rw (← q.1.1) at a.1.1))

  -- and of a vehicle from which nothing was taken, reason 2 if it answers a reading at all
  pub untaken : NoneLater v start (map on_clock steps) → (g : Reading) → r ≡ Ok g → reason_number g.reason ≡ 2
  untaken h g e = laws.untaken start begun steps now c v h form xs k (as_reading g) (sym reading_run ∙ ap read_answer e)
