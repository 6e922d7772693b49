-- C-16, THE GAP of the calls themselves: what `gap` answers after two calls of `take`, by nothing but what these calls ensure. Assumes nothing.
use Prim.Native.Nat.{ℕ, ◌<◌}
use mathlib.Core.Path.{◌≡◌, refl, ◌∙◌}
use mathlib.Core.List.{List}
use mathlib.Core.Bool.{false}
use Rattle.paper.specs.Answer.{gives}
use Rattle.paper.specs.Store.{slot_of, ever_heard, taking, turn, age, gapping}
use Rattle.paper.specs.Demands.{Step, NoneLater}
use Rattle.paper.proofs.GapLaws as laws
use Rattle.refusals.specs.Outcome.{Written}
use Rattle.refusals.proofs.WrittenLaws.{written_gives}
use Rattle.store.specs.Store.{gap_answer}
use Rattle.store.proofs.Laws.{one_gap}
use Rattle.demands.specs.Calls.{Made}
use Rattle.std.specs.Prelude.{Result, Ok}
use Rattle.refusals.specs.declared.Refusal.{Refusal}
use Rattle.demands.proofs.ReadBack.{made_runs}

-- `take` is done at the clock values c and d for vehicle v, and no call between takes from it: `gap` answers d less c
pub two_arrivals : (before : List ℕ) (v c : ℕ) (t between : List ℕ) (steps : List Step) (store : List ℕ) (d : ℕ) (u new : List ℕ) (r : Result ℕ Refusal)
    → c < turn → d < turn → Written (taking before v c t) before (Ok tt) between → Made between steps store → NoneLater v between steps
    → Written (taking store v d u) store (Ok tt) new → gap_answer r ≡ gapping new v → r ≡ Ok (age d c)
two_arrivals before v c t between steps store d u new r hc hd one made none two told =
    let second : taking store v d u ≡ gives new = written_gives _ store new two in
    let g = laws.two_arrivals before v c t between steps d u new hc hd (written_gives _ before between one) none (rw (made_runs made) second) in
    one_gap (gives (age d c)) r (Ok (age d c)) (told ∙ g) refl

-- and after the first, where nothing was heard before, the clock value it was taken at
pub first_arrival : (store : List ℕ) (v now : ℕ) (t new : List ℕ) (r : Result ℕ Refusal) → now < turn → ever_heard (slot_of store v) ≡ false
    → Written (taking store v now t) store (Ok tt) new → gap_answer r ≡ gapping new v → r ≡ Ok now
first_arrival store v now t new r h never took told =
    let g = laws.first_arrival store v now t new h never (written_gives _ store new took) in
    one_gap (gives now) r (Ok now) (told ∙ g) refl
