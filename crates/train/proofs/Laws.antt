-- What the set of an answer holds, and when nobody meets an address. Assumes nothing.
use mathlib.Core.Path.{◌≡◌, refl, sym, ap, ap₂, ◌∙◌}
use mathlib.Core.Bool.{true, false, not, cond, ◌&&◌, ◌||◌}
use mathlib.Core.List.{List}
use Prim.Native.Nat.{ℕ, zero, suc, ◌-◌, ◌/◌, ◌%◌, ◌^◌, ◌≤◌, ◌<◌}
use native.Mathlib.Nat.{div-eq_of_lt, lt_of_lt_of_le, lt_irrefl}
use native.Mathlib.Decide.{dec_le}
use native.Mathlib.Omega.{arith}
use borrow.Author.Tests.{le-leb, lt-leb, eq-eqb, ne_eqb, le-ltb, eqb-true, eqb-false, ltb-false, not-false}
use lib.Dec.{eqb, leb, ltb}
use lib.ListN.{length}
use lib.Pow.{pow_mono}
use Rattle.paper.specs.Answer.{Answer, refused}
use Rattle.paper.specs.Train.{Vehicle, Members, consist_rule, is_address, member, set_to, members_of, resolving}
use Rattle.paper.proofs.FirstLaws.{count_none, none_counted}
use Rattle.bools.proofs.Tests.{neither}
use Rattle.paper.proofs.AnswerLaws.{refuses, goes_past, not_here, last_here}
use Rattle.std.specs.Prelude.{Result}
use Rattle.refusals.specs.declared.Refusal.{Refusal}
use Rattle.refusals.proofs.WrittenLaws.{one_result}
use Rattle.train.specs.declared.Members as code
use Rattle.train.specs.Marks.{members_as, resolved_answer}
use Rattle.paper.proofs.SetLaws.{set_lt, bits, even}

-- bit v of the set is 1 exactly if vehicle v is in the train and meets the address
pub set_bits : (train : List Vehicle) (a v : ℕ) → (members_of train a).set / 2 ^ v % 2 ≡ cond (leb 1 v && leb v (length train) && member train a v) 1 0
unfolding members_of
set_bits train a zero = omega (arith, even (member train a) (length train))
set_bits train a (suc k) = elim (dec_le (suc k) (length train)) [
  | yes l ↦ simp (le-leb 1 (suc k) (omega arith), le-leb (suc k) (length train) l) (bits (member train a) (length train) (suc k) (omega arith) l)
  | no g ↦
      let o : length train < suc k = omega arith in
      let s : set_to (member train a) (length train) < 2 ^ suc k = lt_of_lt_of_le (set_lt (member train a) (length train)) (pow_mono o) in
      simp (le-leb 1 (suc k) (omega arith), lt-leb (suc k) (length train) o) (ap (λ (x : ℕ). x % 2) (div-eq_of_lt s))
]

-- a train that passes 17 and 18, and an address that is listed
pub record Asked (train : List Vehicle) (a : ℕ) : Type 0 where
  pub some : 1 ≤ length train
  pub few : length train ≤ 63
  pub ruled : consist_rule train ≡ true
  pub listed : is_address a ≡ true

-- 20 exactly if no vehicle of the train meets a known address
pub nobody_meets : (train : List Vehicle) (a : ℕ) → Asked train a → ((v : ℕ) → 1 ≤ v → v ≤ length train → member train a v ≡ false)
    → resolving train a ≡ refused 20 0
unfolding resolving members_of
nobody_meets train a h n =
    let z : (members_of train a).size ≡ 0 = count_none (λ i. member train a (suc i)) (length train) (λ k l. n (suc k) (omega arith) (omega arith)) in
    let some : eqb (length train) 0 ≡ false = ne_eqb (length train) 0 (λ e. lt_irrefl 0 (omega (arith, h.some))) in
    let few : ltb 63 (length train) ≡ false = le-ltb 63 (length train) h.few in
    sym (goes_past _ 17 0 _ _ (ap₂ ◌||◌ some few)
    (goes_past _ 18 0 _ _ (ap not h.ruled) (goes_past _ 19 0 _ _ (ap not h.listed) (refuses _ 20 0 _ (eq-eqb _ 0 z)))))

pub refused_20 : (train : List Vehicle) (a : ℕ) → resolving train a ≡ refused 20 0
    → Asked train a × ((v : ℕ) → 1 ≤ v → v ≤ length train → member train a v ≡ false)
unfolding resolving members_of
refused_20 train a e =
    let p = not_here _ 17 0 _ 20 0 (λ h. lt_irrefl 0 (omega arith)) e in
    let q = not_here _ 18 0 _ 20 0 (λ h. lt_irrefl 0 (omega arith)) p.1 in
    let r = not_here _ 19 0 _ 20 0 (λ h. lt_irrefl 0 (omega arith)) q.1 in
    let n = neither _ _ p.0 in
    let z : (members_of train a).size ≡ 0 = eqb-true _ 0 (last_here _ 20 0 _ 20 0 r.1) in
    let s : length train ≡ 0 → ⊥ = eqb-false (length train) 0 n.0 in (
      record { some = omega arith; few = ltb-false 63 (length train) n.1; ruled = not-false _ q.0; listed = not-false _ r.0 },
      λ v h l.
          let d : suc (v - 1) ≡ v = omega arith in
          ap (member train a) (sym d) ∙ none_counted (λ i. member train a (suc i)) (length train) z (v - 1) (omega arith),
    )

-- ---- the contract settles the answer

pub one_resolved : (a : Answer Members) (v w : Result code.Members Refusal) → resolved_answer v ≡ a → resolved_answer w ≡ a → v ≡ w
one_resolved = one_result members_as (λ m. record { set = m.set; size = m.size }) (λ m. refl)
