-- The paper's definitions over mark octets. Assumes nothing.
use mathlib.Core.Path.{◌≡◌, refl, sym, ap, ◌∙◌}
use mathlib.Core.Bool.{Bool, true, false, cond, ◌&&◌}
use mathlib.Core.List.{List, map}
use Prim.Native.Nat.{ℕ, suc, ◌+◌, ◌-◌, ◌/◌, ◌%◌, ◌^◌, ◌<◌}
use native.Mathlib.Nat.{lt_irrefl}
use native.Mathlib.Decide.{dec_le}
use native.Mathlib.Numerals.{add-one}
use native.Mathlib.Omega.{arith}
use borrow.Author.Count.{below_more}
use borrow.Author.Tests.{eq-eqb, ne_eqb}
use lib.Dec.{eqb}
use lib.ListN.{length, get_or, length-map, get_or-map}
use Rattle.paper.specs.First.{first_bad, all, count}
use Rattle.paper.proofs.FirstLaws.{all_true, all_false, all_at, not_all, first_fails}
use Rattle.paper.specs.Train.{no_vehicle, meets, member, set_to}
use Rattle.train.specs.Marks.{vehicle_of, meets_of, with_mark, above, set_of}
use Rattle.paper.proofs.SetLaws.{set_same}
use Rattle.train.proofs.Sets.{above_one}

pub map_length : (marks : List ℕ) → length (map vehicle_of marks) ≡ length marks
map_length marks = length-map marks vehicle_of

pub map_at : (marks : List ℕ) (i : ℕ) → get_or (map vehicle_of marks) i no_vehicle ≡ vehicle_of (get_or marks i 0)
map_at marks i = get_or-map vehicle_of marks i 0

-- vehicle i + 1 stands at i
pub member_at : (marks : List ℕ) (a i : ℕ) → member (map vehicle_of marks) a (suc i) ≡ meets_of a (suc i) (get_or marks i 0)
unfolding member
member_at marks a i =
    let e : suc i - 1 ≡ i = omega arith in
    ap (meets a (suc i)) (ap (λ (k : ℕ). get_or (map vehicle_of marks) k no_vehicle) e ∙ map_at marks i)

one_or_none : (x : ℕ) → x < 2 → x ≡ cond (eqb x 1) 1 0
one_or_none x h = elim (dec_le 1 x) [
  | yes l ↦ let e : x ≡ 1 = omega arith in e ∙ sym (simp (eq-eqb x 1 e))
  | no g ↦ let e : x ≡ 0 = omega arith in e ∙ sym (simp (ne_eqb x 1 (λ q. lt_irrefl 0 (omega arith))))
]

-- a mark as a number
pub digit_of_lem : (x : ℕ) → x % 2 ≡ cond (eqb (x % 2) 1) 1 0
digit_of_lem x = one_or_none (x % 2) (omega arith)

pub above_mark : (marks : List ℕ) (k m i b : ℕ) → m ≡ suc i → b ≡ get_or marks i 0 / 2 ^ k % 2 → above (with_mark marks k) m i b
above_mark marks k m i b w e =
    let s : i ≡ suc i - 1 = omega arith in
    above_one (with_mark marks k) m i b w (e ∙ digit_of_lem (get_or marks i 0 / 2 ^ k) ∙ ap (λ (j : ℕ). cond (eqb (get_or marks j 0 / 2 ^ k % 2) 1) 1 0) s)

-- ---- a loop that tests all without leaving early

pub all_more : (ok : ℕ → Bool) (n : ℕ) → all ok (n + 1) ≡ (all ok n && ok n)
all_more ok n = by (all ok n) refl (ok n) refl
  where
    by : (b : Bool) → all ok n ≡ b → (d : Bool) → ok n ≡ d → all ok (n + 1) ≡ (b && d)
    by true e true f = all_true ok (n + 1) (below_more _ _ (all_at ok n e) f)
    by true e false f = all_false ok (n + 1) n (omega arith) f
    by false e d f = all_false ok (n + 1) (first_bad ok n) (omega (arith, not_all ok n e)) (first_fails ok n (not_all ok n e))

pub count_more : (ok : ℕ → Bool) (n : ℕ) → count ok (n + 1) ≡ count ok n + cond (ok n) 1 0
unfolding count
count_more ok n = ap (count ok) (add-one n)

-- ---- the set of an address, by what it asks of a vehicle

pub set_meets : (marks : List ℕ) (a : ℕ) (q : ℕ → Bool) → ((i : ℕ) → meets_of a (suc i) (get_or marks i 0) ≡ q (suc i)) → set_to q (length marks) ≡ set_of marks a
set_meets marks a q e =
    let p = member (map vehicle_of marks) a in
    set_same q p (length marks) (λ i. sym (member_at marks a i ∙ e i)) ∙ ap (set_to p) (sym (map_length marks))

pub set_marked : (marks : List ℕ) (a k : ℕ) → ((v m : ℕ) → meets_of a v m ≡ eqb (m / 2 ^ k % 2) 1) → set_to (with_mark marks k) (length marks) ≡ set_of marks a
set_marked marks a k e =
    set_meets marks a (with_mark marks k) (λ i.
    let s : i ≡ suc i - 1 = omega arith in
    e (suc i) (get_or marks i 0) ∙ ap (λ (j : ℕ). eqb (get_or marks j 0 / 2 ^ k % 2) 1) s)
