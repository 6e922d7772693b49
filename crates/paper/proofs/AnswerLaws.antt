-- The laws of answers: what an answer that was put together tells of its parts, and how it is put together. Assumes nothing.
use Prim.Native.Nat.{ℕ, ◌+◌, ◌≤◌}
use native.Mathlib.Omega.{arith}
use mathlib.Core.Path.{◌≡◌, refl, sym, ap, ◌∙◌}
use mathlib.Core.Bool.{Bool, true, false}
use Rattle.paper.specs.Answer.{Answer, gives, refused, refuse_if, and_then, shift}
use Rattle.paper.specs.SignalList.{OfTwo, of_both, of_two}

module _ {A : Type 0} where
  -- given past a refusal's test: the test failed, and the rest gives
  pub not_refused : (b : Bool) (n at : ℕ) (rest : Answer A) (a : A) → refuse_if b n at rest ≡ gives a → (b ≡ false) × (rest ≡ gives a)
  unfolding refuse_if
  not_refused true n at rest a e = let z : ◌≡◌ {A = ℕ} 0 1 = cc in absurd (omega arith)
  not_refused false n at rest a e = (refl, e)

  -- a bound on what a refusal carries, past a refusal's test
  pub refused_at : (b : Bool) (n at : ℕ) (rest : Answer A) (n' at' most : ℕ) → (b ≡ true → at ≤ most) → (rest ≡ refused n' at' → at' ≤ most)
      → refuse_if b n at rest ≡ refused n' at' → at' ≤ most
  unfolding refuse_if
  refused_at true n at rest n' at' most h k e = let q : at ≡ at' = cc in omega (arith, h refl)
  refused_at false n at rest n' at' most h k e = k e

  -- how a call shows each side
  pub refuses : (b : Bool) (n at : ℕ) (rest : Answer A) → b ≡ true → refused n at ≡ refuse_if b n at rest
  unfolding refuse_if
  refuses b n at rest e = rw e

  pub goes_past : (b : Bool) (n at : ℕ) (rest : Answer A) (a : Answer A) → b ≡ false → a ≡ rest → a ≡ refuse_if b n at rest
  unfolding refuse_if
  goes_past b n at rest a e q = rw e q

  pub not_shifted : (b : ℕ) (x : Answer A) (a : A) → shift b x ≡ gives a → x ≡ gives a
  not_shifted b (gives m) a e = e
  not_shifted b (refused n at) a e = let z : ◌≡◌ {A = ℕ} 0 1 = cc in absurd (omega arith)

  -- refused by a number past another refusal's test
  pub not_here : (b : Bool) (n at : ℕ) (rest : Answer A) (n' at' : ℕ) → (n ≡ n' → ⊥) → refuse_if b n at rest ≡ refused n' at'
      → (b ≡ false) × (rest ≡ refused n' at')
  unfolding refuse_if
  not_here true n at rest n' at' h e = absurd (h (cc))
  not_here false n at rest n' at' h e = (refl, e)

  pub never_both : (x : Answer A) (a : A) (n at : ℕ) → x ≡ gives a → x ≡ refused n at → ⊥
  never_both x a n at p q = let z : ◌≡◌ {A = ℕ} 0 1 = cc in omega arith

  -- refused by the last test
  pub last_here : (b : Bool) (n at : ℕ) (a : A) (n' at' : ℕ) → refuse_if b n at (gives a) ≡ refused n' at' → b ≡ true
  unfolding refuse_if
  last_here true n at a n' at' e = refl
  last_here false n at a n' at' e = absurd (never_both (gives a) a n' at' refl e)

  pub gives_one : (x : Answer A) (a b : A) → x ≡ gives a → x ≡ gives b → a ≡ b
  gives_one x a b p q = cc

-- what a whole that is given tells of its parts
pub and_then_lem : {A B : Type 0} (x : Answer A) (k : A → Answer B) (b : B) → and_then x k ≡ gives b → (a : A) × ((x ≡ gives a) × (k a ≡ gives b))
and_then_lem (gives a) k b e = (a, (refl, e))
and_then_lem (refused n at) k b e = let z : ◌≡◌ {A = ℕ} 0 1 = cc in absurd (omega arith)

-- how a whole is put together, the call's own answer on the left as contracts have it: a refusal of the first part is the answer of the whole
pub stays : {A B : Type 0} (n at : ℕ) (x : Answer A) (k : A → Answer B) → refused n at ≡ x → refused n at ≡ and_then x k
stays n at x k e = rw (← e)

-- what the first part gives goes on to the next
pub goes_on_lem : {A B : Type 0} (a : A) (x : Answer A) (k : A → Answer B) (y : Answer B) → gives a ≡ x → y ≡ k a → y ≡ and_then x k
goes_on_lem a x k y e q = rw (← e) q

-- a refusal of a part that starts b octets on
pub stays_shifted : {A : Type 0} (b n at : ℕ) (x : Answer A) → refused n at ≡ x → refused n (b + at) ≡ shift b x
stays_shifted b n at x e = rw (← e)

-- a test before the whole is a test before its first part
pub past : {A B : Type 0} (b : Bool) (n at : ℕ) (x : Answer A) (k : A → Answer B) (y : Answer B) → y ≡ and_then x k
    → refuse_if b n at y ≡ and_then (refuse_if b n at x) k
unfolding refuse_if
past true n at x k y e = refl
past false n at x k y e = e

-- what follows may be written in another way
pub same_then : {A B : Type 0} (x : Answer A) (j k : A → Answer B) → ((a : A) → j a ≡ k a) → and_then x j ≡ and_then x k
same_then (gives a) j k e = e a
same_then (refused n at) j k e = refl

-- of two lists: the refusal of the one that is judged, or what goes on from it
module _ {A B : Type 0} (x : Answer A) (refusal : ℕ → ℕ → OfTwo B) (next : A → OfTwo B) where
  pub by_refusal : (n at : ℕ) → refused n at ≡ x → refusal n at ≡ of_two x refusal next
  by_refusal n at e = rw (← e)

  pub by_given : (a : A) (y : OfTwo B) → gives a ≡ x → y ≡ next a → y ≡ of_two x refusal next
  by_given a y e q = rw (← e) q

-- and back: what is given of both tells that the one that is judged was accepted
pub by_both : {A B : Type 0} (x : Answer A) (refusal : ℕ → ℕ → OfTwo B) (next : A → OfTwo B) (b : B) → ((n at : ℕ) → refusal n at ≡ of_both b → ⊥)
    → of_two x refusal next ≡ of_both b → (a : A) × ((x ≡ gives a) × (next a ≡ of_both b))
by_both (gives a) refusal next b none e = (a, (refl, e))
by_both (refused n at) refusal next b none e = absurd (none n at e)

-- a contract `say r ≡ a` settles the answer r, where r can be told from what it says: any two answers that it admits are equal
pub one_answer : {R A : Type 0} (say : R → A) (told : A → R) → ((r : R) → told (say r) ≡ r) → (a : A) (v w : R) → say v ≡ a → say w ≡ a → v ≡ w
one_answer say told back a v w p q = sym (back v) ∙ ap told (p ∙ sym q) ∙ back w
