-- Results by what the paper answers, and a call that writes into what it was lent. Assumes nothing.
use Prim.Native.Nat.{ℕ}
use mathlib.Core.Path.{◌≡◌, refl, sym, ap, ap₂, ◌∙◌}
use mathlib.Core.List.{List}
use native.Mathlib.Omega.{arith}
use borrow.Author.Tests.{clash}
use Rattle.std.specs.Prelude.{Option, Some, None, Result, Ok, Err, IsErr, IsErrAnd}
use Rattle.paper.specs.Answer.{Answer, gives, refused, and_then, after, Sought, found, nothing}
use Rattle.paper.specs.SignalList.{OfTwo, of_both, first_refused, second_refused}
use Rattle.paper.proofs.AnswerLaws.{one_answer, stays}
use Rattle.refusals.specs.declared.Refusal.{Refusal}
use Rattle.refusals.specs.declared.ListRefused.{ListRefused}
use Rattle.refusals.specs.declared.ListRefused.TheVariants.{First, Second}
use Rattle.refusals.specs.Refusal.{number_of, carried_of, refusal_of}
use Rattle.refusals.specs.Outcome.{answer_of, sought_of, outcome_of, Written, of_two_answer}
use Rattle.refusals.proofs.Laws.{numbered, numbered_of}

-- a result can be told from the paper's answer, if its value can, so any two results that a contract admits are equal
told : {A B : Type 0} → (B → A) → Answer B → Result A Refusal
told back (gives b) = Ok (back b)
told back (refused n at) = Err (numbered n at)

told_of_lem : {A B : Type 0} (f : A → B) (back : B → A) → ((a : A) → back (f a) ≡ a) → (r : Result A Refusal) → told back (answer_of f r) ≡ r
unfolding told
told_of_lem f back is (Ok a) = ap Ok (is a)
told_of_lem f back is (Err e) = ap Err (numbered_of e)

pub one_result : {A B : Type 0} (f : A → B) (back : B → A) → ((a : A) → back (f a) ≡ a) → (x : Answer B) (v w : Result A Refusal)
    → answer_of f v ≡ x → answer_of f w ≡ x → v ≡ w
one_result f back is = one_answer (answer_of f) (told back) (told_of_lem f back is)

-- so can what is looked for
pub sought_told : {A B : Type 0} → (B → A) → Sought B → Option A
sought_told back (found b) = Some (back b)
sought_told back nothing = None

pub sought_told_of : {A B : Type 0} (f : A → B) (back : B → A) → ((a : A) → back (f a) ≡ a) → (o : Option A) → sought_told back (sought_of f o) ≡ o
unfolding sought_told
sought_told_of f back is (Some a) = ap Some (is a)
sought_told_of f back is None = refl

two_told : {A B : Type 0} → (B → A) → OfTwo B → Result A ListRefused
two_told back (of_both b) = Ok (back b)
two_told back (first_refused n at) = Err (First (numbered n at))
two_told back (second_refused n at) = Err (Second (numbered n at))

two_told_of : {A B : Type 0} (f : A → B) (back : B → A) → ((a : A) → back (f a) ≡ a) → (r : Result A ListRefused) → two_told back (of_two_answer f r) ≡ r
unfolding two_told
two_told_of f back is (Ok a) = ap Ok (is a)
two_told_of f back is (Err (First e)) = ap (λ x. Err (First x)) (numbered_of e)
two_told_of f back is (Err (Second e)) = ap (λ x. Err (Second x)) (numbered_of e)

pub one_of_two : {A B : Type 0} (f : A → B) (back : B → A) → ((a : A) → back (f a) ≡ a) → (x : OfTwo B) (v w : Result A ListRefused)
    → of_two_answer f v ≡ x → of_two_answer f w ≡ x → v ≡ w
one_of_two f back is x v w p q = sym (two_told_of f back is v) ∙ ap (two_told back) (p ∙ sym q) ∙ two_told_of f back is w

-- a refusal, new octets, or what goes on from what a first part gave
pub written_refused : (f : Refusal) (a : Answer (List ℕ)) (old : List ℕ) → refusal_of f ≡ a → Written a old (Err f) old
written_refused f a old e = record { outcome = rw (← e); octets = rw (← e) }

pub written_done : (a : Answer (List ℕ)) (old new : List ℕ) → gives new ≡ a → Written a old (Ok tt) new
written_done a old new e = record { outcome = rw (← e); octets = rw (← e) }

pub written_on : {A : Type 0} (r : A) (a : Answer A) (k : A → Answer (List ℕ)) (old : List ℕ) (o : Result (Unit {0}) Refusal) (new : List ℕ)
    → gives r ≡ a → Written (k r) old o new → Written (and_then a k) old o new
written_on r a k old o new e w = rw (← e) w

-- what a call that was done, or was refused, tells of the paper's answer
pub written_gives : (a : Answer (List ℕ)) (old new : List ℕ) → Written a old (Ok tt) new → a ≡ gives new
written_gives (gives x) old new w = ap gives (sym w.octets)
written_gives (refused n at) old new w = let e = w.outcome in let z : ◌≡◌ {A = ℕ} 0 1 = cc in absurd (omega arith)

pub written_not : (a : Answer (List ℕ)) (old : List ℕ) (f : Refusal) (new : List ℕ) → Written a old (Err f) new → a ≡ refused (number_of f) (carried_of f)
written_not (gives x) old f new w = let e = w.outcome in let z : ◌≡◌ {A = ℕ} 0 1 = cc in absurd (omega arith)
written_not (refused n at) old f new w = let e = w.outcome in ap₂ refused (cc) (cc)

-- "changes no lent octet"
pub refused_keeps : (a : Answer (List ℕ)) (old : List ℕ) (f : Refusal) (new : List ℕ) → Written a old (Err f) new → new ≡ old
refused_keeps a old f new w = w.octets ∙ ap (after old) (written_not a old f new w)

pub one_outcome : (a : Answer (Unit {0})) (v w : Result (Unit {0}) Refusal) → outcome_of v ≡ a → outcome_of w ≡ a → v ≡ w
one_outcome = one_result (λ x. x) (λ x. x) (λ x. refl)

pub one_written : (a : Answer (List ℕ)) (old : List ℕ) (r s : Result (Unit {0}) Refusal) (new other : List ℕ)
    → Written a old r new → Written a old s other → (r ≡ s) × (new ≡ other)
one_written a old r s new other t u = (one_outcome _ r s t.outcome u.outcome, t.octets ∙ sym u.octets)

-- ---- what `?` hands on

-- r is the error f
abbrev pub HandedOn : {A E : Type 0} → Result A E → E → Type 0
HandedOn r f = IsErr r × IsErrAnd r (λ e. e ≡ f)

pub handed_on : {A E : Type 0} (r : Result A E) (f : E) → HandedOn r f → r ≡ Err f
handed_on (Ok a) f h = absurd (clash h.0)
handed_on (Err e) f h = ap Err h.1

-- a refusal of the first part is the answer of the whole
pub stays_err : {A B C : Type 0} (g : A → B) (r : Result A Refusal) (f : Refusal) (x : Answer C) (k : C → Answer B) → HandedOn r f
    → refusal_of f ≡ x → answer_of g r ≡ and_then x k
stays_err g r f x k h e = rw (handed_on r f h) (stays (number_of f) (carried_of f) x k e)

pub written_stays : {C : Type 0} (r : Result (Unit {0}) Refusal) (f : Refusal) (x : Answer C) (k : C → Answer (List ℕ)) (old : List ℕ) → HandedOn r f
    → refusal_of f ≡ x → Written (and_then x k) old r old
written_stays r f x k old h e = rw (handed_on r f h) (written_refused f (and_then x k) old (stays (number_of f) (carried_of f) x k e))
