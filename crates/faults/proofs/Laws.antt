-- What a section's answer is put together of, the rule of a signal from its parts, and that the contract settles the answer. Assumes nothing.
use Prim.Native.Nat.{ℕ, ◌-◌, ◌*◌, ◌/◌, ◌≤◌, ◌<◌}
use mathlib.Core.Path.{◌≡◌, refl, ap, ◌∙◌}
use mathlib.Core.Bool.{Bool, true, false, cond}
use mathlib.Core.List.{List, ◌++◌}
use native.Mathlib.Nat.{mul-le-mul, mul-div_right, lt_of_mul-lt-mul_left, le_of_mul-le-mul_left}
use native.Mathlib.Omega.{arith}
use lib.Dec.{ltb}
use borrow.Author.Tests.{lt-ltb, le-ltb}
use Rattle.paper.specs.Answer.{gives, Sought, found, nothing}
use Rattle.paper.specs.First.{first_bad, all}
use Rattle.paper.specs.SignalList.{Signal, entry, signal_rule, clear_rule, opening}
use Rattle.paper.specs.Accepted.{Sized}
use Rattle.paper.specs.Broken.{Fault as PaperFault, signal_tests, broken_or, broken, where_open, fault_in}
use Rattle.paper.proofs.AnswerLaws.{one_answer}
use Rattle.paper.proofs.FirstLaws.{first_passed, first_fails, all_true}
use Rattle.paper.proofs.BrokenLaws.{signal_tests_lem, last_broken}
use Rattle.std.specs.Prelude.{Option, Some, None, Result, Ok, Err}
use Rattle.std.specs.Result.{result_ok}
use Rattle.refusals.proofs.WrittenLaws.{sought_told, sought_told_of}
use Rattle.lists.specs.declared.Broken.{Broken}
use Rattle.lists.specs.Judged.{section_answer}
use Rattle.faults.specs.declared.Fault.{Fault}
use Rattle.faults.specs.Faults.{fault_as, fault_answer, place_tests, value_tests, order_tests}

-- ---- a section

-- k is what a loop over n entries answered
module _ (rule : ℕ → Bool) (n : ℕ) {k : ℕ} (first : k ≡ first_bad rule n) where
  pub breaks : k < n → rule k ≡ false
  breaks h = rw first (first_fails rule n (omega arith))

  pub all_kept : n ≤ k → all rule n ≡ true
  all_kept h = all_true rule n (λ j l. first_passed rule n j (omega arith))

-- where it answers with the place `at` of that entry, of `size` octets
module _ (size at k : ℕ) (pos : 0 < size) (is : at ≡ entry size k) where
  pub entry_number : (at - 2) / size ≡ k
  entry_number = let z : at - 2 ≡ size * k = omega (arith, is) in rw z (mul-div_right k pos)

  pub number_before : (n : ℕ) → at < entry size n → (at - 2) / size < n
  number_before n h = rw entry_number (lt_of_mul-lt-mul_left size (omega (arith, is)))

  pub number_past : (n : ℕ) → entry size n ≤ at → n ≤ (at - 2) / size
  number_past n h = rw entry_number (le_of_mul-le-mul_left (omega (arith, is)) pos)

-- r is what `open` answered, and n its entries
opened : (r : Result ℕ Broken) (n : ℕ) → Some n ≡ result_ok r → gives n ≡ section_answer r
opened (Ok m) n e = cc
opened (Err b) n e = cc

module _ (limit size : ℕ) (rule : ℕ → Bool) (xs : List ℕ) (fault : ℕ → PaperFault) (call : ℕ → Sought PaperFault) (r : Result ℕ Broken)
    (said : section_answer r ≡ opening limit size xs) where
  pub not_opened : None ≡ result_ok r → (o : Option Fault) → o ≡ None → fault_answer o ≡ fault_in limit size rule xs fault call
  unfolding fault_in
  not_opened e o none = rw (none, ← said) (by r e)
    where
      by : (s : Result ℕ Broken) → None ≡ result_ok s → nothing ≡ where_open (section_answer s) (λ n. cond (ltb (first_bad rule n) n) (found (fault (first_bad rule n))) (call n))
      by (Ok m) e = cc
      by (Err b) e = refl

  module _ {n k : ℕ} (is : Some n ≡ result_ok r) (first : k ≡ first_bad rule n) where
    pub found_here : k < n → (f : PaperFault) → f ≡ fault k → found f ≡ fault_in limit size rule xs fault call
    unfolding fault_in
    found_here h f q = rw (← said, ← opened r n is, ← first, lt-ltb k n h) (ap found q)

    pub goes_past : n ≤ k → (y : Sought PaperFault) → y ≡ call n → y ≡ fault_in limit size rule xs fault call
    unfolding fault_in
    goes_past h y q = rw (← said, ← opened r n is, ← first, le-ltb k n h) q

-- ---- the offset of a signal's entry is small

pub small_entry : (size k : ℕ) → Sized size → k < 65536 → size * k ≤ 18 * 65536
small_entry size k s h = mul-le-mul {n₂ = 18} {m₂ = 65536} s.most (omega arith)

-- ---- the rule of a signal, which is asked in three parts: a is what the order says, b and r what the parts before it say

pub rule_is : (checks : ℕ) (check : ℕ → ℕ) (signal : ℕ → Signal) (k : ℕ) {p s : Signal} {a b r : ℕ} → signal_rule checks check signal k ≡ false
    → s ≡ signal k → p ≡ signal (k - 1)
    → a ≡ broken_or 8 (order_tests k p s) 10 → b ≡ broken_or 5 (value_tests s) a → r ≡ broken_or 1 (place_tests checks check s) b
    → r ≡ broken (signal_tests checks check signal k)
rule_is checks check signal k {p} {s} broke here before x y z =
    z
    ∙ ap (broken_or 1 (place_tests checks check s)) (y ∙ ap (broken_or 5 (value_tests s)) x)
    ∙ rw (here, before)
    (last_broken 1 (place_tests checks check (signal k) ++ (value_tests (signal k) ++ order_tests k (signal (k - 1)) (signal k))) (clear_rule checks check (signal k))
    (signal_tests_lem checks check signal k ∙ broke))

-- ---- the contract settles the answer

back : PaperFault → Fault
back f = record {
  section = f.section;
  index = f.index;
  rule = f.rule;
  signal = f.signal;
  kind = f.type;
  start = f.start;
  width = f.width;
  at = f.at;
}

pub one_fault : (a : Sought PaperFault) (v w : Option Fault) → fault_answer v ≡ a → fault_answer w ≡ a → v ≡ w
unfolding back
one_fault = one_answer fault_answer (sought_told back) (sought_told_of fault_as back (λ f. refl))
