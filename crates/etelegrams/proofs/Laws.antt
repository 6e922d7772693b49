-- Codes of requests and reports, and what reading an answer back gives. Assumes nothing.
use mathlib.Core.Path.{◌≡◌, refl, sym, ap, ap₂, ◌∙◌}
use mathlib.Core.Bool.{Bool, true, false, not, ◌||◌, or-true, or-false}
use mathlib.Core.List.{List, [], ◌∷◌, ◌++◌, append_assoc}
use Prim.Native.Nat.{ℕ, zero, suc, ◌+◌, ◌*◌, ◌^◌, ◌%◌, ◌≤◌, ◌<◌}
use native.Mathlib.Omega.{arith}
use native.Mathlib.Nat.{mod-eq_of_lt, lt_irrefl}
use native.Mathlib.Decide.{ℕ_discrete}
use lib.Dec.{eqb, ltb}
use native.Mathlib.Numerals.{add-one}
use lib.ListN.{length, get_or, take, set, length-append}
use lib.Seq.{set_split, get_or-append-add}
use borrow.Author.Tests.{eq-eqb, ne_eqb, eqb-true, ltb-true, ltb-false, le-ltb, not-true, not-false}
use Rattle.paper.specs.Answer.{Answer, gives, refused, refuse_if}
use Rattle.paper.specs.Octets.{octet, number, octets_of, over}
use Rattle.paper.specs.First.{all, some, first_bad, first_from}
use Rattle.paper.specs.ETelegrams.{requests, report_to, is_request, is_report, e_code, e_limit, EReading, e_reading, answer_to, answering}
use Rattle.paper.proofs.AnswerLaws.{not_refused, and_then_lem, gives_one}
use Rattle.paper.proofs.NumberLaws.{number_two, number_back, number-octets_of_front, length-octets_of, part_over, length_over, over-over}
use Rattle.paper.proofs.RemedyLaws.{limit_least}
use Rattle.std.specs.Prelude.{Result}
use Rattle.refusals.proofs.WrittenLaws.{one_result}
use Rattle.refusals.specs.declared.Refusal.{Refusal}
use Rattle.etelegrams.specs.declared.EReading as code
use Rattle.etelegrams.specs.Answers.{e_reading_of, e_read_answer}
use Rattle.paper.proofs.FirstLaws.{all_at, some_true, some_false, some_none, some_at}

-- ---- the codes

-- whether a number is in a table: the first test, then the rest of it
some_first : (ok : ℕ → Bool) (n : ℕ) → some ok (suc n) ≡ (ok 0 || some (λ i. ok (suc i)) n)
some_first ok n = by (ok 0) refl (some (λ i. ok (suc i)) n) refl
  where
    none : (ok 0 ≡ false) → some (λ i. ok (suc i)) n ≡ false → (k : ℕ) → k < suc n → ok k ≡ false
    none f g zero h = f
    none f g (suc k) h = some_none (λ i. ok (suc i)) n g k (omega arith)

    by : (a : Bool) → ok 0 ≡ a → (b : Bool) → some (λ i. ok (suc i)) n ≡ b → some ok (suc n) ≡ (a || b)
    by true f b g = some_true ok (suc n) 0 (omega arith) f
    by false f true g = let w = some_at (λ i. ok (suc i)) n g in some_true ok (suc n) (suc w.0) (omega (arith, w.1.0)) w.1.1
    by false f false g = some_false ok (suc n) (none f g)

-- the comparisons with the numbers of a table, in a chain from the left
abbrev pub chain : Bool → List ℕ → ℕ → Bool
chain b [] c = b
chain b (x ∷ l) c = chain (b || eqb c x) l c

swap : (a b : ℕ) → eqb a b ≡ eqb b a
swap a b = elim (ℕ_discrete a b) [
  | yes e ↦ eq-eqb a b e ∙ sym (eq-eqb b a (sym e))
  | no n ↦ ne_eqb a b n ∙ sym (ne_eqb b a (λ e. n (sym e)))
]

either_of_three : (a b c : Bool) → ((a || b) || c) ≡ (a || (b || c))
either_of_three true b c = refl
either_of_three false b c = refl

chain_some : (b : Bool) (l : List ℕ) (c : ℕ) → chain b l c ≡ (b || some (λ i. eqb (get_or l i 0) c) (length l))
chain_some b [] c = sym (ap (λ (y : Bool). b || y) (some_false (λ i. eqb (get_or [] i 0) c) 0 (λ k h. absurd (lt_irrefl k (omega arith)))) ∙ or-false b)
chain_some b (x ∷ l) c =
    chain_some (b || eqb c x) l c
    ∙ either_of_three b (eqb c x) (some (λ i. eqb (get_or l i 0) c) (length l))
    ∙ ap (λ (y : Bool). b || y)
    (ap (λ (y : Bool). y || some (λ i. eqb (get_or l i 0) c) (length l)) (swap c x) ∙ sym (some_first (λ i. eqb (get_or (x ∷ l) i 0) c) (length l)))

pub is_request_lem : (code : ℕ) → chain false requests code ≡ is_request code
unfolding is_request requests
is_request_lem code = chain_some false requests code

-- where a request stands in the table
pub request_at : (code : ℕ) → is_request code ≡ true → (i : ℕ) × ((i < 25) × (get_or requests i 0 ≡ code))
unfolding is_request requests
request_at code e =
    let w = some_at (λ i. eqb (get_or requests i 0) code) 25 e in
    (w.0, (w.1.0, eqb-true (get_or requests w.0 0) code w.1.1))

same_shift : (a b : ℕ) → eqb (a + 0x0A00) (b + 0x0A00) ≡ eqb a b
same_shift a b = elim (ℕ_discrete a b) [
  | yes e ↦ eq-eqb (a + 0x0A00) (b + 0x0A00) (omega arith) ∙ sym (eq-eqb a b e)
  | no n ↦ ne_eqb (a + 0x0A00) (b + 0x0A00) (λ e. n (omega arith)) ∙ sym (ne_eqb a b n)
]

-- a report's code is its request's plus 0A00
pub is_report_lem : (code : ℕ) → is_report (report_to code) ≡ is_request code
unfolding is_report is_request
is_report_lem code = simp same_shift

pub small_report : (code : ℕ) → code < 0x0A00 → is_report code ≡ false
unfolding is_report
small_report code h =
    let report : ℕ → ℕ = λ i. report_to (get_or requests i 0) in
    some_false (λ i. eqb (report i) code) (length requests) (λ k _. ne_eqb (report k) code (λ e. omega arith))

-- one computed test: no report's code is a request's
no_meeting : all (λ i. all (λ j. not (eqb (report_to (get_or requests i 0)) (get_or requests j 0))) 25) 25 ≡ true
unfolding all first_bad first_from requests
no_meeting = refl

-- and each code is below 9002
codes_below : all (λ i. ltb (get_or requests i 0) 0x9002) 25 ≡ true
unfolding all first_bad first_from requests
codes_below = refl

pub report_fits : (code : ℕ) → is_request code ≡ true → report_to code < 65536
report_fits code e =
    let w = request_at code e in
    omega (arith, w.1.1, ltb-true (get_or requests w.0 0) 0x9002 (all_at (λ i. ltb (get_or requests i 0) 0x9002) 25 codes_below w.0 w.1.0))

-- requests and reports do not meet
pub apart : (code : ℕ) → is_request code ≡ true → is_report code ≡ false
unfolding is_report requests
apart code e =
    let w = request_at code e in
    some_false (λ i. eqb (report_to (get_or requests i 0)) code) 25 (λ i h.
    ap (eqb (report_to (get_or requests i 0))) (sym w.1.1)
    ∙ not-true _ (all_at (λ j. not (eqb (report_to (get_or requests i 0)) (get_or requests j 0))) 25 (all_at _ 25 no_meeting i h) w.0 w.1.0))

-- ---- the three answers to a telegram of a good length

module _ (t : List ℕ) (code : ℕ) (long : (ltb (length t) 9 || ltb (e_limit (e_code t)) (length t)) ≡ false) (e : code ≡ e_code t) where
  long_by : (ltb (length t) 9 || ltb (e_limit code) (length t)) ≡ false
  long_by = rw e long

  pub by_request : is_request code ≡ true → gives (record { code = code; report = false; status = octet t 9 }) ≡ e_reading t
  unfolding e_reading refuse_if
  by_request q = simp (long_by, sym e, q, apart code q)

  pub by_neither : is_request code ≡ false → is_report code ≡ false → refused 22 0 ≡ e_reading t
  unfolding e_reading refuse_if
  by_neither q r = simp (long_by, sym e, q, r)

  pub by_report : is_request code ≡ false → is_report code ≡ true → gives (record { code = code; report = true; status = octet t 9 }) ≡ e_reading t
  unfolding e_reading refuse_if
  by_report q r = simp (long_by, sym e, q, r)

-- ---- an answer's octets

one_over : (l : List ℕ) (k x : ℕ) → k < length l → set l k x ≡ over l k (x ∷ [])
unfolding over
one_over l k x h = rw add-one (set_split l k x h)

-- head, two octets and one more, written one after the other
pub nine_octets : (out head : List ℕ) (v s : ℕ) → length head ≡ 6 → 9 ≤ length out
    → set (over (over out 0 head) 6 (octets_of 2 v)) 8 s ≡ over out 0 (head ++ (octets_of 2 v ++ (s ∷ [])))
nine_octets out head v s h l =
    let n : length (octets_of 2 v) ≡ 2 = length-octets_of 2 v in
    let m : length (head ++ octets_of 2 v) ≡ 8 = length-append head (octets_of 2 v) ∙ omega arith in
    let a : 0 + length head ≡ 6 = omega arith in
    let b : 0 + length (head ++ octets_of 2 v) ≡ 8 = omega arith in
    let e : over (over out 0 head) 6 (octets_of 2 v) ≡ over out 0 (head ++ octets_of 2 v) =
    ap (λ (k : ℕ). over (over out 0 head) k (octets_of 2 v)) (sym a) ∙ over-over out 0 head (octets_of 2 v) (omega arith) in
    ap (λ (x : List ℕ). set x 8 s) e
    ∙ one_over (over out 0 (head ++ octets_of 2 v)) 8 s (rw (length_over out 0 (head ++ octets_of 2 v) (omega arith)) (omega arith))
    ∙ ap (λ (k : ℕ). over (over out 0 (head ++ octets_of 2 v)) k (s ∷ [])) (sym b)
    ∙ over-over out 0 (head ++ octets_of 2 v) (s ∷ []) (omega arith)
    ∙ ap (over out 0) (append_assoc head (octets_of 2 v) (s ∷ []))

-- ---- reading

-- octets 1 to 6 and those past octet 9 never count: telegrams of one length that agree on octets 7, 8 and 9 read alike
pub reads_alike : (t u : List ℕ) → length t ≡ length u → octet t 7 ≡ octet u 7 → octet t 8 ≡ octet u 8 → octet t 9 ≡ octet u 9
    → e_reading t ≡ e_reading u
unfolding e_reading
reads_alike t u l a b c =
    let q : e_code t ≡ e_code u = number_two t 6 ∙ ap₂ (λ (x y : ℕ). x * 256 + y) a b ∙ sym (number_two u 6) in
    rw (l, q, c)

-- what a telegram that is read says
pub record Says (t : List ℕ) (r : EReading) : Type 0 where
  pub known : (is_request (e_code t) || is_report (e_code t)) ≡ true
  pub told : record { code = e_code t; report = is_report (e_code t); status = octet t 9 } ≡ r

pub read_says : (t : List ℕ) (r : EReading) → e_reading t ≡ gives r → Says t r
unfolding e_reading
read_says t r e =
    let p = not_refused _ 21 0 _ r e in
    let q = not_refused _ 22 0 _ r p.1 in
    record { known = not-false _ q.0; told = gives_one _ _ r refl q.1 }

-- an answer that is given, taken apart
pub record Answers (t head : List ℕ) (s : ℕ) (out new : List ℕ) : Type 0 where
  pub request : is_request (e_code t) ≡ true
  pub headed : length head ≡ 6
  pub room : 9 ≤ length out
  pub written : over out 0 (answer_to (e_code t) head s) ≡ new

pub answer_given : (t head : List ℕ) (s : ℕ) (out new : List ℕ) → answering t head s out ≡ gives new → Answers t head s out new
unfolding answering
answer_given t head s out new e =
    let w = and_then_lem (e_reading t) _ new e in
    let said = read_says t w.0 w.1.0 in
    let p = not_refused _ 23 0 _ new w.1.1 in
    let q = not_refused _ 24 0 _ new p.1 in
    let r = not_refused _ 25 0 _ new q.1 in
    record {
      request = only (is_request (e_code t)) (is_report (e_code t)) said.known (ap (λ (x : EReading). x.report) said.told ∙ p.0);
      headed = eqb-true (length head) 6 (not-false _ q.0);
      room = ltb-false (length out) 9 r.0;
      written = ap (λ (c : ℕ). over out 0 (answer_to c head s)) (ap (λ (x : EReading). x.code) said.told) ∙ gives_one _ _ new refl r.1;
    }
  where
    only : (a b : Bool) → (a || b) ≡ true → b ≡ false → a ≡ true
    only true b e f = refl
    only false b e f = sym f ∙ e

-- the 9 octets of an answer
module _ (code : ℕ) (head : List ℕ) (s : ℕ) (headed : length head ≡ 6) where
  answer_length : length (answer_to code head s) ≡ 9
  unfolding answer_to
  answer_length = length-append head _ ∙ omega (arith, length-append (octets_of 2 (report_to code)) (s ∷ []), length-octets_of 2 (report_to code))

  answer_code : report_to code < 65536 → e_code (answer_to code head s) ≡ report_to code
  unfolding answer_to
  answer_code h =
      let e : length head + 0 ≡ 6 = omega arith in
      let m : report_to code % 256 ^ 2 ≡ report_to code = mod-eq_of_lt h in
      ap (λ (k : ℕ). number (answer_to code head s) k 2) (sym e) ∙ number_back head _ 0 2 ∙ number-octets_of_front 2 (report_to code) (s ∷ []) ∙ m

  answer_status : octet (answer_to code head s) 9 ≡ s
  unfolding answer_to
  answer_status =
      let n = length-octets_of 2 (report_to code) in
      let e : length head + 2 ≡ 8 = omega arith in
      let f : length (octets_of 2 (report_to code)) + 0 ≡ 2 = omega arith in
      ap (λ (k : ℕ). get_or (answer_to code head s) k 0) (sym e) ∙ get_or-append-add head _ 2 0
      ∙ ap (λ (k : ℕ). get_or (octets_of 2 (report_to code) ++ (s ∷ [])) k 0) (sym f) ∙ get_or-append-add (octets_of 2 (report_to code)) (s ∷ []) 0 0

-- an answer read back is the report to the request that was answered, with the status given
pub read_back : (t head : List ℕ) (s : ℕ) (out new : List ℕ) → answering t head s out ≡ gives new
    → e_reading (take 9 new) ≡ gives (record { code = report_to (e_code t); report = true; status = s })
unfolding e_reading refuse_if
read_back t head s out new e =
    let a = answer_given t head s out new e in
    let c = e_code t in
    let l = answer_length c head s a.headed in
    let nine : take 9 new ≡ answer_to c head s =
    ap (take 9) (sym a.written)
    ∙ ap (λ (n : ℕ). take n (over out 0 (answer_to c head s))) (sym l)
    ∙ part_over out 0 (answer_to c head s) (omega (arith, a.room)) in
    let k = is_report_lem c ∙ a.request in
    rw nine (simp (l, answer_code c head s a.headed (report_fits c a.request), le-ltb (e_limit (report_to c)) 9 (omega (arith, limit_least (report_to c))), answer_status c head s a.headed, k, or-true))

-- ---- the contract settles the answer

pub one_e_read : (a : Answer EReading) (v w : Result code.EReading Refusal) → e_read_answer v ≡ a → e_read_answer w ≡ a → v ≡ w
one_e_read = one_result e_reading_of (λ x. record { code = x.code; report = x.report; status = x.status }) (λ x. refl)
