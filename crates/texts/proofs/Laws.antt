-- Sets of keys, and what judging the blocks one after the other shows. Assumes nothing.
use Prim.Native.Nat.{ℕ, zero, suc, ◌+◌, ◌-◌, ◌/◌, ◌%◌, ◌^◌, ◌≤◌, ◌<◌}
use native.Mathlib.Nat.{lt_irrefl, div-eq_of_lt, pow-suc}
use native.Mathlib.Numerals.{add-one}
use native.Mathlib.Decide.{dec_lt, ℕ_discrete}
use native.Mathlib.Omega.{arith}
use mathlib.Core.Path.{◌≡◌, refl, sym, ap, ◌∙◌}
use mathlib.Core.Bool.{Bool, true, false, not, cond, ◌||◌, or-true, or-false}
use mathlib.Core.List.{List, [], ◌∷◌}
use lib.Dec.{ltb, eqb}
use lib.ListN.{length, take, drop}
use lib.Bits.{bit_or, or_shr, or_mod, or_zero_r}
use lib.Pow.{pow-lt, pow_pos, pow-add, shl-shr}
use borrow.Author.Count.{below_more}
use borrow.Author.Tests.{lt-ltb, le-ltb, eq-eqb, ne_eqb, eqb-true, not-false}
use Rattle.bools.proofs.Tests.{both}
use Rattle.std.specs.Prelude.{Option, Result, Ok, Err}
use Rattle.paper.specs.Answer.{Answer, gives, refused, refuse_if, and_then, Sought, found, nothing}
use Rattle.paper.specs.ETelegrams.{e_code, e_limit}
use Rattle.paper.specs.First.{first_of, some}
use Rattle.paper.specs.Remedies.{length_at, key_at, text_length_at, start, key_of, past, broken, twice, block_fault, first_fault, refuse_by, ordered, block_count, Remedies, remedies_of, remedy_reading, Remedy, remedy_of, remedy_block, text_in, remedy_text, BlockRules}
use Rattle.paper.proofs.AnswerLaws.{refuses, goes_past}
use Rattle.paper.proofs.FirstLaws.{some_true, some_false, some_none, some_at}
use Rattle.paper.proofs.RemedyLaws.{fault_here, no_fault, field_rules, block_rules}
use Rattle.refusals.specs.declared.Refusal.{Refusal}
use Rattle.refusals.specs.declared.Refusal.TheVariants as R
use Rattle.refusals.specs.Refusal.{refusal_of}
use Rattle.refusals.specs.Outcome.{sought_of}
use Rattle.refusals.proofs.WrittenLaws.{one_result, sought_told, sought_told_of}
use Rattle.texts.specs.declared.Remedies as code
use Rattle.texts.specs.declared.Remedy as place
use Rattle.texts.specs.Texts.{holds, Holds, fault_at, faults_of, Fault, head_holds, placed, remedies_read, read_answer, remedy_answer}

-- ---- where a block starts

pub start_none : (t : List ℕ) → 30 ≡ start t 0
unfolding start
start_none t = refl

pub start_more : (t : List ℕ) (at i size : ℕ) → at ≡ start t i → size ≡ length_at t at → at + size ≡ start t (i + 1)
unfolding start
start_more t at i size e f = ap (λ (x : ℕ). at + x) f ∙ ap (λ (a : ℕ). a + length_at t a) e ∙ ap (start t) (sym (add-one i))

-- ---- sets of keys

with_one : (y : ℕ) → y < 2 → bit_or y 1 ≡ 1
with_one zero h = refl
with_one (suc zero) h = refl
with_one (suc (suc y)) h = absurd (lt_irrefl 2 (omega arith))

-- a bit set: it is 1, and no other changes
pub bit_or_lem : (s a b : ℕ) → bit_or s (2 ^ a) / 2 ^ b % 2 ≡ cond (eqb a b) 1 (s / 2 ^ b % 2)
bit_or_lem s a b =
    let whole : bit_or s (2 ^ a) / 2 ^ b % 2 ≡ bit_or (s / 2 ^ b % 2) (2 ^ a / 2 ^ b % 2) =
    ap (λ (x : ℕ). x % 2) (or_shr s (2 ^ a) b) ∙ or_mod (s / 2 ^ b) (2 ^ a / 2 ^ b) 1 in
    elim (ℕ_discrete a b) [
      | yes e ↦
          let one : 2 ^ a / 2 ^ b % 2 ≡ 1 = ap (λ (x : ℕ). 2 ^ x / 2 ^ b % 2) e ∙ ap (λ (x : ℕ). x % 2) (ap (λ (x : ℕ). x / 2 ^ b) (omega arith) ∙ shl-shr 1 b) in
          whole ∙ ap (bit_or (s / 2 ^ b % 2)) one ∙ with_one (s / 2 ^ b % 2) (omega arith) ∙ simp (eq-eqb a b e)
      | no n ↦ whole ∙ ap (bit_or (s / 2 ^ b % 2)) (other n (dec_lt a b)) ∙ or_zero_r (s / 2 ^ b % 2) ∙ simp (ne_eqb a b n)
    ]
  where
    other : (a ≡ b → ⊥) → Dec (a < b) → 2 ^ a / 2 ^ b % 2 ≡ 0
    other n (yes h) = ap (λ (x : ℕ). x % 2) (div-eq_of_lt (pow-lt {i = a} {j = b} h))
    other n (no h) =
        let d = a - b - 1 in
        let e : a ≡ suc d + b = omega arith in
        let q : 2 ^ a / 2 ^ b ≡ 2 ^ suc d = ap (λ (x : ℕ). 2 ^ x / 2 ^ b) e ∙ ap (λ (x : ℕ). x / 2 ^ b) (pow-add 2 (suc d) b) ∙ shl-shr (2 ^ suc d) b in
        ap (λ (x : ℕ). x % 2) q ∙ omega (arith, pow-suc 2 d)

some_last : (ok : ℕ → Bool) (n : ℕ) → some ok (suc n) ≡ (some ok n || ok n)
some_last ok n = by (some ok n) refl (ok n) refl
  where
    none : some ok n ≡ false → ok n ≡ false → (k : ℕ) → k < suc n → ok k ≡ false
    none e f k h = elim (dec_lt k n) [
      | yes l ↦ some_none ok n e k l
      | no l ↦ let q : k ≡ n = omega arith in ap ok q ∙ f
    ]

    by : (a : Bool) → some ok n ≡ a → (b : Bool) → ok n ≡ b → some ok (suc n) ≡ (a || b)
    by true e b f = let w = some_at ok n e in some_true ok (suc n) w.0 (omega (arith, w.1.0)) w.1.1
    by false e true f = some_true ok (suc n) n (omega arith) f
    by false e false f = some_false ok (suc n) (none e f)

pub holds_none : (key : ℕ → ℕ) → Holds key 0 0
holds_none key x a b =
    ap (λ (y : ℕ). eqb (y % 2) 1) (div-eq_of_lt (pow_pos (x - 1)))
    ∙ sym (some_false (λ j. eqb (key j) x) 0 (λ k h. absurd (lt_irrefl k (omega arith))))

pub holds_more : (key : ℕ → ℕ) (n set : ℕ) → Holds key n set → 1 ≤ key n → key n ≤ 8 → Holds key (suc n) (bit_or set (2 ^ (key n - 1)))
holds_more key n set held lo hi x a b =
    ap (λ (y : ℕ). eqb y 1) (bit_or_lem set (key n - 1) (x - 1))
    ∙ elim (ℕ_discrete (key n) x) [
      | yes e ↦ simp (eq-eqb (key n - 1) (x - 1) (omega arith), some_last (λ j. eqb (key j) x) n, eq-eqb (key n) x e, or-true)
      | no e ↦ simp (ne_eqb (key n - 1) (x - 1) (λ q. e (omega arith)), some_last (λ j. eqb (key j) x) n, ne_eqb (key n) x e, or-false) (held x a b)
    ]
    ∙ refl

-- ---- a fault by its number

-- what is refused has one
pub fault_some : (v : ℕ) (f : Refusal) → Fault v (Err f) → v ≡ 0 → ⊥
unfolding refuse_if
fault_some v f e z = let q : refusal_of {A = Unit {0}} f ≡ gives tt = e ∙ ap (λ (x : ℕ). refuse_by {A = Unit {0}} x (gives tt)) z in cc

-- and what is not has none
pub fault_none : (v : ℕ) → Fault v (Ok tt) → v ≡ 0
unfolding refuse_if
fault_none v e = by (eqb v 0) refl
  where
    by : (b : Bool) → eqb v 0 ≡ b → v ≡ 0
    by true q = eqb-true v 0 q
    by false q = let z : gives tt ≡ refused v 0 = e ∙ ap (λ (b : Bool). refuse_if (not b) v 0 (gives tt)) q in cc

pub fault_then : {A : Type 0} (v : ℕ) (rest : Answer A) (a : Answer (Unit {0})) → a ≡ refuse_by v (gives tt) → and_then a (λ x. rest) ≡ refuse_by v rest
unfolding refuse_if
fault_then {A} v rest a e = ap (λ (x : Answer (Unit {0})). and_then x (λ y. rest)) e ∙ by (not (eqb v 0))
  where
    by : (b : Bool) → and_then (refuse_if b v 0 (gives tt)) (λ (y : Unit {0}). rest) ≡ refuse_if b v 0 rest
    by true = refl
    by false = refl

-- ---- one block

module _ (t : List ℕ) (at seen : ℕ) where
  pub past_first : length t < at + 6 → past t at ≡ true
  past_first h = rw (lt-ltb (length t) (at + 6) h)

  pub past_length : length t < at + length_at t at → past t at ≡ true
  past_length h = rw (lt-ltb (length t) (at + length_at t at) h) (or-true (ltb (length t) (at + 6)))

  pub not_past : at + 6 ≤ length t → at + length_at t at ≤ length t → past t at ≡ false
  not_past h k = rw (le-ltb (length t) (at + 6) h, le-ltb (length t) (at + length_at t at) k)

  pub by_past : past t at ≡ true → Fault (fault_at t at seen) (Err R.BlockPast)
  unfolding fault_at refuse_if
  by_past e = rw e

  module _ (p : past t at ≡ false) where
    pub by_broken : broken t at ≡ true → Fault (fault_at t at seen) (Err R.RemedyField)
    unfolding fault_at refuse_if
    by_broken e = rw (p, e)

    pub by_twice : broken t at ≡ false → holds seen (key_at t at) ≡ true → Fault (fault_at t at seen) (Err R.KeyTwice)
    unfolding fault_at refuse_if
    by_twice e f = rw (p, e, f)

    pub by_none : broken t at ≡ false → holds seen (key_at t at) ≡ false → Fault (fault_at t at seen) (Ok tt)
    unfolding fault_at refuse_if
    by_none e f = rw (p, e, f)

-- the set stands for the blocks before, where the key is in its range
same_third : (p b v w : Bool) → (b ≡ false → v ≡ w) → first_of 28 (p ∷ b ∷ v ∷ []) 0 ≡ first_of 28 (p ∷ b ∷ w ∷ []) 0
same_third true b v w e = refl
same_third false true v w e = refl
same_third false false v w e = ap (λ (x : Bool). first_of 28 (false ∷ false ∷ x ∷ []) 0) (e refl)

pub in_range_lem : (t : List ℕ) (at : ℕ) → broken t at ≡ false → (1 ≤ key_at t at) × (key_at t at ≤ 8)
in_range_lem t at e =
    let p = both _ (eqb (length_at t at) (6 + text_length_at t at)) (not-false _ e) in
    let f = field_rules (key_at t at) (text_length_at t at) p.0 in
    (f.0, f.1)

pub fault_is : (t : List ℕ) (k at seen : ℕ) → at ≡ start t k → Holds (key_of t) k seen → fault_at t at seen ≡ block_fault t k
unfolding fault_at block_fault twice
fault_is t k at seen e held =
    ap (λ (a : ℕ). fault_at t a seen) e
    ∙ same_third (past t (start t k)) (broken t (start t k)) _ _ (λ b. let r = in_range_lem t (start t k) b in held (key_of t k) r.0 r.1)

-- ---- the blocks in order

pub record Judged (t : List ℕ) (n at seen k : ℕ) : Type 0 where
  pub within : k ≤ n
  pub stands : at ≡ start t k
  pub inside : at ≤ length t
  pub held : Holds (key_of t) k seen
  pub each : (j : ℕ) → j < k → block_fault t j ≡ 0

pub judged_none : (t : List ℕ) (n : ℕ) → 30 ≤ length t → Judged t n 30 0 0
unfolding start
judged_none t n h =
    record { within = omega arith; stands = refl; inside = h; held = holds_none (key_of t); each = λ j l. absurd (lt_irrefl j (omega arith)) }

module _ (t : List ℕ) (n at seen k : ℕ) (p : Judged t n at seen k) where
  -- block k is at fault
  pub judged_here : k < n → (f : Refusal) → Fault (fault_at t at seen) (Err f) → Fault (faults_of t n) (Err f)
  unfolding faults_of
  judged_here h f e =
      let ne = fault_some (fault_at t at seen) f e in
      let q = fault_here (block_fault t) n k (fault_at t at seen) h p.each (sym (fault_is t k at seen p.stands p.held)) ne in
      let z : eqb (first_fault (block_fault t) n) 0 ≡ false = ne_eqb _ 0 (λ x. ne (q ∙ x)) in
      let is : fault_at t at seen ≡ faults_of t n = rw z q in
      e ∙ ap (λ (x : ℕ). refuse_by {A = Unit {0}} x (gives tt)) is

  -- it has none
  module _ (e : Fault (fault_at t at seen) (Ok tt)) where
    block_sound : block_fault t k ≡ 0
    block_sound = sym (fault_is t k at seen p.stands p.held) ∙ fault_none (fault_at t at seen) e

    abbrev B : BlockRules t k
    B = block_rules t k block_sound

    pub block_begins : at + 6 ≤ length t
    block_begins = omega (arith, p.stands, B.begins)

    pub block_key : (1 ≤ key_at t at) × (key_at t at ≤ 8)
    block_key = rw p.stands (B.key_least, B.key_most)

    pub judged_more : k < n → (size set : ℕ) → size ≡ length_at t at → set ≡ bit_or seen (2 ^ (key_at t at - 1)) → Judged t n (at + size) set (k + 1)
    unfolding start
    judged_more h size set is held =
        let one : k + 1 ≡ suc k = add-one k in
        record {
          within = omega arith;
          stands = ap (λ (x : ℕ). at + x) is ∙ ap (λ (a : ℕ). a + length_at t a) p.stands ∙ ap (start t) (sym one);
          inside = rw (is, p.stands) B.within;
          held = rw (one, held, p.stands) (holds_more (key_of t) k seen p.held B.key_least B.key_most);
          each = below_more _ _ p.each block_sound;
        }

  -- the blocks have none: octets after the last, or nothing
  module _ (ends : n ≤ k) where
    all_sound : 0 ≡ first_fault (block_fault t) n
    all_sound = no_fault (block_fault t) n (λ j h. p.each j (omega arith))

    at_end : at ≡ start t n
    at_end = let e : k ≡ n = omega (arith, p.within) in p.stands ∙ ap (start t) e

    pub judged_after : at < length t → Fault (faults_of t n) (Err R.BlockPast)
    unfolding faults_of refuse_if
    judged_after h = rw (← all_sound, lt-ltb (start t n) (length t) (omega (arith, at_end)))

    pub judged_all : length t ≤ at → Fault (faults_of t n) (Ok tt)
    unfolding faults_of refuse_if
    judged_all h = rw (← all_sound, le-ltb (start t n) (length t) (omega (arith, at_end)))

-- ---- the telegram

-- the blocks, then octets after the last, as one fault
in_one : {A : Type 0} (f : ℕ) (after : Bool) (rest : Answer A) → refuse_by f (refuse_if after 28 0 rest) ≡ refuse_by (cond (eqb f 0) (cond after 28 0) f) rest
unfolding refuse_if
in_one {A} f after rest = by (eqb f 0) refl after
  where
    by : (b : Bool) → eqb f 0 ≡ b → (c : Bool) → refuse_by f (refuse_if c 28 0 rest) ≡ refuse_by (cond (eqb f 0) (cond c 28 0) f) rest
    by true z true = rw z
    by true z false = rw z
    by false z c = rw (z, z)

module _ (t : List ℕ) where
  pub by_short : length t < 30 → refused 21 0 ≡ remedy_reading t
  unfolding remedy_reading refuse_if
  by_short h = rw (lt-ltb (length t) 30 h)

  module _ (code most : ℕ) (e : code ≡ e_code t) (m : most ≡ e_limit code) where
    most_is : most ≡ e_limit (e_code t)
    most_is = m ∙ ap e_limit e

    pub by_long : most < length t → refused 21 0 ≡ remedy_reading t
    unfolding remedy_reading refuse_if
    by_long h = rw (lt-ltb (e_limit (e_code t)) (length t) (omega (arith, most_is)), or-true)

    module _ (long : 30 ≤ length t) (short : length t ≤ most) where
      good_length : (ltb (length t) 30 || ltb (e_limit (e_code t)) (length t)) ≡ false
      good_length = rw (le-ltb (length t) 30 long, le-ltb (e_limit (e_code t)) (length t) (omega (arith, most_is)))

      head_is : head_holds code (ordered t) (block_count t) ≡ head_holds (e_code t) (ordered t) (block_count t)
      head_is = ap (λ (x : ℕ). head_holds x (ordered t) (block_count t)) e

      pub by_head : head_holds code (ordered t) (block_count t) ≡ false → refused 29 0 ≡ remedy_reading t
      unfolding remedy_reading
      by_head h = goes_past _ 21 0 _ _ good_length (refuses _ 29 0 _ (ap not (sym head_is ∙ h)))

      -- what the blocks are refused by, or what the telegram says
      pub by_blocks : head_holds code (ordered t) (block_count t) ≡ true → (a : Answer (Unit {0})) → a ≡ refuse_by (faults_of t (block_count t)) (gives tt)
          → and_then a (λ x. gives (remedies_of t)) ≡ remedy_reading t
      unfolding remedy_reading faults_of
      by_blocks h a f =
          goes_past _ 21 0 _ _ good_length (goes_past _ 29 0 _ _ (ap not (sym head_is ∙ h))
          (fault_then _ _ a f ∙ sym (in_one (first_fault (block_fault t) (block_count t)) (ltb (start t (block_count t)) (length t)) (gives (remedies_of t)))))

-- ---- what is answered of a block

module _ (t : List ℕ) (k : ℕ) where
  pub by_block : (m : Remedies) (b : Remedy) → gives m ≡ remedy_reading t → k < m.count → b ≡ remedy_of t k → gives (found b) ≡ remedy_block t k
  unfolding remedy_block
  by_block m b e h q = rw (sym e, lt-ltb k m.count h) (ap (λ (x : Remedy). gives (found x)) q)

  pub by_last : (m : Remedies) → gives m ≡ remedy_reading t → m.count ≤ k → gives nothing ≡ remedy_block t k
  unfolding remedy_block
  by_last m e h = rw (sym e, le-ltb k m.count h) refl

  -- its text
  pub by_found : (b : place.Remedy) → gives (found (placed b)) ≡ remedy_block t k → take b.size (drop b.at t) ≡ remedy_text t k
  unfolding remedy_text
  by_found b e = ap (text_in t) e

  pub by_nothing : gives nothing ≡ remedy_block t k → [] ≡ remedy_text t k
  unfolding remedy_text
  by_nothing e = ap (text_in t) e

  pub by_refused : (n at : ℕ) → refused n at ≡ remedy_block t k → [] ≡ remedy_text t k
  unfolding remedy_text
  by_refused n at e = ap (text_in t) e

-- ---- the contract settles the answer

pub one_remedies : (a : Answer Remedies) (v w : Result code.Remedies Refusal) → read_answer v ≡ a → read_answer w ≡ a → v ≡ w
one_remedies = one_result remedies_read (λ m. record { language = m.language; ordered = m.ordered; count = m.count }) (λ x. refl)

back : Remedy → place.Remedy
back b = record { key = b.key; at = b.at; size = b.size }

back_of : (b : place.Remedy) → back (placed b) ≡ b
unfolding back
back_of b = refl

pub one_remedy : (a : Answer (Sought Remedy)) (v w : Result (Option place.Remedy) Refusal) → remedy_answer v ≡ a → remedy_answer w ≡ a → v ≡ w
one_remedy = one_result (sought_of placed) (sought_told back) (sought_told_of placed back back_of)
