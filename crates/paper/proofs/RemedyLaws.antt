-- The laws of remedy texts: when a telegram is read, that what is written reads back, and that what was read is written again. Assumes nothing.
use Prim.Native.Nat.{ℕ, zero, suc, ◌+◌, ◌-◌, ◌*◌, ◌%◌, ◌^◌, ◌≤◌, ◌<◌}
use native.Mathlib.Nat.{lt_irrefl, mod-eq_of_lt}
use native.Mathlib.Omega.{arith}
use native.Mathlib.Decide.{dec_lt}
use native.Mathlib.Numerals.{add-one}
use mathlib.Core.Path.{◌≡◌, refl, sym, ap, ap₂, ◌∙◌}
use mathlib.Core.Logic.{◌↔◌, ◌⊎◌, inl, inr}
use mathlib.Core.Bool.{Bool, true, false, not, cond, ◌&&◌, ◌||◌, or-true, false≢true}
use mathlib.Core.List.{List, [], ◌∷◌, ◌++◌, append_assoc, append-nil}
use lib.Dec.{ltb, leb, eqb}
use lib.ListN.{length, get_or, take, drop, set, replicate, length-append, length-take, length-drop, length-set, take-append-drop}
use lib.Seq.{take_at, drop_at, get_or_at, set_at, take-add, drop-drop, drop-cons, drop-length, get_or-append-add, take-length, length-take-le}
use borrow.Author.Tests.{lt-ltb, le-ltb, ltb-true, ltb-false, le-leb, lt-leb, leb-true, eq-eqb, ne_eqb, eqb-true, eqb-false, not-true, not-false}
use Rattle.paper.specs.Octets.{octet, number, octets_of, over, Octets}
use Rattle.paper.specs.Answer.{Answer, gives, refused, refuse_if, and_then, Sought, found, nothing}
use Rattle.paper.specs.First.{first_from, first_bad, all, some, first_of}
use Rattle.paper.specs.ETelegrams.{requests, is_request, is_report, remedy_code, e_code, e_limit, e_reading, answering}
use Rattle.paper.specs.Remedies.{language, ordered, block_count, length_at, key_at, text_length_at, text_at, start, key_of, text_of, field_rule, past, broken, twice, block_fault, sound, first_fault, refuse_by, head_rule, Remedies, remedies_of, remedy_reading, Blocks, area_to, area_blocks, block_octets, blocks_to, Handed, with_blocks, front_octets, telegram_of, size_to, handed_fault, Remedy, remedy_of, remedy_block, text_in, remedy_text, WrittenRemedies, written_of, remedy_writing, blocks_in, handed_by, reserve_to, BlockRules, RemedyRules, Shaped, HandedRules, WritingRules, ReadsBack}
use Rattle.paper.proofs.AnswerLaws.{not_refused, gives_one, and_then_lem}
use Rattle.paper.proofs.FirstLaws.{first_here, first_none, first_most, first_passed, first_fails, some_false, some_none, first_same, all_same}
use Rattle.bools.proofs.Tests.{both, neither}
use Rattle.paper.proofs.NumberLaws.{number_lt, number_two, number_front, number_back, number-octets_of_front, length-octets_of, octets_of-number, part_over, length_over, drop-over}

-- ---- faults

no_first : (n : ℕ) (a b : Bool) → first_of (suc n) (a ∷ b ∷ []) 0 ≡ 0 → (a ≡ false) × (b ≡ false)
no_first n true b e = absurd (lt_irrefl 0 (omega arith))
no_first n false true e = absurd (lt_irrefl 0 (omega arith))
no_first n false false e = (refl, refl)

none_of_three : (a b c : Bool) → first_of 28 (a ∷ b ∷ c ∷ []) 0 ≡ 0 → (a ≡ false) × (b ≡ false) × (c ≡ false)
none_of_three true b c e = absurd (lt_irrefl 0 (omega arith))
none_of_three false b c e = let w = no_first 28 b c e in (refl, w.0, w.1)

module _ (fault : ℕ → ℕ) (n : ℕ) where
  -- the first fault, where block k has it and none before has one
  pub fault_here : (k v : ℕ) → k < n → ((j : ℕ) → j < k → fault j ≡ 0) → fault k ≡ v → (v ≡ 0 → ⊥) → v ≡ first_fault fault n
  unfolding first_fault
  fault_here k v h below e ne =
      let q : first_bad (sound fault) n ≡ k = first_here (sound fault) n k h (λ j l. eq-eqb (fault j) 0 (below j l)) (ne_eqb (fault k) 0 (λ z. ne (sym e ∙ z))) in
      rw (q, lt-ltb k n h) (sym e)

  pub no_fault : ((j : ℕ) → j < n → fault j ≡ 0) → 0 ≡ first_fault fault n
  unfolding first_fault
  no_fault below =
      let q : first_bad (sound fault) n ≡ n = first_none (sound fault) n (λ j l. eq-eqb (fault j) 0 (below j l)) in
      rw (q, le-ltb n n (omega arith)) refl

  pub fault_none : first_fault fault n ≡ 0 → (k : ℕ) → k < n → fault k ≡ 0
  unfolding first_fault
  fault_none e k h =
      elim (dec_lt (first_bad (sound fault) n) n) [
        | yes l ↦
            let z : fault (first_bad (sound fault) n) ≡ 0 = ap (λ (b : Bool). cond b (fault (first_bad (sound fault) n)) 0) (sym (lt-ltb _ _ l)) ∙ e in
            absurd (eqb-false (fault (first_bad (sound fault) n)) 0 (first_fails (sound fault) n l) z)
        | no l ↦ eqb-true (fault k) 0 (first_passed (sound fault) n k (omega arith))
      ]

by_none : {A : Type 0} (fault : ℕ) (rest : Answer A) (a : A) → refuse_by fault rest ≡ gives a → (fault ≡ 0) × (rest ≡ gives a)
by_none fault rest a e = let p = not_refused (not (eqb fault 0)) fault 0 rest a e in (eqb-true fault 0 (not-false _ p.0), p.1)

-- ---- read exactly if every rule holds

pub field_rules : (key size : ℕ) → field_rule key size ≡ true → (1 ≤ key) × (key ≤ 8) × (size % 2 ≡ 0) × (size ≤ 254)
field_rules key size e =
    let p = both (leb 1 key && leb key 8 && eqb (size % 2) 0) (leb size 254) e in
    let q = both (leb 1 key && leb key 8) (eqb (size % 2) 0) p.0 in
    let r = both (leb 1 key) (leb key 8) q.0 in
    (leb-true 1 key r.0, leb-true key 8 r.1, eqb-true (size % 2) 0 q.1, leb-true size 254 p.1)

rules_field : (key size : ℕ) → 1 ≤ key → key ≤ 8 → size % 2 ≡ 0 → size ≤ 254 → field_rule key size ≡ true
rules_field key size a b c d = simp (le-leb 1 key a, le-leb key 8 b, eq-eqb (size % 2) 0 c, le-leb size 254 d)

once_of : (key : ℕ → ℕ) (k : ℕ) → twice key k ≡ false → (j : ℕ) → j < k → key j ≡ key k → ⊥
unfolding twice
once_of key k e j h = eqb-false (key j) (key k) (some_none (λ i. eqb (key i) (key k)) k e j h)

of_once : (key : ℕ → ℕ) (k : ℕ) → ((j : ℕ) → j < k → key j ≡ key k → ⊥) → twice key k ≡ false
unfolding twice
of_once key k once = some_false (λ i. eqb (key i) (key k)) k (λ j h. ne_eqb (key j) (key k) (once j h))

pub block_rules : (t : List ℕ) (k : ℕ) → block_fault t k ≡ 0 → BlockRules t k
unfolding block_fault
block_rules t k e =
    let w = none_of_three _ _ _ e in
    let p = neither (ltb (length t) (start t k + 6)) (ltb (length t) (start t k + length_at t (start t k))) w.0 in
    let b = both (field_rule (key_of t k) (text_length_at t (start t k))) (eqb (length_at t (start t k)) (6 + text_length_at t (start t k))) (not-false _ w.1) in
    let f = field_rules (key_of t k) (text_length_at t (start t k)) b.0 in
    record {
      begins = ltb-false _ _ p.0;
      within = ltb-false _ _ p.1;
      key_least = f.0;
      key_most = f.1;
      even = f.2;
      short = f.3;
      agrees = eqb-true _ _ b.1;
      once = once_of (key_of t) k w.2;
    }

pub rules_block : (t : List ℕ) (k : ℕ) → BlockRules t k → block_fault t k ≡ 0
unfolding block_fault
rules_block t k r =
    simp (
      le-ltb (length t) (start t k + 6) r.begins,
      le-ltb (length t) (start t k + length_at t (start t k)) r.within,
      rules_field (key_of t k) (text_length_at t (start t k)) r.key_least r.key_most r.even r.short,
      eq-eqb (length_at t (start t k)) (6 + text_length_at t (start t k)) r.agrees,
      of_once (key_of t) k r.once,
    )

pub limit_least : (code : ℕ) → 1024 ≤ e_limit code
unfolding e_limit
limit_least code = by (eqb code remedy_code)
  where
    by : (b : Bool) → 1024 ≤ cond b 2110 1024
    by true = omega arith
    by false = omega arith

pub limit_remedy : (code : ℕ) → code ≡ remedy_code → e_limit code ≡ 2110
unfolding e_limit
limit_remedy code e = rw e refl

module _ (t : List ℕ) where
  -- no block ends past the telegram
  start_within : (n : ℕ) → 30 ≤ length t → ((k : ℕ) → k < n → BlockRules t k) → start t n ≤ length t
  unfolding start
  start_within zero h b = h
  start_within (suc n) h b = (b n (omega arith)).within

  pub rules_of : (r : Remedies) → remedy_reading t ≡ gives r → RemedyRules t × (remedies_of t ≡ r)
  unfolding remedy_reading
  rules_of r e =
      let p = not_refused _ 21 0 _ r e in
      let q = not_refused _ 29 0 _ r p.1 in
      let f = by_none (first_fault (block_fault t) (block_count t)) _ r q.1 in
      let s = not_refused _ 28 0 _ r f.1 in
      let l = neither (ltb (length t) 30) (ltb (e_limit (e_code t)) (length t)) p.0 in
      let h = not-false (head_rule t) q.0 in
      let a = both (eqb (e_code t) remedy_code && leb (ordered t) 1 && leb 1 (block_count t)) (leb (block_count t) 8) h in
      let b = both (eqb (e_code t) remedy_code && leb (ordered t) 1) (leb 1 (block_count t)) a.0 in
      let c = both (eqb (e_code t) remedy_code) (leb (ordered t) 1) b.0 in
      let code : e_code t ≡ remedy_code = eqb-true (e_code t) remedy_code c.0 in
      let long : 30 ≤ length t = ltb-false (length t) 30 l.0 in
      let each : (k : ℕ) → k < block_count t → BlockRules t k = λ k lt. block_rules t k (fault_none (block_fault t) (block_count t) f.0 k lt) in (
        record {
          long = long;
          limit = omega (arith, ltb-false (e_limit (e_code t)) (length t) l.1, limit_remedy (e_code t) code);
          code = code;
          status = leb-true (ordered t) 1 c.1;
          one = leb-true 1 (block_count t) b.1;
          few = leb-true (block_count t) 8 a.1;
          blocks = each;
          ends = omega (arith, start_within (block_count t) long each, ltb-false (start t (block_count t)) (length t) s.0);
        },
        gives_one _ _ r refl s.1,
      )

  pub read_by : RemedyRules t → remedy_reading t ≡ gives (remedies_of t)
  unfolding remedy_reading refuse_if
  read_by r =
      simp (
        le-ltb (length t) 30 r.long,
        le-ltb (e_limit (e_code t)) (length t) (omega (arith, r.limit, limit_remedy (e_code t) r.code)),
        eq-eqb (e_code t) remedy_code r.code,
        le-leb (ordered t) 1 r.status,
        le-leb 1 (block_count t) r.one,
        le-leb (block_count t) 8 r.few,
        sym (no_fault (block_fault t) (block_count t) (λ k h. rules_block t k (r.blocks k h))),
        le-ltb (start t (block_count t)) (length t) (omega (arith, r.ends)),
      )

  -- a telegram is read exactly if every rule holds
  pub read_exactly : (remedy_reading t ≡ gives (remedies_of t)) ↔ RemedyRules t
  read_exactly = (λ e. (rules_of (remedies_of t) e).0, read_by)

  -- the text of a block lies within the telegram, and has the octets that its length field says
  module _ (r : RemedyRules t) (k : ℕ) (h : k < block_count t) where
    pub text_within : start t k + 6 + text_length_at t (start t k) ≤ length t
    text_within = let b = r.blocks k h in omega (arith, b.within, b.agrees)

    pub text_length : length (text_of t k) ≡ text_length_at t (start t k)
    text_length = length-take-le _ _ (rw length-drop (omega (arith, text_within)))

-- ---- what is written reads back

number_in : (l m : List ℕ) (j k n : ℕ) → length l + k ≡ j → number (l ++ m) j n ≡ number m k n
number_in l m j k n e = ap (λ (i : ℕ). number (l ++ m) i n) (sym e) ∙ number_back l m k n

module _ (p : List ℕ) (key : ℕ) (text q : List ℕ) (at : ℕ) (is : length p ≡ at) (short : length text ≤ 254) where
  abbrev stands : List ℕ
  stands = p ++ (block_octets key text ++ q)

  -- the block's octets, one part after the other
  abbrev parts : List ℕ
  parts = octets_of 2 (6 + length text) ++ (key ∷ 0 ∷ (octets_of 2 (length text) ++ (text ++ q)))

  as_parts : stands ≡ p ++ parts
  unfolding block_octets
  as_parts = ap (λ (x : List ℕ). p ++ x) (append_assoc (octets_of 2 (6 + length text)) (key ∷ 0 ∷ (octets_of 2 (length text) ++ text)) q
      ∙ ap (λ (x : List ℕ). octets_of 2 (6 + length text) ++ (key ∷ 0 ∷ x)) (append_assoc (octets_of 2 (length text)) text q))

  length_written : length_at stands at ≡ 6 + length text
  length_written =
      let m : (6 + length text) % 256 ^ 2 ≡ 6 + length text = mod-eq_of_lt (omega arith) in
      ap (λ (l : List ℕ). number l at 2) as_parts
      ∙ number_in p parts at 0 2 (omega arith)
      ∙ number-octets_of_front 2 (6 + length text) _
      ∙ m

  key_written : key_at stands at ≡ key
  key_written =
      ap (λ (l : List ℕ). get_or l (at + 2) 0) as_parts
      ∙ ap (λ (j : ℕ). get_or (p ++ parts) (j + 2) 0) (sym is)
      ∙ get_or-append-add p parts 2 0
      ∙ get_or_at (octets_of 2 (6 + length text)) key _ 0 2 (length-octets_of 2 (6 + length text))

  fourth_written : get_or stands (at + 3) 0 ≡ 0
  fourth_written =
      ap (λ (l : List ℕ). get_or l (at + 3) 0) as_parts
      ∙ ap (λ (j : ℕ). get_or (p ++ parts) (j + 3) 0) (sym is)
      ∙ get_or-append-add p parts 3 0
      ∙ ap (λ (j : ℕ). get_or parts (j + 1) 0) (sym (length-octets_of 2 (6 + length text)))
      ∙ get_or-append-add (octets_of 2 (6 + length text)) _ 1 0

  text_length_written : text_length_at stands at ≡ length text
  text_length_written =
      let m : length text % 256 ^ 2 ≡ length text = mod-eq_of_lt (omega arith) in
      ap (λ (l : List ℕ). number l (at + 4) 2) as_parts
      ∙ number_in p parts (at + 4) 4 2 (omega arith)
      ∙ number_in (octets_of 2 (6 + length text)) _ 4 2 2 (omega (arith, length-octets_of 2 (6 + length text)))
      ∙ number_in (key ∷ 0 ∷ []) (octets_of 2 (length text) ++ (text ++ q)) 2 0 2 refl
      ∙ number-octets_of_front 2 (length text) _
      ∙ m

  rest_written : drop (at + 6) stands ≡ text ++ q
  rest_written =
      let n : length (octets_of 2 (6 + length text)) ≡ 2 = length-octets_of 2 (6 + length text) in
      let k : length (octets_of 2 (length text)) ≡ 2 = length-octets_of 2 (length text) in
      ap (drop (at + 6)) as_parts
      ∙ sym (drop-drop 6 at (p ++ parts))
      ∙ ap (drop 6) (drop_at p parts at is)
      ∙ sym (drop-drop 4 2 parts)
      ∙ ap (drop 4) (drop_at (octets_of 2 (6 + length text)) _ 2 n)
      ∙ drop_at (octets_of 2 (length text)) (text ++ q) 2 k

  text_written : text_at stands at ≡ text
  text_written = ap₂ (λ (n : ℕ) (l : List ℕ). take n l) text_length_written rest_written ∙ take_at text q (length text) refl

module _ (b : Blocks) where
  pub length_block : (key : ℕ) (text : List ℕ) → length (block_octets key text) ≡ 6 + length text
  unfolding block_octets
  length_block key text =
      length-append (octets_of 2 (6 + length text)) _
      ∙ omega (arith, length-octets_of 2 (6 + length text), length-append (octets_of 2 (length text)) text, length-octets_of 2 (length text))

  pub length_blocks : (n : ℕ) → 30 + length (blocks_to b n) ≡ size_to b n
  unfolding blocks_to size_to
  length_blocks zero = refl
  length_blocks (suc n) = omega (arith, length-append (blocks_to b n) (block_octets (b.key n) (b.text n)), length_block (b.key n) (b.text n), length_blocks n)

  -- block k stands behind those before it
  blocks_at : (n k : ℕ) → k < n → (q : List ℕ) × (blocks_to b n ≡ blocks_to b k ++ (block_octets (b.key k) (b.text k) ++ q))
  unfolding blocks_to
  blocks_at zero k h = absurd (lt_irrefl 0 (omega arith))
  blocks_at (suc n) k h = by (dec_lt k n) (λ l. blocks_at n k l)
    where
      by : Dec (k < n) → (k < n → (q : List ℕ) × (blocks_to b n ≡ blocks_to b k ++ (block_octets (b.key k) (b.text k) ++ q)))
          → (q : List ℕ) × (blocks_to b (suc n) ≡ blocks_to b k ++ (block_octets (b.key k) (b.text k) ++ q))
      by (yes l) rest =
          let w = rest l in (
            w.0 ++ block_octets (b.key n) (b.text n),
            ap (λ (x : List ℕ). x ++ block_octets (b.key n) (b.text n)) w.1
                ∙ append_assoc (blocks_to b k) _ _
                ∙ ap (λ (x : List ℕ). blocks_to b k ++ x) (append_assoc (block_octets (b.key k) (b.text k)) w.0 _),
          )
      by (no l) rest =
          let e : n ≡ k = omega arith in
          ([], ap (λ (i : ℕ). blocks_to b i ++ block_octets (b.key i) (b.text i)) e ∙ ap (λ (x : List ℕ). blocks_to b k ++ x) (sym (append-nil (block_octets (b.key k) (b.text k)))))

module _ (h : Handed) (six : length h.head ≡ 6) (twelve : length h.carried ≡ 12) where
  abbrev B : Blocks
  B = h.blocks

  abbrev W : List ℕ
  W = telegram_of h

  -- octets 1 to 24 of what begins with the front, one part after the other
  as_front : (r : List ℕ) → front_octets h ++ r
      ≡ h.head ++ (octets_of 2 remedy_code ++ (h.carried ++ (octets_of 2 h.language ++ (h.ordered ∷ B.many ∷ (replicate 6 0 ++ r)))))
  unfolding front_octets
  as_front r =
      append_assoc h.head _ r
      ∙ ap (λ (x : List ℕ). h.head ++ x) (append_assoc (octets_of 2 remedy_code) _ r
      ∙ ap (λ (x : List ℕ). octets_of 2 remedy_code ++ x) (append_assoc h.carried _ r
      ∙ ap (λ (x : List ℕ). h.carried ++ x) (append_assoc (octets_of 2 h.language) _ r)))

  pub length_front : length (front_octets h) ≡ 30
  unfolding front_octets
  length_front =
      length-append h.head _
      ∙ omega (
        arith,
        length-append (octets_of 2 remedy_code) (h.carried ++ (octets_of 2 h.language ++ (h.ordered ∷ B.many ∷ replicate 6 0))),
        length-append h.carried (octets_of 2 h.language ++ (h.ordered ∷ B.many ∷ replicate 6 0)),
        length-append (octets_of 2 h.language) (h.ordered ∷ B.many ∷ replicate 6 0),
        length-octets_of 2 remedy_code,
        length-octets_of 2 h.language,
      )

  pub length_telegram : length W ≡ size_to B B.many
  unfolding telegram_of
  length_telegram = length-append (front_octets h) _ ∙ omega (arith, length_front, length_blocks B B.many)

  -- what stands from octet 7, 9, 21 and 23 on
  after_head : (r : List ℕ) (k n : ℕ) → number (front_octets h ++ r) (6 + k) n
      ≡ number (octets_of 2 remedy_code ++ (h.carried ++ (octets_of 2 h.language ++ (h.ordered ∷ B.many ∷ (replicate 6 0 ++ r))))) k n
  after_head r k n = ap (λ (l : List ℕ). number l (6 + k) n) (as_front r) ∙ number_in h.head _ (6 + k) k n (omega arith)

  after_carried : (r : List ℕ) (k n : ℕ) → number (front_octets h ++ r) (20 + k) n ≡ number (octets_of 2 h.language ++ (h.ordered ∷ B.many ∷ (replicate 6 0 ++ r))) k n
  after_carried r k n =
      let e : 20 + k ≡ 6 + (14 + k) = omega arith in
      ap (λ (j : ℕ). number (front_octets h ++ r) j n) e
      ∙ after_head r (14 + k) n
      ∙ number_in (octets_of 2 remedy_code) _ (14 + k) (12 + k) n (omega (arith, length-octets_of 2 remedy_code))
      ∙ number_in h.carried _ (12 + k) k n (omega arith)

  pub code_written : e_code W ≡ remedy_code
  unfolding telegram_of
  code_written = after_head (blocks_to B B.many) 0 2 ∙ number-octets_of_front 2 remedy_code _

  pub language_written : h.language < 65536 → language W ≡ h.language
  unfolding telegram_of
  language_written lt =
      let m : h.language % 256 ^ 2 ≡ h.language = mod-eq_of_lt lt in
      after_carried (blocks_to B B.many) 0 2 ∙ number-octets_of_front 2 h.language _ ∙ m

  one : (l : List ℕ) (k : ℕ) → number l k 1 ≡ get_or l k 0
  unfolding number
  one l k = let z : k + 0 ≡ k = omega arith in omega (arith, ap (λ (j : ℕ). get_or l j 0) z)

  after_language : (r : List ℕ) (k : ℕ) → get_or (front_octets h ++ r) (22 + k) 0 ≡ get_or (h.ordered ∷ B.many ∷ (replicate 6 0 ++ r)) k 0
  after_language r k =
      let e : 22 + k ≡ 20 + (2 + k) = omega arith in
      sym (one (front_octets h ++ r) (22 + k))
      ∙ ap (λ (j : ℕ). number (front_octets h ++ r) j 1) e
      ∙ after_carried r (2 + k) 1
      ∙ number_in (octets_of 2 h.language) _ (2 + k) k 1 (omega (arith, length-octets_of 2 h.language))
      ∙ one _ k

  pub ordered_written : ordered W ≡ h.ordered
  unfolding telegram_of
  ordered_written = after_language (blocks_to B B.many) 0

  pub count_written : block_count W ≡ B.many
  unfolding telegram_of
  count_written = after_language (blocks_to B B.many) 1

  module _ (k : ℕ) (lt : k < B.many) where
    -- block k in the telegram
    behind : (q : List ℕ) × (W ≡ (front_octets h ++ blocks_to B k) ++ (block_octets (B.key k) (B.text k) ++ q))
    unfolding telegram_of
    behind =
        let w = blocks_at B B.many k lt in
        (w.0, ap (λ (x : List ℕ). front_octets h ++ x) w.1 ∙ sym (append_assoc (front_octets h) (blocks_to B k) _))

    before : length (front_octets h ++ blocks_to B k) ≡ size_to B k
    before = length-append (front_octets h) _ ∙ omega (arith, length_front, length_blocks B k)

  -- the texts' lengths are in their range
  module _ (short : (k : ℕ) → k < B.many → length (B.text k) ≤ 254) where
    pub start_written : (k : ℕ) → k ≤ B.many → start W k ≡ size_to B k
    unfolding start size_to
    start_written zero le = refl
    start_written (suc k) le =
        let w = behind k (omega arith) in
        let e : start W k ≡ size_to B k = start_written k (omega arith) in
        let l : length_at W (size_to B k) ≡ 6 + length (B.text k) =
        ap (λ (t : List ℕ). length_at t (size_to B k)) w.1 ∙ length_written (front_octets h ++ blocks_to B k) (B.key k) (B.text k) w.0 (size_to B k) (before k (omega arith)) (short k (omega arith)) in
        ap₂ (λ (i j : ℕ). i + j) e (ap (length_at W) e ∙ l)

    module _ (k : ℕ) (lt : k < B.many) where
      at_start : {A : Type 0} (f : List ℕ → ℕ → A) → f W (start W k) ≡ f ((front_octets h ++ blocks_to B k) ++ (block_octets (B.key k) (B.text k) ++ (behind k lt).0)) (size_to B k)
      at_start f = ap₂ f (behind k lt).1 (start_written k (omega arith))

      pub lengths_agree : length_at W (start W k) ≡ 6 + length (B.text k)
      lengths_agree = at_start length_at ∙ length_written (front_octets h ++ blocks_to B k) (B.key k) (B.text k) (behind k lt).0 (size_to B k) (before k lt) (short k lt)

      pub key_back : key_of W k ≡ B.key k
      key_back = at_start key_at ∙ key_written (front_octets h ++ blocks_to B k) (B.key k) (B.text k) (behind k lt).0 (size_to B k) (before k lt) (short k lt)

      pub reserve_written : get_or W (start W k + 3) 0 ≡ 0
      reserve_written = at_start (λ (t : List ℕ) (at : ℕ). get_or t (at + 3) 0) ∙ fourth_written (front_octets h ++ blocks_to B k) (B.key k) (B.text k) (behind k lt).0 (size_to B k) (before k lt) (short k lt)

      pub text_length_back : text_length_at W (start W k) ≡ length (B.text k)
      text_length_back = at_start text_length_at ∙ text_length_written (front_octets h ++ blocks_to B k) (B.key k) (B.text k) (behind k lt).0 (size_to B k) (before k lt) (short k lt)

      pub text_back : text_of W k ≡ B.text k
      text_back = at_start text_at ∙ text_written (front_octets h ++ blocks_to B k) (B.key k) (B.text k) (behind k lt).0 (size_to B k) (before k lt) (short k lt)

-- ---- written exactly if every rule holds, and then read back

pub handed_rules : (b : Blocks) (k : ℕ) → handed_fault b k ≡ 0 → HandedRules b k
unfolding handed_fault
handed_rules b k e =
    let w = no_first 28 _ _ e in
    let f = field_rules (b.key k) (length (b.text k)) (not-false _ w.0) in
    record { key_least = f.0; key_most = f.1; even = f.2; short = f.3; once = once_of b.key k w.1 }

rules_handed : (b : Blocks) (k : ℕ) → HandedRules b k → handed_fault b k ≡ 0
unfolding handed_fault
rules_handed b k r =
    simp (rules_field (b.key k) (length (b.text k)) r.key_least r.key_most r.even r.short, of_once b.key k r.once)

pub rules_written : (h : Handed) (out : List ℕ) (w : WrittenRemedies) → remedy_writing h out ≡ gives w → WritingRules h out × (written_of h out ≡ w)
unfolding remedy_writing
rules_written h out w e =
    let n = h.blocks.many in
    let z = not_refused _ 29 0 _ w e in
    let p = not_refused _ 25 0 _ w z.1 in
    let q = not_refused _ 29 0 _ w p.1 in
    let f = by_none (first_fault (handed_fault h.blocks) n) _ w q.1 in
    let a = both (leb h.ordered 1 && leb 1 n) (leb n 8) (not-false _ q.0) in
    let b = both (leb h.ordered 1) (leb 1 n) a.0 in (
      record {
        agree = not-false _ z.0;
        room = ltb-false _ _ p.0;
        status = leb-true _ _ b.0;
        one = leb-true _ _ b.1;
        few = leb-true _ _ a.1;
        blocks = λ k lt. handed_rules h.blocks k (fault_none (handed_fault h.blocks) n f.0 k lt);
      },
      gives_one _ _ w refl f.1,
    )

pub written_by : (h : Handed) (out : List ℕ) → WritingRules h out → remedy_writing h out ≡ gives (written_of h out)
unfolding remedy_writing refuse_if
written_by h out r =
    let n = h.blocks.many in
    simp (
      r.agree,
      le-ltb (length out) (size_to h.blocks n) r.room,
      le-leb h.ordered 1 r.status,
      le-leb 1 n r.one,
      le-leb n 8 r.few,
      sym (no_fault (handed_fault h.blocks) n (λ k lt. rules_handed h.blocks k (r.blocks k lt))),
    )

-- and written exactly if every rule holds
pub written_exactly : (h : Handed) (out : List ℕ) → (remedy_writing h out ≡ gives (written_of h out)) ↔ WritingRules h out
written_exactly h out = (λ e. (rules_written h out (written_of h out) e).0, written_by h out)

pub size_most : (b : Blocks) (n : ℕ) → ((k : ℕ) → k < n → length (b.text k) ≤ 254) → size_to b n ≤ 30 + 260 * n
unfolding size_to
size_most b zero short = omega arith
size_most b (suc n) short = omega (arith, size_most b n (λ k lt. short k (omega arith)), short n (omega arith))

pub size_next : (b : Blocks) (k : ℕ) → size_to b (k + 1) ≡ size_to b k + (6 + length (b.text k))
unfolding size_to
size_next b k = ap (size_to b) (add-one k)

pub size_least : (b : Blocks) (n : ℕ) → 30 ≤ size_to b n
unfolding size_to
size_least b zero = omega arith
size_least b (suc n) = omega (arith, size_least b n)

pub size_rises : (b : Blocks) (n k : ℕ) → k < n → size_to b k + (6 + length (b.text k)) ≤ size_to b n
unfolding size_to
size_rises b zero k h = absurd (lt_irrefl 0 (omega arith))
size_rises b (suc n) k h = elim (dec_lt k n) [
  | yes l ↦ omega (arith, size_rises b n k l)
  | no l ↦ let e : k ≡ n = omega arith in omega (arith, ap (size_to b) e, ap (λ (i : ℕ). length (b.text i)) e)
]

five : (a b c d r : List ℕ) (x y : ℕ) → (a ++ (b ++ (c ++ (d ++ (x ∷ y ∷ []))))) ++ r ≡ a ++ (b ++ (c ++ (d ++ (x ∷ y ∷ r))))
five a b c d r x y =
    append_assoc a _ r
    ∙ ap (λ (l : List ℕ). a ++ l) (append_assoc b _ r
    ∙ ap (λ (l : List ℕ). b ++ l) (append_assoc c _ r
    ∙ ap (λ (l : List ℕ). c ++ l) (append_assoc d (x ∷ y ∷ []) r)))

front_length : (a b c d : List ℕ) (x y : ℕ) → length a ≡ 6 → length b ≡ 2 → length c ≡ 12 → length d ≡ 2 → length (a ++ (b ++ (c ++ (d ++ (x ∷ y ∷ []))))) ≡ 24
front_length a b c d x y p q r s =
    length-append a _ ∙ omega (arith, length-append b (c ++ (d ++ (x ∷ y ∷ []))), length-append c (d ++ (x ∷ y ∷ [])), length-append d (x ∷ y ∷ []))

third_part : (a b c d : List ℕ) → length a ≡ 6 → length b ≡ 2 → length c ≡ 12 → take 12 (drop 8 (a ++ (b ++ (c ++ d)))) ≡ c
third_part a b c d x y z =
    ap (take 12) (sym (drop-drop 2 6 (a ++ (b ++ (c ++ d)))) ∙ ap (drop 2) (drop_at a (b ++ (c ++ d)) 6 x) ∙ drop_at b (c ++ d) 2 y) ∙ take_at c d 12 z

module _ (h : Handed) (shaped : Shaped h) (out : List ℕ) (rules : WritingRules h out) where
  abbrev N : ℕ
  N = h.blocks.many

  short_texts : (k : ℕ) → k < N → length (h.blocks.text k) ≤ 254
  short_texts k lt = (rules.blocks k lt).short

  -- the telegram as written keeps every rule
  block_keeps : (k : ℕ) → k < N → BlockRules (telegram_of h) k
  block_keeps k lt =
      let W = telegram_of h in
      let r = rules.blocks k lt in
      let s = start_written h shaped.six shaped.twelve short_texts k (omega arith) in
      let l = lengths_agree h shaped.six shaped.twelve short_texts k lt in
      let x = text_length_back h shaped.six shaped.twelve short_texts k lt in
      let w = length_telegram h shaped.six shaped.twelve in
      let u = size_rises h.blocks N k lt in
      let key : (j : ℕ) → j < N → key_of W j ≡ h.blocks.key j = key_back h shaped.six shaped.twelve short_texts in
      record {
        begins = omega (arith, s, w, u);
        within = omega (arith, s, w, u, l);
        key_least = omega (arith, key k lt, r.key_least);
        key_most = omega (arith, key k lt, r.key_most);
        even = ap (λ (n : ℕ). n % 2) x ∙ r.even;
        short = omega (arith, x, r.short);
        agrees = omega (arith, l, x);
        once = λ j lj e. r.once j lj (sym (key j (omega arith)) ∙ e ∙ key k lt);
      }

  pub telegram_keeps : RemedyRules (telegram_of h)
  telegram_keeps =
      let c = count_written h shaped.six shaped.twelve in
      let w = length_telegram h shaped.six shaped.twelve in
      record {
        long = omega (arith, w, size_least h.blocks N);
        limit = omega (arith, w, size_most h.blocks N short_texts, rules.few);
        code = code_written h shaped.six shaped.twelve;
        status = omega (arith, ordered_written h shaped.six shaped.twelve, rules.status);
        one = omega (arith, c, rules.one);
        few = omega (arith, c, rules.few);
        blocks = λ k lt. block_keeps k (omega (arith, c));
        ends = ap (start (telegram_of h)) c ∙ start_written h shaped.six shaped.twelve short_texts N (omega arith) ∙ sym w;
      }

  head_back : take 6 (telegram_of h) ≡ h.head
  unfolding telegram_of
  head_back = ap (take 6) (as_front h shaped.six shaped.twelve _) ∙ take_at h.head _ 6 shaped.six

  carried_back : take 12 (drop 8 (telegram_of h)) ≡ h.carried
  unfolding telegram_of
  carried_back =
      ap (λ (l : List ℕ). take 12 (drop 8 l)) (as_front h shaped.six shaped.twelve _)
      ∙ third_part h.head (octets_of 2 remedy_code) h.carried _ shaped.six (length-octets_of 2 remedy_code) shaped.twelve

  reserve_back : take 6 (drop 24 (telegram_of h)) ≡ replicate 6 0
  unfolding telegram_of
  reserve_back =
      let f = h.head ++ (octets_of 2 remedy_code ++ (h.carried ++ (octets_of 2 h.language ++ (h.ordered ∷ N ∷ [])))) in
      let e = five h.head (octets_of 2 remedy_code) h.carried (octets_of 2 h.language) (replicate 6 0 ++ blocks_to h.blocks N) h.ordered N in
      let l : length f ≡ 24 = front_length h.head (octets_of 2 remedy_code) h.carried (octets_of 2 h.language) h.ordered N shaped.six (length-octets_of 2 remedy_code) shaped.twelve (length-octets_of 2 h.language) in
      ap (λ (x : List ℕ). take 6 (drop 24 x)) (as_front h shaped.six shaped.twelve _ ∙ sym e)
      ∙ ap (take 6) (drop_at f (replicate 6 0 ++ blocks_to h.blocks N) 24 l)
      ∙ take_at (replicate 6 0) (blocks_to h.blocks N) 6 refl

  -- all that was handed in comes back
  pub telegram_back : ReadsBack h (telegram_of h)
  telegram_back =
      record {
        read = read_by (telegram_of h) telegram_keeps ∙ ap gives (rw (
          language_written h shaped.six shaped.twelve shaped.language,
          ordered_written h shaped.six shaped.twelve,
          count_written h shaped.six shaped.twelve,
        ) refl);
        keys = key_back h shaped.six shaped.twelve short_texts;
        texts = text_back h shaped.six shaped.twelve short_texts;
        head = head_back;
        carried = carried_back;
        reserve = reserve_back;
        reserves = λ k lt. reserve_written h shaped.six shaped.twelve short_texts k lt;
      }

-- reading what was written gives all back, and the output past the telegram stays
pub read_after_write : (h : Handed) → Shaped h → (out : List ℕ) (w : WrittenRemedies) → remedy_writing h out ≡ gives w
    → ReadsBack h (take w.size w.octets) × (drop w.size w.octets ≡ drop w.size out)
read_after_write h shaped out w e =
    let p = rules_written h out w e in
    let S = size_to h.blocks h.blocks.many in
    let l : length (telegram_of h) ≡ S = length_telegram h shaped.six shaped.twelve in
    let z : 0 + length (telegram_of h) ≡ S = omega (arith, l) in
    let room : 0 + length (telegram_of h) ≤ length out = omega (arith, l, p.0.room) in
    let t : take S (over out 0 (telegram_of h)) ≡ telegram_of h =
    ap (λ (n : ℕ). take n (over out 0 (telegram_of h))) (sym l) ∙ part_over out 0 (telegram_of h) room in
    let back : ReadsBack h (take S (over out 0 (telegram_of h))) = rw t (telegram_back h shaped out p.0) in
    let stays : drop S (over out 0 (telegram_of h)) ≡ drop S out =
    ap (λ (n : ℕ). drop n (over out 0 (telegram_of h))) (sym z) ∙ drop-over out 0 (telegram_of h) room ∙ ap (λ (n : ℕ). drop n out) z in
    rw (sym p.1) (back, stays)

-- ---- what was read is written again, its reserve put to 0

-- a block of a telegram that was read: its octets, but for the reserve
module _ (t : List ℕ) (o : Octets t) (k : ℕ) (r : BlockRules t k) where
  abbrev S : ℕ
  S = start t k

  parts_of : drop S t ≡ octets_of 2 (length_at t S) ++ (key_at t S ∷ get_or t (S + 3) 0 ∷ (octets_of 2 (text_length_at t S) ++ (text_at t S ++ drop (S + length_at t S) t)))
  parts_of =
      let a : drop S t ≡ take 2 (drop S t) ++ drop 2 (drop S t) = sym (take-append-drop 2 (drop S t)) in
      let b : drop 2 (drop S t) ≡ drop (S + 2) t = drop-drop 2 S t in
      let c : drop (S + 2) t ≡ get_or t (S + 2) 0 ∷ drop (suc (S + 2)) t = drop-cons t (S + 2) 0 (omega (arith, r.begins)) in
      let n : suc (S + 2) ≡ S + 3 = omega arith in
      let d : drop (S + 3) t ≡ get_or t (S + 3) 0 ∷ drop (suc (S + 3)) t = drop-cons t (S + 3) 0 (omega (arith, r.begins)) in
      let m : suc (S + 3) ≡ S + 4 = omega arith in
      let e : drop (S + 4) t ≡ take 2 (drop (S + 4) t) ++ drop 2 (drop (S + 4) t) = sym (take-append-drop 2 (drop (S + 4) t)) in
      let i : S + 4 + 2 ≡ S + 6 = omega arith in
      let f : drop 2 (drop (S + 4) t) ≡ drop (S + 6) t = drop-drop 2 (S + 4) t ∙ ap (λ (j : ℕ). drop j t) i in
      let g : drop (S + 6) t ≡ text_at t S ++ drop (text_length_at t S) (drop (S + 6) t) = sym (take-append-drop (text_length_at t S) (drop (S + 6) t)) in
      let j : S + 6 + text_length_at t S ≡ S + length_at t S = omega (arith, r.agrees) in
      let q : drop (text_length_at t S) (drop (S + 6) t) ≡ drop (S + length_at t S) t = drop-drop (text_length_at t S) (S + 6) t ∙ ap (λ (j : ℕ). drop j t) j in
      a
      ∙ ap₂ (λ (x y : List ℕ). x ++ y) (sym (octets_of-number t S 2 o (omega (arith, r.begins))))
      (b ∙ c ∙ ap (λ (x : List ℕ). get_or t (S + 2) 0 ∷ x) (ap (λ (j : ℕ). drop j t) n ∙ d ∙ ap (λ (x : List ℕ). get_or t (S + 3) 0 ∷ x) (ap (λ (j : ℕ). drop j t) m
      ∙ e ∙ ap₂ (λ (x y : List ℕ). x ++ y) (sym (octets_of-number t (S + 4) 2 o (omega (arith, r.begins)))) (f ∙ g ∙ ap (λ (x : List ℕ). text_at t S ++ x) q))))

reserve_at : (x a z : List ℕ) (key r n : ℕ) → length x + (length a + 1) ≡ n → set (x ++ (a ++ (key ∷ r ∷ z))) n 0 ≡ x ++ (a ++ (key ∷ 0 ∷ z))
reserve_at x a z key r n e =
    ap (λ (l : List ℕ). set l n 0) (sym (seam r))
    ∙ set_at (x ++ (a ++ (key ∷ []))) r z 0 n (length-append x _ ∙ omega (arith, length-append a (key ∷ [])))
    ∙ seam 0
  where
    seam : (r : ℕ) → (x ++ (a ++ (key ∷ []))) ++ (r ∷ z) ≡ x ++ (a ++ (key ∷ r ∷ z))
    seam r = append_assoc x (a ++ (key ∷ [])) (r ∷ z) ∙ ap (λ (l : List ℕ). x ++ l) (append_assoc a (key ∷ []) (r ∷ z))

-- octets 1 to 24 of a telegram, one part after the other
front_parts : (t : List ℕ) → 30 ≤ length t → take 24 t ≡ take 6 t ++ (take 2 (drop 6 t) ++ (take 12 (drop 8 t) ++ (take 2 (drop 20 t) ++ (get_or t 22 0 ∷ get_or t 23 0 ∷ []))))
front_parts t h =
    let two : take 2 (drop 22 t) ≡ get_or t 22 0 ∷ get_or t 23 0 ∷ [] =
    ap (take 2) (drop-cons t 22 0 (omega arith) ∙ ap (λ (x : List ℕ). get_or t 22 0 ∷ x) (drop-cons t 23 0 (omega arith))) in
    take-add 6 18 t
    ∙ ap (λ (x : List ℕ). take 6 t ++ x) (p 6 2 16
    ∙ ap (λ (x : List ℕ). take 2 (drop 6 t) ++ x) (p 8 12 4
    ∙ ap (λ (x : List ℕ). take 12 (drop 8 t) ++ x) (p 20 2 2
    ∙ ap (λ (x : List ℕ). take 2 (drop 20 t) ++ x) two)))
  where
    p : (a b m : ℕ) → take (b + m) (drop a t) ≡ take b (drop a t) ++ take m (drop (a + b) t)
    p a b m = take-add b m (drop a t) ∙ ap (λ (x : List ℕ). take b (drop a t) ++ take m x) (drop-drop b a t)

module _ (t : List ℕ) (o : Octets t) (rules : RemedyRules t) where
  abbrev H : Handed
  H = handed_by t

  pub shaped_by : Shaped H
  shaped_by =
      record {
        six = length-take-le 6 t (omega (arith, rules.long));
        twelve = length-take-le 12 (drop 8 t) (rw length-drop (omega (arith, rules.long)));
        language = number_lt t 20 2 o;
      }

  -- the blocks handed on stand where they stood
  size_start : (k : ℕ) → k ≤ block_count t → size_to (blocks_in t) k ≡ start t k
  unfolding size_to start
  size_start zero h = refl
  size_start (suc k) h =
      let l : length (text_of t k) ≡ text_length_at t (start t k) = text_length t rules k (omega arith) in
      omega (arith, size_start k (omega arith), l, (rules.blocks k (omega arith)).agrees)

  abbrev Before : ℕ → List ℕ
  Before k = front_octets H ++ blocks_to (blocks_in t) k

  length_before : (k : ℕ) → k ≤ block_count t → length (Before k) ≡ start t k
  length_before k h =
      length-append (front_octets H) _ ∙ omega (arith, length_front H shaped_by.six shaped_by.twelve, length_blocks (blocks_in t) k, size_start k h)

  block_again : (k : ℕ) → k < block_count t → set (Before k ++ drop (start t k) t) (start t k + 3) 0 ≡ Before (suc k) ++ drop (start t (suc k)) t
  unfolding blocks_to start
  block_again k h =
      let r = rules.blocks k h in
      let s = start t k in
      let l : length (text_of t k) ≡ text_length_at t s = text_length t rules k h in
      let q = drop (s + length_at t s) t in
      let e : length_at t s ≡ 6 + length (text_of t k) = omega (arith, r.agrees, l) in
      ap (λ (x : List ℕ). set (Before k ++ x) (s + 3) 0) (parts_of t o k r)
      ∙ reserve_at (Before k) (octets_of 2 (length_at t s)) _ (key_at t s) _ (s + 3) (omega (arith, length_before k (omega arith), length-octets_of 2 (length_at t s)))
      ∙ ap₂ (λ (m n : ℕ). Before k ++ (octets_of 2 m ++ (key_at t s ∷ 0 ∷ (octets_of 2 n ++ (text_at t s ++ q))))) e (sym l)
      ∙ sym (as_parts (Before k) (key_of t k) (text_of t k) q s (length_before k (omega arith)) (omega (arith, l, r.short)))
      ∙ sym (append_assoc (Before k) (block_octets (key_of t k) (text_of t k)) q)
      ∙ ap (λ (x : List ℕ). x ++ q) (append_assoc (front_octets H) (blocks_to (blocks_in t) k) _)

  front_again : over t 24 (replicate 6 0) ≡ Before 0 ++ drop 30 t
  unfolding over blocks_to
  front_again =
      let r = replicate 6 0 ++ drop 30 t in
      ap (λ (x : List ℕ). x ++ r) (front_parts t rules.long)
      ∙ five (take 6 t) (take 2 (drop 6 t)) (take 12 (drop 8 t)) (take 2 (drop 20 t)) r (ordered t) (block_count t)
      ∙ ap₂ (λ (x y : List ℕ). take 6 t ++ (x ++ (take 12 (drop 8 t) ++ (y ++ (ordered t ∷ block_count t ∷ r)))))
      (sym (octets_of-number t 6 2 o (omega (arith, rules.long))) ∙ ap (octets_of 2) rules.code)
      (sym (octets_of-number t 20 2 o (omega (arith, rules.long))))
      ∙ sym (as_front H shaped_by.six shaped_by.twelve (drop 30 t))
      ∙ ap (λ (x : List ℕ). x ++ drop 30 t) (sym (append-nil (front_octets H)))

  reserve_is : (k : ℕ) → k ≤ block_count t → reserve_to t k ≡ Before k ++ drop (start t k) t
  unfolding reserve_to start
  reserve_is zero h = front_again
  reserve_is (suc k) h = ap (λ (x : List ℕ). set x (start t k + 3) 0) (reserve_is k (omega arith)) ∙ block_again k (omega arith)

  -- what was read, written again, is the telegram with its reserve put to 0
  pub write_after_read : telegram_of H ≡ reserve_to t (block_count t)
  unfolding telegram_of
  write_after_read =
      sym (reserve_is (block_count t) (omega arith)
      ∙ ap (λ (x : List ℕ). Before (block_count t) ++ x) (ap (λ (n : ℕ). drop n t) rules.ends ∙ drop-length t)
      ∙ append-nil (Before (block_count t)))

  -- and the writer does not refuse it, given the room
  pub handed_keeps : (out : List ℕ) → length t ≤ length out → WritingRules H out
  handed_keeps out room =
      record {
        room = omega (arith, size_start (block_count t) (omega arith), rules.ends);
        status = rules.status;
        one = rules.one;
        few = rules.few;
        agree = refl;
        blocks = λ k h.
            let r = rules.blocks k h in
            let l : length (text_of t k) ≡ text_length_at t (start t k) = text_length t rules k h in
            record {
              key_least = r.key_least;
              key_most = r.key_most;
              even = ap (λ (n : ℕ). n % 2) l ∙ r.even;
              short = omega (arith, l, r.short);
              once = r.once;
            };
      }

  pub written_again : (out : List ℕ) → length t ≤ length out
      → remedy_writing H out ≡ gives (record { octets = over out 0 (reserve_to t (block_count t)); size = length t })
  written_again out room =
      written_by H out (handed_keeps out room)
      ∙ ap₂ (λ (x : List ℕ) (n : ℕ). gives (record { octets = over out 0 x; size = n })) write_after_read (size_start (block_count t) (omega arith) ∙ rules.ends)

-- ---- what is answered of a block

module _ (t : List ℕ) (r : RemedyRules t) (k : ℕ) where
  pub block_found : k < block_count t → remedy_block t k ≡ gives (found (remedy_of t k))
  unfolding remedy_block
  block_found h = ap (λ (a : Answer Remedies). and_then a (λ m. gives (cond (ltb k m.count) (found (remedy_of t k)) nothing))) (read_by t r)
      ∙ ap (λ (b : Bool). gives (cond b (found (remedy_of t k)) nothing)) (lt-ltb k (block_count t) h)

  pub no_block : block_count t ≤ k → remedy_block t k ≡ gives nothing
  unfolding remedy_block
  no_block h = ap (λ (a : Answer Remedies). and_then a (λ m. gives (cond (ltb k m.count) (found (remedy_of t k)) nothing))) (read_by t r)
      ∙ ap (λ (b : Bool). gives (cond b (found (remedy_of t k)) nothing)) (le-ltb k (block_count t) h)

  pub text_found : k < block_count t → remedy_text t k ≡ text_of t k
  unfolding remedy_text
  text_found h = ap (text_in t) (block_found h)

found_here : (c : Bool) (a b : Remedy) → gives (cond c (found a) nothing) ≡ gives (found b) → (c ≡ true) × (a ≡ b)
found_here true a b e = (refl, cc)
found_here false a b e = let z : ◌≡◌ {A = ℕ} 0 1 = cc in absurd (omega arith)

-- a block is found exactly in a telegram that keeps the rules, before its last
pub block_exactly : (t : List ℕ) (k : ℕ) (b : Remedy) → (remedy_block t k ≡ gives (found b)) ↔ (RemedyRules t × (k < block_count t) × (remedy_of t k ≡ b))
unfolding remedy_block
block_exactly t k b = (there, λ w. block_found t w.0 k w.1 ∙ ap (λ (x : Remedy). gives (found x)) w.2)
  where
    there : remedy_block t k ≡ gives (found b) → RemedyRules t × (k < block_count t) × (remedy_of t k ≡ b)
    there e =
        let w = and_then_lem (remedy_reading t) (λ m. gives (cond (ltb k m.count) (found (remedy_of t k)) nothing)) (found b) e in
        let r = rules_of t w.0 w.1.0 in
        let f = found_here (ltb k w.0.count) (remedy_of t k) b w.1.1 in
        let lt : k < w.0.count = ltb-true k w.0.count f.0 in
        (r.0, omega (arith, ap (λ (x : Remedies). x.count) r.1), f.1)

-- a text lies in the telegram at the place that is given, and is as long as is given
pub text_stands : (t : List ℕ) (k : ℕ) (b : Remedy) → remedy_block t k ≡ gives (found b)
    → (b.at + b.size ≤ length t) × (remedy_text t k ≡ take b.size (drop b.at t)) × (length (remedy_text t k) ≡ b.size)
unfolding remedy_text
text_stands t k b e =
    let w = (block_exactly t k b).0 e in
    let x : text_of t k ≡ take b.size (drop b.at t) = ap (λ (y : Remedy). take y.size (drop y.at t)) w.2 in
    let n : length (text_of t k) ≡ b.size = text_length t w.0 k w.1 ∙ ap (λ (y : Remedy). y.size) w.2 in (
      omega (arith, text_within t w.0 k w.1, ap (λ (y : Remedy). y.at) w.2, ap (λ (y : Remedy). y.size) w.2),
      text_found t w.0 k w.1 ∙ x,
      ap length (text_found t w.0 k w.1) ∙ n,
    )

-- ---- the same blocks, handed in otherwise

pub area_rises : (lengths : List ℕ) (n k : ℕ) → k < n → area_to lengths k + get_or lengths k 0 ≤ area_to lengths n
unfolding area_to
area_rises lengths zero k h = absurd (omega arith)
area_rises lengths (suc n) k h = elim (dec_lt k n) [
  | yes l ↦ omega (arith, area_rises lengths n k l)
  | no l ↦ let e : k ≡ n = omega arith in omega (arith, ap (area_to lengths) e, ap (λ (i : ℕ). get_or lengths i 0) e)
]

module _ (a b : Blocks) where
  pub sizes_alike : (n : ℕ) → ((k : ℕ) → k < n → a.text k ≡ b.text k) → size_to a n ≡ size_to b n
  unfolding size_to
  sizes_alike zero same = refl
  sizes_alike (suc n) same = ap₂ (λ (x : ℕ) (y : List ℕ). x + (6 + length y)) (sizes_alike n (λ k h. same k (omega arith))) (same n (omega arith))

  blocks_alike : (n : ℕ) → ((k : ℕ) → k < n → (a.key k ≡ b.key k) × (a.text k ≡ b.text k)) → blocks_to a n ≡ blocks_to b n
  unfolding blocks_to
  blocks_alike zero same = refl
  blocks_alike (suc n) same =
      ap₂ (λ (x y : List ℕ). x ++ y) (blocks_alike n (λ k h. same k (omega arith)))
      (ap₂ (λ (x : ℕ) (y : List ℕ). block_octets x y) (same n (omega arith)).0 (same n (omega arith)).1)

  twice_alike : (k : ℕ) → ((j : ℕ) → j ≤ k → a.key j ≡ b.key j) → twice a.key k ≡ twice b.key k
  unfolding twice some
  twice_alike k same =
      ap not (all_same (λ j. not (eqb (a.key j) (a.key k))) (λ j. not (eqb (b.key j) (b.key k))) k (λ j h.
      ap₂ (λ (x y : ℕ). not (eqb x y)) (same j (omega arith)) (same k (omega arith))))

  faults_alike : (k : ℕ) → ((j : ℕ) → j ≤ k → (a.key j ≡ b.key j) × (a.text j ≡ b.text j)) → handed_fault a k ≡ handed_fault b k
  unfolding handed_fault
  faults_alike k same =
      let key = (same k (omega arith)).0 in
      let text = (same k (omega arith)).1 in
      let rule : field_rule (a.key k) (length (a.text k)) ≡ field_rule (b.key k) (length (b.text k)) = ap₂ (λ (x : ℕ) (y : List ℕ). field_rule x (length y)) key text in
      ap₂ (λ (x y : Bool). first_of 29 (not x ∷ y ∷ []) 0) rule (twice_alike k (λ j h. (same j h).0))

fault_same : (f g : ℕ → ℕ) (n : ℕ) → ((k : ℕ) → k < n → f k ≡ g k) → first_fault f n ≡ first_fault g n
unfolding first_fault
fault_same f g n same =
    let e : first_bad (sound f) n ≡ first_bad (sound g) n = first_same (sound f) (sound g) n (λ k h before. ap (λ (x : ℕ). eqb x 0) (same k h)) in
    elim (dec_lt (first_bad (sound g) n) n) [
      | yes l ↦ rw (e, lt-ltb (first_bad (sound g) n) n l) (same (first_bad (sound g) n) l)
      | no l ↦ rw (e, le-ltb (first_bad (sound g) n) n (omega arith)) refl
    ]

-- the same number of blocks, with the same keys and texts, is written alike
pub writes_alike : (h : Handed) (b : Blocks) (out : List ℕ) → h.blocks.many ≡ b.many → h.blocks.agree ≡ b.agree
    → ((k : ℕ) → k < b.many → (h.blocks.key k ≡ b.key k) × (h.blocks.text k ≡ b.text k))
    → remedy_writing h out ≡ remedy_writing (with_blocks h b) out
unfolding remedy_writing telegram_of front_octets
writes_alike h b out many agree same =
    let size : size_to h.blocks h.blocks.many ≡ size_to b b.many =
    ap (size_to h.blocks) many ∙ sizes_alike h.blocks b b.many (λ k lt. (same k lt).1) in
    let octets : blocks_to h.blocks h.blocks.many ≡ blocks_to b b.many = ap (blocks_to h.blocks) many ∙ blocks_alike h.blocks b b.many same in
    let fault : first_fault (handed_fault h.blocks) h.blocks.many ≡ first_fault (handed_fault b) b.many =
    ap (first_fault (handed_fault h.blocks)) many
    ∙ fault_same (handed_fault h.blocks) (handed_fault b) b.many (λ k lt. faults_alike h.blocks b k (λ j le. same j (omega arith))) in
    rw (size, octets, fault, many, agree) refl

-- where the lengths add up to the area, each text is as long as its length says
module _ (keys lengths area : List ℕ) (adds-up : area_to lengths (length lengths) ≡ length area) where
  pub area_length : (k : ℕ) → k < length lengths → length ((area_blocks keys lengths area).text k) ≡ get_or lengths k 0
  area_length k h = length-take-le _ _ (rw length-drop (omega (arith, adds-up, area_rises lengths (length lengths) k h)))

  pub area_size : (n : ℕ) → n ≤ length lengths → size_to (area_blocks keys lengths area) n ≡ 30 + 6 * n + area_to lengths n
  unfolding size_to area_to
  area_size zero h = refl
  area_size (suc n) h = omega (arith, area_size n (omega arith), area_length n h)

-- ---- the limit behind 21

-- "For this code only"
pub limit_other : (code : ℕ) → (code ≡ remedy_code → ⊥) → e_limit code ≡ 1024
unfolding e_limit
limit_other code h = rw (ne_eqb code remedy_code h) refl

remedy_report : is_report remedy_code ≡ true
unfolding is_report requests some all first_bad first_from
remedy_report = refl

-- a report 8A08 is read by the reader of E-telegrams up to 2,110 octets
pub long_report : (t : List ℕ) → e_code t ≡ remedy_code → 9 ≤ length t → length t ≤ 2110
    → e_reading t ≡ gives (record { code = remedy_code; report = true; status = octet t 9 })
unfolding e_reading refuse_if
long_report t c low high =
    let limit : ltb (e_limit (e_code t)) (length t) ≡ false = le-ltb (e_limit (e_code t)) (length t) (omega (arith, limit_remedy (e_code t) c)) in
    let report : is_report (e_code t) ≡ true = ap is_report c ∙ remedy_report in
    let read : e_reading t ≡ gives (record { code = e_code t; report = true; status = octet t 9 }) =
    simp (le-ltb (length t) 9 low, limit, report, or-true (is_request (e_code t))) in
    read ∙ ap (λ (code : ℕ). gives (record { code = code; report = true; status = octet t 9 })) c

-- and is not answered: 23
pub long_unanswered : (t head out : List ℕ) (status : ℕ) → e_code t ≡ remedy_code → 9 ≤ length t → length t ≤ 2110
    → answering t head status out ≡ refused 23 0
unfolding answering refuse_if
long_unanswered t head out status c low high = rw (long_report t c low high) refl
