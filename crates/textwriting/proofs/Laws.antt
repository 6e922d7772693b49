-- What judging the blocks one after the other shows, octets written one run after the other, and the writer's answers. Assumes nothing.
use Prim.Native.Nat.{ℕ, suc, ◌+◌, ◌-◌, ◌*◌, ◌/◌, ◌%◌, ◌^◌, ◌≤◌, ◌<◌}
use native.Mathlib.Nat.{lt_irrefl}
use native.Mathlib.Numerals.{add-one}
use native.Mathlib.Omega.{arith}
use mathlib.Core.Path.{◌≡◌, refl, sym, ap, ap₂, ◌∙◌}
use mathlib.Core.Bool.{Bool, true, false, not, cond, ◌&&◌}
use mathlib.Core.List.{List, [], ◌∷◌, ◌++◌, append_assoc}
use lib.Dec.{ltb, leb, eqb}
use lib.ListN.{length, get_or, take, drop, replicate, take-append-drop, length-append}
use lib.Bits.{bit_or}
use borrow.Author.Count.{below_more}
use borrow.Author.Tests.{lt-ltb, le-ltb, ltb-false, lt-leb, leb-true, leb-false, eq-eqb, ne_eqb, eqb-true, not-false}
use Rattle.paper.specs.Octets.{octets_of, over}
use Rattle.std.specs.Prelude.{Some, None, Ok, Err}
use Rattle.paper.specs.Answer.{Answer, gives, refused, refuse_if, and_then}
use Rattle.paper.specs.ETelegrams.{remedy_code}
use Rattle.paper.specs.First.{first_of}
use Rattle.paper.specs.Remedies.{field_rule, twice, first_fault, refuse_by, Blocks, blocks_of, area_to, area_blocks, Handed, Shaped, handed_fault, size_to, block_octets, blocks_to, front_octets, telegram_of, WrittenRemedies, written_of, remedy_writing}
use Rattle.paper.proofs.NumberLaws.{over-over, length-octets_of}
use Rattle.paper.proofs.AnswerLaws.{refuses, goes_past}
use Rattle.paper.proofs.RemedyLaws as remedies
use Rattle.paper.proofs.RemedyLaws.{fault_here, no_fault, length_front, field_rules, handed_rules, length_block, length_blocks, size_least, sizes_alike, area_rises, area_size, writes_alike}
use Rattle.refusals.specs.declared.Refusal.{Refusal}
use Rattle.refusals.specs.Refusal.{refusal_of}
use Rattle.texts.specs.Texts.{Holds, Fault}
use Rattle.texts.proofs.Laws.{holds_none, holds_more, fault_some, fault_none, fault_then}
use Rattle.textwriting.specs.Writing.{handed_of, count_holds, handed_at, front_of, size_in, Fit, WroteAs}

-- ---- the blocks as handed in, in order

same_second : (b v w : Bool) → (b ≡ false → v ≡ w) → first_of 29 (b ∷ v ∷ []) 0 ≡ first_of 29 (b ∷ w ∷ []) 0
same_second true v w e = refl
same_second false v w e = ap (λ (x : Bool). first_of 29 (false ∷ x ∷ []) 0) (e refl)

-- the loop stands at k
pub record Passed (b : Blocks) (n seen k : ℕ) : Type 0 where
  pub within : k ≤ n
  pub held : Holds b.key k seen
  pub each : (j : ℕ) → j < k → handed_fault b j ≡ 0

pub passed_none : (b : Blocks) (n : ℕ) → Passed b n 0 0
passed_none b n = record { within = omega arith; held = holds_none b.key; each = λ j l. absurd (lt_irrefl j (omega arith)) }

module _ (b : Blocks) (n seen k : ℕ) (p : Passed b n seen k) where
  -- block k, by its key and the length of its text
  module _ (key size : ℕ) (named : key ≡ b.key k) (is : size ≡ length (b.text k)) where
    handed_is : handed_at key size seen ≡ handed_fault b k
    unfolding handed_at handed_fault twice
    handed_is =
        ap₂ (λ (x y : ℕ). handed_at x y seen) named is
        ∙ same_second (not (field_rule (b.key k) (length (b.text k)))) _ _ (λ f.
        let r = field_rules (b.key k) (length (b.text k)) (not-false _ f) in p.held (b.key k) r.0 r.1)

    pub passed_here : k < n → (f : Refusal) → Fault (handed_at key size seen) (Err f) → Fault (first_fault (handed_fault b) n) (Err f)
    passed_here h f e =
        e ∙ ap (λ (x : ℕ). refuse_by {A = Unit {0}} x (gives tt)) (fault_here (handed_fault b) n k _ h p.each (sym handed_is) (fault_some _ f e))

    module _ (e : Fault (handed_at key size seen) (Ok tt)) where
      block_good : handed_fault b k ≡ 0
      block_good = sym handed_is ∙ fault_none _ e

      pub passed_key : (1 ≤ key) × (key ≤ 8)
      passed_key = let r = handed_rules b k block_good in rw named (r.key_least, r.key_most)

      pub passed_more : k < n → (set : ℕ) → set ≡ bit_or seen (2 ^ (key - 1)) → Passed b n set (k + 1)
      passed_more h set f =
          let r = handed_rules b k block_good in
          let one : k + 1 ≡ suc k = add-one k in
          record {
            within = omega arith;
            held = rw (one, f, named) (holds_more b.key k seen p.held r.key_least r.key_most);
            each = below_more _ _ p.each block_good;
          }

  pub passed_all : n ≤ k → Fault (first_fault (handed_fault b) n) (Ok tt)
  unfolding refuse_if
  passed_all h = ap (λ (x : ℕ). refuse_by {A = Unit {0}} x (gives tt)) (no_fault (handed_fault b) n (λ j l. p.each j (omega arith)))

-- ---- octets written one run after the other

pub then : (l m r : List ℕ) (a b : ℕ) (x y : List ℕ) → m ≡ over l a x → a + length x ≡ b → a + length x + length y ≤ length l → r ≡ over m b y → r ≡ over l a (x ++ y)
then l m r a b x y e at room f = f ∙ ap₂ (λ (u : List ℕ) (j : ℕ). over u j y) e (sym at) ∙ over-over l a x y room

two_octets : (a b : ℕ) → a < 256 → b < 256 → octets_of 2 (a * 256 + b) ≡ a ∷ b ∷ []
unfolding octets_of
two_octets a b h k =
    let p : (a * 256 + b) / 256 % 256 ≡ a = omega arith in
    let q : (a * 256 + b) % 256 ≡ b = omega arith in
    rw (p, q) refl

pub block_written : (l m n r s : List ℕ) (at key : ℕ) (text : List ℕ) → at + (6 + length text) ≤ length l → key < 256
    → m ≡ over l at (octets_of 2 (6 + length text)) → n ≡ over m (at + 2) (octets_of 2 (key * 256)) → r ≡ over n (at + 4) (octets_of 2 (length text))
    → s ≡ over r (at + 6) text → s ≡ over l at (block_octets key text)
unfolding block_octets
block_written l m n r s at key text room small e f g h =
    let x = octets_of 2 (6 + length text) in
    let y = octets_of 2 (key * 256) in
    let z = octets_of 2 (length text) in
    let lx : length x ≡ 2 = length-octets_of 2 (6 + length text) in
    let ly : length y ≡ 2 = length-octets_of 2 (key * 256) in
    let lz : length z ≡ 2 = length-octets_of 2 (length text) in
    let lxy : length (x ++ y) ≡ 4 = length-append x y ∙ omega arith in
    let lxyz : length ((x ++ y) ++ z) ≡ 6 = length-append (x ++ y) z ∙ omega arith in
    let zero_is : key * 256 ≡ key * 256 + 0 = omega arith in
    let yy : y ≡ key ∷ 0 ∷ [] = ap (octets_of 2) zero_is ∙ two_octets key 0 small (omega arith) in
    then l r s at (at + 6) ((x ++ y) ++ z) text
    (then l n r at (at + 4) (x ++ y) z (then l m n at (at + 2) x y e (omega arith) (omega arith) f) (omega arith) (omega arith) g) (omega arith) (omega arith) h
    ∙ ap (over l at) (append_assoc (x ++ y) z text ∙ append_assoc x y (z ++ text) ∙ ap (λ (u : List ℕ). x ++ (u ++ (z ++ text))) yy)

pub front_written : (l a b c d e f head carried : List ℕ) (lang ord many : ℕ) → 30 ≤ length l → length head ≡ 6 → length carried ≡ 12 → ord < 256 → many < 256
    → a ≡ over l 0 head → b ≡ over a 6 (octets_of 2 remedy_code) → c ≡ over b 8 carried → d ≡ over c 20 (octets_of 2 lang)
    → e ≡ over d 22 (octets_of 2 (ord * 256 + many)) → f ≡ over e 24 (replicate 6 0) → f ≡ over l 0 (front_of head carried lang ord many)
unfolding front_octets
front_written l a b c d e f head carried lang ord many room six twelve so sm ea eb ec ed ee ef =
    let x = octets_of 2 remedy_code in
    let y = octets_of 2 lang in
    let z = octets_of 2 (ord * 256 + many) in
    let lx : length x ≡ 2 = length-octets_of 2 remedy_code in
    let ly : length y ≡ 2 = length-octets_of 2 lang in
    let lz : length z ≡ 2 = length-octets_of 2 (ord * 256 + many) in
    let l2 : length (head ++ x) ≡ 8 = length-append head x ∙ omega arith in
    let l3 : length ((head ++ x) ++ carried) ≡ 20 = length-append (head ++ x) carried ∙ omega arith in
    let l4 : length (((head ++ x) ++ carried) ++ y) ≡ 22 = length-append ((head ++ x) ++ carried) y ∙ omega arith in
    let l5 : length ((((head ++ x) ++ carried) ++ y) ++ z) ≡ 24 = length-append (((head ++ x) ++ carried) ++ y) z ∙ omega arith in
    let s1 = then l a b 0 6 head x ea (omega arith) (omega arith) eb in
    let s2 = then l b c 0 8 (head ++ x) carried s1 (omega arith) (omega arith) ec in
    let s3 = then l c d 0 20 ((head ++ x) ++ carried) y s2 (omega arith) (omega arith) ed in
    let s4 = then l d e 0 22 (((head ++ x) ++ carried) ++ y) z s3 (omega arith) (omega arith) ee in
    let s5 = then l e f 0 24 ((((head ++ x) ++ carried) ++ y) ++ z) (replicate 6 0) s4 (omega arith) (omega arith) ef in
    s5
    ∙ ap (over l 0) (append_assoc (((head ++ x) ++ carried) ++ y) z (replicate 6 0)
    ∙ append_assoc ((head ++ x) ++ carried) y _
    ∙ append_assoc (head ++ x) carried _
    ∙ append_assoc head x _
    ∙ ap (λ (u : List ℕ). head ++ (x ++ (carried ++ (y ++ (u ++ replicate 6 0))))) (two_octets ord many so sm))

pub blocks_begun : (b : Blocks) (l : List ℕ) → l ≡ over l 30 (blocks_to b 0)
unfolding over blocks_to
blocks_begun b l = sym (take-append-drop 30 l)

pub blocks_turn : (b : Blocks) (l m r : List ℕ) (k key : ℕ) (text : List ℕ) → m ≡ over l 30 (blocks_to b k) → size_to b k + (6 + length (b.text k)) ≤ length l
    → key ≡ b.key k → text ≡ b.text k → r ≡ over m (size_to b k) (block_octets key text) → r ≡ over l 30 (blocks_to b (k + 1))
unfolding blocks_to
blocks_turn b l m r k key text e room f g h =
    let x = block_octets (b.key k) (b.text k) in
    then l m r 30 (size_to b k) (blocks_to b k) x e (length_blocks b k) (omega (arith, length_blocks b k, length_block b (b.key k) (b.text k)))
    (h ∙ ap₂ (λ (i : ℕ) (t : List ℕ). over m (size_to b k) (block_octets i t)) f g)
    ∙ ap (λ (i : ℕ). over l 30 (blocks_to b i)) (sym (add-one k))

-- ---- the telegram's octets, as far as there is room

pub size_short : (b : Blocks) (room : ℕ) → room < size_to b b.many → None ≡ size_in b room
size_short b room h = rw (lt-leb (size_to b b.many) room h)

-- whatever the keys: none where there is no room for the blocks, else their size
module _ (keys : List ℕ) (texts : List (List ℕ)) (room : ℕ) where
  abbrev N : ℕ
  N = length texts

  alike : size_to (blocks_of [] texts) N ≡ size_to (blocks_of keys texts) N
  alike = sizes_alike (blocks_of [] texts) (blocks_of keys texts) N (λ k h. refl)

  pub no_size : None ≡ size_in (blocks_of [] texts) room → room < size_to (blocks_of keys texts) N
  no_size e = by (leb (size_to (blocks_of [] texts) N) room) refl
    where
      by : (b : Bool) → leb (size_to (blocks_of [] texts) N) room ≡ b → room < size_to (blocks_of keys texts) N
      by true t = let q = e ∙ ap (λ (b : Bool). cond b (Some (size_to (blocks_of [] texts) N)) None) t in cc
      by false t = omega (arith, leb-false (size_to (blocks_of [] texts) N) room t, alike)

  pub some_size : (v : ℕ) → Some v ≡ size_in (blocks_of [] texts) room → (v ≡ size_to (blocks_of keys texts) N) × (size_to (blocks_of keys texts) N ≤ room)
  some_size v e = by (leb (size_to (blocks_of [] texts) N) room) refl
    where
      by : (b : Bool) → leb (size_to (blocks_of [] texts) N) room ≡ b → (v ≡ size_to (blocks_of keys texts) N) × (size_to (blocks_of keys texts) N ≤ room)
      by true t =
          let q = e ∙ ap (λ (b : Bool). cond b (Some (size_to (blocks_of [] texts) N)) None) t in
          let s : v ≡ size_to (blocks_of [] texts) N = cc in
          (s ∙ alike, omega (arith, leb-true (size_to (blocks_of [] texts) N) room t, alike))
      by false t = let q = e ∙ ap (λ (b : Bool). cond b (Some (size_to (blocks_of [] texts) N)) None) t in cc

-- ---- the writer

pub wrote_refused : (f : Refusal) (a : Answer WrittenRemedies) (old : List ℕ) → refusal_of f ≡ a → WroteAs a old (Err f) old
wrote_refused f a old e = record { size = rw (← e); octets = rw (← e) }

pub wrote_octets : (w : WrittenRemedies) (a : Answer WrittenRemedies) (old : List ℕ) → gives w ≡ a → WroteAs a old (Ok w.size) w.octets
wrote_octets w a old e = record { size = rw (← e); octets = rw (← e) }

module _ (h : Handed) (out : List ℕ) where
  pub by_agree : h.blocks.agree ≡ false → refused 29 0 ≡ remedy_writing h out
  unfolding remedy_writing
  by_agree e = refuses _ 29 0 _ (ap not e)

module _ (h : Handed) (out : List ℕ) (agree : h.blocks.agree ≡ true) (n : ℕ) (is : n ≡ h.blocks.many) where
  pub by_room : length out < size_to h.blocks n → refused 25 0 ≡ remedy_writing h out
  unfolding remedy_writing
  by_room lt =
      goes_past _ 29 0 _ _ (ap not agree)
      (refuses _ 25 0 _ (lt-ltb (length out) (size_to h.blocks h.blocks.many) (omega (arith, ap (size_to h.blocks) is))))

  module _ (room : size_to h.blocks n ≤ length out) where
    enough : ltb (length out) (size_to h.blocks h.blocks.many) ≡ false
    enough = le-ltb (length out) (size_to h.blocks h.blocks.many) (omega (arith, ap (size_to h.blocks) is))

    pub by_count : count_holds h.ordered n ≡ false → refused 29 0 ≡ remedy_writing h out
    unfolding remedy_writing
    by_count e =
        goes_past _ 29 0 _ _ (ap not agree) (goes_past _ 25 0 _ _ enough (refuses _ 29 0 _ (ap not (ap (count_holds h.ordered) (sym is) ∙ e))))

    -- what the blocks are refused by, or the telegram
    pub by_blocks : count_holds h.ordered n ≡ true → (a : Answer (Unit {0})) → a ≡ refuse_by (first_fault (handed_fault h.blocks) n) (gives tt)
        → and_then a (λ x. gives (written_of h out)) ≡ remedy_writing h out
    unfolding remedy_writing
    by_blocks counted a e =
        goes_past _ 29 0 _ _ (ap not agree) (goes_past _ 25 0 _ _ enough (goes_past _ 29 0 _ _ (ap not (ap (count_holds h.ordered) (sym is) ∙ counted))
        (fault_then _ _ a (e ∙ ap (λ (i : ℕ). refuse_by {A = Unit {0}} (first_fault (handed_fault h.blocks) i) (gives tt)) is))))

    pub blocks_fit : Fault (first_fault (handed_fault h.blocks) n) (Ok tt) → Fit h.blocks (length out)
    blocks_fit e =
        record {
          fits = ltb-false _ _ enough;
          short = λ k lt. (handed_rules h.blocks k (remedies.fault_none (handed_fault h.blocks) n (fault_none _ e) k (omega arith))).short;
        }

    pub telegram_written : (new last : List ℕ) → Shaped h
        → new ≡ over out 0 (front_of h.head h.carried h.language h.ordered n) → last ≡ over new 30 (blocks_to h.blocks n) → last ≡ over out 0 (telegram_of h)
    unfolding telegram_of front_octets
    telegram_written new last shaped e f =
        let x = front_octets h in
        let l : length x ≡ 30 = length_front h shaped.six shaped.twelve in
        then out new last 0 30 x (blocks_to h.blocks h.blocks.many)
        (e ∙ ap (λ (i : ℕ). over out 0 (front_of h.head h.carried h.language h.ordered i)) is) (omega (arith, l))
        (omega (arith, l, length_blocks h.blocks h.blocks.many, ap (size_to h.blocks) is))
        (f ∙ ap (λ (i : ℕ). over new 30 (blocks_to h.blocks i)) is)

    -- the length that is answered and the output
    pub written_all : count_holds h.ordered n ≡ true → Fault (first_fault (handed_fault h.blocks) n) (Ok tt) → Shaped h → (v : ℕ) → v ≡ size_to h.blocks n → (new last : List ℕ)
        → new ≡ over out 0 (front_of h.head h.carried h.language h.ordered n) → last ≡ over new 30 (blocks_to h.blocks n)
        → WroteAs (remedy_writing h out) out (Ok v) last
    written_all counted sound shaped v q new last e f =
        wrote_octets (record { octets = last; size = v }) (remedy_writing h out) out
        (ap₂ (λ (x : List ℕ) (i : ℕ). gives (record { octets = x; size = i })) (telegram_written new last shaped e f) (q ∙ ap (size_to h.blocks) is)
        ∙ by_blocks counted (gives tt) sound)

-- ---- texts lent as one area

pub area_none : (lengths : List ℕ) → 0 ≡ area_to lengths 0
unfolding area_to
area_none lengths = refl

pub area_more : (lengths : List ℕ) (k : ℕ) → area_to lengths k + get_or lengths k 0 ≡ area_to lengths (k + 1)
unfolding area_to
area_more lengths k = ap (area_to lengths) (sym (add-one k))

pub adds_over : (lengths : List ℕ) (octets left k : ℕ) → left + area_to lengths k ≡ octets → k < length lengths → left < get_or lengths k 0
    → false ≡ eqb (area_to lengths (length lengths)) octets
adds_over lengths octets left k e h l =
    sym (ne_eqb (area_to lengths (length lengths)) octets (λ q. lt_irrefl octets (omega (arith, area_rises lengths (length lengths) k h))))

last_fails : (a b : Bool) → b ≡ false → (a && b) ≡ false
last_fails true b e = e
last_fails false b e = refl

module _ (head carried : List ℕ) (language ordered : ℕ) (keys lengths area out : List ℕ) where
  abbrev H : Handed
  H = handed_of head carried language ordered (area_blocks keys lengths area)

  pub not_added : eqb (area_to lengths (length lengths)) (length area) ≡ false → refused 29 0 ≡ remedy_writing H out
  not_added e = by_agree H out (last_fails (eqb (length keys) (length lengths)) _ e)

  pub not_as_many : (length keys ≡ length lengths → ⊥) → refused 29 0 ≡ remedy_writing H out
  not_as_many n = by_agree H out (rw (ne_eqb (length keys) (length lengths) n))

  module _ (added : eqb (area_to lengths (length lengths)) (length area) ≡ true) (as_many : length keys ≡ length lengths) where
    agrees : H.blocks.agree ≡ true
    agrees = rw (eq-eqb (length keys) (length lengths) as_many) added

    size_is : size_to (area_blocks keys lengths area) (length lengths) ≡ 30 + 6 * length lengths + length area
    size_is =
        let e = eqb-true (area_to lengths (length lengths)) (length area) added in
        omega (arith, area_size keys lengths area e (length lengths) (omega arith))

    pub too_many : 8 < length lengths → leb (30 + 6 * length lengths + length area) (length out) ≡ true → refused 29 0 ≡ remedy_writing H out
    too_many h e =
        by_count H out agrees (length lengths) refl (omega (arith, size_is, leb-true (30 + 6 * length lengths + length area) (length out) e))
        (last_fails (leb ordered 1 && leb 1 (length lengths)) _ (lt-leb (length lengths) 8 h))

    pub too_long : leb (30 + 6 * length lengths + length area) (length out) ≡ false → refused 25 0 ≡ remedy_writing H out
    too_long e = by_room H out agrees (length lengths) refl (omega (arith, size_is, leb-false (30 + 6 * length lengths + length area) (length out) e))

    -- the texts in a row are written as they are
    pub as_texts : (texts : List (List ℕ)) → length texts ≡ length lengths
        → ((k : ℕ) → k < length lengths → get_or texts k [] ≡ take (get_or lengths k 0) (drop (area_to lengths k) area))
        → remedy_writing (handed_of head carried language ordered (blocks_of keys texts)) out ≡ remedy_writing H out
    as_texts texts many same =
        writes_alike (handed_of head carried language ordered (blocks_of keys texts)) (area_blocks keys lengths area) out many
        (eq-eqb (length keys) (length texts) (as_many ∙ sym many) ∙ sym agrees) (λ k h. (refl, same k h))
