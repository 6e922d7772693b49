-- The calls by their contracts: what is written is read back, what was read is written again, and a contract settles the answer. Assumes nothing.
use Prim.Native.Nat.{ℕ, ◌≤◌, ◌<◌}
use native.Mathlib.Omega.{arith}
use mathlib.Core.Path.{◌≡◌, refl, sym, ap, ap₂, ◌∙◌}
use mathlib.Core.Bool.{true}
use mathlib.Core.List.{List}
use lib.ListN.{length, take, drop}
use Rattle.std.specs.Prelude.{Result, Ok}
use Rattle.paper.specs.Octets.{over, Octets}
use Rattle.paper.specs.Answer.{Answer, gives, refused, after, map_answer, found}
use Rattle.paper.specs.Remedies as paper
use Rattle.paper.specs.Remedies.{Handed, Shaped, ReadsBack, WrittenRemedies, block_count, remedy_reading, remedy_of, remedy_block, remedy_text, with_blocks, remedy_writing, blocks_in, handed_by, reserve_to}
use Rattle.paper.proofs.RemedyLaws.{rules_of, read_after_write, written_again, block_found, text_found, writes_alike}
use Rattle.refusals.specs.declared.Refusal.{Refusal}
use Rattle.refusals.proofs.WrittenLaws.{one_result}
use Rattle.texts.specs.declared.Remedies.{Remedies}
use Rattle.texts.specs.Texts.{read_answer}
use Rattle.textwriting.specs.Writing.{wrote_answer, WroteAs}

-- a length that is answered: the paper gives that length, and the output as it is left
pub wrote_gives : (a : Answer WrittenRemedies) (old : List ℕ) (n : ℕ) (new : List ℕ) → WroteAs a old (Ok n) new → a ≡ gives (record { octets = new; size = n })
wrote_gives (gives w) old n new p =
    let e = p.size in
    let s : w.size ≡ n = cc in
    ap₂ (λ (x : List ℕ) (y : ℕ). gives (record { octets = x; size = y })) (sym p.octets) s
wrote_gives (refused m at) old n new p = let e = p.size in let z : ◌≡◌ {A = ℕ} 0 1 = cc in absurd (omega arith)

-- ---- written, then read

module _ (h : Handed) (shaped : Shaped h) (out : List ℕ) (r : Result ℕ Refusal) (new : List ℕ) (n : ℕ) (p : WroteAs (remedy_writing h out) out r new) (e : r ≡ Ok n) where
  -- the telegram gives all back that was handed in, and the output past it stays
  pub wrote_reads_back : ReadsBack h (take n new) × (drop n new ≡ drop n out)
  wrote_reads_back =
      let q : WroteAs (remedy_writing h out) out (Ok n) new = rw e at p in
      read_after_write h shaped out (record { octets = new; size = n }) (wrote_gives (remedy_writing h out) out n new q)

  -- the reader's answer
  pub wrote_read_answer : (a : Result Remedies Refusal) → read_answer a ≡ remedy_reading (take n new)
      → read_answer a ≡ gives (record { language = h.language; ordered = h.ordered; count = h.blocks.many })
  wrote_read_answer a q = q ∙ wrote_reads_back.0.read

  -- and its texts
  pub wrote_text : (k : ℕ) → k < h.blocks.many → remedy_text (take n new) k ≡ h.blocks.text k
  wrote_text k lt =
      let b = wrote_reads_back.0 in
      let w = rules_of (take n new) _ b.read in
      let c : block_count (take n new) ≡ h.blocks.many = ap (λ (x : paper.Remedies). x.count) w.1 in
      text_found (take n new) w.0 k (omega (arith, c)) ∙ b.texts k lt

  -- its blocks, as another call gives them: the key that was handed in, and where the text stands
  pub wrote_block : (k : ℕ) → k < h.blocks.many → (b : paper.Remedy) × ((remedy_block (take n new) k ≡ gives (found b)) × (b.key ≡ h.blocks.key k))
  wrote_block k lt =
      let b = wrote_reads_back.0 in
      let w = rules_of (take n new) _ b.read in
      let c : block_count (take n new) ≡ h.blocks.many = ap (λ (x : paper.Remedies). x.count) w.1 in
      (remedy_of (take n new) k, (block_found (take n new) w.0 k (omega (arith, c)), b.keys k lt))

-- ---- read, then written: the same telegram, its reserve 0

-- handed in is what the reader gave of t: language, octet 23 and number of blocks, of each block the key and the text, with octets 1-6 and 9-20
pub record HandedOn (t : List ℕ) (m : Remedies) (h : Handed) : Type 0 where
  pub head : h.head ≡ take 6 t
  pub carried : h.carried ≡ take 12 (drop 8 t)
  pub language : h.language ≡ m.language
  pub ordered : h.ordered ≡ m.ordered
  pub agree : h.blocks.agree ≡ true
  pub many : h.blocks.many ≡ m.count
  pub keys : (k : ℕ) (b : paper.Remedy) → k < m.count → remedy_block t k ≡ gives (found b) → h.blocks.key k ≡ b.key
  pub texts : (k : ℕ) → k < m.count → h.blocks.text k ≡ remedy_text t k

same_but : (h g : Handed) → h.head ≡ g.head → h.carried ≡ g.carried → h.language ≡ g.language → h.ordered ≡ g.ordered
    → with_blocks h g.blocks ≡ g
same_but h g a b c d = λ i. record { head = a i; carried = b i; language = c i; ordered = d i; blocks = g.blocks }

pub read_writes_again : (t : List ℕ) → Octets t → (a : Result Remedies Refusal) (m : Remedies) → a ≡ Ok m → read_answer a ≡ remedy_reading t → (h : Handed) → HandedOn t m h
    → (out : List ℕ) → length t ≤ length out → (r : Result ℕ Refusal) (new : List ℕ) → WroteAs (remedy_writing h out) out r new
    → (wrote_answer r ≡ gives (length t)) × (new ≡ over out 0 (reserve_to t (block_count t)))
read_writes_again t o a m is read h on out room r new p =
    let w = rules_of t _ (sym read ∙ ap read_answer is) in
    let count : block_count t ≡ m.count = ap (λ (x : paper.Remedies). x.count) w.1 in
    let language : h.language ≡ paper.language t = on.language ∙ sym (ap (λ (x : paper.Remedies). x.language) w.1) in
    let ordered : h.ordered ≡ paper.ordered t = on.ordered ∙ sym (ap (λ (x : paper.Remedies). x.ordered) w.1) in
    let blocks : (k : ℕ) → k < block_count t → (h.blocks.key k ≡ paper.key_of t k) × (h.blocks.text k ≡ paper.text_of t k) =
    λ k lt. (on.keys k (remedy_of t k) (omega (arith, count)) (block_found t w.0 k lt), on.texts k (omega (arith, count)) ∙ text_found t w.0 k lt) in
    let alike : remedy_writing h out ≡ remedy_writing (with_blocks h (blocks_in t)) out = writes_alike h (blocks_in t) out (on.many ∙ sym count) on.agree blocks in
    let e = alike ∙ ap (λ (x : Handed). remedy_writing x out) (same_but h (handed_by t) on.head on.carried language ordered) ∙ written_again t o w.0 out room in (
      p.size ∙ ap (map_answer (λ (w : WrittenRemedies). w.size)) e,
      p.octets ∙ ap (λ (x : Answer WrittenRemedies). after out (map_answer (λ (w : WrittenRemedies). w.octets) x)) e,
    )

-- ---- one answer, one output

pub one_wrote : (a : Answer ℕ) (r s : Result ℕ Refusal) → wrote_answer r ≡ a → wrote_answer s ≡ a → r ≡ s
one_wrote = one_result (λ x. x) (λ x. x) (λ x. refl)

pub contract_settles : (a : Answer WrittenRemedies) (old : List ℕ) (r s : Result ℕ Refusal) (new other : List ℕ) → WroteAs a old r new → WroteAs a old s other
    → (wrote_answer r ≡ wrote_answer s) × (r ≡ s) × (new ≡ other)
contract_settles a old r s new other t u = (t.size ∙ sym u.size, one_wrote _ r s t.size u.size, t.octets ∙ sym u.octets)
