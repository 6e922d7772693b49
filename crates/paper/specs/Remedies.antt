-- C-11, "Remedy texts on the desk": the remedies and tests of telegram 8.8A, read and written. Octet o of the paper is element o - 1; block 0 is the first.
use Rattle.std.specs.Prelude.{ℕ, zero, suc, ◌+◌, ◌%◌, ◌≤◌, ◌<◌, ◌≡◌, Bool, true, not, cond, ◌&&◌, ◌||◌, List, [], ◌∷◌, ◌++◌, ltb, leb, eqb, length, get_or, take, drop, set, replicate}
use Rattle.paper.specs.Octets.{octet, number, octets_of, over}
use Rattle.paper.specs.Answer.{Answer, gives, refused, refuse_if, and_then, Sought, found, nothing}
use Rattle.paper.specs.First.{first_bad, some, first_of}
use Rattle.paper.specs.ETelegrams.{remedy_code, e_code, e_limit}

-- ---- the format

-- "Octets 21-22 are the language, 23 is 0 or 1, 24 the number of blocks 1-8": 23 says whether the language is the one ordered
abbrev pub language : List ℕ → ℕ
language t = number t 20 2

abbrev pub ordered : List ℕ → ℕ
ordered t = octet t 23

abbrev pub block_count : List ℕ → ℕ
block_count t = octet t 24

-- a block that starts at element `at`: "length (2), key 1-8 (1), reserve (1), text length (2), text"
abbrev pub length_at : List ℕ → ℕ → ℕ
length_at t at = number t at 2

abbrev pub key_at : List ℕ → ℕ → ℕ
key_at t at = get_or t (at + 2) 0

abbrev pub text_length_at : List ℕ → ℕ → ℕ
text_length_at t at = number t (at + 4) 2

abbrev pub text_at : List ℕ → ℕ → List ℕ
text_at t at = take (text_length_at t at) (drop (at + 6) t)

-- "Blocks start at octet 31": where block k starts; the length of each gives the next one's start
unfoldable pub start : List ℕ → ℕ → ℕ
start t zero = 30
start t (suc k) = start t k + length_at t (start t k)

abbrev pub key_of : List ℕ → ℕ → ℕ
key_of t k = key_at t (start t k)

abbrev pub text_of : List ℕ → ℕ → List ℕ
text_of t k = text_at t (start t k)

-- ---- what is refused

-- "key 1-8", "text length, which is even, 0 to 254": of a block read and of one handed in
abbrev pub field_rule : ℕ → ℕ → Bool
field_rule key size = leb 1 key && leb key 8 && eqb (size % 2) 0 && leb size 254

-- "28 block, or its first 6 octets, runs past the end"; the block ends by its length
abbrev pub past : List ℕ → ℕ → Bool
past t at = ltb (length t) (at + 6) || ltb (length t) (at + length_at t at)

-- "29 .. a field out of its range or a block length that disagrees": "Block length is 6 plus text length"
abbrev pub broken : List ℕ → ℕ → Bool
broken t at = not (field_rule (key_at t at) (text_length_at t at) && eqb (length_at t at) (6 + text_length_at t at))

-- "30 key twice": the key of block k is that of a block before it
unfoldable pub twice : (ℕ → ℕ) → ℕ → Bool
twice key k = some (λ j. eqb (key j) (key k)) k

-- the lowest number of block k; 0 for none
unfoldable pub block_fault : List ℕ → ℕ → ℕ
block_fault t k = first_of 28 (past t (start t k) ∷ broken t (start t k) ∷ twice (key_of t) k ∷ []) 0

-- "blocks in order, the first bad block deciding": its fault, of n blocks; 0 where none has one
abbrev pub sound : (ℕ → ℕ) → ℕ → Bool
sound fault k = eqb (fault k) 0

unfoldable pub first_fault : (ℕ → ℕ) → ℕ → ℕ
first_fault fault n = cond (ltb (first_bad (sound fault) n) n) (fault (first_bad (sound fault) n)) 0

abbrev pub refuse_by : {A : Type 0} → ℕ → Answer A → Answer A
refuse_by fault rest = refuse_if (not (eqb fault 0)) fault 0 rest

-- ---- reading

-- "29 (here never 22) a code other than 8A08, a field out of its range", of octets 7-24
abbrev pub head_rule : List ℕ → Bool
head_rule t = eqb (e_code t) remedy_code && leb (ordered t) 1 && leb 1 (block_count t) && leb (block_count t) 8

-- what reading gives beside the blocks
pub record Remedies : Type 0 where
  pub language : ℕ
  pub ordered : ℕ
  pub count : ℕ

abbrev pub remedies_of : List ℕ → Remedies
remedies_of t = record { language = language t; ordered = ordered t; count = block_count t }

-- "21 also from this reader under 30 octets"; "octets 7-24 first, then blocks in order, the first bad block deciding by its lowest number, then
-- octets after the last", which are 28
unfoldable pub remedy_reading : List ℕ → Answer Remedies
remedy_reading t =
    refuse_if (ltb (length t) 30 || ltb (e_limit (e_code t)) (length t)) 21 0
    (refuse_if (not (head_rule t)) 29 0
    (refuse_by (first_fault (block_fault t) (block_count t))
    (refuse_if (ltb (start t (block_count t)) (length t)) 28 0
    (gives (remedies_of t)))))

-- block k of a telegram that is read: its key, and the octets of the telegram that are its text
pub record Remedy : Type 0 where
  pub key : ℕ
  pub at : ℕ
  pub size : ℕ

abbrev pub remedy_of : List ℕ → ℕ → Remedy
remedy_of t k = record { key = key_of t k; at = start t k + 6; size = text_length_at t (start t k) }

unfoldable pub remedy_block : List ℕ → ℕ → Answer (Sought Remedy)
remedy_block t k = and_then (remedy_reading t) (λ r. gives (cond (ltb k r.count) (found (remedy_of t k)) nothing))

-- "a text comes back as the part of the telegram it stands in"; none of a telegram that is refused, and none past its last block
abbrev pub text_in : List ℕ → Answer (Sought Remedy) → List ℕ
text_in t (gives (found b)) = take b.size (drop b.at t)
text_in t (gives nothing) = []
text_in t (refused n at) = []

unfoldable pub remedy_text : List ℕ → ℕ → List ℕ
remedy_text t k = text_in t (remedy_block t k)

-- ---- writing

-- the blocks handed in: how many, the key and the text of each, and whether what they are handed in by agrees, so that they are blocks at all
pub record Blocks : Type 0 where
  pub agree : Bool
  pub many : ℕ
  pub key : ℕ → ℕ
  pub text : ℕ → List ℕ

-- a key and a text each: as many keys as texts
abbrev pub blocks_of : List ℕ → List (List ℕ) → Blocks
blocks_of keys texts = record { agree = eqb (length keys) (length texts); many = length texts; key = λ k. get_or keys k 0; text = λ k. get_or texts k [] }

-- a key and a length each, and one area with the texts, one behind the other: as many keys as lengths, which add up to the area
unfoldable pub area_to : List ℕ → ℕ → ℕ
area_to lengths zero = 0
area_to lengths (suc k) = area_to lengths k + get_or lengths k 0

abbrev pub area_blocks : List ℕ → List ℕ → List ℕ → Blocks
area_blocks keys lengths area =
    record {
      agree = eqb (length keys) (length lengths) && eqb (area_to lengths (length lengths)) (length area);
      many = length lengths;
      key = λ k. get_or keys k 0;
      text = λ k. take (get_or lengths k 0) (drop (area_to lengths k) area);
    }

-- "reserve is written 0"
unfoldable pub block_octets : ℕ → List ℕ → List ℕ
block_octets key text = octets_of 2 (6 + length text) ++ (key ∷ 0 ∷ (octets_of 2 (length text) ++ text))

-- the first n of the blocks
unfoldable pub blocks_to : Blocks → ℕ → List ℕ
blocks_to b zero = []
blocks_to b (suc n) = blocks_to b n ++ block_octets (b.key n) (b.text n)

-- what the writer is handed: octets 1-6 and 9-20, the language, octet 23 and the blocks
pub record Handed : Type 0 where
  pub head : List ℕ
  pub carried : List ℕ
  pub language : ℕ
  pub ordered : ℕ
  pub blocks : Blocks

abbrev pub with_blocks : Handed → Blocks → Handed
with_blocks h b = record { head = h.head; carried = h.carried; language = h.language; ordered = h.ordered; blocks = b }

-- octets 1 to 30, in their order
unfoldable pub front_octets : Handed → List ℕ
front_octets h =
    h.head ++ (octets_of 2 remedy_code ++ (h.carried ++ (octets_of 2 h.language ++ (h.ordered ∷ h.blocks.many ∷ replicate 6 0))))

unfoldable pub telegram_of : Handed → List ℕ
telegram_of h = front_octets h ++ blocks_to h.blocks h.blocks.many

-- "30 plus, for each block handed in, 6 plus its text's octets"
unfoldable pub size_to : Blocks → ℕ → ℕ
size_to b zero = 30
size_to b (suc n) = size_to b n + (6 + length (b.text n))

-- octets 23 and 24
abbrev pub handed_rule : Handed → Bool
handed_rule h = leb h.ordered 1 && leb 1 h.blocks.many && leb h.blocks.many 8

-- the lowest number of block k as handed in; 0 for none
unfoldable pub handed_fault : Blocks → ℕ → ℕ
handed_fault b k = first_of 29 (not (field_rule (b.key k) (length (b.text k))) ∷ twice b.key k ∷ []) 0

-- the output afterwards, and the telegram's length
pub record WrittenRemedies : Type 0 where
  pub octets : List ℕ
  pub size : ℕ

abbrev pub written_of : Handed → List ℕ → WrittenRemedies
written_of h out = record { octets = over out 0 (telegram_of h); size = size_to h.blocks h.blocks.many }

-- 29 for what is no blocks; 25, then 29 for octets 23 and 24, then the blocks in order; "output past the telegram stays"
unfoldable pub remedy_writing : Handed → List ℕ → Answer WrittenRemedies
remedy_writing h out =
    refuse_if (not h.blocks.agree) 29 0
    (refuse_if (ltb (length out) (size_to h.blocks h.blocks.many)) 25 0
    (refuse_if (not (handed_rule h)) 29 0
    (refuse_by (first_fault (handed_fault h.blocks) h.blocks.many)
    (gives (written_of h out)))))

-- ---- a telegram that was read, as what a writer is handed

abbrev pub blocks_in : List ℕ → Blocks
blocks_in t = record { agree = true; many = block_count t; key = key_of t; text = text_of t }

abbrev pub handed_by : List ℕ → Handed
handed_by t = record { head = take 6 t; carried = take 12 (drop 8 t); language = language t; ordered = ordered t; blocks = blocks_in t }

-- the telegram with its reserve, octets 25-30 and the fourth octet of each of the first n blocks, put to 0
unfoldable pub reserve_to : List ℕ → ℕ → List ℕ
reserve_to t zero = over t 24 (replicate 6 0)
reserve_to t (suc k) = set (reserve_to t k) (start t k + 3) 0

-- ---- the rules, one by one

pub record BlockRules (t : List ℕ) (k : ℕ) : Type 0 where
  pub begins : start t k + 6 ≤ length t
  pub within : start t k + length_at t (start t k) ≤ length t
  pub key_least : 1 ≤ key_of t k
  pub key_most : key_of t k ≤ 8
  pub even : text_length_at t (start t k) % 2 ≡ 0
  pub short : text_length_at t (start t k) ≤ 254
  pub agrees : length_at t (start t k) ≡ 6 + text_length_at t (start t k)
  pub once : (j : ℕ) → j < k → key_of t j ≡ key_of t k → ⊥

pub record RemedyRules (t : List ℕ) : Type 0 where
  pub long : 30 ≤ length t
  pub limit : length t ≤ 2110
  pub code : e_code t ≡ remedy_code
  pub status : ordered t ≤ 1
  pub one : 1 ≤ block_count t
  pub few : block_count t ≤ 8
  pub blocks : (k : ℕ) → k < block_count t → BlockRules t k
  pub ends : start t (block_count t) ≡ length t

-- what may be handed in: the lengths of octets 1-6 and 9-20 are settled by their types, and so is the language's
pub record Shaped (h : Handed) : Type 0 where
  pub six : length h.head ≡ 6
  pub twelve : length h.carried ≡ 12
  pub language : h.language < 65536

pub record HandedRules (b : Blocks) (k : ℕ) : Type 0 where
  pub key_least : 1 ≤ b.key k
  pub key_most : b.key k ≤ 8
  pub even : length (b.text k) % 2 ≡ 0
  pub short : length (b.text k) ≤ 254
  pub once : (j : ℕ) → j < k → b.key j ≡ b.key k → ⊥

pub record WritingRules (h : Handed) (out : List ℕ) : Type 0 where
  pub agree : h.blocks.agree ≡ true
  pub room : size_to h.blocks h.blocks.many ≤ length out
  pub status : h.ordered ≤ 1
  pub one : 1 ≤ h.blocks.many
  pub few : h.blocks.many ≤ 8
  pub blocks : (k : ℕ) → k < h.blocks.many → HandedRules h.blocks k

-- the telegram t gives all of h back, and its reserve is 0
pub record ReadsBack (h : Handed) (t : List ℕ) : Type 0 where
  pub read : remedy_reading t ≡ gives (record { language = h.language; ordered = h.ordered; count = h.blocks.many })
  pub keys : (k : ℕ) → k < h.blocks.many → key_of t k ≡ h.blocks.key k
  pub texts : (k : ℕ) → k < h.blocks.many → text_of t k ≡ h.blocks.text k
  pub head : take 6 t ≡ h.head
  pub carried : take 12 (drop 8 t) ≡ h.carried
  pub reserve : take 6 (drop 24 t) ≡ replicate 6 0
  pub reserves : (k : ℕ) → k < h.blocks.many → get_or t (start t k + 3) 0 ≡ 0
