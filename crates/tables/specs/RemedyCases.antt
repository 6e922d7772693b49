-- C-11: telegrams with remedy texts, read and written, and what is answered where two faults meet.
use Rattle.std.specs.Prelude.{ℕ, zero, suc, ◌+◌, ◌≡◌, refl, List, [], ◌∷◌, ◌++◌, map, take, set, replicate}
use Rattle.paper.specs.Octets.{number, octets_of, over}
use Rattle.paper.specs.Answer.{refuse_if}
use Rattle.paper.specs.First.{first_from, first_bad, all, some}
use Rattle.paper.specs.ETelegrams.{requests, is_request, is_report, e_limit, e_reading, answering}
use Rattle.paper.specs.Remedies.{start, twice, block_fault, first_fault, remedy_reading, remedy_block, remedy_text, area_to, block_octets, blocks_to, front_octets, telegram_of, size_to, handed_fault, remedy_writing}
use Rattle.tables.specs.Cases.{Question, e_reads, e_answers, remedy_reads, remedy_blocks, remedy_writes, texts_writes, gave, refuses, ask}

-- ---- telegrams

-- octets 1 to 30: octet 23, 24 and the reserve
abbrev pub front : ℕ → ℕ → ℕ → List ℕ
front ordered count reserve =
    1 ∷ 2 ∷ 3 ∷ 4 ∷ 5 ∷ 6 ∷ 0x8A ∷ 0x08 ∷ replicate 12 7 ++ (0x64 ∷ 0x65 ∷ ordered ∷ count ∷ replicate 6 reserve)

-- two blocks: key 3 with "ab", key 1 with no text; 44 octets, the blocks from octets 31 and 39 on
unfoldable pub two_texts : ℕ → List ℕ
two_texts reserve = front 1 2 reserve ++ (0 ∷ 8 ∷ 3 ∷ reserve ∷ 0 ∷ 2 ∷ 0x61 ∷ 0x62 ∷ 0 ∷ 6 ∷ 1 ∷ reserve ∷ 0 ∷ 0 ∷ [])

-- a telegram with octet o changed to x
abbrev pub but : ℕ → ℕ → List ℕ → List ℕ
but (suc o) x t = set t o x
but zero x t = t

-- n blocks of so many octets of text, with the keys from 1 on
unfoldable pub full_blocks : ℕ → ℕ → List ℕ
full_blocks zero size = []
full_blocks (suc n) size = full_blocks n size ++ (octets_of 2 (6 + size) ++ (suc n ∷ 9 ∷ (octets_of 2 size ++ replicate size 0x61)))

abbrev full : ℕ → ℕ → List ℕ
full n size = front 1 n 9 ++ full_blocks n size

-- an E-telegram of this code and so many octets more than 9
abbrev pub long : ℕ → ℕ → List ℕ
long code n = replicate 6 0 ++ (octets_of 2 code ++ (1 ∷ replicate n 0))

-- ---- the cases: a question and its answer

pub record Case : Type 0 where
  pub asked : Question
  pub answered : List ℕ

abbrev pub case : Question → List ℕ → Case
case q a = record { asked = q; answered = a }

abbrev reads_as : List ℕ → List ℕ → Case
reads_as t a = case (remedy_reads t) a

-- keys and lengths of texts, all of one area of octets 61, into so many octets EE, with octet 23
abbrev pub write : ℕ → List ℕ → List ℕ → ℕ → ℕ → Question
write ordered keys lengths area room = remedy_writes ordered keys lengths (replicate area 0x61) (replicate room 0xEE)

abbrev writes_refused : ℕ → List ℕ → List ℕ → ℕ → ℕ → ℕ → Case
writes_refused ordered keys lengths area room n = case (write ordered keys lengths area room) (refuses n 0 ++ replicate room 0xEE)

unfoldable pub cases : List Case
cases =
    -- what is read, its reserve unexamined, and each block
    reads_as (two_texts 9) (gave (0x6465 ∷ 1 ∷ 2 ∷ []))
    ∷ reads_as (but 23 0 (two_texts 0)) (gave (0x6465 ∷ 0 ∷ 2 ∷ []))
    ∷ case (remedy_blocks (two_texts 9) 0) (gave (1 ∷ 3 ∷ 36 ∷ 2 ∷ 0x61 ∷ 0x62 ∷ []))
    ∷ case (remedy_blocks (two_texts 9) 1) (gave (1 ∷ 1 ∷ 44 ∷ 0 ∷ []))
    ∷ case (remedy_blocks (two_texts 9) 2) (gave (0 ∷ []))
    ∷ case (remedy_blocks (but 23 2 (two_texts 9)) 0) (refuses 29 0)
    -- 29 octets, code wrong; another code, alone and with octet 23 wrong; octet 23; no block, so that octets follow; nine, so that one is past the end
    ∷ reads_as (but 8 0 (take 29 (two_texts 9))) (refuses 21 0)
    ∷ reads_as (but 8 7 (two_texts 9)) (refuses 29 0)
    ∷ reads_as (but 23 2 (but 8 7 (two_texts 9))) (refuses 29 0)
    ∷ reads_as (but 23 2 (two_texts 9)) (refuses 29 0)
    ∷ reads_as (but 24 0 (two_texts 9)) (refuses 29 0)
    ∷ reads_as (but 24 9 (two_texts 9)) (refuses 29 0)
    -- octet 23, and the first block past the end; the first block past the end with key 0; key 0 in the first block, and the second past the end
    ∷ reads_as (but 31 1 (but 23 2 (two_texts 9))) (refuses 29 0)
    ∷ reads_as (but 33 0 (but 31 1 (two_texts 9))) (refuses 28 0)
    ∷ reads_as (but 40 7 (but 33 0 (two_texts 9))) (refuses 29 0)
    -- lengths that disagree: text length 4 in a block of 8, 254 in it, which would run past the end; a text of odd length in a block that agrees
    ∷ reads_as (but 36 4 (two_texts 9)) (refuses 29 0)
    ∷ reads_as (but 36 254 (two_texts 9)) (refuses 29 0)
    ∷ reads_as (but 36 1 (but 32 7 (two_texts 9))) (refuses 29 0)
    -- at its edges: eight blocks, keys 1 to 8, with texts of 254 octets, 2,110 in all, and the last of them; a text of 256; key 9, and 8
    ∷ reads_as (full 8 254) (gave (0x6465 ∷ 1 ∷ 8 ∷ []))
    ∷ case (remedy_blocks (full 8 0) 7) (gave (1 ∷ 8 ∷ 78 ∷ 0 ∷ []))
    ∷ reads_as (full 1 256) (refuses 29 0)
    ∷ reads_as (but 33 9 (full 1 0)) (refuses 29 0)
    ∷ reads_as (but 33 8 (full 1 0)) (gave (0x6465 ∷ 1 ∷ 1 ∷ []))
    -- the second block's key is the first's: alone, in a block that disagrees, past the end, with an octet after the last, before a third past the end
    ∷ reads_as (but 41 3 (two_texts 9)) (refuses 30 0)
    ∷ reads_as (but 44 2 (but 41 3 (two_texts 9))) (refuses 29 0)
    ∷ reads_as (but 40 7 (but 41 3 (two_texts 9))) (refuses 28 0)
    ∷ reads_as (but 41 3 (two_texts 9) ++ (0 ∷ [])) (refuses 30 0)
    ∷ reads_as (but 24 3 (but 41 3 (two_texts 9))) (refuses 30 0)
    -- a third block that is not there; of which 5 octets are; an octet after the last; the last block an octet short
    ∷ reads_as (but 24 3 (two_texts 9)) (refuses 28 0)
    ∷ reads_as (but 24 3 (two_texts 9) ++ (0 ∷ 6 ∷ 2 ∷ 0 ∷ 0 ∷ [])) (refuses 28 0)
    ∷ reads_as (two_texts 9 ++ (0 ∷ [])) (refuses 28 0)
    ∷ reads_as (take 43 (two_texts 9)) (refuses 28 0)
    -- the limit: 1,025 octets of another code; of 8A08 they are judged on; 2,111 octets
    ∷ reads_as (long 0x8A07 1016) (refuses 21 0)
    ∷ reads_as (long 0x8A08 1016) (refuses 29 0)
    ∷ reads_as (long 0x8A08 2101) (refuses 29 0)
    ∷ reads_as (long 0x8A08 2102) (refuses 21 0)
    ∷ case (e_reads (long 0x8A08 2101)) (gave (0x8A08 ∷ 1 ∷ 1 ∷ []))
    ∷ case (e_reads (long 0x8A08 2102)) (refuses 21 0)
    ∷ case (e_reads (long 0x8008 1016)) (refuses 21 0)
    ∷ case (e_answers (long 0x8A08 2101) (replicate 6 7) 5 []) (refuses 23 0)
    -- what is written: reserve 0, octets past the telegram stay, the length comes back; from texts the same
    ∷ case (remedy_writes 1 (3 ∷ 1 ∷ []) (2 ∷ 0 ∷ []) (0x61 ∷ 0x62 ∷ []) (replicate 46 0xEE)) (gave (44 ∷ two_texts 0 ++ (0xEE ∷ 0xEE ∷ [])))
    ∷ case (texts_writes 1 (3 ∷ 1 ∷ []) ((0x61 ∷ 0x62 ∷ []) ∷ [] ∷ []) (replicate 46 0xEE)) (gave (44 ∷ two_texts 0 ++ (0xEE ∷ 0xEE ∷ [])))
    -- what is no blocks comes first: a key too few, a length too few, lengths that do not add up to the area; even with no room
    ∷ writes_refused 1 (3 ∷ []) (2 ∷ 0 ∷ []) 2 46 29
    ∷ writes_refused 1 (3 ∷ 1 ∷ []) (2 ∷ []) 2 46 29
    ∷ writes_refused 1 (3 ∷ 1 ∷ []) (2 ∷ 0 ∷ []) 3 46 29
    ∷ writes_refused 1 (3 ∷ 1 ∷ []) (2 ∷ 0 ∷ []) 1 0 29
    ∷ case (texts_writes 1 (3 ∷ 1 ∷ 2 ∷ []) ([] ∷ [] ∷ []) []) (refuses 29 0)
    -- 25 before octet 23, and counting every block handed in, a ninth too
    ∷ writes_refused 2 (3 ∷ 1 ∷ []) (2 ∷ 0 ∷ []) 2 43 25
    ∷ writes_refused 1 (replicate 9 1) (replicate 9 0) 0 83 25
    ∷ writes_refused 1 (replicate 9 1) (replicate 9 0) 0 84 29
    ∷ writes_refused 1 [] [] 0 29 25
    ∷ writes_refused 1 [] [] 0 30 29
    -- octet 23 before a key; a key, a text of odd length and one too long; the second key the first's: alone, with an odd text, before a third key 9
    ∷ writes_refused 2 (0 ∷ []) (0 ∷ []) 0 36 29
    ∷ writes_refused 1 (9 ∷ []) (0 ∷ []) 0 36 29
    ∷ writes_refused 1 (1 ∷ []) (3 ∷ []) 3 39 29
    ∷ writes_refused 1 (1 ∷ []) (256 ∷ []) 256 292 29
    ∷ writes_refused 1 (3 ∷ 3 ∷ []) (0 ∷ 0 ∷ []) 0 42 30
    ∷ writes_refused 1 (3 ∷ 3 ∷ []) (0 ∷ 1 ∷ []) 1 43 29
    ∷ writes_refused 1 (3 ∷ 3 ∷ 9 ∷ []) (0 ∷ 0 ∷ 0 ∷ []) 0 48 30
    ∷ []

-- the one computed test
pub remedies_answered : map (λ c. case c.asked (ask c.asked)) cases ≡ cases
unfolding cases ask two_texts full_blocks number octets_of over refuse_if first_from first_bad all some requests is_request is_report e_limit e_reading answering start twice block_fault first_fault remedy_reading remedy_block remedy_text area_to
    block_octets blocks_to front_octets telegram_of size_to handed_fault remedy_writing
remedies_answered = refl
