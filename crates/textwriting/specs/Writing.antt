-- What the parts of the writer ask and answer, and the paper's answer for each result of a call.
use Rattle.std.specs.Prelude.{Option, Some, None, Result, ℕ, ◌≤◌, ◌<◌, ◌≡◌, Bool, true, not, cond, ◌&&◌, List, [], ◌∷◌, leb, length}
use Rattle.paper.specs.Answer.{Answer, after, map_answer}
use Rattle.paper.specs.First.{first_of}
use Rattle.paper.specs.Remedies.{Blocks, Handed, WrittenRemedies, field_rule, front_octets, size_to}
use Rattle.refusals.specs.declared.Refusal.{Refusal}
use Rattle.refusals.specs.Outcome.{answer_of}
use Rattle.texts.specs.Texts.{holds}

-- how many octets were written
abbrev pub wrote_answer : Result ℕ Refusal → Answer ℕ
wrote_answer = answer_of (λ x. x)

-- the length that was written, and the output afterwards, which is as it was where the call is refused
pub record WroteAs (answer : Answer WrittenRemedies) (old : List ℕ) (r : Result ℕ Refusal) (new : List ℕ) : Type 0 where
  pub size : wrote_answer r ≡ map_answer (λ w. w.size) answer
  pub octets : new ≡ after old (map_answer (λ w. w.octets) answer)

abbrev pub handed_of : List ℕ → List ℕ → ℕ → ℕ → Blocks → Handed
handed_of head carried language ordered blocks = record { head = head; carried = carried; language = language; ordered = ordered; blocks = blocks }

-- the telegram's octets, where the room holds them
abbrev pub size_in : Blocks → ℕ → Option ℕ
size_in b room = cond (leb (size_to b b.many) room) (Some (size_to b b.many)) None

-- a block's fault as handed in, by a set of keys
unfoldable pub handed_at : ℕ → ℕ → ℕ → ℕ
handed_at key size seen = first_of 29 (not (field_rule key size) ∷ holds seen key ∷ []) 0

-- octets 1 to 30, which of the blocks hold only their number
abbrev pub front_of : List ℕ → List ℕ → ℕ → ℕ → ℕ → List ℕ
front_of head carried language ordered many = front_octets (handed_of head carried language ordered (record { agree = true; many = many; key = λ k. 0; text = λ k. [] }))

-- the blocks' texts are in their range, and the telegram has room
pub record Fit (b : Blocks) (room : ℕ) : Type 0 where
  pub fits : size_to b b.many ≤ room
  pub short : (k : ℕ) → k < b.many → length (b.text k) ≤ 254

-- octets 23 and 24 as handed in
abbrev pub count_holds : ℕ → ℕ → Bool
count_holds ordered n = leb ordered 1 && leb 1 n && leb n 8
