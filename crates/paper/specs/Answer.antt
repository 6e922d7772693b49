-- Document 01, "Refusal numbers": what a call answers. Each refusal "returns its number and changes no lent octet".
use Rattle.std.specs.Prelude.{ℕ, ◌+◌, ◌≤◌, ◌≡◌, Bool, true, false, List}

-- a call gives a value, or is refused by a number of the paper with what that refusal carries: 1-4 and 34 the offset of the count, of
-- the entry or of the first octet too many, 15 the signal at fault, every other number nothing (0)
pub data Answer (A : Type 0) : Type 0 where
  gives : A → Answer A
  refused : ℕ → ℕ → Answer A

-- the refusal n where the test holds, else what follows
unfoldable pub refuse_if : {A : Type 0} → Bool → ℕ → ℕ → Answer A → Answer A
refuse_if true n at rest = refused n at
refuse_if false n at rest = rest

-- a refusal ends the call; what is given is handed on
abbrev pub and_then : {A B : Type 0} → Answer A → (A → Answer B) → Answer B
and_then (gives a) k = k a
and_then (refused n at) k = refused n at

-- the answer of a part that starts b octets on: an offset is always of the whole list
abbrev pub shift : {A : Type 0} → ℕ → Answer A → Answer A
shift b (gives a) = gives a
shift b (refused n at) = refused n (b + at)

-- what a lent area holds after a call that gives its new contents; a refusal changes no lent octet
abbrev pub after : List ℕ → Answer (List ℕ) → List ℕ
after old (gives new) = new
after old (refused n at) = old

-- the same answer without what it gives
abbrev pub forget : {A : Type 0} → Answer A → Answer (Unit {0})
forget (gives a) = gives tt
forget (refused n at) = refused n at

abbrev pub map_answer : {A B : Type 0} → (A → B) → Answer A → Answer B
map_answer f (gives a) = gives (f a)
map_answer f (refused n at) = refused n at

-- the call is not refused
abbrev pub Given : {A : Type 0} → Answer A → Type 0
Given {A} a = (x : A) × (a ≡ gives x)

-- a refusal's number is never 0
unfoldable pub Numbered : {A : Type 0} → Answer A → Type 0
Numbered (gives a) = Unit {0}
Numbered (refused n at) = 1 ≤ n

-- what is looked for, or that there is none
pub data Sought (A : Type 0) : Type 0 where
  found : A → Sought A
  nothing : Sought A
