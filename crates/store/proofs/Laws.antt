-- Five runs of octets are one slot, and the tests of a taking are its refusals. Assumes nothing.
use Rattle.std.proofs.Common.{◌≡◌, ℕ, ◌+◌, ◌-◌, ◌≤◌, List, [], ◌∷◌, ◌++◌, length, take, drop, set, replicate, cond, Option, Some, None, Result, sym, refl, ap, ◌∙◌, append_assoc, add-one, arith, length-append, length-drop, length-take}
use lib.ListN.{length-replicate}
use lib.Seq.{set_split}
use Rattle.paper.specs.Answer.{Answer, gives, and_then}
use Rattle.paper.specs.Octets.{octets_of, over}
use Rattle.paper.specs.Store.{telegram_octets, slot_head, slot_octets, store_octets, vehicles, slot_start, slot_to, taken, taking, Takes}
use Rattle.paper.specs.Reading as paper
use Rattle.paper.proofs.AnswerLaws.{past}
use Rattle.paper.proofs.NumberLaws.{length-octets_of, over-over}
use Rattle.paper.proofs.StoreLaws.{takes}
use Rattle.refusals.specs.declared.Refusal.{Refusal}
use Rattle.refusals.proofs.WrittenLaws.{one_result}
use Rattle.store.specs.declared.Held.{Held}
use Rattle.store.specs.Store.{as_held, held_answer, gap_answer, telegram_tests, taking_tests}

-- ---- the slot

over_one : (l : List ℕ) (k a : ℕ) → k + 1 ≤ length l → set l k a ≡ over l k (a ∷ [])
unfolding over
over_one l k a h = rw add-one (set_split l k a (omega arith))

-- a run that starts where the one before ends
run : (l : List ℕ) (a : ℕ) (x y : List ℕ) (b : ℕ) → a + length x ≡ b → b + length y ≤ length l → over (over l a x) b y ≡ over l a (x ++ y)
run l a x y b e h = ap (λ (n : ℕ). over (over l a x) n y) (sym e) ∙ over-over l a x y (omega arith)

-- heard, stamp, previous stamp, telegram and zeros
pub five_runs : (store : List ℕ) (at now before : ℕ) (telegram : List ℕ) → at + slot_octets ≤ length store → length telegram ≤ telegram_octets
    → let n = length telegram in
    let head = over (over (set store at 1) (at + 1) (octets_of 4 now)) (at + 5) (octets_of 4 before) in
    over (over head (at + slot_head) telegram) (at + slot_head + n) (replicate (telegram_octets - n) 0)
    ≡ over store at (slot_to now before telegram)
five_runs store at now before telegram h short =
    let stamp : List ℕ = 1 ∷ octets_of 4 now in
    let s : length stamp ≡ 5 = omega (arith, length-octets_of 4 now) in
    let stamps : List ℕ = stamp ++ octets_of 4 before in
    let p : length stamps ≡ slot_head = length-append stamp (octets_of 4 before) ∙ omega (arith, length-octets_of 4 before) in
    let t : length (stamps ++ telegram) ≡ slot_head + length telegram = length-append stamps telegram ∙ omega arith in
    let zeros : List ℕ = replicate (telegram_octets - length telegram) 0 in
    let z : length zeros ≡ telegram_octets - length telegram = length-replicate (telegram_octets - length telegram) 0 in
    rw (
      over_one store at 1 (omega arith),
      run store at (1 ∷ []) (octets_of 4 now) (at + 1) refl (omega (arith, length-octets_of 4 now)),
      run store at stamp (octets_of 4 before) (at + 5) (omega arith) (omega (arith, length-octets_of 4 before)),
      run store at stamps telegram (at + slot_head) (omega arith) (omega arith),
      run store at (stamps ++ telegram) zeros (at + slot_head + length telegram) (omega arith) (omega arith),
    )
    (ap (λ (x : List ℕ). over store at (1 ∷ x))
    (ap (λ (x : List ℕ). x ++ zeros) (append_assoc (octets_of 4 now) (octets_of 4 before) telegram)
    ∙ append_assoc (octets_of 4 now) (octets_of 4 before ++ telegram) zeros
    ∙ ap (λ (x : List ℕ). octets_of 4 now ++ x) (append_assoc (octets_of 4 before) telegram zeros)))

-- a vehicle's slot is whole
pub slot_whole : (store : List ℕ) (v : ℕ) → length store ≡ store_octets → 1 ≤ v → v ≤ vehicles → length (take slot_octets (drop (slot_start v) store)) ≡ slot_octets
slot_whole store v whole first last = simp (length-take, length-drop) (omega arith)

-- ---- the tests

module _ (store : List ℕ) (v now : ℕ) (telegram : List ℕ) where
  pub tested : taking store v now telegram ≡ and_then (taking_tests (length store) v telegram) (λ _. gives (taken store v now telegram))
  unfolding taking taking_tests telegram_tests
  tested =
      past _ 5 0 _ _ _ (past _ 6 0 _ _ _ (past _ 7 0 _ _ _ (past _ 8 0 _ _ _ (past _ 9 0 _ _ _ (past _ 10 0 _ _ _ refl)))))

  pub tested_takes : gives tt ≡ taking_tests (length store) v telegram → Takes store v telegram
  tested_takes e = (takes store v now telegram (taken store v now telegram) (rw (tested, ← e))).0

-- ---- what is held, and the gap

-- what is held can be told from the paper's, so any two results that the contract admits are equal
held_told : paper.Held → Option Held
held_told h = cond h.heard (Some (record { expired = h.expired; kind = h.type; version = h.version; age = h.age })) None

held_told_of : (h : Option Held) → held_told (as_held h) ≡ h
unfolding held_told
held_told_of (Some h) = refl
held_told_of None = refl

pub one_held : (a : Answer paper.Held) (v w : Result (Option Held) Refusal) → held_answer v ≡ a → held_answer w ≡ a → v ≡ w
one_held = one_result as_held held_told held_told_of

pub one_gap : (a : Answer ℕ) (v w : Result ℕ Refusal) → gap_answer v ≡ a → gap_answer w ≡ a → v ≡ w
one_gap = one_result (λ n. n) (λ n. n) (λ n. refl)
