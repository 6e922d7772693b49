-- The parts of composing are the paper's, and what is written lies within the telegram. Assumes nothing.
use Prim.Native.Nat.{ℕ, ◌+◌, ◌-◌, ◌*◌, ◌≤◌, ◌<◌}
use mathlib.Core.Path.{◌≡◌, refl, sym, ap, subst, ◌∙◌}
use mathlib.Core.Bool.{true}
use mathlib.Core.List.{List, [], ◌∷◌, ◌++◌, append-nil}
use native.Mathlib.Omega.{arith}
use lib.ListN.{length, drop, set, replicate, length-replicate}
use lib.Seq.{drop-length}
use borrow.Author.Tests.{leb-true, eqb-true, not-false}
use Rattle.paper.specs.Octets.{over}
use Rattle.std.specs.Prelude.{Result}
use Rattle.paper.specs.Answer.{Answer, gives, and_then}
use Rattle.paper.specs.Telegrams.{type_length, mark_width}
use Rattle.paper.specs.SignalList.{SignalList, judge, list_of, under_list}
use Rattle.paper.specs.Composing.{writes_signal, writes_check, headed, composing_by, composing}
use Rattle.paper.proofs.ListLaws.{kept_of, version_here}
use Rattle.paper.proofs.AnswerLaws.{not_refused, past, same_then}
use Rattle.bools.proofs.Tests.{both}
use Rattle.paper.specs.Accepted.{Kept}
use Rattle.paper.proofs.ComposingLaws.{carried_within, version_octet}
use Rattle.refusals.specs.declared.Refusal.{Refusal}
use Rattle.refusals.specs.Refusal.{number_of, carried_of, refusal_of}
use Rattle.refusals.specs.Outcome.{Written}
use Rattle.refusals.proofs.WrittenLaws.{HandedOn, handed_on, written_refused}
use Rattle.lists.specs.declared.accepted.AcceptedList.{AcceptedList}
use Rattle.lists.specs.Judged.{counts_of}
use Rattle.lists.specs.Listed.{list_as}
use Rattle.lists.proofs.Laws.{under_accepted, under_refused}
use Rattle.octets.specs.Fields.{Within}
use Rattle.composing.specs.Composing.{head_of, Room, composing_tests, composing_under}

-- what an accepted list keeps
pub listed_kept : (l : AcceptedList) → Kept (list_as l)
listed_kept l = kept_of l.octets.now (counts_of l.counts) l.laid

-- ---- what is written lies within the telegram

module _ (l : SignalList) (h : Kept l) (type : ℕ) (out : List ℕ) (long : length out ≡ type_length type) where
  pub signal_there : (k : ℕ) → k < l.signals → writes_signal l type k ≡ true → Within out (l.signal k).start (l.signal k).width
  signal_there k lt w = record { some = (h.signal k lt).some; wide = omega (arith, (h.signal k lt).wide); inside = rw long (carried_within l h type k lt w).1 }

  pub check_there : (j : ℕ) → writes_check l type j ≡ true → Within out (l.check j) mark_width
  check_there j w = record { some = omega arith; wide = omega arith; inside = omega (arith, leb-true (l.check j + mark_width) (8 * type_length type) w) }

-- ---- the head

pub written_head : (out : List ℕ) (a b n : ℕ) → length out ≡ n → 2 ≤ n → over (set (set out 0 a) 1 b) 2 (replicate (n - 2) 0) ≡ a ∷ b ∷ replicate (n - 2) 0
unfolding over
written_head [] a b n e h = absurd (omega arith)
written_head (x ∷ []) a b n e h = absurd (omega arith)
written_head (x ∷ y ∷ l) a b n e h =
    let zeros : List ℕ = replicate (n - 2) 0 in
    let z : 2 + length zeros ≡ length (a ∷ b ∷ l) = omega (arith, length-replicate {A = ℕ} (n - 2) 0) in
    ap (λ (m : List ℕ). a ∷ b ∷ zeros ++ m) (ap (λ (i : ℕ). drop i (a ∷ b ∷ l)) z ∙ drop-length (a ∷ b ∷ l)) ∙ ap (λ (m : List ℕ). a ∷ b ∷ m) (append-nil zeros)

pub head_is : (l : AcceptedList) (type : ℕ) → head_of type l.counts.version ≡ headed (list_as l) type
unfolding headed
head_is l type = rw (version_here l.octets.now (counts_of l.counts) l.laid)

pub version_small : (l : AcceptedList) → l.counts.version < 256
version_small l =
    let n = counts_of l.counts in
    omega (arith, version_here l.octets.now n l.laid, version_octet (list_as l) (listed_kept l))

-- ---- the tests

pub tested_by : (l : SignalList) (type : ℕ) (values marks : List ℕ) (room : ℕ) → composing_by type values marks room l ≡ composing_under l type values marks room
unfolding composing_tests
tested_by l type values marks room = past _ 9 0 _ _ _ (past _ 13 0 _ _ _ (past _ 14 0 _ _ _ (past _ 15 _ _ _ _ (past _ 16 0 _ _ _ refl))))

pub tested : (form : ℕ) (xs : List ℕ) (type : ℕ) (values marks : List ℕ) (room : ℕ)
    → composing form xs type values marks room ≡ and_then (judge form xs) (λ n. composing_under (list_of xs n) type values marks room)
unfolding composing
tested form xs type values marks room = same_then (judge form xs) _ _ (λ n. tested_by (list_of xs n) type values marks room)

-- what the tests ask of the sizes
pub sized : (l : SignalList) (type : ℕ) (values marks : List ℕ) (room : ℕ) → gives tt ≡ composing_tests l type values marks room
    → (length values ≡ l.signals) × (length marks ≡ l.checks) × (Room type room)
unfolding composing_tests
sized l type values marks room e =
    let a = not_refused _ _ _ _ _ (sym e) in
    let b = not_refused _ _ _ _ _ a.1 in
    let c = not_refused _ _ _ _ _ b.1 in
    let d = not_refused _ _ _ _ _ c.1 in
    let f = not_refused _ _ _ _ _ d.1 in
    let p = both _ _ (not-false _ b.0) in
    (eqb-true _ _ p.0, eqb-true _ _ p.1, record { typed = not-false _ a.0; long = eqb-true _ _ (not-false _ f.0) })

-- ---- a call by a list that writes: it is refused as judging is, or goes on with what is accepted

module _ (form : ℕ) (xs : List ℕ) (call : SignalList → Answer (List ℕ)) where
  pub written_list : {r : Result (Unit {0}) Refusal} (f : Refusal) (old : List ℕ) → HandedOn r f → refusal_of f ≡ under_list form xs gives
      → Written (under_list form xs call) old r old
  written_list {r} f old h e = rw (handed_on r f h) (written_refused f _ old (under_refused form xs call (number_of f) (carried_of f) e))

  pub written_listed : (l : SignalList) {old : List ℕ} {r : Result (Unit {0}) Refusal} {new : List ℕ} → gives l ≡ under_list form xs gives
      → Written (call l) old r new → Written (under_list form xs call) old r new
  written_listed l {old} {r} {new} e w =
      subst (λ (a : Answer (List ℕ)). Written a old r new) (under_accepted form xs call l (call l) e refl) w
