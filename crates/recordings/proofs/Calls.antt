-- What the contract of the call tells: the answer is settled, right is said of what marshalling gives and of nothing else, what is said of a wrong bit, and
-- that going through the steps with the call is the judging of the recording. Assumes nothing.
use Prim.Native.Nat.{ℕ, suc, ◌+◌, ◌*◌, ◌/◌, ◌%◌, ◌≤◌}
use mathlib.Core.Path.{◌≡◌, refl, sym, ap, ◌∙◌}
use mathlib.Core.Logic.{◌↔◌}
use mathlib.Core.List.{List, [], ◌∷◌}
use native.Mathlib.Omega.{arith}
use Rattle.paper.specs.Octets.{Octets}
use Rattle.paper.specs.Answer.{Answer, gives, refused}
use Rattle.paper.specs.Recordings as paper
use Rattle.paper.specs.Recordings.{Step, Place, Finding, Course, going, ended, judged, concluded, recording, checking, most_steps}
use Rattle.paper.proofs.RecordingLaws.{checked, accepted_exactly, wrong_exactly, stays_ended}
use Rattle.std.specs.Prelude.{Option, Some, None, Result, Ok, Err}
use Rattle.refusals.specs.declared.Refusal.{Refusal}
use Rattle.refusals.specs.Refusal.{refusal_of}
use Rattle.refusals.proofs.Laws.{numbered, numbered_of}
use Rattle.reading.specs.declared.reason.Reason.{Reason}
use Rattle.reading.proofs.Laws.{reason_numbered, reason_numbered_of}
use Rattle.recordings.specs.declared.Routed.{Routed}
use Rattle.recordings.specs.declared.WrongBit.{WrongBit}
use Rattle.recordings.specs.Recordings.{place_in, place_of, checked_answer, Low}

-- ---- the answer is settled

placed : Place → Option Routed
placed (paper.in_route r reason) = Some (record { route = r; reason = reason_numbered reason })
placed paper.outside = None

placed_of : (o : Option Routed) → placed (place_in o) ≡ o
unfolding placed
placed_of (Some r) = ap (λ (x : Reason). Some (record { route = r.route; reason = x })) (reason_numbered_of r.reason)
placed_of None = refl

told : Answer Finding → Result (Option WrongBit) Refusal
told (gives paper.right) = Ok None
told (gives (paper.wrong a p)) = Ok (Some (record { octet = a / 8; bit = a % 8; route = placed p }))
told (refused n at) = Err (numbered n at)

told_of_lem : (c : Result (Option WrongBit) Refusal) → Low c → told (checked_answer c) ≡ c
unfolding told
told_of_lem (Ok None) low = refl
told_of_lem (Err f) low = ap Err (numbered_of f)
told_of_lem (Ok (Some w)) low =
    let octet : (8 * w.octet + w.bit) / 8 ≡ w.octet = omega (arith, low) in
    let bit : (8 * w.octet + w.bit) % 8 ≡ w.bit = omega (arith, low) in
    let route = placed_of w.route in
    λ i. Ok (Some (record { octet = octet i; bit = bit i; route = route i }))

-- two answers that meet the contract are equal
pub one_checked : (a : Answer Finding) (c d : Result (Option WrongBit) Refusal) → (checked_answer c ≡ a) × Low c → (checked_answer d ≡ a) × Low d → c ≡ d
one_checked a c d p q = sym (told_of_lem c p.1) ∙ ap told (p.0 ∙ sym q.0) ∙ told_of_lem d q.1

-- ---- what a call tells

said_right : (c : Result (Option WrongBit) Refusal) → checked_answer c ≡ gives paper.right → c ≡ Ok None
said_right (Ok None) e = refl
said_right (Ok (Some w)) e = let z : ◌≡◌ {A = ℕ} 0 1 = cc in absurd (omega arith)
said_right (Err f) e = let z : ◌≡◌ {A = ℕ} 0 1 = cc in absurd (omega arith)

module _ (form : ℕ) (xs : List ℕ) (k : ℕ) (last : List ℕ) (s : Step) (c : Result (Option WrongBit) Refusal) (e : checked_answer c ≡ checking form xs k last s) where
  -- a step of which the call names no wrong bit is exactly one whose data after marshalling gives
  pub answers_right : Octets s.before → Octets s.after → (c ≡ Ok None) ↔ paper.Right form xs k last s
  answers_right o p =
      let x = accepted_exactly form xs k last s o p in
      (λ q. x.0 (sym e ∙ ap checked_answer q), λ h. said_right c (e ∙ x.1 h))

  -- and one of which it names a wrong bit exactly one in which that bit is the first that differs, and lies where it says
  pub answers_wrong : (w : WrongBit) → Low c → Low (Ok (Some w)) → (c ≡ Ok (Some w)) ↔ paper.Wrong form xs k last s (8 * w.octet + w.bit) (place_of w)
  answers_wrong w low own =
      let x = wrong_exactly form xs k last s (8 * w.octet + w.bit) (place_of w) in
      (λ q. x.0 (sym e ∙ ap checked_answer q), λ h. one_checked (checking form xs k last s) c (Ok (Some w)) (e, low) (sym (x.1 h), own))

-- ---- going through the steps with the call

-- what a caller keeps after a step: the count and the data after of one that was right, or the step that ended the judging
abbrev pub keeps : ℕ → List ℕ → Result (Option WrongBit) Refusal → Course
keeps k after (Ok None) = going (suc k) after
keeps k after (Ok (Some w)) = ended k (checked_answer (Ok (Some w)))
keeps k after (Err f) = ended k (refusal_of f)

-- a caller asks no more once a step ended it
unfoldable pub through : (ℕ → List ℕ → Step → Result (Option WrongBit) Refusal) → Course → List Step → Course
through call c [] = c
through call (going k last) (s ∷ ss) = through call (keeps k s.after (call k last s)) ss
through call (ended k x) (s ∷ ss) = ended k x

-- each step can be lent, with the data after of the one before it
unfoldable pub AllLent : (List ℕ → Step → Type 0) → List ℕ → List Step → Type 0
AllLent Lent last [] = Unit {0}
AllLent Lent last (s ∷ ss) = Lent last s × AllLent Lent s.after ss

-- a call that keeps its contract for up to 1,000 steps before, and for what can be lent to it
module _ (form : ℕ) (xs : List ℕ) (call : ℕ → List ℕ → Step → Result (Option WrongBit) Refusal) (Lent : List ℕ → Step → Type 0)
    (meets : (k : ℕ) (last : List ℕ) (s : Step) → k ≤ most_steps → Lent last s → checked_answer (call k last s) ≡ checking form xs k last s) where
  -- each course of a caller is that of the judging
  pub through_judged : (k : ℕ) (last : List ℕ) (ss : List Step) → k ≤ most_steps → AllLent Lent last ss
      → through call (going k last) ss ≡ judged form xs (going k last) ss
  unfolding through judged paper.onward AllLent
  through_judged k last [] few lent = refl
  through_judged k last (s ∷ ss) few lent =
      rw (← meets k last s few lent.0) (by (call k last s) refl (λ lt. through_judged (suc k) s.after ss lt lent.1))
    where
      ends : (x : Answer Finding) → (ts : List Step) → through call (ended k x) ts ≡ judged form xs (ended k x) ts
      ends x [] = refl
      ends x (t ∷ ts) = sym (stays_ended form xs k x ts)

      by : (c : Result (Option WrongBit) Refusal) → call k last s ≡ c → (suc k ≤ most_steps → through call (going (suc k) s.after) ss ≡ judged form xs (going (suc k) s.after) ss)
          → through call (keeps k s.after c) ss ≡ judged form xs (paper.onward_by k s.after (checked_answer c)) ss
      by (Ok None) q rest = rest (checked form xs k last s paper.right (sym (meets k last s few lent.0) ∙ ap checked_answer q)).few
      by (Ok (Some w)) q rest = ends (checked_answer (Ok (Some w))) ss
      by (Err f) q rest = ends (refusal_of f) ss

  -- and with what it says of the list at the end, it is the recording's verdict
  pub through_recording : (ss : List Step) → AllLent Lent [] ss → concluded form xs (through call (going 0 []) ss) ≡ recording form xs ss
  unfolding recording
  through_recording ss lent = ap (concluded form xs) (through_judged 0 [] ss (omega arith) lent)
