-- "Each is an exact f32 (zero is +0)": of every reading that is shown, by the bits of its f32; of the definition and of the call. Assumes nothing.
use mathlib.Core.Path.{◌≡◌, refl, sym, ap, subst, ◌∙◌}
use mathlib.Core.Bool.{Bool, true, false, cond}
use mathlib.Core.List.{List}
use Prim.Native.Nat.{ℕ, ◌-◌, ◌*◌, ◌^◌, ◌<◌, ◌≤◌}
use native.Mathlib.Omega.{arith}
use lib.Dec.{ltb}
use lib.Pow.{pow_pos}
use lib.Ieee.{binary32, to_bits}
use lib.Ieee.Bits.{to_bits-lt}
use lib.Ieee.Fits.{round-fits}
use borrow.Author.Tests.{ltb-false}
use Rattle.std.specs.Prelude.{Ok}
use Rattle.paper.specs.Answer.{gives}
use Rattle.paper.specs.Reading.{Reading, reading}
use Rattle.paper.specs.Shown.{Kind, code, speed, percentage, signed_percentage, current, Shown, as_code, as_speed, as_percentage, as_current}
use Rattle.paper.specs.Shown.{nearest, signed_percent, shown_as, scaled, ShownReading, showing, SignedExactly, Exact}
use Rattle.paper.proofs.ShownLaws.{shows, shown_fits}
use Rattle.shown.specs.declared.Kind.{Kind as KindOf}
use Rattle.shown.specs.declared.ShownReading.{ShownReading as Answered}
use Rattle.shown.specs.Show.{kind_of, reading_of, showing_answer}
use Rattle.shown.proofs.Scales.{exact, zero_bits}

-- each value on its scale is exact: one law, at each scale
signed_exact : (raw : ℕ) → raw < 65536 → (b : Bool) → ltb raw 32768 ≡ b
    → SignedExactly b raw (cond b (nearest false (raw * 25) 4096) (nearest true ((65536 - raw) * 25) 4096))
signed_exact raw h true e = exact false (raw * 25) 12 (omega arith) (omega arith)
signed_exact raw h false e = exact true ((65536 - raw) * 25) 12 (omega (arith, ltb-false raw 32768 e)) (omega arith)

pub exact_value : (k : Kind) (raw : ℕ) → (scaled k ≡ true → raw < 65536) → Exact k raw (shown_as k raw)
exact_value code raw h = refl
exact_value speed raw h = (nearest false raw 64, (refl, exact false raw 6 (omega (arith, h refl)) (omega arith)))
exact_value percentage raw h = (nearest false (raw * 25) 4096, (refl, exact false (raw * 25) 12 (omega (arith, h refl)) (omega arith)))
exact_value signed_percentage raw h = (signed_percent raw, (refl, signed_exact raw (h refl) (ltb raw 32768) refl))
exact_value current raw h = (nearest false (raw * 125) 2048, (refl, exact false (raw * 125) 11 (omega (arith, h refl)) (omega arith)))

-- zero is +0, all 32 bits clear, whatever the kind
abbrev pub PlusZero : Shown → Type 0
PlusZero (as_code c) = c ≡ 0
PlusZero (as_speed x) = to_bits binary32 x ≡ 0
PlusZero (as_percentage x) = to_bits binary32 x ≡ 0
PlusZero (as_current x) = to_bits binary32 x ≡ 0

nought : (k : ℕ) → k ≤ 149 → to_bits binary32 (nearest false 0 (2 ^ k)) ≡ 0
nought k h =
    zero_bits _ (2 ^ k) (to_bits-lt binary32 (nearest false 0 (2 ^ k)) (round-fits binary32 false 0 (2 ^ k))) (pow_pos k) (exact false 0 k (pow_pos 24) h)

pub zero_value : (k : Kind) → PlusZero (shown_as k 0)
zero_value code = refl
zero_value speed = nought 6 (omega arith)
zero_value percentage = nought 12 (omega arith)
zero_value signed_percentage = nought 12 (omega arith)
zero_value current = nought 11 (omega arith)

-- what a reading is shown as: its value on its scale, exact; its reason; zero is +0
pub record ShownExactly (form : ℕ) (xs store : List ℕ) (now v k : ℕ) (kind : Kind) (s : ShownReading) : Type 0 where
  pub read : Reading
  pub reads_it : reading form xs store now v k ≡ gives read
  pub exact_f32 : Exact kind read.value s.shown
  pub zero : read.value ≡ 0 → PlusZero s.shown
  pub reason : s.reason ≡ read.reason

pub exact_shown : (form : ℕ) (xs store : List ℕ) (now v k : ℕ) (kind : Kind) (s : ShownReading) → showing form xs store now v k kind ≡ gives s
    → ShownExactly form xs store now v k kind s
exact_shown form xs store now v k kind s e =
    let h = shows form xs store now v k kind s e in
    let same : shown_as kind h.read.value ≡ s.shown = ap (λ (x : ShownReading). x.shown) h.is in
    record {
      read = h.read;
      reads_it = h.reads_it;
      exact_f32 = subst (Exact kind h.read.value) same (exact_value kind h.read.value (shown_fits form xs store now v k kind s h));
      zero = λ z. subst PlusZero (ap (shown_as kind) (sym z) ∙ same) (zero_value kind);
      reason = sym (ap (λ (x : ShownReading). x.reason) h.is);
    }

-- of the call: whatever it shows, by its contract
pub call_exact : (form : ℕ) (xs store : List ℕ) (now v k : ℕ) (kind : KindOf) (s : Answered)
    → showing_answer (Ok s) ≡ showing form xs store now v k (kind_of kind)
    → ShownExactly form xs store now v k (kind_of kind) (reading_of s)
call_exact form xs store now v k kind s meets = exact_shown form xs store now v k (kind_of kind) _ (sym meets)
