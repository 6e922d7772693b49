-- Document 01, "Store, age and reading": a reading shown as a code, a speed in km/h, a percentage or a current. Document 02, C-23: what it is asked by.
use Rattle.std.specs.Prelude.{◌≡◌, Bool, true, false, not, cond, ◌&&◌, List, ℕ, zero, suc, ◌+◌, ◌-◌, ◌*◌, ◌/◌, ◌%◌, ◌^◌, ◌<◌, eqb, leb, ltb, Float}
use Rattle.std.specs.Float.{binary32}
use Rattle.std.specs.Float.Ieee.{to_bits, round}
use Rattle.paper.specs.Answer.{Answer, gives, refuse_if, and_then}
use Rattle.paper.specs.SignalList.{SignalList, under_list}
use Rattle.paper.specs.Reading.{Reading, reading_by}

-- "a percentage .. unsigned or two's complement as asked"
pub data Kind : Type 0 where
  code speed percentage signed_percentage current : Kind

-- a code is a whole number; a scaled kind is an f32
pub data Shown : Type 0 where
  as_code : ℕ → Shown
  as_speed as_percentage as_current : Float → Shown

-- the f32 nearest to n / d, with the sign s (true: negative)
abbrev pub nearest : Bool → ℕ → ℕ → Float
nearest s n d = round binary32 s n d

-- two's complement: from 32,768 up a raw value stands for raw - 65,536
abbrev pub signed_percent : ℕ → Float
signed_percent raw = cond (ltb raw 32768) (nearest false (raw * 25) 4096) (nearest true ((65536 - raw) * 25) 4096)

-- "speed = raw / 64; percentage = raw × 25 / 4096, unsigned or two's complement as asked; current = raw × 125 / 2048 A"
abbrev pub shown_as : Kind → ℕ → Shown
shown_as code raw = as_code raw
shown_as speed raw = as_speed (nearest false raw 64)
shown_as percentage raw = as_percentage (nearest false (raw * 25) 4096)
shown_as signed_percentage raw = as_percentage (signed_percent raw)
shown_as current raw = as_current (nearest false (raw * 125) 2048)

abbrev pub scaled : Kind → Bool
scaled code = false
scaled speed = true
scaled percentage = true
scaled signed_percentage = true
scaled current = true

-- a reading as the kind asks, with its reason
pub record ShownReading : Type 0 where
  pub shown : Shown
  pub reason : ℕ

abbrev pub shown_of : Kind → Reading → ShownReading
shown_of kind r = record { shown = shown_as kind r.value; reason = r.reason }

-- C-23: "26 then means only a scaled kind with width not 16"
abbrev pub shown_width : Kind → ℕ → Reading → Answer ShownReading
shown_width kind width r = refuse_if (scaled kind && not (eqb width 16)) 26 0 (gives (shown_of kind r))

-- behind the refusals of reading
abbrev pub showing_by : List ℕ → ℕ → ℕ → ℕ → Kind → SignalList → Answer ShownReading
showing_by store now v k kind l = and_then (reading_by store now v k l) (shown_width kind (l.signal k).width)

-- "showing is asked for by list, store, clock, vehicle, signal and kind": 1-4, then 5, 6 and 11, then 26
unfoldable pub showing : ℕ → List ℕ → List ℕ → ℕ → ℕ → ℕ → Kind → Answer ShownReading
showing form xs store now v k kind = under_list form xs (showing_by store now v k kind)

-- ---- "Each is an exact f32 (zero is +0), and exactness is proved over whole numbers worked out from its bits."

-- the 32 bits: a sign, 8 bits of exponent, 23 of fraction
abbrev pub minus : ℕ → Bool
minus b = leb (2 ^ 31) b

abbrev pub exponent : ℕ → ℕ
exponent b = b % 2 ^ 31 / 2 ^ 23

abbrev pub fraction : ℕ → ℕ
fraction b = b % 2 ^ 23

-- the size in units of 2 ^ -149, the smallest there is; an exponent of 0 has no leading one and counts as 1
abbrev pub units_at : ℕ → ℕ → ℕ
units_at zero f = f
units_at (suc x) f = (2 ^ 23 + f) * 2 ^ x

unfoldable pub units : ℕ → ℕ
units b = units_at (exponent b) (fraction b)

-- the bits are those of a number (an exponent of 255 marks the others) of sign s whose size is n / d, nothing lost:
-- units * 2 ^ -149 = n / d, multiplied out
pub record ExactBits (b : ℕ) (s : Bool) (n d : ℕ) : Type 0 where
  pub finite : exponent b < 255
  pub sign : minus b ≡ s
  pub size : units b * d ≡ n * 2 ^ 149

abbrev pub Exactly : Float → Bool → ℕ → ℕ → Type 0
Exactly x s n d = ExactBits (to_bits binary32 x) s n d

abbrev pub SignedExactly : Bool → ℕ → Float → Type 0
SignedExactly true raw x = Exactly x false (raw * 25) 4096
SignedExactly false raw x = Exactly x true ((65536 - raw) * 25) 4096

-- what a shown reading is worth: a code is the whole number as given; each scaled kind is an f32 in its own case, exact by its bits
abbrev pub Exact : Kind → ℕ → Shown → Type 0
Exact code raw s = s ≡ as_code raw
Exact speed raw s = (x : Float) × ((s ≡ as_speed x) × Exactly x false raw 64)
Exact percentage raw s = (x : Float) × ((s ≡ as_percentage x) × Exactly x false (raw * 25) 4096)
Exact signed_percentage raw s = (x : Float) × ((s ≡ as_percentage x) × SignedExactly (ltb raw 32768) raw x)
Exact current raw s = (x : Float) × ((s ≡ as_current x) × Exactly x false (raw * 125) 2048)
