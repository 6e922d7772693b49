-- A test made of tests, taken apart and put together. Assumes nothing.
use mathlib.Core.Path.{◌≡◌, refl, sym}
use mathlib.Core.Logic.{◌⊎◌, inl, inr}
use mathlib.Core.Bool.{Bool, true, false, not, ◌&&◌, ◌||◌, false≢true}
use borrow.Author.Tests.{not-true, not-false}

pub both : (a b : Bool) → (a && b) ≡ true → (a ≡ true) × (b ≡ true)
both true b e = (refl, e)
both false b e = absurd (false≢true e)

pub either : (a b : Bool) → (a || b) ≡ true → (a ≡ true) ⊎ (b ≡ true)
either true b e = inl refl
either false b e = inr e

pub neither : (a b : Bool) → (a || b) ≡ false → (a ≡ false) × (b ≡ false)
neither true b e = absurd (false≢true (sym e))
neither false b e = (refl, e)

pub other : (a b : Bool) → (a || b) ≡ true → a ≡ false → b ≡ true
other true b e f = absurd (false≢true (sym f))
other false b e f = e

-- put together by a call that tests the first part, which gave b, and answers false or asks the second
module _ {b x : Bool} (is : b ≡ x) (y : Bool) where
  pub stops_short : not b ≡ true → false ≡ (x && y)
  stops_short e = rw (← is, not-true b e)

  pub asks_on : not b ≡ false → (d : Bool) → d ≡ y → d ≡ (x && y)
  asks_on e d q = rw (← is, not-false b e) q
