-- The rule of an entry behind what a loop carries of the one before; of a signal's entry in two parts: its own, and the bits that it may share with a check.
-- Assumes nothing.
use Prim.Native.Nat.{ℕ, zero, suc, ◌+◌, ◌-◌, ◌<◌}
use mathlib.Core.Path.{◌≡◌, refl}
use mathlib.Core.Bool.{Bool, true, false, not, cond, ◌&&◌, ◌||◌, and_assoc, or-false}
use native.Mathlib.Decide.{ℕ_discrete, dec_lt}
use native.Mathlib.Omega.{arith}
use lib.Dec.{ltb, leb, eqb}
use borrow.Author.Tests.{lt-ltb, le-ltb, le-leb, lt-leb, eq-eqb, ne_eqb}
use Rattle.paper.specs.SignalList.{Signal, Code, Route, field_end, type_rule, place_rule, named_rule, clear_rule, signal_rule, signal_rule_to, code_order, code_rule, route_end, route_rule}
use Rattle.bools.proofs.Tests.{stops_short, asks_on}
use Rattle.entries.specs.Entries.{in_order, Parted, part_keeps, own_keeps, code_low, code_past, code_keeps, route_keeps}

-- a loop at entry k carries as p what f gives of the entry before, 0 at the first
pub record Before (f : ℕ → ℕ) (k p : ℕ) : Type 0 where
  pub first : k ≡ 0 → p ≡ 0
  pub next : 0 < k → p ≡ f (k - 1)

module _ {f : ℕ → ℕ} where
  pub before_first : Before f 0 0
  before_first = record { first = λ z. refl; next = λ h. absurd (omega arith) }

  pub before_next : (k : ℕ) {p : ℕ} → p ≡ f k → Before f (k + 1) p
  before_next k e = let y : k + 1 - 1 ≡ k = omega arith in record { first = λ z. absurd (omega arith); next = λ h. rw y e }

-- a test of what is carried, which 0 passes, is the rule's test of the entry before, if there is one
asks_before : (ok : ℕ → ℕ → Bool) → ok 0 0 ≡ true → {f g : ℕ → ℕ} {a b : ℕ} (k : ℕ) → Before f k a → Before g k b
    → ok a b ≡ (eqb k 0 || ok (f (k - 1)) (g (k - 1)))
asks_before ok free zero x y = rw (x.first refl, y.first refl) free
asks_before ok free (suc k) x y = rw (ne_eqb (suc k) 0 (λ z. omega arith), x.next (omega arith), y.next (omega arith))

first_in_order : (group start : ℕ) → in_order 0 0 group start ≡ true
first_in_order zero start = rw (le-leb 0 start (omega arith))
first_in_order (suc group) start = rw (lt-ltb 0 (suc group) (omega arith))

low_only : (t : Bool) → cond t true false ≡ (t || false)
low_only true = refl
low_only false = refl

high_only : (t : Bool) → cond t false true ≡ not t
high_only true = refl
high_only false = refl

neither_one : (t : Bool) → cond t false false ≡ false
neither_one true = refl
neither_one false = refl

-- the type's, the place's and the named check's rules by the number of common checks
module _ {checks : ℕ} {check : ℕ → ℕ} {common : ℕ} (parted : Parted checks check common) where
  named_by : (t : Bool) (c : ℕ) → cond t (leb c common) ((eqb c 0 || ltb common c) && leb c checks)
      ≡ (eqb c 0 || leb c checks && (ltb (check (c - 1)) 320 && t || not (ltb (check (c - 1)) 320) && not t))
  named_by true zero = le-leb 0 common (omega arith)
  named_by false zero = le-leb 0 checks (omega arith)
  named_by t (suc c) =
      let z : suc c - 1 ≡ c = omega arith in
      rw (z, ne_eqb (suc c) 0 (λ e. omega arith)) (elim (dec_lt c common) [
        | yes h ↦
            rw (le-leb (suc c) common (omega arith), le-ltb common (suc c) (omega arith), le-leb (suc c) checks (omega (arith, parted.within)), lt-ltb (check c) 320 (parted.low c h))
            (low_only t)
        | no h ↦
            rw (lt-leb (suc c) common (omega arith), lt-ltb common (suc c) (omega arith)) (elim (dec_lt c checks) [
              | yes lt ↦ rw (le-leb (suc c) checks (omega arith), le-ltb (check c) 320 (parted.high c (omega arith) lt)) (high_only t)
              | no ge ↦ rw (lt-leb (suc c) checks (omega arith)) (neither_one t)
            ])
      ])

  part_keeps_lem : (s : Signal) → part_keeps checks common s ≡ (type_rule s && place_rule s && named_rule checks check s)
  unfolding part_keeps
  part_keeps_lem s = elim (ℕ_discrete s.type 0) [
    | yes e ↦ rw (e, ← (named_by true s.check), or-false)
    | no h ↦ rw (ne_eqb s.type 0 h, ← (named_by false s.check))
  ]

module _ (checks : ℕ) (check : ℕ → ℕ) (signal : ℕ → Signal) (k : ℕ) {common kind past : ℕ} {s : Signal} (parted : Parted checks check common)
    (type : Before (λ j. (signal j).type) k kind) (end : Before (λ j. field_end (signal j)) k past) (here : s ≡ signal k) where
  in_two : signal_rule checks check signal k ≡ (own_keeps checks common kind past s && clear_rule checks check s)
  unfolding signal_rule_to own_keeps
  in_two =
      rw (here, part_keeps_lem parted (signal k), asks_before (λ a b. in_order a b (signal k).type (signal k).start) (first_in_order (signal k).type (signal k).start) k type end)
      (simp and_assoc)

  -- b is what the test of its own part gave: it settles the entry, or leaves it to the checks
  module _ {b : Bool} (is : b ≡ own_keeps checks common kind past s) where
    pub own_breaks : not b ≡ true → false ≡ signal_rule checks check signal k
    own_breaks e = rw in_two (stops_short is _ e)

    pub own_passes : not b ≡ false → {clear : Bool} → clear ≡ clear_rule checks check s → clear ≡ signal_rule checks check signal k
    own_passes e q = rw in_two (asks_on is _ e _ q)

-- codes are in order exactly if their keys are
keys_in_order : (p c : Code) → c.low < 65536 → leb (code_past p) (code_low c) ≡ code_order p c
keys_in_order p c small =
    elim (dec_lt p.signal c.signal) [
      | yes less ↦ rw (lt-ltb _ _ less) (le-leb (code_past p) (code_low c) (omega arith))
      | no ge ↦ rw (le-ltb p.signal c.signal (omega arith)) (elim (dec_lt c.signal p.signal) [
        | yes more ↦ rw (ne_eqb p.signal c.signal (λ z. omega arith)) (lt-leb (code_past p) (code_low c) (omega arith))
        | no same ↦ rw (eq-eqb p.signal c.signal (omega arith)) (elim (dec_lt c.low (p.high + 2)) [
          | yes near ↦ rw (lt-leb _ _ near) (lt-leb (code_past p) (code_low c) (omega arith))
          | no past ↦ rw (le-leb (p.high + 2) c.low (omega arith)) (le-leb (code_past p) (code_low c) (omega arith))
        ])
      ])
    ]

module _ (signals : ℕ) (signal : ℕ → Signal) where
  pub code_keeps_lem : (code : ℕ → Code) (k : ℕ) {least : ℕ} {c : Code} → Before (λ j. code_past (code j)) k least → c ≡ code k → c.low < 65536
      → code_keeps signals signal least c ≡ code_rule signals signal code k
  unfolding code_keeps code_rule
  code_keeps_lem code k x here small =
      rw (here, asks_before (λ a b. leb a (code_low (code k))) (le-leb 0 (code_low (code k)) (omega arith)) k x x, keys_in_order (code (k - 1)) (code k) (rw here at small))

  pub route_keeps_lem : (route : ℕ → Route) (k : ℕ) {past : ℕ} {r : Route} → Before (λ j. route_end signal (route j)) k past → r ≡ route k
      → route_keeps signals signal past r ≡ route_rule signals signal route k
  unfolding route_keeps route_rule
  route_keeps_lem route k x here = rw (here, asks_before (λ a b. leb a (route k).start) (le-leb 0 (route k).start (omega arith)) k x x)
