-- The laws of the search for the first wrong bit, and how the answer is put together. Assumes nothing.
use Prim.Native.Nat.{ℕ, zero, suc, ◌+◌, ◌-◌, ◌*◌, ◌/◌, ◌%◌, ◌^◌, ◌≤◌, ◌<◌}
use mathlib.Core.Path.{◌≡◌, refl, sym, ap, ◌∙◌}
use mathlib.Core.Logic.{◌⊎◌, inl, inr}
use mathlib.Core.Bool.{Bool, true, false, not}
use mathlib.Core.List.{List}
use native.Mathlib.Nat.{eq-or-lt_of_le, add-zero}
use native.Mathlib.Omega.{arith}
use native.Mathlib.Decide.{dec_lt, ℕ_discrete}
use lib.ListN.{length, get_or, take, drop, length-drop}
use lib.Seq.{get_or-drop, take_all, ext_get_or}
use lib.Pointwise.{pointwise}
use Rattle.std.proofs.lemmas.Bool.Decides.{Decides-eqb, Decides-like, same_from_decides}
use Rattle.std.proofs.lemmas.Slice.Eq.{slice_eq-Decides}
use lib.Dec.{eqb}
use lib.Arith.{digits_lt}
use lib.Pow.{pow-add, pow_mono, shl_exact, shr-shr, high, low}
use borrow.Author.Tests.{ne_eqb, lt-ltb, le-ltb}
use Rattle.paper.specs.Octets.{bit, field, Octets}
use Rattle.paper.specs.SignalList.{SignalList, route_end}
use Rattle.paper.specs.Marshalling.{routed, marshalled}
use Rattle.paper.specs.Accepted.{Kept}
use Rattle.paper.specs.Recordings.{lies_in, in_route, outside, right, wrong, route_with, located, finding, same_octets}
use Rattle.paper.proofs.FieldLaws.{bit_lt, field_lt, field_ext, field_split, field_bits, octet_field}
use Rattle.paper.proofs.ListLaws.{routes_apart}
use Rattle.paper.proofs.LoopLaws.{Passed, fails_here, fails_nowhere}
use Rattle.paper.proofs.MarshallingLaws.{outside_routes, each_route}
use Rattle.paper.proofs.RecordingLaws.{in_none, right_exactly, named_is, same_octets_lem}
use Rattle.std.specs.Prelude.{Option, Some, None}
use Rattle.recordings.specs.Recordings.{Agrees, Stops, Spotted, FirstOff, FirstSpot, Same, Alike, Digit, Written, Between, place_in, finding_of}
use Rattle.recordings.specs.declared.Spot.{Spot}
use Rattle.recordings.specs.declared.Routed.{Routed}

-- ---- where P holds, and the first index at which it fails

pub agrees_none : (P : ℕ → Type 0) (from to : ℕ) → to ≤ from → Agrees P from to
agrees_none P from to h = record { each = λ a le lt. absurd (omega arith) }

module _ {P : ℕ → Type 0} {from mid : ℕ} (h : Agrees P from mid) where
  pub agrees_more : P mid → Agrees P from (mid + 1)
  agrees_more p = record { each = λ a le lt. by a le (eq-or-lt_of_le lt) }
    where
      by : (a : ℕ) → from ≤ a → (suc a ≡ mid + 1) ⊎ (suc a < mid + 1) → P a
      by a le (inl e) = let q : mid ≡ a = omega arith in rw q at p
      by a le (inr l) = h.each a le (omega arith)

  pub agrees_less : (to : ℕ) → to ≤ mid → Agrees P from to
  agrees_less to le = record { each = λ a lo lt. h.each a lo (omega arith) }

  pub stops_here : {to : ℕ} → from ≤ mid → mid < to → (P mid → ⊥) → Stops P from to mid
  stops_here lo hi n = record { lo = lo; hi = hi; before = h; fails = n }

  -- two runs, one after the other
  pub agrees_then : {to : ℕ} → Agrees P mid to → Agrees P from to
  agrees_then k = record {
    each = λ a lo lt. elim (dec_lt a mid) [
      | yes less ↦ h.each a lo less
      | no ge ↦ k.each a (omega arith) lt
    ];
  }

  module _ (le : from ≤ mid) (to : ℕ) where
    pub stops_then : {r : ℕ} → Stops P mid to r → Stops P from to r
    stops_then k = record { lo = omega (arith, k.lo); hi = k.hi; before = agrees_then k.before; fails = k.fails }

    pub first_then : (o : Option ℕ) → FirstOff P mid to o → FirstOff P from to o
    first_then (Some r) k = stops_then k
    first_then None k = agrees_then k

    pub spot_then : (o : Option Spot) → FirstSpot P mid to o → FirstSpot P from to o
    spot_then (Some s) k = record { stops = stops_then k.stops; low = k.low }
    spot_then None k = agrees_then k

pub stops_first : {P : ℕ → Type 0} {from mid r : ℕ} (to : ℕ) → mid ≤ to → Stops P from mid r → Stops P from to r
stops_first to le h = record { lo = h.lo; hi = omega (arith, h.hi); before = h.before; fails = h.fails }

-- of two facts that tell the same
module _ {P Q : ℕ → Type 0} {from to : ℕ} (f : (a : ℕ) → from ≤ a → a < to → P a → Q a) where
  pub agrees_other : Agrees P from to → Agrees Q from to
  agrees_other h = record { each = λ a lo lt. f a lo lt (h.each a lo lt) }

  module _ (g : (a : ℕ) → from ≤ a → a < to → Q a → P a) where
    pub stops_other : {r : ℕ} → Stops P from to r → Stops Q from to r
    stops_other h = record { lo = h.lo; hi = h.hi; before = record { each = λ a lo lt. f a lo (omega (arith, h.hi)) (h.before.each a lo lt) }; fails = λ q. h.fails (g _ h.lo h.hi q) }

    pub first_other : (o : Option ℕ) → FirstOff P from to o → FirstOff Q from to o
    first_other (Some r) h = stops_other h
    first_other None h = agrees_other h

    pub spot_other : (o : Option Spot) → FirstSpot P from to o → FirstSpot Q from to o
    spot_other (Some s) h = record { stops = stops_other h.stops; low = h.low }
    spot_other None h = agrees_other h

-- ---- bits

pub field_one : (l : List ℕ) (a : ℕ) → field l a 1 ≡ bit l a
unfolding field
field_one l a = omega (arith, ap (bit l) (add-zero a))

-- a bit of a field is a digit of its number
pub bit_digit : (l : List ℕ) (s w i : ℕ) → i < w → bit l (s + i) ≡ field l s w / 2 ^ (w - 1 - i) % 2
unfolding field
bit_digit l s zero i h = absurd (omega arith)
bit_digit l s (suc w) i h =
    elim (ℕ_discrete i w) [
      | yes e ↦
          let z : suc w - 1 - i ≡ 0 = omega arith in
          rw (z, e) (omega (arith, bit_lt l (s + w)))
      | no ne ↦
          let z : suc w - 1 - i ≡ 1 + (w - 1 - i) = omega arith in
          let y : (field l s w * 2 + bit l (s + w)) / 2 ≡ field l s w = omega (arith, bit_lt l (s + w)) in
          bit_digit l s w i (omega arith)
          ∙ ap (λ (x : ℕ). x / 2 ^ (w - 1 - i) % 2) (sym y)
          ∙ ap (λ (x : ℕ). x % 2) (shr-shr (field l s w * 2 + bit l (s + w)) 1 (w - 1 - i))
          ∙ ap (λ (x : ℕ). (field l s w * 2 + bit l (s + w)) / 2 ^ x % 2) (sym z)
    ]

-- two fields of one value agree at every bit, and a field of a number's value has its digits
pub fields_agree : (xs ys : List ℕ) (from to width : ℕ) → from + width ≡ to → field xs from width ≡ field ys from width → Agrees (Same xs ys) from to
fields_agree xs ys from to width wide e =
    record { each = λ a le lt. let z : from + (a - from) ≡ a = omega arith in rw z at (field_bits xs ys from from width e (a - from) (omega arith)) }

-- a bit of a field, by its address, is a digit of the number that the field holds
pub digit_of : (xs : List ℕ) (start width value : ℕ) → field xs start width ≡ value → (a : ℕ) → start ≤ a → a < start + width → Digit xs start width value a
digit_of xs start width value e a le lt =
    let z : start + (a - start) ≡ a = omega arith in
    let y : width - 1 - (a - start) ≡ start + width - 1 - a = omega arith in
    rw (z, y) at (bit_digit xs start width (a - start) (omega arith) ∙ ap (λ (v : ℕ). v / 2 ^ (width - 1 - (a - start)) % 2) e)

-- a gap of no bits
pub gap_none : (xs ys : List ℕ) (pos gap : ℕ) → gap ≡ 0 → field xs pos gap ≡ field ys pos gap
unfolding field
gap_none xs ys pos gap e = rw e refl

-- the number of a gap and then a field
module _ (gap width kept value : ℕ) (room : gap + width ≤ 64) (low-kept : kept < 2 ^ gap) (small : value < 2 ^ width) where
  pub joined_fits : kept * 2 ^ width % 2 ^ 64 + value < 2 ^ 64
  joined_fits =
      let z : 64 - width + width ≡ 64 = omega arith in
      let e : 2 ^ (64 - width) * 2 ^ width ≡ 2 ^ 64 = sym (pow-add 2 (64 - width) width) ∙ ap (λ (n : ℕ). 2 ^ n) z in
      let h : kept < 2 ^ (64 - width) = omega (arith, pow_mono {i = gap} {j = 64 - width} (omega arith)) in
      rw (shl_exact {a = kept} gap width 64 low-kept room) (rw e at (digits_lt {q = kept} {m = 2 ^ (64 - width)} {r = value} {c = 2 ^ width} h small))

  -- it is read where the gap is as it was and the field holds the number
  pub parts_agree : (xs ys : List ℕ) (pos start whole : ℕ) → pos + gap ≡ start → kept ≡ field ys pos gap → whole ≡ field xs pos (gap + width)
      → whole ≡ kept * 2 ^ width % 2 ^ 64 + value → (field xs pos gap ≡ field ys pos gap) × (field xs start width ≡ value)
  parts_agree xs ys pos start whole at k w e =
      let exact = shl_exact {a = kept} gap width 64 low-kept room in
      let q : field xs pos gap * 2 ^ width + field xs (pos + gap) width ≡ kept * 2 ^ width + value =
      sym (field_split xs pos gap width) ∙ sym w ∙ e ∙ ap (λ (n : ℕ). n + value) exact in
      let lt = field_lt xs (pos + gap) width in (
        sym (high (field xs pos gap) width lt) ∙ ap (λ (n : ℕ). n / 2 ^ width) q ∙ high kept width small ∙ k,
        ap (λ (a : ℕ). field xs a width) (sym at) ∙ sym (low (field xs pos gap) width lt) ∙ ap (λ (n : ℕ). n % 2 ^ width) q ∙ low kept width small,
      )

-- what the search of a gap and then of a field found
module _ (before after : List ℕ) (pos start width value : ℕ) where
  pub before_field : (r : ℕ) → Stops (Same after before) pos start r → Stops (Written before after start width value) pos (start + width) r
  before_field r k = stops_first (start + width) (omega arith) (stops_other (λ a lo lt s. (λ _. s, λ le. absurd (omega arith))) (λ a lo lt w. w.0 lt) k)

  pub in_field_at : (o : Option ℕ) → pos ≤ start → Agrees (Same after before) pos start → FirstOff (Digit after start width value) start (start + width) o
      → FirstOff (Written before after start width value) pos (start + width) o
  in_field_at o le k d =
      first_then (agrees_other (λ a lo lt s. (λ _. s, λ le. absurd (omega arith))) k) le (start + width) o
      (first_other (λ a lo lt d. (λ less. absurd (omega arith), λ _. d)) (λ a lo lt w. w.1 lo) o d)

  pub field_whole : pos ≤ start → field after pos (start - pos) ≡ field before pos (start - pos) → field after start width ≡ value
      → Agrees (Written before after start width value) pos (start + width)
  field_whole le e f =
      in_field_at None le (fields_agree after before pos start (start - pos) (omega arith) e) (record { each = digit_of after start width value f })

-- the bits of the octets from q on
pub bit-drop : (l : List ℕ) (q a : ℕ) → bit (drop q l) a ≡ bit l (8 * q + a)
unfolding bit
bit-drop l q a =
    let i : (8 * q + a) / 8 ≡ q + a / 8 = omega arith in
    let j : (8 * q + a) % 8 ≡ a % 8 = omega arith in
    rw (get_or-drop, i, j) refl

pub same_octet : (l m : List ℕ) (q : ℕ) → get_or l q 0 ≡ get_or m q 0 → (b : ℕ) → b < 8 → Same l m (8 * q + b)
unfolding bit
same_octet l m q e b h =
    let i : (8 * q + b) / 8 ≡ q = omega arith in
    rw (i, e) refl

-- ---- octets

rest_is : (a : ℕ) (xs : List ℕ) → take (length xs - a) (drop a xs) ≡ drop a xs
rest_is a xs = take_all (length xs - a) (drop a xs) (simp length-drop (omega arith))

-- eight octets from q on are one field of 64 bits
pub eight_field : (l : List ℕ) (q : ℕ) → field (take (length l - q) (drop q l)) 0 64 ≡ field l (8 * q) 64
eight_field l q = rw (rest_is q l) (field_ext (drop q l) l 0 (8 * q) 64 (λ i lt. let z : 0 + i ≡ i = omega arith in rw z (bit-drop l q i)))

-- and where it is the same, so is each of them
pub eight_alike : (l m : List ℕ) → Octets l → Octets m → (q : ℕ) → field l (8 * q) 64 ≡ field m (8 * q) 64 → Agrees (Alike l m) q (q + 8)
eight_alike l m o p q e = record { each = each }
  where
    each : (i : ℕ) → q ≤ i → i < q + 8 → Alike l m i
    each i le lt =
        sym (octet_field l i o)
        ∙ field_ext l m (8 * i) (8 * i) 8 (λ j less.
        let z : 8 * q + (8 * (i - q) + j) ≡ 8 * i + j = omega arith in
        rw z at (field_bits l m (8 * q) (8 * q) 64 e (8 * (i - q) + j) (omega arith)))
        ∙ octet_field m i p

-- the bits of octets that are the same
pub alike_bits : (l m : List ℕ) (from to : ℕ) → Agrees (Alike l m) from to → Agrees (Same l m) (8 * from) (8 * to)
alike_bits l m from to h =
    record {
      each = λ a lo lt.
          let z : 8 * (a / 8) + a % 8 ≡ a = omega arith in
          rw z at (same_octet l m (a / 8) (h.each (a / 8) (omega arith) (omega arith)) (a % 8) (omega arith));
    }

module _ (l m : List ℕ) (q : ℕ) where
  pub octet_agrees : get_or l q 0 ≡ get_or m q 0 → Agrees (λ b. Same l m (8 * q + b)) 0 8
  octet_agrees e = record { each = λ b _ lt. same_octet l m q e b lt }

  pub octet_part : (o : Option ℕ) → FirstOff (Same (take (length l - q) (drop q l)) (take (length m - q) (drop q m))) 0 8 o
      → FirstOff (λ b. Same l m (8 * q + b)) 0 8 o
  octet_part o h =
      first_other (λ a _ _ e. sym (bit-drop l q a) ∙ e ∙ bit-drop m q a) (λ a _ _ e. bit-drop l q a ∙ e ∙ sym (bit-drop m q a)) o
      (rw (rest_is q l, rest_is q m) at h)

-- one octet more
module _ {P : ℕ → Type 0} (from q : ℕ) (h : Agrees P (8 * from) (8 * q)) where
  pub octet_past : Agrees (λ b. P (8 * q + b)) 0 8 → Agrees P (8 * from) (8 * (q + 1))
  octet_past k =
      agrees_then h (record {
        each = λ a lo lt.
            let e : 8 * q + (a - 8 * q) ≡ a = omega arith in
            rw e at (k.each (a - 8 * q) (omega arith) (omega arith));
      })

  pub octet_here : (octets r : ℕ) → from ≤ q → q < octets → Stops (λ b. P (8 * q + b)) 0 8 r → Spotted P (8 * from) (8 * octets) (record { octet = q; bit = r })
  octet_here octets r le lt k =
      record {
        stops = stops_then h (omega arith) (8 * octets) (record {
          lo = omega arith;
          hi = omega (arith, k.hi);
          before = record {
            each = λ a lo less.
                let e : 8 * q + (a - 8 * q) ≡ a = omega arith in
                rw e at (k.before.each (a - 8 * q) (omega arith) (omega arith));
          };
          fails = k.fails;
        });
        low = k.hi;
      }

-- an address as a spot
pub spotted : {P : ℕ → Type 0} {from to r : ℕ} {s : Spot} → 8 * s.octet + s.bit ≡ r → s.bit < 8 → Stops P from to r → Spotted P from to s
spotted e low h = record { stops = rw e h; low = low }

-- ---- what marshalling gives, bit by bit

module _ (l : SignalList) (h : Kept l) (store : List ℕ) (now : ℕ) (before after : List ℕ) where
  module _ (r pos : ℕ) (b : Between l r pos) where
    -- before the next route, and past the one behind
    pub in_gap : (a : ℕ) → pos ≤ a → ((j : ℕ) → r ≤ j → j < l.routes → a < (l.route j).start) → bit (marshalled l store now before l.routes) a ≡ bit before a
    in_gap a lo out = outside_routes l h store now before a (λ j lt s e. elim (dec_lt j r) [
      | yes less ↦ omega (arith, b.behind j less)
      | no ge ↦ omega (arith, out j (omega arith) lt)
    ])

    pub next_between : r < l.routes → Between l (r + 1) (route_end l.signal (l.route r))
    next_between lt =
        record {
          behind = λ j less. by j (eq-or-lt_of_le less);
          ahead = λ j le lt'. routes_apart l h r j (omega arith) lt';
        }
      where
        by : (j : ℕ) → (suc j ≡ r + 1) ⊎ (suc j < r + 1) → route_end l.signal (l.route j) ≤ route_end l.signal (l.route r)
        by j (inl e) = let q : r ≡ j = omega arith in rw q (omega arith)
        by j (inr less) = omega (arith, routes_apart l h j r (omega arith) lt)

  pub first_between : Between l 0 0
  first_between = record { behind = λ j lt. absurd (omega arith); ahead = λ j _ _. omega arith }

  -- past the last route
  pub rest_spotted : (r pos to : ℕ) → l.routes ≤ r → Between l r pos → (o : Option Spot) → FirstSpot (Same after before) pos to o
      → FirstSpot (Same after (marshalled l store now before l.routes)) pos to o
  rest_spotted r pos to le b =
      spot_other (λ a lo less e. e ∙ sym (in_gap r pos b a lo (none a))) (λ a lo less e. e ∙ in_gap r pos b a lo (none a))
    where
      none : (a j : ℕ) → r ≤ j → j < l.routes → a < (l.route j).start
      none a j ge lt = absurd (omega arith)

  -- what is written from the end of the route before to the end of this one, by a call's own numbers
  module _ (r pos : ℕ) (b : Between l r pos) (lt : r < l.routes) (fits : (r : ℕ) → r < l.routes → route_end l.signal (l.route r) ≤ 8 * length before)
      (start width value : ℕ) (es : start ≡ (l.route r).start) (ew : width ≡ (l.signal (l.route r).signal).width) (ev : value ≡ (routed l store now r).value) where
    far : (a : ℕ) → a < start → (j : ℕ) → r ≤ j → j < l.routes → a < (l.route j).start
    far a less j le lt' = by (eq-or-lt_of_le le)
      where
        by : (r ≡ j) ⊎ (r < j) → a < (l.route j).start
        by (inl e) = let less' : a < (l.route r).start = omega (arith, es) in rw e at less'
        by (inr less') = omega (arith, es, routes_apart l h r j less' lt')

    in_field : (a : ℕ) → start ≤ a → a < start + width → Digit (marshalled l store now before l.routes) start width value a
    in_field = digit_of (marshalled l store now before l.routes) start width value (rw (es, ew, ev) (each_route l h store now before fits r lt))

    to : (a : ℕ) → pos ≤ a → a < start + width → Written before after start width value a → Same after (marshalled l store now before l.routes) a
    to a lo less w = elim (dec_lt a start) [
      | yes lt ↦ w.0 lt ∙ sym (in_gap r pos b a lo (far a lt))
      | no ge ↦ w.1 (omega arith) ∙ sym (in_field a (omega arith) less)
    ]

    from : (a : ℕ) → pos ≤ a → a < start + width → Same after (marshalled l store now before l.routes) a → Written before after start width value a
    from a lo less s = (λ lt. s ∙ in_gap r pos b a lo (far a lt), λ le. s ∙ in_field a le less)

    pub route_agrees : Agrees (Written before after start width value) pos (start + width) → Agrees (Same after (marshalled l store now before l.routes)) pos (start + width)
    route_agrees = agrees_other to

    pub route_stops : (q : ℕ) → Stops (Written before after start width value) pos (start + width) q
        → Stops (Same after (marshalled l store now before l.routes)) pos (start + width) q
    route_stops q = stops_other to from

-- ---- where the first wrong bit lies

module _ (l : SignalList) (store : List ℕ) (now a : ℕ) where
  -- no route ends past bit 2048
  pub far_outside : Kept l → 2048 ≤ a → outside ≡ located l store now a
  far_outside h le = sym (in_none l a h store now (λ r q. omega (arith, (h.route r q.0).ends, q.2)))

  -- a loop over the routes found it in route r, or in none
  pub no_route : {r : ℕ} → Passed (λ j. not (lies_in l a j)) l.routes r → l.routes ≤ r → outside ≡ located l store now a
  unfolding located route_with
  no_route {r} p le = rw (← fails_nowhere p le, le-ltb l.routes l.routes (omega arith)) refl

  pub that_route : {r reason : ℕ} → Passed (λ j. not (lies_in l a j)) l.routes r → r < l.routes → true ≡ lies_in l a r → reason ≡ (routed l store now r).reason
      → in_route r reason ≡ located l store now a
  unfolding located route_with
  that_route {r} {reason} p lt lies q = rw (← fails_here p lt (ap not lies) refl, lt-ltb r l.routes lt, q) refl

module _ (l : SignalList) (store : List ℕ) (now : ℕ) (ours after : List ℕ) where
  pub found_right : Agrees (Same after ours) 0 (8 * length after) → right ≡ finding l store now ours after
  found_right h = sym ((right_exactly l store now ours after).1 (λ a lt. h.each a (omega arith) lt))

  pub found_wrong : (s : Spot) (o : Option Routed) → Spotted (Same after ours) 0 (8 * length after) s → place_in o ≡ located l store now (8 * s.octet + s.bit)
      → finding_of (Some (record { octet = s.octet; bit = s.bit; route = o })) ≡ finding l store now ours after
  found_wrong s o h e =
      ap (wrong (8 * s.octet + s.bit)) e
      ∙ sym (named_is l store now ours after (8 * s.octet + s.bit) h.stops.hi h.stops.fails (λ b below. h.stops.before.each b (omega arith) below))

-- ---- following on

module _ (xs ys : List ℕ) where
  pub same_not : (length xs ≡ length ys → ⊥) → false ≡ same_octets xs ys
  unfolding same_octets
  same_not ne = rw (ne_eqb (length xs) (length ys) ne) refl

  -- and where they are as long and agree before `from`, the test of the rest tells
  module _ (from : ℕ) (long : length xs ≡ length ys) (le : from ≤ length xs) (h : Agrees (Alike xs ys) 0 from) where
    rest_alike : take (length xs - from) (drop from xs) ≡ take (length ys - from) (drop from ys) → xs ≡ ys
    rest_alike e = ext_get_or 0 xs ys long (λ i lt. elim (dec_lt i from) [
      | yes less ↦ h.each i (omega arith) less
      | no ge ↦
          let z : from + (i - from) ≡ i = omega arith in
          let d : drop from xs ≡ drop from ys = sym (rest_is from xs) ∙ e ∙ rest_is from ys in
          rw z at (sym (get_or-drop from xs (i - from) 0) ∙ ap (λ (l : List ℕ). get_or l (i - from) 0) d ∙ get_or-drop from ys (i - from) 0)
    ])

    pub same_rest : {b : Bool} → b ≡ pointwise eqb (take (length xs - from) (drop from xs)) (take (length ys - from) (drop from ys)) → b ≡ same_octets xs ys
    same_rest {b} e =
        same_from_decides b (same_octets xs ys)
        (Decides-like b rest_alike (ap (λ (l : List ℕ). take (length l - from) (drop from l))) (slice_eq-Decides Decides-eqb _ _ b e)) (same_octets_lem xs ys)
