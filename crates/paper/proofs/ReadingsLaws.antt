-- Every signal in one call: what is given is what `reading` gives of each, and when it is given. Assumes nothing.
use Prim.Native.Nat.{ℕ, zero, suc, ◌+◌, ◌-◌, ◌*◌, ◌≤◌, ◌<◌}
use mathlib.Core.Path.{◌≡◌, refl, sym, ap, ◌∙◌}
use mathlib.Core.Logic.{◌↔◌, ◌⊎◌, inl, inr}
use mathlib.Core.Bool.{true, false, not}
use mathlib.Core.List.{List, ◌++◌}
use native.Mathlib.Omega.{arith}
use native.Mathlib.Nat.{eq-or-lt_of_le}
use lib.ListN.{length, get_or, length-append, get_or-append}
use lib.Seq.{get_or-append-add}
use lib.Dec.{eqb}
use borrow.Author.Tests.{eqb-true, leb-true, eq-eqb, le-leb, not-false}
use Rattle.bools.proofs.Tests.{both}
use Rattle.paper.specs.Answer.{gives, refuse_if}
use Rattle.paper.specs.SignalList.{SignalList, Counts, judge, list_of}
use Rattle.paper.specs.Store.{vehicles, store_octets}
use Rattle.paper.specs.Reading.{Reading, reading_at, reading}
use Rattle.paper.specs.Readings.{Readings, values_at, reasons_at, in_turn, room_for, readings, train_readings, Room}
use Rattle.paper.proofs.AnswerLaws.{not_refused, and_then_lem, gives_one}
use Rattle.paper.proofs.FirstLaws.{length_listed, listed_at}
use Rattle.paper.proofs.ReadingLaws.{reads_it}

-- ---- one vehicle's after another's

module _ (f : ℕ → List ℕ) (n : ℕ) (long : (v : ℕ) → length (f v) ≡ n) where
  pub length_turn : (last : ℕ) → length (in_turn f last) ≡ last * n
  unfolding in_turn
  length_turn zero = omega arith
  length_turn (suc last) = length-append (in_turn f last) (f (suc last)) ∙ omega (arith, length_turn last, long (suc last))

  -- number k of vehicle v stands behind those of the vehicles before it
  pub turn_at : (last v k : ℕ) → 1 ≤ v → v ≤ last → k < n → get_or (in_turn f last) ((v - 1) * n + k) 0 ≡ get_or (f v) k 0
  unfolding in_turn
  turn_at zero v k one most there = absurd (omega arith)
  turn_at (suc last) v k one most there = by (eq-or-lt_of_le most) (λ le. turn_at last v k one le there)
    where
      inside : v ≤ last → (v - 1) * n + k < last * n
      inside le = calm (v - 1) last (omega arith)
        where
          calm : (u w : ℕ) → u < w → u * n + k < w * n
          calm u zero lt = absurd (omega arith)
          calm zero (suc w) lt = omega arith
          calm (suc u) (suc w) lt = let r = calm u w (omega arith) in omega (arith, r)

      by : (v ≡ suc last) ⊎ (v < suc last) → (v ≤ last → get_or (in_turn f last) ((v - 1) * n + k) 0 ≡ get_or (f v) k 0)
          → get_or (in_turn f last ++ f (suc last)) ((v - 1) * n + k) 0 ≡ get_or (f v) k 0
      by (inl e) rest =
          let less : suc last - 1 ≡ last = omega arith in
          rw (e, less)
          (ap (λ (i : ℕ). get_or (in_turn f last ++ f (suc last)) (i + k) 0) (sym (length_turn last))
          ∙ get_or-append-add (in_turn f last) (f (suc last)) k 0)
      by (inr lt) rest =
          let le : v ≤ last = omega arith in
          get_or-append (in_turn f last) (f (suc last)) 0 ((v - 1) * n + k) (omega (arith, inside le, length_turn last)) ∙ rest le

-- ---- of a vehicle

module _ (l : SignalList) (store : List ℕ) (now v : ℕ) where
  pub values_long : length (values_at l store now v) ≡ l.signals
  unfolding values_at
  values_long = length_listed _ l.signals

  pub reasons_long : length (reasons_at l store now v) ≡ l.signals
  unfolding reasons_at
  reasons_long = length_listed _ l.signals

  -- each is what is read
  pub each_at : (k : ℕ) → k < l.signals → ◌≡◌ {A = Reading} (record { value = get_or (values_at l store now v) k 0; reason = get_or (reasons_at l store now v) k 0 }) (reading_at l store now v k)
  unfolding values_at reasons_at
  each_at k lt = λ i. record {
    value = listed_at (λ k. (reading_at l store now v k).value) l.signals k lt i;
    reason = listed_at (λ k. (reading_at l store now v k).reason) l.signals k lt i;
  }

-- ---- when it is given

room_tells : (store : List ℕ) (v values reasons many : ℕ) (r s : Readings) → room_for store v values reasons many r ≡ gives s
    → (length store ≡ store_octets) × (1 ≤ v) × (v ≤ vehicles) × (values ≡ many) × (reasons ≡ many) × (r ≡ s)
room_tells store v values reasons many r s e =
    let a = not_refused _ _ _ _ _ e in
    let b = not_refused _ _ _ _ _ a.1 in
    let c = not_refused _ _ _ _ _ b.1 in
    let w = both _ _ (not-false _ b.0) in
    let x = both _ _ (not-false _ c.0) in
    (eqb-true _ _ (not-false _ a.0), leb-true _ _ w.0, leb-true _ _ w.1, eqb-true _ _ x.0, eqb-true _ _ x.1, gives_one _ _ _ refl c.1)

room_gives : (store : List ℕ) (v values reasons many : ℕ) (r : Readings) → length store ≡ store_octets → 1 ≤ v → v ≤ vehicles → values ≡ many → reasons ≡ many
    → room_for store v values reasons many r ≡ gives r
unfolding refuse_if
room_gives store v values reasons many r whole first last x y = rw (eq-eqb _ _ whole, le-leb _ _ first, le-leb _ _ last, eq-eqb _ _ x, eq-eqb _ _ y)

module _ (form : ℕ) (xs store : List ℕ) (now : ℕ) where
  abbrev at_one : SignalList → ℕ → Readings
  at_one l v = record { values = values_at l store now v; reasons = reasons_at l store now v }

  abbrev in_all : SignalList → ℕ → Readings
  in_all l last = record { values = in_turn (values_at l store now) last; reasons = in_turn (reasons_at l store now) last }

  module _ (v values reasons : ℕ) (r : Readings) where
    -- every signal of a vehicle is given exactly if there is a vehicle and room, and then as it is read
    pub readings_exactly : (readings form xs store now v values reasons ≡ gives r)
        ↔ ((h : Room form xs store v values reasons (λ n. n)) × (r ≡ at_one (list_of xs h.counts) v))
    unfolding readings
    readings_exactly = (to, from)
      where
        to : readings form xs store now v values reasons ≡ gives r → (h : Room form xs store v values reasons (λ n. n)) × (r ≡ at_one (list_of xs h.counts) v)
        to e =
            let o = and_then_lem (judge form xs) _ r e in
            let t = room_tells store v values reasons o.0.signals (at_one (list_of xs o.0) v) r o.1.1 in
            (record { counts = o.0; accepted = o.1.0; whole = t.0; first = t.1; last = t.2; valued = t.3; reasoned = t.4 }, sym t.5)

        from : (h : Room form xs store v values reasons (λ n. n)) × (r ≡ at_one (list_of xs h.counts) v) → readings form xs store now v values reasons ≡ gives r
        from (h, e) =
            rw h.accepted (room_gives store v values reasons h.counts.signals (at_one (list_of xs h.counts) v) h.whole h.first h.last h.valued h.reasoned ∙ ap gives (sym e))

    -- of the vehicles 1 to v
    pub train_exactly : (train_readings form xs store now v values reasons ≡ gives r)
        ↔ ((h : Room form xs store v values reasons (λ n. v * n)) × (r ≡ in_all (list_of xs h.counts) v))
    unfolding train_readings
    train_exactly = (to, from)
      where
        to : train_readings form xs store now v values reasons ≡ gives r → (h : Room form xs store v values reasons (λ n. v * n)) × (r ≡ in_all (list_of xs h.counts) v)
        to e =
            let o = and_then_lem (judge form xs) _ r e in
            let t = room_tells store v values reasons (v * o.0.signals) (in_all (list_of xs o.0) v) r o.1.1 in
            (record { counts = o.0; accepted = o.1.0; whole = t.0; first = t.1; last = t.2; valued = t.3; reasoned = t.4 }, sym t.5)

        from : (h : Room form xs store v values reasons (λ n. v * n)) × (r ≡ in_all (list_of xs h.counts) v) → train_readings form xs store now v values reasons ≡ gives r
        from (h, e) =
            rw h.accepted (room_gives store v values reasons (v * h.counts.signals) (in_all (list_of xs h.counts) v) h.whole h.first h.last h.valued h.reasoned ∙ ap gives (sym e))

  -- ---- each entry is what `reading` gives

  -- "with its equation for every entry"
  pub each_reading : (v values reasons : ℕ) (r : Readings) → readings form xs store now v values reasons ≡ gives r
      → (n : Counts) → judge form xs ≡ gives n → (k : ℕ) → k < n.signals
      → reading form xs store now v k ≡ gives (record { value = get_or r.values k 0; reason = get_or r.reasons k 0 })
  unfolding reading_at
  each_reading v values reasons r e n j k lt =
      let h = (readings_exactly v values reasons r).0 e in
      let same : h.0.counts ≡ n = gives_one _ _ _ h.0.accepted j in
      rw (h.1, same)
      (reads_it form xs store now v k n j h.0.whole h.0.first h.0.last lt ∙ ap gives (sym (each_at (list_of xs n) store now v k lt)))

  -- and of the vehicles 1 to `last` number (v - 1) × signals + k is signal k of vehicle v
  pub each_in_train : (last values reasons : ℕ) (r : Readings) → train_readings form xs store now last values reasons ≡ gives r
      → (n : Counts) → judge form xs ≡ gives n → (v k : ℕ) → 1 ≤ v → v ≤ last → k < n.signals
      → reading form xs store now v k
      ≡ gives (record { value = get_or r.values ((v - 1) * n.signals + k) 0; reason = get_or r.reasons ((v - 1) * n.signals + k) 0 })
  unfolding reading_at
  each_in_train last values reasons r e n j v k one most lt =
      let h = (train_exactly last values reasons r).0 e in
      let same : h.0.counts ≡ n = gives_one _ _ _ h.0.accepted j in
      let l = list_of xs n in
      rw (
        h.1,
        same,
        turn_at (values_at l store now) n.signals (values_long l store now) last v k one most lt,
        turn_at (reasons_at l store now) n.signals (reasons_long l store now) last v k one most lt,
      )
      (reads_it form xs store now v k n j h.0.whole one (omega (arith, h.0.last)) lt ∙ ap gives (sym (each_at l store now v k lt)))
