-- Request C-23: a reading of a signal of 16 bits is never above 65,535, live or replaced, so showing needs no test for it. What showing refuses, and
-- exactly when. Assumes nothing.
use Prim.Native.Nat.{ℕ, ◌<◌, ◌^◌}
use mathlib.Core.Path.{◌≡◌, refl, sym, ap, subst, ◌∙◌}
use mathlib.Core.Logic.{◌↔◌}
use mathlib.Core.Bool.{Bool, true, false, not, ◌&&◌, false≢true}
use mathlib.Core.List.{List}
use lib.Dec.{eqb}
use borrow.Author.Tests.{eqb-true, ne_eqb, not-false, ltb-true}
use Rattle.paper.specs.Answer.{Answer, gives, refused, refuse_if, and_then}
use Rattle.paper.specs.SignalList.{Counts, judge, list_of}
use Rattle.paper.specs.Accepted.{Laid}
use Rattle.paper.specs.Store.{slot_of}
use Rattle.paper.specs.Reading.{Reading, reading_at, reading_by, reading}
use Rattle.paper.specs.Shown.{Kind, scaled, ShownReading, shown_of, shown_width, showing}
use Rattle.paper.proofs.AnswerLaws.{not_refused, and_then_lem, gives_one, last_here}
use Rattle.paper.proofs.ListLaws.{kept_of, laid}
use Rattle.paper.proofs.MarshallingLaws.{reading_fits}

-- under a list that is laid out as its counts say, a reading that is given is of a signal of the list, and fits its width
pub fits_width : (xs : List ℕ) (n : Counts) → Laid xs n → (store : List ℕ) (now v k : ℕ) (r : Reading) → reading_by store now v k (list_of xs n) ≡ gives r
    → (k < n.signals) × (r.value < 2 ^ ((list_of xs n).signal k).width)
unfolding reading_at
fits_width xs n h store now v k r e =
    let a = not_refused _ _ _ _ _ e in
    let b = not_refused _ _ _ _ _ a.1 in
    let c = not_refused _ _ _ _ _ b.1 in
    let there : k < n.signals = ltb-true _ _ (not-false _ c.0) in
    let small = reading_fits (list_of xs n) (kept_of xs n h) (slot_of store v) now k there in
    (there, subst (λ (x : Reading). x.value < 2 ^ ((list_of xs n).signal k).width) (gives_one _ _ _ refl c.1) small)

-- a reading that is given, by its list, and back
given_by : (form : ℕ) (xs store : List ℕ) (now v k : ℕ) (r : Reading) (n : Counts) → judge form xs ≡ gives n → reading form xs store now v k ≡ gives r
    → reading_by store now v k (list_of xs n) ≡ gives r
unfolding reading
given_by form xs store now v k r n accepted e = rw accepted at e

read_under : (form : ℕ) (xs store : List ℕ) (now v k : ℕ) (r : Reading) (n : Counts) → judge form xs ≡ gives n
    → reading_by store now v k (list_of xs n) ≡ gives r → reading form xs store now v k ≡ gives r
unfolding reading
read_under form xs store now v k r n accepted h = rw accepted h

-- "a raw value above 65,535, which no field of width 16 reaches .. Show that the case cannot occur, for live values and replacements": whatever is
-- read of a signal of 16 bits
pub no_large_raw : (form : ℕ) (xs store : List ℕ) (now v k : ℕ) (r : Reading) (n : Counts) → judge form xs ≡ gives n → reading form xs store now v k ≡ gives r
    → ((list_of xs n).signal k).width ≡ 16 → r.value < 65536
no_large_raw form xs store now v k r n accepted read wide =
    rw wide at (fits_width xs n (laid form xs n accepted) store now v k r (given_by form xs store now v k r n accepted read)).1

-- ---- what showing refuses

-- what reading refuses it refuses alike: 1 to 4, 5, 6 and 11
pub refused_alike : (form : ℕ) (xs store : List ℕ) (now v k : ℕ) (kind : Kind) (n at : ℕ) → reading form xs store now v k ≡ refused n at
    → showing form xs store now v k kind ≡ refused n at
unfolding reading showing
refused_alike form xs store now v k kind n at e = by (judge form xs) e
  where
    by : (j : Answer Counts) → and_then j (λ m. reading_by store now v k (list_of xs m)) ≡ refused n at
        → and_then j (λ m. and_then (reading_by store now v k (list_of xs m)) (shown_width kind ((list_of xs m).signal k).width)) ≡ refused n at
    by (gives m) e = rw e
    by (refused n' at') e =
        let q : n' ≡ n = cc in
        let w : at' ≡ at = cc in
        rw (q, w)

-- behind a reading that is given
shown_by : (form : ℕ) (xs store : List ℕ) (now v k : ℕ) (kind : Kind) (r : Reading) (n : Counts) → judge form xs ≡ gives n
    → reading form xs store now v k ≡ gives r
    → showing form xs store now v k kind ≡ shown_width kind ((list_of xs n).signal k).width r
unfolding showing
shown_by form xs store now v k kind r n accepted read = rw (accepted, given_by form xs store now v k r n accepted read)

-- "26 then means only a scaled kind with width not 16": of what can be read, exactly that is refused
pub refused_exactly : (form : ℕ) (xs store : List ℕ) (now v k : ℕ) (kind : Kind) (r : Reading) (n : Counts) → judge form xs ≡ gives n
    → reading form xs store now v k ≡ gives r
    → (showing form xs store now v k kind ≡ refused 26 0) ↔ ((scaled kind ≡ true) × (((list_of xs n).signal k).width ≡ 16 → ⊥))
unfolding refuse_if
refused_exactly form xs store now v k kind r n accepted read = (there, back)
  where
    there : showing form xs store now v k kind ≡ refused 26 0 → (scaled kind ≡ true) × (((list_of xs n).signal k).width ≡ 16 → ⊥)
    there e = by (scaled kind) ((list_of xs n).signal k).width (last_here _ _ _ _ _ _ (sym (shown_by form xs store now v k kind r n accepted read) ∙ e))
      where
        by : (s : Bool) (w : ℕ) → (s && not (eqb w 16)) ≡ true → (s ≡ true) × (w ≡ 16 → ⊥)
        by true w e = (refl, λ q. false≢true (sym (ap (λ (x : ℕ). not (eqb x 16)) q) ∙ e))
        by false w e = absurd (false≢true e)

    back : (scaled kind ≡ true) × (((list_of xs n).signal k).width ≡ 16 → ⊥) → showing form xs store now v k kind ≡ refused 26 0
    back h = rw (shown_by form xs store now v k kind r n accepted read, h.0, ne_eqb _ _ h.1)

-- what a reading that is shown tells
pub record Shows (form : ℕ) (xs store : List ℕ) (now v k : ℕ) (kind : Kind) (s : ShownReading) : Type 0 where
  pub counts : Counts
  pub accepted : judge form xs ≡ gives counts
  pub read : Reading
  pub reads_it : reading form xs store now v k ≡ gives read
  pub wide : scaled kind ≡ true → ((list_of xs counts).signal k).width ≡ 16
  pub is : shown_of kind read ≡ s

pub shows : (form : ℕ) (xs store : List ℕ) (now v k : ℕ) (kind : Kind) (s : ShownReading) → showing form xs store now v k kind ≡ gives s
    → Shows form xs store now v k kind s
unfolding showing
shows form xs store now v k kind s e =
    let o = and_then_lem (judge form xs) _ s e in
    let p = and_then_lem (reading_by store now v k (list_of xs o.0)) _ s o.1.1 in
    let q = not_refused _ _ _ _ _ p.1.1 in
    record {
      counts = o.0;
      accepted = o.1.0;
      read = p.0;
      reads_it = read_under form xs store now v k p.0 o.0 o.1.0 p.1.0;
      wide = λ is. eqb-true _ _ (by (scaled kind) _ is q.0);
      is = gives_one _ _ _ refl q.1;
    }
  where
    by : (a b : Bool) → a ≡ true → (a && not b) ≡ false → b ≡ true
    by true true p q = refl
    by true false p q = sym q
    by false b p q = absurd (false≢true p)

-- so the value that a scaled kind is shown of is below 65,536
pub shown_fits : (form : ℕ) (xs store : List ℕ) (now v k : ℕ) (kind : Kind) (s : ShownReading) (h : Shows form xs store now v k kind s)
    → scaled kind ≡ true → h.read.value < 65536
shown_fits form xs store now v k kind s h is = no_large_raw form xs store now v k h.read h.counts h.accepted h.reads_it (h.wide is)
