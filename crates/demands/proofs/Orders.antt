-- Request C-22 of the calls themselves, by nothing but what they ensure. Assumes nothing.
use Prim.Native.Nat.{ℕ}
use mathlib.Core.Path.{◌≡◌, refl, sym, ap, ◌∙◌}
use mathlib.Core.List.{List, map}
use Rattle.paper.specs.Octets.{Octets}
use Rattle.paper.specs.Answer.{Answer, gives, refused, forget, map_answer}
use Rattle.paper.specs.Store.{taking}
use Rattle.paper.specs.Demands.{offer, step}
use Rattle.paper.specs.Marshalling.{Marshalled, marshalling}
use Rattle.paper.specs.Order.{Arrival, offered, own, data_after}
use Rattle.paper.proofs.OrderLaws as paper
use Rattle.paper.proofs.TwiceLaws.{marshal_twice}
use Rattle.refusals.proofs.WrittenLaws.{one_outcome}
use Rattle.marshalling.specs.Marshalling.{Delivered}
use Rattle.marshalling.proofs.Laws.{one_delivered}
use Rattle.demands.specs.declared.Both.{Both}
use Rattle.demands.specs.declared.Twice.{Twice}
use Rattle.demands.specs.Orders.{TakenBoth, MarshalledTwice}
use Rattle.demands.specs.Calls.{Made}
use Rattle.demands.proofs.ReadBack.{made_runs}

-- "leaves the same store in either order, whether either is refused or not", and each call answers the same in either
module _ (store : List ℕ) (v c : ℕ) (t : List ℕ) (w d : ℕ) (u : List ℕ) (apart : v ≡ w → ⊥) (last other : List ℕ) (r q : Both)
    (forth : TakenBoth store v c t w d u last r) (back : TakenBoth store w d u v c t other q) where
  first : forth.between ≡ step store (offer v c t)
  first = forth.one.octets

  first_back : back.between ≡ step store (offer w d u)
  first_back = back.one.octets

  pub same_store : last ≡ other
  same_store =
      forth.two.octets
      ∙ ap (λ (s : List ℕ). step s (offer w d u)) first
      ∙ paper.either_order store v c t w d u apart
      ∙ sym (ap (λ (s : List ℕ). step s (offer v c t)) first_back)
      ∙ sym back.two.octets

  pub same_one : r.one ≡ q.two
  same_one =
      one_outcome (forget (taking store v c t)) r.one q.two forth.one.outcome
      (back.two.outcome
      ∙ ap (λ (s : List ℕ). forget (taking s v c t)) first_back
      ∙ paper.same_answer store v c t w d u apart)

  pub same_two : r.two ≡ q.one
  same_two =
      one_outcome (forget (taking store w d u)) r.two q.one
      (forth.two.outcome
      ∙ ap (λ (s : List ℕ). forget (taking s w d u)) first
      ∙ paper.same_answer store w d u v c t (λ e. apart (sym e)))
      back.one.outcome

-- any calls of `take` may be made in another order, as long as the order within each vehicle stays
pub calls_in_any_order : {store last other : List ℕ} (one two : List Arrival) → ((v : ℕ) → own v one ≡ own v two)
    → Made store (map offered one) last → Made store (map offered two) other → last ≡ other
calls_in_any_order {store} one two same forth back = sym (made_runs forth) ∙ paper.any_order one two same store ∙ made_runs back

-- what is written over itself
kept : (bus : List ℕ) (a : Answer Marshalled) → data_after (data_after bus a) a ≡ data_after bus a
kept bus (gives m) = refl
kept bus (refused n at) = refl

-- "marshalling twice with the same list, store and clock gives the data and the count of marshalling once", and a refusal twice
pub twice_as_once : (form : ℕ) (xs store : List ℕ) (now : ℕ) (bus last : List ℕ) (r : Twice) → Octets bus
    → (m : MarshalledTwice form xs store now bus last r) → (r.again ≡ r.once) × (last ≡ m.between)
twice_as_once form xs store now bus last r o m =
    let a = marshalling form xs store now bus in
    let same : marshalling form xs store now m.between ≡ a = ap (marshalling form xs store now) m.once.octets ∙ marshal_twice form xs store now bus o in
    let again : Delivered a bus r.again last = record {
      lives = m.again.lives ∙ ap (map_answer (λ (x : Marshalled). x.lives)) same;
      octets = m.again.octets ∙ ap (data_after m.between) same ∙ ap (λ (b : List ℕ). data_after b a) m.once.octets ∙ kept bus a;
    } in
    one_delivered a bus r.again r.once last m.between again m.once
