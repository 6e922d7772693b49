-- Document 01, "Train and E-telegrams": the consist and its addresses.
use Rattle.std.specs.Prelude.{Bool, true, false, not, cond, ◌&&◌, ◌||◌, List, ℕ, zero, suc, ◌+◌, ◌-◌, ◌^◌, leb, ltb, eqb, length, get_or}
use Rattle.paper.specs.Answer.{Answer, gives, refuse_if}
use Rattle.paper.specs.First.{all, count}
use Rattle.paper.specs.Store.{vehicles}

-- "vehicle entries, vehicle 1 first, each with yes/no marks: leading, coach, tractive, led, sleeping"
pub record Vehicle : Type 0 where
  pub leading : Bool
  pub coach : Bool
  pub tractive : Bool
  pub led : Bool
  pub sleeping : Bool

abbrev pub no_vehicle : Vehicle
no_vehicle = record { leading = false; coach = false; tractive = false; led = false; sleeping = false }

-- vehicle v of the train
abbrev pub vehicle : List Vehicle → ℕ → Vehicle
vehicle train v = get_or train (v - 1) no_vehicle

-- "led needs tractive and not leading"
abbrev pub led_rule : Vehicle → Bool
led_rule m = not m.led || m.tractive && not m.leading

-- "At most one is leading; led needs tractive and not leading."
unfoldable pub consist_rule : List Vehicle → Bool
consist_rule train =
    leb (count (λ i. (get_or train i no_vehicle).leading) (length train)) 1 && all (λ i. led_rule (get_or train i no_vehicle)) (length train)

-- "Addresses: 1-63 that vehicle, 64 leading, 65 led, 66 all, 67 coaches, 70 tractive, 92 sleeping cars"
abbrev pub is_address : ℕ → Bool
is_address a = leb 1 a && leb a 67 || eqb a 70 || eqb a 92

unfoldable pub meets : ℕ → ℕ → Vehicle → Bool
meets a v m =
    cond (leb a vehicles) (eqb v a)
    (cond (eqb a 64) m.leading
    (cond (eqb a 65) m.led
    (cond (eqb a 66) true
    (cond (eqb a 67) m.coach
    (cond (eqb a 70) m.tractive
    (cond (eqb a 92) m.sleeping false))))))

unfoldable pub member : List Vehicle → ℕ → ℕ → Bool
member train a v = meets a v (vehicle train v)

-- "The answer is the set and the number of vehicles in the set": vehicle v is bit v of the set, and its bit is worth 2 ^ v
pub record Members : Type 0 where
  pub set : ℕ
  pub size : ℕ

unfoldable pub set_to : (ℕ → Bool) → ℕ → ℕ
set_to p zero = 0
set_to p (suc n) = set_to p n + cond (p (suc n)) (2 ^ suc n) 0

unfoldable pub members_of : List Vehicle → ℕ → Members
members_of train a = record { set = set_to (member train a) (length train); size = count (λ i. member train a (suc i)) (length train) }

-- 17 "consist empty or above 63", 18 "consist rule broken", 19 "address not listed", 20 "nobody meets it"
unfoldable pub resolving : List Vehicle → ℕ → Answer Members
resolving train a =
    refuse_if (eqb (length train) 0 || ltb vehicles (length train)) 17 0
    (refuse_if (not (consist_rule train)) 18 0
    (refuse_if (not (is_address a)) 19 0
    (refuse_if (eqb (members_of train a).size 0) 20 0
    (gives (members_of train a)))))
