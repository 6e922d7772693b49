-- Request C-18: a list in form 2, its serial numbers, the same list without them, and the moves from one form to the other.
use Rattle.std.specs.Prelude.{ℕ, zero, suc, ◌+◌, ◌-◌, ◌*◌, ◌/◌, ◌≤◌, min, Bool, not, List, [], ◌∷◌, ◌++◌, length, take, drop, ltb, eqb}
use Rattle.paper.specs.Octets.{number}
use Rattle.paper.specs.Answer.{Answer, gives, refused, refuse_if, and_then}
use Rattle.paper.specs.First.{some}
use Rattle.paper.specs.SignalList.{Counts, entry, check_size, signals_part, judge}

-- ---- Serial numbers

-- the octets of a signal entry in form 1; what an entry has more is its serial number
abbrev pub plain_size : ℕ
plain_size = 16

-- "the last two that number packed by us, 0 for none": of entries of `size` octets, from the signals' count on; in form 1 there is none
unfoldable pub serial_at : ℕ → List ℕ → ℕ → ℕ
serial_at size xs k = number xs (entry size k + plain_size) (size - plain_size)

-- 1-4, then 11: the serial number of signal k
unfoldable pub serial_of : ℕ → List ℕ → ℕ → Answer ℕ
serial_of form xs k =
    and_then (judge form xs) (λ n. refuse_if (not (ltb k n.signals)) 11 0 (gives (serial_at n.size (signals_part xs n) k)))

-- ---- "with the serial numbers dropped"

-- where the signals' count stands, the rest of the list from there, and the count
abbrev pub signals_start : List ℕ → ℕ
signals_start xs = entry check_size (number xs 0 2)

abbrev pub signals_from : List ℕ → List ℕ
signals_from xs = drop (signals_start xs) xs

abbrev pub signal_count : List ℕ → ℕ
signal_count xs = number (signals_from xs) 0 2

-- n entries of 18 octets, each without its last two
unfoldable pub narrowed : ℕ → List ℕ → List ℕ
narrowed zero zs = []
narrowed (suc n) zs = take 16 zs ++ narrowed n (drop 18 zs)

-- the rest of a list from the count of its n signals on, and a list
unfoldable pub dropped_from : ℕ → List ℕ → List ℕ
dropped_from n tail = take 2 tail ++ (narrowed n (drop 2 tail) ++ drop (entry 18 n) tail)

unfoldable pub dropped : List ℕ → List ℕ
dropped xs = take (signals_start xs) xs ++ dropped_from (signal_count xs) (signals_from xs)

-- "offsets of refusals follow the longer entries": what stands at `at` in a list whose n signal entries have b octets each, from the count at
-- `base` on, stands here where they have a
unfoldable pub offset_in : ℕ → ℕ → ℕ → ℕ → ℕ → ℕ
offset_in a b base n at = let k = min n ((at - (base + 2)) / b) in at + a * k - b * k

-- the same answer for entries of `size` octets, whose offsets are f of these
abbrev pub sized : ℕ → Counts → Counts
sized size n = record { checks = n.checks; signals = n.signals; codes = n.codes; routes = n.routes; version = n.version; size = size }

abbrev pub relaid : ℕ → (ℕ → ℕ) → Answer Counts → Answer Counts
relaid size f (gives n) = gives (sized size n)
relaid size f (refused m at) = refused m (f at)

-- the checks and the signals of a list are all present, of entries of `size` octets
pub record PresentIn (size : ℕ) (xs : List ℕ) : Type 0 where
  pub checks : signals_start xs ≤ length xs
  pub signals : entry size (signal_count xs) ≤ length (signals_from xs)

-- of a form 2 list: one that ends inside a serial number is refused for that, whatever the list without it would be
abbrev pub Present : List ℕ → Type 0
Present xs = PresentIn 18 xs

-- ---- Moving

-- n entries of 16 octets, each with two zeros more
unfoldable pub spread : ℕ → List ℕ → List ℕ
spread zero zs = []
spread (suc n) zs = take 16 zs ++ (0 ∷ 0 ∷ spread n (drop 16 zs))

unfoldable pub widened_from : ℕ → List ℕ → List ℕ
widened_from n tail = take 2 tail ++ (spread n (drop 2 tail) ++ drop (entry 16 n) tail)

unfoldable pub widened : List ℕ → List ℕ
widened xs = take (signals_start xs) xs ++ widened_from (signal_count xs) (signals_from xs)

-- "Moving to form 2 writes 0s": 1-4, then 33 "output not of the needed length"; `room` is the output's length
unfoldable pub to_form2 : List ℕ → ℕ → Answer (List ℕ)
to_form2 xs room = and_then (judge 1 xs) (λ n. refuse_if (not (eqb room (length (widened xs)))) 33 0 (gives (widened xs)))

-- "moving back needs every serial number 0": 1-4, then 32 "serial number set", then 33
abbrev pub any_serial : List ℕ → Counts → Bool
any_serial xs n = some (λ k. not (eqb (serial_at n.size (signals_part xs n) k) 0)) n.signals

unfoldable pub to_form1 : List ℕ → ℕ → Answer (List ℕ)
to_form1 xs room =
    and_then (judge 2 xs) (λ n. refuse_if (any_serial xs n) 32 0 (refuse_if (not (eqb room (length (dropped xs)))) 33 0 (gives (dropped xs))))
