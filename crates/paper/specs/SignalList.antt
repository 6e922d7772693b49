-- Document 01, "The signal list": its entries, the rule of each, and the judging to number and offset.
use Rattle.std.specs.Prelude.{ℕ, ◌+◌, ◌-◌, ◌*◌, ◌%◌, ◌^◌, ◌≤◌, ◌≡◌, Bool, not, cond, ◌&&◌, ◌||◌, List, length, get_or, drop, ltb, leb, eqb}
use Rattle.paper.specs.Octets.{number, fits}
use Rattle.paper.specs.Answer.{Answer, gives, refused, refuse_if, and_then, shift}
use Rattle.paper.specs.First.{first_bad, all, some, greatest}

-- ---- Entries

-- "start (2), width (1), type (1), check (1), since-version (1), time limit in ms (4), replacement (6)"
pub record Signal : Type 0 where
  pub start : ℕ
  pub width : ℕ
  pub type : ℕ
  pub check : ℕ
  pub since : ℕ
  pub limit : ℕ
  pub replacement : ℕ

-- "signal number from 0, low, high", two octets each
pub record Code : Type 0 where
  pub signal : ℕ
  pub low : ℕ
  pub high : ℕ

-- "signal (2), vehicle 1-63 (1), zero (1), destination start (2)"
pub record Route : Type 0 where
  pub signal : ℕ
  pub vehicle : ℕ
  pub null : ℕ
  pub start : ℕ

-- the first bit past a field, and past a check mark
abbrev pub field_end : Signal → ℕ
field_end s = s.start + s.width

-- "Four sections in this order, each after a 2-octet count": the sizes of an entry, and the limits of the counts
abbrev pub check_size : ℕ
check_size = 2

-- C-18: "In form 2 a signal entry has 18 octets, the last two that number packed by us .. all else is as in form 1. The caller says which form
-- comes in": a number, of which 2 says form 2 and any other form 1
unfoldable pub signal_size : ℕ → ℕ
signal_size form = cond (eqb form 2) 18 16

abbrev pub code_size : ℕ
code_size = 6

abbrev pub route_size : ℕ
route_size = 6

abbrev pub most_checks : ℕ
most_checks = 64

abbrev pub most_signals : ℕ
most_signals = 256

abbrev pub most_codes : ℕ
most_codes = 512

abbrev pub most_routes : ℕ
most_routes = 512

-- entry k of a section, whose octets start at its count
abbrev pub entry : ℕ → ℕ → ℕ
entry size k = 2 + size * k

unfoldable pub check_at : List ℕ → ℕ → ℕ
check_at xs k = number xs (entry check_size k) 2

-- of entries of `size` octets, of which those past the sixteenth are not read
unfoldable pub signal_at : ℕ → List ℕ → ℕ → Signal
signal_at size xs k =
    let at = entry size k in
    record {
      start = number xs at 2;
      width = get_or xs (at + 2) 0;
      type = get_or xs (at + 3) 0;
      check = get_or xs (at + 4) 0;
      since = get_or xs (at + 5) 0;
      limit = number xs (at + 6) 4;
      replacement = number xs (at + 10) 6;
    }

unfoldable pub code_at : List ℕ → ℕ → Code
code_at xs k =
    let at = entry code_size k in
    record { signal = number xs at 2; low = number xs (at + 2) 2; high = number xs (at + 4) 2 }

unfoldable pub route_at : List ℕ → ℕ → Route
route_at xs k =
    let at = entry route_size k in
    record { signal = number xs at 2; vehicle = get_or xs (at + 2) 0; null = get_or xs (at + 3) 0; start = number xs (at + 4) 2 }

-- ---- Rules

-- "a bit address, even, 16 to 1022, strictly rising"
unfoldable pub check_rule : (ℕ → ℕ) → ℕ → Bool
check_rule check k = eqb (check k % 2) 0 && leb 16 (check k) && leb (check k) 1022 && (eqb k 0 || ltb (check (k - 1)) (check k))

-- "Width 1-48", which C-15 amends: "Let widths run from 1 to 64". What goes by the greatest width has it as a parameter.
abbrev pub widest : ℕ
widest = 64

abbrev pub width_rule_to : ℕ → Signal → Bool
width_rule_to most s = leb 1 s.width && leb s.width most

abbrev pub width_rule : Signal → Bool
width_rule s = width_rule_to widest s

-- "Type 0 (common) lies wholly in addresses 16-319; type 1 (R1) or 2 (R2) wholly in 320-1023."
abbrev pub type_rule : Signal → Bool
type_rule s = leb s.type 2

abbrev pub place_rule : Signal → Bool
place_rule s =
    eqb s.type 0 && leb 16 s.start && leb (field_end s) 320
    || not (eqb s.type 0) && leb 320 s.start && leb (field_end s) 1024

-- "Check 0 is none, k names the k-th check, which exists and lies below 320 exactly if the type is 0."
abbrev pub named_rule : ℕ → (ℕ → ℕ) → Signal → Bool
named_rule checks check s =
    eqb s.check 0
    || leb s.check checks
    && (ltb (check (s.check - 1)) 320 && eqb s.type 0 || not (ltb (check (s.check - 1)) 320) && not (eqb s.type 0))

-- "Since 1-255. Limit 0-600,000; 0 means none. Replacement below 2^width."
abbrev pub longest_limit : ℕ
longest_limit = 600000

abbrev pub value_rule : Signal → Bool
value_rule s = leb 1 s.since && leb s.since 255 && leb s.limit longest_limit && fits s.replacement s.width

-- "Types never fall from one entry to the next; within a type each start is at or past the end of the field before."
abbrev pub order_rule : Signal → Signal → Bool
order_rule p s = ltb p.type s.type || eqb p.type s.type && leb (field_end p) s.start

-- "No field shares a bit with any check", which is the two bits at its place
abbrev pub apart : Signal → ℕ → Bool
apart s place = leb (field_end s) place || leb (place + 2) s.start

abbrev pub clear_rule : ℕ → (ℕ → ℕ) → Signal → Bool
clear_rule checks check s = all (λ j. apart s (check j)) checks

unfoldable pub signal_rule_to : ℕ → ℕ → (ℕ → ℕ) → (ℕ → Signal) → ℕ → Bool
signal_rule_to most checks check signal k =
    width_rule_to most (signal k) && type_rule (signal k) && place_rule (signal k) && named_rule checks check (signal k) && value_rule (signal k)
    && (eqb k 0 || order_rule (signal (k - 1)) (signal k))
    && clear_rule checks check (signal k)

abbrev pub signal_rule : ℕ → (ℕ → ℕ) → (ℕ → Signal) → ℕ → Bool
signal_rule checks check signal k = signal_rule_to widest checks check signal k

-- "The signal exists and has width at most 16; low ≤ high < 2^width. Signal numbers never fall; within a signal, low exceeds the
-- previous high by at least 2."
abbrev pub code_order : Code → Code → Bool
code_order p c = ltb p.signal c.signal || eqb p.signal c.signal && leb (p.high + 2) c.low

unfoldable pub code_rule : ℕ → (ℕ → Signal) → (ℕ → Code) → ℕ → Bool
code_rule signals signal code k =
    ltb (code k).signal signals && leb (signal (code k).signal).width 16
    && leb (code k).low (code k).high
    && fits (code k).high (signal (code k).signal).width
    && (eqb k 0 || code_order (code (k - 1)) (code k))

-- the first bit past a route's destination field, which is as wide as its signal
abbrev pub route_end : (ℕ → Signal) → Route → ℕ
route_end signal r = r.start + (signal r.signal).width

-- "The signal exists; the field ends at or before bit 2048; each start is at or past the end of the route before", and the vehicle and the zero
unfoldable pub route_rule : ℕ → (ℕ → Signal) → (ℕ → Route) → ℕ → Bool
route_rule signals signal route k =
    ltb (route k).signal signals && leb 1 (route k).vehicle && leb (route k).vehicle 63 && eqb (route k).null 0
    && leb (route_end signal (route k)) 2048
    && (eqb k 0 || leb (route_end signal (route (k - 1))) (route k).start)

-- ---- Judging

-- "count readable, count within its limit, entries all present": the count
unfoldable pub opening : ℕ → ℕ → List ℕ → Answer ℕ
opening limit size xs =
    refuse_if (ltb (length xs) 2) 1 0
    (refuse_if (ltb limit (number xs 0 2)) 2 0
    (refuse_if (ltb (length xs) (entry size (number xs 0 2))) 1 0
    (gives (number xs 0 2))))

-- "then the entries; the first bad entry ends the judging"
unfoldable pub judge_entries : ℕ → (ℕ → Bool) → ℕ → Answer ℕ
judge_entries size rule n = refuse_if (ltb (first_bad rule n) n) 3 (entry size (first_bad rule n)) (gives n)

-- "Each section is judged as the rest of the list from its count onward."
unfoldable pub judge_section : ℕ → ℕ → (ℕ → Bool) → List ℕ → Answer ℕ
judge_section limit size rule xs = and_then (opening limit size xs) (judge_entries size rule)

-- the rest of the list past a section of n entries
abbrev pub rest : ℕ → ℕ → List ℕ → List ℕ
rest size n xs = drop (entry size n) xs

-- "The list's version is its greatest since-version, 1 if it has no signal." (No since-version is below 1.)
unfoldable pub greatest_since : ℕ → (ℕ → Signal) → ℕ
greatest_since signals signal = greatest 1 (λ k. (signal k).since) signals

-- what an accepted list is reported with
pub record Counts : Type 0 where
  pub checks : ℕ
  pub signals : ℕ
  pub codes : ℕ
  pub routes : ℕ
  pub version : ℕ
  -- the octets of a signal entry
  pub size : ℕ

-- "the list ends with the last"; 4 "octets after the routes"
unfoldable pub ending : ℕ → ℕ → (ℕ → Signal) → ℕ → ℕ → List ℕ → ℕ → Answer Counts
ending size signals signal checks codes xs routes =
    refuse_if (ltb (entry route_size routes) (length xs)) 4 (entry route_size routes)
    (gives (record { checks = checks; signals = signals; codes = codes; routes = routes; version = greatest_since signals signal; size = size }))

-- the sections from each one on: its own judging, then the rest of the list, whose offsets lie that much further on
unfoldable pub from_routes : ℕ → ℕ → (ℕ → Signal) → ℕ → ℕ → List ℕ → Answer Counts
from_routes size signals signal checks codes xs =
    and_then (judge_section most_routes route_size (route_rule signals signal (route_at xs)) xs) (ending size signals signal checks codes xs)

unfoldable pub from_codes : ℕ → ℕ → (ℕ → Signal) → ℕ → List ℕ → Answer Counts
from_codes size signals signal checks xs =
    and_then (judge_section most_codes code_size (code_rule signals signal (code_at xs)) xs)
    (λ codes. shift (entry code_size codes) (from_routes size signals signal checks codes (rest code_size codes xs)))

unfoldable pub from_signals_to : ℕ → ℕ → ℕ → (ℕ → ℕ) → List ℕ → Answer Counts
from_signals_to most size checks check xs =
    and_then (judge_section most_signals size (signal_rule_to most checks check (signal_at size xs)) xs)
    (λ signals. shift (entry size signals) (from_codes size signals (signal_at size xs) checks (rest size signals xs)))

abbrev pub from_signals : ℕ → ℕ → (ℕ → ℕ) → List ℕ → Answer Counts
from_signals size checks check xs = from_signals_to widest size checks check xs

-- "Judging goes section by section", of a list whose signal entries have `size` octets; then of a list in the form that the caller says
unfoldable pub judge_to : ℕ → ℕ → List ℕ → Answer Counts
judge_to most size xs =
    and_then (judge_section most_checks check_size (check_rule (check_at xs)) xs)
    (λ checks. shift (entry check_size checks) (from_signals_to most size checks (check_at xs) (rest check_size checks xs)))

abbrev pub judge_sized : ℕ → List ℕ → Answer Counts
judge_sized size xs = judge_to widest size xs

abbrev pub judge : ℕ → List ℕ → Answer Counts
judge form xs = judge_sized (signal_size form) xs

-- ---- A list, apart from how its octets are laid out: what reading, marshalling, composing and extending go by

pub record SignalList : Type 0 where
  pub checks : ℕ
  pub check : ℕ → ℕ
  pub signals : ℕ
  pub signal : ℕ → Signal
  pub codes : ℕ
  pub code : ℕ → Code
  pub routes : ℕ
  pub route : ℕ → Route

-- entry k of a table of n; past it no octet of the list says anything
unfoldable pub among : {A : Type 0} → ℕ → (ℕ → A) → A → ℕ → A
among n table other k = cond (ltb k n) (table k) other

-- no signal
abbrev pub no_signal : Signal
no_signal = record { start = 0; width = 0; type = 0; check = 0; since = 0; limit = 0; replacement = 0 }

-- the octets of a list with these counts
abbrev pub signals_part : List ℕ → Counts → List ℕ
signals_part xs n = rest check_size n.checks xs

abbrev pub codes_part : List ℕ → Counts → List ℕ
codes_part xs n = rest n.size n.signals (signals_part xs n)

abbrev pub routes_part : List ℕ → Counts → List ℕ
routes_part xs n = rest code_size n.codes (codes_part xs n)

abbrev pub list_of : List ℕ → Counts → SignalList
list_of xs n = record {
  checks = n.checks;
  check = among n.checks (check_at xs) 0;
  signals = n.signals;
  signal = among n.signals (signal_at n.size (signals_part xs n)) no_signal;
  codes = n.codes;
  code = code_at (codes_part xs n);
  routes = n.routes;
  route = route_at (routes_part xs n);
}

-- ---- What a list tells of its signals

-- "The list's version is its greatest since-version, 1 if it has no signal."
unfoldable pub version : SignalList → ℕ
version l = greatest_since l.signals l.signal

-- among the code entries there is one for signal k, and one that holds the code c of it
unfoldable pub has_codes : ℕ → (ℕ → Code) → ℕ → Bool
has_codes codes code k = some (λ e. eqb (code e).signal k) codes

unfoldable pub in_range : ℕ → (ℕ → Code) → ℕ → ℕ → Bool
in_range codes code k c = some (λ e. eqb (code e).signal k && leb (code e).low c && leb c (code e).high) codes

-- "A signal with no entry knows every code."
unfoldable pub known_in : ℕ → (ℕ → Code) → ℕ → ℕ → Bool
known_in codes code k c = not (has_codes codes code k) || in_range codes code k c

unfoldable pub knows : SignalList → ℕ → ℕ → Bool
knows l k c = known_in l.codes l.code k c

-- the place of the check that a signal names; no check lies at 0, which stands for none
unfoldable pub place_of : SignalList → Signal → ℕ
place_of l s = cond (eqb s.check 0) 0 (l.check (s.check - 1))

-- ---- Calls that go by lists

-- "1-4 come first as judging meets them": a call that goes by a list judges it, and goes on with what is accepted
abbrev pub under_list_to : {A : Type 0} → ℕ → ℕ → List ℕ → (SignalList → Answer A) → Answer A
under_list_to most form xs call = and_then (judge_to most (signal_size form) xs) (λ n. call (list_of xs n))

abbrev pub under_list : {A : Type 0} → ℕ → List ℕ → (SignalList → Answer A) → Answer A
under_list form xs call = under_list_to widest form xs call

-- what a call on two lists answers: a value, or the refusal of the first that is refused, and which that is
pub data OfTwo (A : Type 0) : Type 0 where
  of_both : A → OfTwo A
  first_refused : ℕ → ℕ → OfTwo A
  second_refused : ℕ → ℕ → OfTwo A

-- the call is not refused; a refusal's number is never 0
abbrev pub GivenTwo : {A : Type 0} → OfTwo A → Type 0
GivenTwo {A} a = (x : A) × (a ≡ of_both x)

unfoldable pub NumberedTwo : {A : Type 0} → OfTwo A → Type 0
NumberedTwo (of_both a) = Unit {0}
NumberedTwo (first_refused n at) = 1 ≤ n
NumberedTwo (second_refused n at) = 1 ≤ n

abbrev pub of_two : {A B : Type 0} → Answer A → (ℕ → ℕ → OfTwo B) → (A → OfTwo B) → OfTwo B
of_two (gives n) refusal call = call n
of_two (refused m at) refusal call = refusal m at

-- "of two lists, the first is judged first"
abbrev pub under_lists : {A : Type 0} → ℕ → List ℕ → ℕ → List ℕ → (SignalList → SignalList → A) → OfTwo A
under_lists form xs form' ys call =
    of_two (judge form xs) first_refused (λ m. of_two (judge form' ys) second_refused (λ n. of_both (call (list_of xs m) (list_of ys n))))
