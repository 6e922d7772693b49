-- C-17 by cases: what comparing two small lists tells, and what it doesn't. One table, one computed test.
use Rattle.std.specs.Prelude.{ℕ, ◌≡◌, refl, true, false, List, [], ◌∷◌, map, take}
use Rattle.paper.specs.Octets.{number, octets_of}
use Rattle.paper.specs.Answer.{refuse_if}
use Rattle.paper.specs.First.{first_from, first_bad, all, some, passing_from, passing, next, greatest}
use Rattle.paper.specs.SignalList
use Rattle.paper.specs.SignalList.{Signal, Code, Route, OfTwo, of_both, first_refused, second_refused, judge_to, version, has_codes, in_range, known_in, knows, place_of}
use Rattle.paper.specs.Extends.{codes_kept, keeps, stands, newer, extends}
use Rattle.paper.specs.Pairs.{has, index}
use Rattle.paper.specs.Comparing.{Range, starts, past, ranges, Change, added, removed, changed, change_at, Differing, differing, codes_compared, gained, signal_differs, signal_change, route_differs, route_change, Line, signal_line, route_line, verdict, signal_line_at, route_line_at, signal_lines, route_lines, compare, comparing}
use Rattle.paper.specs.Bench.{list_l, list_l2}
use Rattle.tables.specs.Cases.{joined, made, signal, code, route}

-- ---- Lists and lines

-- one check, at 18, and these signals, code entries and routes
abbrev under : List Signal → List Code → List Route → List ℕ
under signals codes routes = made (18 ∷ []) signals codes routes

-- a common signal of 4 bits, with the check, of the since-version 1, with no limit and the replacement 0
abbrev plain : ℕ → Signal
plain start = signal start 4 0 1 1 0 0

-- one of them, at 24, with these code entries; with these routes; and as another signal
abbrev coded : List Code → List ℕ
coded codes = under (plain 24 ∷ []) codes []

abbrev routed : List Route → List ℕ
routed routes = under (plain 24 ∷ plain 28 ∷ []) [] routes

abbrev other : Signal → List ℕ
other s = under (s ∷ []) [] []

-- a field by its place among those compared, and its two numbers; a range
abbrev field : ℕ → ℕ → ℕ → Differing
field place first second = record { field = place; first = first; second = second }

abbrev to : ℕ → ℕ → Range
to low high = record { low = low; high = high }

-- a line with type and start alone
abbrev alone : Change → ℕ → ℕ → Line
alone change type start = signal_line change type start [] [] []

-- ---- The table

pub record Row : Type 0 where
  pub first : List ℕ
  pub second : List ℕ
  pub second_form : ℕ
  pub told : OfTwo (List Line)

abbrev tells_in : ℕ → List ℕ → List ℕ → List Line → Row
tells_in form first second lines = record { first = first; second = second; second_form = form; told = of_both lines }

abbrev tell : List ℕ → List ℕ → List Line → Row
tell first second lines = tells_in 1 first second lines

unfoldable pub table : List Row
table =
    -- nothing differs: L and itself, and with a serial number in form 2; the check has another index, behind one that no signal names; a full code range and no entry
    tell list_l list_l (verdict true ∷ [])
    ∷ tells_in 2 list_l (list_l2 7) (verdict true ∷ [])
    ∷ tell (other (plain 24)) (made (16 ∷ 18 ∷ []) (signal 24 4 0 2 1 0 0 ∷ []) [] []) (verdict true ∷ [])
    ∷ tell (coded []) (coded (code 0 0 15 ∷ [])) (verdict true ∷ [])
    -- one range as long as possible; ranges gained and lost
    ∷ tell (coded (code 0 0 3 ∷ [])) (coded (code 0 0 7 ∷ [])) (signal_line changed 0 24 [] (to 4 7 ∷ []) [] ∷ verdict true ∷ [])
    ∷ tell (coded (code 0 0 3 ∷ code 0 8 11 ∷ [])) (coded (code 0 2 5 ∷ code 0 10 15 ∷ []))
    (signal_line changed 0 24 [] (to 4 5 ∷ to 12 15 ∷ []) (to 0 1 ∷ to 8 9 ∷ []) ∷ verdict false ∷ [])
    -- widths differ: codes are not compared
    ∷ tell (coded (code 0 0 3 ∷ [])) (under (signal 24 3 0 1 1 0 0 ∷ []) (code 0 2 4 ∷ []) []) (signal_line changed 0 24 (field 0 4 3 ∷ []) [] [] ∷ verdict false ∷ [])
    -- no check, another since-version and replacement; a limit alone, which extending leaves free
    ∷ tell (other (plain 24)) (other (signal 24 4 0 0 2 0 9)) (signal_line changed 0 24 (field 1 18 0 ∷ field 2 1 2 ∷ field 4 0 9 ∷ []) [] [] ∷ verdict false ∷ [])
    ∷ tell (other (plain 24)) (other (signal 24 4 0 1 1 5000 0)) (signal_line changed 0 24 (field 3 0 5000 ∷ []) [] [] ∷ verdict true ∷ [])
    -- added, and newer: the route's signal has another index now, but the same type and start; added, and not newer; removed; in order of type and start
    ∷ tell (under (plain 28 ∷ []) [] (route 0 1 0 ∷ [])) (under (signal 24 4 0 1 2 0 0 ∷ plain 28 ∷ []) [] (route 1 1 0 ∷ [])) (alone added 0 24 ∷ verdict true ∷ [])
    ∷ tell (other (plain 24)) (under (plain 24 ∷ plain 28 ∷ []) [] []) (alone added 0 28 ∷ verdict false ∷ [])
    ∷ tell (under (plain 24 ∷ signal 400 4 1 0 1 0 0 ∷ []) [] []) (under (signal 400 4 2 0 2 0 0 ∷ []) [] [])
    (alone removed 0 24 ∷ alone removed 1 400 ∷ alone added 2 400 ∷ verdict false ∷ [])
    -- routes: to another vehicle, and of another signal; one added and one removed. The verdict is of signals alone
    ∷ tell (routed (route 0 1 0 ∷ route 0 1 8 ∷ [])) (routed (route 0 2 0 ∷ route 1 1 8 ∷ []))
    (route_line changed 0 (field 0 1 2 ∷ []) ∷ route_line changed 8 (field 1 24 28 ∷ []) ∷ verdict true ∷ [])
    ∷ tell (routed (route 0 1 0 ∷ [])) (routed (route 0 1 8 ∷ [])) (route_line removed 0 [] ∷ route_line added 8 [] ∷ verdict true ∷ [])
    -- refused: the first, the second, both
    ∷ record { first = take 43 list_l; second = list_l; second_form = 1; told = first_refused 1 36 }
    ∷ record { first = list_l; second = []; second_form = 1; told = second_refused 1 0 }
    ∷ record { first = take 43 list_l; second = []; second_form = 1; told = first_refused 1 36 }
    ∷ []

-- the one computed test: every row's answer is the expected one
pub compared : map (λ r. comparing 1 r.first r.second_form r.second) table ≡ map (λ r. r.told) table
unfolding table list_l list_l2 joined made number octets_of refuse_if first_from first_bad all some passing_from passing next greatest SignalList.check_at SignalList.signal_size SignalList.signal_at SignalList.among SignalList.code_at
    SignalList.route_at SignalList.check_rule SignalList.signal_rule_to SignalList.code_rule SignalList.route_rule SignalList.opening SignalList.judge_entries SignalList.judge_section SignalList.greatest_since SignalList.ending
    SignalList.from_routes SignalList.from_codes SignalList.from_signals_to judge_to version has_codes in_range known_in knows place_of codes_kept keeps stands newer extends has index starts past ranges change_at differing codes_compared gained
    signal_differs signal_change route_differs route_change signal_line_at route_line_at signal_lines route_lines compare comparing
compared = refl
