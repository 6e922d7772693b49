-- Each rule of the four sections, and a list whose entry breaks that one first: one table, one computed test.
use Rattle.std.specs.Prelude.{ℕ, ◌≡◌, refl, List, [], ◌∷◌, map}
use Rattle.paper.specs.Octets.{number, octets_of}
use Rattle.paper.specs.Answer.{refuse_if}
use Rattle.paper.specs.First.{first_from, first_bad, all}
use Rattle.paper.specs.SignalList
use Rattle.paper.specs.SignalList.{Signal, Code, Route}
use Rattle.paper.specs.Broken.{fault_in, fault_from_routes, fault_from_codes, fault_from_signals, fault_of}
use Rattle.tables.specs.Cases.{joined, made, signal, code, route, faults, gave, ask}

-- a list, and what is said of its entry at fault
pub record Break : Type 0 where
  pub list : List ℕ
  pub said : List ℕ

-- section, number and rule of the entry; signal, type, start and width; offset
abbrev pub breaks : List ℕ → ℕ → ℕ → ℕ → ℕ → ℕ → ℕ → ℕ → ℕ → Break
breaks list section index rule signal type start width at =
    record { list = list; said = gave (1 ∷ section ∷ index ∷ rule ∷ signal ∷ type ∷ start ∷ width ∷ at ∷ []) }

-- lists of checks, of signals behind one check at 400, of signals alone; of a signal of 8 bits and one of 17 with codes, with routes
abbrev checks : List ℕ → List ℕ
checks cs = made cs [] [] []

abbrev alone : List Signal → List ℕ
alone ss = made [] ss [] []

abbrev signals : List Signal
signals = signal 320 8 1 0 1 0 0 ∷ signal 400 17 1 0 1 0 0 ∷ []

abbrev codes : List Code → List ℕ
codes cs = made [] signals cs []

abbrev routes : List Route → List ℕ
routes rs = made [] signals [] rs

unfoldable pub table : List Break
table =
    breaks (checks (17 ∷ [])) 1 0 1 0 0 17 2 2
    ∷ breaks (checks (14 ∷ [])) 1 0 2 0 0 14 2 2
    ∷ breaks (checks (1024 ∷ [])) 1 0 3 0 0 1024 2 2
    ∷ breaks (checks (16 ∷ 18 ∷ 18 ∷ [])) 1 2 4 0 0 18 2 6
    ∷ breaks (alone (signal 320 65 1 0 1 0 0 ∷ [])) 2 0 1 0 1 320 65 4
    ∷ breaks (alone (signal 320 8 3 0 1 0 0 ∷ [])) 2 0 2 0 3 320 8 4
    ∷ breaks (alone (signal 1017 8 1 0 1 0 0 ∷ [])) 2 0 3 0 1 1017 8 4
    ∷ breaks (made (318 ∷ []) (signal 320 8 1 1 1 0 0 ∷ []) [] []) 2 0 4 0 1 320 8 6
    ∷ breaks (alone (signal 320 8 1 0 0 0 0 ∷ [])) 2 0 5 0 1 320 8 4
    ∷ breaks (alone (signal 320 8 1 0 1 600001 0 ∷ [])) 2 0 6 0 1 320 8 4
    ∷ breaks (alone (signal 320 8 1 0 1 0 256 ∷ [])) 2 0 7 0 1 320 8 4
    ∷ breaks (alone (signal 320 8 1 0 1 0 0 ∷ signal 100 8 0 0 1 0 0 ∷ [])) 2 1 8 1 0 100 8 20
    ∷ breaks (alone (signal 320 8 1 0 1 0 0 ∷ signal 327 8 1 0 1 0 0 ∷ [])) 2 1 9 1 1 327 8 20
    ∷ breaks (made (400 ∷ []) (signal 320 8 1 0 1 0 0 ∷ signal 401 8 1 0 1 0 0 ∷ []) [] []) 2 1 10 1 1 401 8 22
    ∷ breaks (codes (code 2 0 1 ∷ [])) 3 0 1 2 0 0 0 38
    ∷ breaks (codes (code 1 0 1 ∷ [])) 3 0 2 1 1 400 17 38
    ∷ breaks (codes (code 0 2 1 ∷ [])) 3 0 3 0 1 320 8 38
    ∷ breaks (codes (code 0 0 256 ∷ [])) 3 0 4 0 1 320 8 38
    ∷ breaks (made [] (signal 320 8 1 0 1 0 0 ∷ signal 400 8 1 0 1 0 0 ∷ []) (code 1 0 1 ∷ code 0 0 1 ∷ []) []) 3 1 5 0 1 320 8 44
    ∷ breaks (codes (code 0 0 3 ∷ code 0 4 5 ∷ [])) 3 1 6 0 1 320 8 44
    ∷ breaks (routes (route 2 1 0 ∷ [])) 4 0 1 2 0 0 0 40
    ∷ breaks (routes (route 1 64 0 ∷ [])) 4 0 2 1 1 400 17 40
    ∷ breaks (routes (record { signal = 0; vehicle = 1; null = 1; start = 0 } ∷ [])) 4 0 3 0 1 320 8 40
    ∷ breaks (routes (route 0 1 2041 ∷ [])) 4 0 4 0 1 320 8 40
    ∷ breaks (routes (route 0 1 0 ∷ route 0 1 7 ∷ [])) 4 1 5 0 1 320 8 46
    ∷ []

-- the one computed test: the table with its answers worked out is the table
pub each_rule : map (λ b. record { list = b.list; said = ask (faults b.list) }) table ≡ table
unfolding table joined made ask number octets_of refuse_if first_from first_bad all SignalList.check_at SignalList.signal_size SignalList.signal_at SignalList.among SignalList.code_at SignalList.route_at
    SignalList.check_rule SignalList.signal_rule_to SignalList.code_rule SignalList.route_rule SignalList.opening fault_in fault_from_routes fault_from_codes
    fault_from_signals fault_of
each_rule = refl
