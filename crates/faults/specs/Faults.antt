-- The paper's answer for each case of the code's, and the rules of an entry as the code asks them, of the entry before and this one.
use Rattle.std.specs.Prelude.{ℕ, ◌+◌, Bool, Option, not, ◌&&◌, ◌||◌, List, [], ◌∷◌, ltb, leb, eqb}
use Rattle.paper.specs.Octets.{fits}
use Rattle.paper.specs.SignalList.{Signal, Code, Route, field_end, longest_limit, width_rule, type_rule, place_rule, named_rule}
use Rattle.paper.specs.Answer.{Sought}
use Rattle.paper.specs.Broken.{Fault as PaperFault}
use Rattle.refusals.specs.Outcome.{sought_of}
use Rattle.faults.specs.declared.Fault.{Fault}

-- the paper's type is the code's kind
abbrev pub fault_as : Fault → PaperFault
fault_as f = record {
  section = f.section;
  index = f.index;
  rule = f.rule;
  signal = f.signal;
  type = f.kind;
  start = f.start;
  width = f.width;
  at = f.at;
}

abbrev pub fault_answer : Option Fault → Sought PaperFault
fault_answer = sought_of fault_as

-- width, type, place and check of s
abbrev pub place_tests : ℕ → (ℕ → ℕ) → Signal → List Bool
place_tests checks check s = width_rule s ∷ type_rule s ∷ place_rule s ∷ named_rule checks check s ∷ []

-- since, limit and replacement of s; the order of k behind p
abbrev pub value_tests : Signal → List Bool
value_tests s = (leb 1 s.since && leb s.since 255) ∷ leb s.limit longest_limit ∷ fits s.replacement s.width ∷ []

abbrev pub order_tests : ℕ → Signal → Signal → List Bool
order_tests k p s =
    (eqb k 0 || leb p.type s.type) ∷ (eqb k 0 || not (eqb p.type s.type) || leb (field_end p) s.start) ∷ []

-- of a code entry c behind p, of a signal of so many bits
abbrev pub code_tests_of : ℕ → ℕ → ℕ → Code → Code → List Bool
code_tests_of signals width k p c =
    ltb c.signal signals ∷ leb width 16 ∷ leb c.low c.high ∷ fits c.high width
    ∷ (eqb k 0 || leb p.signal c.signal) ∷ (eqb k 0 || not (eqb p.signal c.signal) || leb (p.high + 2) c.low) ∷ []

-- of a route r that ends at `end`, behind one that ends at `past`
abbrev pub route_tests_of : ℕ → ℕ → ℕ → ℕ → Route → List Bool
route_tests_of signals end k past r =
    ltb r.signal signals ∷ (leb 1 r.vehicle && leb r.vehicle 63) ∷ eqb r.null 0 ∷ leb end 2048 ∷ (eqb k 0 || leb past r.start) ∷ []
