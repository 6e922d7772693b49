-- The entries that the code reads, as those of the paper, and what each reader answers: the entry, and the bounds that spare a caller the law.
use Rattle.std.specs.Prelude.{ℕ, ◌+◌, ◌*◌, ◌^◌, ◌<◌, ◌≤◌, min, ◌≡◌, Bool, cond, ◌&&◌, ◌||◌, List, ltb, leb, eqb}
use Rattle.paper.specs.SignalList.{Signal as PaperSignal, Code as PaperCode, Route as PaperRoute, code_at, route_at}
use Rattle.paper.specs.SignalList.{field_end, width_rule, type_rule, value_rule, route_end}
use Rattle.entries.specs.declared.Signal.{Signal}
use Rattle.entries.specs.declared.Code.{Code}
use Rattle.entries.specs.declared.Route.{Route}

-- the paper's type is the code's kind
abbrev pub signal_of : Signal → PaperSignal
signal_of s = record {
  start = s.start;
  width = s.width;
  type = s.kind;
  check = s.check;
  since = s.since;
  limit = s.limit;
  replacement = s.replacement;
}

abbrev pub code_of : Code → PaperCode
code_of c = record { signal = c.signal; low = c.low; high = c.high }

abbrev pub route_of : Route → PaperRoute
route_of r = record { signal = r.signal; vehicle = r.vehicle; null = r.null; start = r.start }

-- a signal whose end can be worked out
pub record Placeable (s : Signal) : Type 0 where
  pub start_small : s.start < 65536
  pub width_small : s.width < 256

pub record CheckRead (place r : ℕ) : Type 0 where
  pub is : r ≡ place
  pub small : r < 65536

pub record SignalRead (s : PaperSignal) (r : Signal) : Type 0 where
  pub is : signal_of r ≡ s
  pub start_small : r.start < 65536
  pub width_small : r.width < 256
  pub kind_small : r.kind < 256
  pub check_small : r.check < 256
  pub since_small : r.since < 256
  pub limit_small : r.limit < 2 ^ 32
  pub replacement_small : r.replacement < 2 ^ 48

pub record CodeRead (xs : List ℕ) (k : ℕ) (r : Code) : Type 0 where
  pub is : code_of r ≡ code_at xs k
  pub signal_small : r.signal < 65536
  pub low_small : r.low < 65536
  pub high_small : r.high < 65536

pub record RouteRead (xs : List ℕ) (k : ℕ) (r : Route) : Type 0 where
  pub is : route_of r ≡ route_at xs k
  pub signal_small : r.signal < 65536
  pub vehicle_small : r.vehicle < 256
  pub null_small : r.null < 256
  pub start_small : r.start < 65536

-- r is the octet x
pub record OctetRead (x r : ℕ) : Type 0 where
  pub is : r ≡ x
  pub small : r < 256

-- an entry of `group` that begins at `start` stands in order behind one of the group `last` that reaches to `past`
abbrev pub in_order : ℕ → ℕ → ℕ → ℕ → Bool
in_order last past group start = ltb last group || eqb last group && leb past start

-- the first `common` of the checks lie in the octets that every type carries, the others behind them
pub record Parted (checks : ℕ) (check : ℕ → ℕ) (common : ℕ) : Type 0 where
  pub within : common ≤ checks
  pub low : (j : ℕ) → j < common → check j < 320
  pub high : (j : ℕ) → common ≤ j → j < checks → 320 ≤ check j

-- the rules of type, place and named check, by that number
unfoldable pub part_keeps : ℕ → ℕ → PaperSignal → Bool
part_keeps checks common s =
    cond (eqb s.type 0) (leb 16 s.start && leb (field_end s) 320 && leb s.check common)
    (type_rule s && (leb 320 s.start && leb (field_end s) 1024) && ((eqb s.check 0 || ltb common s.check) && leb s.check checks))

-- the rule of the signal s, behind a field of type `kind` that ends at `past`, but for the bits that it may share with a check
unfoldable pub own_keeps : ℕ → ℕ → ℕ → ℕ → PaperSignal → Bool
own_keeps checks common kind past s = width_rule s && (part_keeps checks common s && (value_rule s && in_order kind past s.type s.start))

-- the key of a code entry, and the least of one behind it: no code of its own signal is left where the two are past 65535
abbrev pub code_low : PaperCode → ℕ
code_low c = c.signal * 65536 + c.low

abbrev pub code_past : PaperCode → ℕ
code_past c = c.signal * 65536 + min (c.high + 2) 65536

-- the rule of the code entry c, whose least key is `least`
unfoldable pub code_keeps : ℕ → (ℕ → PaperSignal) → ℕ → PaperCode → Bool
code_keeps signals signal least c =
    ltb c.signal signals && leb (signal c.signal).width 16 && leb c.low c.high && ltb c.high (2 ^ (signal c.signal).width)
    && leb least (code_low c)

-- the rule of the route r, behind one that ends at `past`
unfoldable pub route_keeps : ℕ → (ℕ → PaperSignal) → ℕ → PaperRoute → Bool
route_keeps signals signal past r =
    ltb r.signal signals && leb 1 r.vehicle && leb r.vehicle 63 && eqb r.null 0 && leb (route_end signal r) 2048 && leb past r.start
