-- The code entries of an accepted list in their order, and which of them are a signal's.
use Rattle.std.specs.Prelude.{ℕ, ◌+◌, ◌*◌, ◌≤◌, ◌<◌, ◌≡◌}
use Rattle.paper.specs.SignalList.{Code, SignalList}
use Rattle.paper.specs.Search.{Between, Cut}
use Rattle.paper.specs.Accepted.{CodeFollows}
use Rattle.known.specs.declared.Span.{Span}

-- of two entries the later is of a later signal, or past a gap
pub record Ordered (codes : ℕ) (code : ℕ → Code) : Type 0 where
  pub range : (e : ℕ) → e < codes → (code e).low ≤ (code e).high
  pub small : (e : ℕ) → e < codes → (code e).high < 65536
  pub follows : (e g : ℕ) → e < g → g < codes → CodeFollows (code e) (code g)

-- what the entries rise by
abbrev pub code_key : Code → ℕ
code_key c = c.signal * 65536 + c.high

abbrev pub code_keys : (ℕ → Code) → ℕ → ℕ
code_keys code e = code_key (code e)

abbrev pub code_signals : (ℕ → Code) → ℕ → ℕ
code_signals code e = (code e).signal

-- the entries of signal k are those from `from` to before `to`
pub record Own (codes : ℕ) (code : ℕ → Code) (k from to : ℕ) : Type 0 where
  pub ordered : from ≤ to
  pub most : to ≤ codes
  pub before : (e : ℕ) → e < from → (code e).signal < k
  pub within : (e : ℕ) → from ≤ e → e < to → (code e).signal ≡ k
  pub after : (e : ℕ) → to ≤ e → e < codes → k < (code e).signal

-- the entries of signal k of a list
abbrev pub Entries : SignalList → ℕ → Span → Type 0
Entries l k s = Own l.codes l.code k s.from s.to

-- every entry before e is of a signal before k; and e is the first that is not
abbrev pub From : SignalList → ℕ → ℕ → Type 0
From l k e = Between (code_signals l.code) l.codes k e l.codes

abbrev pub Starts : SignalList → ℕ → ℕ → Type 0
Starts l k e = Cut (code_signals l.code) l.codes k e
