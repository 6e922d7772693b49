-- The signals of a list as the paper reads them.
use Rattle.std.specs.Prelude.{ℕ}
use Rattle.paper.specs.SignalList.{Signal, signal_at}
use Rattle.entries.specs.declared.signals.Signals.{Signals}

abbrev pub signals_as : Signals → ℕ → Signal
signals_as s = signal_at s.size s.tail.now
