-- How far a line has come.
use Rattle.std.specs.Prelude.{ℕ, ◌≤◌, max}

-- of a line within its room of 240 octets, one within it
abbrev pub InRoom : ℕ → ℕ → Type 0
InRoom before after = after ≤ max before 240
