-- Document 02, Q-3: what the program prints. "a reading new there ... prints station, EUI and counter in decimal, other messages nothing"; the first
-- fault "prints `refused` and its number".
use Rattle.std.specs.Prelude.{ℕ, List, [], ◌++◌, Option, Some, None}
use Rattle.names.specs.Names.{bytes}
use Rattle.lines.specs.Lines.{decimal, counted}
use Rattle.play.specs.declared.Credited.{Credited}

unfoldable pub reading_line : ℕ → ℕ → ℕ → List ℕ
reading_line station eui counter = decimal station ++ (bytes " " ++ (decimal eui ++ counted (bytes " ") counter))

unfoldable pub line_of : ℕ → Option Credited → List ℕ
line_of station (Some r) = reading_line station r.eui r.counter
line_of station None = []

unfoldable pub refused_line : ℕ → List ℕ
refused_line number = counted (bytes "refused ") number
