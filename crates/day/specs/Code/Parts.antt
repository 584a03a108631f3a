-- For the private writer: a reading's line part by part. No statement of a public function rests on this page.
use Rattle.std.specs.Prelude.{ℕ, List, ◌∷◌, ◌++◌}
use Rattle.names.specs.Names.{bytes}
use Rattle.lines.specs.Code.Parts.{decimal_parts, counted_parts}

unfoldable pub reading_parts : ℕ → ℕ → ℕ → List (List ℕ)
reading_parts station eui counter = decimal_parts station ++ (bytes " " ∷ (decimal_parts eui ++ counted_parts (bytes " ") counter))
