-- Document 01, "Frame": a payload's size is 1 to 4,096.
use Rattle.std.specs.Prelude.{ℕ, Bool, ◌&&◌, leb}

unfoldable pub is_size : ℕ → Bool
is_size n = leb 1 n && leb n 4096
