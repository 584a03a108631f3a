-- Document 01, "Program": all that is printed of an input whose first frame has a number.
use mathlib.Core.{Path.◌≡◌, List.List, List.[], List.◌++◌}
use Rattle.std.specs.Prelude.{ℕ, suc, ◌<◌, length, drop, Result}
use Rattle.frame.specs.Frame.{size_of, framed_of, payload_of, frame_refusal, used_of}
use Rattle.refusal.specs.declared.Broken.{Broken}
use Rattle.record.specs.declared.Counted.{Counted}
use Rattle.lines.specs.{Means.Means, Lines.line_of, Lines.end_line, Lines.stop_lines}

-- nothing is left; a whole frame, and what is behind it; or a frame that is refused with 1, 2 or 3
pub data Prints : ℕ → List ℕ → List ℕ → Type 0 where
  finished : (n : ℕ) → Prints n [] (end_line n)
  framed : (n : ℕ) (s out : List ℕ) (t : Result Counted Broken) → frame_refusal (framed_of s) ≡ 0 → Means (payload_of (size_of s) s) t
      → Prints (suc n) (drop (used_of (framed_of s)) s) out → Prints n s (line_of n t ++ out)
  stopped : (n : ℕ) (s : List ℕ) → 0 < length s → (frame_refusal (framed_of s) ≡ 0 → ⊥) → Prints n s (stop_lines n (frame_refusal (framed_of s)))
