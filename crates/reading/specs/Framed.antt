-- A payload that arrives in a frame: the frame's refusal, which leaves the lent bytes, or what its payload means.
use mathlib.Core.{Path.◌≡◌, List.List}
use Rattle.std.specs.Prelude.{ℕ, Ok, Err}
use Rattle.refusal.specs.declared.Refusal.{Refusal}
use Rattle.frame.specs.Frame.{framed_of, payload_of, used_of}
use Rattle.record.specs.Meant.{Answered, refuses, Meant}
use Rattle.reading.specs.declared.Unframed.{Unframed}

-- what is told, and the lent bytes afterwards
abbrev pub answer_in : Unframed → List ℕ → Answered
answer_in r e = record { told = r.told; lent = e }

pub record MeantFramed (s d : List ℕ) (r : Unframed) (e : List ℕ) : Type 0 where
  pub used : r.used ≡ used_of (framed_of s)
  pub refused : (k : Refusal) → framed_of s ≡ Err k → answer_in r e ≡ refuses k d
  pub whole : (n : ℕ) → framed_of s ≡ Ok n → Meant (payload_of n s) d (answer_in r e)
