-- Document 01, "Frame": eight bytes 4D 49 4F 54 59 42 30 31, four bytes payload size, little endian, payload.
use Rattle.std.specs.Prelude.{ℕ, ◌+◌, Result, Ok, Err}
use mathlib.Core.{Bool.Bool, Bool.true, Bool.false, List.List, List.[], List.◌∷◌}
use lib.{Dec.ltb, Dec.eqb, ListN.length, ListN.take, ListN.drop}
use Rattle.octets.specs.{Choice.either, Number.little_at, Size.is_size}
use Rattle.refusal.specs.Number.{number_of}
use Rattle.refusal.specs.declared.Refusal.{Refusal, TheVariants.FrameIncomplete, TheVariants.FrameIdentifier, TheVariants.Size}

unfoldable pub identifier : List ℕ
identifier = 0x4D ∷ 0x49 ∷ 0x4F ∷ 0x54 ∷ 0x59 ∷ 0x42 ∷ 0x30 ∷ 0x31 ∷ []

-- no byte that is there differs from the identifier's
unfoldable pub agrees : List ℕ → List ℕ → Bool
agrees [] s = true
agrees (b ∷ bs) [] = true
agrees (b ∷ bs) (x ∷ s) = either (eqb b x) (λ _. agrees bs s) (λ _. false)

-- the four bytes of the payload's size
abbrev pub size_of : List ℕ → ℕ
size_of s = little_at s 8 4

-- the size of a whole frame's payload, or what is refused
abbrev pub Framed : Type 0
Framed = Result ℕ Refusal

-- the identifier on the bytes present, then whether 12 are there, the size, the whole frame
unfoldable pub framed_of : List ℕ → Framed
framed_of s =
    either (agrees identifier s)
    (λ _. either (ltb (length s) 12) (λ _. Err FrameIncomplete)
    (λ _. either (is_size (size_of s))
    (λ _. either (ltb (length s) (12 + size_of s)) (λ _. Err FrameIncomplete) (λ _. Ok (size_of s)))
    (λ _. Err Size)))
    (λ _. Err FrameIdentifier)

-- the payload of a frame that is whole: that part of the input
abbrev pub payload_of : ℕ → List ℕ → List ℕ
payload_of size s = take size (drop 12 s)

-- document 01's number and the bytes used of each answer
abbrev pub frame_refusal : Framed → ℕ
frame_refusal (Ok n) = 0
frame_refusal (Err e) = number_of e

abbrev pub used_of : Framed → ℕ
used_of (Ok n) = 12 + n
used_of (Err e) = 0
