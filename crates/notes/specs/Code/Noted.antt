-- The walk of a payload's outer element, and where the value of each key of its map stands.
use mathlib.Core.{Path.◌≡◌, Bool.true, List.List}
use Rattle.std.specs.Prelude.{ℕ, ◌≤◌, ◌<◌, Result, Ok, Err, length, get_or}
use lib.Dec.{eqb, ltb}
use Rattle.refusal.specs.declared.Refusal.{Refusal, TheVariants.Size, TheVariants.NoCommand, TheVariants.UnknownCommand}
use Rattle.octets.specs.{Choice.either, Size.is_size}
use Rattle.element.specs.declared.Shape.TheVariants.{Map, Text}
use Rattle.element.specs.{Lead.head_of, Form.Role, Form.broken, Form.element_of, Code.At.body_from}
use Rattle.message.specs.{Code.Cells.places_of, Code.Notes.unnoted}
use Rattle.notes.specs.declared.Noted.{Noted}

abbrev pub broken_at : Refusal → Noted
broken_at r = record { step = broken r 0; places = unnoted }

-- a walk that breaks has noted what stood before the break
unfoldable pub opened_of : List ℕ → Noted
opened_of s = record { step = element_of s 8 Role.outer 0 0; places = places_of s }

-- a payload of no lawful size is refused
unfoldable pub noted_of : List ℕ → Noted
noted_of s = either (is_size (length s)) (λ _. opened_of s) (λ _. broken_at Size)

-- a payload that begins with the lead byte of a map
pub record BeginsMap (s : List ℕ) : Type 0 where
  pub size : is_size (length s) ≡ true
  pub used : get_or s 0 0 ≡ 0xC1 → ⊥
  pub map : (head_of (get_or s 0 0)).shape ≡ Map

-- a key's head and body stand from p to q
pub record IsKey (s : List ℕ) (p q : ℕ) : Type 0 where
  pub there : p < length s
  pub head : body_from s p ≤ q
  pub within : q ≤ length s

-- a text begins at p, which is no place of an outer map's lead byte
pub record IsTextAt (s : List ℕ) (p : ℕ) : Type 0 where
  pub behind : 2 ≤ p
  pub there : p < length s
  pub text : (head_of (get_or s p 0)).shape ≡ Text

-- the command that `command_at` finds, or why there is none: no one text (11), or a text that names none (12)
unfoldable pub commanded : ℕ → Result ℕ Refusal
commanded n = either (ltb n 24) (λ _. Ok n) (λ _. either (eqb n 24) (λ _. Err UnknownCommand) (λ _. Err NoCommand))
