-- The text of a line, part by part: each law in the shape of a need of the code. Assumes nothing.
use mathlib.Core.Path.{◌≡◌, refl, sym, ap, ap₂, ◌∙◌}
use mathlib.Core.Bool.{Bool, true, false}
use mathlib.Core.List.{List, [], ◌∷◌, ◌++◌}
use Prim.Native.Nat.{ℕ, zero, suc, ◌+◌, ◌-◌, ◌*◌, ◌≤◌, ◌<◌}
use native.Mathlib.Nat.{add-zero}
use native.Mathlib.Numerals.{add-one}
use native.Mathlib.Omega.{arith}
use lib.{Dec.leb, Dec.leb→le, IntN.ℤ, IntN.pos, IntN.nat_abs, Signed.lt_z}
use lib.ListN.{length, get_or, take, drop, replicate}
use mir.Syntax.{w64}
use mir.Val.{SFits, Fits}
use mir.ValLaws.{to_z-of_z}
use borrow.Author.Tests.{eq-eqb, ne_eqb}
use Rattle.octets.specs.{Choice.either, Bytes.put_at}
use Rattle.octets.proofs.{Ranges.ranged, Ranges.is_true, Writing.put_none}
use Rattle.octets.proofs.Signs.{back, turn, turn_whole, plain_whole}
use Rattle.forms.specs.Code.Put.{Put, put, put_part, put_parts}
use Rattle.forms.proofs.{Putting.parts_then, Signs.turn_below, Signs.whole64}
use Rattle.names.specs.Names.{bytes, same_bytes, commands, name_at}
use Rattle.names.proofs.Same.{same_eq}
use Rattle.std.specs.Prelude.{Result, Ok, Err}
use Rattle.refusal.specs.{Number.number_of, declared.Broken.Broken}
use Rattle.record.specs.{declared.Counted.Counted, Record.command_in, Meant.refusal_told, Meant.message_told}
use Rattle.lines.specs.Lines.{newline}
use Rattle.lines.specs.Code.Parts.{decimal_parts, signed_parts, counted_parts, named_parts, message_parts, line_parts, stop_parts}

-- words, a number and the end of the line
pub counted_put : (o b c a : Put) (words : List ℕ) (n : ℕ) → b ≡ put_parts (words ∷ []) o → c ≡ put_parts (decimal_parts n) b → a ≡ put_parts (newline ∷ []) c → a ≡ put_parts (counted_parts words n) o
unfolding counted_parts
counted_put o b c a words n e f g =
    parts_then (words ∷ []) (decimal_parts n ++ (newline ∷ [])) o b a e (parts_then (decimal_parts n) (newline ∷ []) b c a f g)

-- a sign and digits
module _ (z : ℤ) (m : SFits w64 z) where
  module _ (t : lt_z (back w64 z) (pos 0) ≡ true) where
    pub turn_more : Fits w64 (turn w64 z + 1)
    turn_more = record { fits = omega (arith, turn_below z m t) }

    pub put_minus : (o b a : Put) → b ≡ put_parts (bytes "-" ∷ []) o → a ≡ put_parts (decimal_parts (turn w64 z + 1)) b → a ≡ put_parts (signed_parts z) o
    unfolding signed_parts
    put_minus o b a e f =
        parts_then (bytes "-" ∷ []) (decimal_parts (suc (turn w64 z))) o b a e (rw add-one at f)
        ∙ ap (λ (y : ℤ). put_parts (signed_parts y) o) (turn_whole w64 z m t)

  module _ (t : lt_z (back w64 z) (pos 0) ≡ false) where
    pub put_plain : (o a : Put) → a ≡ put_parts (decimal_parts (nat_abs (back w64 z))) o → a ≡ put_parts (signed_parts z) o
    unfolding signed_parts
    put_plain o a e = e ∙ ap (λ (y : ℤ). put_parts (signed_parts y) o) (plain_whole w64 z m t)

pub ruleset signs = (whole64, turn_more, put_minus, put_plain, arith)

-- nothing to write
pub none_put : (o : Put) → o ≡ put_parts ([] ∷ []) o
unfolding put_parts put_part
none_put o = go (leb (o.next + 0) (length o.room))
  where
    go : (t : Bool) → o ≡ either t (λ _. put (put_at o.room o.next []) (o.next + 0)) (λ _. o)
    go true = sym (ap₂ (λ (r : List ℕ) (n : ℕ). put r n) (put_none o.room o.next) (add-zero o.next))
    go false = refl

-- the names, thirteen places each: the length, the bytes and spaces
abbrev rows : List (List ℕ) → List ℕ
rows [] = []
rows (n ∷ ns) = (length n ∷ n ++ replicate (12 - length n) 0x20) ++ rows ns

abbrev row_at : ℕ → List ℕ
row_at c = take (c * 13 + 1 + get_or (rows commands) (c * 13) 0 - (c * 13 + 1)) (drop (c * 13 + 1) (rows commands))

module _ (c : ℕ) (h : c < 24) where
  row_is : row_at c ≡ name_at commands c
  unfolding commands name_at
  row_is =
      same_eq (row_at c) (name_at commands c)
      (sym (is_true (same_bytes (row_at c) (name_at commands c)) (ranged (λ k. same_bytes (row_at k) (name_at commands k)) 0 24 tt c (omega arith) h)))

  row_within : get_or (rows commands) (c * 13) 0 ≤ 12
  unfolding commands
  row_within = leb→le (get_or (rows commands) (c * 13) 0) 12 (ranged (λ k. leb (get_or (rows commands) (k * 13) 0) 12) 0 24 tt c (omega arith) h)

  pub row_fits : Fits w64 (get_or (rows commands) (c * 13) 0)
  row_fits = record { fits = omega (arith, row_within) }

  pub row_end_fits : Fits w64 (c * 13 + 1 + get_or (rows commands) (c * 13) 0)
  row_end_fits = record { fits = omega (arith, row_within) }

  pub row_end : c * 13 + 1 + get_or (rows commands) (c * 13) 0 ≤ 312
  row_end = omega (arith, row_within)

  pub row_put : (o a : Put) → a ≡ put_parts (row_at c ∷ []) o → a ≡ put_parts (name_at commands c ∷ []) o
  row_put o a e = e ∙ ap (λ (l : List ℕ). put_parts (l ∷ []) o) row_is

beyond : (ns : List (List ℕ)) (c : ℕ) → length ns ≤ c → name_at ns c ≡ []
unfolding name_at
beyond [] c h = refl
beyond (n ∷ ns) zero h = absurd (omega arith)
beyond (n ∷ ns) (suc c) h = beyond ns c (omega arith)

pub no_row_put : (c : ℕ) → 24 ≤ c → (o : Put) → o ≡ put_parts (name_at commands c ∷ []) o
unfolding commands
no_row_put c h o = none_put o ∙ ap (λ (l : List ℕ). put_parts (l ∷ []) o) (sym (beyond commands c (omega arith)))

-- a whole line
pub named_put : (o b c a : Put) (command : ℕ) → b ≡ put_parts (bytes " " ∷ []) o → c ≡ put_parts (name_at commands command ∷ []) b → a ≡ put_parts (bytes " " ∷ []) c → a ≡ put_parts (named_parts command) o
named_put o b c a command e f g =
    parts_then (bytes " " ∷ []) (name_at commands command ∷ (bytes " " ∷ [])) o b a e
    (parts_then (name_at commands command ∷ []) (bytes " " ∷ []) b c a f g)

pub message_put : (o b c a : Put) (command : ℕ) (id : ℤ) (m : SFits w64 id) → b ≡ put_parts (named_parts command) o → c ≡ put_parts (signed_parts (back w64 id)) b → a ≡ put_parts (newline ∷ []) c → a ≡ put_parts (message_parts command id) o
unfolding message_parts
message_put o b c a command id m e f g =
    parts_then (named_parts command) (signed_parts id ++ (newline ∷ [])) o b a e
    (parts_then (signed_parts id) (newline ∷ []) b c a (rw (to_z-of_z w64 id m) at f) g)

abbrev line_told : ℕ → Result Counted Broken → List (List ℕ)
line_told number t = line_parts number (refusal_told t) (command_in (message_told t).body) (message_told t).op_id

module _ (o b a : Put) (number : ℕ) (t : Result Counted Broken) (e : b ≡ put_parts (decimal_parts number) o) where
  pub line_read : (x : Counted) → t ≡ Ok x → SFits w64 x.message.op_id → (c : ℕ) → c ≡ command_in x.message.body
      → a ≡ put_parts (message_parts c (back w64 x.message.op_id)) b → a ≡ put_parts (line_told number t) o
  unfolding line_parts
  line_read x h m c q f =
      rw (h, ← q) (parts_then (decimal_parts number) (message_parts c x.message.op_id) o b a e (rw (to_z-of_z w64 x.message.op_id m) at f))

  pub line_refused : (x : Broken) → t ≡ Err x → (n : ℕ) → n ≡ number_of x.refusal → 1 ≤ n → a ≡ put_parts (counted_parts (bytes " refused ") n) b
      → a ≡ put_parts (line_told number t) o
  unfolding line_parts
  line_refused x h n q l f =
      rw (h, ← q) (simp (ne_eqb n 0 (λ z. omega arith)) (parts_then (decimal_parts number) (counted_parts (bytes " refused ") n) o b a e f))

pub ruleset lined = (line_read, line_refused)

pub stop_put : (o b c a : Put) (number refusal : ℕ) → b ≡ put_parts (decimal_parts number) o → c ≡ put_parts (counted_parts (bytes " refused ") refusal) b
    → a ≡ put_parts (counted_parts (bytes "frames ") number) c → a ≡ put_parts (stop_parts number refusal) o
unfolding stop_parts
stop_put o b c a number refusal e f g =
    parts_then (decimal_parts number ++ counted_parts (bytes " refused ") refusal) (counted_parts (bytes "frames ") number) o c a
    (parts_then (decimal_parts number) (counted_parts (bytes " refused ") refusal) o b c e f) g
