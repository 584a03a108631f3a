-- A text is made in a room of 80 bytes: no line is longer, so what stands in front of the place behind its parts is the line. Assumes nothing.
use mathlib.Core.Path.{◌≡◌, sym, ap, ◌∙◌}
use mathlib.Core.Bool.{Bool, true, false, ◌&&◌}
use mathlib.Core.List.{List, [], ◌∷◌, ◌++◌, append_assoc}
use Prim.Native.Nat.{ℕ, zero, suc, ◌+◌, ◌≤◌}
use native.Mathlib.Omega.{arith}
use lib.Dec.{T, leb, eqb, leb→le}
use lib.{IntN.ℤ, IntN.pos, IntN.negsuc, ListN.length, ListN.take, ListN.length-append, Seq.length-take-le}
use Rattle.octets.specs.{Choice.either, Bytes.put_at}
use Rattle.octets.proofs.{Ranges.both_left, Ranges.both_right, Writing.put_upto, Writing.length_put}
use Rattle.forms.specs.Code.Put.{Put, put, put_parts, joined}
use Rattle.forms.proofs.{Putting.joined_join, Putting.fits_parts, Decimals.few_digits, Decimals.joined_each}
use Rattle.names.specs.Names.{bytes, commands, name_at}
use Rattle.lines.specs.Lines.{decimal, signed_decimal, newline, counted, outcome, line_for, end_line, stop_lines}
use Rattle.lines.specs.Code.Parts.{decimal_parts, signed_parts, counted_parts, message_parts, line_parts, stop_parts}

-- the parts are the line's bytes
joined_signed : (z : ℤ) → joined (signed_parts z) ≡ signed_decimal z
unfolding joined signed_parts signed_decimal
joined_signed (pos n) = joined_each (decimal n)
joined_signed (negsuc k) = ap (λ (l : List ℕ). bytes "-" ++ l) (joined_each (decimal (suc k)))

pub joined_counted : (words : List ℕ) (n : ℕ) → joined (counted_parts words n) ≡ counted words n
unfolding joined counted_parts
joined_counted words n = simp (joined_join, joined_each)

joined_message : (command : ℕ) (id : ℤ) → joined (message_parts command id) ≡ (bytes " " ++ (name_at commands command ++ bytes " ")) ++ (signed_decimal id ++ newline)
unfolding joined message_parts
joined_message command id = simp (joined_join, joined_signed, append_assoc)

pub joined_line : (number refusal command : ℕ) (id : ℤ) → joined (line_parts number refusal command id) ≡ line_for number refusal command id
unfolding line_parts line_for outcome
joined_line number refusal command id = go (eqb refusal 0)
  where
    go : (t : Bool) → joined (decimal_parts number ++ either t (λ _. message_parts command id) (λ _. counted_parts (bytes " refused ") refusal))
        ≡ decimal number ++ either t (λ _. (bytes " " ++ (name_at commands command ++ bytes " ")) ++ (signed_decimal id ++ newline)) (λ _. counted (bytes " refused ") refusal)
    go true = simp (joined_join, joined_each, joined_message)
    go false = simp (joined_join, joined_each, joined_counted)

pub joined_end : (number : ℕ) → joined (counted_parts (bytes "frames ") number) ≡ end_line number
unfolding end_line
joined_end number = joined_counted (bytes "frames ") number

pub joined_stop : (number refusal : ℕ) → joined (stop_parts number refusal) ≡ stop_lines number refusal
unfolding stop_parts stop_lines
joined_stop number refusal = simp (joined_join, joined_each, joined_counted)

-- and they are few
few_signed : (z : ℤ) → length (signed_decimal z) ≤ 21
unfolding signed_decimal
few_signed (pos n) = omega (arith, few_digits 20 n)
few_signed (negsuc k) = omega (arith, few_digits 20 (suc k))

pub few_counted : (words : List ℕ) (n : ℕ) → length (counted words n) ≤ length words + 21
few_counted words n = simp length-append (omega (arith, few_digits 20 n))

abbrev are_short : List (List ℕ) → Bool
are_short [] = true
are_short (n ∷ ns) = leb (length n) 12 && are_short ns

few_name : (ns : List (List ℕ)) → T (are_short ns) → (c : ℕ) → length (name_at ns c) ≤ 12
unfolding name_at
few_name [] t c = omega arith
few_name (n ∷ ns) t zero = leb→le (length n) 12 (both_left (leb (length n) 12) (are_short ns) t)
few_name (n ∷ ns) t (suc c) = few_name ns (both_right (leb (length n) 12) (are_short ns) t) c

few_command : (c : ℕ) → length (name_at commands c) ≤ 12
unfolding commands
few_command c = few_name commands tt c

few_outcome : (refusal command : ℕ) (id : ℤ) → length (outcome refusal command id) ≤ 36
unfolding outcome
few_outcome refusal command id = go (eqb refusal 0)
  where
    go : (t : Bool) → length (either t (λ _. (bytes " " ++ (name_at commands command ++ bytes " ")) ++ (signed_decimal id ++ newline)) (λ _. counted (bytes " refused ") refusal)) ≤ 36
    go true = simp length-append (omega (arith, few_command command, few_signed id))
    go false = omega (arith, few_counted (bytes " refused ") refusal)

pub few_line : (number refusal command : ℕ) (id : ℤ) → length (line_for number refusal command id) ≤ 80
unfolding line_for
few_line number refusal command id = omega (arith, length-append (decimal number) (outcome refusal command id), few_digits 20 number, few_outcome refusal command id)

pub few_end : (number : ℕ) → length (end_line number) ≤ 80
unfolding end_line
few_end number = omega (arith, few_counted (bytes "frames ") number)

pub few_stop : (number refusal : ℕ) → length (stop_lines number refusal) ≤ 80
unfolding stop_lines
few_stop number refusal =
    omega (arith, length-append (decimal number ++ counted (bytes " refused ") refusal) (counted (bytes "frames ") number), length-append (decimal number) (counted (bytes " refused ") refusal), few_digits 20 number, few_counted (bytes " refused ") refusal, few_counted (bytes "frames ") number)

-- made in the room, and put behind it
module _ (ps : List (List ℕ)) (l : List ℕ) (same : joined ps ≡ l) (few : length l ≤ 80) (d : List ℕ) (h : length d ≡ 80) (v : Put) (p : v ≡ put_parts ps (put d 0)) where
  stands : v ≡ put (put_at d 0 l) (0 + length l)
  stands = p ∙ fits_parts ps d 0 (rw same (omega arith)) ∙ ap (λ (x : List ℕ). put (put_at d 0 x) (0 + length x)) same

  pub made_size : v.next ≤ length v.room
  made_size = rw (stands, length_put) (omega arith)

  pub made_taken : v.next ≡ length (take v.next v.room)
  made_taken = sym (length-take-le v.next v.room made_size)

  taken : take v.next v.room ≡ l
  taken = ap (λ (o : Put). take o.next o.room) stands ∙ put_upto d 0 l (omega arith)

  pub made_put : (o a : Put) → a ≡ put_parts (take v.next v.room ∷ []) o → a ≡ put_parts (l ∷ []) o
  made_put o a e = e ∙ ap (λ (x : List ℕ). put_parts (x ∷ []) o) taken

module _ (d : List ℕ) (h : length d ≡ 80) (v : Put) (number : ℕ) where
  module _ (refusal command : ℕ) (id : ℤ) (p : v ≡ put_parts (line_parts number refusal command id) (put d 0)) where
    pub line_size : v.next ≤ length v.room
    line_size = made_size (line_parts number refusal command id) (line_for number refusal command id) (joined_line number refusal command id) (few_line number refusal command id) d h v p

    pub line_taken : v.next ≡ length (take v.next v.room)
    line_taken = made_taken (line_parts number refusal command id) (line_for number refusal command id) (joined_line number refusal command id) (few_line number refusal command id) d h v p

    pub line_made : (o a : Put) → a ≡ put_parts (take v.next v.room ∷ []) o → a ≡ put_parts (line_for number refusal command id ∷ []) o
    line_made = made_put (line_parts number refusal command id) (line_for number refusal command id) (joined_line number refusal command id) (few_line number refusal command id) d h v p

  module _ (p : v ≡ put_parts (counted_parts (bytes "frames ") number) (put d 0)) where
    pub end_size : v.next ≤ length v.room
    end_size = made_size (counted_parts (bytes "frames ") number) (end_line number) (joined_end number) (few_end number) d h v p

    pub end_taken : v.next ≡ length (take v.next v.room)
    end_taken = made_taken (counted_parts (bytes "frames ") number) (end_line number) (joined_end number) (few_end number) d h v p

    pub end_made : (o a : Put) → a ≡ put_parts (take v.next v.room ∷ []) o → a ≡ put_parts (end_line number ∷ []) o
    end_made = made_put (counted_parts (bytes "frames ") number) (end_line number) (joined_end number) (few_end number) d h v p

  module _ (refusal : ℕ) (p : v ≡ put_parts (stop_parts number refusal) (put d 0)) where
    pub stop_size : v.next ≤ length v.room
    stop_size = made_size (stop_parts number refusal) (stop_lines number refusal) (joined_stop number refusal) (few_stop number refusal) d h v p

    pub stop_taken : v.next ≡ length (take v.next v.room)
    stop_taken = made_taken (stop_parts number refusal) (stop_lines number refusal) (joined_stop number refusal) (few_stop number refusal) d h v p

    pub stop_made : (o a : Put) → a ≡ put_parts (take v.next v.room ∷ []) o → a ≡ put_parts (stop_lines number refusal ∷ []) o
    stop_made = made_put (stop_parts number refusal) (stop_lines number refusal) (joined_stop number refusal) (few_stop number refusal) d h v p
