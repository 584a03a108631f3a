-- A room that is written part by part, and the place behind what is written. A part that has no room is left out.
use Rattle.std.specs.Prelude.{ℕ, ◌+◌, Bool, List, [], ◌∷◌, ◌++◌, map}
use lib.{Dec.leb, IntN.ℤ, IntN.pos, Ieee.Float, ListN.length}
use Rattle.octets.specs.{Choice.either, Bytes.put_at}
use Rattle.element.specs.Tree.{bytes_of}
use Rattle.forms.specs.Shortest.{whole_tree, real_tree, mark_tree, text_head, array_head, map_head, head_bytes, digits_of, version_text}

pub record Put : Type 0 where
  pub room : List ℕ
  pub next : ℕ

abbrev pub put : List ℕ → ℕ → Put
put d at = record { room = d; next = at }

-- one part
unfoldable pub put_part : List ℕ → Put → Put
put_part vs o =
    either (leb (o.next + length vs) (length o.room)) (λ _. put (put_at o.room o.next vs) (o.next + length vs)) (λ _. o)

-- one part behind another
unfoldable pub put_parts : List (List ℕ) → Put → Put
put_parts [] o = o
put_parts (vs ∷ ps) o = put_parts ps (put_part vs o)

-- the bytes of all parts
unfoldable pub joined : List (List ℕ) → List ℕ
joined [] = []
joined (vs ∷ ps) = vs ++ joined ps

-- the parts of each value: a head is one, and so is each number of an array and each decimal digit
abbrev pub whole_parts : ℤ → List (List ℕ)
whole_parts z = bytes_of (whole_tree z) ∷ []

abbrev pub real_parts : Float → List (List ℕ)
real_parts x = bytes_of (real_tree x) ∷ []

abbrev pub mark_parts : Bool → List (List ℕ)
mark_parts b = bytes_of (mark_tree b) ∷ []

abbrev pub text_parts : List ℕ → List (List ℕ)
text_parts d = head_bytes (text_head (length d)) ∷ (d ∷ [])

unfoldable pub number_parts : List ℕ → List (List ℕ)
number_parts [] = []
number_parts (b ∷ d) = bytes_of (whole_tree (pos b)) ∷ number_parts d

abbrev pub numbers_parts : List ℕ → List (List ℕ)
numbers_parts ns = head_bytes (array_head (length ns)) ∷ number_parts ns

unfoldable pub piece_parts : List (List ℕ) → List (List ℕ)
piece_parts [] = []
piece_parts (d ∷ ds) = numbers_parts d ++ piece_parts ds

abbrev pub pieces_parts : List (List ℕ) → List (List ℕ)
pieces_parts ds = head_bytes (array_head (length ds)) ∷ piece_parts ds

abbrev pub position_parts : Float → Float → Float → List (List ℕ)
position_parts x y z = head_bytes (array_head 3) ∷ (real_parts x ++ (real_parts y ++ real_parts z))

abbrev pub digit_parts : ℕ → ℕ → List (List ℕ)
digit_parts most n = map (λ d. d ∷ []) (digits_of most n)

abbrev pub version_parts : ℕ → ℕ → ℕ → List (List ℕ)
version_parts a b c = text_parts (version_text a b c)

abbrev pub map_parts : ℕ → List (List ℕ)
map_parts n = head_bytes (map_head n) ∷ []
