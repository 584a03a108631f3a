-- Document 01: after form come 11, 12, 13, 14, 15, in that order over the whole message. A reading goes by what the outer map says of each key, so pair
-- order never matters, and a key outside the command's list says nothing: these are the command's name, the cells of its fields and the gravest fault.
use Prim.Native.{Nat.ℕ, Nat.zero, Nat.suc, Nat.◌+◌, Nat.◌-◌, Nat.◌*◌, Nat.max, String.String}
use Rattle.std.specs.Prelude.{eqb, leb, Bool, true, false, ◌&&◌, not}
use mathlib.Core.{List.List, List.[], List.◌∷◌, Option.Option, Option.none}
use Rattle.octets.specs.Choice.{either}
use Rattle.element.specs.{Meaning.Element, Meaning.Fields, Meaning.Fields.no_field, Meaning.Fields.field}
use Rattle.element.specs.Meaning.Element.{null, truth, whole, single, double, text, octets, typed, list, table}
use Rattle.names.specs.Names.{bytes, same_bytes}
use Rattle.field.specs.{Judge.text_of, Cell.Said, Cell.Cell, Cell.cell_of, Cell.here}
use Rattle.message.specs.{Fields.Field, Record.word_in, Record.mark_in}

-- the pairs of an outer map
abbrev pub outer_of : Element → Fields
outer_of null = no_field
outer_of (truth b) = no_field
outer_of (whole z) = no_field
outer_of (single n) = no_field
outer_of (double n) = no_field
outer_of (text d) = no_field
outer_of (octets d) = no_field
outer_of (typed t d) = no_field
outer_of (list es) = no_field
outer_of (table fs) = fs

-- one more time with an element
abbrev pub again : Element → Said → Said
again e Said.absent = Said.once e
again e (Said.once d) = Said.twice
again e Said.twice = Said.twice

-- what the pairs of a map say of a key, after what was said before
unfoldable pub said_from : List ℕ → Said → Fields → Said
said_from k x no_field = x
said_from k x (field u e fs) = said_from k (either (same_bytes k u) (λ _. again e x) (λ _. x)) fs

abbrev pub said_of : List ℕ → Fields → Said
said_of k fs = said_from k Said.absent fs

-- 11: command missing, twice or not text
abbrev pub command_said : Said → Option (List ℕ)
command_said Said.absent = none
command_said (Said.once e) = text_of e
command_said Said.twice = none

-- what each field of a list is worth
unfoldable pub cells_of : List Field → (List ℕ → Said) → List Cell
cells_of [] said = []
cells_of (f ∷ l) said = cell_of f.kind (said f.key) ∷ cells_of l said

-- a missing field that is not mandatory is no fault
abbrev pub cell_fault : Bool → Cell → ℕ
cell_fault must (Cell.good v) = 0
cell_fault must Cell.bad = 1
cell_fault must Cell.double = 3
cell_fault true Cell.missing = 2
cell_fault false Cell.missing = 0

-- a fault with the place of its field: a graver fault is more, and of equal ones the first
abbrev pub graded : ℕ → ℕ → ℕ
graded zero i = 0
graded (suc f) i = suc f * 64 + (63 - i)

-- the gravest of g and the faults of a list whose first field has place i
unfoldable pub gravest : ℕ → ℕ → List Field → List Cell → ℕ
gravest g i [] cs = g
gravest g i (f ∷ l) [] = g
gravest g i (f ∷ l) (c ∷ cs) = gravest (max g (graded (cell_fault f.must c) i)) (suc i) l cs

-- the cell of a key in a list; d where it has none
unfoldable pub look_in : Cell → List Field → List Cell → List ℕ → Cell
look_in d [] cs k = d
look_in d (f ∷ l) [] k = d
look_in d (f ∷ l) (c ∷ cs) k = look_in (either (same_bytes f.key k) (λ _. c) (λ _. d)) l cs k

-- the place of a key in a list
unfoldable pub place_among : List Field → List ℕ → ℕ
place_among [] k = 0
place_among (f ∷ l) k = either (same_bytes f.key k) (λ _. 0) (λ _. suc (place_among l k))

-- a rule between fields is judged where each of them is valid: cells without a fault, of which those that the rule needs are there
abbrev pub is_valid : Cell → Bool
is_valid Cell.missing = true
is_valid Cell.double = false
is_valid Cell.bad = false
is_valid (Cell.good v) = true

module _ (look : List ℕ → Cell) where
  abbrev on : String → Cell
  on k = look (bytes k)

  -- responseExp true with dlOpen false
  abbrev pub is_unopened : Bool
  is_unopened = mark_in (on "responseExp") && (here (on "dlOpen") && not (mark_in (on "dlOpen")))

  -- document 02, Q-2: cntDepend true needs as many data entries as counters, at least one; false, one data entry and no packetCnt
  abbrev pub counts_agree : Bool
  counts_agree =
      either (mark_in (on "cntDepend"))
      (λ _. here (on "packetCnt") && (eqb (word_in (on "packetCnt")) (word_in (on "userData")) && leb 1 (word_in (on "userData"))))
      (λ _. not (here (on "packetCnt")) && eqb (word_in (on "userData")) 1)

  abbrev pub is_miscounted : Bool
  is_miscounted = here (on "cntDepend") && (is_valid (on "packetCnt") && (here (on "userData") && not counts_agree))

-- the field with a key is invalid by a rule that is broken
abbrev pub broken_at : List Field → String → Bool → ℕ
broken_at l k broken = either broken (λ _. graded 1 (place_among l (bytes k))) (λ _. 0)

abbrev pub crossed : List Field → (List ℕ → Cell) → ℕ
crossed l look = max (broken_at l "responseExp" (is_unopened look)) (broken_at l "packetCnt" (is_miscounted look))
