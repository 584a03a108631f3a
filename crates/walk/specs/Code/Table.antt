-- The table of lead bytes: what its entries say, in the words of document 01's list.
use mathlib.Core.{Path.◌≡◌, List.List, List.[], List.◌∷◌}
use Rattle.std.specs.Prelude.{ℕ, ◌+◌, ◌<◌}
use lib.{ListN.get_or}
use Rattle.element.specs.declared.Head.{Head}
use Rattle.element.specs.Lead.{Class, Range, fixed, length_sized, lead_bytes, row_in, head_by}

-- what an entry says, by ranges of entries as document 01 says it by ranges of lead bytes
unfoldable pub entries : List Range
entries =
    fixed 0x00 0x00 Class.small (λ i. 0) ∷
    fixed 0x01 0x1F Class.unsigned (λ i. 1 + i) ∷
    fixed 0x20 0x20 Class.nil (λ i. 0) ∷
    fixed 0x21 0x3F Class.signed (λ i. 1 + i) ∷
    fixed 0x40 0x40 Class.bool (λ i. 0) ∷
    fixed 0x44 0x44 Class.float32 (λ i. 4) ∷
    fixed 0x48 0x48 Class.float64 (λ i. 8) ∷
    fixed 0x41 0x5F Class.ext (λ i. 1 + i) ∷
    fixed 0x60 0x7F Class.text (λ i. i) ∷
    fixed 0x80 0x9F Class.map (λ i. i) ∷
    fixed 0xA0 0xBF Class.array (λ i. i) ∷
    length_sized 0xC1 0xC7 Class.bin (λ i. 1 + i) 0 ∷
    length_sized 0xC9 0xCF Class.ext (λ i. 1 + i) 1 ∷
    length_sized 0xD1 0xD7 Class.text (λ i. 1 + i) 0 ∷
    length_sized 0xD9 0xDF Class.array (λ i. 1 + i) 0 ∷
    length_sized 0xE1 0xFF Class.map (λ i. 1 + i) 0 ∷
    []

-- the head that an entry says
unfoldable pub head_in : ℕ → Head
head_in e = head_by (row_in entries e)

-- t has the row of every lead byte
pub record IsTable (t : List ℕ) : Type 0 where
  pub row : (b : ℕ) → b < 256 → row_in entries (get_or t b 0) ≡ row_in lead_bytes b
