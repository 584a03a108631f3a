-- What an entry of the table says, by ranges of entries; and of the table, what its entry says of a lead byte is what the lead byte says.
-- Assumes nothing.
use mathlib.Core.Path.{◌≡◌, refl, ap, ◌∙◌}
use mathlib.Core.{Bool.Bool, Bool.true, Bool.false, List.List}
use Prim.Native.Nat.{ℕ, ◌+◌, ◌-◌, ◌/◌, ◌%◌, ◌≤◌, ◌<◌}
use native.Mathlib.Omega.{arith}
use lib.{Dec.T, Dec.eqb, ListN.get_or}
use borrow.Author.Tests.{eq-eqb, ne_eqb}
use Rattle.octets.specs.Choice.{either}
use Rattle.octets.proofs.Ranges.{all}
use Rattle.element.proofs.Leads.{head_wide, head_more}
use Rattle.element.specs.declared.Shape.{TheVariants.Never, TheVariants.Plain, TheVariants.Text, TheVariants.Array, TheVariants.Map}
use Rattle.element.specs.declared.Head.{Head}
use Rattle.element.specs.{Lead.head_by, Lead.head_of, Lead.lead_bytes, Lead.row_in, Form.is_text, Form.is_map}
use Rattle.walk.specs.Code.{Short.Announces, Table.entries, Table.head_in, Table.IsTable}
use Rattle.walk.proofs.Leads.{row, same_head, heads_in, passes_in, fails_in, text_fix, map_fix}

-- the head of an entry
module _ (e : ℕ) where
  pub in_plain : e < 0x60 → row Plain 0 (e % 32) ≡ head_in e
  unfolding head_in entries row_in
  in_plain h = heads_in (λ k. row Plain 0 (k % 32)) head_in 0 0x60 tt e (omega arith) (omega arith)

  pub in_text : 0x60 ≤ e → e < 0x80 → row Text 0 (e - 0x60) ≡ head_in e
  unfolding head_in entries row_in
  in_text g h = heads_in (λ k. row Text 0 (k - 0x60)) head_in 0x60 0x20 tt e g (omega arith)

  pub in_map : 0x80 ≤ e → e < 0xA0 → row Map 0 (e - 0x80) ≡ head_in e
  unfolding head_in entries row_in
  in_map g h = heads_in (λ k. row Map 0 (k - 0x80)) head_in 0x80 0x20 tt e g (omega arith)

  pub in_array : 0xA0 ≤ e → e < 0xC0 → row Array 0 (e - 0xA0) ≡ head_in e
  unfolding head_in entries row_in
  in_array g h = heads_in (λ k. row Array 0 (k - 0xA0)) head_in 0xA0 0x20 tt e g (omega arith)

  pub in_sized_map : 0xE0 < e → e < 256 → row Map (e - 0xE0) 0 ≡ head_in e
  unfolding head_in entries row_in
  in_sized_map g h = heads_in (λ k. row Map (k - 0xE0) 0) head_in 0xE1 0x1F tt e g (omega arith)

-- bytes of length: by a formula f, and never used where an entry says none
abbrev sized : (ℕ → Head) → ℕ → Head
sized f k = either (eqb (k % 8) 0) (λ _. row Never 0 0) (λ _. f k)

module _ (f : ℕ → Head) (lo n : ℕ) (t : T (all (λ k. same_head (sized f k) (head_in k)) lo n)) (e : ℕ) (g : lo ≤ e) (h : e < lo + n) where
  none_in : e % 8 ≡ 0 → row Never 0 0 ≡ head_in e
  none_in z = simp (eq-eqb (e % 8) 0 z) at (heads_in (sized f) head_in lo n t e g h)

  sized_in : (e % 8 ≡ 0 → ⊥) → f e ≡ head_in e
  sized_in z = simp (ne_eqb (e % 8) 0 z) at (heads_in (sized f) head_in lo n t e g h)

module _ (e : ℕ) where
  pub in_never : 0xC0 ≤ e → e ≤ 0xE0 → e % 8 ≡ 0 → row Never 0 0 ≡ head_in e
  unfolding head_in entries row_in
  in_never g h = none_in head_in 0xC0 0x21 tt e g (omega arith)

  pub in_sized_plain : (e % 8 ≡ 0 → ⊥) → 0xC0 ≤ e → e < 0xD0 → row Plain (e % 8) (e / 8 % 2) ≡ head_in e
  unfolding head_in entries row_in
  in_sized_plain z g h = sized_in (λ k. row Plain (k % 8) (k / 8 % 2)) 0xC0 0x10 tt e g (omega arith) z

  pub in_sized_text : (e % 8 ≡ 0 → ⊥) → 0xD0 ≤ e → e < 0xD8 → row Text (e % 8) 0 ≡ head_in e
  unfolding head_in entries row_in
  in_sized_text z g h = sized_in (λ k. row Text (k % 8) 0) 0xD0 8 tt e g (omega arith) z

  pub in_sized_array : (e % 8 ≡ 0 → ⊥) → 0xD8 ≤ e → e ≤ 0xE0 → row Array (e % 8) 0 ≡ head_in e
  unfolding head_in entries row_in
  in_sized_array z g h = sized_in (λ k. row Array (k % 8) 0) 0xD8 9 tt e g (omega arith) z

pub ruleset heads = (in_plain, in_text, in_map, in_array, in_sized_map, in_never, in_sized_plain, in_sized_text, in_sized_array)

-- the tests for texts and maps
module _ (e : ℕ) where
  pub text_none : e < 0x60 → false ≡ is_text (head_in e).shape
  unfolding head_in entries row_in
  text_none h = fails_in is_text head_in 0 0x60 tt e (omega arith) (omega arith)

  pub text_short : 0x60 ≤ e → e < 0x80 → true ≡ is_text (head_in e).shape
  unfolding head_in entries row_in
  text_short g h = passes_in is_text head_in 0x60 0x20 tt e g (omega arith)

  pub text_between : 0x80 ≤ e → e < 0xD1 → false ≡ is_text (head_in e).shape
  unfolding head_in entries row_in
  text_between g h = fails_in is_text head_in 0x80 0x51 tt e g (omega arith)

  pub text_sized : 0xD1 ≤ e → e < 0xD8 → true ≡ is_text (head_in e).shape
  unfolding head_in entries row_in
  text_sized g h = passes_in is_text head_in 0xD1 7 tt e g (omega arith)

  pub text_past : 0xD8 ≤ e → e < 256 → false ≡ is_text (head_in e).shape
  unfolding head_in entries row_in
  text_past g h = fails_in is_text head_in 0xD8 0x28 tt e g (omega arith)

  pub map_none : e < 0x80 → false ≡ is_map (head_in e).shape
  unfolding head_in entries row_in
  map_none h = fails_in is_map head_in 0 0x80 tt e (omega arith) (omega arith)

  pub map_short : 0x80 ≤ e → e < 0xA0 → true ≡ is_map (head_in e).shape
  unfolding head_in entries row_in
  map_short g h = passes_in is_map head_in 0x80 0x20 tt e g (omega arith)

  pub map_between : 0xA0 ≤ e → e < 0xE1 → false ≡ is_map (head_in e).shape
  unfolding head_in entries row_in
  map_between g h = fails_in is_map head_in 0xA0 0x41 tt e g (omega arith)

  pub map_sized : 0xE1 ≤ e → e < 256 → true ≡ is_map (head_in e).shape
  unfolding head_in entries row_in
  map_sized g h = passes_in is_map head_in 0xE1 0x1F tt e g (omega arith)

pub ruleset texts = (text_none, text_short, text_between, text_sized, text_past)

pub ruleset maps = (map_none, map_short, map_between, map_sized)

-- an entry that has the row of a lead byte
module _ (e b : ℕ) (i : row_in entries e ≡ row_in lead_bytes b) where
  same_heads : head_in e ≡ head_of b
  unfolding head_in head_of
  same_heads = ap head_by i

  pub row_head : (r : Head) → r ≡ head_in e → Announces b r
  row_head r q = rw (q ∙ same_heads) (record { is = refl; wide = head_wide b; more = head_more b })

  pub row_wide : (r : Head) → r ≡ head_in e → r.wide ≤ 4
  row_wide r q = (row_head r q).wide

  pub row_more : (r : Head) → r ≡ head_in e → r.more ≤ 31
  row_more r q = (row_head r q).more

  pub row_text : (r : Bool) → r ≡ is_text (head_in e).shape → r ≡ is_text (head_of b).shape
  row_text r q = q ∙ ap (λ (h : Head). is_text h.shape) same_heads

  pub row_map : (r : Bool) → r ≡ is_map (head_in e).shape → r ≡ is_map (head_of b).shape
  row_map r q = q ∙ ap (λ (h : Head). is_map h.shape) same_heads

-- an entry of the table
pub table_row : (t : List ℕ) (b : ℕ) → IsTable t → b < 256 → row_in entries (get_or t b 0) ≡ row_in lead_bytes b
table_row t b i h = i.row b h

pub ruleset rows = (table_row, row_head, row_wide, row_more, row_text, row_map, text_fix, map_fix)
