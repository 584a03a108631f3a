-- The table of lead bytes has document 01's row of each: one computed test over its 256 entries. Assumes nothing.
use mathlib.Core.Path.{◌≡◌, refl, sym, ap, ◌∙◌}
use mathlib.Core.{Bool.Bool, Bool.◌&&◌, List.List, List.[], List.◌∷◌}
use Prim.Native.Nat.{ℕ, zero, suc}
use native.Mathlib.Omega.{arith}
use lib.{Dec.T, Dec.eqb, ListN.get_or}
use Rattle.octets.proofs.Ranges.{all, ranged}
use Rattle.element.specs.Lead.{Class, LeadRow, lead_bytes, row_in}
use Rattle.walk.specs.Code.Table.{entries, IsTable}
use Rattle.walk.proofs.Leads.{same_three}

-- two rows are equal where a test says so
abbrev class_number : Class → ℕ
class_number Class.small = 0
class_number Class.map = 1
class_number Class.array = 2
class_number Class.text = 3
class_number Class.nil = 4
class_number Class.never = 5
class_number Class.bool = 6
class_number Class.bin = 7
class_number Class.ext = 8
class_number Class.float32 = 9
class_number Class.float64 = 10
class_number Class.unsigned = 11
class_number Class.signed = 12

abbrev nth : List Class → ℕ → Class
nth [] n = Class.never
nth (c ∷ cs) zero = c
nth (c ∷ cs) (suc n) = nth cs n

abbrev class_at : ℕ → Class
class_at =
    nth (Class.small ∷ Class.map ∷ Class.array ∷ Class.text ∷ Class.nil ∷ Class.never ∷ Class.bool ∷ Class.bin ∷ Class.ext ∷ Class.float32 ∷ Class.float64 ∷ Class.unsigned ∷ Class.signed ∷ [])

class_at_lem : (c : Class) → class_at (class_number c) ≡ c
class_at_lem Class.small = refl
class_at_lem Class.map = refl
class_at_lem Class.array = refl
class_at_lem Class.text = refl
class_at_lem Class.nil = refl
class_at_lem Class.never = refl
class_at_lem Class.bool = refl
class_at_lem Class.bin = refl
class_at_lem Class.ext = refl
class_at_lem Class.float32 = refl
class_at_lem Class.float64 = refl
class_at_lem Class.unsigned = refl
class_at_lem Class.signed = refl

abbrev same_row : LeadRow → LeadRow → Bool
same_row p q = eqb (class_number p.class) (class_number q.class) && (eqb p.wide q.wide && eqb p.more q.more)

same_row_lem : (p q : LeadRow) → T (same_row p q) → p ≡ q
same_row_lem p q t =
    let e = same_three (class_number p.class) p.wide p.more (class_number q.class) q.wide q.more t in
    let c : p.class ≡ q.class = sym (class_at_lem p.class) ∙ ap class_at e.0 ∙ class_at_lem q.class in
    λ i. record { class = c i; wide = e.1 i; more = e.2 i }

-- the test: each entry says the row of its lead byte
abbrev pub is_table : List ℕ → Bool
is_table t = all (λ b. same_row (row_in entries (get_or t b 0)) (row_in lead_bytes b)) 0 256

pub is_table_lem : (t : List ℕ) → T (is_table t) → IsTable t
is_table_lem t p = record { row = λ b h. same_row_lem (row_in entries (get_or t b 0)) (row_in lead_bytes b) (ranged (λ k. same_row (row_in entries (get_or t k 0)) (row_in lead_bytes k)) 0 256 p b (omega arith) h) }
