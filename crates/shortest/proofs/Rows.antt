-- The lead bytes of the shortest forms: the row of each, once over the place in its range, and what a leaf with a given row is.
-- The rows by computation, or by the two ends of a range. Assumes nothing.
use mathlib.Core.{Path.◌≡◌, Path.refl, Path.ap, Bool.Bool, Bool.true, Bool.false, List.List}
use Prim.Native.Nat.{ℕ, zero, suc, ◌+◌, ◌-◌, ◌^◌, ◌≤◌, ◌<◌}
use native.Mathlib.Omega.{arith}
use lib.{Dec.ltb, ListN.length}
use borrow.Author.Tests.{le-leb, lt-leb, ltb-true, ltb-false}
use Rattle.octets.specs.{Choice.either, Number.big}
use Rattle.element.specs.Lead.{Class, LeadRow, shape_of, lead_bytes, row_in, head_of}
use Rattle.element.specs.{Tree.IsBody, Tree.Headed, Tree.Lawful, Tree.Tree.leaf, Meaning.leaf_of, Meaning.meaning_of}

abbrev pub row : Class → ℕ → ℕ → LeadRow
row c w m = record { class = c; wide = w; more = m }

-- what holds on both sides of a test holds of the choice
pub below : {A : Type 0} (m n : ℕ) (x y : Unit {0} → A) (P : A → Type 0) → (m < n → P (x tt)) → (n ≤ m → P (y tt)) → P (either (ltb m n) x y)
below {A} m n x y P p q = go (ltb m n) (λ e. p (ltb-true m n e)) (λ e. q (ltb-false m n e))
  where
    go : (t : Bool) → (t ≡ true → P (x tt)) → (t ≡ false → P (y tt)) → P (either t x y)
    go true f g = f refl
    go false f g = g refl

module _ (c : Class) (w m b : ℕ) (l : List ℕ) (is : row_in lead_bytes b ≡ row c w m) where
  pub headed : (n : ℕ) → length l ≡ w → n ≡ m + big l → Headed (shape_of c) b l n
  unfolding head_of
  headed n wide states = record { shape_is = rw is; wide = rw is wide; states = rw is states }

  pub leaf_lawful : (d : List ℕ) → IsBody (shape_of c) → length l ≡ w → length d ≡ m + big l → Lawful (leaf b l d)
  unfolding head_of Lawful
  leaf_lawful d body wide states = rw is (headed (length d) wide states, body)

  pub leaf_means : (d : List ℕ) → meaning_of (leaf b l d) ≡ leaf_of c b d
  unfolding meaning_of
  leaf_means d = ap (λ (r : LeadRow). leaf_of r.class b d) is

pub small_row : (n : ℕ) → n < 0x80 → row_in lead_bytes n ≡ row Class.small 0 0
unfolding row_in lead_bytes
small_row n h = simp (le-leb 0 n (omega arith), le-leb n 0x7F (omega arith))

pub negative_row : (k : ℕ) → k < 0x20 → row_in lead_bytes (0xFF - k) ≡ row Class.small 0 0
unfolding row_in lead_bytes
negative_row k h = simp (lt-leb (0xFF - k) 0x7F (omega arith), le-leb 0 (0xFF - k) (omega arith), le-leb 0xE0 (0xFF - k) (omega arith), le-leb (0xFF - k) 0xFF (omega arith))

-- the i-th width of a whole, unsigned and signed
pub word_row : (i : ℕ) → i < 4 → row_in lead_bytes (0xCC + i) ≡ row Class.unsigned 0 (2 ^ i)
unfolding row_in lead_bytes
word_row zero h = refl
word_row (suc zero) h = refl
word_row (suc (suc zero)) h = refl
word_row (suc (suc (suc zero))) h = refl
word_row (suc (suc (suc (suc i)))) h = absurd (omega arith)

pub id_row : (i : ℕ) → i < 4 → row_in lead_bytes (0xD0 + i) ≡ row Class.signed 0 (2 ^ i)
unfolding row_in lead_bytes
id_row zero h = refl
id_row (suc zero) h = refl
id_row (suc (suc zero)) h = refl
id_row (suc (suc (suc zero))) h = refl
id_row (suc (suc (suc (suc i)))) h = absurd (omega arith)

pub real_row : row_in lead_bytes 0xCB ≡ row Class.float64 0 8
unfolding row_in lead_bytes
real_row = refl

pub text_row : (n : ℕ) → n < 32 → row_in lead_bytes (0xA0 + n) ≡ row Class.text 0 n
unfolding row_in lead_bytes
text_row n h =
    let b = 0xA0 + n in
    let e : b - 0xA0 ≡ n = omega arith in
    simp (le-leb 0 b (omega arith), lt-leb b 0x7F (omega arith), lt-leb 0xE0 b (omega arith), le-leb 0x80 b (omega arith), lt-leb b 0x8F (omega arith), le-leb 0x90 b (omega arith), lt-leb b 0x9F (omega arith), le-leb 0xA0 b (omega arith), le-leb b 0xBF (omega arith), e)

pub text_wide_row : (i : ℕ) → i < 3 → row_in lead_bytes (0xD9 + i) ≡ row Class.text (2 ^ i) 0
unfolding row_in lead_bytes
text_wide_row zero h = refl
text_wide_row (suc zero) h = refl
text_wide_row (suc (suc zero)) h = refl
text_wide_row (suc (suc (suc i))) h = absurd (omega arith)

pub array_row : (n : ℕ) → n < 16 → row_in lead_bytes (0x90 + n) ≡ row Class.array 0 n
unfolding row_in lead_bytes
array_row n h =
    let b = 0x90 + n in
    let e : b - 0x90 ≡ n = omega arith in
    simp (le-leb 0 b (omega arith), lt-leb b 0x7F (omega arith), lt-leb 0xE0 b (omega arith), le-leb 0x80 b (omega arith), lt-leb b 0x8F (omega arith), le-leb 0x90 b (omega arith), le-leb b 0x9F (omega arith), e)

pub map_row : (n : ℕ) → n < 16 → row_in lead_bytes (0x80 + n) ≡ row Class.map 0 n
unfolding row_in lead_bytes
map_row n h =
    let b = 0x80 + n in
    let e : b - 0x80 ≡ n = omega arith in
    simp (le-leb 0 b (omega arith), lt-leb b 0x7F (omega arith), lt-leb 0xE0 b (omega arith), le-leb 0x80 b (omega arith), le-leb b 0x8F (omega arith), e)
