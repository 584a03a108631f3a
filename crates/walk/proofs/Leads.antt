-- Lead bytes by ranges: what the code answers in a range of lead bytes is the row of each of them, by one computed test a range.
-- Assumes nothing.
use mathlib.Core.Path.{◌≡◌, refl, sym, ap, ◌∙◌}
use mathlib.Core.Bool.{Bool, true, false, not, ◌&&◌}
use Prim.Native.Nat.{ℕ, ◌+◌, ◌-◌, ◌%◌, ◌≤◌, ◌<◌, min}
use native.Mathlib.Omega.{arith}
use lib.Dec.{T, eqb, eqb→eq}
use borrow.Author.Tests.{ne_eqb}
use Rattle.octets.specs.Choice.{either}
use Rattle.octets.proofs.Ranges.{all, ranged, is_true, is_false, both_left, both_right}
use Rattle.element.proofs.Leads.{head_wide, head_more}
use Rattle.element.specs.declared.Shape.{Shape, TheVariants.Never, TheVariants.Plain, TheVariants.Text, TheVariants.Array, TheVariants.Map}
use Rattle.element.specs.declared.Head.{Head}
use Rattle.element.specs.{Lead.head_of, Lead.lead_bytes, Lead.row_in, Form.is_text, Form.is_map}
use Rattle.walk.specs.Code.Short.{Announces, two_to}

-- three numbers are equal to others where a test says so
pub same_three : (a b c x y z : ℕ) → T (eqb a x && (eqb b y && eqb c z)) → (a ≡ x) × (b ≡ y) × (c ≡ z)
same_three a b c x y z t =
    let r = both_right (eqb a x) (eqb b y && eqb c z) t in
    (eqb→eq a x (both_left (eqb a x) (eqb b y && eqb c z) t), eqb→eq b y (both_left (eqb b y) (eqb c z) r), eqb→eq c z (both_right (eqb b y) (eqb c z) r))

-- 2 to the k
module _ (k : ℕ) where
  pub two_0 : k ≡ 0 → 1 ≡ two_to k
  two_0 e = rw e

  pub two_1 : k ≡ 1 → 2 ≡ two_to k
  two_1 e = rw e

  pub two_2 : k ≡ 2 → 4 ≡ two_to k
  two_2 e = rw e

  pub two_3 : k ≡ 3 → 8 ≡ two_to k
  two_3 e = rw e

  pub two_4 : (k ≡ 0 → ⊥) → (k ≡ 1 → ⊥) → (k ≡ 2 → ⊥) → (k ≡ 3 → ⊥) → 16 ≡ two_to k
  two_4 a b c d =
      let e : min k 4 ≡ 4 = omega arith in
      rw e

pub ruleset twos = (two_0, two_1, two_2, two_3, two_4)

-- two heads are equal where a test says so
abbrev shape_number : Shape → ℕ
shape_number Never = 0
shape_number Plain = 1
shape_number Text = 2
shape_number Array = 3
shape_number Map = 4

abbrev shape_at : ℕ → Shape
shape_at n = either (eqb n 0) (λ _. Never) (λ _. either (eqb n 1) (λ _. Plain) (λ _. either (eqb n 2) (λ _. Text) (λ _. either (eqb n 3) (λ _. Array) (λ _. Map))))

shape_at_lem : (h : Shape) → shape_at (shape_number h) ≡ h
shape_at_lem Never = refl
shape_at_lem Plain = refl
shape_at_lem Text = refl
shape_at_lem Array = refl
shape_at_lem Map = refl

abbrev pub same_head : Head → Head → Bool
same_head h g = eqb (shape_number h.shape) (shape_number g.shape) && (eqb h.wide g.wide && eqb h.more g.more)

same_head_lem : (h g : Head) → T (same_head h g) → h ≡ g
same_head_lem h g t =
    let e = same_three (shape_number h.shape) h.wide h.more (shape_number g.shape) g.wide g.more t in
    let s : h.shape ≡ g.shape = sym (shape_at_lem h.shape) ∙ ap shape_at e.0 ∙ shape_at_lem g.shape in
    λ i. record { shape = s i; wide = e.1 i; more = e.2 i }

-- a head by its parts
abbrev pub row : Shape → ℕ → ℕ → Head
row h w m = record { shape = h; wide = w; more = m }

-- the heads of the n numbers from lo on, by a formula f
pub heads_in : (f g : ℕ → Head) (lo n : ℕ) → T (all (λ k. same_head (f k) (g k)) lo n) → (b : ℕ) → lo ≤ b → b < lo + n → f b ≡ g b
heads_in f g lo n t b h l = same_head_lem (f b) (g b) (ranged (λ k. same_head (f k) (g k)) lo n t b h l)

says_in : (f : ℕ → Head) (lo n : ℕ) → T (all (λ k. same_head (f k) (head_of k)) lo n) → (b : ℕ) → lo ≤ b → b < lo + n → (r : Head) → r ≡ f b → Announces b r
says_in f lo n t b g h r e = rw (e ∙ heads_in f head_of lo n t b g h) (record { is = refl; wide = head_wide b; more = head_more b })

-- the answers of the code
module _ (b : ℕ) (r : Head) where
  pub says_low : r ≡ row Plain 0 0 → b < 0x80 → Announces b r
  unfolding head_of lead_bytes row_in
  says_low e h = says_in (λ k. row Plain 0 0) 0 0x80 tt b (omega arith) (omega arith) r e

  pub says_high : r ≡ row Plain 0 0 → 0xE0 ≤ b → b < 256 → Announces b r
  unfolding head_of lead_bytes row_in
  says_high e g h = says_in (λ k. row Plain 0 0) 0xE0 0x20 tt b g (omega arith) r e

  pub says_nil : r ≡ row Plain 0 0 → 0xC0 ≤ b → b < 0xC4 → (b ≡ 0xC1 → ⊥) → Announces b r
  unfolding head_of lead_bytes row_in
  says_nil e g h n =
      says_in (λ k. row (either (eqb k 0xC1) (λ _. Never) (λ _. Plain)) 0 0) 0xC0 4 tt b g (omega arith) r (e ∙ simp (ne_eqb b 0xC1 n))

module _ (b : ℕ) where
  pub says_fixmap : 0x80 ≤ b → b < 0x90 → Announces b (row Map 0 (b - 0x80))
  unfolding head_of lead_bytes row_in
  says_fixmap g h = says_in (λ k. row Map 0 (k - 0x80)) 0x80 0x10 tt b g (omega arith) _ refl

  pub says_fixarray : 0x90 ≤ b → b < 0xA0 → Announces b (row Array 0 (b - 0x90))
  unfolding head_of lead_bytes row_in
  says_fixarray g h = says_in (λ k. row Array 0 (k - 0x90)) 0x90 0x10 tt b g (omega arith) _ refl

  pub says_fixtext : 0xA0 ≤ b → b < 0xC0 → Announces b (row Text 0 (b - 0xA0))
  unfolding head_of lead_bytes row_in
  says_fixtext g h = says_in (λ k. row Text 0 (k - 0xA0)) 0xA0 0x20 tt b g (omega arith) _ refl

  pub says_never : b ≡ 0xC1 → Announces b (row Never 0 0)
  unfolding head_of lead_bytes row_in
  says_never e = says_in (λ k. row Never 0 0) 0xC1 1 tt b (omega arith) (omega arith) _ refl

module _ (b t : ℕ) (r : Head) where
  pub says_bin : r ≡ row Plain t 0 → t ≡ two_to (b - 0xC4) → 0xC4 ≤ b → b < 0xC7 → Announces b r
  unfolding head_of lead_bytes row_in
  says_bin e u g h = says_in (λ k. row Plain (two_to (k - 0xC4)) 0) 0xC4 3 tt b g (omega arith) r (rw u at e)

  pub says_ext : r ≡ row Plain t 1 → t ≡ two_to (b - 0xC7) → 0xC7 ≤ b → b < 0xCA → Announces b r
  unfolding head_of lead_bytes row_in
  says_ext e u g h = says_in (λ k. row Plain (two_to (k - 0xC7)) 1) 0xC7 3 tt b g (omega arith) r (rw u at e)

  pub says_number : r ≡ row Plain 0 t → t ≡ two_to (b % 4) → 0xCA ≤ b → b < 0xD4 → Announces b r
  unfolding head_of lead_bytes row_in
  says_number e u g h = says_in (λ k. row Plain 0 (two_to (k % 4))) 0xCA 10 tt b g (omega arith) r (rw u at e)

  pub says_fixext : r ≡ row Plain 0 (1 + t) → t ≡ two_to (b - 0xD4) → 0xD4 ≤ b → b < 0xD9 → Announces b r
  unfolding head_of lead_bytes row_in
  says_fixext e u g h = says_in (λ k. row Plain 0 (1 + two_to (k - 0xD4))) 0xD4 5 tt b g (omega arith) r (rw u at e)

module _ (b t : ℕ) where
  pub says_text : t ≡ two_to (b - 0xD9) → 0xD9 ≤ b → b < 0xDC → Announces b (row Text t 0)
  unfolding head_of lead_bytes row_in
  says_text u g h = says_in (λ k. row Text (two_to (k - 0xD9)) 0) 0xD9 3 tt b g (omega arith) _ (rw u)

  pub says_array : t ≡ two_to (b - 0xDB) → 0xDC ≤ b → b < 0xDE → Announces b (row Array t 0)
  unfolding head_of lead_bytes row_in
  says_array u g h = says_in (λ k. row Array (two_to (k - 0xDB)) 0) 0xDC 2 tt b g (omega arith) _ (rw u)

  pub says_map : t ≡ two_to (b - 0xDD) → 0xDE ≤ b → b < 0xE0 → Announces b (row Map t 0)
  unfolding head_of lead_bytes row_in
  says_map u g h = says_in (λ k. row Map (two_to (k - 0xDD)) 0) 0xDE 2 tt b g (omega arith) _ (rw u)

-- the same of a head that the code has put together
module _ (b t : ℕ) (r : Head) where
  pub made_text : r ≡ row Text t 0 → t ≡ two_to (b - 0xD9) → 0xD9 ≤ b → b < 0xDC → Announces b r
  made_text e u g h = rw e (says_text b t u g h)

  pub made_array : r ≡ row Array t 0 → t ≡ two_to (b - 0xDB) → 0xDC ≤ b → b < 0xDE → Announces b r
  made_array e u g h = rw e (says_array b t u g h)

  pub made_map : r ≡ row Map t 0 → t ≡ two_to (b - 0xDD) → 0xDE ≤ b → b < 0xE0 → Announces b r
  made_map e u g h = rw e (says_map b t u g h)

pub ruleset sayings = (says_low, says_high, says_nil, says_fixmap, says_fixarray, says_fixtext, says_never, says_bin, says_ext, says_number, says_fixext, made_text, made_array, made_map)

-- the tests for texts and maps, by ranges of lead bytes or of entries
module _ (f : Shape → Bool) (h : ℕ → Head) (lo n : ℕ) where
  pub passes_in : T (all (λ k. f (h k).shape) lo n) → (b : ℕ) → lo ≤ b → b < lo + n → true ≡ f (h b).shape
  passes_in t b g l = is_true (f (h b).shape) (ranged (λ k. f (h k).shape) lo n t b g l)

  pub fails_in : T (all (λ k. not (f (h k).shape)) lo n) → (b : ℕ) → lo ≤ b → b < lo + n → false ≡ f (h b).shape
  fails_in t b g l = is_false (f (h b).shape) (ranged (λ k. not (f (h k).shape)) lo n t b g l)

module _ (b : ℕ) where
  pub text_low : b < 0xA0 → false ≡ is_text (head_of b).shape
  unfolding head_of lead_bytes row_in
  text_low h = fails_in is_text head_of 0 0xA0 tt b (omega arith) (omega arith)

  pub text_fix : 0xA0 ≤ b → b < 0xC0 → true ≡ is_text (head_of b).shape
  unfolding head_of lead_bytes row_in
  text_fix g h = passes_in is_text head_of 0xA0 0x20 tt b g (omega arith)

  pub text_mark : 0xC0 ≤ b → b < 0xD9 → false ≡ is_text (head_of b).shape
  unfolding head_of lead_bytes row_in
  text_mark g h = fails_in is_text head_of 0xC0 0x19 tt b g (omega arith)

  pub text_long : 0xD9 ≤ b → b < 0xDC → true ≡ is_text (head_of b).shape
  unfolding head_of lead_bytes row_in
  text_long g h = passes_in is_text head_of 0xD9 3 tt b g (omega arith)

  pub text_high : 0xDC ≤ b → b < 256 → false ≡ is_text (head_of b).shape
  unfolding head_of lead_bytes row_in
  text_high g h = fails_in is_text head_of 0xDC 0x24 tt b g (omega arith)

  pub map_low : b < 0x80 → false ≡ is_map (head_of b).shape
  unfolding head_of lead_bytes row_in
  map_low h = fails_in is_map head_of 0 0x80 tt b (omega arith) (omega arith)

  pub map_fix : 0x80 ≤ b → b < 0x90 → true ≡ is_map (head_of b).shape
  unfolding head_of lead_bytes row_in
  map_fix g h = passes_in is_map head_of 0x80 0x10 tt b g (omega arith)

  pub map_mid : 0x90 ≤ b → b < 0xDE → false ≡ is_map (head_of b).shape
  unfolding head_of lead_bytes row_in
  map_mid g h = fails_in is_map head_of 0x90 0x4E tt b g (omega arith)

  pub map_long : 0xDE ≤ b → b < 0xE0 → true ≡ is_map (head_of b).shape
  unfolding head_of lead_bytes row_in
  map_long g h = passes_in is_map head_of 0xDE 2 tt b g (omega arith)

  pub map_high : 0xE0 ≤ b → b < 256 → false ≡ is_map (head_of b).shape
  unfolding head_of lead_bytes row_in
  map_high g h = fails_in is_map head_of 0xE0 0x20 tt b g (omega arith)

pub ruleset texts = (text_low, text_fix, text_mark, text_long, text_high)

pub ruleset maps = (map_low, map_fix, map_mid, map_long, map_high)
