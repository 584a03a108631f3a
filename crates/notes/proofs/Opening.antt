-- The outer element: each way out of the code answers its walk and its places. Assumes nothing.
use mathlib.Core.Path.{◌≡◌, refl, sym, ap, ◌∙◌}
use mathlib.Core.Bool.{Bool, true, false, not}
use mathlib.Core.List.{List}
use Prim.Native.Nat.{ℕ, ◌+◌, ◌-◌, ◌^◌, ◌≤◌, ◌<◌}
use native.Mathlib.Omega.{arith}
use lib.{Dec.lit<, Dec.leb, Dec.ltb, ListN.length, ListN.get_or}
use mir.Syntax.{w64}
use mir.Val.{Fits}
use borrow.Author.Tests.{le-leb, lt-leb, eq-eqb, ne_eqb, ltb-true, ltb-false, not-true, not-false}
use Rattle.refusal.specs.declared.Refusal.TheVariants.{NeverUsed, OuterNotMap, Size}
use Rattle.refusal.specs.declared.Refusal.TheVariants as refusal
use Rattle.octets.specs.{Choice.either, Number.big_at, Number.is_there, Number.if_there, Size.is_size}
use Rattle.octets.proofs.{Ranges.true_false, Widths.within, Sizes.sized_some, Sizes.sized_most}
use Rattle.element.specs.declared.Shape.{Shape, TheVariants.Never, TheVariants.Plain, TheVariants.Text, TheVariants.Array, TheVariants.Map}
use Rattle.element.specs.declared.Head.{Head}
use Rattle.element.specs.declared.Span.{Span, TheVariants.Cut, TheVariants.Ends, TheVariants.Holds}
use Rattle.element.specs.{Lead.head_of, Code.Items.items_of}
use Rattle.element.specs.Form.{Role, is_text, is_map, fault_of, body_of, content_of, span_of, spanned, element_of}
use Rattle.element.proofs.Steps.{none_fault, element_span, element_fault, suits_outer}
use Rattle.element.proofs.Passed.{never_used}
use Rattle.walk.specs.Code.Short.{Announces}
use Rattle.walk.proofs.Leads.{row, map_low, text_low, says_fixmap, says_fixtext}
use Rattle.message.specs.{Code.Notes.notes_of, Code.Notes.unnoted, Code.Cells.places_by, Code.Cells.places_of}
use Rattle.notes.specs.declared.Noted.{Noted}
use Rattle.notes.specs.Code.Noted.{broken_at, opened_of, noted_of, BeginsMap}

-- a record by its parts
both : (s : List ℕ) (r : Noted) → r.step ≡ element_of s 8 Role.outer 0 0 → r.places ≡ places_of s → r ≡ opened_of s
unfolding opened_of
both s r p q = λ i. record { step = p i; places = q i }

-- a test on a shape, and the shape
pub is_map_lem : (h : Shape) → is_map h ≡ true → h ≡ Map
is_map_lem Never e = true_false (sym e)
is_map_lem Plain e = true_false (sym e)
is_map_lem Text e = true_false (sym e)
is_map_lem Array e = true_false (sym e)
is_map_lem Map e = refl

pub is_text_lem : (h : Shape) → is_text h ≡ true → h ≡ Text
is_text_lem Never e = true_false (sym e)
is_text_lem Plain e = true_false (sym e)
is_text_lem Text e = refl
is_text_lem Array e = true_false (sym e)
is_text_lem Map e = true_false (sym e)

-- a span that holds no pairs has no places
body_places : (s : List ℕ) (len from n : ℕ) → places_by s (body_of len from n) ≡ unnoted
unfolding body_of
body_places s len from n = go (leb n (len - from))
  where
    go : (b : Bool) → places_by s (either b (λ _. Ends (from + n)) (λ _. Cut)) ≡ unnoted
    go true = refl
    go false = refl

no_pairs : (s : List ℕ) (h : Shape) → is_map h ≡ false → (len from n : ℕ) → places_by s (content_of h len from n) ≡ unnoted
no_pairs s Never e len from n = refl
no_pairs s Plain e len from n = body_places s len from n
no_pairs s Text e len from n = body_places s len from n
no_pairs s Array e len from n = refl
no_pairs s Map e len from n = true_false e

no_places : (s : List ℕ) → is_map (head_of (get_or s 0 0)).shape ≡ false → unnoted ≡ places_of s
unfolding places_of span_of
no_places s e = go (leb (0 + 1 + (head_of (get_or s 0 0)).wide) (length s))
  where
    go : (b : Bool) → unnoted ≡ places_by s (either b (λ _. content_of (head_of (get_or s 0 0)).shape (length s) (0 + 1 + (head_of (get_or s 0 0)).wide) ((head_of (get_or s 0 0)).more + big_at s (0 + 1) (head_of (get_or s 0 0)).wide)) (λ _. Cut))
    go true = sym (no_pairs s (head_of (get_or s 0 0)).shape e (length s) (0 + 1 + (head_of (get_or s 0 0)).wide) ((head_of (get_or s 0 0)).more + big_at s (0 + 1) (head_of (get_or s 0 0)).wide))
    go false = refl

module _ (s : List ℕ) where
  module _ (b : Bool) (e : b ≡ is_size (length s)) where
    pub noted_missized : (r : Noted) → r ≡ broken_at Size → not b ≡ true → r ≡ noted_of s
    unfolding noted_of
    noted_missized r q f = q ∙ sym (simp (← e, not-true b f))

    module _ (f : not b ≡ false) where
      pub noted_sized : is_size (length s) ≡ true
      noted_sized = sym e ∙ not-false b f

      pub noted_opened : (r : Noted) → r ≡ opened_of s → r ≡ noted_of s
      unfolding noted_of
      noted_opened r q = q ∙ sym (simp (← e, not-false b f))

  module _ (z : is_size (length s) ≡ true) where
    there : 0 < length s
    there = sized_some (length s) z

    pub opened_never : (r : Noted) → r ≡ broken_at NeverUsed → get_or s 0 0 ≡ 0xC1 → r ≡ opened_of s
    unfolding fault_of
    opened_never r e u =
        e ∙ both s (broken_at NeverUsed)
        (element_fault s 8 Role.outer 0 0 NeverUsed (sym (simp (lt-leb (length s) 0 there, eq-eqb (get_or s 0 0) 0xC1 u))))
        (no_places s (ap is_map (never_used (get_or s 0 0) u)))

    module _ (n : get_or s 0 0 ≡ 0xC1 → ⊥) (m : Bool) (f : m ≡ is_map (head_of (get_or s 0 0)).shape) where
      pub opened_other : (r : Noted) → r ≡ broken_at OuterNotMap → m ≡ false → r ≡ opened_of s
      unfolding fault_of
      opened_other r e k =
          e ∙ both s (broken_at OuterNotMap)
          (element_fault s 8 Role.outer 0 0 OuterNotMap (sym (simp (lt-leb (length s) 0 there, ne_eqb (get_or s 0 0) 0xC1 n, ← f, k))))
          (no_places s (sym f ∙ k))

      pub begins_map : m ≡ true → BeginsMap s
      begins_map k = record { size = z; used = n; map = is_map_lem (head_of (get_or s 0 0)).shape (sym f ∙ k) }

pub ruleset ways = (sized_some, noted_missized, noted_sized, noted_opened, opened_never, opened_other, begins_map)

-- an outer map
module _ (s : List ℕ) (b : BeginsMap s) (h : Head) (y : Announces (get_or s 0 0) h) where
  some : 0 < length s
  some = sized_some (length s) b.size

  opens : (x : Span) → span_of s 0 ≡ x → element_of s 8 Role.outer 0 0 ≡ spanned (element_of s 7) x 0 1
  opens x e =
      element_span s 8 Role.outer 0 0
      (none_fault s 8 Role.outer 0 0 (record { there = some; used = b.used; few = lit< tt; deep = lit< tt; suits = suits_outer b.map }))
      ∙ ap (λ (z : Span). spanned (element_of s 7) z 0 1) e

  pub map_cut : (r : Noted) → r ≡ broken_at refusal.Cut → length s - 1 < h.wide → r ≡ opened_of s
  unfolding span_of places_of
  map_cut r e l = e ∙ both s (broken_at refusal.Cut) (sym (opens Cut cut)) (sym (ap (places_by s) cut))
    where
      cut : span_of s 0 ≡ Cut
      cut = rw (← y.is) (simp (lt-leb (0 + 1 + h.wide) (length s) (omega (arith, some))))

  module _ (g : h.wide ≤ length s - 1) (x : ℕ) (f : x ≡ if_there s 1 h.wide (big_at s 1 h.wide)) where
    holds : span_of s 0 ≡ Holds (1 + h.wide) (h.more + x) true
    unfolding span_of
    holds =
        let j : leb (1 + h.wide) (length s) ≡ true = le-leb (1 + h.wide) (length s) (omega (arith, some)) in
        let v : x ≡ big_at s 1 h.wide = f ∙ simp (le-leb h.wide 8 (omega (arith, y.wide)), j) in
        let m : h.shape ≡ Map = ap (λ (q : Head). q.shape) y.is ∙ b.map in
        rw (← y.is) (simp (j, m, ← v))

    pub map_pairs : (r : Noted) → r.step ≡ items_of s 7 true (h.more + x) (1 + h.wide) 1 → r.places ≡ notes_of s (h.more + x) (1 + h.wide) 1 unnoted → r ≡ opened_of s
    unfolding items_of places_of
    map_pairs r p q = both s r (p ∙ sym (opens (Holds (1 + h.wide) (h.more + x) true) holds)) (q ∙ sym (ap (places_by s) holds))

pub ruleset maps = (sized_some, sized_most, map_cut, map_pairs)

-- a length of at most four bytes, and what is added to it, fit
pub length_fits : (h : Head) (x : ℕ) → h.wide ≤ 4 → h.more ≤ 31 → x < 256 ^ h.wide → Fits w64 (h.more + x)
length_fits h x w m l =
    let small = within 256 h.wide 4 x (lit< tt) l w in
    record { fits = omega arith }

-- the least lead byte of a map and of a text
module _ (b : ℕ) where
  pub map_from : (head_of b).shape ≡ Map → 0x80 ≤ b
  map_from e = go (ltb b 0x80) refl
    where
      go : (t : Bool) → ltb b 0x80 ≡ t → 0x80 ≤ b
      go true q = true_false (sym (map_low b (ltb-true b 0x80 q) ∙ ap is_map e))
      go false q = ltb-false b 0x80 q

  pub text_from : (head_of b).shape ≡ Text → 0xA0 ≤ b
  text_from e = go (ltb b 0xA0) refl
    where
      go : (t : Bool) → ltb b 0xA0 ≡ t → 0xA0 ≤ b
      go true q = true_false (sym (text_low b (ltb-true b 0xA0 q) ∙ ap is_text e))
      go false q = ltb-false b 0xA0 q

  pub map_says : (head_of b).shape ≡ Map → b < 0x90 → Announces b (row Map 0 (b - 0x80))
  map_says e h = says_fixmap b (map_from e) h

  pub text_says : (head_of b).shape ≡ Text → b < 0xC0 → Announces b (row Text 0 (b - 0xA0))
  text_says e h = says_fixtext b (text_from e) h

pub ruleset heads = (map_from, text_from, map_says, text_says)

-- no bytes of length state 0
module _ (s : List ℕ) (p w : ℕ) (e : w ≡ 0) where
  pub none_stated : 0 ≡ if_there s p w (big_at s p w)
  unfolding big_at
  none_stated = rw e (go (is_there (length s) p 0))
    where
      go : (t : Bool) → ◌≡◌ {A = ℕ} 0 (either t (λ _. 0) (λ _. 0))
      go true = refl
      go false = refl

  pub none_small : 0 < 256 ^ w
  none_small = rw e (lit< tt)

pub ruleset lengths = (none_stated, none_small)
