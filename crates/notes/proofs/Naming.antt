-- The command's text at its place: where its bytes are all there it is their name, and where a byte is lacking there is no text.
-- Assumes nothing.
use mathlib.Core.Path.{◌≡◌, refl, sym, ap, ◌∙◌}
use mathlib.Core.{Bool.Bool, Bool.true, Bool.false, List.List, Option.some, Option.none}
use Prim.Native.Nat.{ℕ, zero, suc, ◌+◌, ◌-◌, ◌≤◌, ◌<◌}
use native.Mathlib.Omega.{arith}
use lib.Dec.{leb}
use lib.ListN.{length, get_or, take, drop}
use borrow.Author.Tests.{lt-ltb, le-ltb, le-leb, lt-leb}
use Rattle.octets.specs.Number.{big_at, if_there}
use Rattle.octets.proofs.Ranges.{true_false}
use Rattle.element.specs.declared.Shape.TheVariants.{Text}
use Rattle.element.specs.declared.Head.{Head}
use Rattle.element.specs.declared.Span.{Span, TheVariants.Cut, TheVariants.Ends, TheVariants.Holds}
use Rattle.element.specs.Lead.{Class, class_of, shape_of, row_in, lead_bytes, head_of}
use Rattle.element.specs.{Form.is_text, Form.body_of, Form.span_of, Meaning.leaf_of}
use Rattle.element.specs.{Code.At.body_from, Code.At.leaf_to, Code.At.leaf_at}
use Rattle.names.specs.Names.{command_of}
use Rattle.field.specs.{Judge.text_of, Code.At.shallow_at}
use Rattle.walk.specs.Code.Short.{Announces}
use Rattle.message.specs.Code.Cells.{numbered, command_at}
use Rattle.std.specs.Prelude.{Result, Ok, Err}
use Rattle.refusal.specs.declared.Refusal.{Refusal, TheVariants.NoCommand, TheVariants.UnknownCommand}
use Rattle.notes.specs.Code.Noted.{commanded, IsTextAt}
use Rattle.notes.proofs.Opening.{is_text_lem}

-- behind the second byte the number is that of the text
by_text : (s : List ℕ) (p : ℕ) → 2 ≤ p → command_at s p ≡ numbered (text_of (shallow_at s p))
unfolding command_at
by_text s zero h = absurd (omega arith)
by_text s (suc zero) h = absurd (omega arith)
by_text s (suc (suc p)) h = refl

-- what a number of no command tells
none_told : (n : ℕ) → n ≡ 25 → Err NoCommand ≡ commanded n
unfolding commanded
none_told n e = rw e

-- the class of a text's shape is text
text_class : (c : Class) → shape_of c ≡ Text → c ≡ Class.text
text_class Class.small e = let z : ◌≡◌ {A = ℕ} 0 1 = cc in absurd (omega arith)
text_class Class.map e = let z : ◌≡◌ {A = ℕ} 0 1 = cc in absurd (omega arith)
text_class Class.array e = let z : ◌≡◌ {A = ℕ} 0 1 = cc in absurd (omega arith)
text_class Class.text e = refl
text_class Class.nil e = let z : ◌≡◌ {A = ℕ} 0 1 = cc in absurd (omega arith)
text_class Class.never e = let z : ◌≡◌ {A = ℕ} 0 1 = cc in absurd (omega arith)
text_class Class.bool e = let z : ◌≡◌ {A = ℕ} 0 1 = cc in absurd (omega arith)
text_class Class.bin e = let z : ◌≡◌ {A = ℕ} 0 1 = cc in absurd (omega arith)
text_class Class.ext e = let z : ◌≡◌ {A = ℕ} 0 1 = cc in absurd (omega arith)
text_class Class.float32 e = let z : ◌≡◌ {A = ℕ} 0 1 = cc in absurd (omega arith)
text_class Class.float64 e = let z : ◌≡◌ {A = ℕ} 0 1 = cc in absurd (omega arith)
text_class Class.unsigned e = let z : ◌≡◌ {A = ℕ} 0 1 = cc in absurd (omega arith)
text_class Class.signed e = let z : ◌≡◌ {A = ℕ} 0 1 = cc in absurd (omega arith)

lead_class : (b : ℕ) → (head_of b).shape ≡ Text → class_of b ≡ Class.text
unfolding head_of
lead_class b e = text_class (row_in lead_bytes b).class e

-- no other shape is a text
no_text : (c : Class) → is_text (shape_of c) ≡ false → (b : ℕ) (d : List ℕ) → text_of (leaf_of c b d) ≡ none
no_text Class.small e b d = refl
no_text Class.map e b d = refl
no_text Class.array e b d = refl
no_text Class.text e b d = true_false e
no_text Class.nil e b d = refl
no_text Class.never e b d = refl
no_text Class.bool e b d = refl
no_text Class.bin e b d = refl
no_text Class.ext e b d = refl
no_text Class.float32 e b d = refl
no_text Class.float64 e b d = refl
no_text Class.unsigned e b d = refl
no_text Class.signed e b d = refl

module _ (s : List ℕ) (p : ℕ) where
  -- by the span at the place
  shallow_text : p < length s → (x : Span) → span_of s p ≡ x → text_of (shallow_at s p) ≡ text_of (leaf_to s p x)
  unfolding shallow_at leaf_at
  shallow_text h Cut e = simp (lt-ltb p (length s) h, e)
  shallow_text h (Ends q) e = simp (lt-ltb p (length s) h, e)
  shallow_text h (Holds q n true) e = simp (lt-ltb p (length s) h, e)
  shallow_text h (Holds q n false) e = simp (lt-ltb p (length s) h, e)

  pub number_early : p < 2 → Err NoCommand ≡ commanded (command_at s p)
  unfolding command_at commanded
  number_early h = go p h
    where
      go : (p : ℕ) → p < 2 → Err NoCommand ≡ commanded (command_at s p)
      go zero h = refl
      go (suc zero) h = refl
      go (suc (suc p)) h = absurd (omega arith)

  pub number_past : 2 ≤ p → length s ≤ p → Err NoCommand ≡ commanded (command_at s p)
  unfolding shallow_at
  number_past g h =
      let t : text_of (shallow_at s p) ≡ none = simp (le-ltb p (length s) h) in
      none_told (command_at s p) (by_text s p g ∙ ap numbered t)

  pub number_other : 2 ≤ p → p < length s → (m : Bool) → m ≡ is_text (head_of (get_or s p 0)).shape → m ≡ false → Err NoCommand ≡ commanded (command_at s p)
  unfolding head_of
  number_other g h m f k =
      none_told (command_at s p) (by_text s p g ∙ ap numbered (shallow_text h (span_of s p) refl ∙ none_to (span_of s p)))
    where
      none_to : (x : Span) → text_of (leaf_to s p x) ≡ none
      none_to Cut = refl
      none_to (Ends q) = no_text (class_of (get_or s p 0)) (sym f ∙ k) (get_or s p 0) (take (q - body_from s p) (drop (body_from s p) s))
      none_to (Holds q n keyed) = refl

  pub text_at : 2 ≤ p → p < length s → (m : Bool) → m ≡ is_text (head_of (get_or s p 0)).shape → m ≡ true → IsTextAt s p
  text_at g h m f k = record { behind = g; there = h; text = is_text_lem (head_of (get_or s p 0)).shape (sym f ∙ k) }

  module _ (i : IsTextAt s p) (h : Head) (y : Announces (get_or s p 0) h) where
    is_shape : h.shape ≡ Text
    is_shape = ap (λ (q : Head). q.shape) y.is ∙ i.text

    pub number_cut : length s - p - 1 < h.wide → Err NoCommand ≡ commanded (command_at s p)
    unfolding span_of
    number_cut l = none_told (command_at s p) (by_text s p i.behind ∙ ap numbered (shallow_text i.there Cut (rw (← y.is) (simp (lt-leb (p + 1 + h.wide) (length s) (omega (arith, i.there)))))))

    module _ (g : h.wide ≤ length s - p - 1) (x : ℕ) (f : x ≡ if_there s (p + 1) h.wide (big_at s (p + 1) h.wide)) where
      span_here : span_of s p ≡ body_of (length s) (p + 1 + h.wide) (h.more + x)
      unfolding span_of
      span_here =
          let j : leb (p + 1 + h.wide) (length s) ≡ true = le-leb (p + 1 + h.wide) (length s) (omega (arith, i.there)) in
          let v : x ≡ big_at s (p + 1) h.wide = f ∙ simp (le-leb h.wide 8 (omega (arith, y.wide)), j) in
          rw (← y.is) (simp (j, is_shape, ← v))

      pub number_lacking : length s - (p + 1 + h.wide) < h.more + x → Err NoCommand ≡ commanded (command_at s p)
      unfolding body_of
      number_lacking l =
          none_told (command_at s p) (by_text s p i.behind ∙ ap numbered (shallow_text i.there Cut (span_here ∙ simp (lt-leb (h.more + x) (length s - (p + 1 + h.wide)) l))))

      number_named : (r : ℕ) → h.more + x ≤ length s - (p + 1 + h.wide)
          → r ≡ command_of (take (p + 1 + h.wide + (h.more + x) - (p + 1 + h.wide)) (drop (p + 1 + h.wide) s)) → r ≡ command_at s p
      unfolding body_of
      number_named r l e =
          let q = p + 1 + h.wide + (h.more + x) in
          let sp : span_of s p ≡ Ends q = span_here ∙ simp (le-leb (h.more + x) (length s - (p + 1 + h.wide)) l) in
          let c : class_of (get_or s p 0) ≡ Class.text = lead_class (get_or s p 0) i.text in
          let t : text_of (leaf_to s p (Ends q)) ≡ some (take (q - (p + 1 + h.wide)) (drop (p + 1 + h.wide) s)) = rw (c, ← y.is) in
          e ∙ sym (by_text s p i.behind ∙ ap numbered (shallow_text i.there (Ends q) sp ∙ t))

      module _ (r : ℕ) (l : h.more + x ≤ length s - (p + 1 + h.wide)) (e : r ≡ command_of (take (p + 1 + h.wide + (h.more + x) - (p + 1 + h.wide)) (drop (p + 1 + h.wide) s))) where
        pub named_known : r < 24 → Ok r ≡ commanded (command_at s p)
        unfolding commanded
        named_known z = rw (← number_named r l e) (simp (lt-ltb r 24 z))

        pub named_other : 24 ≤ r → r ≤ 24 → Err UnknownCommand ≡ commanded (command_at s p)
        unfolding commanded
        named_other z y =
            let v : r ≡ 24 = omega arith in
            rw (← number_named r l e, v)

-- by the place, and by the text that begins there
pub ruleset places = (number_early, number_past, number_other, text_at)

pub ruleset namings = (number_cut, number_lacking, named_known, named_other)
