-- A real, a truth value and a text in their shortest forms are lawful and mean that value; each is one element. Assumes nothing.
use mathlib.Core.Path.{◌≡◌, refl, ap, ◌∙◌}
use mathlib.Core.{Bool.Bool, Bool.true, Bool.false, List.List, List.[]}
use Prim.Native.Nat.{ℕ, suc, ◌+◌, ◌^◌, ◌≤◌, ◌<◌}
use native.Mathlib.Omega.{arith}
use lib.{Dec.T, ListN.length, ListN.length-append}
use lib.Ieee.{Float, binary64, to_bits, fits}
use lib.Ieee.Bits.{of_bits-to_bits, to_bits-lt}
use Rattle.octets.specs.{Number.big_at, Bytes.big_bytes}
use Rattle.octets.proofs.{Digits.length_big, Digits.big_is, Ranges.is_true}
use Rattle.element.specs.declared.Shape.TheVariants.{Text}
use Rattle.element.specs.{Lead.Class, Lead.lead_bytes, Lead.row_in, Meaning.key_of, Meaning.meaning_of}
use Rattle.element.specs.{Meaning.Element.truth, Meaning.Element.double, Meaning.Element.text}
use Rattle.element.specs.Tree.{bytes_of, count_of, depth_of, shape_of_tree, Lawful}
use Rattle.std.specs.Prelude.{Some}
use Rattle.number.specs.declared.Number.TheVariants.{Real}
use Rattle.number.specs.Number.{finite, number_of}
use Rattle.forms.specs.Shortest.{real_tree, mark_tree, text_head, text_tree}
use Rattle.shortest.proofs.Rows.{leaf_lawful, leaf_means, real_row}
use Rattle.shortest.proofs.Heads.{head_lawful, text_heads, text_size, text_size_few, text_size_byte}

module _ (x : Float) where
  pub real_lawful : Lawful (real_tree x)
  unfolding real_tree big_at
  real_lawful = leaf_lawful Class.float64 0 8 0xCB [] real_row (big_bytes 8 (to_bits binary64 x)) tt refl (length_big 8 (to_bits binary64 x))

  module _ (f : T (fits binary64 x)) where
    pub real_means : meaning_of (real_tree x) ≡ double (to_bits binary64 x)
    unfolding real_tree
    real_means =
        leaf_means Class.float64 0 8 0xCB [] real_row (big_bytes 8 (to_bits binary64 x))
        ∙ ap double (big_is 8 (to_bits binary64 x) (to_bits-lt binary64 x f))

    pub real_number : T (finite binary64 (to_bits binary64 x)) → number_of (meaning_of (real_tree x)) ≡ Some (Real x)
    real_number h =
        ap number_of real_means
        ∙ rw (← is_true (finite binary64 (to_bits binary64 x)) h) (ap (λ (y : Float). Some (Real y)) (of_bits-to_bits binary64 x f))

  pub real_length : length (bytes_of (real_tree x)) ≡ 9
  unfolding real_tree bytes_of
  real_length = ap suc (length_big 8 (to_bits binary64 x))

  pub real_count : count_of (real_tree x) ≡ 1
  unfolding real_tree count_of
  real_count = refl

  pub real_depth : depth_of (real_tree x) ≡ 1
  unfolding real_tree depth_of
  real_depth = refl

pub mark_lawful : (b : Bool) → Lawful (mark_tree b)
unfolding mark_tree row_in lead_bytes big_at
mark_lawful true = leaf_lawful Class.bool 0 0 0xC3 [] refl [] tt refl refl
mark_lawful false = leaf_lawful Class.bool 0 0 0xC2 [] refl [] tt refl refl

pub mark_means : (b : Bool) → meaning_of (mark_tree b) ≡ truth b
unfolding mark_tree row_in lead_bytes
mark_means true = leaf_means Class.bool 0 0 0xC3 [] refl []
mark_means false = leaf_means Class.bool 0 0 0xC2 [] refl []

module _ (b : Bool) where
  pub mark_length : length (bytes_of (mark_tree b)) ≡ 1
  unfolding mark_tree bytes_of
  mark_length = refl

  pub mark_count : count_of (mark_tree b) ≡ 1
  unfolding mark_tree count_of
  mark_count = refl

  pub mark_depth : depth_of (mark_tree b) ≡ 1
  unfolding mark_tree depth_of
  mark_depth = refl

module _ (d : List ℕ) where
  pub text_key : key_of (text_tree d) ≡ d
  unfolding text_tree
  text_key = refl

  pub text_count : count_of (text_tree d) ≡ 1
  unfolding text_tree count_of
  text_count = refl

  pub text_depth : depth_of (text_tree d) ≡ 1
  unfolding text_tree depth_of
  text_depth = refl

  -- the lead byte, the bytes of the length and the text
  pub text_length_is : length (bytes_of (text_tree d)) ≡ length d + length (text_head (length d)).size + 1
  unfolding text_tree bytes_of
  text_length_is = omega (arith, length-append (text_head (length d)).size d)

  pub text_length_few : length d < 32 → length (bytes_of (text_tree d)) ≤ length d + 1
  text_length_few h = omega (arith, text_length_is, text_size_few (length d) h)

  pub text_length_byte : length d < 256 → length (bytes_of (text_tree d)) ≤ length d + 2
  text_length_byte h = omega (arith, text_length_is, text_size_byte (length d) h)

  module _ (h : length d < 2 ^ 32) where
    pub text_lawful : Lawful (text_tree d)
    unfolding text_tree
    text_lawful =
        let H = text_heads (length d) h in
        leaf_lawful Class.text H.wide H.more (text_head (length d)).lead (text_head (length d)).size H.row_is d tt H.size H.states

    pub text_shape : shape_of_tree (text_tree d) ≡ Text
    unfolding text_tree
    text_shape = (head_lawful Class.text (length d) (text_head (length d)) (text_heads (length d) h)).shape_is

    pub text_means : meaning_of (text_tree d) ≡ text d
    unfolding text_tree
    text_means =
        let H = text_heads (length d) h in
        leaf_means Class.text H.wide H.more (text_head (length d)).lead (text_head (length d)).size H.row_is d

    pub text_length : length (bytes_of (text_tree d)) ≤ length d + 5
    text_length = omega (arith, text_length_is, text_size (length d) h)
