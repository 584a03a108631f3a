-- A frame that is whole in a piece is the same frame in the whole input, and a refusal by 2 or 3 stays: only 1 waits for more bytes, and never for
-- more than 4,108. By the definition's tests, one after another. Assumes nothing.
use mathlib.Core.Path.{◌≡◌, refl, sym, ap, ◌∙◌}
use mathlib.Core.Bool.{Bool, true, false}
use mathlib.Core.List.{List, [], ◌∷◌, ◌++◌}
use Prim.Native.Nat.{ℕ, ◌+◌, ◌≤◌, ◌<◌}
use native.Mathlib.Omega.{arith}
use lib.{Dec.ltb, Dec.eqb, Seq.take-append-le, Seq.drop-append-le}
use lib.ListN.{length, take, drop, length-append, length-drop, get_or-append}
use borrow.Author.Tests.{lt-ltb, le-ltb, ltb-true, ltb-false}
use Rattle.octets.specs.{Choice.either, Size.is_size}
use Rattle.octets.proofs.{Ranges.true_false, Sizes.sized_most, Places.same_little}
use Rattle.std.specs.Prelude.{Ok, Err}
use Rattle.refusal.specs.declared.Refusal.{TheVariants.FrameIncomplete, TheVariants.FrameIdentifier, TheVariants.Size}
use Rattle.frame.specs.Frame.{identifier, agrees, framed_of, payload_of, size_of}
use Rattle.frame.proofs.Format.{whole_size, fits}

-- a byte that differs still does
strange_more : (l s t : List ℕ) → agrees l s ≡ false → agrees l (s ++ t) ≡ false
unfolding agrees
strange_more [] s t e = true_false e
strange_more (b ∷ l) [] t e = true_false e
strange_more (b ∷ l) (x ∷ s) t e = go (eqb b x) (λ f. strange_more l s t f) e
  where
    go : (c : Bool) → (agrees l s ≡ false → agrees l (s ++ t) ≡ false) → either c (λ _. agrees l s) (λ _. false) ≡ false → either c (λ _. agrees l (s ++ t)) (λ _. false) ≡ false
    go true more e = more e
    go false more e = refl

-- where all are there, no byte behind them counts
agrees_more : (l s t : List ℕ) → length l ≤ length s → agrees l (s ++ t) ≡ agrees l s
unfolding agrees
agrees_more [] s t h = refl
agrees_more (b ∷ l) [] t h = absurd (omega arith)
agrees_more (b ∷ l) (x ∷ s) t h = go (eqb b x) (agrees_more l s t (omega arith))
  where
    go : (c : Bool) → agrees l (s ++ t) ≡ agrees l s → either c (λ _. agrees l (s ++ t)) (λ _. false) ≡ either c (λ _. agrees l s) (λ _. false)
    go true e = e
    go false e = refl

module _ (a b : List ℕ) where
  strange_stays : agrees identifier a ≡ false → framed_of (a ++ b) ≡ framed_of a
  unfolding framed_of
  strange_stays e = simp (strange_more identifier a b e, e)

  module _ (e : agrees identifier a ≡ true) where
    short_waits : length a < 12 → framed_of a ≡ Err FrameIncomplete
    unfolding framed_of
    short_waits h = simp (e, lt-ltb (length a) 12 h)

    module _ (h : 12 ≤ length a) where
      long : length (a ++ b) ≡ length a + length b
      long = length-append a b

      agrees_both : agrees identifier (a ++ b) ≡ true
      unfolding identifier
      agrees_both = agrees_more identifier a b (omega arith) ∙ e

      size_both : size_of (a ++ b) ≡ size_of a
      size_both = same_little (a ++ b) a 8 8 4 (λ k l. get_or-append a b 0 (8 + k) (omega arith))

      missized_stays : is_size (size_of a) ≡ false → framed_of (a ++ b) ≡ framed_of a
      unfolding framed_of
      missized_stays w =
          let l = long in
          simp (agrees_both, e, le-ltb (length a) 12 h, le-ltb (length (a ++ b)) 12 (omega arith), size_both, w)

      module _ (w : is_size (size_of a) ≡ true) where
        cut_waits : length a < 12 + size_of a → framed_of a ≡ Err FrameIncomplete
        unfolding framed_of
        cut_waits l = simp (e, le-ltb (length a) 12 h, w, lt-ltb (length a) (12 + size_of a) l)

        whole_stays : 12 + size_of a ≤ length a → framed_of (a ++ b) ≡ framed_of a
        unfolding framed_of
        whole_stays g =
            let l = long in
            simp (agrees_both, e, le-ltb (length a) 12 h, le-ltb (length (a ++ b)) 12 (omega arith), size_both, w, le-ltb (length a) (12 + size_of a) g, le-ltb (length (a ++ b)) (12 + size_of a) (omega arith))

  pub straddles : (framed_of a ≡ Err FrameIncomplete → ⊥) → framed_of (a ++ b) ≡ framed_of a
  straddles f = by_identifier (agrees identifier a) refl
    where
      by_whole : (e : agrees identifier a ≡ true) (h : 12 ≤ length a) (w : is_size (size_of a) ≡ true) (t : Bool) → ltb (length a) (12 + size_of a) ≡ t → framed_of (a ++ b) ≡ framed_of a
      by_whole e h w true q = absurd (f (cut_waits e h w (ltb-true (length a) (12 + size_of a) q)))
      by_whole e h w false q = whole_stays e h w (ltb-false (length a) (12 + size_of a) q)

      by_size : (e : agrees identifier a ≡ true) (h : 12 ≤ length a) (t : Bool) → is_size (size_of a) ≡ t → framed_of (a ++ b) ≡ framed_of a
      by_size e h false w = missized_stays e h w
      by_size e h true w = by_whole e h w (ltb (length a) (12 + size_of a)) refl

      by_length : (e : agrees identifier a ≡ true) (t : Bool) → ltb (length a) 12 ≡ t → framed_of (a ++ b) ≡ framed_of a
      by_length e true q = absurd (f (short_waits e (ltb-true (length a) 12 q)))
      by_length e false q = by_size e (ltb-false (length a) 12 q) (is_size (size_of a)) refl

      by_identifier : (t : Bool) → agrees identifier a ≡ t → framed_of (a ++ b) ≡ framed_of a
      by_identifier false e = strange_stays e
      by_identifier true e = by_length e (ltb (length a) 12) refl

  -- and its payload
  pub payload_straddles : (n : ℕ) → framed_of a ≡ Ok n → framed_of (a ++ b) ≡ framed_of a → payload_of (size_of (a ++ b)) (a ++ b) ≡ payload_of (size_of a) a
  payload_straddles n e q =
      ap (λ (k : ℕ). payload_of k (a ++ b)) (whole_size (a ++ b) n (q ∙ e))
      ∙ ap (take n) (drop-append-le 12 a b (omega (arith, fits a n e)))
      ∙ take-append-le n (drop 12 a) b (omega (arith, length-drop 12 a, fits a n e))
      ∙ ap (λ (k : ℕ). payload_of k a) (sym (whole_size a n e))

-- with 4,108 bytes at hand no frame is incomplete
tests_complete : (a b c d : Bool) (m : ℕ) → b ≡ false → (c ≡ true → d ≡ false) → either a (λ _. either b (λ _. Err FrameIncomplete) (λ _. either c (λ _. either d (λ _. Err FrameIncomplete) (λ _. Ok m)) (λ _. Err Size))) (λ _. Err FrameIdentifier) ≡ Err FrameIncomplete → ⊥
tests_complete false b c d m p q e = cc
tests_complete true true c d m p q e = true_false p
tests_complete true false false d m p q e = cc
tests_complete true false true true m p q e = true_false (q refl)
tests_complete true false true false m p q e = cc

pub enough : (s : List ℕ) → 4108 ≤ length s → framed_of s ≡ Err FrameIncomplete → ⊥
unfolding framed_of
enough s h e =
    tests_complete (agrees identifier s) (ltb (length s) 12) (is_size (size_of s)) (ltb (length s) (12 + size_of s)) (size_of s)
    (le-ltb (length s) 12 (omega arith))
    (λ w. le-ltb (length s) (12 + size_of s) (omega (arith, sized_most (size_of s) w)))
    e
