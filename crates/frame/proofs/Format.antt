-- The reader and the format are one: a frame that is read is an identifier, a size, that many bytes of payload and what is behind them, and
-- every such list is read so. One way by taking the definition's tests apart, the other by computing each of them. Assumes nothing.
use mathlib.Core.Path.{◌≡◌, refl, sym, ap, ap₂, ◌∙◌}
use mathlib.Core.Bool.{Bool, true, false}
use mathlib.Core.List.{List, [], ◌∷◌, ◌++◌}
use Prim.Native.Nat.{ℕ, ◌+◌, ◌≤◌, ◌<◌}
use native.Mathlib.Omega.{arith}
use lib.Dec.{ltb}
use lib.ListN.{length, take, drop, length-append, length-drop, take-append-drop}
use lib.Seq.{take_all, drop-drop, drop_at, take-append_seam, length-take-le}
use borrow.Author.Tests.{le-ltb, eq-eqb, ltb-false}
use Rattle.octets.specs.{Choice.either, Bytes.IsBytes, Bytes.little_bytes, Size.is_size}
use Rattle.octets.proofs.{Sizes.size_is, Sizes.sized_some, Sizes.sized_most, Digits.length_little, Digits.little_here, Digits.little_again}
use Rattle.refusal.specs.Number.{number_of}
use Rattle.refusal.specs.declared.Refusal.{Refusal, TheVariants.FrameIncomplete, TheVariants.FrameIdentifier, TheVariants.Size}
use Rattle.refusal.proofs.Numbers.{number_some}
use Rattle.std.specs.Prelude.{Ok, Err}
use Rattle.frame.specs.Frame.{Framed, identifier, agrees, framed_of, payload_of, size_of}
use Rattle.frame.proofs.Identifier.{all_agree}

refused_whole : {A : Type 0} (r : Refusal) (n : ℕ) → ◌≡◌ {A = Framed} (Err r) (Ok n) → A
refused_whole r n e = cc

-- the tests of a frame that is whole
tests_of : (a b c d : Bool) (m n : ℕ) → either a (λ _. either b (λ _. Err FrameIncomplete) (λ _. either c (λ _. either d (λ _. Err FrameIncomplete) (λ _. Ok m)) (λ _. Err Size))) (λ _. Err FrameIdentifier) ≡ Ok n → (a ≡ true) × (b ≡ false) × (c ≡ true) × (d ≡ false) × (m ≡ n)
tests_of false b c d m n e = refused_whole FrameIdentifier n e
tests_of true true c d m n e = refused_whole FrameIncomplete n e
tests_of true false false d m n e = refused_whole Size n e
tests_of true false true true m n e = refused_whole FrameIncomplete n e
tests_of true false true false m n e = (refl, refl, refl, refl, cc)

-- no frame is refused with the number 0
pub refused_number : (s : List ℕ) (r : Refusal) → framed_of s ≡ Err r → 0 < number_of r
refused_number s r e = omega (arith, number_some r)

-- a whole frame of n bytes of payload at the start of s
pub record IsFrame (n : ℕ) (s : List ℕ) : Type 0 where
  pub some : 1 ≤ n
  pub small : n ≤ 4096
  pub there : length (payload_of n s) ≡ n
  pub bytes : s ≡ identifier ++ (little_bytes 4 n ++ (payload_of n s ++ drop (12 + n) s))

module _ (s : List ℕ) (n : ℕ) (e : framed_of s ≡ Ok n) where
  passed : (agrees identifier s ≡ true) × (ltb (length s) 12 ≡ false) × (is_size (size_of s) ≡ true) × (ltb (length s) (12 + size_of s) ≡ false) × (size_of s ≡ n)
  unfolding framed_of
  passed =
      tests_of (agrees identifier s) (ltb (length s) 12) (is_size (size_of s))
      (ltb (length s) (12 + size_of s)) (size_of s) n e

  pub whole_size : size_of s ≡ n
  whole_size = passed.4

  pub fits : 12 + n ≤ length s
  fits = omega (arith, ltb-false (length s) (12 + size_of s) passed.3, passed.4)

  opens : identifier ≡ take 8 s
  unfolding identifier
  opens = sym (take_all (length s) identifier (omega (arith, fits))) ∙ all_agree identifier s passed.0

  splits : s ≡ take 8 s ++ (take 4 (drop 8 s) ++ (payload_of n s ++ drop (12 + n) s))
  splits =
      sym (take-append-drop 8 s)
      ∙ ap (λ (l : List ℕ). take 8 s ++ l)
      (sym (take-append-drop 4 (drop 8 s))
      ∙ ap (λ (l : List ℕ). take 4 (drop 8 s) ++ l)
      (drop-drop 4 8 s ∙ sym (take-append-drop n (drop 12 s)) ∙ ap (λ (l : List ℕ). payload_of n s ++ l) (drop-drop n 12 s)))

  pub is_frame : IsBytes s → IsFrame n s
  is_frame b =
      let size : little_bytes 4 n ≡ take 4 (drop 8 s) = ap (little_bytes 4) (sym passed.4) ∙ little_again s b 8 4 (omega (arith, fits)) in
      record {
        some = omega (arith, passed.4, sized_some (size_of s) passed.2);
        small = omega (arith, passed.4, sized_most (size_of s) passed.2);
        there = length-take-le n (drop 12 s) (omega (arith, length-drop 12 s, fits));
        bytes = splits ∙ ap₂ (λ (i z : List ℕ). i ++ (z ++ (payload_of n s ++ drop (12 + n) s))) (sym opens) (sym size);
      }

-- the other way: any payload of 1 to 4,096 bytes, whatever is behind it
agree_front : (l t : List ℕ) → agrees l (l ++ t) ≡ true
unfolding agrees
agree_front [] t = refl
agree_front (b ∷ l) t = simp (eq-eqb b b refl) (agree_front l t)

module _ (p t : List ℕ) (some : 1 ≤ length p) (small : length p ≤ 4096) where
  abbrev input : List ℕ
  input = identifier ++ (little_bytes 4 (length p) ++ (p ++ t))

  behind : drop 8 input ≡ little_bytes 4 (length p) ++ (p ++ t)
  unfolding identifier
  behind = refl

  size : size_of input ≡ length p
  size = little_here 4 (length p) (omega arith) input 8 (p ++ t) behind

  long : length input ≡ 12 + length p + length t
  unfolding identifier
  long = omega (arith, length-append (little_bytes 4 (length p)) (p ++ t), length-append p t, length_little 4 (length p))

  pub is_whole : framed_of (identifier ++ (little_bytes 4 (length p) ++ (p ++ t))) ≡ Ok (length p)
  unfolding framed_of
  is_whole =
      let l = long in
      simp (agree_front identifier (little_bytes 4 (length p) ++ (p ++ t)), le-ltb (length input) 12 (omega arith), size, size_is (length p) some small, le-ltb (length input) (12 + length p) (omega arith))

  pub is_payload : payload_of (length p) (identifier ++ (little_bytes 4 (length p) ++ (p ++ t))) ≡ p
  is_payload =
      ap (take (length p)) (sym (drop-drop 4 8 input) ∙ ap (drop 4) behind ∙ drop_at (little_bytes 4 (length p)) (p ++ t) 4 (length_little 4 (length p)))
      ∙ take-append_seam p t

pub ruleset format = (refused_number, whole_size, fits, is_frame, is_whole, is_payload)
