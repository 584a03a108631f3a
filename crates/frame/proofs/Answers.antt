-- What the code answers, each law in the shape of a need of the code: the tests that led there give the case of the definition.
-- Assumes nothing.
use mathlib.Core.Path.{◌≡◌, refl, sym, ap, ◌∙◌}
use mathlib.Core.Bool.{Bool, true, false, not}
use mathlib.Core.List.{List, []}
use Prim.Native.Nat.{ℕ, ◌+◌, ◌-◌, ◌≤◌, ◌<◌, min}
use native.Mathlib.Omega.{arith}
use lib.Dec.{leb}
use lib.ListN.{length, take, drop, drop_of_length-le}
use lib.Seq.{take-nil, take_all}
use borrow.Author.Tests.{lt-ltb, le-ltb, leb-true, leb-false, not-true, not-false}
use Rattle.octets.specs.{Number.little_at, Number.if_there, Size.is_size}
use Rattle.octets.proofs.Reading.{if_there_lem}
use Rattle.refusal.specs.declared.Refusal.TheVariants.{FrameIncomplete, FrameIdentifier, Size}
use Rattle.std.specs.Prelude.{Ok, Err}
use Rattle.frame.specs.Frame.{identifier, agrees, framed_of, payload_of, size_of}

module _ (s : List ℕ) (a : Bool) (e : a ≡ agrees identifier s) where
  pub strange : not a ≡ true → Err FrameIdentifier ≡ framed_of s
  unfolding framed_of
  strange f = simp (← e, not-true a f)

  module _ (t : not a ≡ false) where
    pub headless : length s < 12 → Err FrameIncomplete ≡ framed_of s
    unfolding framed_of
    headless h = simp (← e, not-false a t, lt-ltb (length s) 12 h)

    -- the twelve bytes are there, and n is the size that they state
    module _ (h : 12 ≤ length s) (n : ℕ) (q : n ≡ if_there s 8 4 (little_at s 8 4)) where
      stated : n ≡ size_of s
      stated = q ∙ if_there_lem s 8 4 (little_at s 8 4) (omega arith) h

      module _ (b : Bool) (d : b ≡ is_size n) where
        pub missized : not b ≡ true → Err Size ≡ framed_of s
        unfolding framed_of
        missized f = simp (← e, not-false a t, le-ltb (length s) 12 h, ← stated, ← d, not-true b f)

        module _ (f : not b ≡ false) where
          pub cut : length s - 12 < n → Err FrameIncomplete ≡ framed_of s
          unfolding framed_of
          cut g = simp (← e, not-false a t, le-ltb (length s) 12 h, ← stated, ← d, not-false b f, lt-ltb (length s) (12 + n) (omega arith))

          pub whole : n ≤ length s - 12 → Ok n ≡ framed_of s
          unfolding framed_of
          whole g = simp (← e, not-false a t, le-ltb (length s) 12 h, ← stated, ← d, not-false b f, le-ltb (length s) (12 + n) (omega arith))

pub ruleset answers = (strange, headless, missized, cut, whole, arith)

-- the part that is shown
module _ (s : List ℕ) (size : ℕ) where
  pub nothing : length s < 12 → [] ≡ payload_of size s
  nothing h =
      let none : length s ≤ 12 = omega arith in
      sym (ap (take size) (drop_of_length-le s none) ∙ take-nil size)

  pub part : take (min size (length (drop 12 s))) (drop 12 s) ≡ payload_of size s
  part = go (leb size (length (drop 12 s))) refl
    where
      go : (t : Bool) → leb size (length (drop 12 s)) ≡ t → take (min size (length (drop 12 s))) (drop 12 s) ≡ payload_of size s
      go true e =
          let h : min size (length (drop 12 s)) ≡ size = omega (arith, leb-true size (length (drop 12 s)) e) in
          ap (λ (n : ℕ). take n (drop 12 s)) h
      go false e =
          let h : length (drop 12 s) ≤ min size (length (drop 12 s)) = omega (arith, leb-false size (length (drop 12 s)) e) in
          take_all (min size (length (drop 12 s))) (drop 12 s) h ∙ sym (take_all size (drop 12 s) (omega (arith, leb-false size (length (drop 12 s)) e)))

pub ruleset parts = (nothing, part, arith)
