-- What each part that this record has beside saying's is, made from a cell of its kind without a fault: what it says is in range, and nothing stands
-- beside that. Lent bytes are made only from a value: their fields are mandatory. Assumes nothing.
use mathlib.Core.{Path.◌≡◌, Path.refl, Path.sym, Bool.Bool, Bool.true, Bool.◌&&◌, List.List, List.◌++◌}
use Prim.Native.Nat.{ℕ, ◌-◌, ◌≤◌}
use native.Mathlib.Omega.{arith}
use lib.{Dec.T, Dec.eqb, Dec.leb, Pow.are_bytes, Seq.length-take-le, Seq.take-append_seam}
use lib.Ieee.Fits.{and_i}
use lib.ListN.{length, take, drop, replicate, length-append}
use borrow.Author.Tests.{le-leb, ne_eqb}
use Rattle.octets.specs.{Number.big_at, Bytes.big_bytes}
use Rattle.octets.proofs.Ranges.{is_true, true_is, are_bytes_lem}
use Rattle.names.proofs.Same.{same_refl}
use Rattle.field.specs.{Kind.Kind, Kind.Value, Cell.Cell, Cell.here}
use Rattle.message.specs.Record.{word_in, version_in, maybe_of}
use Rattle.saying.specs.Says.{Part, are_nulls, tidy, string_if}
use Rattle.saying.specs.Says as Says
use Rattle.saying.specs.Fits.{is_sized, within}
use Rattle.saying.proofs.{Fair.Fair, Sorts.sized_least, Sorts.sized_most, Made.is_made}
use Rattle.record.specs.declared.Sixteen.{Sixteen}
use Rattle.record.specs.Record.{bytes_in, four_in, sixteen_in}
use Rattle.record.specs.Says.{sixteen_bytes, sixteen, four, tested, lent}
use Rattle.record.proofs.Packed.{sixteen_behind, sixteen_again, four_again}

-- a test that is passed
pub tested_is : (b : Bool) (p : Part) → T b → tested b p ≡ p
tested_is b p t = rw (← is_true b t)

in_range : (m n : ℕ) → m ≤ n → T (leb m n)
in_range m n h = true_is (leb m n) (sym (le-leb m n h))

zeros_same : (n : ℕ) → T (are_nulls n (replicate n 0))
zeros_same n = true_is (are_nulls n (replicate n 0)) (sym (same_refl (replicate n 0)))

long : (n : ℕ) (d : List ℕ) → T (is_sized n n d) → length d ≡ n
long n d t = omega (arith, sized_least n n d t, sized_most n n d t)

sixteen_long : (x : Sixteen) → length (sixteen_bytes x) ≡ 16
unfolding sixteen_bytes big_bytes
sixteen_long x = refl

module _ (must : Bool) where
  pub version_made : {c : Cell} → Fair Kind.versions c → T (is_made must Kind.versions c (Says.version_if (maybe_of version_in c)))
  unfolding within
  version_made (Fair.left k) = tt
  version_made (Fair.release a b d p q r) = and_i (leb a 65535) (leb b 65535 && leb d 65535) p (and_i (leb b 65535) (leb d 65535) q r)

  -- from no bytes, zeros
  no_sixteen : T (is_made must (Kind.arrays 16 16) Cell.missing (sixteen (sixteen_in Cell.missing)))
  unfolding within big_at big_bytes sixteen_bytes
  no_sixteen = tt

  no_four : T (is_made must (Kind.arrays 4 4) Cell.missing (four (four_in Cell.missing)))
  unfolding within big_at big_bytes
  no_four = tt

  no_profile : T (is_made must (Kind.texts 1 16) Cell.missing (string_if 16 0 (sixteen_bytes (sixteen_in Cell.missing))))
  unfolding big_at big_bytes sixteen_bytes
  no_profile = tt

  pub sixteen_made : {c : Cell} → Fair (Kind.arrays 16 16) c → T (is_made must (Kind.arrays 16 16) c (sixteen (sixteen_in c)))
  unfolding within
  sixteen_made (Fair.left k) = no_sixteen
  sixteen_made (Fair.array lo hi d t b) = rw (sixteen_again d (are_bytes_lem d b) (long 16 d t)) (and_i (is_sized 16 16 d) (are_bytes d) t b)

  pub four_made : {c : Cell} → Fair (Kind.arrays 4 4) c → T (is_made must (Kind.arrays 4 4) c (four (four_in c)))
  unfolding within
  four_made (Fair.left k) = no_four
  four_made (Fair.array lo hi d t b) = rw (four_again d (are_bytes_lem d b) (long 4 d t)) (and_i (is_sized 4 4 d) (are_bytes d) t b)

  -- a text is not asked to be of bytes: what is written for its numbers is as long, and zeros behind
  pub profile_made : {c : Cell} → Fair (Kind.texts 1 16) c → T (is_made must (Kind.texts 1 16) c (string_if 16 (word_in c) (sixteen_bytes (sixteen_in c))))
  unfolding within
  profile_made (Fair.left k) = no_profile
  profile_made (Fair.letters lo hi d t) =
      let x = sixteen_in (Cell.good (Value.string d)) in
      let n = sixteen_long x in
      let most = sized_most 1 16 d t in
      let some-there : length d ≡ 0 → ⊥ = λ e. omega (arith, sized_least 1 16 d t) in
      let same : length (take (length d) (sixteen_bytes x)) ≡ length d = length-take-le (length d) (sixteen_bytes x) (omega arith) in
      rw (ne_eqb (length d) 0 some-there)
      (and_i (tidy 16 (length d) (sixteen_bytes x)) (is_sized 1 16 (take (length d) (sixteen_bytes x)))
      (and_i (eqb (length (sixteen_bytes x)) 16) (leb (length d) 16 && are_nulls (16 - length d) (drop (length d) (sixteen_bytes x))) (rw n tt)
      (and_i (leb (length d) 16) (are_nulls (16 - length d) (drop (length d) (sixteen_bytes x))) (in_range (length d) 16 most)
      (rw (sixteen_behind d most) (zeros_same (16 - length d)))))
      (rw same t))

  -- the first of the lent bytes
  module _ (k : Kind) (t : List ℕ) where
    lent_told : (d : List ℕ) → T (within k (Value.string d)) → T (is_made must k (Cell.good (Value.string d)) (lent (length d) (d ++ t)))
    lent_told d w =
        and_i (leb (length d) (length (d ++ t)) && true) (within k (Value.string (take (length d) (d ++ t))))
        (and_i (leb (length d) (length (d ++ t))) true (in_range (length d) (length (d ++ t)) (omega (arith, length-append d t))) tt)
        (rw (take-append_seam d t) w)

  module _ (size : ℕ) (t : List ℕ) where
    pub message_made : {c : Cell} → Fair (Kind.texts 0 size) c → T (here c) → T (is_made must (Kind.texts 0 size) c (lent (word_in c) (bytes_in c ++ t)))
    unfolding within
    message_made (Fair.left k) h = absurd h
    message_made (Fair.letters lo hi d w) h = lent_told (Kind.texts 0 size) t d w

    pub data_made : {c : Cell} → Fair (Kind.arrays 0 size) c → T (here c) → T (is_made must (Kind.arrays 0 size) c (lent (word_in c) (bytes_in c ++ t)))
    unfolding within
    data_made (Fair.left k) h = absurd h
    data_made (Fair.array lo hi d w b) h = lent_told (Kind.arrays 0 size) t d (and_i (is_sized 0 size d) (are_bytes d) w b)
