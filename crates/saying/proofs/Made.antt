-- What each sort of part of a record is, made from a cell of its kind without a fault: what it says is in range, and nothing stands beside that.
-- Assumes nothing.
use mathlib.Core.{Path.sym, Path.subst, Option.Option, Option.some, Option.none}
use mathlib.Core.Bool.{Bool, true, false, not, ◌&&◌, ◌||◌}
use Prim.Native.Nat.{ℕ, suc}
use lib.Dec.{T, eqb, leb, leb-zero, leb-suc-zero}
use lib.IntN.{pos, negsuc}
use lib.Ieee.{binary32, of_bits, of_fields, odd, to_bits, size, span, climb, fits as holds}
use lib.Ieee.Fits.{and_i}
use Rattle.octets.specs.Choice.{either}
use Rattle.octets.proofs.Ranges.{true_is}
use Rattle.field.specs.Kind.{Kind, Value}
use Rattle.field.specs.Cell.{Cell, zero64, origin}
use Rattle.message.specs.Record.{word_in, figure_in, id_in, mark_in, position_in, maybe_of}
use Rattle.saying.specs.Says as Says
use Rattle.saying.specs.Says.{Part, no_bits, no_position, word, id, mark, real, real_if, mark_if, position_if, unless_zero, unless_plus_zero}
use Rattle.saying.specs.Fits.{is_real, within}
use Rattle.saying.proofs.Fair.{Fair}

-- what a part says is in range; nothing only where that is allowed
abbrev pub is_said : Bool → Kind → Option Value → Bool
is_said may k none = may
is_said may k (some v) = within k v

-- the part p is what a cell of kind k makes; where the field must be there, a value is said
abbrev pub is_made : Bool → Kind → Cell → Part → Bool
is_made must k Cell.missing p = p.clean && is_said true k p.said
is_made must k Cell.double p = false
is_made must k Cell.bad p = false
is_made must k (Cell.good v) p = p.clean && is_said (not must) k p.said

no_less : (n : ℕ) → T (leb 0 n)
no_less n = true_is (leb 0 n) (sym (leb-zero n))

not_below : {A : Type 0} (k : ℕ) → T (leb (suc k) 0) → A
not_below k t = absurd (subst T (leb-suc-zero k) t)

no_figure : T (no_bits zero64)
unfolding of_bits of_fields odd to_bits size span climb holds
no_figure = tt

zero_real : T (is_real zero64)
unfolding of_bits of_fields odd to_bits size span climb holds
zero_real = tt

no_position_lem : T (no_position origin)
no_position_lem = and_i (no_bits zero64) (no_bits zero64 && no_bits zero64) no_figure (and_i (no_bits zero64) (no_bits zero64) no_figure no_figure)

module _ (must : Bool) where
  module _ (hi : ℕ) where
    pub word_made : {c : Cell} → Fair (Kind.wholes 0 hi) c → T (is_made must (Kind.wholes 0 hi) c (word (word_in c)))
    unfolding within
    word_made (Fair.left k) = no_less hi
    word_made (Fair.number lo top (pos n) t) = t
    word_made (Fair.number lo top (negsuc n) t) = not_below n t

    pub maybe_word_made : {c : Cell} → Fair (Kind.wholes 0 hi) c → T (is_made must (Kind.wholes 0 hi) c (Says.word_if (maybe_of word_in c)))
    unfolding within
    maybe_word_made (Fair.left k) = tt
    maybe_word_made (Fair.number lo top (pos n) t) = t
    maybe_word_made (Fair.number lo top (negsuc n) t) = not_below n t

  module _ (lo hi : ℕ) where
    pub id_made : {c : Cell} → Fair (Kind.wholes lo hi) c → T (is_made must (Kind.wholes lo hi) c (id (id_in c)))
    unfolding within
    id_made (Fair.left k) = no_less hi
    id_made (Fair.number low top z t) = t

    pub maybe_id_made : {c : Cell} → Fair (Kind.wholes lo hi) c → T (is_made must (Kind.wholes lo hi) c (Says.id_if (maybe_of id_in c)))
    unfolding within
    maybe_id_made (Fair.left k) = tt
    maybe_id_made (Fair.number low top z t) = t

  pub mark_made : {c : Cell} → Fair Kind.flags c → T (is_made must Kind.flags c (mark (mark_in c)))
  unfolding within
  mark_made (Fair.left k) = tt
  mark_made (Fair.mark b) = tt

  pub real_made : {c : Cell} → Fair Kind.reals c → T (is_made must Kind.reals c (real (figure_in c)))
  unfolding within
  real_made (Fair.left k) = zero_real
  real_made (Fair.figure x t) = t

  pub maybe_real_made : {c : Cell} → Fair Kind.reals c → T (is_made must Kind.reals c (real_if (maybe_of figure_in c)))
  unfolding within
  maybe_real_made (Fair.left k) = and_i (no_bits zero64) true no_figure tt
  maybe_real_made (Fair.figure x t) = t

  pub maybe_mark_made : {c : Cell} → Fair Kind.flags c → T (is_made must Kind.flags c (mark_if (maybe_of mark_in c)))
  unfolding within
  maybe_mark_made (Fair.left k) = tt
  maybe_mark_made (Fair.mark b) = tt

  pub maybe_place_made : {c : Cell} → Fair Kind.positions c → T (is_made must Kind.positions c (position_if (maybe_of position_in c)))
  unfolding within
  maybe_place_made (Fair.left k) = and_i (no_position origin) true no_position_lem tt
  maybe_place_made (Fair.position x y z a b d) = and_i (is_real x) (is_real y && is_real z) a (and_i (is_real y) (is_real z) b d)

-- a zero that was read is not said again, and so a plus zero
pub unless_plus_zero_made : {c : Cell} → Fair Kind.singles c → T (is_made false Kind.singles c (unless_plus_zero (figure_in c)))
unfolding within
unless_plus_zero_made (Fair.left k) = go (no_bits zero64) no_figure
  where
    go : (b : Bool) → T b → T ((not b || b) && is_said true Kind.singles (either (not b) (λ _. some (Value.figure zero64)) (λ _. none)))
    go true t = tt
    go false t = absurd t
unless_plus_zero_made (Fair.narrow x r h) = go (no_bits x)
  where
    go : (b : Bool) → T ((not b || b) && is_said true Kind.singles (either (not b) (λ _. some (Value.figure x)) (λ _. none)))
    go true = tt
    go false = and_i (is_real x) (holds binary32 x) r h

pub unless_zero_made : (hi : ℕ) {c : Cell} → Fair (Kind.wholes 0 hi) c → T (is_made false (Kind.wholes 0 hi) c (unless_zero (word_in c)))
unfolding within
unless_zero_made hi (Fair.left k) = tt
unless_zero_made hi (Fair.number lo top (pos n) t) = go (eqb n 0)
  where
    go : (b : Bool) → T ((not b || b) && is_said true (Kind.wholes 0 hi) (either (not b) (λ _. some (Value.number (pos n))) (λ _. none)))
    go true = tt
    go false = t
unless_zero_made hi (Fair.number lo top (negsuc n) t) = not_below n t
