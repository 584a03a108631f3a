-- A dlDataQue that may be written: its data entries have places and are lent, and have at most 800 bytes together; its prio is a number. By the fields that fit.
-- Assumes nothing.
use mathlib.Core.{Path.◌≡◌, Path.refl, Path.sym, Bool.Bool, Bool.true, Bool.false, Bool.not, Bool.◌&&◌}
use mathlib.Core.List.{List}
use Prim.Native.Nat.{ℕ, suc, ◌+◌, ◌^◌, ◌≤◌, ◌<◌}
use native.Mathlib.Omega.{arith}
use lib.{IntN.ℤ, IntN.pos, IntN.negsuc, Signed.mag, Dec.T, Dec.lit<, Dec.eqb, Dec.leb, Dec.leb→le, ListN.length, ListN.drop, ListN.length-drop}
use lib.Ieee.{Float, nan, inf, fin, binary32, binary64, is_nan, to_bits, fits as holds}
use Rattle.octets.specs.Pieces.{sum_of, lengths_lent, pieces_lent, are_lent, strung}
use borrow.Author.Tests.{eqb-true}
use Rattle.octets.proofs.{Ranges.is_true, Ranges.true_false, Ranges.both_left, Ranges.both_right, Pieces.length_cut}
use Rattle.octets.proofs.Truth.{both}
use Rattle.field.specs.{Kind.Kind, Kind.Value, Kind.unsigned8, Judge.in_range}
use Rattle.message.specs.Fields.{may, fields_of, lists, list_in}
use Rattle.number.specs.Number.{finite}
use Rattle.saying.specs.{Says.part_in, Says.unless_zero, Says.said_if, Says.no_bits, Says.unless_plus_zero, Fits.is_real, Fits.are_pieces, Fits.within, Fits.field_fits}
use Rattle.record.specs.declared.{DlDataQue.DlDataQue, Body.Body}
use Rattle.record.specs.{Says.body_sayings, Says.sayings_of, Fits.fits}
use Rattle.record.proofs.{Faultless.each_fits, Downlinks.lent_few, Downlinks.lent_long}
use Rattle.saying.proofs.Shown.{AllFit}
use Rattle.layout.specs.Image.{body_lies, dl_data_que_lies}
use Rattle.layout.proofs.Back.{Held}

-- a value has room where it lies
whole_small : (z : ℤ) → T (in_range 0x8000000000000000 0x7FFFFFFFFFFFFFFF z) → mag z < 2 ^ 63
whole_small (pos n) t = omega (arith, leb→le n 0x7FFFFFFFFFFFFFFF t)
whole_small (negsuc k) t = omega (arith, leb→le (suc k) 0x8000000000000000 t)

format_small : (n : ℕ) → T (field_fits (may "format" unsigned8) (unless_zero n)) → n < 256
unfolding within
format_small n t = go (eqb n 0) refl t
  where
    go : (b : Bool) → eqb n 0 ≡ b → T (field_fits (may "format" unsigned8) (said_if (not b) (Value.number (pos n)) b)) → n < 256
    go true e t = omega (arith, eqb-true n 0 e)
    go false e t = omega (arith, leb→le n 0xFF t)

-- a real that may be written is a number
plain_number : (x : Float) → no_bits x ≡ true → is_nan x ≡ false
unfolding to_bits is_nan
plain_number nan e = true_false (sym e)
plain_number (inf s) e = refl
plain_number (fin s m e) h = refl

real_number : (x : Float) → T (is_real x) → is_nan x ≡ false
unfolding to_bits is_nan
real_number nan t = absurd t
real_number (inf s) t = refl
real_number (fin s m e) t = refl

prio_held : (x : Float) → T (field_fits (may "prio" Kind.singles) (unless_plus_zero x)) → (holds binary64 x ≡ true) × (is_nan x ≡ false)
unfolding within
prio_held x t = go (no_bits x) refl t
  where
    go : (b : Bool) → no_bits x ≡ b → T (field_fits (may "prio" Kind.singles) (said_if (not b) (Value.figure x) b)) → (holds binary64 x ≡ true) × (is_nan x ≡ false)
    go true e t = ((both (eqb (to_bits binary64 x) 0) (holds binary64 x) e).1, plain_number x e)
    go false e t =
        let r = both_left (is_real x) (holds binary32 x) t in
        (sym (is_true (holds binary64 x) (both_right (finite binary64 (to_bits binary64 x)) (holds binary64 x) r)), real_number x r)

module _ (z : ℤ) (x : DlDataQue) (d : List ℕ) (fit : fits (record { op_id = z; body = Body.DlDataQue x }) d ≡ true) where
  -- the field of the data entries
  entries_fit : T ((are_lent x.entries d && true) && within (Kind.pieces 16 245 800) (Value.strings (pieces_lent x.entries d)))
  unfolding lists list_in part_in sayings_of body_sayings
  entries_fit = (each_fits (record { op_id = z; body = Body.DlDataQue x }) d fit).1.1.1.1.1.1.0

  lent : T (are_lent x.entries d)
  lent = both_left (are_lent x.entries d) true (both_left (are_lent x.entries d && true) _ entries_fit)

  pub entries_few : x.entries ≤ 16
  entries_few = lent_few x.entries d lent

  pub entries_lent : 80 + sum_of (lengths_lent x.entries d) ≤ length d
  entries_lent = lent_long x.entries d lent

  pub entries_together : sum_of (lengths_lent x.entries d) ≤ 800
  unfolding within
  entries_together =
      let ps = pieces_lent x.entries d in
      let counts = leb (length ps) 16 && leb (length (strung ps)) 800 in
      let bounds = both_left counts (are_pieces 245 ps) (both_right (are_lent x.entries d && true) (counts && are_pieces 245 ps) entries_fit) in
      omega (
        arith,
        leb→le (length (strung ps)) 800 (both_right (leb (length ps) 16) (leb (length (strung ps)) 800) bounds),
        length_cut (lengths_lent x.entries d) (drop 80 d) (omega (arith, length-drop 80 d, entries_lent)),
      )

  -- each of its values has room where it lies
  all : AllFit (sayings_of (record { op_id = z; body = Body.DlDataQue x }) d) (fields_of 21)
  all = each_fits (record { op_id = z; body = Body.DlDataQue x }) d fit

  pub prio_real : (holds binary64 x.prio ≡ true) × (is_nan x.prio ≡ false)
  unfolding lists list_in part_in sayings_of body_sayings within
  prio_real = prio_held x.prio all.1.1.1.1.1.1.1.1.0

  pub held : Held (record { op_id = z; body = Body.DlDataQue x })
  unfolding body_lies dl_data_que_lies lists list_in part_in sayings_of body_sayings within
  held = record {
    own = tt;
    widths = (whole_small z all.1.0, (lit< tt, (eui, (id, (prio_real.0, (few, (format, (tt, (tt, (tt, (tt, (tt, (tt, (tt, (tt, (tt, tt))))))))))))))));
  }
    where
      eui : x.ep_eui < 256 ^ 8
      eui = omega (arith, leb→le x.ep_eui 0xFFFFFFFFFFFFFFFF all.1.1.0)

      id : x.que_id < 256 ^ 8
      id = omega (arith, leb→le x.que_id 0xFFFFFFFFFFFFFFFF all.1.1.1.0)

      few : x.entries < 256
      few = omega (arith, entries_few)

      format : x.format < 256
      format = format_small x.format all.1.1.1.1.1.1.1.0
