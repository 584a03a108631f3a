-- dlDataQue's counters, data entries and priority: which test decides whether the field fits. Assumes nothing.
use mathlib.Core.Path.{◌≡◌, refl, sym}
use mathlib.Core.Bool.{Bool, true, false, not, ◌&&◌, and-true, and-false, and_comm}
use mathlib.Core.List.{List, [], ◌∷◌}
use Prim.Native.Nat.{ℕ, zero, suc, ◌+◌, ◌^◌, ◌≤◌}
use native.Mathlib.Nat.{zero-add}
use native.Mathlib.Omega.{arith}
use lib.{Dec.eqb, Dec.leb, Ieee.Float}
use lib.ListN.{length, drop, length-drop}
use lib.Seq.{length-take-le, get_or-drop}
use borrow.Author.Tests.{leb-true, lt-ltb}
use Rattle.octets.specs.{Choice.either, Bytes.IsBytes, Number.little_at}
use Rattle.octets.specs.Pieces.{counters_from, counters_lent, cut_by, sum_of, lengths_lent, pieces_lent, are_lent, are_below, strung}
use Rattle.octets.proofs.{Pieces.length_cut, Widths.little_below}
use Rattle.forms.proofs.Downlinks.{counters_length}
use Rattle.field.specs.Kind.{Kind, Value}
use Rattle.saying.specs.{Says.no_bits, Says.said_if, Says.counts_if, Says.unless_plus_zero, Fits.are_pieces, Fits.within, Fits.field_fits}
use Rattle.record.specs.declared.DlDataQue.{DlDataQue}
use Rattle.record.specs.Says.{tested, is_counted}
use Rattle.record.proofs.Downlinks.{entries_lent}
use Rattle.faults.specs.Code.Tests.{is_single, counts_fit, pieces_fit}
use Rattle.faults.proofs.{Parts.take_bytes, Reals.zero_single, Lengths.are_short, Lengths.fit_by}

-- counters
pub counters_below : (d : List ℕ) → IsBytes d → (n p : ℕ) → are_below (2 ^ 32) (counters_from d n p) ≡ true
unfolding counters_from
counters_below d b zero p = refl
counters_below d b (suc n) p = rw (lt-ltb (little_at d p 4) (2 ^ 32) (little_below d b p 4)) (counters_below d b n (p + 4))

pub counters_in : (k : List ℕ) (x : DlDataQue) (d : List ℕ) → IsBytes d
    → field_fits (record { key = k; must = false; kind = Kind.counters 16 }) (tested (is_counted x) (counts_if x.cnt_depend (counters_lent x.entries d))) ≡ counts_fit x.cnt_depend x.entries
unfolding counts_fit within
counters_in k x d b = go x.cnt_depend
  where
    n : ℕ
    n = x.entries

    go : (h : Bool) → field_fits (record { key = k; must = false; kind = Kind.counters 16 }) (tested (either h (λ _. leb 1 n) (λ _. eqb n 1)) (counts_if h (counters_lent n d)))
        ≡ either h (λ _. leb 1 n && leb n 16) (λ _. eqb n 1)
    go true = rw (counters_length d n 0, counters_below d b n 0, and-true, and-true)
    go false = rw (and-true, and-true)

-- data entries
bytes_behind : (n : ℕ) (d : List ℕ) → IsBytes d → IsBytes (drop n d)
-- data entries
bytes_behind n d b k = rw get_or-drop (b (n + k))

cut_in : (ns d : List ℕ) → IsBytes d → sum_of ns ≤ length d → are_pieces 245 (cut_by ns d) ≡ are_short ns
unfolding are_pieces cut_by sum_of
cut_in [] d b h = refl
cut_in (n ∷ ns) d b h =
    rw (take_bytes n d b, length-take-le n d (omega arith), and-true, cut_in ns (drop n d) (bytes_behind n d b) (omega (arith, length-drop n d)))

pub pieces_in_lem : (n : ℕ) (d : List ℕ) → IsBytes d → ((are_lent n d && true) && within (Kind.pieces 16 245 800) (Value.strings (pieces_lent n d))) ≡ pieces_fit n d
unfolding pieces_fit within
pieces_in_lem n d b = rw (fit_by ns 0 (length d), zero-add) (go (leb n 16) (leb (80 + sum_of ns) (length d)) refl refl)
  where
    ns : List ℕ
    ns = lengths_lent n d

    many : Bool
    many = leb (length (pieces_lent n d)) 16 && leb (length (strung (pieces_lent n d))) 800

    go : (f l : Bool) → leb n 16 ≡ f → leb (80 + sum_of ns) (length d) ≡ l
        → (((f && l) && true) && (many && are_pieces 245 (pieces_lent n d))) ≡ (f && (are_short ns && (leb (sum_of ns) 800 && l)))
    go false l e g = refl
    go true false e g = rw (and-false, and-false)
    go true true e g =
        let there : sum_of ns ≤ length (drop 80 d) = omega (arith, length-drop 80 d, leb-true (80 + sum_of ns) (length d) g) in
        rw (entries_lent n d (rw (e, g) tt), e, length_cut ns (drop 80 d) there, cut_in ns (drop 80 d) (bytes_behind 80 d b) there, and-true)
        (and_comm (leb (sum_of ns) 800) (are_short ns))

-- a priority
pub prio_in : (k : List ℕ) (x : Float) → field_fits (record { key = k; must = false; kind = Kind.singles }) (unless_plus_zero x) ≡ is_single x
unfolding within is_single
prio_in k x = go (no_bits x) refl
  where
    go : (z : Bool) → no_bits x ≡ z → field_fits (record { key = k; must = false; kind = Kind.singles }) (said_if (not z) (Value.figure x) z) ≡ is_single x
    go true e = sym (zero_single x (rw e tt))
    go false e = refl
