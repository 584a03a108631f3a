-- What lent bytes say of a downlink turns on the bytes in use alone: with others behind them they are the same counters, lengths and data entries, so the same
-- entry, which may be written or not as before. Assumes nothing.
use mathlib.Core.{Path.◌≡◌, Path.refl, Path.sym, Path.ap₂, Path.◌∙◌, Bool.true, List.List, List.[], List.◌∷◌, List.◌++◌}
use Prim.Native.Nat.{ℕ, zero, suc, ◌+◌, ◌*◌, ◌≤◌}
use native.Mathlib.Omega.{arith}
use lib.{IntN.ℤ, ListN.length, ListN.drop, ListN.length-append, ListN.length-drop, ListN.get_or-append}
use lib.Seq.{take-append-le, drop-append-le}
use borrow.Author.Tests.{le-leb}
use Rattle.octets.specs.{Choice.either}
use Rattle.octets.specs.Pieces.{counters_from, cut_by, sum_of, counters_lent, lengths_lent, pieces_lent, are_lent}
use Rattle.octets.proofs.Places.{same_little}
use Rattle.names.specs.Names.{commands, name_at}
use Rattle.message.specs.Fields.{fields_of}
use Rattle.saying.specs.Says.{says, id, string, part_in}
use Rattle.record.specs.declared.{DlDataQue.DlDataQue, Body.Body}
use Rattle.record.specs.{Says.body_sayings, Says.sayings_of, Fits.first_fault, Fits.fault_in}
use Rattle.queue.specs.{Store.entry_of}

-- bytes c with others behind them
module _ (c t : List ℕ) where
  counters_stay : (n p : ℕ) → p + 4 * n ≤ length c → counters_from (c ++ t) n p ≡ counters_from c n p
  unfolding counters_from
  counters_stay zero p h = refl
  counters_stay (suc n) p h =
      ap₂ (λ (x : ℕ) (l : List ℕ). x ∷ l) (same_little (c ++ t) c p p 4 (λ k l. get_or-append c t 0 (p + k) (omega arith))) (counters_stay n (p + 4) (omega arith))

  pub lengths_stay : (n : ℕ) → 64 + n ≤ length c → lengths_lent n (c ++ t) ≡ lengths_lent n c
  lengths_stay n h = rw (drop-append-le 64 c t (omega arith), take-append-le n (drop 64 c) t (omega (arith, length-drop 64 c)))

cut_stays : (ns c t : List ℕ) → sum_of ns ≤ length c → cut_by ns (c ++ t) ≡ cut_by ns c
unfolding cut_by sum_of
cut_stays [] c t h = refl
cut_stays (n ∷ ns) c t h =
    rw (take-append-le n c t (omega arith), drop-append-le n c t (omega arith), cut_stays ns (drop n c) t (omega (arith, length-drop n c)))

-- n entries whose bytes are all in c
module _ (n : ℕ) (c : List ℕ) (few : n ≤ 16) (enough : 80 + sum_of (lengths_lent n c) ≤ length c) where
  pub same_counters : (t : List ℕ) → counters_lent n (c ++ t) ≡ counters_lent n c
  same_counters t = counters_stay c t n 0 (omega arith)

  pub same_lengths : (t : List ℕ) → lengths_lent n (c ++ t) ≡ lengths_lent n c
  same_lengths t = lengths_stay c t n (omega arith)

  pub same_pieces : (t : List ℕ) → pieces_lent n (c ++ t) ≡ pieces_lent n c
  same_pieces t = rw (same_lengths t, drop-append-le 80 c t (omega arith)) (cut_stays (lengths_lent n c) (drop 80 c) t (omega (arith, length-drop 80 c)))

  pub same_lent : (t : List ℕ) → are_lent n (c ++ t) ≡ true
  same_lent t = rw (same_lengths t, le-leb n 16 few, length-append c t, le-leb (80 + sum_of (lengths_lent n c)) (length c + length t) (omega arith))

-- the same bytes in use, with others behind them
module _ (x : DlDataQue) (c : List ℕ) (few : x.entries ≤ 16) (enough : 80 + sum_of (lengths_lent x.entries c) ≤ length c) (t u : List ℕ) where
  pub same_entry : entry_of x (c ++ t) ≡ entry_of x (c ++ u)
  same_entry =
      let a = same_counters x.entries c few enough t ∙ sym (same_counters x.entries c few enough u) in
      let b = same_lengths x.entries c few enough t ∙ sym (same_lengths x.entries c few enough u) in
      let p = same_pieces x.entries c few enough t ∙ sym (same_pieces x.entries c few enough u) in
      λ i. record { asks = x; counters = either x.cnt_depend (λ _. a i) (λ _. []); lengths = b i; pieces = p i }

  same_sayings : body_sayings (Body.DlDataQue x) (c ++ t) ≡ body_sayings (Body.DlDataQue x) (c ++ u)
  unfolding body_sayings
  same_sayings =
      rw (
        same_counters x.entries c few enough t,
        same_counters x.entries c few enough u,
        same_pieces x.entries c few enough t,
        same_pieces x.entries c few enough u,
        same_lent x.entries c few enough t,
        same_lent x.entries c few enough u,
      )

  pub same_fault : (z : ℤ) → fault_in (record { op_id = z; body = Body.DlDataQue x }) (c ++ t) ≡ fault_in (record { op_id = z; body = Body.DlDataQue x }) (c ++ u)
  unfolding fault_in sayings_of
  same_fault z = λ i. first_fault 0 (fields_of 21) (part_in (says "command" (string (name_at commands 21)) ∷ (says "opId" (id z) ∷ same_sayings i)))
