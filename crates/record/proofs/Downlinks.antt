-- dlDataQue: its counters and data entries are read back from the cells that are shown for them, and those made from cells without a fault stand in the
-- bytes that are lent. The rule between cntDepend and the counts says the same of cells and of the record. Assumes nothing.
use mathlib.Core.Path.{◌≡◌, refl, sym, ap, ap₂, subst, ◌∙◌}
use mathlib.Core.Bool.{Bool, true, false, not, ◌&&◌}
use mathlib.Core.List.{List, [], ◌++◌}
use Prim.Native.Nat.{ℕ, ◌+◌, ◌^◌, ◌≤◌}
use native.Mathlib.Omega.{arith}
use lib.Dec.{T, eqb, leb, leb→le, eqb→eq}
use lib.Ieee.Fits.{and_i}
use lib.ListN.{length, drop, length-append, length-drop}
use lib.Seq.{length-take-le}
use borrow.Author.Tests.{le-leb, eq-eqb}
use Rattle.octets.specs.Choice.{either}
use Rattle.octets.specs.Pieces.{pieces_place, lengths_place, sum_of, are_below, are_lent, counters_lent, lengths_lent, pieces_lent, strung, downlink_bytes}
use Rattle.octets.proofs.Pieces.{sum_lengths, downlink_length, cut_count, counters_back, lengths_back, pieces_back}
use Rattle.octets.proofs.Ranges.{both_left, both_right, is_true, true_is, true_false}
use Rattle.forms.proofs.Downlinks.{counters_length}
use Rattle.names.specs.Names.{bytes}
use Rattle.field.specs.{Kind.Kind, Kind.Value, Cell.Cell, Cell.here}
use Rattle.message.specs.Record.{word_in, mark_in}
use Rattle.message.specs.Reading.{is_valid, counts_agree, is_miscounted}
use Rattle.saying.specs.{Says.counts_if, Says.strings, Fits.are_pieces, Fits.within}
use Rattle.saying.proofs.{Fair.Fair, Made.is_made, Shown.Shown, Parts.always_back, Parts.Stands, Parts.maybe_back, Parts.Stands.there, Parts.Stands.absent}
use Rattle.record.specs.declared.DlDataQue.{DlDataQue}
use Rattle.record.specs.{Record.counts_in, Record.strings_in, Says.tested, Says.is_counted}
use Rattle.record.proofs.Parts.{untested, passed}

-- entries that are lent: they have places, their bytes are there, and so many they are
module _ (n : ℕ) (d : List ℕ) (t : T (are_lent n d)) where
  pub lent_few : n ≤ 16
  lent_few = leb→le n 16 (both_left (leb n 16) (leb (pieces_place + sum_of (lengths_lent n d)) (length d)) t)

  pub lent_long : 80 + sum_of (lengths_lent n d) ≤ length d
  lent_long = leb→le (pieces_place + sum_of (lengths_lent n d)) (length d) (both_right (leb n 16) (leb (pieces_place + sum_of (lengths_lent n d)) (length d)) t)

  pub entries_lent : length (pieces_lent n d) ≡ n
  entries_lent =
      cut_count (lengths_lent n d) (drop pieces_place d)
      ∙ length-take-le n (drop lengths_place d) (omega (arith, length-drop lengths_place d, lent_few, lent_long))

-- the cell of the data entries
pub record Entered (n : ℕ) (d : List ℕ) (c : Cell) : Type 0 where
  pub is : strings_in c ≡ pieces_lent n d
  pub count : word_in c ≡ n
  pub given : here c ≡ true

pub entries_shown : {many most all : ℕ} (n : ℕ) (d : List ℕ) {c : Cell} → Shown (Kind.pieces many most all) (tested (are_lent n d) (strings (pieces_lent n d))) c → Entered n d c
entries_shown {many} {most} {all} n d s =
    let e = always_back (Kind.pieces many most all) (Value.strings (pieces_lent n d)) (untested (are_lent n d) (strings (pieces_lent n d)) s) in
    let k = entries_lent n d (passed (are_lent n d) (strings (pieces_lent n d)) s) in
    record { is = ap strings_in e; count = ap word_in e ∙ k; given = ap here e }

-- the cell of the counters
pub record Counted (h : Bool) (n : ℕ) (d : List ℕ) (c : Cell) : Type 0 where
  pub is : counts_in c ≡ either h (λ _. counters_lent n d) (λ _. [])
  pub count : word_in c ≡ either h (λ _. n) (λ _. 0)
  pub given : here c ≡ h
  pub valid : is_valid c ≡ true

pub counters_shown : {many : ℕ} (b h : Bool) (n : ℕ) (d : List ℕ) {c : Cell} → Shown (Kind.counters many) (tested b (counts_if h (counters_lent n d))) c → Counted h n d c
counters_shown {many} b h n d {c} s = go (maybe_back (Kind.counters many) (Value.counts (counters_lent n d)) true h c (untested b (counts_if h (counters_lent n d)) s))
  where
    go : {h : Bool} {c : Cell} → Stands (Kind.counters many) (Value.counts (counters_lent n d)) true h c → Counted h n d c
    go there = record { is = refl; count = counters_length d n 0; given = refl; valid = refl }
    go (absent t) = record { is = refl; count = refl; given = refl; valid = refl }

-- the rule: what a record that passes it says agrees
module _ (look : List ℕ → Cell) (x : DlDataQue) (d : List ℕ) (depends : mark_in (look (bytes "cntDepend")) ≡ x.cnt_depend) where
  pub counted : T (is_counted x) → Counted x.cnt_depend x.entries d (look (bytes "packetCnt")) → Entered x.entries d (look (bytes "userData")) → is_miscounted look ≡ false
  counted t cs es = rw (agree x.cnt_depend refl t) (none (here (look (bytes "cntDepend"))) (is_valid (look (bytes "packetCnt"))) (here (look (bytes "userData"))))
    where
      none : (a b c : Bool) → a && (b && (c && false)) ≡ false
      none false b c = refl
      none true false c = refl
      none true true false = refl
      none true true true = refl

      agree : (h : Bool) → x.cnt_depend ≡ h → T (either h (λ _. leb 1 x.entries) (λ _. eqb x.entries 1)) → counts_agree look ≡ true
      agree true e t = rw (depends, cs.given, cs.count, es.count, e, eq-eqb x.entries x.entries refl) (sym (is_true (leb 1 x.entries) t))
      agree false e t = rw (depends, cs.given, es.count, e) (sym (is_true (eqb x.entries 1) t))

-- cells without a fault that agree: as many counters as entries, or one entry alone
pub record Lawful (ds : List (List ℕ)) : Type 0 where
  pub few : length ds ≤ 16
  pub together : length (strung ds) ≤ 800
  pub bounds : T (within (Kind.pieces 16 245 800) (Value.strings ds))

pub data Agreed : Bool → Cell → Cell → Type 0 where
  by_counter : (ns : List ℕ) (ds : List (List ℕ)) → T (leb (length ns) 16) → T (are_below (2 ^ 32) ns) → Lawful ds → length ns ≡ length ds → T (leb 1 (length ds))
      → Agreed true (Cell.good (Value.counts ns)) (Cell.good (Value.strings ds))
  alone : (ds : List (List ℕ)) → Lawful ds → length ds ≡ 1 → Agreed false Cell.missing (Cell.good (Value.strings ds))

lawful : (ds : List (List ℕ)) → T (leb (length ds) 16 && leb (length (strung ds)) 800) → T (are_pieces 245 ds) → Lawful ds
unfolding within
lawful ds t u = record {
  few = leb→le (length ds) 16 (both_left (leb (length ds) 16) (leb (length (strung ds)) 800) t);
  together = leb→le (length (strung ds)) 800 (both_right (leb (length ds) 16) (leb (length (strung ds)) 800) t);
  bounds = and_i (leb (length ds) 16 && leb (length (strung ds)) 800) (are_pieces 245 ds) t u;
}

abbrev agreeing : Bool → Cell → Cell → Bool
agreeing h p u =
    either h (λ _. here p && (eqb (word_in p) (word_in u) && leb 1 (word_in u))) (λ _. not (here p) && eqb (word_in u) 1)

agreed_by : (h : Bool) {p u : Cell} → Fair (Kind.counters 16) p → Fair (Kind.pieces 16 245 800) u → T (here u) → T (agreeing h p u) → Agreed h p u
agreed_by h f (Fair.left k) g t = absurd g
agreed_by true (Fair.left k) (Fair.strings many most all ds t u) g q = absurd q
agreed_by true (Fair.counts many ns a b) (Fair.strings m most all ds t u) g q =
    by_counter ns ds a b (lawful ds t u) (eqb→eq (length ns) (length ds) (both_left (eqb (length ns) (length ds)) (leb 1 (length ds)) q))
    (both_right (eqb (length ns) (length ds)) (leb 1 (length ds)) q)
agreed_by false (Fair.left k) (Fair.strings many most all ds t u) g q = alone ds (lawful ds t u) (eqb→eq (length ds) 1 q)
agreed_by false (Fair.counts many ns a b) (Fair.strings m most all ds t u) g q = absurd q

module _ (look : List ℕ → Cell) where
  fair_valid : {p : Cell} → Fair (Kind.counters 16) p → is_valid p ≡ true
  fair_valid (Fair.left k) = refl
  fair_valid (Fair.counts many ns a b) = refl

  pub agreed : Fair (Kind.counters 16) (look (bytes "packetCnt")) → Fair (Kind.pieces 16 245 800) (look (bytes "userData")) → T (here (look (bytes "cntDepend")))
      → T (here (look (bytes "userData"))) → is_miscounted look ≡ false → Agreed (mark_in (look (bytes "cntDepend"))) (look (bytes "packetCnt")) (look (bytes "userData"))
  agreed f g d u e = agreed_by (mark_in (look (bytes "cntDepend"))) f g u (go (counts_agree look) (sym (same (counts_agree look)) ∙ e))
    where
      same : (b : Bool) → here (look (bytes "cntDepend")) && (is_valid (look (bytes "packetCnt")) && (here (look (bytes "userData")) && not b)) ≡ not b
      same b = rw (← is_true (here (look (bytes "cntDepend"))) d, fair_valid f, ← is_true (here (look (bytes "userData"))) u)

      go : (b : Bool) → not b ≡ false → T b
      go true e = tt
      go false e = true_false e

-- both parts are made from them, and stand in what is lent
module _ (t : List ℕ) where
  abbrev held : List ℕ → List (List ℕ) → List ℕ
  held ns ds = downlink_bytes ns ds ++ t

  module _ (ns : List ℕ) (ds : List (List ℕ)) (some-few : length ns ≤ 16) (l : Lawful ds) where
    lent_whole : T (are_lent (length ds) (held ns ds))
    lent_whole =
        let e = lengths_back ns ds t some-few in
        and_i (leb (length ds) 16) (leb (pieces_place + sum_of (lengths_lent (length ds) (held ns ds))) (length (held ns ds)))
        (true_is (leb (length ds) 16) (sym (le-leb (length ds) 16 l.few)))
        (rw (e, sum_lengths ds)
        (true_is (leb (80 + length (strung ds)) (length (held ns ds)))
        (sym (le-leb (80 + length (strung ds)) (length (held ns ds)) (omega (arith, length-append (downlink_bytes ns ds) t, downlink_length ns ds some-few l.few))))))

    entries_by : (must : Bool)
        → T (is_made must (Kind.pieces 16 245 800) (Cell.good (Value.strings ds)) (tested (are_lent (length ds) (held ns ds)) (strings (pieces_lent (length ds) (held ns ds)))))
    entries_by must =
        let lent = are_lent (length ds) (held ns ds) in
        let v = Value.strings (pieces_lent (length ds) (held ns ds)) in
        and_i (lent && true) (within (Kind.pieces 16 245 800) v) (and_i lent true lent_whole tt)
        (subst (λ (es : List (List ℕ)). T (within (Kind.pieces 16 245 800) (Value.strings es))) (sym (pieces_back ns ds t some-few l.few)) l.bounds)

    short_by : length (downlink_bytes ns ds) ≤ 880
    short_by = omega (arith, downlink_length ns ds some-few l.few, l.together)

  few_counters : (ns : List ℕ) → T (leb (length ns) 16) → length ns ≤ 16
  few_counters ns a = leb→le (length ns) 16 a

  pub entries_made : (must : Bool) {h : Bool} {p u : Cell} → Agreed h p u
      → T (is_made must (Kind.pieces 16 245 800) u (tested (are_lent (word_in u) (held (counts_in p) (strings_in u))) (strings (pieces_lent (word_in u) (held (counts_in p) (strings_in u))))))
  entries_made must (by_counter ns ds a b l e k) = entries_by ns ds (few_counters ns a) l must
  entries_made must (alone ds l e) = entries_by [] ds (omega arith) l must

  pub counters_made : (must : Bool) {h : Bool} {p u : Cell} → Agreed h p u
      → T (is_made must (Kind.counters 16) p (tested (either h (λ _. leb 1 (word_in u)) (λ _. eqb (word_in u) 1)) (counts_if h (counters_lent (word_in u) (held (counts_in p) (strings_in u))))))
  unfolding within
  counters_made must (by_counter ns ds a b l e k) =
      rw (← is_true (leb 1 (length ds)) k, ← e, counters_back ns ds t b) (and_i (leb (length ns) 16) (are_below (2 ^ 32) ns) a b)
  counters_made must (alone ds l e) = rw (eq-eqb (length ds) 1 e) tt

  pub downlink_lends : {h : Bool} {p u : Cell} → Agreed h p u
      → (downlink_bytes (either h (λ _. counters_lent (word_in u) (held (counts_in p) (strings_in u))) (λ _. [])) (pieces_lent (word_in u) (held (counts_in p) (strings_in u)))
      ≡ downlink_bytes (counts_in p) (strings_in u)) × (length (downlink_bytes (counts_in p) (strings_in u)) ≤ 880)
  downlink_lends (by_counter ns ds a b l e k) = (
    ap₂ downlink_bytes (ap (λ (n : ℕ). counters_lent n (held ns ds)) (sym e) ∙ counters_back ns ds t b) (pieces_back ns ds t (few_counters ns a) l.few),
    short_by ns ds (few_counters ns a) l,
  )
  downlink_lends (alone ds l e) = (ap (downlink_bytes []) (pieces_back [] ds t (omega arith) l.few), short_by [] ds (omega arith) l)
