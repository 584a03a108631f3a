-- A record without a fault has none with more bytes lent behind those that are: no part of it looks at them. Assumes nothing.
use mathlib.Core.Path.{◌≡◌, refl, sym, ◌∙◌}
use mathlib.Core.Bool.{Bool, true, false, ◌&&◌, and-true}
use mathlib.Core.List.{List, [], ◌∷◌, ◌++◌}
use Prim.Native.Nat.{ℕ, suc, ◌+◌, ◌^◌, ◌≤◌}
use native.Mathlib.Omega.{arith}
use lib.{Dec.T, Dec.leb, Dec.leb→le, Ieee.Fits.and_i, Pow.are_bytes}
use lib.ListN.{length, take, drop, length-append, length-drop}
use lib.Seq.{length-take-le, take-append-le, drop-append-le}
use borrow.Author.Tests.{le-leb}
use Rattle.octets.specs.{Choice.either, Bytes.IsBytes}
use Rattle.octets.specs.Pieces.{cut_by, sum_of, counters_lent, lengths_lent, pieces_lent, are_lent, are_below}
use Rattle.octets.proofs.Ranges.{is_true, both_left, both_right}
use Rattle.forms.proofs.Downlinks.{counters_length}
use Rattle.names.specs.Names.{same_bytes}
use Rattle.field.specs.Kind.{Kind, Value}
use Rattle.message.specs.Fields.{Field, fields_of}
use Rattle.saying.specs.{Says.Part, Says.Saying, Says.counts_if, Says.strings, Says.part_in, Fits.is_sized, Fits.within, Fits.field_fits}
use Rattle.record.specs.declared.{Body.Body, Message.Message}
use Rattle.record.specs.{Record.command_in, Says.tested, Says.lent, Says.is_counted, Says.body_sayings, Says.sayings_of, Fits.first_fault, Fits.fault_in}
use Rattle.record.proofs.Downlinks.{lent_few, lent_long}
use Rattle.faults.proofs.{Parts.take_bytes, Downlinks.counters_below}

-- q fits every field that p fits
abbrev Better : Part → Part → Type 0
Better p q = (f : Field) → T (field_fits f p) → T (field_fits f q)

-- where each part is better there is no new fault
one_field : (t u : Bool) (a b n : ℕ) → (T t → T u) → (a ≡ 0 → b ≡ 0) → either t (λ _. a) (λ _. suc n) ≡ 0 → either u (λ _. b) (λ _. suc n) ≡ 0
one_field true u a b n h k e = rw (sym (is_true u (h tt))) (k e)
one_field false u a b n h k e = absurd (omega arith)

no_fault : (i : ℕ) (l : List Field) (p q : List ℕ → Part) → ((k : List ℕ) → Better (p k) (q k)) → first_fault i l p ≡ 0 → first_fault i l q ≡ 0
unfolding first_fault
no_fault i [] p q better e = refl
no_fault i (f ∷ l) p q better e =
    one_field (field_fits f (p f.key)) (field_fits f (q f.key)) (first_fault (suc i) l p) (first_fault (suc i) l q) i
    (better f.key f) (no_fault (suc i) l p q better) e

-- rows whose parts are better
data Rows : List Saying → List Saying → Type 0 where
  same : (rs : List Saying) → Rows rs rs
  kept : (r : Saying) {rs ss : List Saying} → Rows rs ss → Rows (r ∷ rs) (r ∷ ss)
  more : (k : List ℕ) (p q : Part) {rs ss : List Saying} → Better p q → Rows rs ss → Rows (record { key = k; part = p } ∷ rs) (record { key = k; part = q } ∷ ss)

one_row : (t : Bool) (p q u v : Part) → Better p q → Better u v → Better (either t (λ _. p) (λ _. u)) (either t (λ _. q) (λ _. v))
one_row true p q u v a b = a
one_row false p q u v a b = b

in_rows : {rs ss : List Saying} → Rows rs ss → (k : List ℕ) → Better (part_in rs k) (part_in ss k)
unfolding part_in
in_rows (same rs) k = λ f t. t
in_rows (kept r {rs} {ss} x) k = one_row (same_bytes r.key k) r.part r.part (part_in rs k) (part_in ss k) (λ f t. t) (in_rows x k)
in_rows (more u p q {rs} {ss} b x) k = one_row (same_bytes u k) p q (part_in rs k) (part_in ss k) b (in_rows x k)

-- bytes in place of as many others
in_place : (k : Kind) (a b : List ℕ) → length a ≡ length b → are_bytes b ≡ true → T (within k (Value.string a)) → T (within k (Value.string b))
unfolding within
in_place (Kind.arrays lo hi) a b e y t = rw (← e, y, and-true) (both_left (is_sized lo hi a) (are_bytes a) t)
in_place (Kind.texts lo hi) a b e y t = rw (← e) t
in_place Kind.words a b e y t = tt
in_place (Kind.wholes _ _) a b e y t = elim t [ ]
in_place Kind.reals a b e y t = elim t [ ]
in_place Kind.singles a b e y t = elim t [ ]
in_place Kind.flags a b e y t = elim t [ ]
in_place Kind.positions a b e y t = elim t [ ]
in_place (Kind.counters _) a b e y t = elim t [ ]
in_place (Kind.pieces _ _ _) a b e y t = elim t [ ]
in_place Kind.versions a b e y t = elim t [ ]
in_place Kind.maps a b e y t = elim t [ ]

-- counters in place of as many others
counters_place : (k : Kind) (a b : List ℕ) → length a ≡ length b → are_below (2 ^ 32) b ≡ true → T (within k (Value.counts a)) → T (within k (Value.counts b))
unfolding within
counters_place (Kind.counters many) a b e y t = rw (← e, y, and-true) (both_left (leb (length a) many) (are_below (2 ^ 32) a) t)
counters_place (Kind.wholes _ _) a b e y t = elim t [ ]
counters_place Kind.reals a b e y t = elim t [ ]
counters_place Kind.singles a b e y t = elim t [ ]
counters_place Kind.flags a b e y t = elim t [ ]
counters_place Kind.positions a b e y t = elim t [ ]
counters_place (Kind.arrays _ _) a b e y t = elim t [ ]
counters_place (Kind.pieces _ _ _) a b e y t = elim t [ ]
counters_place (Kind.texts _ _) a b e y t = elim t [ ]
counters_place Kind.versions a b e y t = elim t [ ]
counters_place Kind.words a b e y t = elim t [ ]
counters_place Kind.maps a b e y t = elim t [ ]

cut_stays : (ns d t : List ℕ) → sum_of ns ≤ length d → cut_by ns (d ++ t) ≡ cut_by ns d
unfolding cut_by sum_of
cut_stays [] d t h = refl
cut_stays (n ∷ ns) d t h =
    rw (take-append-le n d t (omega arith), drop-append-le n d t (omega arith), cut_stays ns (drop n d) t (omega (arith, length-drop n d)))

-- n data entries that are lent are the same with more bytes behind them
module _ (n : ℕ) (d t : List ℕ) (lent : T (are_lent n d)) where
  long : 80 + sum_of (lengths_lent n d) ≤ length d
  long = lent_long n d lent

  lengths_stay : lengths_lent n (d ++ t) ≡ lengths_lent n d
  lengths_stay = rw (drop-append-le 64 d t (omega (arith, long)), take-append-le n (drop 64 d) t (omega (arith, length-drop 64 d, lent_few n d lent, long)))

  pieces_stay : pieces_lent n (d ++ t) ≡ pieces_lent n d
  pieces_stay = rw (lengths_stay, drop-append-le 80 d t (omega (arith, long))) (cut_stays (lengths_lent n d) (drop 80 d) t (omega (arith, length-drop 80 d, long)))

  still_lent : T (are_lent n (d ++ t))
  still_lent =
      rw (lengths_stay, le-leb n 16 (lent_few n d lent), length-append d t, le-leb (80 + sum_of (lengths_lent n d)) (length d + length t) (omega (arith, long))) tt

-- with bytes t behind those that are lent
module _ (d t : List ℕ) (bytes : IsBytes (d ++ t)) where
  lent_better : (n : ℕ) → Better (lent n d) (lent n (d ++ t))
  lent_better n f s =
      let few = leb→le n (length d) (both_left (leb n (length d)) true (both_left (leb n (length d) && true) (within f.kind (Value.string (take n d))) s)) in
      let enough : n ≤ length (d ++ t) = omega (arith, length-append d t) in
      rw (le-leb n (length (d ++ t)) enough)
      (in_place f.kind (take n d) (take n (d ++ t)) (length-take-le n d few ∙ sym (length-take-le n (d ++ t) enough)) (take_bytes n (d ++ t) bytes)
      (both_right (leb n (length d) && true) (within f.kind (Value.string (take n d))) s))

  counters_better : (b h : Bool) (n : ℕ) → Better (tested b (counts_if h (counters_lent n d))) (tested b (counts_if h (counters_lent n (d ++ t))))
  counters_better b false n f s = s
  counters_better b true n f s =
      let clean = b && true in
      and_i clean (within f.kind (Value.counts (counters_lent n (d ++ t)))) (both_left clean (within f.kind (Value.counts (counters_lent n d))) s)
      (counters_place f.kind (counters_lent n d) (counters_lent n (d ++ t)) (counters_length d n 0 ∙ sym (counters_length (d ++ t) n 0)) (counters_below (d ++ t) bytes n 0)
      (both_right clean (within f.kind (Value.counts (counters_lent n d))) s))

  pieces_better : (n : ℕ) → Better (tested (are_lent n d) (strings (pieces_lent n d))) (tested (are_lent n (d ++ t)) (strings (pieces_lent n (d ++ t))))
  pieces_better n f s =
      let there = both_left (are_lent n d) true (both_left (are_lent n d && true) (within f.kind (Value.strings (pieces_lent n d))) s) in
      rw (pieces_stay n d t there, ← is_true (are_lent n (d ++ t)) (still_lent n d t there))
      (both_right (are_lent n d && true) (within f.kind (Value.strings (pieces_lent n d))) s)

  body_rows : (b : Body) → Rows (body_sayings b d) (body_sayings b (d ++ t))
  unfolding body_sayings
  body_rows (Body.Con x) = same _
  body_rows (Body.ConRsp x) = same _
  body_rows (Body.StatusRsp x) = kept _ (more _ _ _ (lent_better x.message_len) (same _))
  body_rows (Body.Det x) = same _
  body_rows (Body.DetRsp sign) = same _
  body_rows (Body.AttPrp x) = same _
  body_rows (Body.DetPrp eui) = same _
  body_rows (Body.UlData x) =
      kept _ (kept _ (kept _ (kept _ (kept _ (kept _ (kept _ (kept _ (more _ _ _ (lent_better x.user_len) (same _)))))))))
  body_rows (Body.DlDataQue x) =
      kept _ (kept _ (kept _ (more _ _ _ (counters_better (is_counted x) x.cnt_depend x.entries) (more _ _ _ (pieces_better x.entries) (same _)))))
  body_rows (Body.Bare c) = same _

  pub longer : (m : Message) → fault_in m d ≡ 0 → fault_in m (d ++ t) ≡ 0
  unfolding fault_in sayings_of
  longer m =
      no_fault 0 (fields_of (command_in m.body)) (part_in (sayings_of m d)) (part_in (sayings_of m (d ++ t)))
      (in_rows (kept _ (kept _ (body_rows m.body))))
