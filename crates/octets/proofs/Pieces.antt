-- A downlink's counters and data entries in lent bytes: how many bytes they take, and that what is put reads back. Each by induction on the
-- counters, the lengths or the entries. Assumes nothing.
use mathlib.Core.Path.{◌≡◌, refl, sym, ap, ap₂, ◌∙◌}
use mathlib.Core.List.{List, [], ◌∷◌, ◌++◌, append_assoc}
use Prim.Native.Nat.{ℕ, suc, ◌+◌, ◌-◌, ◌*◌, ◌^◌, ◌≤◌}
use native.Mathlib.Nat.{zero-add}
use native.Mathlib.Omega.{arith}
use lib.Dec.{T, ltb, ltb→lt}
use lib.ListN.{length, take, drop, replicate, length-append, length-drop, length-replicate, replicate-append-replicate}
use lib.Seq.{take-append_seam, drop-append_seam, take_at, drop_at, drop-drop, length-take-le}
use Rattle.octets.specs.Bytes.{little_bytes, put_at}
use Rattle.octets.specs.Pieces.{lengths_place, counters_from, cut_by, sum_of, counters_lent, lengths_lent, pieces_lent, counter_bytes, lengths_of, are_below, strung, filled_up, downlink_bytes}
use Rattle.octets.proofs.Writing.{length_put, put_then, put_again, put_apart}
use Rattle.octets.proofs.{Ranges.both_left, Ranges.both_right, Places.after, Digits.length_little, Digits.little_here}

-- how many bytes there are
pub length_counters : (cs : List ℕ) → length (counter_bytes cs) ≡ 4 * length cs
unfolding counter_bytes
length_counters [] = refl
length_counters (c ∷ cs) = omega (arith, length-append (little_bytes 4 c) (counter_bytes cs), length_little 4 c, length_counters cs)

pub length_lengths : (ds : List (List ℕ)) → length (lengths_of ds) ≡ length ds
unfolding lengths_of
length_lengths [] = refl
length_lengths (d ∷ ds) = ap suc (length_lengths ds)

pub sum_lengths : (ds : List (List ℕ)) → sum_of (lengths_of ds) ≡ length (strung ds)
unfolding sum_of lengths_of strung
sum_lengths [] = refl
sum_lengths (d ∷ ds) = omega (arith, length-append d (strung ds), sum_lengths ds)

length_filled : (n : ℕ) (d : List ℕ) → length d ≤ n → length (filled_up n d) ≡ n
length_filled n d h = omega (arith, length-append d (replicate (n - length d) 0), length-replicate {A = ℕ} (n - length d) 0)

-- the sixteen places of either are filled up
counters_filled : (cs : List ℕ) → length cs ≤ 16 → length (filled_up lengths_place (counter_bytes cs)) ≡ 64
counters_filled cs few = length_filled lengths_place (counter_bytes cs) (omega (arith, length_counters cs))

lengths_filled : (ds : List (List ℕ)) → length ds ≤ 16 → length (filled_up 16 (lengths_of ds)) ≡ 16
lengths_filled ds few = length_filled 16 (lengths_of ds) (omega (arith, length_lengths ds))

pub downlink_length : (cs : List ℕ) (ds : List (List ℕ)) → length cs ≤ 16 → length ds ≤ 16 → length (downlink_bytes cs ds) ≡ 80 + length (strung ds)
unfolding downlink_bytes
downlink_length cs ds few many =
    omega (arith, length-append (filled_up lengths_place (counter_bytes cs)) (filled_up 16 (lengths_of ds) ++ strung ds), length-append (filled_up 16 (lengths_of ds)) (strung ds), counters_filled cs few, lengths_filled ds many)

-- bytes that are cut have these lengths
pub cut_lengths : (ns d : List ℕ) → sum_of ns ≤ length d → lengths_of (cut_by ns d) ≡ ns
unfolding sum_of lengths_of cut_by
cut_lengths [] d h = refl
cut_lengths (n ∷ ns) d h =
    ap₂ (λ (m : ℕ) (l : List ℕ). m ∷ l) (length-take-le n d (omega arith)) (cut_lengths ns (drop n d) (omega (arith, length-drop n d)))

pub length_cut : (ns d : List ℕ) → sum_of ns ≤ length d → length (strung (cut_by ns d)) ≡ sum_of ns
length_cut ns d h = sym (sum_lengths (cut_by ns d)) ∙ ap sum_of (cut_lengths ns d h)

pub cut_count : (ns d : List ℕ) → length (cut_by ns d) ≡ length ns
unfolding cut_by
cut_count [] d = refl
cut_count (n ∷ ns) d = ap suc (cut_count ns (drop n d))

-- counters that stand at a place
pub counters_here : (cs s : List ℕ) (at : ℕ) (t : List ℕ) → T (are_below (2 ^ 32) cs) → drop at s ≡ counter_bytes cs ++ t → counters_from s (length cs) at ≡ cs
unfolding counters_from counter_bytes
counters_here [] s at t b e = refl
counters_here (c ∷ cs) s at t b e =
    let g = e ∙ append_assoc (little_bytes 4 c) (counter_bytes cs) t in
    let small = ltb→lt c (2 ^ 32) (both_left (ltb c (2 ^ 32)) (are_below (2 ^ 32) cs) b) in
    let next = rw (length_little 4 c) at (after s at (little_bytes 4 c) (counter_bytes cs ++ t) g) in
    ap₂ (λ (m : ℕ) (l : List ℕ). m ∷ l) (little_here 4 c small s at (counter_bytes cs ++ t) g)
    (counters_here cs s (at + 4) t (both_right (ltb c (2 ^ 32)) (are_below (2 ^ 32) cs) b) next)

cut_back : (ds : List (List ℕ)) (t : List ℕ) → cut_by (lengths_of ds) (strung ds ++ t) ≡ ds
unfolding cut_by lengths_of strung
cut_back [] t = refl
cut_back (d ∷ ds) t =
    rw (append_assoc d (strung ds) t, take-append_seam d (strung ds ++ t), drop-append_seam d (strung ds ++ t), cut_back ds t)

-- what is put reads back
module _ (cs : List ℕ) (ds : List (List ℕ)) (t : List ℕ) where
  pub counters_back : T (are_below (2 ^ 32) cs) → counters_lent (length cs) (downlink_bytes cs ds ++ t) ≡ cs
  unfolding downlink_bytes
  counters_back b =
      counters_here cs (downlink_bytes cs ds ++ t) 0
      (replicate (lengths_place - length (counter_bytes cs)) 0 ++ (filled_up 16 (lengths_of ds) ++ (strung ds ++ t))) b (simp append_assoc)

  module _ (few : length cs ≤ 16) where
    at_lengths : drop lengths_place (downlink_bytes cs ds ++ t) ≡ lengths_of ds ++ (replicate (16 - length (lengths_of ds)) 0 ++ (strung ds ++ t))
    unfolding downlink_bytes
    at_lengths =
        ap (drop lengths_place) (append_assoc (filled_up lengths_place (counter_bytes cs)) (filled_up 16 (lengths_of ds) ++ strung ds) t)
        ∙ drop_at (filled_up lengths_place (counter_bytes cs)) ((filled_up 16 (lengths_of ds) ++ strung ds) ++ t) lengths_place (counters_filled cs few)
        ∙ simp append_assoc

    pub lengths_back : lengths_lent (length ds) (downlink_bytes cs ds ++ t) ≡ lengths_of ds
    lengths_back =
        ap (take (length ds)) at_lengths
        ∙ take_at (lengths_of ds) (replicate (16 - length (lengths_of ds)) 0 ++ (strung ds ++ t)) (length ds) (length_lengths ds)

    pub pieces_back : length ds ≤ 16 → pieces_lent (length ds) (downlink_bytes cs ds ++ t) ≡ ds
    pieces_back many =
        ap₂ cut_by lengths_back
        (sym (drop-drop 16 64 (downlink_bytes cs ds ++ t)) ∙ ap (drop 16) at_lengths
        ∙ ap (drop 16) (sym (append_assoc (lengths_of ds) (replicate (16 - length (lengths_of ds)) 0) (strung ds ++ t)))
        ∙ drop_at (filled_up 16 (lengths_of ds)) (strung ds ++ t) 16 (lengths_filled ds many))
        ∙ cut_back ds t

-- zeros, and other bytes over the first of them
put_filled : (d : List ℕ) (at n : ℕ) (vs : List ℕ) → length vs ≤ n → at + n ≤ length d → put_at (put_at d at (replicate n 0)) at vs ≡ put_at d at (filled_up n vs)
put_filled d at n vs h g =
    let a : List ℕ = replicate (length vs) 0 in
    let b : List ℕ = replicate (n - length vs) 0 in
    let i : length a ≡ length vs = length-replicate (length vs) 0 in
    let j : length b ≡ n - length vs = length-replicate (n - length vs) 0 in
    let k : length vs + (n - length vs) ≡ n = omega arith in
    ap (λ (z : List ℕ). put_at (put_at d at z) at vs) (sym (replicate-append-replicate (length vs) (n - length vs) 0 ∙ ap (λ (m : ℕ). replicate m 0) k))
    ∙ ap (λ (z : List ℕ). put_at z at vs) (sym (put_then d at a b (omega arith)))
    ∙ put_apart (put_at d at a) at vs (at + length a) b (omega arith) (omega (arith, length_put d at a))
    ∙ ap (λ (z : List ℕ). put_at z (at + length a) b) (put_again d at a vs i (omega arith))
    ∙ ap (λ (m : ℕ). put_at (put_at d at vs) (at + m) b) i
    ∙ put_then d at vs b (omega arith)

-- the way that they are put: zeros in all places, then counters, lengths and entries
pub downlink_put : (d cs : List ℕ) (ds : List (List ℕ)) → length cs ≤ 16 → length ds ≤ 16 → 80 + length (strung ds) ≤ length d
    → put_at (put_at (put_at (put_at d 0 (replicate 80 0)) 0 (counter_bytes cs)) 64 (lengths_of ds)) 80 (strung ds) ≡ put_at d 0 (downlink_bytes cs ds)
unfolding downlink_bytes
downlink_put d cs ds few many h =
    let C = filled_up 64 (counter_bytes cs) in
    let L = filled_up 16 (lengths_of ds) in
    let z : List ℕ = replicate 64 0 in
    let y : List ℕ = replicate 16 0 in
    let i : 0 + length C ≡ 64 = zero-add (length C) ∙ counters_filled cs few in
    let j : length L ≡ 16 = lengths_filled ds many in
    ap (λ (r : List ℕ). put_at (put_at (put_at r 0 (counter_bytes cs)) 64 (lengths_of ds)) 80 (strung ds)) (sym (put_then d 0 z y (omega arith)))
    ∙ ap (λ (r : List ℕ). put_at (put_at r 64 (lengths_of ds)) 80 (strung ds))
    (put_apart (put_at d 0 z) 0 (counter_bytes cs) 64 y (omega (arith, length_counters cs)) (omega (arith, length_put d 0 z))
    ∙ ap (λ (r : List ℕ). put_at r 64 y) (put_filled d 0 64 (counter_bytes cs) (omega (arith, length_counters cs)) (omega arith)))
    ∙ ap (λ (r : List ℕ). put_at r 80 (strung ds))
    (put_filled (put_at d 0 C) 64 16 (lengths_of ds) (omega (arith, length_lengths ds)) (omega (arith, length_put d 0 C))
    ∙ ap (λ (m : ℕ). put_at (put_at d 0 C) m L) (sym i) ∙ put_then d 0 C L (omega arith))
    ∙ ap (λ (m : ℕ). put_at (put_at d 0 (C ++ L)) m (strung ds)) (sym (ap (λ (k : ℕ). 0 + k) (length-append C L) ∙ omega arith))
    ∙ put_then d 0 (C ++ L) (strung ds) (omega (arith, length-append C L))
    ∙ ap (put_at d 0) (append_assoc C L (strung ds))
