-- The identifier on the bytes present, as the code tests it: two lists agree exactly where what both have is the same, and bytes are the same
-- exactly where the numbers that they write are. Assumes nothing.
use mathlib.Core.Path.{◌≡◌, refl, sym, ap, ap₂, ◌∙◌}
use mathlib.Core.{Bool.Bool, Bool.true, Bool.false, List.List, List.[], List.◌∷◌}
use Prim.Native.Nat.{ℕ, ◌-◌, ◌*◌, ◌/◌, ◌^◌, ◌≤◌, ◌<◌}
use native.Mathlib.Nat.{zero-add}
use native.Mathlib.Omega.{arith}
use lib.{Dec.eqb, Dec.eqb→eq, Dec.lit≤, ListN.length, ListN.take, Seq.take-nil, Seq.take_all, Seq.take-length}
use borrow.Author.Tests.{eq-eqb, eqb-true}
use Rattle.octets.specs.{Choice.either, Number.big_at, Number.if_there, Bytes.IsBytes}
use Rattle.octets.proofs.Ranges.{are_bytes_lem, ranged, same_test, true_false}
use Rattle.octets.proofs.{Places.cons_head, Places.cons_tail, Places.big_part, Digits.big_same, Reading.Told, Reading.is_bytes, Reading.if_there_lem}
use Rattle.frame.specs.Frame.{identifier, agrees}

-- what both have is the same
pub agree_all : (l s : List ℕ) → take (length s) l ≡ take (length l) s → agrees l s ≡ true
unfolding agrees
agree_all [] s e = refl
agree_all (b ∷ l) [] e = refl
agree_all (b ∷ l) (x ∷ s) e =
    simp (eq-eqb b x (cons_head b x (take (length s) l) (take (length l) s) e))
    (agree_all l s (cons_tail b x (take (length s) l) (take (length l) s) e))

kept : (t : Bool) (k : Unit {0} → Bool) → either t k (λ _. false) ≡ true → (t ≡ true) × (k tt ≡ true)
kept true k e = (refl, e)
kept false k e = true_false (sym e)

pub all_agree : (l s : List ℕ) → agrees l s ≡ true → take (length s) l ≡ take (length l) s
unfolding agrees
all_agree [] s e = take-nil (length s)
all_agree (b ∷ l) [] e = refl
all_agree (b ∷ l) (x ∷ s) e =
    let k = kept (eqb b x) (λ _. agrees l s) e in
    ap₂ (λ (c : ℕ) (r : List ℕ). c ∷ r) (eqb-true b x k.0) (all_agree l s k.1)

-- the same by numbers, where m is how many both have
module _ (l s : List ℕ) (lb : IsBytes l) (sb : IsBytes s) (m : ℕ) (hl : m ≤ length l) (hs : m ≤ length s) (cl : take (length s) l ≡ take m l) (cs : take (length l) s ≡ take m s) where
  to_number : take m s ≡ take m l → big_at s 0 m ≡ big_at l 0 m
  to_number e =
      big_part s 0 m (rw zero-add hs) ∙ ap (λ (d : List ℕ). big_at d 0 m) e ∙ sym (big_part l 0 m (rw zero-add hl))

  of_number : big_at s 0 m ≡ big_at l 0 m → take m s ≡ take m l
  of_number e = big_same s l sb lb 0 0 m (rw zero-add hs) (rw zero-add hl) e

  by_number : eqb (big_at s 0 m) (big_at l 0 m) ≡ agrees l s
  by_number =
      same_test (eqb (big_at s 0 m) (big_at l 0 m)) (agrees l s)
      (λ e. agree_all l s (cl ∙ sym (of_number (eqb-true (big_at s 0 m) (big_at l 0 m) e)) ∙ sym cs))
      (λ e. eq-eqb (big_at s 0 m) (big_at l 0 m) (to_number (sym cs ∙ sym (all_agree l s e) ∙ cl)))

pub identifier_bytes : IsBytes identifier
unfolding identifier
identifier_bytes = are_bytes_lem identifier tt

-- the code's constants are the identifier's numbers
start : ℕ → Bool
start n = eqb (0x4D_494F_5459_4230 / 2 ^ (56 - 8 * n)) (big_at identifier 0 n)

starts : (n : ℕ) → n < 8 → 0x4D_494F_5459_4230 / 2 ^ (56 - 8 * n) ≡ big_at identifier 0 n
unfolding start identifier big_at
starts n h = eqb→eq _ _ (ranged start 0 8 tt n (omega arith) (omega arith))

whole : 0x4D49_4F54_5942_3031 ≡ big_at identifier 0 8
unfolding identifier big_at
whole = refl

module _ (s : List ℕ) (told : Told s) (r : ℕ) where
  pub agree_short : (k : ℕ) → k ≤ 8 → length s < k → r ≡ if_there s 0 (length s) (big_at s 0 (length s)) → eqb r (0x4D_494F_5459_4230 / 2 ^ (56 - 8 * length s)) ≡ agrees identifier s
  unfolding identifier
  agree_short k g h e =
      let n = length s in
      rw (e, if_there_lem s 0 n (big_at s 0 n) (omega arith) (omega arith), starts n (omega arith))
      (by_number identifier s identifier_bytes (is_bytes s told) n (omega arith) (omega arith) refl (take_all 8 s (omega arith) ∙ sym (take-length s)))

  pub agree_long : 8 ≤ length s → r ≡ if_there s 0 8 (big_at s 0 8) → eqb r 0x4D49_4F54_5942_3031 ≡ agrees identifier s
  unfolding identifier
  agree_long h e =
      rw (e, if_there_lem s 0 8 (big_at s 0 8) (omega arith) (omega arith), whole)
      (by_number identifier s identifier_bytes (is_bytes s told) 8 (omega arith) h (take_all (length s) identifier h) refl)

pub ruleset agreements = (agree_short, agree_long, lit≤)
