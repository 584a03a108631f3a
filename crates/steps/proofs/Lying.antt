-- The code's test of a session's bytes is the definition's. And the state in the bytes is the session's, the entry at a place of them that of the list.
-- Assumes nothing.
use mathlib.Core.Path.{◌≡◌, sym, ap, ap₂, ◌∙◌}
use mathlib.Core.Bool.{Bool, false, not, ◌&&◌}
use mathlib.Core.List.{List}
use Prim.Native.Nat.{ℕ, zero, suc, ◌+◌, ◌-◌, ◌*◌, ◌≤◌, ◌<◌}
use native.Mathlib.Numerals.{add-one}
use native.Mathlib.Omega.{arith}
use lib.{Dec.eqb, Dec.ltb, Seq.drop-cons, Seq.take_all}
use lib.ListN.{length, get_or, take, drop, drop_of_length-le, length-drop}
use borrow.Author.Tests.{eq-eqb, ne_eqb}
use Rattle.octets.specs.Bytes.{IsBytes}
use Rattle.session.specs.Place.{entry, no_entry}
use Rattle.session.specs.Image.{state_of, id_at, entries_at, session_at, are_zeros, is_session}
use Rattle.session.proofs.Image.{tested}
use Rattle.steps.specs.Code.Lies.{Lies}
use Rattle.steps.proofs.Tests.{set_is, and_assoc, and-true}

-- ok says that the bytes passed so far are zeros; those from i on are left
module _ (d : List ℕ) (i : ℕ) (ok : Bool) (e : ok && are_zeros (drop i d) ≡ are_zeros d) where
  pub zeros_next : i < length d → (ok && eqb (get_or d i 0) 0) && are_zeros (drop (i + 1) d) ≡ are_zeros d
  unfolding are_zeros
  zeros_next h =
      and_assoc ok (eqb (get_or d i 0) 0) (are_zeros (drop (i + 1) d))
      ∙ ap (λ (k : ℕ). ok && (eqb (get_or d i 0) 0 && are_zeros (drop k d))) (add-one i)
      ∙ ap (λ (l : List ℕ). ok && are_zeros l) (sym (drop-cons d i 0 h)) ∙ e

  pub zeros_end : length d ≤ i → ok ≡ are_zeros d
  unfolding are_zeros
  zeros_end h = sym (and-true ok) ∙ ap (λ (l : List ℕ). ok && are_zeros l) (sym (drop_of_length-le d h)) ∙ e

pub session_test : (d : List ℕ) (z : Bool) → length d ≡ 368 → z ≡ are_zeros (take (length d - 346) (drop 346 d)) → (ltb (get_or d 344 0) 3 && ltb (get_or d 345 0) 2) && z ≡ is_session d
unfolding is_session
session_test d z long e =
    and_assoc (ltb (get_or d 344 0) 3) (ltb (get_or d 345 0) 2) z
    ∙ ap (λ (x : Bool). ltb (get_or d 344 0) 3 && (ltb (get_or d 345 0) 2 && x)) (e ∙ ap are_zeros (take_all (length d - 346) (drop 346 d) (omega (arith, length-drop 346 d)))) ∙ sym (simp (eq-eqb (length d) 368 long))

pub session_short : (d : List ℕ) → (length d ≡ 368 → ⊥) → false ≡ is_session d
unfolding is_session
session_short d h = sym (simp (ne_eqb (length d) 368 h))

-- what the test told
pub lies : (d : List ℕ) (b : Bool) → b ≡ is_session d → not b ≡ false → IsBytes d → Lies d
lies d b e h bytes = record { is = sym e ∙ set_is b h; bytes = bytes }

pub told_long : (d : List ℕ) (b : Bool) → b ≡ is_session d → not b ≡ false → length d ≡ 368
told_long d b e h = (tested d (sym e ∙ set_is b h)).long

-- the state, and the entry at a place
pub state_is : (d : List ℕ) (x : ℕ) → get_or d 344 0 ≡ x → (session_at d).state ≡ state_of x
unfolding session_at
state_is d x e = ap state_of e

pub entry_at : (d : List ℕ) (ids kinds n i : ℕ) → i < n → get_or (entries_at d ids kinds n) i no_entry ≡ entry (id_at d (ids + 8 * i)) (get_or d (kinds + i) 0)
unfolding entries_at
entry_at d ids kinds zero i h = absurd (omega arith)
entry_at d ids kinds (suc n) zero h =
    let e : ids ≡ ids + 8 * 0 = omega arith in
    let f : kinds ≡ kinds + 0 = omega arith in
    ap₂ (λ (a b : ℕ). entry (id_at d a) (get_or d b 0)) e f
entry_at d ids kinds (suc n) (suc i) h =
    let e : ids + 8 + 8 * i ≡ ids + 8 * suc i = omega arith in
    let f : kinds + 1 + i ≡ kinds + suc i = omega arith in
    entry_at d (ids + 8) (kinds + 1) n i (omega arith) ∙ ap₂ (λ (a b : ℕ). entry (id_at d a) (get_or d b 0)) e f
