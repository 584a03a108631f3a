-- Places among names, once for any list of distinct names: u is the name at k exactly if u's place is k, and no place is past the end.
-- By induction on the list; that the keys and the commands are distinct is one computed test of each. Assumes nothing.
use mathlib.Core.Path.{◌≡◌, refl, sym, ap, ◌∙◌}
use mathlib.Core.Bool.{Bool, true, false, not, ◌&&◌}
use mathlib.Core.List.{List, [], ◌∷◌}
use Prim.Native.Nat.{ℕ, zero, suc, ◌≤◌, ◌<◌}
use native.Mathlib.Nat.{le_of_suc-le-suc, not-suc-le-zero}
use native.Mathlib.Omega.{arith}
use lib.Dec.{T, eqb, eqb-zero-suc, eqb-suc-zero, eqb-suc-suc, lit≤}
use lib.ListN.{length}
use borrow.Author.Tests.{eqb-true}
use Rattle.octets.specs.Choice.{either}
use Rattle.octets.proofs.Ranges.{is_false, both_left, both_right}
use Rattle.names.specs.Names.{commands, same_bytes, place_in, name_at, command_of}
use Rattle.names.specs.Code.Slots.{keys, slot_of}
use Rattle.names.proofs.Same.{same_refl, same_eq}

-- u is none of the names
abbrev pub fresh : List ℕ → List (List ℕ) → Bool
fresh u [] = true
fresh u (n ∷ ns) = not (same_bytes n u) && fresh u ns

abbrev pub distinct : List (List ℕ) → Bool
distinct [] = true
distinct (n ∷ ns) = fresh n ns && distinct ns

fresh_at : (u : List ℕ) (ns : List (List ℕ)) → T (fresh u ns) → (k : ℕ) → k < length ns → same_bytes (name_at ns k) u ≡ false
unfolding name_at
fresh_at u [] t k h = absurd (not-suc-le-zero h)
fresh_at u (n ∷ ns) t zero h = sym (is_false (same_bytes n u) (both_left (not (same_bytes n u)) (fresh u ns) t))
fresh_at u (n ∷ ns) t (suc k) h =
    fresh_at u ns (both_right (not (same_bytes n u)) (fresh u ns) t) k (le_of_suc-le-suc h)

here : (b : Bool) (p : ℕ) → b ≡ eqb (either b (λ _. 0) (λ _. suc p)) 0
here true p = refl
here false p = sym (eqb-suc-zero p)

later : (b s : Bool) (p k : ℕ) → s ≡ eqb p k → (b ≡ true → s ≡ false) → s ≡ eqb (either b (λ _. 0) (λ _. suc p)) (suc k)
later true s p k e f = f refl ∙ sym (eqb-zero-suc k)
later false s p k e f = e ∙ sym (eqb-suc-suc p k)

pub below : (b : Bool) (p n : ℕ) → p ≤ n → either b (λ _. 0) (λ _. suc p) ≤ suc n
below true p n h = omega arith
below false p n h = omega arith

pub place_is : (names : List (List ℕ)) → T (distinct names) → (u : List ℕ) (k : ℕ) → k < length names → same_bytes (name_at names k) u ≡ eqb (place_in names u) k
unfolding place_in name_at
place_is [] t u k h = absurd (not-suc-le-zero h)
place_is (n ∷ ns) t u zero h = here (same_bytes n u) (place_in ns u)
place_is (n ∷ ns) t u (suc k) h =
    let l : k < length ns = le_of_suc-le-suc h in
    later (same_bytes n u) (same_bytes (name_at ns k) u) (place_in ns u) k
    (place_is ns (both_right (fresh n ns) (distinct ns) t) u k l)
    (λ e. ap (same_bytes (name_at ns k)) (sym (same_eq n u e)) ∙ fresh_at n ns (both_left (fresh n ns) (distinct ns) t) k l)

pub place_name : (names : List (List ℕ)) → T (distinct names) → (k : ℕ) → k < length names → place_in names (name_at names k) ≡ k
place_name names t k h =
    let u = name_at names k in
    eqb-true (place_in names u) k (sym (place_is names t u k h) ∙ same_refl u)

pub place_small : (names : List (List ℕ)) (u : List ℕ) → place_in names u ≤ length names
unfolding place_in
place_small [] u = lit≤ tt
place_small (n ∷ ns) u = below (same_bytes n u) (place_in ns u) (length ns) (place_small ns u)

pub slot_is : (u : List ℕ) (k : ℕ) → k < 55 → same_bytes (name_at keys k) u ≡ eqb (slot_of u) k
unfolding slot_of keys
slot_is u k h = place_is keys tt u k h

pub slot_key : (k : ℕ) → k < 55 → slot_of (name_at keys k) ≡ k
unfolding slot_of keys
slot_key k h = place_name keys tt k h

pub slot_small : (u : List ℕ) → slot_of u ≤ 55
unfolding slot_of keys
slot_small u = place_small keys u

pub command_is : (u : List ℕ) (k : ℕ) → k < 24 → same_bytes (name_at commands k) u ≡ eqb (command_of u) k
unfolding command_of commands
command_is u k h = place_is commands tt u k h

pub command_name : (k : ℕ) → k < 24 → command_of (name_at commands k) ≡ k
unfolding command_of commands
command_name k h = place_name commands tt k h

pub command_small : (u : List ℕ) → command_of u ≤ 24
unfolding command_of commands
command_small u = place_small commands u

pub ruleset named = (slot_is, slot_key, slot_small, command_is, command_name, command_small)
