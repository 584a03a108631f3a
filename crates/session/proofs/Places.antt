-- The places of one side: the first that passes a test is among them and passes it, none before it does; a table keeps its length; taking a free
-- place opens one entry more, and freeing one that is open leaves one fewer. By induction over the places. Assumes nothing.
use mathlib.Core.{Path.◌≡◌, Path.refl, Path.ap, Bool.Bool, Bool.true, Bool.false, List.List, List.[], List.◌∷◌, Option.some}
use Prim.Native.Nat.{ℕ, zero, suc, ◌+◌, ◌-◌, ◌≤◌, ◌<◌}
use native.Mathlib.Omega.{arith}
use lib.ListN.{length, set, get_or}
use Rattle.octets.specs.Choice.{either}
use Rattle.octets.proofs.Truth.{some_is, none_some}
use Rattle.session.specs.Session.{Entry}
use Rattle.session.specs.Place.{is_free, no_entry, first_from, open_in}

-- where the first that passes stands
module _ (f : Entry → Bool) where
  pub first_passes : (t : List Entry) (i j : ℕ) → first_from f i t ≡ some j → (i ≤ j) × (j < i + length t) × (f (get_or t (j - i) no_entry) ≡ true)
  unfolding first_from
  first_passes [] i j e = none_some e
  first_passes (x ∷ t) i j e = go (f x) refl e (first_passes t (suc i) j)
    where
      go : (b : Bool) → f x ≡ b → either b (λ _. some i) (λ _. first_from f (suc i) t) ≡ some j
          → (first_from f (suc i) t ≡ some j → (suc i ≤ j) × (j < suc i + length t) × (f (get_or t (j - suc i) no_entry) ≡ true))
          → (i ≤ j) × (j < i + suc (length t)) × (f (get_or (x ∷ t) (j - i) no_entry) ≡ true)
      go true p e rest =
          let q = some_is e in
          let z : j - i ≡ 0 = omega arith in
          (omega arith, omega arith, rw z p)
      go false p e rest =
          let r = rest e in
          let z : j - i ≡ suc (j - suc i) = omega (arith, r.0) in
          (omega (arith, r.0), omega (arith, r.1), rw z r.2)

-- one entry more, one fewer
pub open_taken : (t : List Entry) (i : ℕ) (e : Entry) → i < length t → is_free (get_or t i no_entry) ≡ true → is_free e ≡ false → open_in (set t i e) ≡ suc (open_in t)
open_taken [] i e h p q = absurd (omega arith)
open_taken (x ∷ t) zero e h p q = rw (p, q)
open_taken (x ∷ t) (suc i) e h p q = go (is_free x) (open_taken t i e (omega arith) p q)
  where
    go : (b : Bool) → open_in (set t i e) ≡ suc (open_in t) → either b (λ _. open_in (set t i e)) (λ _. suc (open_in (set t i e))) ≡ suc (either b (λ _. open_in t) (λ _. suc (open_in t)))
    go true r = r
    go false r = ap suc r

pub open_freed : (t : List Entry) (i : ℕ) → i < length t → is_free (get_or t i no_entry) ≡ false → suc (open_in (set t i no_entry)) ≡ open_in t
open_freed [] i h p = absurd (omega arith)
open_freed (x ∷ t) zero h p = rw p
open_freed (x ∷ t) (suc i) h p = go (is_free x) (open_freed t i (omega arith) p)
  where
    go : (b : Bool) → suc (open_in (set t i no_entry)) ≡ open_in t → suc (either b (λ _. open_in (set t i no_entry)) (λ _. suc (open_in (set t i no_entry)))) ≡ either b (λ _. open_in t) (λ _. suc (open_in t))
    go true r = r
    go false r = ap suc r

pub open_few : (t : List Entry) → open_in t ≤ length t
open_few [] = omega arith
open_few (x ∷ t) = go (is_free x) (open_few t)
  where
    go : (b : Bool) → open_in t ≤ length t → either b (λ _. open_in t) (λ _. suc (open_in t)) ≤ suc (length t)
    go true r = omega arith
    go false r = omega arith
