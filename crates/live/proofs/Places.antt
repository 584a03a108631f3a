-- The sessions of 64 stations lie one behind the other: one that is put back stands there, the others are as they were, and so is the length. Assumes nothing.
use mathlib.Core.Path.{◌≡◌, refl, sym, ap, subst, ◌∙◌}
use mathlib.Core.Bool.{Bool, true, false}
use mathlib.Core.List.{List, [], ◌∷◌, ◌++◌}
use Prim.Native.Nat.{ℕ, zero, suc, ◌+◌, ◌*◌, ◌<◌}
use native.Mathlib.Omega.{arith}
use lib.{Dec.ltb, Dec.lit<}
use lib.ListN.{length, get_or, take, drop, length-drop}
use lib.Seq.{drop-drop, get_or-take, get_or-drop, length-take-le, take_at, ext_get_or}
use borrow.Author.Tests.{ltb-true, ltb-false}
use Rattle.octets.specs.Bytes.{IsBytes, put_at}
use Rattle.octets.proofs.Writing.{put_in, put_stands, length_put, stays_before, stays_behind}
use Rattle.play.specs.Centre.{session_of, with_session}

-- a station's part has its bytes
pub part_long : (d : List ℕ) → length d ≡ 23552 → (j : ℕ) → j < 64 → length (session_of d j) ≡ 368
part_long d l j h = length-take-le 368 (drop (368 * j) d) (omega (arith, length-drop (368 * j) d))

pub part_byte : (d : List ℕ) (j i : ℕ) → i < 368 → get_or (session_of d j) i 0 ≡ get_or d (368 * j + i) 0
part_byte d j i h = get_or-take 368 (drop (368 * j) d) i 0 h ∙ get_or-drop (368 * j) d i 0

take_bytes : (n : ℕ) (d : List ℕ) → IsBytes d → IsBytes (take n d)
take_bytes zero d b k = lit< tt
take_bytes (suc n) [] b k = lit< tt
take_bytes (suc n) (x ∷ d) b zero = b 0
take_bytes (suc n) (x ∷ d) b (suc k) = take_bytes n d (λ i. b (suc i)) k

pub part_bytes : (d : List ℕ) → IsBytes d → (j : ℕ) → IsBytes (session_of d j)
part_bytes d b j = take_bytes 368 (drop (368 * j) d) (λ i. subst (λ (x : ℕ). x < 256) (sym (get_or-drop (368 * j) d i 0)) (b (368 * j + i)))

-- u is d with v for station k's session
pub record Put (d : List ℕ) (k : ℕ) (v u : List ℕ) : Type 0 where
  pub long : length u ≡ 23552
  pub own : session_of u k ≡ v
  pub other : (j : ℕ) → j < 64 → (j ≡ k → ⊥) → session_of u j ≡ session_of d j

pub as_it_was : (d : List ℕ) → length d ≡ 23552 → (k : ℕ) → Put d k (session_of d k) d
as_it_was d l k = record { long = l; own = refl; other = λ j h o. refl }

module _ (d : List ℕ) (l : length d ≡ 23552) (k : ℕ) (h : k < 64) (v : List ℕ) (n : length v ≡ 368) (u : List ℕ) (e : u ≡ with_session d k v) where
  is_put : u ≡ put_at d (368 * k) v
  is_put =
      e ∙ ap (λ (x : List ℕ). take (368 * k) d ++ (v ++ x)) (drop-drop 368 (368 * k) d ∙ ap (λ (j : ℕ). drop (368 * k + j) d) (sym n))
      ∙ sym (put_in d (368 * k) v (omega arith))

  put_long : length u ≡ 23552
  put_long = ap length is_put ∙ length_put d (368 * k) v ∙ l

  put_own : session_of u k ≡ v
  put_own =
      ap (λ (x : List ℕ). session_of x k) is_put
      ∙ ap (take 368) (put_stands d (368 * k) v (omega arith)) ∙ take_at v (drop (368 * k + length v) d) 368 n

  put_other : (j : ℕ) → j < 64 → (j ≡ k → ⊥) → session_of u j ≡ session_of d j
  put_other j g o =
      ext_get_or 0 (session_of u j) (session_of d j) (part_long u put_long j g ∙ sym (part_long d l j g))
      (λ i m. let f : i < 368 = omega (arith, part_long u put_long j g) in
      part_byte u j i f ∙ ap (λ (x : List ℕ). get_or x (368 * j + i) 0) is_put ∙ go (ltb j k) refl i f ∙ sym (part_byte d j i f))
    where
      go : (t : Bool) → ltb j k ≡ t → (i : ℕ) → i < 368 → get_or (put_at d (368 * k) v) (368 * j + i) 0 ≡ get_or d (368 * j + i) 0
      go true f i m = stays_before d (368 * k) v (368 * j + i) (omega (arith, ltb-true j k f))
      go false f i m = stays_behind d (368 * k) v (368 * j + i) (omega (arith, ltb-false j k f))

  pub put_back : Put d k v u
  put_back = record { long = put_long; own = put_own; other = put_other }
