-- Reading undoes writing, and writing undoes reading: a number that is written is read, bytes that are read are those that write their number,
-- and so a number has one form. Each by induction on how many groups there may be. Assumes nothing.
use mathlib.Core.Path.{◌≡◌, refl, sym, ap, ap₂, subst, ◌∙◌}
use mathlib.Core.{Bool.Bool, Bool.true, Bool.false}
use mathlib.Core.List.{List, [], ◌∷◌, ◌++◌}
use Prim.Native.Nat.{ℕ, zero, suc, ◌+◌, ◌*◌, ◌/◌, ◌%◌, ◌^◌, ◌≤◌, ◌<◌}
use native.Mathlib.{Nat.pow-suc, Numerals.add-one}
use native.Mathlib.Omega.{arith}
use lib.{Dec.ltb, Dec.lit<, Seq.drop-cons}
use lib.ListN.{length, get_or, drop}
use borrow.Author.Tests.{lt-ltb, le-ltb, ltb-true, ltb-false}
use Rattle.octets.specs.{Choice.either, Bytes.IsBytes}
use Rattle.octets.proofs.Places.{here_lt, here, next}
use Rattle.std.specs.Prelude.{Result, Ok, Err, IfOk}
use Rattle.refusal.specs.declared.Refusal.{Refusal}
use Rattle.groups.specs.declared.Number.{Number}
use Rattle.groups.specs.Groups.{groups_of, number_bytes, last_group, groups_at, number_at}
use Rattle.groups.proofs.Ways.{Way, way, way_is, on_way, below as way-below}

-- the groups of a number, which are bytes
pub one_group : (most n : ℕ) → n < 128 → groups_of (suc most) n ≡ n ∷ []
unfolding groups_of
one_group most n h = simp (lt-ltb n 128 h)

pub more_groups : (most n : ℕ) → 128 ≤ n → groups_of (suc most) n ≡ (128 + n % 128) ∷ groups_of most (n / 128)
unfolding groups_of
more_groups most n h = simp (le-ltb n 128 h)

pub few_groups : (most n : ℕ) → length (groups_of most n) ≤ most
unfolding groups_of
few_groups zero n = omega arith
few_groups (suc most) n = go (ltb n 128) (few_groups most (n / 128))
  where
    go : (t : Bool) → length (groups_of most (n / 128)) ≤ most → length (either t (λ _. n ∷ []) (λ _. (128 + n % 128) ∷ groups_of most (n / 128))) ≤ suc most
    go true h = omega arith
    go false h = omega arith

pub groups_bytes : (most n : ℕ) → IsBytes (groups_of most n)
unfolding groups_of
groups_bytes zero n = λ k. lit< tt
groups_bytes (suc most) n = go (ltb n 128) refl (groups_bytes most (n / 128))
  where
    go : (t : Bool) → ltb n 128 ≡ t → IsBytes (groups_of most (n / 128)) → IsBytes (either t (λ _. n ∷ []) (λ _. (128 + n % 128) ∷ groups_of most (n / 128)))
    go true e h zero = omega (arith, ltb-true n 128 e)
    go true e h (suc k) = lit< tt
    go false e h zero = omega arith
    go false e h (suc k) = h k

pub most_ten : (n : ℕ) → length (number_bytes n) ≤ 10
most_ten n = few_groups 10 n

pub numbers_bytes : (n : ℕ) → IsBytes (number_bytes n)
numbers_bytes n = groups_bytes 10 n

-- a byte in front of the groups of a number that is not 0
pub front_group : (most b n : ℕ) → 128 ≤ b → b < 256 → 0 < n → groups_of (suc most) (b % 128 + 128 * n) ≡ b ∷ groups_of most n
front_group most b n h l p =
    let q : (b % 128 + 128 * n) / 128 ≡ n = omega arith in
    let r : 128 + (b % 128 + 128 * n) % 128 ≡ b = omega arith in
    more_groups most (b % 128 + 128 * n) (omega arith) ∙ ap₂ (λ (c m : ℕ). c ∷ groups_of most m) r q

-- what is written is read
abbrev Reads : ℕ → ℕ → List ℕ → ℕ → Type 0
Reads more n s at = groups_at more s at ≡ Ok (last_group n (at + length (groups_of (suc more) n)))

module _ (more n : ℕ) (s : List ℕ) (at : ℕ) (t : List ℕ) where
  one_read : drop at s ≡ groups_of (suc more) n ++ t → n < 128 → (at < length s → get_or s at 0 ≡ n → Way s more at (Ok (last_group (get_or s at 0) (suc at)))) → Reads more n s at
  one_read e h w =
      let f : drop at s ≡ n ∷ t = e ∙ ap (λ (x : List ℕ). x ++ t) (one_group more n h) in
      let b : get_or s at 0 ≡ n = here s at n t f in
      rw (one_group more n h, add-one) (way_is s more at (Ok (last_group (get_or s at 0) (suc at))) (w (here_lt s at n t f) b) ∙ ap (λ (x : ℕ). Ok (last_group x (suc at))) b)

  more_read : drop at s ≡ groups_of (suc (suc more)) n ++ t → 128 ≤ n → (drop (suc at) s ≡ groups_of (suc more) (n / 128) ++ t → Reads more (n / 128) s (suc at)) → Reads (suc more) n s at
  more_read e l others =
      let f : drop at s ≡ (128 + n % 128) ∷ (groups_of (suc more) (n / 128) ++ t) = e ∙ ap (λ (x : List ℕ). x ++ t) (more_groups (suc more) n l) in
      let b : get_or s at 0 ≡ 128 + n % 128 = here s at _ _ f in
      let m = last_group (n / 128) (suc at + length (groups_of (suc more) (n / 128))) in
      let o : groups_at more s (suc at) ≡ Ok m = others (rw add-one at (next s at _ _ f)) in
      way_is s (suc more) at _
      (Way.front more at m (here_lt s at _ _ f) (omega arith) (subst (λ (r : Result Number Refusal). Way s more (suc at) r) o (way s more (suc at))) (omega arith))
      ∙ ap₂ (λ (v k : ℕ). Ok (last_group v k)) (omega arith) (rw (more_groups (suc more) n l) (omega arith))

pub groups_read : (more n : ℕ) → n < 2 * 128 ^ more → (s : List ℕ) (at : ℕ) (t : List ℕ) → drop at s ≡ groups_of (suc more) n ++ t → groups_at more s at ≡ Ok (last_group n (at + length (groups_of (suc more) n)))
groups_read zero n h s at t e = one_read zero n s at t e (omega arith) (λ i b. Way.bit at i (omega arith))
groups_read (suc more) n h s at t e = go (ltb n 128) refl (groups_read more (n / 128) (omega (arith, pow-suc 128 more)) s (suc at) t)
  where
    go : (u : Bool) → ltb n 128 ≡ u → (drop (suc at) s ≡ groups_of (suc more) (n / 128) ++ t → Reads more (n / 128) s (suc at)) → Reads (suc more) n s at
    go true k others = one_read (suc more) n s at t e (ltb-true n 128 k) (λ i b. Way.last more at i (omega (arith, ltb-true n 128 k)))
    go false k others = more_read more n s at t e (ltb-false n 128 k) others

pub written_read : (n : ℕ) → n < 2 ^ 64 → (s : List ℕ) (at : ℕ) (t : List ℕ) → drop at s ≡ number_bytes n ++ t → number_at s at ≡ Ok (record { value = n; next = at + length (number_bytes n) })
written_read n h s at t e = groups_read 9 n h s at t e

-- a number has one form
abbrev value_in : Result Number Refusal → ℕ
value_in (Ok o) = o.value
value_in (Err k) = 0

pub one_form : (m n : ℕ) → m < 2 ^ 64 → n < 2 ^ 64 → (t u : List ℕ) → number_bytes m ++ t ≡ number_bytes n ++ u → m ≡ n
one_form m n h l t u e =
    ap (λ (r : Result Number Refusal). value_in r) (sym (written_read m h (number_bytes m ++ t) 0 t refl) ∙ written_read n l (number_bytes m ++ t) 0 u e)

-- what is read is what was written
record Back (s : List ℕ) (more at : ℕ) (o : Number) : Type 0 where
  bytes : drop at s ≡ groups_of (suc more) o.value ++ drop o.next s
  ends : o.next ≡ at + length (groups_of (suc more) o.value)

module _ (s : List ℕ) where
  one_back : (more at : ℕ) → at < length s → get_or s at 0 < 128 → Back s more at (last_group (get_or s at 0) (suc at))
  one_back more at h l =
      record {
        bytes = drop-cons s at 0 h ∙ ap (λ (x : List ℕ). x ++ drop (suc at) s) (sym (one_group more (get_or s at 0) l));
        ends = rw (one_group more (get_or s at 0) l) (omega arith);
      }

  groups_back : IsBytes s → (more at : ℕ) (r : Result Number Refusal) → Way s more at r → IfOk r (Back s more at)
  groups_back c more at r (Way.ended m k h) = tt
  groups_back c more at r (Way.over k h l) = tt
  groups_back c more at r (Way.bit k h l) = one_back zero k h (omega arith)
  groups_back c more at r (Way.last m k h l) = one_back (suc m) k h l
  groups_back c more at r (Way.refused m k x h l w) = tt
  groups_back c more at r (Way.longer m k o h l w z) = tt
  groups_back c more at r (Way.front m k o h l w p) =
      let b : Back s m (suc k) o = groups_back c m (suc k) (Ok o) w in
      let g = front_group (suc m) (get_or s k 0) o.value l (c k) p in
      record {
        bytes = drop-cons s k 0 h ∙ ap (λ (x : List ℕ). get_or s k 0 ∷ x) b.bytes ∙ ap (λ (x : List ℕ). x ++ drop o.next s) (sym g);
        ends = rw g (omega (arith, b.ends));
      }

  -- the place behind it is further on, not past the end, and near
  abbrev Stands : ℕ → ℕ → Number → Type 0
  Stands more at o = (at < o.next) × ((o.next ≤ length s) × (o.next ≤ at + suc more))

  way_stands : (more at : ℕ) (r : Result Number Refusal) → Way s more at r → IfOk r (Stands more at)
  way_stands more at r (Way.ended m k h) = tt
  way_stands more at r (Way.over k h l) = tt
  way_stands more at r (Way.bit k h l) = omega arith
  way_stands more at r (Way.last m k h l) = omega arith
  way_stands more at r (Way.refused m k x h l w) = tt
  way_stands more at r (Way.longer m k o h l w z) = tt
  way_stands more at r (Way.front m k o h l w p) =
      let i : Stands m (suc k) o = way_stands m (suc k) (Ok o) w in
      omega (arith, i)

pub record Written (s : List ℕ) (at : ℕ) (o : Number) : Type 0 where
  pub bytes : drop at s ≡ number_bytes o.value ++ drop o.next s
  pub ends : o.next ≡ at + length (number_bytes o.value)
  pub small : o.value < 2 ^ 64

module _ (s : List ℕ) (at : ℕ) (o : Number) (e : number_at s at ≡ Ok o) where
  pub below : o.value < 2 ^ 64
  below = way-below s 9 at o e

  stands : Stands s 9 at o
  stands = on_way s 9 at (Stands s 9 at) (way_stands s 9 at (number_at s at) (way s 9 at)) o e

  pub within : o.next ≤ length s
  within = stands.1.0

  pub forward : at < o.next
  forward = stands.0

  pub near : o.next ≤ at + 10
  near = stands.1.1

  pub read_written : IsBytes s → Written s at o
  read_written c =
      let b = on_way s 9 at (Back s 9 at) (groups_back s c 9 at (number_at s at) (way s 9 at)) o e in
      record { bytes = b.bytes; ends = b.ends; small = below }
