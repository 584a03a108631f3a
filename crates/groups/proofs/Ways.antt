-- The ways to read a number, one for each case of the definition: a reading goes one of them, and whatever goes one is what is read.
-- So what holds of readings is proved by induction over the ways. Assumes nothing.
use mathlib.Core.{Path.◌≡◌, Path.refl, Bool.Bool, Bool.true, Bool.false, List.List}
use Prim.Native.Nat.{ℕ, zero, suc, ◌+◌, ◌*◌, ◌%◌, ◌^◌, ◌≤◌, ◌<◌}
use native.Mathlib.Nat.{pow-suc, one-le-pow}
use native.Mathlib.Omega.{arith}
use lib.{Dec.leb, Dec.ltb, Dec.eqb, Dec.lit<, ListN.length, ListN.get_or}
use borrow.Author.Tests.{lt-ltb, le-ltb, le-leb, lt-leb, eq-eqb, ne_eqb, ltb-true, ltb-false, leb-true, leb-false, eqb-true, eqb-false}
use Rattle.std.specs.Prelude.{Result, Ok, Err, IfOk}
use Rattle.std.proofs.lemmas.Result.{IfOk-at_ok}
use Rattle.octets.specs.Choice.{either}
use Rattle.refusal.specs.declared.Refusal.{Refusal, TheVariants.NotShortest, TheVariants.InputEnds}
use Rattle.groups.specs.declared.Number.{Number}
use Rattle.groups.specs.Groups.{last_group, tenth_group, behind, on_number, groups_at}

-- a number whose group stands in front of others
abbrev pub joined : ℕ → Number → Number
joined b o = record { value = b % 128 + 128 * o.value; next = o.next }

-- the input ends; a tenth byte is over 1, or is the bit; a byte is the last; and one in front of others, which are refused, are 0, or are a number
pub data Way (s : List ℕ) : ℕ → ℕ → Result Number Refusal → Type 0 where
  ended : (more at : ℕ) → length s ≤ at → Way s more at (Err InputEnds)
  over : (at : ℕ) → at < length s → 1 < get_or s at 0 → Way s zero at (Err NotShortest)
  bit : (at : ℕ) → at < length s → get_or s at 0 ≤ 1 → Way s zero at (Ok (last_group (get_or s at 0) (suc at)))
  last : (more at : ℕ) → at < length s → get_or s at 0 < 128 → Way s (suc more) at (Ok (last_group (get_or s at 0) (suc at)))
  refused : (more at : ℕ) (k : Refusal) → at < length s → 128 ≤ get_or s at 0 → Way s more (suc at) (Err k) → Way s (suc more) at (Err k)
  longer : (more at : ℕ) (o : Number) → at < length s → 128 ≤ get_or s at 0 → Way s more (suc at) (Ok o) → o.value ≡ 0 → Way s (suc more) at (Err NotShortest)
  front : (more at : ℕ) (o : Number) → at < length s → 128 ≤ get_or s at 0 → Way s more (suc at) (Ok o) → 0 < o.value → Way s (suc more) at (Ok (joined (get_or s at 0) o))

-- a reading goes one of them
tenth_way : (s : List ℕ) (at : ℕ) → at < length s → Way s zero at (tenth_group (get_or s at 0) (suc at))
unfolding tenth_group
tenth_way s at h = go (leb (get_or s at 0) 1) refl
  where
    go : (t : Bool) → leb (get_or s at 0) 1 ≡ t → Way s zero at (either t (λ _. Ok (last_group (get_or s at 0) (suc at))) (λ _. Err NotShortest))
    go true e = Way.bit at h (leb-true (get_or s at 0) 1 e)
    go false e = Way.over at h (leb-false (get_or s at 0) 1 e)

behind_way : (s : List ℕ) (more at : ℕ) (r : Result Number Refusal) → at < length s → 128 ≤ get_or s at 0 → Way s more (suc at) r → Way s (suc more) at (on_number r (behind (get_or s at 0 % 128)))
unfolding behind
behind_way s more at (Err k) h l w = Way.refused more at k h l w
behind_way s more at (Ok o) h l w = go (eqb o.value 0) refl
  where
    go : (u : Bool) → eqb o.value 0 ≡ u → Way s (suc more) at (either u (λ _. Err NotShortest) (λ _. Ok (joined (get_or s at 0) o)))
    go true f = Way.longer more at o h l w (eqb-true o.value 0 f)
    go false f = let k : o.value ≡ 0 → ⊥ = eqb-false o.value 0 f in Way.front more at o h l w (omega arith)

pub way : (s : List ℕ) (more at : ℕ) → Way s more at (groups_at more s at)
unfolding groups_at
way s zero at = go (ltb at (length s)) refl
  where
    go : (t : Bool) → ltb at (length s) ≡ t → Way s zero at (either t (λ _. tenth_group (get_or s at 0) (suc at)) (λ _. Err InputEnds))
    go true e = tenth_way s at (ltb-true at (length s) e)
    go false e = Way.ended zero at (ltb-false at (length s) e)
way s (suc more) at = go (ltb at (length s)) (ltb (get_or s at 0) 128) refl refl (way s more (suc at))
  where
    go : (t u : Bool) → ltb at (length s) ≡ t → ltb (get_or s at 0) 128 ≡ u → Way s more (suc at) (groups_at more s (suc at))
        → Way s (suc more) at (either t (λ _. either u (λ _. Ok (last_group (get_or s at 0) (suc at))) (λ _. on_number (groups_at more s (suc at)) (behind (get_or s at 0 % 128)))) (λ _. Err InputEnds))
    go true true e f w = Way.last more at (ltb-true at (length s) e) (ltb-true (get_or s at 0) 128 f)
    go true false e f w = behind_way s more at (groups_at more s (suc at)) (ltb-true at (length s) e) (ltb-false (get_or s at 0) 128 f) w
    go false u e f w = Way.ended (suc more) at (ltb-false at (length s) e)

-- and what goes one is what is read
end_is : (s : List ℕ) (more at : ℕ) → length s ≤ at → groups_at more s at ≡ Err InputEnds
unfolding groups_at
end_is s zero at h = simp (le-ltb at (length s) h)
end_is s (suc more) at h = simp (le-ltb at (length s) h)

pub way_is : (s : List ℕ) (more at : ℕ) (r : Result Number Refusal) → Way s more at r → groups_at more s at ≡ r
unfolding groups_at tenth_group behind
way_is s more at r (Way.ended m k h) = end_is s m k h
way_is s more at r (Way.over k h l) = simp (lt-ltb k (length s) h, lt-leb (get_or s k 0) 1 l)
way_is s more at r (Way.bit k h l) = simp (lt-ltb k (length s) h, le-leb (get_or s k 0) 1 l)
way_is s more at r (Way.last m k h l) = simp (lt-ltb k (length s) h, lt-ltb (get_or s k 0) 128 l)
way_is s more at r (Way.refused m k x h l w) = simp (lt-ltb k (length s) h, le-ltb (get_or s k 0) 128 l, way_is s m (suc k) (Err x) w)
way_is s more at r (Way.longer m k o h l w z) = simp (lt-ltb k (length s) h, le-ltb (get_or s k 0) 128 l, way_is s m (suc k) (Ok o) w, eq-eqb o.value 0 z)
way_is s more at r (Way.front m k o h l w p) =
    let f : o.value ≡ 0 → ⊥ = λ z. omega arith in
    simp (lt-ltb k (length s) h, le-ltb (get_or s k 0) 128 l, way_is s m (suc k) (Ok o) w, ne_eqb o.value 0 f)

-- what holds of every number that is read, by the ways
pub on_way : (s : List ℕ) (more at : ℕ) (P : Number → Type 0) → IfOk (groups_at more s at) P → (o : Number) → groups_at more s at ≡ Ok o → P o
on_way s more at P h o e = IfOk-at_ok P e h

-- it is below 2 * 128 ^ more, whatever the elements are
pub power : (more : ℕ) → 0 < 128 ^ more
power more = one-le-pow more 128 (lit< tt)

way_below : (s : List ℕ) (more at : ℕ) (r : Result Number Refusal) → Way s more at r → IfOk r (λ o. o.value < 2 * 128 ^ more)
way_below s more at r (Way.ended m k h) = tt
way_below s more at r (Way.over k h l) = tt
way_below s more at r (Way.bit k h l) = omega arith
way_below s more at r (Way.last m k h l) = rw pow-suc (omega (arith, power m))
way_below s more at r (Way.refused m k x h l w) = tt
way_below s more at r (Way.longer m k o h l w z) = tt
way_below s more at r (Way.front m k o h l w p) =
    let i : o.value < 2 * 128 ^ m = way_below s m (suc k) (Ok o) w in
    rw pow-suc (omega arith)

pub below : (s : List ℕ) (more at : ℕ) (o : Number) → groups_at more s at ≡ Ok o → o.value < 2 * 128 ^ more
below s more at = on_way s more at (λ o. o.value < 2 * 128 ^ more) (way_below s more at (groups_at more s at) (way s more at))
