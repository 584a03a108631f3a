-- Input that goes on. What is read or refused otherwise than by 33 stays so, and where the input ends inside a number some further bytes make it
-- one: a byte 1 behind it. By induction over the ways to read. Assumes nothing.
use mathlib.Core.Path.{◌≡◌, refl, sym, ap, ◌∙◌}
use mathlib.Core.Bool.{true≢false}
use mathlib.Core.List.{List, [], ◌∷◌, ◌++◌}
use mathlib.Core.Logic.{◌⊎◌, inl, inr}
use Prim.Native.Nat.{ℕ, suc, ◌+◌, ◌*◌, ◌%◌, ◌^◌, ◌≤◌, ◌<◌}
use native.Mathlib.{Nat.pow-suc, Omega.arith}
use lib.{Dec.lit<, Seq.drop-cons}
use lib.ListN.{length, get_or, drop, length-append, drop_of_length-le, get_or-append}
use Rattle.std.specs.Prelude.{Result, Ok, Err, IfErr, is_ok}
use Rattle.std.proofs.lemmas.Result.{IfErr-at_err}
use Rattle.octets.{specs.Bytes.IsBytes, proofs.Ranges.are_bytes_lem}
use Rattle.refusal.specs.declared.Refusal.{Refusal, TheVariants.NotShortest, TheVariants.InputEnds}
use Rattle.refusal.specs.Number.{number_of}
use Rattle.groups.specs.declared.Number.{Number}
use Rattle.groups.specs.Groups.{groups_of, number_bytes, number_at}
use Rattle.groups.proofs.Ways.{Way, way, way_is, power}
use Rattle.groups.proofs.Inverse.{one_group, front_group}

-- a value is no refusal, and a refusal of another number is another
pub ok_err : {A : Type 0} {a : A} {k : Refusal} → ◌≡◌ {A = Result A Refusal} (Ok a) (Err k) → ⊥
ok_err {A} e = true≢false (ap (λ (r : Result A Refusal). is_ok r) e)

-- the number of a refusal, and 0 for a value
abbrev pub number_in : {A : Type 0} → Result A Refusal → ℕ
number_in (Ok a) = 0
number_in (Err k) = number_of k

pub other_err : {A : Type 0} {j k : Refusal} → (number_of j ≡ number_of k → ⊥) → ◌≡◌ {A = Result A Refusal} (Err j) (Err k) → ⊥
other_err {A} f e = f (ap (λ (r : Result A Refusal). number_in r) e)

-- no other refusals
module _ (s : List ℕ) where
  abbrev Refuses : Refusal → Type 0
  Refuses k = (k ≡ NotShortest) ⊎ (k ≡ InputEnds)

  way_refusals : (more at : ℕ) (r : Result Number Refusal) → Way s more at r → IfErr r Refuses
  way_refusals more at r (Way.ended m k h) = inr refl
  way_refusals more at r (Way.over k h l) = inl refl
  way_refusals more at r (Way.bit k h l) = tt
  way_refusals more at r (Way.last m k h l) = tt
  way_refusals more at r (Way.refused m k x h l w) = way_refusals m (suc k) (Err x) w
  way_refusals more at r (Way.longer m k o h l w z) = inl refl
  way_refusals more at r (Way.front m k o h l w p) = tt

  pub refusals : (at : ℕ) (k : Refusal) → number_at s at ≡ Err k → (k ≡ NotShortest) ⊎ (k ≡ InputEnds)
  refusals at k e = IfErr-at_err Refuses e (way_refusals 9 at (number_at s at) (way s 9 at))

-- where more input follows
module _ (s p : List ℕ) where
  further : (at : ℕ) → at < length s → at < length (s ++ p)
  further at h = omega (arith, length-append s p)

  same_byte : (at : ℕ) → at < length s → get_or (s ++ p) at 0 ≡ get_or s at 0
  same_byte at h = get_or-append s p 0 at h

  way_settled : (more at : ℕ) (r : Result Number Refusal) → Way s more at r → (r ≡ Err InputEnds → ⊥) → Way (s ++ p) more at r
  way_settled more at r (Way.ended m k h) f = absurd (f refl)
  way_settled more at r (Way.over k h l) f = Way.over k (further k h) (rw (same_byte k h) l)
  way_settled more at r (Way.bit k h l) f = rw (← same_byte k h) (Way.bit k (further k h) (rw (same_byte k h) l))
  way_settled more at r (Way.last m k h l) f = rw (← same_byte k h) (Way.last m k (further k h) (rw (same_byte k h) l))
  way_settled more at r (Way.refused m k x h l w) f = Way.refused m k x (further k h) (rw (same_byte k h) l) (way_settled m (suc k) (Err x) w f)
  way_settled more at r (Way.longer m k o h l w z) f = Way.longer m k o (further k h) (rw (same_byte k h) l) (way_settled m (suc k) (Ok o) w ok_err) z
  way_settled more at r (Way.front m k o h l w n) f =
      rw (← same_byte k h) (Way.front m k o (further k h) (rw (same_byte k h) l) (way_settled m (suc k) (Ok o) w ok_err) n)

  pub settled : (at : ℕ) → (number_at s at ≡ Err InputEnds → ⊥) → number_at (s ++ p) at ≡ number_at s at
  settled at f = way_is (s ++ p) 9 at (number_at s at) (way_settled 9 at (number_at s at) (way s 9 at) f)

-- a byte 1 makes it a number
record Goes (s : List ℕ) (more at : ℕ) : Type 0 where
  number : ℕ
  some : 0 < number
  small : number < 2 * 128 ^ more
  bytes : drop at s ++ (1 ∷ []) ≡ groups_of (suc more) number

module _ (s : List ℕ) (c : IsBytes s) where
  way_goes : (more at : ℕ) (r : Result Number Refusal) → Way s more at r → r ≡ Err InputEnds → Goes s more at
  way_goes more at r (Way.ended m k h) e =
      record {
        number = 1;
        some = lit< tt;
        small = omega (arith, power m);
        bytes = ap (λ (x : List ℕ). x ++ (1 ∷ [])) (drop_of_length-le s h) ∙ sym (one_group m 1 (lit< tt));
      }
  way_goes more at r (Way.over k h l) e = absurd (other_err (λ z. omega arith) e)
  way_goes more at r (Way.bit k h l) e = absurd (ok_err e)
  way_goes more at r (Way.last m k h l) e = absurd (ok_err e)
  way_goes more at r (Way.refused m k x h l w) e =
      let g = way_goes m (suc k) (Err x) w e in
      record {
        number = get_or s k 0 % 128 + 128 * g.number;
        some = omega (arith, g.some);
        small = rw pow-suc (omega (arith, g.small));
        bytes =
            ap (λ (x : List ℕ). x ++ (1 ∷ [])) (drop-cons s k 0 h) ∙ ap (λ (x : List ℕ). get_or s k 0 ∷ x) g.bytes
            ∙ sym (front_group (suc m) (get_or s k 0) g.number l (c k) g.some);
      }
  way_goes more at r (Way.longer m k o h l w z) e = absurd (other_err (λ y. omega arith) e)
  way_goes more at r (Way.front m k o h l w n) e = absurd (ok_err e)

pub record GoesOn (s : List ℕ) (at : ℕ) : Type 0 where
  pub number : ℕ
  pub rest : List ℕ
  pub octets : IsBytes rest
  pub small : number < 2 ^ 64
  pub bytes : drop at s ++ rest ≡ number_bytes number

pub goes_on : (s : List ℕ) (at : ℕ) → IsBytes s → at ≤ length s → number_at s at ≡ Err InputEnds → GoesOn s at
goes_on s at c h e =
    let g = way_goes s c 9 at (number_at s at) (way s 9 at) e in
    record { number = g.number; rest = 1 ∷ []; octets = are_bytes_lem (1 ∷ []) tt; small = g.small; bytes = g.bytes }
