-- The bytes of a text, copied: the room with the bytes that are left put from i on is the room with all of them. Each law in the shape of a
-- need of the code. Assumes nothing.
use mathlib.Core.Path.{◌≡◌, refl, sym, ap, ◌∙◌}
use mathlib.Core.{Bool.Bool, Bool.true, Bool.false, List.List, List.◌∷◌, Option.Option, Option.some, Option.none}
use Prim.Native.Nat.{ℕ, suc, ◌+◌, ◌-◌, ◌≤◌, ◌<◌}
use native.Mathlib.Nat.{add-zero, sub-zero}
use native.Mathlib.Omega.{arith}
use lib.{Dec.leb, Seq.drop-cons}
use lib.ListN.{length, get_or, take, drop, set}
use borrow.Author.Tests.{le-leb, leb-false}
use Rattle.octets.specs.{Choice.either, Bytes.put_at}
use Rattle.octets.proofs.{Places.length_part, Stores.kept, Writing.put_out, Writing.put_none}
use Rattle.std.specs.Prelude.{Option as Answer, Some, None}
use Rattle.field.specs.declared.Extent.{Extent}
use Rattle.field.specs.{Kind.Kind, Kind.Value, Judge.string_sized, Judge.judge, Code.At.shallow_at, Code.At.string_filled, Code.Extent.Bears}
use Rattle.field.proofs.{Texts.by_text, Texts.text_within, Intos.put_cons}

-- one byte more of n
pub take_more : (s : List ℕ) (from n i : ℕ) → from + n ≤ length s → i < n → take (n - i) (drop (from + i) s) ≡ get_or s (from + i) 0 ∷ take (n - (i + 1)) (drop (from + (i + 1)) s)
take_more s from n i h l =
    let j : n - i ≡ suc (n - (i + 1)) = omega arith in
    let k : suc (from + i) ≡ from + (i + 1) = omega arith in
    rw (j, drop-cons s (from + i) 0 (omega arith), k)

module _ (s : List ℕ) (from n : ℕ) (h : from + n ≤ length s) (room : List ℕ) where
  pub string_long : length room < n → room ≡ put_at room 0 (take n (drop from s))
  string_long l = sym (put_out room 0 (take n (drop from s)) (omega (arith, length_part s from n h)))

  pub string_start : put_at room 0 (take (n - 0) (drop (from + 0) s)) ≡ put_at room 0 (take n (drop from s))
  string_start = rw (sub-zero, add-zero)

  module _ (out : List ℕ) (i : ℕ) where
    pub string_more : i < n → n ≤ length room → length out ≡ length room → put_at out i (take (n - i) (drop (from + i) s)) ≡ put_at room 0 (take n (drop from s)) → put_at (set out i (get_or s (from + i) 0)) (i + 1) (take (n - (i + 1)) (drop (from + (i + 1)) s)) ≡ put_at room 0 (take n (drop from s))
    string_more l r k e =
        put_cons out i (get_or s (from + i) 0) (take (n - (i + 1)) (drop (from + (i + 1)) s))
        (omega (arith, length_part s (from + (i + 1)) (n - (i + 1)) (omega arith)))
        ∙ ap (put_at out i) (sym (take_more s from n i h l)) ∙ e

    pub string_done : n ≤ i → put_at out i (take (n - i) (drop (from + i) s)) ≡ put_at room 0 (take n (drop from s)) → out ≡ put_at room 0 (take n (drop from s))
    string_done l e =
        let z : n - i ≡ 0 = omega arith in
        sym (ap (λ (k : ℕ). put_at out i (take k (drop (from + i) s))) z ∙ put_none out i) ∙ e

pub ruleset strings = (kept, string_long, string_start, string_more, string_done, arith)

-- a text that has no room is not put
put_sized : (room d : List ℕ) → put_at room 0 d ≡ string_filled (string_sized 0 (length room) d) room
put_sized room d = rw (le-leb 0 (length d) (omega arith)) (go (leb (length d) (length room)) refl)
  where
    go : (t : Bool) → leb (length d) (length room) ≡ t → put_at room 0 d ≡ string_filled (either t (λ _. some (Value.string d)) (λ _. none)) room
    go true e = refl
    go false e = put_out room 0 d (omega (arith, leb-false (length d) (length room) e))

module _ (s : List ℕ) (at : ℕ) (p : Answer Extent) (y : Bears s at p) (room : List ℕ) where
  pub text_there : (t : Extent) → p ≡ Some t → (out : List ℕ) → out ≡ put_at room 0 (take t.size (drop t.from s)) → out ≡ string_filled (judge (Kind.texts 0 (length room)) (shallow_at s at)) room
  unfolding judge
  text_there t u out e =
      e ∙ put_sized room (take t.size (drop t.from s))
      ∙ ap (λ (o : Option Value). string_filled o room) (by_text s at p y (Some t) u (string_sized 0 (length room)))

  pub text_not : p ≡ None → room ≡ string_filled (judge (Kind.texts 0 (length room)) (shallow_at s at)) room
  unfolding judge
  text_not t = ap (λ (o : Option Value). string_filled o room) (by_text s at p y None t (string_sized 0 (length room)))

pub ruleset texts_into = (text_within, text_there, text_not, arith)
