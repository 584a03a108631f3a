-- Parts behind parts, each law in the shape of a need of the code: a key and its value, fields one behind the other, bytes that stand in numbers.
-- By the laws of parts. Assumes nothing.
use mathlib.Core.Path.{◌≡◌, refl, sym, ◌∙◌}
use mathlib.Core.Bool.{Bool, true, false, not}
use mathlib.Core.List.{List, [], ◌∷◌, ◌++◌, append-nil}
use Prim.Native.Nat.{ℕ, ◌+◌, ◌<◌, ◌^◌}
use native.Mathlib.Omega.{arith}
use lib.{Dec.eqb, IntN.ℤ, Seq.take_all, Signed.mag}
use lib.ListN.{length, take, drop, length-append, drop_of_length-le}
use mir.Syntax.{w32, w64}
use mir.Val.{to_z, of_z, SFits}
use mir.ValLaws.{to_z-of_z}
use borrow.Author.Tests.{ne_eqb}
use Rattle.octets.specs.{Bytes.big_bytes, Bytes.put_at, Code.Put.put_number}
use Rattle.octets.proofs.{Digits.length_big, Ranges.true_false, Writing.put_in, Writing.put_then}
use Rattle.forms.specs.Code.Put.{Put, put_parts, map_parts, whole_parts, text_parts, numbers_parts}
use Rattle.forms.proofs.Putting.{parts_then}
use Rattle.record.specs.Says.{sixteen_bytes}
use Rattle.record.specs.declared.Sixteen.{Sixteen}
use Rattle.writer.specs.Code.Parts.{short_text, text, chained, pair_part, title_parts}

-- a key, then its value, where the field is there
module _ (k : List ℕ) (ps : List (List ℕ)) (a : Put) where
  pub pair_none : (here : Bool) → not here ≡ true → a ≡ put_parts (pair_part here k ps) a
  unfolding put_parts pair_part
  pair_none true e = true_false (sym e)
  pair_none false e = refl

  module _ (b c : Put) where
    pub pair_always : b ≡ put_parts (k ∷ []) a → c ≡ put_parts ps b → c ≡ put_parts (pair_part true k ps) a
    unfolding pair_part
    pair_always f g = parts_then (k ∷ []) ps a b c f g

    pub pair_put : (here : Bool) → not here ≡ false → b ≡ put_parts (k ∷ []) a → c ≡ put_parts ps b → c ≡ put_parts (pair_part here k ps) a
    pair_put true e f g = pair_always f g
    pair_put false e f g = true_false e

-- 32 bits in 64
pub code_wide : (z : ℤ) → SFits w32 z → SFits w64 (to_z w32 (of_z w32 z))
code_wide z f = rw (to_z-of_z w32 z f) (record { sfits = let h : mag z < 2 ^ 31 = f.sfits in omega arith })

-- a signed number is handed on in its bits
module _ (a b : Put) (z : ℤ) where
  pub signed_put : SFits w64 z → b ≡ put_parts (whole_parts (to_z w64 (of_z w64 z))) a → b ≡ put_parts (whole_parts z) a
  signed_put f g = rw (to_z-of_z w64 z f) at g

  pub code_put : SFits w32 z → b ≡ put_parts (whole_parts (to_z w64 (of_z w64 (to_z w32 (of_z w32 z))))) a → b ≡ put_parts (whole_parts z) a
  code_put f g = rw (to_z-of_z w64 (to_z w32 (of_z w32 z)) (code_wide z f), to_z-of_z w32 z f) at g

pub ruleset pairs = (pair_none, pair_always, pair_put)

-- fields one behind the other: two to five
module _ (ps : List (List ℕ)) (a b : Put) (e : b ≡ put_parts ps a) where
  next : (pss : List (List (List ℕ))) (c : Put) → c ≡ put_parts (chained pss) b → c ≡ put_parts (chained (ps ∷ pss)) a
  unfolding chained
  next pss c g = parts_then ps (chained pss) a b c e g

  last : b ≡ put_parts (chained (ps ∷ [])) a
  unfolding chained
  last = rw append-nil e

module _ (ps qs : List (List ℕ)) (a b c : Put) (f : b ≡ put_parts ps a) (g : c ≡ put_parts qs b) where
  pub chain_2 : c ≡ put_parts (chained (ps ∷ qs ∷ [])) a
  chain_2 = next ps a b f (qs ∷ []) c (last qs b c g)

  module _ (rs : List (List ℕ)) (d : Put) (h : d ≡ put_parts rs c) where
    pub chain_3 : d ≡ put_parts (chained (ps ∷ qs ∷ rs ∷ [])) a
    chain_3 = next ps a b f (qs ∷ rs ∷ []) d (next qs b c g (rs ∷ []) d (last rs c d h))

    module _ (ss : List (List ℕ)) (x : Put) (i : x ≡ put_parts ss d) where
      pub chain_4 : x ≡ put_parts (chained (ps ∷ qs ∷ rs ∷ ss ∷ [])) a
      chain_4 = next ps a b f (qs ∷ rs ∷ ss ∷ []) x (next qs b c g (rs ∷ ss ∷ []) x (next rs c d h (ss ∷ []) x (last ss d x i)))

      pub chain_5 : (ts : List (List ℕ)) (y : Put) → y ≡ put_parts ts x → y ≡ put_parts (chained (ps ∷ qs ∷ rs ∷ ss ∷ ts ∷ [])) a
      chain_5 ts y j = next ps a b f (qs ∷ rs ∷ ss ∷ ts ∷ []) y (next qs b c g (rs ∷ ss ∷ ts ∷ []) y (next rs c d h (ss ∷ ts ∷ []) y (next ss d x i (ts ∷ []) y (last ts x y j))))

-- a status code is handed on in its 32 bits
pub code_then : (z : ℤ) → SFits w32 z → (k : List ℕ) (qs rs : List (List ℕ)) (a b c d : Put) → b ≡ put_parts (pair_part true k (whole_parts (to_z w32 (of_z w32 z)))) a
    → c ≡ put_parts qs b → d ≡ put_parts rs c → d ≡ put_parts (chained (pair_part true k (whole_parts z) ∷ qs ∷ rs ∷ [])) a
code_then z f k qs rs a b c d e g h = chain_3 (pair_part true k (whole_parts z)) qs a b c (rw (to_z-of_z w32 z f) at e) g rs d h

pub ruleset chains = (chain_2, chain_3, chain_4, chain_5)

-- the title, and fields behind it
pub title_put : (z : ℤ) → SFits w64 z → (h names : List ℕ) (o a b c : Put) → a ≡ put_parts (h ∷ []) o → b ≡ put_parts (names ∷ []) a → c ≡ put_parts (whole_parts (to_z w64 (of_z w64 z))) b
    → c ≡ put_parts (h ∷ names ∷ whole_parts z) o
title_put z f h names o a b c e g i = parts_then (h ∷ []) (names ∷ whole_parts z) o a c e (parts_then (names ∷ []) (whole_parts z) a b c g (rw (to_z-of_z w64 z f) at i))

module _ (z : ℤ) (f : SFits w64 z) (n k : ℕ) (name : List ℕ) (o a : Put) (e : n ≡ k)
    (g : a ≡ put_parts (map_parts n ++ ((text "command" ++ (short_text name ++ text "opId")) ∷ whole_parts (to_z w64 (of_z w64 z)))) o) where
  titled : a ≡ put_parts (title_parts k name z) o
  unfolding title_parts
  titled = rw (e, to_z-of_z w64 z f) at g

  module _ (ps : List (List ℕ)) (b : Put) (h : b ≡ put_parts ps a) where
    pub title_1 : b ≡ put_parts (chained (title_parts k name z ∷ ps ∷ [])) o
    title_1 = chain_2 (title_parts k name z) ps o a b titled h

    module _ (qs : List (List ℕ)) (c : Put) (i : c ≡ put_parts qs b) where
      pub title_2 : c ≡ put_parts (chained (title_parts k name z ∷ ps ∷ qs ∷ [])) o
      title_2 = chain_3 (title_parts k name z) ps o a b titled h qs c i

      pub title_3 : (rs : List (List ℕ)) (d : Put) → d ≡ put_parts rs c → d ≡ put_parts (chained (title_parts k name z ∷ ps ∷ qs ∷ rs ∷ [])) o
      title_3 rs d j = chain_4 (title_parts k name z) ps o a b titled h qs c i rs d j

pub ruleset titles = (title_1, title_2, title_3)

-- bytes that stand in numbers, in a place for them
put_whole : (d vs : List ℕ) → length vs ≡ length d → put_at d 0 vs ≡ vs
put_whole d vs e =
    let z : drop (length vs) d ≡ [] = drop_of_length-le d {i = length vs} (omega arith) in
    let n : 0 + length vs ≡ length vs = omega arith in
    put_in d 0 vs (omega arith) ∙ simp (n, z, append-nil)

pub spread_is : (t a b : List ℕ) (x : Sixteen) → length t ≡ 16 → a ≡ put_number t 0 8 (big_bytes 8 x.high) → b ≡ put_number a 8 8 (big_bytes 8 x.low) → b ≡ sixteen_bytes x
unfolding sixteen_bytes
spread_is t a b x l e f =
    let h = big_bytes 8 x.high in
    let w = big_bytes 8 x.low in
    let m : length h ≡ 8 = length_big 8 x.high in
    let n : length w ≡ 8 = length_big 8 x.low in
    let j : put_at (put_at t 0 h) (0 + length h) w ≡ put_at t 0 (h ++ w) = put_then t 0 h w (omega arith) in
    rw (f, e) ((rw m at j) ∙ put_whole t (h ++ w) (omega (arith, length-append h w)))

sixteen_long : (x : Sixteen) → length (sixteen_bytes x) ≡ 16
unfolding sixteen_bytes
sixteen_long x = omega (arith, length-append (big_bytes 8 x.high) (big_bytes 8 x.low), length_big 8 x.high, length_big 8 x.low)

module _ (k : List ℕ) (a b : Put) where
  pub four_put : (s t : List ℕ) (x y : ℕ) → length s ≡ 4 → y ≡ x → t ≡ put_number s 0 4 (big_bytes 4 y) → b ≡ put_parts (pair_part true k (numbers_parts (take 4 t))) a → b ≡ put_parts (pair_part true k (numbers_parts (big_bytes 4 x))) a
  four_put s t x y l g e f =
      let w = big_bytes 4 x in
      let i : t ≡ w = rw g at e ∙ put_whole s w (omega (arith, length_big 4 x)) in
      let j : take 4 w ≡ w = take_all 4 w (omega (arith, length_big 4 x)) in
      rw (i, j) at f

  pub sixteen_put : (t : List ℕ) (x : Sixteen) → t ≡ sixteen_bytes x → b ≡ put_parts (pair_part true k (numbers_parts (take 16 t))) a → b ≡ put_parts (pair_part true k (numbers_parts (sixteen_bytes x))) a
  sixteen_put t x e f =
      let j : take 16 (sixteen_bytes x) ≡ sixteen_bytes x = take_all 16 (sixteen_bytes x) (omega (arith, sixteen_long x)) in
      rw (e, j) at f

  pub profile_put : (n : ℕ) (t : List ℕ) (x : Sixteen) → (n ≡ 0 → ⊥) → t ≡ sixteen_bytes x → b ≡ put_parts (pair_part true k (text_parts (take n t))) a
      → b ≡ put_parts (pair_part (not (eqb n 0)) k (text_parts (take n (sixteen_bytes x)))) a
  profile_put n t x h e f = rw (ne_eqb n 0 h) (rw e at f)

pub profile_none : (k : List ℕ) (ps : List (List ℕ)) (a : Put) (n : ℕ) → n ≡ 0 → a ≡ put_parts (pair_part (not (eqb n 0)) k ps) a
unfolding put_parts pair_part
profile_none k ps a n e = rw e

pub ruleset numbers = (spread_is, four_put, sixteen_put, profile_put, profile_none, arith)
