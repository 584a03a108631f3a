-- The bytes of a field in a room of zeros: those of an array of exactly n fill it, those of a text have zeros behind them, which add nothing to their number.
-- Assumes nothing.
use mathlib.Core.Path.{◌≡◌, refl, sym, ap, ◌∙◌}
use mathlib.Core.Bool.{Bool, true, false, ◌&&◌, not}
use mathlib.Core.List.{List, [], ◌++◌, append-nil}
use mathlib.Core.Option.{Option, some, none}
use Prim.Native.Nat.{ℕ, zero, suc, ◌+◌, ◌-◌, ◌≤◌}
use native.Mathlib.Nat.{zero-add, sub-zero}
use native.Mathlib.Omega.{arith}
use lib.Dec.{eqb, leb, lit≤}
use lib.ListN.{length, drop, replicate, length-replicate}
use borrow.Author.Tests.{leb-true, leb-false, le-leb, eq-eqb, ne_eqb}
use Rattle.octets.proofs.Ranges.{true_false}
use Rattle.octets.specs.{Choice.either, Number.big_at, Number.if_there, Bytes.put_at}
use Rattle.element.specs.Meaning.{Elements}
use Rattle.std.specs.Prelude.{Option as Answer, Some, None, Result, is_some, is_ok}
use Rattle.std.specs.Result.{result_err, result_unwrap_or}
use Rattle.field.specs.declared.Flaw.{Flaw, TheVariants.Invalid}
use Rattle.field.specs.Kind.{Kind, Value, bytes16, bytes4, profile_text}
use Rattle.field.specs.Judge.{when, on_some, parts_of, octets_in, string_sized, judge}
use Rattle.field.specs.{Cell.Cell, Cell.judged, Cell.here, Cell.word_of, Code.Told.told_of, Code.At.shallow_at, Code.At.seen_at, Code.At.cell_at, Code.At.string_filled}
use Rattle.field.specs.{Code.Into.read_into}
use Rattle.field.proofs.Intos.{into_good}
use Rattle.message.specs.Record.{string_of}
use Rattle.record.specs.declared.Sixteen.{Sixteen}
use Rattle.record.specs.Record.{bytes_in, four_of, four_in, sixteen_of, sixteen_in}
use Rattle.record.proofs.Packed.{sixteen_padded}
use Rattle.bodies.specs.Code.Held.{flaw_of, judged_as, held_as, profile_in, exactly, four_if, sixteen_if}
use Rattle.bodies.proofs.Readers.{judged_told, here_told, value_told}
use Rattle.bodies.proofs.Values.{IsString, arrays_are, texts_are, arrays_more, texts_put}

-- what is told of an array of at most n bytes says why one of exactly n has no value
exact_sized : (n : ℕ) (d : List ℕ) → exactly (told_of word_of (judged (string_sized 0 n d))) n ≡ flaw_of (judged (string_sized n n d))
unfolding exactly
exact_sized n d = simp (le-leb 0 (length d) (omega arith)) (go (leb (length d) n) refl)
  where
    same : (b : Bool) → leb n (length d) ≡ b → leb (length d) n ≡ true → either (eqb (length d) n) (λ _. None) (λ _. Some Invalid) ≡ flaw_of (judged (when (b && true) (Value.string d)))
    same true e l = simp (eq-eqb (length d) n (omega (arith, leb-true n (length d) e, leb-true (length d) n l)))
    same false e l = simp (ne_eqb (length d) n (λ q. omega (arith, leb-false n (length d) e)))

    go : (b : Bool) → leb (length d) n ≡ b → exactly (told_of word_of (judged (when b (Value.string d)))) n ≡ flaw_of (judged (when (leb n (length d) && b) (Value.string d)))
    go true l = same (leb n (length d)) refl l
    go false l = short (leb n (length d))
      where
        short : (c : Bool) → Some Invalid ≡ flaw_of (judged (when (c && false) (Value.string d)))
        short true = refl
        short false = refl

exact_octets : (n : ℕ) (o : Option (List ℕ)) → exactly (told_of word_of (judged (on_some o (string_sized 0 n)))) n ≡ flaw_of (judged (on_some o (string_sized n n)))
unfolding exactly
exact_octets n none = refl
exact_octets n (some d) = exact_sized n d

exact_parts : (n : ℕ) (o : Option Elements)
    → exactly (told_of word_of (judged (on_some o (λ es. on_some (octets_in es) (string_sized 0 n))))) n ≡ flaw_of (judged (on_some o (λ es. on_some (octets_in es) (string_sized n n))))
unfolding exactly
exact_parts n none = refl
exact_parts n (some es) = exact_octets n (octets_in es)

pub exact_flaw : (n : ℕ) (s : List ℕ) (p : ℕ) → exactly (told_of word_of (cell_at (Kind.arrays 0 n) s p)) n ≡ flaw_of (cell_at (Kind.arrays n n) s p)
unfolding cell_at judge exactly
exact_flaw n s zero = refl
exact_flaw n s (suc zero) = refl
exact_flaw n s (suc (suc p)) = exact_parts n (parts_of (shallow_at s (suc (suc p))))

-- none is there exactly where the cell has a value
none_here : (c : Cell) (o : Answer Flaw) → o ≡ flaw_of c → (b : Bool) → is_some o ≡ not b → b ≡ here c
none_here c o e b q = go c b (sym (ap is_some e) ∙ q)
  where
    go : (c : Cell) (b : Bool) → is_some (flaw_of c) ≡ not b → b ≡ here c
    go Cell.missing true z = true_false z
    go Cell.missing false z = refl
    go Cell.double true z = true_false z
    go Cell.double false z = refl
    go Cell.bad true z = true_false z
    go Cell.bad false z = refl
    go (Cell.good v) true z = refl
    go (Cell.good v) false z = true_false (sym z)

-- a room of zeros
drop_repeat : (x k n : ℕ) → drop k (replicate n x) ≡ replicate (n - k) x
drop_repeat x zero n = rw sub-zero
drop_repeat x (suc k) zero = let z : 0 - suc k ≡ 0 = omega arith in rw z
drop_repeat x (suc k) (suc n) = let z : suc n - suc k ≡ n - k = omega arith in rw z (drop_repeat x k n)

pub put_zeros : (n : ℕ) (d : List ℕ) → length d ≤ n → put_at (replicate n 0) 0 d ≡ d ++ replicate (n - length d) 0
unfolding put_at
put_zeros n d h = simp (zero-add, length-replicate, le-leb (length d) n h, drop_repeat 0 (length d) n)

good_at : (s : List ℕ) (k : Kind) (v : Value) (p : ℕ) → judge k (seen_at k s (suc (suc p))) ≡ some v → cell_at k s (suc (suc p)) ≡ Cell.good v
unfolding cell_at
good_at s k v p e = ap judged e

-- an array of exactly n bytes
full : (n : ℕ) (v : Value) → IsString n n v → string_filled (some v) (replicate n 0) ≡ string_of v
full n _ (IsString.string d l h) =
    let z : n - length d ≡ 0 = omega arith in
    put_zeros n d h ∙ rw z (append-nil d)

read_full : (n : ℕ) (s : List ℕ) (v : Value) (p : ℕ) → judge (Kind.arrays n n) (shallow_at s (suc (suc p))) ≡ some v → read_into s (suc (suc p)) (replicate n 0) ≡ string_of v
read_full n s v p j =
    into_good s (suc (suc p)) (replicate n 0) v
    (rw (length-replicate {A = ℕ} n 0) (good_at s (Kind.arrays 0 n) v p (arrays_more (shallow_at s (suc (suc p))) v n n n (omega arith) j)))
    ∙ full n v (arrays_are (shallow_at s (suc (suc p))) v n n j)

-- what is made of them: by f of the room where the field is good, else by f of no bytes
module _ {A : Type 0} (f : List ℕ → A) where
  abbrev pub if_good : Cell → List ℕ → A
  if_good c room = either (here c) (λ _. f room) (λ _. f [])

  pub exact_bytes : (n : ℕ) (s : List ℕ) (p : ℕ) → if_good (cell_at (Kind.arrays n n) s p) (read_into s p (replicate n 0)) ≡ f (bytes_in (cell_at (Kind.arrays n n) s p))
  unfolding cell_at
  exact_bytes n s zero = refl
  exact_bytes n s (suc zero) = refl
  exact_bytes n s (suc (suc p)) = go (judge (Kind.arrays n n) (shallow_at s (suc (suc p)))) refl
    where
      go : (o : Option Value) → judge (Kind.arrays n n) (shallow_at s (suc (suc p))) ≡ o → if_good (judged o) (read_into s (suc (suc p)) (replicate n 0)) ≡ f (bytes_in (judged o))
      go none e = refl
      go (some v) e = ap f (read_full n s v p e)

-- a text, as two numbers
abbrev letters : ℕ → List ℕ → ℕ → List ℕ
letters n s p = string_filled (judge (Kind.texts 0 n) (shallow_at s p)) (replicate n 0)

padded : (lo : ℕ) (v : Value) → IsString lo 16 v → sixteen_of (put_at (replicate 16 0) 0 (string_of v)) ≡ sixteen_of (string_of v)
padded lo _ (IsString.string d l h) = ap sixteen_of (put_zeros 16 d h) ∙ sixteen_padded (Cell.good (Value.string d))

pub text_bytes : (lo : ℕ) (s : List ℕ) (p : ℕ) → if_good sixteen_of (cell_at (Kind.texts lo 16) s p) (letters 16 s p) ≡ sixteen_in (cell_at (Kind.texts lo 16) s p)
unfolding cell_at
text_bytes lo s zero = refl
text_bytes lo s (suc zero) = refl
text_bytes lo s (suc (suc p)) = go (judge (Kind.texts lo 16) (shallow_at s (suc (suc p)))) refl
  where
    go : (o : Option Value) → judge (Kind.texts lo 16) (shallow_at s (suc (suc p))) ≡ o → if_good sixteen_of (judged o) (letters 16 s (suc (suc p))) ≡ sixteen_in (judged o)
    go none e = refl
    go (some v) e =
        ap sixteen_of (texts_put (shallow_at s (suc (suc p))) v lo 16 e (replicate 16 0))
        ∙ padded lo v (texts_are (shallow_at s (suc (suc p))) v lo 16 e)

there : (a : List ℕ) (at n x : ℕ) → n ≤ 8 → at + n ≤ length a → if_there a at n x ≡ x
there a at n x h l = simp (le-leb n 8 h, le-leb (at + n) (length a) l)

module _ (a : List ℕ) (good : Bool) where
  module _ (l : length a ≡ 16) where
    pub halves_are : good ≡ true → (x y : ℕ) → x ≡ if_there a 0 8 (big_at a 0 8) → y ≡ if_there a 8 8 (big_at a 8 8)
        → ◌≡◌ {A = Sixteen} (record { high = x; low = y }) (sixteen_if good a)
    unfolding sixteen_if
    halves_are t x y e f =
        let p : x ≡ big_at a 0 8 = e ∙ there a 0 8 (big_at a 0 8) (lit≤ tt) (omega arith) in
        let q : y ≡ big_at a 8 8 = f ∙ there a 8 8 (big_at a 8 8) (lit≤ tt) (omega arith) in
        simp t (cc)

  pub no_halves : good ≡ false → ◌≡◌ {A = Sixteen} (record { high = 0; low = 0 }) (sixteen_if good a)
  unfolding big_at sixteen_if
  no_halves t = sym (simp t)

  pub quarter_is : length a ≡ 4 → good ≡ true → (x : ℕ) → x ≡ if_there a 0 4 (big_at a 0 4) → x ≡ four_if good a
  unfolding four_if
  quarter_is l t x e = (e ∙ there a 0 4 (big_at a 0 4) (lit≤ tt) (omega arith)) ∙ sym (simp t)

  pub no_quarter : good ≡ false → 0 ≡ four_if good a
  unfolding big_at four_if
  no_quarter t = sym (simp t)

pub ruleset numbers = (halves_are, no_halves, quarter_is, no_quarter)

module _ (s a : List ℕ) (p i w r : ℕ) (j : Result ℕ Flaw) (flaw : Answer Flaw) where
  module _ (n : ℕ) (e : j ≡ told_of word_of (cell_at (Kind.arrays 0 n) s p)) (q : flaw ≡ exactly j n) where
    flaw_is : flaw ≡ flaw_of (cell_at (Kind.arrays n n) s p)
    flaw_is = q ∙ (ap (λ (x : Result ℕ Flaw). exactly x n) e ∙ exact_flaw n s p)

    made_is : {A : Type 0} (f : List ℕ → A) (v : A) (t : Bool) → is_some flaw ≡ not t → a ≡ read_into s p (replicate n 0) → v ≡ either t (λ _. f a) (λ _. f []) → v ≡ f (bytes_in (cell_at (Kind.arrays n n) s p))
    made_is f v t u b h =
        h ∙ (ap (λ (x : Bool). either x (λ _. f a) (λ _. f [])) (none_here (cell_at (Kind.arrays n n) s p) flaw flaw_is t u)
        ∙ (ap (if_good f (cell_at (Kind.arrays n n) s p)) b ∙ exact_bytes f n s p))

  module _ (g : (d : Cell) → flaw ≡ flaw_of d → r ≡ judged_as true i d w) where
    pub sixteen_is : j ≡ told_of word_of (cell_at (Kind.arrays 0 16) s p) → flaw ≡ exactly j 16 → a ≡ read_into s p (replicate 16 0)
        → (t : Bool) → is_some flaw ≡ not t → (v : Sixteen) → v ≡ sixteen_if t a → record { worst = r; value = v } ≡ held_as sixteen_in true i (cell_at bytes16 s p) w
    unfolding held_as sixteen_if
    sixteen_is e q b t u v h =
        let x = g (cell_at bytes16 s p) (flaw_is 16 e q) in
        let y = made_is 16 e q sixteen_of v t u b h in
        cc

    pub four_is : j ≡ told_of word_of (cell_at (Kind.arrays 0 4) s p) → flaw ≡ exactly j 4 → a ≡ read_into s p (replicate 4 0)
        → (t : Bool) → is_some flaw ≡ not t → (v : ℕ) → v ≡ four_if t a → record { worst = r; value = v } ≡ held_as four_in true i (cell_at bytes4 s p) w
    unfolding held_as four_if
    four_is e q b t u v h =
        let x = g (cell_at bytes4 s p) (flaw_is 4 e q) in
        let y = made_is 4 e q four_of v t u b h in
        cc

pub profile_is : (s a : List ℕ) (p i w r : ℕ) (j : Result ℕ Flaw) → j ≡ told_of word_of (cell_at profile_text s p) → (o : Answer Flaw) → o ≡ result_err j → ((d : Cell) → o ≡ flaw_of d → r ≡ judged_as false i d w)
    → (n : ℕ) → n ≡ result_unwrap_or j 0 → (b : Bool) → b ≡ is_ok j → a ≡ string_filled (judge (Kind.texts 0 16) (shallow_at s p)) (replicate 16 0)
    → (v : Sixteen) → v ≡ sixteen_if b a → record { worst = r; value = record { len = n; text = v } } ≡ held_as profile_in false i (cell_at profile_text s p) w
unfolding held_as sixteen_if
profile_is s a p i w r j e o q g n l b k f v h =
    let c = cell_at profile_text s p in
    let x = judged_told word_of c j e false i w r o q g in
    let y = value_told word_of c j e n l in
    let z : v ≡ sixteen_in c =
    h ∙ (ap (λ (y : Bool). either y (λ _. sixteen_of a) (λ _. sixteen_of [])) (here_told word_of c j e b k) ∙ (ap (if_good sixteen_of c) f ∙ text_bytes 1 s p)) in
    cc
