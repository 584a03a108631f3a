-- Arrays of arrays of bytes: whether the arrays that are left fit what is left of the bytes is whether all fit. Each law in the shape of a need
-- of the code. Assumes nothing.
use mathlib.Core.Path.{◌≡◌, refl, sym, ap, ap₂, ◌∙◌}
use mathlib.Core.Bool.{Bool, true, false}
use mathlib.Core.{List.List, List.[], List.◌∷◌, List.◌++◌, Option.Option, Option.some, Option.none}
use Prim.Native.Nat.{ℕ, zero, suc, ◌+◌, ◌-◌, ◌≤◌, ◌<◌, min}
use native.Mathlib.Nat.{sub-zero}
use native.Mathlib.Omega.{arith}
use lib.{Dec.leb, ListN.length, ListN.length-append}
use borrow.Author.Tests.{le-leb, lt-leb, leb-true, leb-false}
use Rattle.octets.specs.Pieces.{strung}
use Rattle.octets.proofs.Ranges.{true_false}
use Rattle.element.specs.{Form.span_of, Meaning.Elements}
use Rattle.std.specs.Prelude.{Option as Answer, Some, None}
use Rattle.field.specs.declared.{Extent.Extent, Piece.Piece}
use Rattle.field.specs.{Kind.Kind, Cell.word_of, Code.Extent.Lists}
use Rattle.field.specs.Judge.{on_some, piece_in, pieces_in, strings_sized, judge}
use Rattle.field.specs.Code.At.{shallow_at, nested_end, nested_from, nested_at}
use Rattle.field.specs.Code.Item.{piece_at, pieces_from}
use Rattle.field.specs.Code.Read.{tell, read_at}
use Rattle.field.proofs.{Arrays.joined_length, Nested.nested_in, Nested.nested_parts, Nested.is_piece, Nested.piece_wide, Nested.piece_is, Nested.piece_none}

-- one array more in front
abbrev pub more : Option (List ℕ) → Option (List (List ℕ)) → Option (List (List ℕ))
more o m = on_some o (λ d. on_some m (λ ds. some (d ∷ ds)))

pub pieces_more : (most : ℕ) (s : List ℕ) (k q : ℕ) → 0 < k → pieces_from most s k q ≡ more (piece_in most (shallow_at s q)) (pieces_from most s (k - 1) (nested_end s q (span_of s q)))
unfolding pieces_from pieces_in nested_from
pieces_more most s k q p =
    let j : k ≡ suc (k - 1) = omega arith in
    ap (λ (n : ℕ). pieces_from most s n q) j

pub pieces_zero : (most : ℕ) (s : List ℕ) (k q : ℕ) → k ≤ 0 → pieces_from most s k q ≡ some []
unfolding pieces_from pieces_in nested_from
pieces_zero most s k q h =
    let z : k ≡ 0 = omega arith in
    ap (λ (n : ℕ). pieces_from most s n q) z

pub length_pieces : (most : ℕ) (s : List ℕ) (n at : ℕ) (ds : List (List ℕ)) → pieces_from most s n at ≡ some ds → length ds ≡ n
unfolding pieces_from pieces_in nested_from
length_pieces most s zero at ds e = let z : [] ≡ ds = cc in rw (← z)
length_pieces most s (suc n) at ds e =
    let next = nested_end s at (span_of s at) in
    joined_length n ds (piece_in most (shallow_at s at)) (pieces_from most s n next) (λ es. length_pieces most s n next es) e

-- there are arrays, of at most so many bytes together
abbrev pub fitting : ℕ → Option (List (List ℕ)) → Bool
fitting room none = false
fitting room (some ds) = leb (length (strung ds)) room

module _ (d : List ℕ) (room : ℕ) where
  fit_more : (m : Option (List (List ℕ))) → length d ≤ room → fitting (room - length d) m ≡ fitting room (more (some d) m)
  unfolding strung
  fit_more none h = refl
  fit_more (some ds) h = go (leb (length (strung ds)) (room - length d)) refl
    where
      go : (t : Bool) → leb (length (strung ds)) (room - length d) ≡ t → t ≡ leb (length (d ++ strung ds)) room
      go true e = sym (le-leb (length (d ++ strung ds)) room (omega (arith, length-append d (strung ds), leb-true (length (strung ds)) (room - length d) e)))
      go false e = sym (lt-leb (length (d ++ strung ds)) room (omega (arith, length-append d (strung ds), leb-false (length (strung ds)) (room - length d) e)))

  fit_over : (m : Option (List (List ℕ))) → room < length d → false ≡ fitting room (more (some d) m)
  unfolding strung
  fit_over none h = refl
  fit_over (some ds) h = sym (lt-leb (length (d ++ strung ds)) room (omega (arith, length-append d (strung ds))))

-- one array, of those that are left: no longer than it may be, and than what is left of the bytes
module _ (most : ℕ) (s : List ℕ) (n i q room : ℕ) (t : Bool) (g : fitting room (pieces_from most s (n - i) q) ≡ t) where
  module _ (bound : ℕ) (b : bound ≡ min most room) (x : Answer Piece) (e : x ≡ piece_at bound s q) where
    pub fit_few : (p : Piece) → x ≡ Some p → p.size ≤ room
    fit_few p f =
        let (d, j, l, m) = piece_is bound s q x e p f in
        omega (arith, (is_piece bound (shallow_at s q) d j).1)

    module _ (h : i < n) where
      fit_by : (o : Option (List ℕ)) → piece_in most (shallow_at s q) ≡ o → fitting room (more o (pieces_from most s (n - (i + 1)) (nested_end s q (span_of s q)))) ≡ t
      fit_by o f =
          let z : n - i - 1 ≡ n - (i + 1) = omega arith in
          sym (ap (fitting room) (pieces_more most s (n - i) q (omega arith) ∙ ap₂ (λ (k : ℕ) (j : Option (List ℕ)). more j (pieces_from most s k (nested_end s q (span_of s q)))) z f)) ∙ g

      pub fit_next : (p : Piece) → x ≡ Some p → fitting (room - p.size) (pieces_from most s (n - (i + 1)) p.next) ≡ t
      fit_next p f =
          let (d, j, l, m) = piece_is bound s q x e p f in
          let (y, k) = is_piece bound (shallow_at s q) d j in
          ap₂ (λ (a c : ℕ). fitting (room - a) (pieces_from most s (n - (i + 1)) c)) (sym l) (sym m)
          ∙ fit_more d room (pieces_from most s (n - (i + 1)) (nested_end s q (span_of s q))) (omega arith)
          ∙ fit_by (some d) (piece_wide (shallow_at s q) d y most (omega arith))

      fit_none : x ≡ None → false ≡ t
      fit_none f = go (piece_in most (shallow_at s q)) refl
        where
          long : (d : List ℕ) → piece_in most (shallow_at s q) ≡ some d → (c : Bool) → leb (length d) room ≡ c → false ≡ t
          long d j false h = fit_over d room (pieces_from most s (n - (i + 1)) (nested_end s q (span_of s q))) (leb-false (length d) room h) ∙ fit_by (some d) j
          long d j true h =
              let (y, l) = is_piece most (shallow_at s q) d j in
              let u = piece_wide (shallow_at s q) d y bound (omega (arith, leb-true (length d) room h)) in
              let v = piece_none bound s q x e f in
              absurd (let z : ◌≡◌ {A = ℕ} 0 1 = cc in omega arith)

          go : (o : Option (List ℕ)) → piece_in most (shallow_at s q) ≡ o → false ≡ t
          go none j = fit_by none j
          go (some d) j = long d j (leb (length d) room) refl

  fit_done : n ≤ i → true ≡ t
  unfolding strung
  fit_done h = sym (le-leb 0 room (omega arith)) ∙ sym (ap (fitting room) (pieces_zero most s (n - i) q (omega arith))) ∙ g

-- what is said of n arrays
module _ (most : ℕ) (s : List ℕ) (n from all : ℕ) where
  abbrev said : Answer ℕ
  said = tell word_of (on_some (pieces_from most s n from) (strings_sized n all))

  pieces_are : true ≡ fitting all (pieces_from most s n from) → Some n ≡ said
  unfolding tell
  pieces_are = go (pieces_from most s n from) refl
    where
      go : (o : Option (List (List ℕ))) → pieces_from most s n from ≡ o → true ≡ fitting all o → Some n ≡ tell word_of (on_some o (strings_sized n all))
      go none q y = true_false y
      go (some ds) q y =
          let i = length_pieces most s n from ds q in
          ap (λ (k : ℕ). Some k) (sym i) ∙ sym (simp (le-leb (length ds) n (omega arith), sym y))

  pieces_not : false ≡ fitting all (pieces_from most s n from) → None ≡ said
  unfolding tell
  pieces_not = go (pieces_from most s n from) refl
    where
      go : (o : Option (List (List ℕ))) → pieces_from most s n from ≡ o → false ≡ fitting all o → None ≡ tell word_of (on_some o (strings_sized n all))
      go none q y = refl
      go (some ds) q y =
          let i = length_pieces most s n from ds q in
          sym (simp (le-leb (length ds) n (omega arith), sym y))

  module _ (i q room : ℕ) (g : fitting room (pieces_from most s (n - i) q) ≡ fitting all (pieces_from most s n from)) where
    pub pieces_end : n ≤ i → Some n ≡ tell word_of (on_some (pieces_from most s n from) (strings_sized n all))
    pieces_end h = pieces_are (fit_done most s n i q room (fitting all (pieces_from most s n from)) g h)

    pub pieces_stop : (bound : ℕ) → bound ≡ min most room → (x : Answer Piece) → x ≡ piece_at bound s q → i < n → x ≡ None → None ≡ tell word_of (on_some (pieces_from most s n from) (strings_sized n all))
    pieces_stop bound b x f p h = pieces_not (fit_none most s n i q room (fitting all (pieces_from most s n from)) g bound b x f p h)

pub ruleset fittings = (sub-zero, fit_few, fit_next, pieces_end, pieces_stop, arith)

-- no more than there may be
module _ (most : ℕ) (s : List ℕ) (n from many all : ℕ) where
  pieces_few : n ≤ many → on_some (pieces_from most s n from) (strings_sized n all) ≡ on_some (pieces_from most s n from) (strings_sized many all)
  pieces_few h = go (pieces_from most s n from) refl
    where
      go : (o : Option (List (List ℕ))) → pieces_from most s n from ≡ o → on_some o (strings_sized n all) ≡ on_some o (strings_sized many all)
      go none q = refl
      go (some ds) q =
          let i = length_pieces most s n from ds q in
          simp (le-leb (length ds) n (omega arith), le-leb (length ds) many (omega arith))

  pieces_over : many < n → on_some (pieces_from most s n from) (strings_sized many all) ≡ none
  pieces_over h = go (pieces_from most s n from) refl
    where
      go : (o : Option (List (List ℕ))) → pieces_from most s n from ≡ o → on_some o (strings_sized many all) ≡ none
      go none q = refl
      go (some ds) q = simp (lt-leb (length ds) many (omega (arith, length_pieces most s n from ds q)))

-- the array at a place
module _ (s : List ℕ) (at : ℕ) (a : Answer Extent) (y : Lists s at a) (many most all : ℕ) where
  pub judged_by : (o : Answer Extent) → a ≡ o → on_some (nested_in s o) (λ es. on_some (pieces_in most es) (strings_sized many all)) ≡ judge (Kind.pieces many most all) (nested_at s at)
  unfolding judge
  judged_by o e = ap (λ (p : Option Elements). on_some p (λ es. on_some (pieces_in most es) (strings_sized many all))) (sym (nested_parts s at a y o e))

  pub pieces_nowhere : a ≡ None → None ≡ read_at word_of (Kind.pieces many most all) s at
  unfolding read_at tell
  pieces_nowhere e = ap (tell word_of) (judged_by None e)

  module _ (x : Extent) (e : a ≡ Some x) where
    pub pieces_good : x.size ≤ many → (r : Answer ℕ) → r ≡ tell word_of (on_some (pieces_from most s x.size x.from) (strings_sized x.size all)) → r ≡ read_at word_of (Kind.pieces many most all) s at
    unfolding read_at pieces_from
    pieces_good h r q = q ∙ ap (tell word_of) (pieces_few most s x.size x.from many all h ∙ judged_by (Some x) e)

    pub pieces_many : many < x.size → None ≡ read_at word_of (Kind.pieces many most all) s at
    unfolding read_at pieces_from tell
    pieces_many h = ap (tell word_of) (sym (pieces_over most s x.size x.from many all h) ∙ judged_by (Some x) e)

pub ruleset entries = (pieces_good, pieces_many, pieces_nowhere, arith)
