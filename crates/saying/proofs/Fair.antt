-- What a cell without a fault holds, by its kind: nothing, or a value in the kind's range. Each kind's judging tests its range; that a real
-- which was read is finite and a binary64 holds for both formats, since a value of binary32 is one of binary64. Assumes nothing.
use mathlib.Core.Path.{◌≡◌, refl, sym, ap, subst, ◌∙◌}
use mathlib.Core.Bool.{Bool, true, false, ◌&&◌}
use mathlib.Core.{List.List, List.[], List.◌∷◌, Option.Option, Option.some, Option.none}
use Prim.Native.Nat.{ℕ, suc, ◌^◌}
use native.Mathlib.Omega.{arith}
use lib.Dec.{T, eqb, leb, ltb, leb-suc-suc}
use lib.{IntN.ℤ, IntN.pos, IntN.negsuc, IntN.nat_abs, ListN.length, Pow.are_bytes}
use lib.Ieee.{Float, Format, binary32, binary64, of_bits, of_int, to_bits, fits as holds}
use lib.Ieee.Bits.{of_bits-to_bits}
use lib.Ieee.Fits.{and_i, of_int-fits}
use Rattle.octets.specs.{Choice.either, Pieces.are_below, Pieces.strung}
use Rattle.element.specs.{Meaning.Element, Meaning.Elements, Meaning.Elements.no_more, Meaning.Elements.more}
use Rattle.element.specs.Meaning.Element.{null, truth, whole, single, double, text, octets, typed, list, table}
use Rattle.std.specs.Prelude.{Some, None}
use Rattle.number.specs.declared.Number.TheVariants.{Signed, Unsigned, Real}
use Rattle.number.specs.Number.{Found, number_of, finite}
use Rattle.number.proofs.Finite.{is_fin, bits_fin, bits_fit, valued_fin}
use Rattle.field.specs.Kind.{Kind, Value}
use Rattle.field.specs.Judge.{when, on_some, in_range, whole_in, whole_real, real_in, natural_in, truth_of, text_of, parts_of, naturals_in, octets_in, piece_in, pieces_in, reals_in, three_of, counts_sized, strings_sized, string_sized, judge}
use Rattle.field.specs.Version.{number_of_part, digits_from, at_most, released, three, version_of}
use Rattle.field.specs.Version as Version
use Rattle.field.specs.Cell.{Said, Cell, judged, cell_of}
use Rattle.field.proofs.Reals.{is_negative, whole_value}
use Rattle.message.specs.Reading.{cell_fault}
use Rattle.saying.specs.Fits.{is_real, is_sized, are_pieces}

-- a cell of a kind that a record keeps
pub data Fair : Kind → Cell → Type 0 where
  left : (k : Kind) → Fair k Cell.missing
  number : (lo hi : ℕ) (z : ℤ) → T (in_range lo hi z) → Fair (Kind.wholes lo hi) (Cell.good (Value.number z))
  figure : (x : Float) → T (is_real x) → Fair Kind.reals (Cell.good (Value.figure x))
  narrow : (x : Float) → T (is_real x) → T (holds binary32 x) → Fair Kind.singles (Cell.good (Value.figure x))
  mark : (b : Bool) → Fair Kind.flags (Cell.good (Value.mark b))
  position : (x y z : Float) → T (is_real x) → T (is_real y) → T (is_real z) → Fair Kind.positions (Cell.good (Value.position x y z))
  array : (lo hi : ℕ) (d : List ℕ) → T (is_sized lo hi d) → T (are_bytes d) → Fair (Kind.arrays lo hi) (Cell.good (Value.string d))
  counts : (many : ℕ) (ns : List ℕ) → T (leb (length ns) many) → T (are_below (2 ^ 32) ns) → Fair (Kind.counters many) (Cell.good (Value.counts ns))
  strings : (many most all : ℕ) (ds : List (List ℕ)) → T (leb (length ds) many && leb (length (strung ds)) all) → T (are_pieces most ds)
      → Fair (Kind.pieces many most all) (Cell.good (Value.strings ds))
  letters : (lo hi : ℕ) (d : List ℕ) → T (is_sized lo hi d) → Fair (Kind.texts lo hi) (Cell.good (Value.string d))
  release : (a b c : ℕ) → T (leb a 65535) → T (leb b 65535) → T (leb c 65535) → Fair Kind.versions (Cell.good (Value.release a b c))

fin_bits : (f : Format) (x : Float) → T (holds f x) → is_fin x ≡ finite f (to_bits f x)
fin_bits f x h = sym (ap is_fin (of_bits-to_bits f x h)) ∙ bits_fin f (to_bits f x)

fin_real : (x : Float) → T (holds binary64 x) → T (is_fin x) → T (is_real x)
fin_real x h t = and_i (finite binary64 (to_bits binary64 x)) (holds binary64 x) (subst T (fin_bits binary64 x h) t) h

bits_real : (f : Format) (n : ℕ) → T (finite f n) → T (is_real (of_bits f n))
bits_real f n t = fin_real (of_bits f n) (bits_fit f n) (subst T (sym (bits_fin f n)) t)

-- what is read as a real
abbrev RealRead : Found → Type 0
RealRead (Some (Signed z)) = Unit {0}
RealRead (Some (Unsigned n)) = Unit {0}
RealRead (Some (Real x)) = T (is_real x)
RealRead None = Unit {0}

bits_read : (f : Format) (n : ℕ) (b : Bool) → finite f n ≡ b → RealRead (either b (λ _. Some (Real (of_bits f n))) (λ _. None))
bits_read f n true e = bits_real f n (rw e tt)
bits_read f n false e = tt

real_read : (e : Element) → RealRead (number_of e)
real_read null = tt
real_read (truth b) = tt
real_read (whole (pos n)) = tt
real_read (whole (negsuc k)) = tt
real_read (single n) = bits_read binary32 n (finite binary32 n) refl
real_read (double n) = bits_read binary64 n (finite binary64 n) refl
real_read (text d) = tt
real_read (octets d) = tt
real_read (typed t d) = tt
real_read (list es) = tt
real_read (table fs) = tt

-- a property of what is there
abbrev Where : {A : Type 0} → (A → Type 0) → Option A → Type 0
Where P none = Unit {0}
Where P (some a) = P a

-- a whole number's real is finite, and a float 64 holds it
whole_in_lem : (z : ℤ) → Where (λ (x : Float). T (is_real x)) (whole_real z)
whole_in_lem z = go (in_range (2 ^ 53) (2 ^ 53) z) refl
  where
    go : (b : Bool) → in_range (2 ^ 53) (2 ^ 53) z ≡ b → Where (λ (x : Float). T (is_real x)) (either b (λ _. some (of_int binary64 z)) (λ _. none))
    go true e = fin_real (of_int binary64 z) (of_int-fits binary64 z) (valued_fin (of_int binary64 z) (is_negative z) (nat_abs z) 1 (whole_value z (rw e tt)))
    go false e = tt

real_in_lem : (n : Found) → RealRead n → Where (λ (x : Float). T (is_real x)) (real_in n)
real_in_lem (Some (Signed z)) t = whole_in_lem z
real_in_lem (Some (Unsigned n)) t = whole_in_lem (pos n)
real_in_lem (Some (Real x)) t = t
real_in_lem None t = tt

abbrev AllReal : List Float → Type 0
AllReal [] = Unit {0}
AllReal (x ∷ xs) = T (is_real x) × AllReal xs

reals_in_lem : (es : Elements) → Where AllReal (reals_in es)
unfolding reals_in
reals_in_lem no_more = tt
reals_in_lem (more e es) = go (real_in (number_of e)) (real_in_lem (number_of e) (real_read e)) (reals_in es) (reals_in_lem es)
  where
    go : (o : Option Float) → Where (λ (x : Float). T (is_real x)) o → (p : Option (List Float)) → Where AllReal p → Where AllReal (on_some o (λ x. on_some p (λ xs. some (x ∷ xs))))
    go none t p u = tt
    go (some x) t none u = tt
    go (some x) t (some xs) u = (t, u)

natural_in_lem : (hi : ℕ) (n : Found) → Where (λ (b : ℕ). T (ltb b (suc hi))) (natural_in hi n)
natural_in_lem hi (Some (Signed z)) = tt
natural_in_lem hi (Some (Unsigned n)) = go (leb n hi) refl
  where
    go : (b : Bool) → leb n hi ≡ b → Where (λ (b : ℕ). T (ltb b (suc hi))) (either b (λ _. some n) (λ _. none))
    go true e = rw (leb-suc-suc, e) tt
    go false e = tt
natural_in_lem hi (Some (Real x)) = tt
natural_in_lem hi None = tt

-- a test of lists that holds of none, and of one number more up to hi
module _ (hi : ℕ) (test : List ℕ → Bool) (nothing : T (test [])) (one_more : (n : ℕ) (ns : List ℕ) → T (ltb n (suc hi)) → T (test ns) → T (test (n ∷ ns))) where
  naturals_in_lem : (es : Elements) → Where (λ (ns : List ℕ). T (test ns)) (naturals_in hi es)
  unfolding naturals_in
  naturals_in_lem no_more = nothing
  naturals_in_lem (more e es) = go (natural_in hi (number_of e)) (natural_in_lem hi (number_of e)) (naturals_in hi es) (naturals_in_lem es)
    where
      go : (o : Option ℕ) → Where (λ (n : ℕ). T (ltb n (suc hi))) o → (p : Option (List ℕ)) → Where (λ (ns : List ℕ). T (test ns)) p
          → Where (λ (ns : List ℕ). T (test ns)) (on_some o (λ n. on_some p (λ ns. some (n ∷ ns))))
      go none t p u = tt
      go (some n) t none u = tt
      go (some n) t (some ns) u = one_more n ns t u

octets_in_lem : (es : Elements) → Where (λ (d : List ℕ). T (are_bytes d)) (octets_in es)
octets_in_lem es = naturals_in_lem 255 are_bytes tt (λ b bs t u. and_i (ltb b 256) (are_bytes bs) t u) es

counters_in : (es : Elements) → Where (λ (ns : List ℕ). T (are_below (2 ^ 32) ns)) (naturals_in 0xFFFFFFFF es)
counters_in es = naturals_in_lem 0xFFFFFFFF (are_below (2 ^ 32)) tt (λ n ns t u. and_i (ltb n (2 ^ 32)) (are_below (2 ^ 32) ns) t u) es

-- arrays of so many bytes
module _ (most : ℕ) where
  abbrev IsPiece : List ℕ → Type 0
  IsPiece d = T (leb (length d) most && are_bytes d)

  piece_in_lem : (e : Element) → Where IsPiece (piece_in most e)
  piece_in_lem e = go (parts_of e)
    where
      sized : (d : List ℕ) → T (are_bytes d) → (b : Bool) → leb (length d) most ≡ b → Where IsPiece (either b (λ _. some d) (λ _. none))
      sized d t true q = and_i (leb (length d) most) (are_bytes d) (rw q tt) t
      sized d t false q = tt

      bytes : (o : Option (List ℕ)) → Where (λ (d : List ℕ). T (are_bytes d)) o → Where IsPiece (on_some o (λ d. either (leb (length d) most) (λ _. some d) (λ _. none)))
      bytes none t = tt
      bytes (some d) t = sized d t (leb (length d) most) refl

      go : (o : Option Elements) → Where IsPiece (on_some o (λ es. on_some (octets_in es) (λ d. either (leb (length d) most) (λ _. some d) (λ _. none))))
      go none = tt
      go (some es) = bytes (octets_in es) (octets_in_lem es)

  pieces_in_lem : (es : Elements) → Where (λ (ds : List (List ℕ)). T (are_pieces most ds)) (pieces_in most es)
  unfolding pieces_in are_pieces
  pieces_in_lem no_more = tt
  pieces_in_lem (more e es) = go (piece_in most e) (piece_in_lem e) (pieces_in most es) (pieces_in_lem es)
    where
      go : (o : Option (List ℕ)) → Where IsPiece o → (p : Option (List (List ℕ))) → Where (λ (ds : List (List ℕ)). T (are_pieces most ds)) p
          → Where (λ (ds : List (List ℕ)). T (are_pieces most ds)) (on_some o (λ d. on_some p (λ ds. some (d ∷ ds))))
      go none t p u = tt
      go (some d) t none u = tt
      go (some d) t (some ds) u = and_i (leb (length d) most && are_bytes d) (are_pieces most ds) t u

-- a version's numbers
abbrev small : ℕ → Type 0
small n = T (leb n 65535)

at_most_lem : (o : Option ℕ) → Where small (at_most 65535 o)
at_most_lem none = tt
at_most_lem (some n) = go (leb n 65535) refl
  where
    go : (b : Bool) → leb n 65535 ≡ b → Where small (either b (λ _. some n) (λ _. none))
    go true e = rw e tt
    go false e = tt

part_small : (d : List ℕ) → Where small (number_of_part d)
part_small [] = tt
part_small (c ∷ []) = at_most_lem (digits_from 0 (c ∷ []))
part_small (c ∷ (d ∷ cs)) = go (eqb c 0x30)
  where
    go : (b : Bool) → Where small (either b (λ _. none) (λ _. at_most 65535 (digits_from 0 (c ∷ (d ∷ cs)))))
    go true = tt
    go false = at_most_lem (digits_from 0 (c ∷ (d ∷ cs)))

-- neither invalid nor twice
abbrev pub is_sound : Cell → Bool
is_sound Cell.missing = true
is_sound Cell.double = false
is_sound Cell.bad = false
is_sound (Cell.good v) = true

pub sound : (must : Bool) (c : Cell) → cell_fault must c ≡ 0 → T (is_sound c)
sound must Cell.missing e = tt
sound must Cell.double e = absurd (omega arith)
sound must Cell.bad e = absurd (omega arith)
sound must (Cell.good v) e = tt

-- a kind whose values a record keeps
abbrev pub is_kept : Kind → Bool
is_kept (Kind.wholes lo hi) = true
is_kept Kind.reals = true
is_kept Kind.singles = true
is_kept Kind.flags = true
is_kept Kind.positions = true
is_kept (Kind.arrays lo hi) = true
is_kept (Kind.counters many) = true
is_kept (Kind.pieces many most all) = true
is_kept (Kind.texts lo hi) = true
is_kept Kind.versions = true
is_kept Kind.words = false
is_kept Kind.maps = false

-- from what an element is worth
abbrev FairIf : Kind → Option Value → Type 0
FairIf k o = T (is_sound (judged o)) → Fair k (judged o)

fair_when : (k : Kind) (b : Bool) (v : Value) → (T b → Fair k (Cell.good v)) → FairIf k (when b v)
fair_when k true v f t = f tt
fair_when k false v f t = absurd t

whole_fair : (lo hi : ℕ) (n : Found) → FairIf (Kind.wholes lo hi) (whole_in lo hi n)
whole_fair lo hi (Some (Signed z)) = fair_when (Kind.wholes lo hi) (in_range lo hi z) (Value.number z) (Fair.number lo hi z)
whole_fair lo hi (Some (Unsigned n)) = fair_when (Kind.wholes lo hi) (leb n hi) (Value.number (pos n)) (Fair.number lo hi (pos n))
whole_fair lo hi (Some (Real x)) = λ t. absurd t
whole_fair lo hi None = λ t. absurd t

real_fair : (o : Option Float) → Where (λ (x : Float). T (is_real x)) o → FairIf Kind.reals (on_some o (λ x. some (Value.figure x)))
real_fair none r t = absurd t
real_fair (some x) r t = Fair.figure x r

single_fair : (o : Option Float) → Where (λ (x : Float). T (is_real x)) o → FairIf Kind.singles (on_some o (λ x. when (holds binary32 x) (Value.figure x)))
single_fair none r t = absurd t
single_fair (some x) r t = fair_when Kind.singles (holds binary32 x) (Value.figure x) (λ h. Fair.narrow x r h) t

flag_fair : (o : Option Bool) → FairIf Kind.flags (on_some o (λ b. some (Value.mark b)))
flag_fair none t = absurd t
flag_fair (some b) t = Fair.mark b

position_fair : (xs : List Float) → AllReal xs → FairIf Kind.positions (three_of xs)
position_fair [] r t = absurd t
position_fair (x ∷ []) r t = absurd t
position_fair (x ∷ (y ∷ [])) r t = absurd t
position_fair (x ∷ (y ∷ (z ∷ []))) r t = Fair.position x y z r.0 r.1.0 r.1.1.0
position_fair (x ∷ (y ∷ (z ∷ (w ∷ rest)))) r t = absurd t

place_fair : (o : Option Elements) → FairIf Kind.positions (on_some o (λ es. on_some (reals_in es) three_of))
place_fair none t = absurd t
place_fair (some es) t = go (reals_in es) (reals_in_lem es) t
  where
    go : (p : Option (List Float)) → Where AllReal p → FairIf Kind.positions (on_some p three_of)
    go none r t = absurd t
    go (some xs) r t = position_fair xs r t

array_fair : (lo hi : ℕ) (o : Option Elements) → FairIf (Kind.arrays lo hi) (on_some o (λ es. on_some (octets_in es) (string_sized lo hi)))
array_fair lo hi none t = absurd t
array_fair lo hi (some es) t = go (octets_in es) (octets_in_lem es) t
  where
    go : (p : Option (List ℕ)) → Where (λ (d : List ℕ). T (are_bytes d)) p → FairIf (Kind.arrays lo hi) (on_some p (string_sized lo hi))
    go none r t = absurd t
    go (some d) r t = fair_when (Kind.arrays lo hi) (is_sized lo hi d) (Value.string d) (λ s. Fair.array lo hi d s r) t

counts_fair : (many : ℕ) (o : Option Elements) → FairIf (Kind.counters many) (on_some o (λ es. on_some (naturals_in 0xFFFFFFFF es) (counts_sized many)))
counts_fair many none t = absurd t
counts_fair many (some es) t = go (naturals_in 0xFFFFFFFF es) (counters_in es) t
  where
    go : (p : Option (List ℕ)) → Where (λ (ns : List ℕ). T (are_below (2 ^ 32) ns)) p → FairIf (Kind.counters many) (on_some p (counts_sized many))
    go none r t = absurd t
    go (some ns) r t = fair_when (Kind.counters many) (leb (length ns) many) (Value.counts ns) (λ s. Fair.counts many ns s r) t

strings_fair : (many most all : ℕ) (o : Option Elements) → FairIf (Kind.pieces many most all) (on_some o (λ es. on_some (pieces_in most es) (strings_sized many all)))
strings_fair many most all none t = absurd t
strings_fair many most all (some es) t = go (pieces_in most es) (pieces_in_lem most es) t
  where
    go : (p : Option (List (List ℕ))) → Where (λ (ds : List (List ℕ)). T (are_pieces most ds)) p → FairIf (Kind.pieces many most all) (on_some p (strings_sized many all))
    go none r t = absurd t
    go (some ds) r t =
        fair_when (Kind.pieces many most all) (leb (length ds) many && leb (length (strung ds)) all) (Value.strings ds) (λ s. Fair.strings many most all ds s r) t

text_fair : (lo hi : ℕ) (o : Option (List ℕ)) → FairIf (Kind.texts lo hi) (on_some o (string_sized lo hi))
text_fair lo hi none t = absurd t
text_fair lo hi (some d) t = fair_when (Kind.texts lo hi) (is_sized lo hi d) (Value.string d) (Fair.letters lo hi d) t

released_fair : (a b c : Option ℕ) → Where small a → Where small b → Where small c → FairIf Kind.versions (released a b c)
released_fair (some a) (some b) (some c) p q r t = Fair.release a b c p q r
released_fair (some a) (some b) none p q r t = absurd t
released_fair (some a) none c p q r t = absurd t
released_fair none b c p q r t = absurd t

three_fair : (ps : List (List ℕ)) → FairIf Kind.versions (three ps)
three_fair [] t = absurd t
three_fair (a ∷ []) t = absurd t
three_fair (a ∷ (b ∷ [])) t = absurd t
three_fair (a ∷ (b ∷ (c ∷ []))) t = released_fair (number_of_part a) (number_of_part b) (number_of_part c) (part_small a) (part_small b) (part_small c) t
three_fair (a ∷ (b ∷ (c ∷ (d ∷ rest)))) t = absurd t

version_fair : (o : Option (List ℕ)) → FairIf Kind.versions (on_some o version_of)
unfolding version_of
version_fair none t = absurd t
version_fair (some d) t = three_fair (Version.cut_at_dots d) t

judge_fair : (k : Kind) (e : Element) → T (is_kept k) → FairIf k (judge k e)
unfolding judge
judge_fair (Kind.wholes lo hi) e u = whole_fair lo hi (number_of e)
judge_fair Kind.reals e u = real_fair (real_in (number_of e)) (real_in_lem (number_of e) (real_read e))
judge_fair Kind.singles e u = single_fair (real_in (number_of e)) (real_in_lem (number_of e) (real_read e))
judge_fair Kind.flags e u = flag_fair (truth_of e)
judge_fair Kind.positions e u = place_fair (parts_of e)
judge_fair (Kind.arrays lo hi) e u = array_fair lo hi (parts_of e)
judge_fair (Kind.counters many) e u = counts_fair many (parts_of e)
judge_fair (Kind.pieces many most all) e u = strings_fair many most all (parts_of e)
judge_fair (Kind.texts lo hi) e u = text_fair lo hi (text_of e)
judge_fair Kind.versions e u = version_fair (text_of e)
judge_fair Kind.words e u = absurd u
judge_fair Kind.maps e u = absurd u

pub cell_fair : (k : Kind) → T (is_kept k) → (s : Said) → T (is_sound (cell_of k s)) → Fair k (cell_of k s)
cell_fair k u Said.absent t = Fair.left k
cell_fair k u (Said.once e) t = judge_fair k e u t
cell_fair k u Said.twice t = absurd t
