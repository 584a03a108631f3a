-- A key has one kind in a command's list, `kind_for`, and each list has a key once: each by one computed test over all lists. Assumes nothing.
use mathlib.Core.Path.{◌≡◌, refl, sym, ap, ◌∙◌}
use mathlib.Core.Bool.{Bool, true, false, not, ◌&&◌}
use mathlib.Core.List.{List, [], ◌∷◌}
use Prim.Native.Nat.{ℕ, zero, suc}
use lib.Dec.{T, eqb}
use Rattle.octets.specs.Choice.{either}
use Rattle.octets.proofs.Ranges.{both_left, both_right}
use Rattle.names.specs.Names.{bytes, same_bytes, downlink}
use Rattle.names.proofs.Same.{passed_eq}
use Rattle.field.specs.Kind.{Kind, signed64}
use Rattle.message.specs.Fields.{Field, headed, lists, list_in, downlink_fields, fields_of}

-- a test that every list passes
abbrev all_pass : (List Field → Bool) → List (List Field) → Bool
all_pass f [] = f (headed [])
all_pass f (l ∷ ls) = f l && all_pass f ls

passes_in : (f : List Field → Bool) (ls : List (List Field)) → T (all_pass f ls) → (c : ℕ) → T (f (list_in ls c))
unfolding list_in
passes_in f [] t c = t
passes_in f (l ∷ ls) t zero = both_left (f l) (all_pass f ls) t
passes_in f (l ∷ ls) t (suc c) = passes_in f ls (both_right (f l) (all_pass f ls) t) c

pub passes : (f : List Field → Bool) → T (f downlink_fields && all_pass f lists) → (c : ℕ) → T (f (fields_of c))
passes f t c = go (eqb c downlink)
  where
    go : (b : Bool) → T (f (either b (λ _. downlink_fields) (λ _. list_in lists c)))
    go true = both_left (f downlink_fields) (all_pass f lists) t
    go false = passes_in f lists (both_right (f downlink_fields) (all_pass f lists) t) c

-- a kind as numbers, and back: so two kinds are compared by a test
abbrev pub shown : Kind → List ℕ
shown (Kind.wholes lo hi) = 0 ∷ (lo ∷ (hi ∷ []))
shown (Kind.arrays lo hi) = 1 ∷ (lo ∷ (hi ∷ []))
shown (Kind.texts lo hi) = 2 ∷ (lo ∷ (hi ∷ []))
shown (Kind.counters many) = 3 ∷ (many ∷ (0 ∷ []))
shown (Kind.pieces many most all) = 4 ∷ (many ∷ (most ∷ (all ∷ [])))
shown Kind.reals = 0 ∷ []
shown Kind.flags = 1 ∷ []
shown Kind.positions = 2 ∷ []
shown Kind.versions = 3 ∷ []
shown Kind.words = 4 ∷ []
shown Kind.maps = 5 ∷ []
shown Kind.singles = 6 ∷ []

abbrev ranged : ℕ → ℕ → ℕ → Kind
ranged zero lo hi = Kind.wholes lo hi
ranged (suc zero) lo hi = Kind.arrays lo hi
ranged (suc (suc zero)) lo hi = Kind.texts lo hi
ranged (suc (suc (suc n))) lo hi = Kind.counters lo

abbrev simple : ℕ → Kind
simple zero = Kind.reals
simple (suc zero) = Kind.flags
simple (suc (suc zero)) = Kind.positions
simple (suc (suc (suc zero))) = Kind.versions
simple (suc (suc (suc (suc zero)))) = Kind.words
simple (suc (suc (suc (suc (suc zero))))) = Kind.maps
simple (suc (suc (suc (suc (suc (suc n)))))) = Kind.singles

abbrev meant : List ℕ → Kind
meant [] = Kind.maps
meant (n ∷ []) = simple n
meant (n ∷ (lo ∷ [])) = Kind.maps
meant (n ∷ (lo ∷ (hi ∷ []))) = ranged n lo hi
meant (n ∷ (many ∷ (most ∷ (all ∷ rest)))) = Kind.pieces many most all

shown_back : (k : Kind) → meant (shown k) ≡ k
shown_back (Kind.wholes lo hi) = refl
shown_back (Kind.arrays lo hi) = refl
shown_back (Kind.texts lo hi) = refl
shown_back Kind.reals = refl
shown_back Kind.flags = refl
shown_back Kind.positions = refl
shown_back Kind.versions = refl
shown_back Kind.words = refl
shown_back Kind.maps = refl
shown_back Kind.singles = refl
shown_back (Kind.counters many) = refl
shown_back (Kind.pieces many most all) = refl

abbrev pub same_kind : Kind → Kind → Bool
same_kind j k = same_bytes (shown j) (shown k)

pub same_kind_lem : (j k : Kind) → T (same_kind j k) → j ≡ k
same_kind_lem j k t = sym (shown_back j) ∙ ap meant (passed_eq (shown j) (shown k) t) ∙ shown_back k

-- the kind that a list gives a key; a map's where it has none
abbrev pub kind_by : List Field → List ℕ → Kind
kind_by [] u = Kind.maps
kind_by (f ∷ l) u = either (same_bytes f.key u) (λ _. f.kind) (λ _. kind_by l u)

-- the kind that a command's list gives a key
abbrev pub kind_for : ℕ → List ℕ → Kind
kind_for c u = kind_by (fields_of c) u

-- each field of l has the kind that a list gives its key
abbrev pub agreed_in : List Field → List Field → Bool
agreed_in own [] = true
agreed_in own (f ∷ l) = same_kind (kind_by own f.key) f.kind && agreed_in own l

abbrev pub agreed : ℕ → List Field → Bool
agreed c l = agreed_in (fields_of c) l

module _ (c : ℕ) (f : Field) (l : List Field) (a : T (agreed c (f ∷ l))) where
  pub first_agreed : f.kind ≡ kind_for c f.key
  first_agreed = sym (same_kind_lem (kind_for c f.key) f.kind (both_left (same_kind (kind_for c f.key) f.kind) (agreed c l) a))

  pub others_agreed : T (agreed c l)
  others_agreed = both_right (same_kind (kind_for c f.key) f.kind) (agreed c l) a

pub kinds_of : (c : ℕ) → T (agreed c (fields_of c))
unfolding lists
kinds_of c = passes (λ l. agreed_in l l) tt c

-- command and opId, in every list
pub command_kind : (c : ℕ) → kind_for c (bytes "command") ≡ Kind.words
unfolding lists
command_kind c = same_kind_lem (kind_for c (bytes "command")) Kind.words (passes (λ l. same_kind (kind_by l (bytes "command")) Kind.words) tt c)

pub id_kind : (c : ℕ) → kind_for c (bytes "opId") ≡ signed64
unfolding lists
id_kind c = same_kind_lem (kind_for c (bytes "opId")) signed64 (passes (λ l. same_kind (kind_by l (bytes "opId")) signed64) tt c)

-- a list has no such key; the keys of a list are distinct
abbrev pub lacks : List Field → List ℕ → Bool
lacks [] k = true
lacks (f ∷ l) k = not (same_bytes f.key k) && lacks l k

abbrev pub apart : List Field → Bool
apart [] = true
apart (f ∷ l) = lacks l f.key && apart l

pub keys_apart : (c : ℕ) → T (apart (fields_of c))
unfolding lists
keys_apart c = passes apart tt c
