-- A default left out changes what is said of its key to nothing, and both are kept as 0; so what two messages say of a field is alike through every change.
-- Assumes nothing.
use mathlib.Core.Path.{◌≡◌, refl, sym, ap, subst, ◌∙◌}
use mathlib.Core.Bool.{Bool, true, false, not, ◌&&◌, ◌||◌}
use mathlib.Core.List.{List, [], ◌∷◌}
use Prim.Native.Nat.{ℕ}
use lib.{Dec.T, IntN.pos}
use lib.Ieee.{of_bits, of_int, fits}
use Rattle.element.specs.{Tree.Tree, Tree.Pairs, Tree.Pairs.pair, Meaning.Element.whole, Meaning.Element.single, Meaning.Element.double}
use Rattle.element.specs.Meaning.{Element, key_of, meaning_of, meaning_of_pairs}
use Rattle.octets.proofs.Ranges.{true_false, is_false, both_left, both_right}
use Rattle.names.specs.Names.{bytes, same_bytes}
use Rattle.names.proofs.Same.{same_eq}
use Rattle.field.specs.{Kind.Kind, Kind.unsigned8, Judge.judge}
use Rattle.field.specs.Cell.{Said, judged, cell_of, zero64}
use Rattle.message.specs.Fields.{Field, lists, fields_of}
use Rattle.message.specs.Record.{word_in, figure_in}
use Rattle.message.specs.Reading.{said_of, cell_fault}
use Rattle.message.proofs.KeyKinds.{passes, same_kind, same_kind_lem}
use Rattle.promises.specs.Steady.{Default, Changed}
use Rattle.promises.proofs.SaidOfKeys.{Seen, Ours, rearranged_said, put_own, put_other}
use Rattle.promises.proofs.SaidOfKeys.Seen.{equal, once}

-- a key that has a default
abbrev pub is_default : List ℕ → Bool
is_default k = same_bytes (bytes "format") k || same_bytes (bytes "prio") k

-- what two messages say of a field is alike: it has the same fault, the same word and the same figure, and but for a default the same cell
pub record SaidAlike (f : Field) (x y : Said) : Type 0 where
  pub fault : cell_fault f.must (cell_of f.kind x) ≡ cell_fault f.must (cell_of f.kind y)
  pub word : word_in (cell_of f.kind x) ≡ word_in (cell_of f.kind y)
  pub figure : figure_in (cell_of f.kind x) ≡ figure_in (cell_of f.kind y)
  pub cell : is_default f.key ≡ false → cell_of f.kind x ≡ cell_of f.kind y

module _ (f : Field) where
  alike_next : {x y z : Said} → SaidAlike f x y → SaidAlike f y z → SaidAlike f x z
  alike_next a b = record { fault = a.fault ∙ b.fault; word = a.word ∙ b.word; figure = a.figure ∙ b.figure; cell = λ n. a.cell n ∙ b.cell n }

  alike_back : {x y : Said} → SaidAlike f x y → SaidAlike f y x
  alike_back a = record { fault = sym a.fault; word = sym a.word; figure = sym a.figure; cell = λ n. sym (a.cell n) }

  same_cell : {x y : Said} → Seen (judge f.kind) x y → cell_of f.kind x ≡ cell_of f.kind y
  same_cell (equal e) = ap (cell_of f.kind) e
  same_cell (once p) = ap judged p

  seen_alike : {x y : Said} → Seen (judge f.kind) x y → SaidAlike f x y
  seen_alike s = let e = same_cell s in record { fault = ap (cell_fault f.must) e; word = ap word_in e; figure = ap figure_in e; cell = λ n. e }

-- a field with a default may be absent, and has the kind that its default is of: one computed test over the lists
abbrev is_kind_of : Kind → Field → Bool
is_kind_of k f = same_kind f.kind k && not f.must

abbrev pub default_fits : Field → Bool
default_fits f =
    (not (same_bytes f.key (bytes "format")) || is_kind_of unsigned8 f) && (not (same_bytes f.key (bytes "prio")) || is_kind_of Kind.singles f)

abbrev pub defaults_fit : List Field → Bool
defaults_fit [] = true
defaults_fit (f ∷ l) = default_fits f && defaults_fit l

pub fields_fit : (c : ℕ) → T (defaults_fit (fields_of c))
unfolding lists
fields_fit c = passes defaults_fit tt c

-- what is worth nothing, and what is worth a zero
record Nought (k : Kind) (e : Element) : Type 0 where
  fault : cell_fault false (cell_of k (Said.once e)) ≡ 0
  word : word_in (cell_of k (Said.once e)) ≡ 0
  figure : figure_in (cell_of k (Said.once e)) ≡ zero64

zero_octet : Nought unsigned8 (whole (pos 0))
unfolding judge
zero_octet = record { fault = refl; word = refl; figure = refl }

zero_prio : Nought Kind.singles (whole (pos 0))
unfolding judge of_int of_bits fits
zero_prio = record { fault = refl; word = refl; figure = refl }

zero_prio32 : Nought Kind.singles (single 0)
unfolding judge of_bits fits
zero_prio32 = record { fault = refl; word = refl; figure = refl }

zero_prio64 : Nought Kind.singles (double 0)
unfolding judge of_bits fits
zero_prio64 = record { fault = refl; word = refl; figure = refl }

module _ (f : Field) (t : T (default_fits f)) where
  abbrev given : List ℕ → Bool
  given k = same_bytes f.key k

  optional : (k : Kind) → T (is_kind_of k f) → (f.kind ≡ k) × (f.must ≡ false)
  optional k t =
      (same_kind_lem f.kind k (both_left (same_kind f.kind k) (not f.must) t), sym (is_false f.must (both_right (same_kind f.kind k) (not f.must) t)))

  as_format : given (bytes "format") ≡ true → (f.kind ≡ unsigned8) × (f.must ≡ false)
  as_format s =
      optional unsigned8
      (subst (λ (b : Bool). T (not b || is_kind_of unsigned8 f)) s
      (both_left (not (given (bytes "format")) || is_kind_of unsigned8 f) (not (given (bytes "prio")) || is_kind_of Kind.singles f) t))

  as_prio : given (bytes "prio") ≡ true → (f.kind ≡ Kind.singles) × (f.must ≡ false)
  as_prio s =
      optional Kind.singles
      (subst (λ (b : Bool). T (not b || is_kind_of Kind.singles f)) s
      (both_right (not (given (bytes "format")) || is_kind_of unsigned8 f) (not (given (bytes "prio")) || is_kind_of Kind.singles f) t))

  nought_of : (u : List ℕ) (e : Element) → Default u e → given u ≡ true → Nought f.kind e × (f.must ≡ false)
  nought_of u e Default.format s = rw (as_format s).0 (zero_octet, (as_format s).1)
  nought_of u e Default.prio s = rw (as_prio s).0 (zero_prio, (as_prio s).1)
  nought_of u e Default.prio32 s = rw (as_prio s).0 (zero_prio32, (as_prio s).1)
  nought_of u e Default.prio64 s = rw (as_prio s).0 (zero_prio64, (as_prio s).1)

default_key : (u : List ℕ) (e : Element) → Default u e → (K : List ℕ) → same_bytes K u ≡ true → is_default K ≡ true
default_key u e Default.format K s = rw (same_eq K (bytes "format") s)
default_key u e Default.prio K s = rw (same_eq K (bytes "prio") s)
default_key u e Default.prio32 K s = rw (same_eq K (bytes "prio") s)
default_key u e Default.prio64 K s = rw (same_eq K (bytes "prio") s)

left_out_alike : (f : Field) → T (default_fits f) → (k v : Tree) (ps : Pairs) → Default (key_of k) (meaning_of v) → said_of (key_of k) (meaning_of_pairs ps) ≡ Said.absent
    → SaidAlike f (said_of f.key (meaning_of_pairs (pair k v ps))) (said_of f.key (meaning_of_pairs ps))
unfolding meaning_of
left_out_alike f t k v ps h a = go (same_bytes f.key (key_of k)) refl
  where
    go : (b : Bool) → same_bytes f.key (key_of k) ≡ b → SaidAlike f (said_of f.key (meaning_of_pairs (pair k v ps))) (said_of f.key (meaning_of_pairs ps))
    go true s =
        let said = put_own f.key (key_of k) (meaning_of v) (meaning_of_pairs ps) s a in
        let n = nought_of f t (key_of k) (meaning_of v) h s in
        rw (said.0, said.1)
        (record {
          fault = rw n.1 n.0.fault;
          word = n.0.word;
          figure = n.0.figure;
          cell = λ m. true_false (sym (default_key (key_of k) (meaning_of v) h f.key s) ∙ m);
        })
    go false s = seen_alike f (equal (put_other f.key (key_of k) (meaning_of v) (meaning_of_pairs ps) s))

-- what is said of one of our fields stays alike
pub changed_said : (c : ℕ) (f : Field) → T (default_fits f) → Ours (judge f.kind) c f.key → {ps qs : Pairs} → Changed c ps qs
    → SaidAlike f (said_of f.key (meaning_of_pairs ps)) (said_of f.key (meaning_of_pairs qs))
changed_said c f t o (Changed.rearranged r) = seen_alike f (rearranged_said (judge f.kind) c f.key o r Said.absent)
changed_said c f t o (Changed.left_out {k = k} {v = v} {ps = ps} h a) = left_out_alike f t k v ps h a
changed_said c f t o (Changed.next r u) = alike_next f (changed_said c f t o r) (changed_said c f t o u)
changed_said c f t o (Changed.back r) = alike_back f (changed_said c f t o r)
