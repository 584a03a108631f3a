-- Data entries put into lent bytes: the room with the entries that are left put, their lengths from the i-th place on, is the room with all
-- of them. Each law in the shape of a need of the code. Assumes nothing.
use mathlib.Core.Path.{◌≡◌, refl, sym, ap, ap₂, ◌∙◌}
use mathlib.Core.{Bool.true, List.List, List.[], List.◌∷◌, Option.Option, Option.some, Option.none}
use Prim.Native.Nat.{ℕ, ◌+◌, ◌-◌, ◌≤◌, ◌<◌}
use native.Mathlib.Nat.{sub-zero}
use native.Mathlib.Omega.{arith}
use lib.ListN.{length, set, length-append, length-set}
use mir.Syntax.{w8, w64}
use mir.Val.{Fits}
use borrow.Author.Tests.{le-leb}
use Rattle.octets.specs.{Bytes.put_at, Pieces.lengths_of, Pieces.strung}
use Rattle.octets.proofs.{Ranges.true_false, Pieces.length_lengths, Writing.put_none, Writing.put_then, Writing.put_apart, Writing.length_put}
use Rattle.element.specs.{Form.span_of, Meaning.Element}
use Rattle.std.specs.Prelude.{Option as Answer, Some, None}
use Rattle.field.specs.declared.Piece.{Piece}
use Rattle.field.specs.Judge.{parts_of, piece_in}
use Rattle.field.specs.{Code.At.shallow_at, Code.At.nested_end, Code.Into.into_by, Code.Into.lead_into, Code.Item.is_some, Code.Item.piece_by, Code.Item.piece_at}
use Rattle.field.specs.Code.Lent.{list_in, entries_at, AreEntries, entries_put}
use Rattle.field.proofs.Nested.{IsPiece, is_piece, piece_wide}
use Rattle.field.proofs.Entries.{more, pieces_more, pieces_zero, length_pieces}
use Rattle.field.proofs.Intos.{put_cons, all_lead, length_lead}

-- an array of bytes, in a room
piece_put : (e : Element) (d : List ℕ) → IsPiece e d → (room : List ℕ) (to : ℕ) → length d ≤ length room - to → into_by (parts_of e) room to ≡ put_at room to d
piece_put e d y room to h =
    let l = all_lead y.parts d y.bytes in
    simp (y.there, l.count, l.is, le-leb (length d) (length room - to) h)

-- the first of k entries, and those behind it
pub record First (s : List ℕ) (k q : ℕ) (d : List ℕ) (ds : List (List ℕ)) : Type 0 where
  pub is : entries_at s k q ≡ some (d ∷ ds)
  pub piece : piece_in 245 (shallow_at s q) ≡ some d
  pub rest : entries_at s (k - 1) (nested_end s q (span_of s q)) ≡ some ds

first : (s : List ℕ) (k q : ℕ) → is_some (entries_at s k q) ≡ true → 0 < k → (d : List ℕ) × (ds : List (List ℕ)) × First s k q d ds
first s k q t p = go (piece_in 245 (shallow_at s q)) refl (entries_at s (k - 1) (nested_end s q (span_of s q))) refl
  where
    by_first : (o : Option (List ℕ)) → piece_in 245 (shallow_at s q) ≡ o → (m : Option (List (List ℕ))) → entries_at s (k - 1) (nested_end s q (span_of s q)) ≡ m → entries_at s k q ≡ more o m
    by_first o f m g = rw (← f, ← g) (pieces_more 245 s k q p)

    go : (o : Option (List ℕ)) → piece_in 245 (shallow_at s q) ≡ o → (m : Option (List (List ℕ))) → entries_at s (k - 1) (nested_end s q (span_of s q)) ≡ m → (d : List ℕ) × (ds : List (List ℕ)) × First s k q d ds
    go none f m g = true_false (sym t ∙ ap is_some (by_first none f m g))
    go (some d) f none g = true_false (sym t ∙ ap is_some (by_first (some d) f none g))
    go (some d) f (some ds) g = (d, ds, record { is = by_first (some d) f (some ds) g; piece = f; rest = g })

-- i of n entries are put up to a place, and the one at q is the next
pub record EntriesLeft (s : List ℕ) (n from : ℕ) (old out : List ℕ) (q at i : ℕ) : Type 0 where
  pub there : is_some (entries_at s (n - i) q) ≡ true
  pub few : n ≤ 16
  pub behind : 80 ≤ at
  pub small : at + length (strung (list_in (entries_at s (n - i) q))) ≤ 880
  pub roomy : 880 ≤ length out
  pub same : length out ≡ length old
  pub is : entries_put out i at (list_in (entries_at s (n - i) q)) ≡ entries_put old 0 80 (list_in (entries_at s n from))

pub entries_start : (s : List ℕ) (n from : ℕ) (room : List ℕ) → AreEntries s n from → 880 ≤ length room → EntriesLeft s n from room room from 80 0
entries_start s n from room y h =
    record { there = rw sub-zero y.there; few = y.few; behind = omega arith; small = rw sub-zero (omega (arith, y.small)); roomy = h; same = refl; is = rw sub-zero }

module _ (s : List ℕ) (n from : ℕ) (old out : List ℕ) (q at i : ℕ) (y : EntriesLeft s n from old out q at i) where
  pub entries_end : n ≤ i → out ≡ entries_put old 0 80 (list_in (entries_at s n from))
  unfolding lengths_of strung
  entries_end h =
      sym (ap (λ (o : Option (List (List ℕ))). entries_put out i at (list_in o)) (pieces_zero 245 s (n - i) q (omega arith))
      ∙ put_none (put_at out (64 + i) []) at ∙ put_none out (64 + i))
      ∙ y.is

  pub entries_room : at ≤ length out
  entries_room = omega (arith, y.small, y.roomy)

  module _ (h : i < n) (new : List ℕ) (g : new ≡ lead_into s q out at) where
    abbrev Next : Type 0
    Next = (d : List ℕ) × (ds : List (List ℕ)) × First s (n - i) q d ds

    next_entry : Next
    next_entry = first s (n - i) q y.there (omega arith)

    -- its bytes have room
    upto : (v : Next) → at + length v.0 + length (strung v.1) ≤ 880
    unfolding strung
    upto v =
        let l = rw v.2.is at y.small in
        omega (arith, length-append v.0 (strung v.1))

    same_room : length new ≡ length out
    unfolding lead_into
    same_room = ap length g ∙ length_lead (parts_of (shallow_at s q)) out at

    pub entry_in_lem : 64 + i < length new
    entry_in_lem = omega (arith, same_room, y.roomy, y.few)

    pub entry_same : length new ≡ length old
    entry_same = same_room ∙ y.same

    module _ (x : Answer Piece) (e : x ≡ piece_at (length out - at) s q) where
      -- what is said of it
      told : (v : Next) → x ≡ Some (record { size = length v.0; next = nested_end s q (span_of s q) })
      unfolding piece_at
      told v =
          let p = is_piece 245 (shallow_at s q) v.0 v.2.piece in
          e ∙ ap (λ (o : Option (List ℕ)). piece_by o (nested_end s q (span_of s q)))
          (piece_wide (shallow_at s q) v.0 p.0 (length out - at) (omega (arith, upto v, y.roomy)))

      pub entry_never : x ≡ None → new ≡ entries_put old 0 80 (list_in (entries_at s n from))
      entry_never f = let v = told next_entry in absurd (let w : ◌≡◌ {A = ℕ} 0 1 = cc in omega arith)

      module _ (p : Piece) (f : x ≡ Some p) where
        same_piece : record { size = length next_entry.0; next = nested_end s q (span_of s q) } ≡ p
        same_piece = let v = told next_entry in cc

        size_is : length next_entry.0 ≡ p.size
        size_is = ap (λ (x : Piece). x.size) same_piece

        next_is : nested_end s q (span_of s q) ≡ p.next
        next_is = ap (λ (x : Piece). x.next) same_piece

        pub entry_byte : Fits w8 p.size
        entry_byte = record { fits = omega (arith, size_is, (is_piece 245 (shallow_at s q) next_entry.0 next_entry.2.piece).1) }

        pub entry_behind : Fits w64 (at + p.size)
        entry_behind = record { fits = omega (arith, size_is, upto next_entry) }

        pub entry_next : EntriesLeft s n from old (set new (64 + i) p.size) p.next (at + p.size) (i + 1)
        unfolding lengths_of strung lead_into
        entry_next =
            let (d, ds, v) = next_entry in
            let size = p.size in
            let next = p.next in
            let l : length d ≡ size = size_is in
            let c : n - i - 1 ≡ n - (i + 1) = omega arith in
            let r : entries_at s (n - (i + 1)) next ≡ some ds = ap₂ (λ (j p : ℕ). entries_at s j p) (sym c) (sym next_is) ∙ v.rest in
            let m : length ds ≡ n - (i + 1) = length_pieces 245 s (n - (i + 1)) next ds r in
            let z = is_piece 245 (shallow_at s q) d v.piece in
            let u : new ≡ put_at out at d = g ∙ piece_put (shallow_at s q) d z.0 out at (omega (arith, upto (d, ds, v), y.roomy)) in
            let k : length (set new (64 + i) size) ≡ length out = length-set new (64 + i) size ∙ same_room in
            let j : 64 + (i + 1) ≡ 64 + i + 1 = omega arith in
            record {
              there = ap is_some r;
              few = y.few;
              behind = omega (arith, y.behind);
              small = rw r (omega (arith, upto (d, ds, v)));
              roomy = omega (arith, k, y.roomy);
              same = k ∙ y.same;
              is = ap (λ (o : Option (List (List ℕ))). entries_put (set new (64 + i) size) (i + 1) (at + size) (list_in o)) r
                  ∙ ap (λ (w : List ℕ). put_at w (at + size) (strung ds))
                  (ap (λ (p : ℕ). put_at (set new (64 + i) size) p (lengths_of ds)) j
                  ∙ put_cons new (64 + i) size (lengths_of ds) (omega (arith, same_room, length_lengths ds, y.roomy, y.few))
                  ∙ ap₂ (λ (w : List ℕ) (p : ℕ). put_at w (64 + i) (p ∷ lengths_of ds)) u (sym l)
                  ∙ put_apart out (64 + i) (length d ∷ lengths_of ds) at d (omega (arith, length_lengths ds, y.few, y.behind)) (omega (arith, upto (d, ds, v), y.roomy)))
                  ∙ ap (λ (p : ℕ). put_at (put_at (put_at out (64 + i) (length d ∷ lengths_of ds)) at d) (at + p) (strung ds)) (sym l)
                  ∙ put_then (put_at out (64 + i) (length d ∷ lengths_of ds)) at d (strung ds)
                  (omega (arith, upto (d, ds, v), y.roomy, length_put out (64 + i) (length d ∷ lengths_of ds)))
                  ∙ sym (ap (λ (o : Option (List (List ℕ))). entries_put out i at (list_in o)) v.is) ∙ y.is;
            }

pub ruleset entries_left = (entries_start, entries_end, entries_room, entry_in_lem, entry_same, entry_never, entry_byte, entry_behind, entry_next, arith)
