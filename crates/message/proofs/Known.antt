-- Every key of the field lists is one of the keys, by one computed test over all lists. Assumes nothing.
use mathlib.Core.{Path.◌≡◌, Path.sym, Bool.Bool, Bool.true, Bool.◌&&◌, List.List, List.[], List.◌∷◌}
use Prim.Native.Nat.{ℕ, ◌<◌}
use lib.Dec.{T, ltb, ltb→lt}
use Rattle.octets.proofs.Ranges.{both_left, both_right, is_true}
use Rattle.names.specs.{Names.same_bytes, Names.place_in, Names.name_at, Code.Slots.keys, Code.Slots.slot_of}
use Rattle.names.proofs.Same.{same_eq}
use Rattle.message.specs.Fields.{Field, lists, fields_of}
use Rattle.message.proofs.KeyKinds.{passes}

abbrev pub is_known : Field → Bool
is_known f = ltb (slot_of f.key) 55 && same_bytes (name_at keys (slot_of f.key)) f.key

abbrev pub are_known : List Field → Bool
are_known [] = true
are_known (f ∷ l) = is_known f && are_known l

pub fields_known : (c : ℕ) → T (are_known (fields_of c))
unfolding lists slot_of place_in keys name_at
fields_known c = passes are_known tt c

module _ (f : Field) (t : T (is_known f)) where
  pub known_slot : slot_of f.key < 55
  known_slot = ltb→lt (slot_of f.key) 55 (both_left (ltb (slot_of f.key) 55) (same_bytes (name_at keys (slot_of f.key)) f.key) t)

  pub known_key : name_at keys (slot_of f.key) ≡ f.key
  known_key =
      same_eq (name_at keys (slot_of f.key)) f.key
      (sym (is_true (same_bytes (name_at keys (slot_of f.key)) f.key) (both_right (ltb (slot_of f.key) 55) (same_bytes (name_at keys (slot_of f.key)) f.key) t)))
