-- The first field at fault, a field a step: one that its type decides is passed, one that a test decides has its number. Assumes nothing.
use mathlib.Core.Path.{◌≡◌, refl, sym, ◌∙◌}
use mathlib.Core.Bool.{Bool, true, false, ◌&&◌}
use mathlib.Core.List.{List, [], ◌∷◌}
use Prim.Native.Nat.{ℕ, zero, suc}
use lib.Dec.{T}
use Rattle.octets.proofs.Ranges.{is_true, both_left, both_right}
use Rattle.message.specs.Fields.{Field}
use Rattle.saying.specs.{Says.Part, Fits.field_fits}
use Rattle.record.specs.Fits.{first_fault}
use Rattle.faults.specs.Code.Tests.{fault_unless, or_fault}

module _ (i : ℕ) (f : Field) (l : List Field) (part : List ℕ → Part) where
  pub pass : (s : ℕ) → field_fits f (part f.key) ≡ true → first_fault (suc i) l part ≡ s → first_fault i (f ∷ l) part ≡ s
  unfolding first_fault
  pass s e q = rw e q

  pub look : (t : Bool) (s : ℕ) → field_fits f (part f.key) ≡ t → first_fault (suc i) l part ≡ s → first_fault i (f ∷ l) part ≡ fault_unless t (suc i) s
  unfolding first_fault fault_unless
  look t s e q = rw (e, q)

-- among fields of which others stand behind
push : (t : Bool) (n told behind : ℕ) → fault_unless t (suc n) (or_fault told behind) ≡ or_fault (fault_unless t (suc n) told) behind
unfolding fault_unless or_fault
push true n told behind = refl
push false n told behind = refl

pub none_told : (told : ℕ) → or_fault told 0 ≡ told
unfolding or_fault
none_told zero = refl
none_told (suc n) = refl

module _ (i : ℕ) (f : Field) (l : List Field) (part : List ℕ → Part) where
  pub look_on : (t : Bool) (told behind : ℕ) → field_fits f (part f.key) ≡ t → first_fault (suc i) l part ≡ or_fault told behind → first_fault i (f ∷ l) part ≡ or_fault (fault_unless t (suc i) told) behind
  look_on t told behind e q = look i f l part t (or_fault told behind) e q ∙ push t i told behind

-- fields that all fit
abbrev pub all_fit : List Field → (List ℕ → Part) → Bool
all_fit [] part = true
all_fit (f ∷ l) part = field_fits f (part f.key) && all_fit l part

pub clear : (i : ℕ) (l : List Field) (part : List ℕ → Part) → T (all_fit l part) → first_fault i l part ≡ 0
unfolding first_fault
clear i [] part t = refl
clear i (f ∷ l) part t =
    pass i f l part 0 (sym (is_true _ (both_left (field_fits f (part f.key)) (all_fit l part) t)))
    (clear (suc i) l part (both_right (field_fits f (part f.key)) (all_fit l part) t))
