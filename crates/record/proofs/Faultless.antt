-- A record fits exactly if each field of its command's list fits its part: the first fault is none. By induction over the list. Assumes nothing.
use mathlib.Core.{Path.◌≡◌, Path.refl, Path.sym, Bool.Bool, Bool.true, Bool.false, List.List, List.[], List.◌∷◌}
use Prim.Native.Nat.{ℕ, suc}
use native.Mathlib.Omega.{arith}
use lib.Dec.{eqb→eq}
use borrow.Author.Tests.{eq-eqb}
use Rattle.octets.specs.Choice.{either}
use Rattle.octets.proofs.Ranges.{is_true, true_is}
use Rattle.message.specs.Fields.{Field, fields_of}
use Rattle.saying.specs.{Says.Saying, Says.part_in, Fits.field_fits}
use Rattle.saying.proofs.Shown.{AllFit}
use Rattle.record.specs.declared.Message.{Message}
use Rattle.record.specs.{Record.command_in, Says.sayings_of, Fits.first_fault, Fits.fault_in, Fits.fits}

none_at_fault : (rs : List Saying) (l : List Field) (i : ℕ) → first_fault i l (part_in rs) ≡ 0 → AllFit rs l
unfolding first_fault
none_at_fault rs [] i e = tt
none_at_fault rs (f ∷ l) i e = go (field_fits f (part_in rs f.key)) refl (none_at_fault rs l (suc i)) e
  where
    go : (b : Bool) → field_fits f (part_in rs f.key) ≡ b → (first_fault (suc i) l (part_in rs) ≡ 0 → AllFit rs l)
        → either b (λ _. first_fault (suc i) l (part_in rs)) (λ _. suc i) ≡ 0 → AllFit rs (f ∷ l)
    go true q rest e = (true_is (field_fits f (part_in rs f.key)) (sym q), rest e)
    go false q rest e = absurd (omega arith)

none_from : (rs : List Saying) (l : List Field) (i : ℕ) → AllFit rs l → first_fault i l (part_in rs) ≡ 0
unfolding first_fault
none_from rs [] i t = refl
none_from rs (f ∷ l) i t = rw (← is_true (field_fits f (part_in rs f.key)) t.0) (none_from rs l (suc i) t.1)

module _ (m : Message) (d : List ℕ) where
  pub each_fits : fits m d ≡ true → AllFit (sayings_of m d) (fields_of (command_in m.body))
  unfolding fault_in
  each_fits h = none_at_fault (sayings_of m d) (fields_of (command_in m.body)) 0 (eqb→eq (fault_in m d) 0 (true_is (fits m d) (sym h)))

  pub all_fit : AllFit (sayings_of m d) (fields_of (command_in m.body)) → fits m d ≡ true
  unfolding fault_in
  all_fit t = eq-eqb (fault_in m d) 0 (none_from (sayings_of m d) (fields_of (command_in m.body)) 0 t)
