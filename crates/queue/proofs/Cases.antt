-- A property of what is made by a test or by what was found, and of two that are made by the same, by the cases. Assumes nothing.
use mathlib.Core.{Path.◌≡◌, Path.refl}
use Rattle.std.specs.Prelude.{Option, Some, None}
use mathlib.Core.Bool.{Bool, true, false}
use Rattle.std.proofs.lemmas.Option.{none-some}
use Rattle.octets.specs.Choice.{either}
use Rattle.queue.specs.Queue.{on_place}

-- options that are known
pub some_is : {A : Type 0} {a b : A} → Some a ≡ Some b → a ≡ b
some_is e = cc

pub none_some : {A B : Type 0} {a : A} → None ≡ Some a → B
none_some {A} {B} {a} e = absurd (none-some a e)

module _ {B : Type 0} (P : B → Type 0) where
  pub by_place : {A : Type 0} (o : Option A) (f : A → B) (b : B) → ((a : A) → o ≡ Some a → P (f a)) → (o ≡ None → P b) → P (on_place o f b)
  by_place None f b p q = q refl
  by_place (Some a) f b p q = p a refl

  pub by_test : (t : Bool) (f g : Unit {0} → B) → (t ≡ true → P (f tt)) → (t ≡ false → P (g tt)) → P (either t f g)
  by_test true f g p q = p refl
  by_test false f g p q = q refl

module _ {B C : Type 0} (R : B → C → Type 0) where
  pub by_places : {A : Type 0} (o : Option A) (f : A → B) (g : A → C) (b : B) (c : C) → ((a : A) → o ≡ Some a → R (f a) (g a)) → R b c → R (on_place o f b) (on_place o g c)
  by_places None f g b c p r = r
  by_places (Some a) f g b c p r = p a refl

  pub by_tests : (t : Bool) (f g : Unit {0} → B) (h k : Unit {0} → C) → (t ≡ true → R (f tt) (h tt)) → (t ≡ false → R (g tt) (k tt)) → R (either t f g) (either t h k)
  by_tests true f g h k p q = p refl
  by_tests false f g h k p q = q refl
