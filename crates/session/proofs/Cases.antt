-- A property of outcomes, by the cases that make one: a test, a test whose result is of use, an operation that is found or not, and a con or another record. Assumes nothing.
use mathlib.Core.{Path.◌≡◌, Path.refl, Bool.Bool, Bool.true, Bool.false, Option.Option, Option.some, Option.none}
use Rattle.octets.specs.Choice.{either}
use Rattle.record.specs.declared.{Con.Con, Body.Body}
use Rattle.session.specs.{Kinds.Operation, Arrive.Outcome, Arrive.con_in, Arrive.or_outcome}

module _ (P : Outcome → Type 0) where
  pub by_test : (b : Bool) (x y : Outcome) → P x → P y → P (either b (λ _. x) (λ _. y))
  by_test true x y p q = p
  by_test false x y p q = q

  pub by_result : (b : Bool) (x y : Outcome) → (b ≡ true → P x) → (b ≡ false → P y) → P (either b (λ _. x) (λ _. y))
  by_result true x y p q = p refl
  by_result false x y p q = q refl

  pub by_choice : (c : Option Operation) (f : Operation → Outcome) (x : Outcome) → ((o : Operation) → P (f o)) → P x → P (or_outcome c f (λ _. x))
  by_choice none f x p q = q
  by_choice (some o) f x p q = p o

  pub by_con : (b : Body) (f : Con → Outcome) (x : Outcome) → ((c : Con) → b ≡ Body.Con c → P (f c)) → P x → P (or_outcome (con_in b) f (λ _. x))
  by_con (Body.Con c) f x p q = p c refl
  by_con (Body.ConRsp c) f x p q = q
  by_con (Body.StatusRsp c) f x p q = q
  by_con (Body.Det c) f x p q = q
  by_con (Body.DetRsp c) f x p q = q
  by_con (Body.AttPrp c) f x p q = q
  by_con (Body.DetPrp c) f x p q = q
  by_con (Body.UlData c) f x p q = q
  by_con (Body.DlDataQue c) f x p q = q
  by_con (Body.Bare c) f x p q = q
