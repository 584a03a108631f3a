-- What the judgement of a record says of what a session takes from it: its ID has 64 bits, and a con's bsEui too. Each is mandatory in the command's
-- list, so the range of its kind holds. A con's snBsUuid has 16 bytes. Assumes nothing.
use mathlib.Core.Path.{◌≡◌, subst, ◌∙◌}
use mathlib.Core.{Bool.Bool, Bool.true, Bool.false, List.List, List.◌∷◌}
use Prim.Native.Nat.{ℕ, suc, ◌^◌, ◌<◌}
use native.Mathlib.Omega.{arith}
use lib.{Dec.T, Dec.leb→le, IntN.ℤ, IntN.pos, IntN.negsuc, ListN.length, ListN.drop, ListN.length-append}
use mir.Syntax.{w64}
use mir.Val.{SFits}
use borrow.Author.Tests.{eqb-true}
use Rattle.octets.specs.{Bytes.big_bytes, Choice.either}
use Rattle.octets.proofs.Digits.{length_big}
use Rattle.field.specs.Judge.{in_range}
use Rattle.message.specs.Fields.{Field, lists, list_in, fields_of}
use Rattle.saying.specs.{Says.Part, Says.part_in, Fits.within, Fits.field_fits}
use Rattle.record.specs.declared.{Con.Con, Sixteen.Sixteen, Body.Body, Message.Message}
use Rattle.record.specs.{Record.command_in, Fits.first_fault, Fits.fault_in, Fits.fits}
use Rattle.record.specs.Says.{sixteen_bytes, body_sayings, sayings_of, part_of}
use Rattle.record.proofs.Commands.{command, begins}

in_64 : (z : ℤ) → T (in_range 0x8000000000000000 0x7FFFFFFFFFFFFFFF z) → SFits w64 z
in_64 (pos n) t = record { sfits = omega (arith, leb→le n 0x7FFFFFFFFFFFFFFF t) }
in_64 (negsuc k) t = record { sfits = leb→le (suc k) 0x8000000000000000 t }

-- a list without a fault: its first field fits, and the fields behind it are without one
module _ (part : List ℕ → Part) where
  abbrev Faultless : ℕ → List Field → Type 0
  Faultless i l = first_fault i l part ≡ 0

  first_fits : (i : ℕ) (f : Field) (l : List Field) → Faultless i (f ∷ l) → T (field_fits f (part f.key)) × Faultless (suc i) l
  unfolding first_fault
  first_fits i f l e = go (field_fits f (part f.key)) e
    where
      go : (b : Bool) → either b (λ _. first_fault (suc i) l part) (λ _. suc i) ≡ 0 → T b × Faultless (suc i) l
      go true e = (tt, e)
      go false e = absurd (omega arith)

-- sixteen bytes
pub sixteen_long : (x : Sixteen) → length (sixteen_bytes x) ≡ 16
unfolding sixteen_bytes
sixteen_long x = length-append (big_bytes 8 x.high) (big_bytes 8 x.low) ∙ omega (arith, length_big 8 x.high, length_big 8 x.low)

module _ (m : Message) (d : List ℕ) (t : fits m d ≡ true) where
  faultless : Faultless (part_of m d) 0 (fields_of (command_in m.body))
  unfolding fault_in
  faultless = eqb-true (fault_in m d) 0 t

  pub id_fits : SFits w64 m.op_id
  unfolding within sayings_of part_in
  id_fits =
      let l = drop 2 (fields_of (command_in m.body)) in
      let behind = (first_fits (part_of m d) 0 _ _ (subst (Faultless (part_of m d) 0) (begins (command (command_in m.body))) faultless)).1 in
      in_64 m.op_id (first_fits (part_of m d) 1 _ l behind).0

  pub eui_fits : (x : Con) → m.body ≡ Body.Con x → x.bs_eui < 2 ^ 64
  unfolding within sayings_of body_sayings part_in lists list_in
  eui_fits x e =
      let p = part_of (with_body (Body.Con x)) d in
      let all : Faultless p 0 (fields_of 0) = subst (λ (b : Body). Faultless (part_of (with_body b) d) 0 (fields_of (command_in b))) e faultless in
      let behind = (first_fits p 2 _ _ (first_fits p 1 _ _ (first_fits p 0 _ _ all).1).1).1 in
      omega (arith, leb→le x.bs_eui 0xFFFFFFFFFFFFFFFF (first_fits p 3 _ _ behind).0)
    where
      with_body : Body → Message
      with_body b = record { op_id = m.op_id; body = b }
