-- What is put to where it lies, each law in the shape of a need of the code. Assumes nothing.
use mathlib.Core.Path.{◌≡◌, refl, sym, ◌∙◌}
use mathlib.Core.Bool.{Bool, true, false}
use mathlib.Core.List.{List}
use Prim.Native.Nat.{ℕ}
use lib.{Dec.eqb}
use lib.ListN.{length, replicate}
use lib.IntN.{ℤ}
use mir.Syntax.{w64}
use mir.Val.{SFits, to_z, of_z, bool_byte}
use mir.ValLaws.{to_z-of_z}
use borrow.Author.Tests.{eq-eqb, ne_eqb}
use Rattle.octets.specs.{Choice.either, Bytes.mark_byte}
use Rattle.names.specs.Names.{downlink}
use Rattle.record.specs.declared.{Body.Body, DlDataQue.DlDataQue, Message.Message}
use Rattle.record.specs.Record.{command_in}
use Rattle.layout.specs.Image.{body_lies, head_lies, laid, clear_image, message_image, dl_data_que_lies}

-- zeros
pub cleared : (d e : List ℕ) → length d ≡ 104 → e ≡ replicate (length d) 0 → e ≡ clear_image
unfolding clear_image
cleared d e l h = rw l at h

-- a mark as a number
pub mark_is : (b : Bool) → bool_byte b ≡ mark_byte b
mark_is true = refl
mark_is false = refl

-- a body's fields, by its command
pub body_put : (b v : Body) → b ≡ v → (a d : List ℕ) → a ≡ laid (body_lies v) d → a ≡ laid (body_lies b) d
body_put b v e a d h = rw (e, h)

-- behind what each command has, its own fields; a signed number is handed on in its 64 bits
pub put_fields : (m : Message) → SFits w64 m.op_id → (c : ℕ) → c ≡ command_in m.body → (a b : List ℕ) → b ≡ laid (head_lies (to_z w64 (of_z w64 m.op_id)) c) clear_image
    → a ≡ laid (body_lies m.body) b → a ≡ message_image m
unfolding laid message_image
put_fields m f c e a b h g = rw (g, h, to_z-of_z w64 m.op_id f, e)

pub downlink_put : (id : ℤ) → SFits w64 id → (x : DlDataQue) (a b : List ℕ) → b ≡ laid (head_lies (to_z w64 (of_z w64 id)) downlink) clear_image
    → a ≡ laid (dl_data_que_lies x) b → a ≡ message_image (record { op_id = id; body = Body.DlDataQue x })
unfolding laid body_lies
downlink_put id f x a b h g = put_fields (record { op_id = id; body = Body.DlDataQue x }) f downlink refl a b h g

-- a room of another size stays
module _ (d : List ℕ) (m : Message) where
  pub put_in : (a : List ℕ) → length d ≡ 104 → a ≡ message_image m → a ≡ either (eqb (length d) 104) (λ _. message_image m) (λ _. d)
  put_in a l e = e ∙ sym (simp (eq-eqb (length d) 104 l))

  pub put_out : (length d ≡ 104 → ⊥) → d ≡ either (eqb (length d) 104) (λ _. message_image m) (λ _. d)
  put_out h = sym (simp (ne_eqb (length d) 104 h))

pub ruleset rooms = (put_in, put_out)
