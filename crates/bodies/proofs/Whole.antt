-- A whole command: the two fields that each has, those behind them, and the rules between fields of ulData and dlDataQue. The lists are looked at by their numbers.
-- Assumes nothing.
use mathlib.Core.Path.{◌≡◌, refl, sym, ap, ◌∙◌}
use mathlib.Core.{Bool.true, Bool.false, List.List}
use Prim.Native.Nat.{ℕ, max}
use native.Mathlib.Omega.{arith}
use lib.{Dec.eqb, ListN.get_or}
use borrow.Author.Tests.{ne_eqb, eqb-false}
use mir.Syntax.{w64}
use mir.Val.{SFits, of_z, to_z}
use mir.ValLaws.{to_z-of_z}
use Rattle.names.specs.{Names.bytes, Names.place_in, Names.downlink, Code.Slots.keys, Code.Slots.slot_of}
use Rattle.field.specs.{Kind.Kind, Kind.signed64, Code.At.cell_at}
use Rattle.message.specs.{Fields.lists, Fields.list_in, Fields.fields_of, Code.Cells.cells_at, Record.id_in}
use Rattle.message.specs.Record.{maybe_of}
use Rattle.message.specs.declared.{Maybe.Maybe}
use lib.IntN.{ℤ}
use Rattle.message.specs.{Reading.gravest, Reading.look_in, Reading.crossed}
use Rattle.record.specs.declared.Body.{Body}
use Rattle.record.specs.Record.{body_in, message_of}
use Rattle.record.proofs.{Commands.Command, Commands.command, Commands.begins, Commands.Past.past}
use Rattle.record.proofs.Commands.Command.{con, con_rsp, status_rsp, det, det_rsp, att_prp, det_prp, ul_data, dl_data_que, bare}
use Rattle.bodies.specs.declared.Held.{Held}
use Rattle.bodies.specs.Code.Held.{judged_as, held_as}
use Rattle.bodies.specs.Code.Read.{Read, look_for, read_of, gravest_from, plain_of, downlink_of, Bodying, bodying, bodied_of}

max_zero : (w : ℕ) → max w 0 ≡ w
max_zero w = omega arith

-- a command without the rule
module _ (s at : List ℕ) (r : Held Body) (user : List ℕ) (w : ℕ) where
  plain_is : (c : ℕ) → crossed (fields_of c) (look_for s at c) ≡ 0 → eqb c 7 ≡ false → r ≡ plain_of s at c w → ◌≡◌ {A = Bodying} (bodying r user) (bodied_of s at c user w)
  unfolding bodied_of plain_of
  plain_is c x n e =
      let m : max (gravest_from s at c w) 0 ≡ gravest_from s at c w = max_zero (gravest_from s at c w) in
      rw (e, x, m, n)

-- a number past the lists
module _ (s at user : List ℕ) (w : ℕ) where
  abbrev bared : ℕ → Held Body
  bared c = record { worst = w; value = Body.Bare c }

  by_command : {c : ℕ} → Command c → (c ≡ 0 → ⊥) → (c ≡ 1 → ⊥) → (c ≡ 2 → ⊥) → (c ≡ 3 → ⊥) → (c ≡ 4 → ⊥) → (c ≡ 5 → ⊥) → (c ≡ 6 → ⊥) → (c ≡ 7 → ⊥) → (c ≡ downlink → ⊥) → bared c ≡ plain_of s at c w
  unfolding plain_of lists list_in cells_at look_in gravest body_in
  by_command con n0 n1 n2 n3 n4 n5 n6 n7 n21 = absurd (n0 refl)
  by_command con_rsp n0 n1 n2 n3 n4 n5 n6 n7 n21 = absurd (n1 refl)
  by_command status_rsp n0 n1 n2 n3 n4 n5 n6 n7 n21 = absurd (n2 refl)
  by_command det n0 n1 n2 n3 n4 n5 n6 n7 n21 = absurd (n3 refl)
  by_command det_rsp n0 n1 n2 n3 n4 n5 n6 n7 n21 = absurd (n4 refl)
  by_command att_prp n0 n1 n2 n3 n4 n5 n6 n7 n21 = absurd (n5 refl)
  by_command det_prp n0 n1 n2 n3 n4 n5 n6 n7 n21 = absurd (n6 refl)
  by_command ul_data n0 n1 n2 n3 n4 n5 n6 n7 n21 = absurd (n7 refl)
  by_command dl_data_que n0 n1 n2 n3 n4 n5 n6 n7 n21 = absurd (n21 refl)
  by_command (bare (past i) e) n0 n1 n2 n3 n4 n5 n6 n7 n21 = rw e

  uncrossed : {c : ℕ} → Command c → (c ≡ 7 → ⊥) → (c ≡ downlink → ⊥) → crossed (fields_of c) (look_for s at c) ≡ 0
  unfolding lists list_in cells_at look_in
  uncrossed con n d = refl
  uncrossed con_rsp n d = refl
  uncrossed status_rsp n d = refl
  uncrossed det n d = refl
  uncrossed det_rsp n d = refl
  uncrossed att_prp n d = refl
  uncrossed det_prp n d = refl
  uncrossed ul_data n d = absurd (n refl)
  uncrossed dl_data_que n d = absurd (d refl)
  uncrossed (bare (past i) e) n d = rw e

  module _ (c : ℕ) where
    pub bare_bodied : (c ≡ 0 → ⊥) → (c ≡ 1 → ⊥) → (c ≡ 2 → ⊥) → (c ≡ 3 → ⊥) → (c ≡ 4 → ⊥) → (c ≡ 5 → ⊥) → (c ≡ 6 → ⊥) → (c ≡ 7 → ⊥) → (c ≡ downlink → ⊥)
        → ◌≡◌ {A = Bodying} (bodying (bared c) user) (bodied_of s at c user w)
    bare_bodied n0 n1 n2 n3 n4 n5 n6 n7 n21 = plain_is s at (bared c) user w c (uncrossed (command c) n7 n21) (ne_eqb c 7 n7) (by_command (command c) n0 n1 n2 n3 n4 n5 n6 n7 n21)

    -- the others that have no rule between two fields
    pub plain_bodied : (k : ℕ) (r : Held Body) → r ≡ plain_of s at k w → c ≡ k → eqb k 7 ≡ false → eqb k downlink ≡ false → ◌≡◌ {A = Bodying} (bodying r user) (bodied_of s at c user w)
    plain_bodied k r e q n d = plain_is s at r user w k (uncrossed (command k) (eqb-false k 7 n) (eqb-false k downlink d)) n e ∙ ap (λ (j : ℕ). bodied_of s at j user w) (sym q)

    pub ul_data_bodied : (r : Held Body) (room : List ℕ) → c ≡ 7 → ◌≡◌ {A = Bodying} (bodying r room) (bodied_of s at 7 user w) → ◌≡◌ {A = Bodying} (bodying r room) (bodied_of s at c user w)
    ul_data_bodied r room q e = e ∙ ap (λ (j : ℕ). bodied_of s at j user w) (sym q)

    pub downlink_bodied : (r : Held Body) → c ≡ downlink → r ≡ downlink_of s at w → ◌≡◌ {A = Bodying} (bodying r user) (bodied_of s at c user w)
    unfolding bodied_of plain_of downlink_of
    downlink_bodied r q e = ap (λ (b : Held Body). bodying b user) e ∙ ap (λ (j : ℕ). bodied_of s at j user w) (sym q)

pub ruleset bodieds = (bare_bodied, plain_bodied, ul_data_bodied, downlink_bodied, arith)

-- the two fields that each command has come first, whatever follows them
module _ (s at : List ℕ) where
  named : ℕ
  named = judged_as true 0 (cell_at Kind.words s (get_or at 0 0)) 0

  numbered : Held (Maybe ℤ)
  numbered = held_as (maybe_of id_in) true 1 (cell_at signed64 s (get_or at 1 0)) named

  gravest_headed : (c : ℕ) → gravest 0 0 (fields_of c) (cells_at (fields_of c) s at) ≡ gravest_from s at c numbered.worst
  unfolding named numbered held_as judged_as gravest cells_at slot_of place_in keys
  gravest_headed c = rw (begins (command c))

  id_look : {c : ℕ} → Command c → look_for s at c (bytes "opId") ≡ cell_at signed64 s (get_or at 1 0)
  unfolding lists list_in cells_at look_in slot_of place_in keys
  id_look con = refl
  id_look con_rsp = refl
  id_look status_rsp = refl
  id_look det = refl
  id_look det_rsp = refl
  id_look att_prp = refl
  id_look det_prp = refl
  id_look ul_data = refl
  id_look dl_data_que = refl
  id_look (bare (past i) e) = rw e

  pub read_is : (c : ℕ) (user room : List ℕ) (x : ℕ) (i : Held (Maybe ℤ)) (b : Held Body) → SFits w64 i.value.value
      → x ≡ judged_as true 0 (cell_at Kind.words s (get_or at 0 0)) 0 → i ≡ held_as (maybe_of id_in) true 1 (cell_at signed64 s (get_or at 1 0)) x
      → ◌≡◌ {A = Bodying} (bodying b room) (bodied_of s at c user i.worst)
      → ◌≡◌ {A = Read} (record { graded = record { worst = b.worst; message = record { op_id = to_z w64 (of_z w64 i.value.value); body = b.value } }; user = room }) (read_of s at c user)
  unfolding read_of bodied_of plain_of message_of named numbered held_as
  read_is c user room x i b fit px pi pb =
      let j : i ≡ numbered = pi ∙ ap (held_as (maybe_of id_in) true 1 (cell_at signed64 s (get_or at 1 0))) px in
      let z : i.value.value ≡ id_in (look_for s at c (bytes "opId")) = ap (λ (h : Held (Maybe ℤ)). h.value.value) j ∙ ap id_in (sym (id_look (command c))) in
      let g : gravest_from s at c i.worst ≡ gravest 0 0 (fields_of c) (cells_at (fields_of c) s at) = ap (λ (h : Held (Maybe ℤ)). gravest_from s at c h.worst) j ∙ sym (gravest_headed c) in
      rw (to_z-of_z w64 i.value.value fit, z)
      (ap (λ (y : Bodying). record { graded = record { worst = y.bodied.worst; message = record { op_id = id_in (look_for s at c (bytes "opId")); body = y.bodied.value } }; user = y.user }) pb
      ∙ rw g)
