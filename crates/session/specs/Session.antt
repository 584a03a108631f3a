-- Document 01, "Session": what a session holds.
use Rattle.std.specs.Prelude.{ℕ, ℤ}
use mathlib.Core.{Bool.Bool, List.List}

pub data State : Type 0 where
  Waiting Connecting Open : State

-- an open operation: its ID and the command that started it; ID 0 is a free place
pub record Entry : Type 0 where
  pub id : ℤ
  pub kind : ℕ

-- whether it is stored, whose it is, the highest station ID known and the lowest centre ID issued, and the entries of both sides
pub record Session : Type 0 where
  pub state : State
  pub stored : Bool
  pub bs_eui : ℕ
  pub sn_bs_uuid : List ℕ
  pub sn_sc_uuid : List ℕ
  pub highest : ℤ
  pub lowest : ℤ
  pub station : List Entry
  pub centre : List Entry

-- what the host lends with each arriving record
pub record Host : Type 0 where
  pub sc_eui : ℕ
  pub uuid : List ℕ
  pub sign : List ℕ
