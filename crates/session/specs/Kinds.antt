-- Document 01, "Session": which operations each side starts, and the messages that belong to each. Operations go by the command that starts them.
use Prim.Native.{Nat.ℕ, String.String}
use mathlib.Core.{List.List, List.[], List.◌∷◌, Option.Option, Option.some, Option.none}
use Rattle.std.specs.Prelude.{eqb}
use Rattle.octets.specs.Choice.{either}
use Rattle.names.specs.Names.{bytes, command_of}

pub record Operation : Type 0 where
  pub start : ℕ
  pub rsp : ℕ
  pub cmp : ℕ

abbrev command : String → ℕ
command n = command_of (bytes n)

abbrev operation : String → String → String → Operation
operation s r c = record { start = command s; rsp = command r; cmp = command c }

-- stations start ping, det, ulData
unfoldable pub station_starts : List Operation
station_starts =
    operation "ping" "pingRsp" "pingCmp" ∷
    operation "det" "detRsp" "detCmp" ∷
    operation "ulData" "ulDataRsp" "ulDataCmp" ∷
    []

-- the centre starts ping, status, attPrp, detPrp, and by document 02, Q-2, dlDataQue
unfoldable pub centre_starts : List Operation
centre_starts =
    operation "ping" "pingRsp" "pingCmp" ∷
    operation "status" "statusRsp" "statusCmp" ∷
    operation "attPrp" "attPrpRsp" "attPrpCmp" ∷
    operation "detPrp" "detPrpRsp" "detPrpCmp" ∷
    operation "dlDataQue" "dlDataQueRsp" "dlDataQueCmp" ∷
    []

-- the first operation whose message is c
unfoldable pub operation_by : (Operation → ℕ) → List Operation → ℕ → Option Operation
operation_by f [] c = none
operation_by f (o ∷ os) c = either (eqb (f o) c) (λ _. some o) (λ _. operation_by f os c)
