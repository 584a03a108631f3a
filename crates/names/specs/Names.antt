-- Document 01, "Commands", and document 02, Q-2: the names of the 24 commands, spelled as source document 000 spells them. Names are compared as bytes.
use Prim.Native.{Char.code, Nat.ℕ, Nat.zero, Nat.suc, String.String, String.[] as nothing, String.◌∷◌ as ◌then◌}
use Rattle.std.specs.Prelude.{Bool, true, false, ◌&&◌, List, [], ◌∷◌, eqb}
use Rattle.octets.specs.Choice.{either}

-- the bytes of a name
abbrev pub bytes : String → List ℕ
bytes nothing = []
bytes (◌then◌ c s) = code c ∷ bytes s

-- the commands, each by its place here
unfoldable pub commands : List (List ℕ)
commands =
    bytes "con" ∷ bytes "conRsp" ∷ bytes "statusRsp" ∷ bytes "det" ∷ bytes "detRsp" ∷ bytes "attPrp" ∷ bytes "detPrp" ∷ bytes "ulData" ∷
    bytes "conCmp" ∷ bytes "ping" ∷ bytes "pingRsp" ∷ bytes "pingCmp" ∷ bytes "status" ∷ bytes "statusCmp" ∷ bytes "detCmp" ∷ bytes "attPrpRsp" ∷
    bytes "attPrpCmp" ∷ bytes "detPrpRsp" ∷ bytes "detPrpCmp" ∷ bytes "ulDataRsp" ∷ bytes "ulDataCmp" ∷
    bytes "dlDataQue" ∷ bytes "dlDataQueRsp" ∷ bytes "dlDataQueCmp" ∷ []

abbrev pub same_bytes : List ℕ → List ℕ → Bool
same_bytes [] [] = true
same_bytes [] (y ∷ ys) = false
same_bytes (x ∷ xs) [] = false
same_bytes (x ∷ xs) (y ∷ ys) = eqb x y && same_bytes xs ys

-- the place of u among names; one past the last where it is none of them
unfoldable pub place_in : List (List ℕ) → List ℕ → ℕ
place_in [] u = 0
place_in (n ∷ ns) u = either (same_bytes n u) (λ _. 0) (λ _. suc (place_in ns u))

-- the name at a place
unfoldable pub name_at : List (List ℕ) → ℕ → List ℕ
name_at [] k = []
name_at (n ∷ ns) zero = n
name_at (n ∷ ns) (suc k) = name_at ns k

-- the command's number: 0 to 23, and 24 for a name of no command
unfoldable pub command_of : List ℕ → ℕ
command_of u = place_in commands u

-- dlDataQue came after document 01's commands and has a number behind theirs: what it has, and what the others have
abbrev pub downlink : ℕ
downlink = 21

abbrev pub if_downlink : {A : Type 0} → ℕ → A → A → A
if_downlink c x y = either (eqb c downlink) (λ _. x) (λ _. y)
