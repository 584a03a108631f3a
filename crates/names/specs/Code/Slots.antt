-- The keys of all fields by slot, as the code looks them up; a definition names a key by its letters.
use Rattle.std.specs.Prelude.{ℕ, List, [], ◌∷◌}
use Rattle.names.specs.Names.{bytes, place_in}

-- the keys, each once and by its place here, in the order in which documents 01 and 02 first name them
unfoldable pub keys : List (List ℕ)
keys =
    bytes "command" ∷ bytes "opId" ∷ bytes "version" ∷ bytes "bsEui" ∷ bytes "bidi" ∷ bytes "geoLocation" ∷ bytes "snBsUuid" ∷ bytes "snBsOpId" ∷
    bytes "snScOpId" ∷ bytes "vendor" ∷ bytes "model" ∷ bytes "name" ∷ bytes "swVersion" ∷ bytes "info" ∷ bytes "scEui" ∷ bytes "snResume" ∷
    bytes "snScUuid" ∷ bytes "code" ∷ bytes "message" ∷ bytes "time" ∷ bytes "dutyCycle" ∷ bytes "uptime" ∷ bytes "temp" ∷ bytes "cpuLoad" ∷
    bytes "memLoad" ∷ bytes "config" ∷ bytes "epEui" ∷ bytes "rxTime" ∷ bytes "rxDuration" ∷ bytes "packetCnt" ∷ bytes "snr" ∷ bytes "rssi" ∷
    bytes "eqSnr" ∷ bytes "profile" ∷ bytes "sign" ∷ bytes "subpackets" ∷ bytes "nwkSnKey" ∷ bytes "shAddr" ∷ bytes "lastPacketCnt" ∷
    bytes "dualChan" ∷ bytes "repetition" ∷ bytes "wideCarrOff" ∷ bytes "longBlkDist" ∷ bytes "userData" ∷ bytes "format" ∷ bytes "dlOpen" ∷
    bytes "responseExp" ∷ bytes "dlAck" ∷ bytes "mode" ∷ bytes "queId" ∷ bytes "cntDepend" ∷ bytes "prio" ∷ bytes "responsePrio" ∷
    bytes "dlWindReq" ∷ bytes "expOnly" ∷ []

-- the key's slot: 0 to 54, and 55 for a key of no command
unfoldable pub slot_of : List ℕ → ℕ
slot_of u = place_in keys u
