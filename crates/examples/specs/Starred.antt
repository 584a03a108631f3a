-- Document 01, "Examples on each side": those marked *, all twelve, in its order, and beside them those of document 02's Q-1.
use Rattle.std.specs.Prelude.{true, false, List, [], ◌∷◌, ◌++◌, ℕ, zero, suc, Ok, Err}
use lib.{IntN.pos, Ieee.Float, Ieee.fin, ListN.take, ListN.drop}
use Rattle.names.specs.Names.{bytes}
use Rattle.field.specs.Cell.{zero64, origin}
use Rattle.message.specs.declared.Maybe.{Maybe}
use Rattle.record.specs.declared.{Body.Body, Message.Message}
use Rattle.refusal.specs.declared.Refusal.TheVariants.{Cut, NeverUsed, TooDeep, OuterNotMap, LeftOver, NoCommand, Invalid, RoomTooShort}
use Rattle.examples.specs.Example.{Example}
use Rattle.examples.specs.Example.Example.{size, read, refused, real, no_real, takes, writing}

-- the payload P: a map of two pairs, `command` with `ping` and `opId` with 1
abbrev pub P : List ℕ
P = 0x82 ∷ 0xA7 ∷ 0x63 ∷ 0x6F ∷ 0x6D ∷ 0x6D ∷ 0x61 ∷ 0x6E ∷ 0x64 ∷ 0xA4 ∷ 0x70 ∷ 0x69 ∷ 0x6E ∷ 0x67 ∷ 0xA4 ∷ 0x6F ∷ 0x70 ∷ 0x49 ∷ 0x64 ∷ 0x01 ∷ []

-- P with 83 and a third pair added
abbrev pub P-with : List ℕ → List ℕ
P-with third = 0x83 ∷ drop 1 P ++ third

-- P with its ID, the last byte, in another form
abbrev pub P-with-ID : List ℕ → List ℕ
P-with-ID id = take 19 P ++ id

-- the key `x`, which no command has
abbrev pub extra : List ℕ → List ℕ
extra value = 0xA1 ∷ 0x78 ∷ value

-- an empty array in n arrays of one part
abbrev pub nested_in : ℕ → List ℕ
nested_in zero = 0x90 ∷ []
nested_in (suc n) = 0x91 ∷ nested_in n

-- the records of ping 1 and of pingRsp 1
abbrev pub ping_1 : Message
ping_1 = record { op_id = pos 1; body = Body.Bare 9 }

abbrev pub ping_rsp_1 : Message
ping_rsp_1 = record { op_id = pos 1; body = Body.Bare 10 }

-- the payload S: a statusRsp 1 with its mandatory fields, an empty text and a dutyCycle to be given, and its record
abbrev pub S-with : List ℕ → List ℕ
S-with duty = 0x86 ∷ []
    ++ 0xA7 ∷ bytes "command" ++ 0xA9 ∷ bytes "statusRsp"
    ++ 0xA4 ∷ bytes "opId" ++ 0x01 ∷ []
    ++ 0xA4 ∷ bytes "code" ++ 0x00 ∷ []
    ++ 0xA7 ∷ bytes "message" ++ 0xA0 ∷ []
    ++ 0xA4 ∷ bytes "time" ++ 0x01 ∷ []
    ++ 0xA9 ∷ bytes "dutyCycle" ++ duty

abbrev no_figure : Maybe Float
no_figure = record { here = false; value = zero64 }

abbrev pub status_rsp_1 : Float → Message
status_rsp_1 duty = record {
  op_id = pos 1;
  body = Body.StatusRsp (record {
    code = pos 0;
    message_len = 0;
    time = 1;
    duty_cycle = duty;
    geo_location = record { here = false; value = origin };
    uptime = record { here = false; value = 0 };
    temp = no_figure;
    cpu_load = no_figure;
    mem_load = no_figure;
  });
}

abbrev pub starred : List Example
starred =
    -- P: payload, 20 bytes, ping 1, 5 elements
    size P 20 ∷
    read P 5 ping_1 ∷
    -- P with 83 and A5 65 70 45 75 69 07 added: same record, 7 elements
    read (P-with (0xA5 ∷ 0x65 ∷ 0x70 ∷ 0x45 ∷ 0x75 ∷ 0x69 ∷ 0x07 ∷ [])) 7 ping_1 ∷
    -- P with ID as D3 00 00 00 00 00 00 00 01: same record
    read (P-with-ID (0xD3 ∷ 0 ∷ 0 ∷ 0 ∷ 0 ∷ 0 ∷ 0 ∷ 0 ∷ 1 ∷ [])) 5 ping_1 ∷
    -- P with one byte added: 10, at the byte left over
    refused (P ++ (0x00 ∷ [])) LeftOver 20 ∷
    -- without its last: 4, where the ID should start
    refused (take 19 P) Cut 19 ∷
    -- 80: 11
    refused (0x80 ∷ []) NoCommand 0 ∷
    -- 90: 9
    refused (0x90 ∷ []) OuterNotMap 0 ∷
    -- C1: 5
    refused (0xC1 ∷ []) NeverUsed 0 ∷
    -- CA C2 C2 00 00 is −97, kept as C0 58 40 00 00 00 00 00
    real (0xCA ∷ 0xC2 ∷ 0xC2 ∷ 0 ∷ 0 ∷ []) (fin true 97 (pos 0)) (0xC0 ∷ 0x58 ∷ 0x40 ∷ 0 ∷ 0 ∷ 0 ∷ 0 ∷ 0 ∷ []) ∷
    -- document 02, Q-1: D0 9F, the integer −97, is the same real
    real (0xD0 ∷ 0x9F ∷ []) (fin true 97 (pos 0)) (0xC0 ∷ 0x58 ∷ 0x40 ∷ 0 ∷ 0 ∷ 0 ∷ 0 ∷ 0 ∷ []) ∷
    -- 2^53 and −2^53 are taken, and one further is none, nor is 2^54
    real (0xCF ∷ 0 ∷ 0x20 ∷ 0 ∷ 0 ∷ 0 ∷ 0 ∷ 0 ∷ 0 ∷ []) (fin false 1 (pos 53)) (0x43 ∷ 0x40 ∷ 0 ∷ 0 ∷ 0 ∷ 0 ∷ 0 ∷ 0 ∷ []) ∷
    real (0xD3 ∷ 0xFF ∷ 0xE0 ∷ 0 ∷ 0 ∷ 0 ∷ 0 ∷ 0 ∷ 0 ∷ []) (fin true 1 (pos 53)) (0xC3 ∷ 0x40 ∷ 0 ∷ 0 ∷ 0 ∷ 0 ∷ 0 ∷ 0 ∷ []) ∷
    no_real (0xCF ∷ 0 ∷ 0x20 ∷ 0 ∷ 0 ∷ 0 ∷ 0 ∷ 0 ∷ 1 ∷ []) ∷
    no_real (0xD3 ∷ 0xFF ∷ 0xDF ∷ 0xFF ∷ 0xFF ∷ 0xFF ∷ 0xFF ∷ 0xFF ∷ 0xFF ∷ []) ∷
    no_real (0xCF ∷ 0 ∷ 0x40 ∷ 0 ∷ 0 ∷ 0 ∷ 0 ∷ 0 ∷ 0 ∷ []) ∷
    -- 0 in one byte and in nine is plus zero
    real (0x00 ∷ []) (fin false 0 (pos 0)) (0 ∷ 0 ∷ 0 ∷ 0 ∷ 0 ∷ 0 ∷ 0 ∷ 0 ∷ []) ∷
    real (0xD3 ∷ 0 ∷ 0 ∷ 0 ∷ 0 ∷ 0 ∷ 0 ∷ 0 ∷ 0 ∷ []) (fin false 0 (pos 0)) (0 ∷ 0 ∷ 0 ∷ 0 ∷ 0 ∷ 0 ∷ 0 ∷ 0 ∷ []) ∷
    -- in a whole message: S with −97, and with one too far: 15
    read (S-with (0xD0 ∷ 0x9F ∷ [])) 13 (status_rsp_1 (fin true 97 (pos 0))) ∷
    refused (S-with (0xCF ∷ 0 ∷ 0x20 ∷ 0 ∷ 0 ∷ 0 ∷ 0 ∷ 0 ∷ 1 ∷ [])) Invalid 0 ∷
    -- an extra value of seven nested arrays, the innermost empty, passes: P's 5 elements, the key and the arrays
    read (P-with (extra (nested_in 6))) 13 ping_1 ∷
    -- eight: 6, where the innermost starts
    refused (P-with (extra (nested_in 7))) TooDeep 29 ∷
    -- pingRsp 1 takes 23 bytes, 35 framed
    takes ping_rsp_1 23 35 ∷
    -- 34 bytes of room: 20
    writing ping_rsp_1 34 (Err RoomTooShort) ∷
    writing ping_rsp_1 35 (Ok 35) ∷
    []
