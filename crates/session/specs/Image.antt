-- How a session lies in memory: 368 bytes, the C struct chz_session. All zeros is a new session.
use Rattle.std.specs.Prelude.{ℕ, zero, suc, ◌+◌, Bool, true, ◌&&◌, not, List, [], ◌∷◌, ◌++◌, map, length, get_or, take, drop, replicate}
use lib.{Dec.eqb, Dec.ltb, IntN.ℤ}
use Rattle.octets.specs.{Number.little_at, Bytes.little_bytes, Bytes.mark_byte, Signed.bits_of, Signed.signed_of}
use Rattle.session.specs.{Session.State, Session.Entry, Session.Session, Session.State.Waiting, Session.State.Connecting, Session.State.Open}

-- the places of its parts, in the struct's order: words of eight bytes, little endian
abbrev pub eui_place : ℕ
eui_place = 0

abbrev pub highest_place : ℕ
highest_place = 8

abbrev pub lowest_place : ℕ
lowest_place = 16

abbrev pub station_ids : ℕ
station_ids = 24

abbrev pub centre_ids : ℕ
centre_ids = 152

-- then bytes
abbrev pub station_kinds : ℕ
station_kinds = 280

abbrev pub centre_kinds : ℕ
centre_kinds = 296

abbrev pub bs_uuid_place : ℕ
bs_uuid_place = 312

abbrev pub sc_uuid_place : ℕ
sc_uuid_place = 328

abbrev pub state_place : ℕ
state_place = 344

abbrev pub stored_place : ℕ
stored_place = 345

-- zeros, for what later releases keep here
abbrev pub spare_place : ℕ
spare_place = 346

abbrev pub spare_size : ℕ
spare_size = 22

abbrev pub session_size : ℕ
session_size = 368

-- a state and a mark as bytes
abbrev pub state_byte : State → ℕ
state_byte Waiting = 0
state_byte Connecting = 1
state_byte Open = 2

abbrev pub state_of : ℕ → State
state_of zero = Waiting
state_of (suc zero) = Connecting
state_of (suc (suc n)) = Open

-- the words of a session, and its bytes
abbrev pub ids_of : List Entry → List ℕ
ids_of t = map (λ (e : Entry). bits_of 64 e.id) t

abbrev pub kinds_of : List Entry → List ℕ
kinds_of t = map (λ (e : Entry). e.kind) t

abbrev pub words_of : Session → List ℕ
words_of s = s.bs_eui ∷ (bits_of 64 s.highest ∷ (bits_of 64 s.lowest ∷ (ids_of s.station ++ ids_of s.centre)))

abbrev pub tail_of : Session → List ℕ
tail_of s =
    kinds_of s.station ++ (kinds_of s.centre ++ (s.sn_bs_uuid ++ (s.sn_sc_uuid ++ (state_byte s.state ∷ (mark_byte s.stored ∷ replicate spare_size 0)))))

unfoldable pub word_bytes : List ℕ → List ℕ
word_bytes [] = []
word_bytes (x ∷ xs) = little_bytes 8 x ++ word_bytes xs

-- the bytes of a session
unfoldable pub session_image : Session → List ℕ
session_image s = word_bytes (words_of s) ++ tail_of s

-- the session in the bytes
abbrev pub word_at : List ℕ → ℕ → ℕ
word_at d at = little_at d at 8

abbrev pub id_at : List ℕ → ℕ → ℤ
id_at d at = signed_of 64 (word_at d at)

-- n entries, their IDs from one place on and their kinds from another
unfoldable pub entries_at : List ℕ → ℕ → ℕ → ℕ → List Entry
entries_at d ids kinds zero = []
entries_at d ids kinds (suc n) = record { id = id_at d ids; kind = get_or d kinds 0 } ∷ entries_at d (ids + 8) (kinds + 1) n

unfoldable pub session_at : List ℕ → Session
session_at d = record {
  state = state_of (get_or d state_place 0);
  stored = not (eqb (get_or d stored_place 0) 0);
  bs_eui = word_at d eui_place;
  sn_bs_uuid = take 16 (drop bs_uuid_place d);
  sn_sc_uuid = take 16 (drop sc_uuid_place d);
  highest = id_at d highest_place;
  lowest = id_at d lowest_place;
  station = entries_at d station_ids station_kinds 16;
  centre = entries_at d centre_ids centre_kinds 16;
}

unfoldable pub are_zeros : List ℕ → Bool
are_zeros [] = true
are_zeros (b ∷ d) = eqb b 0 && are_zeros d

-- the bytes of some session; any others are refused with 15
unfoldable pub is_session : List ℕ → Bool
is_session d =
    eqb (length d) session_size && (ltb (get_or d state_place 0) 3 && (ltb (get_or d stored_place 0) 2 && are_zeros (drop spare_place d)))
