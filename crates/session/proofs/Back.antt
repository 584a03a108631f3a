-- A session's image has 368 bytes, is a session's, and is read back as the session, for every session that a program can hold: its words and bytes
-- stand in the image one behind the other, each at the place that `session_at` reads. So no two sessions have one image. Assumes nothing.
use mathlib.Core.Path.{◌≡◌, refl, sym, ap, ◌∙◌}
use mathlib.Core.Bool.{Bool, true, false, ◌&&◌, not}
use mathlib.Core.List.{List, [], ◌∷◌, ◌++◌, append_assoc, append-nil}
use Prim.Native.Nat.{ℕ, suc, ◌+◌, ◌*◌, ◌^◌, ◌<◌}
use native.Mathlib.Nat.{add-zero}
use native.Mathlib.Omega.{arith}
use lib.{Dec.eqb, Dec.ltb, IntN.ℤ, IntN.pos}
use lib.ListN.{length, get_or, take, drop, replicate, length-drop, length-map}
use mir.Syntax.{w64}
use mir.Val.{SFits}
use borrow.Author.Tests.{eq-eqb}
use Rattle.octets.specs.{Number.little_at, Bytes.little_bytes, Bytes.mark_byte, Signed.bits_of, Signed.signed_of}
use Rattle.octets.proofs.Places.{here, next, after, part}
use Rattle.octets.proofs.{Digits.length_little, Digits.little_here, Signs.signed_back, Signs.bits_fit}
use Rattle.session.specs.{Session.State, Session.Entry, Session.Session, Session.State.Waiting, Session.State.Connecting, Session.State.Open}
use Rattle.session.specs.{Place.all_free}
use Rattle.session.specs.Image.{state_byte, state_of, ids_of, kinds_of, words_of, tail_of, word_bytes, session_image, word_at, id_at, entries_at, session_at, are_zeros, is_session}
use Rattle.session.proofs.Image.{Sized}

-- what the types of a session's parts say
abbrev pub AllFit : List Entry → Type 0
AllFit [] = Unit {0}
AllFit (e ∷ t) = SFits w64 e.id × AllFit t

pub record Held (s : Session) : Type 0 where
  pub lists : Sized s
  pub eui : s.bs_eui < 2 ^ 64
  pub highest : SFits w64 s.highest
  pub lowest : SFits w64 s.lowest
  pub station : AllFit s.station
  pub centre : AllFit s.centre

-- a state and a mark, there and back
state_back : (k : State) → state_of (state_byte k) ≡ k
state_back Waiting = refl
state_back Connecting = refl
state_back Open = refl

mark_back : (b : Bool) → not (eqb (mark_byte b) 0) ≡ b
mark_back true = refl
mark_back false = refl

state_below : (k : State) → ltb (state_byte k) 3 ≡ true
state_below Waiting = refl
state_below Connecting = refl
state_below Open = refl

mark_below : (b : Bool) → ltb (mark_byte b) 2 ≡ true
mark_below true = refl
mark_below false = refl

module _ (d : List ℕ) where
  -- a word that stands at a place, and what is behind it
  module _ (at x : ℕ) (ws t : List ℕ) (e : drop at d ≡ word_bytes (x ∷ ws) ++ t) where
    word_first : drop at d ≡ little_bytes 8 x ++ (word_bytes ws ++ t)
    unfolding word_bytes
    word_first = e ∙ append_assoc (little_bytes 8 x) (word_bytes ws) t

    word_here : x < 2 ^ 64 → word_at d at ≡ x
    word_here h = little_here 8 x h d at (word_bytes ws ++ t) word_first

    id_here : (z : ℤ) → SFits w64 z → x ≡ bits_of 64 z → id_at d at ≡ z
    id_here z f r = ap (signed_of 64) (little_here 8 x (rw r (bits_fit w64 z f)) d at (word_bytes ws ++ t) word_first ∙ r) ∙ signed_back w64 z f

    word_next : drop (at + 8) d ≡ word_bytes ws ++ t
    word_next = ap (λ (n : ℕ). drop (at + n) d) (sym (length_little 8 x)) ∙ after d at (little_bytes 8 x) (word_bytes ws ++ t) word_first

  -- words and bytes behind several
  words_behind : (at : ℕ) (vs ws t : List ℕ) → drop at d ≡ word_bytes (vs ++ ws) ++ t → drop (at + 8 * length vs) d ≡ word_bytes ws ++ t
  words_behind at [] ws t e = ap (λ (n : ℕ). drop n d) (add-zero at) ∙ e
  words_behind at (x ∷ vs) ws t e =
      let n : at + 8 * suc (length vs) ≡ at + 8 + 8 * length vs = omega arith in
      ap (λ (k : ℕ). drop k d) n ∙ words_behind (at + 8) vs ws t (word_next at x (vs ++ ws) t e)

  bytes_behind : (at n : ℕ) (l t : List ℕ) → length l ≡ n → drop at d ≡ l ++ t → drop (at + n) d ≡ t
  bytes_behind at n l t m e = ap (λ (k : ℕ). drop (at + k) d) (sym m) ∙ after d at l t e

  bytes_here : (at n : ℕ) (l t : List ℕ) → length l ≡ n → drop at d ≡ l ++ t → take n (drop at d) ≡ l
  bytes_here at n l t m e = ap (λ (k : ℕ). take k (drop at d)) (sym m) ∙ part d at l t e

  -- one side's entries
  entries_here : (ids kinds : ℕ) (t : List Entry) (ws u v : List ℕ) → AllFit t → drop ids d ≡ word_bytes (ids_of t ++ ws) ++ u → drop kinds d ≡ kinds_of t ++ v
      → entries_at d ids kinds (length t) ≡ t
  unfolding entries_at
  entries_here ids kinds [] ws u v f p q = refl
  entries_here ids kinds (e ∷ t) ws u v f p q = λ i.
      record {
        id = id_here ids (bits_of 64 e.id) (ids_of t ++ ws) u p e.id f.0 refl i;
        kind = here d kinds e.kind (kinds_of t ++ v) q i;
      }
      ∷ entries_here (ids + 8) (kinds + 1) t ws u v f.1
      (word_next ids (bits_of 64 e.id) (ids_of t ++ ws) u p) (next d kinds e.kind (kinds_of t ++ v) q) i

module _ (s : Session) where
  abbrev image : List ℕ
  image = session_image s

  -- what stands behind each part
  abbrev ids : List ℕ
  ids = ids_of s.station ++ ids_of s.centre

  abbrev last : List ℕ
  last = state_byte s.state ∷ (mark_byte s.stored ∷ replicate 22 0)

  abbrev uuids : List ℕ
  uuids = s.sn_bs_uuid ++ (s.sn_sc_uuid ++ last)

  -- where each part stands
  eui_at : drop 0 image ≡ word_bytes (words_of s) ++ tail_of s
  unfolding session_image
  eui_at = refl

  highest_at : drop 8 image ≡ word_bytes (bits_of 64 s.highest ∷ (bits_of 64 s.lowest ∷ ids)) ++ tail_of s
  highest_at = word_next image 0 s.bs_eui (bits_of 64 s.highest ∷ (bits_of 64 s.lowest ∷ ids)) (tail_of s) eui_at

  lowest_at : drop 16 image ≡ word_bytes (bits_of 64 s.lowest ∷ ids) ++ tail_of s
  lowest_at = word_next image 8 (bits_of 64 s.highest) (bits_of 64 s.lowest ∷ ids) (tail_of s) highest_at

  station_at : drop 24 image ≡ word_bytes ids ++ tail_of s
  station_at = word_next image 16 (bits_of 64 s.lowest) ids (tail_of s) lowest_at

  module _ (g : Sized s) where
    station_long : 24 + 8 * length (ids_of s.station) ≡ 152
    station_long = ap (λ (n : ℕ). 24 + 8 * n) (length-map s.station (λ (e : Entry). bits_of 64 e.id) ∙ g.station)

    centre_long : 152 + 8 * length (ids_of s.centre) ≡ 280
    centre_long = ap (λ (n : ℕ). 152 + 8 * n) (length-map s.centre (λ (e : Entry). bits_of 64 e.id) ∙ g.centre)

    centre_at : drop 152 image ≡ word_bytes (ids_of s.centre ++ []) ++ tail_of s
    centre_at =
        ap (λ (n : ℕ). drop n image) (sym station_long) ∙ words_behind image 24 (ids_of s.station) (ids_of s.centre) (tail_of s) station_at
        ∙ ap (λ (l : List ℕ). word_bytes l ++ tail_of s) (sym (append-nil (ids_of s.centre)))

    station_kinds_at : drop 280 image ≡ tail_of s
    unfolding word_bytes
    station_kinds_at = ap (λ (n : ℕ). drop n image) (sym centre_long) ∙ words_behind image 152 (ids_of s.centre) [] (tail_of s) centre_at

    centre_kinds_at : drop 296 image ≡ kinds_of s.centre ++ uuids
    centre_kinds_at =
        bytes_behind image 280 16 (kinds_of s.station) (kinds_of s.centre ++ uuids) (length-map s.station (λ (e : Entry). e.kind) ∙ g.station) station_kinds_at

    bs_uuid_at : drop 312 image ≡ uuids
    bs_uuid_at = bytes_behind image 296 16 (kinds_of s.centre) uuids (length-map s.centre (λ (e : Entry). e.kind) ∙ g.centre) centre_kinds_at

    sc_uuid_at : drop 328 image ≡ s.sn_sc_uuid ++ last
    sc_uuid_at = bytes_behind image 312 16 s.sn_bs_uuid (s.sn_sc_uuid ++ last) g.bs_uuid bs_uuid_at

    state_at : drop 344 image ≡ last
    state_at = bytes_behind image 328 16 s.sn_sc_uuid last g.sc_uuid sc_uuid_at

    stored_at : drop 345 image ≡ mark_byte s.stored ∷ replicate 22 0
    stored_at = next image 344 (state_byte s.state) (mark_byte s.stored ∷ replicate 22 0) state_at

    spare_at : drop 346 image ≡ replicate 22 0
    spare_at = next image 345 (mark_byte s.stored) (replicate 22 0) stored_at

    state_here : get_or image 344 0 ≡ state_byte s.state
    state_here = here image 344 (state_byte s.state) (mark_byte s.stored ∷ replicate 22 0) state_at

    stored_here : get_or image 345 0 ≡ mark_byte s.stored
    stored_here = here image 345 (mark_byte s.stored) (replicate 22 0) stored_at

    pub session_size : length (session_image s) ≡ 368
    session_size = omega (arith, length-drop 346 image, ap length spare_at)

  module _ (g : Held s) where
    pub session_is : is_session (session_image s) ≡ true
    unfolding is_session are_zeros
    session_is =
        (λ i. eq-eqb (length image) 368 (session_size g.lists) i
        && (ltb (state_here g.lists i) 3 && (ltb (stored_here g.lists i) 2 && are_zeros (spare_at g.lists i))))
        ∙ (λ i. state_below s.state i && (mark_below s.stored i && true))

    station_here : entries_at image 24 280 16 ≡ s.station
    station_here =
        ap (entries_at image 24 280) (sym g.lists.station)
        ∙ entries_here image 24 280 s.station (ids_of s.centre) (tail_of s) (kinds_of s.centre ++ uuids) g.station station_at (station_kinds_at g.lists)

    centre_here : entries_at image 152 296 16 ≡ s.centre
    centre_here =
        ap (entries_at image 152 296) (sym g.lists.centre)
        ∙ entries_here image 152 296 s.centre [] (tail_of s) uuids g.centre (centre_at g.lists) (centre_kinds_at g.lists)

    pub session_back : session_at (session_image s) ≡ s
    unfolding session_at
    session_back = λ i. record {
      state = (ap state_of (state_here g.lists) ∙ state_back s.state) i;
      stored = (ap (λ (n : ℕ). not (eqb n 0)) (stored_here g.lists) ∙ mark_back s.stored) i;
      bs_eui = word_here image 0 s.bs_eui (bits_of 64 s.highest ∷ (bits_of 64 s.lowest ∷ ids)) (tail_of s) eui_at g.eui i;
      sn_bs_uuid = bytes_here image 312 16 s.sn_bs_uuid (s.sn_sc_uuid ++ last) g.lists.bs_uuid (bs_uuid_at g.lists) i;
      sn_sc_uuid = bytes_here image 328 16 s.sn_sc_uuid last g.lists.sc_uuid (sc_uuid_at g.lists) i;
      highest = id_here image 8 (bits_of 64 s.highest) (bits_of 64 s.lowest ∷ ids) (tail_of s) highest_at s.highest g.highest refl i;
      lowest = id_here image 16 (bits_of 64 s.lowest) ids (tail_of s) lowest_at s.lowest g.lowest refl i;
      station = station_here i;
      centre = centre_here i;
    }

-- no two sessions have one image
pub one_session : (s t : Session) → Held s → Held t → session_image s ≡ session_image t → s ≡ t
one_session s t g h e = sym (session_back s g) ∙ ap session_at e ∙ session_back t h

-- all zeros is a new session: waiting, with nothing stored and every place free
abbrev pub blank : Session
blank = record {
  state = Waiting;
  stored = false;
  bs_eui = 0;
  sn_bs_uuid = replicate 16 0;
  sn_sc_uuid = replicate 16 0;
  highest = pos 0;
  lowest = pos 0;
  station = all_free;
  centre = all_free;
}

pub new_session : session_at (replicate 368 0) ≡ blank
unfolding session_at entries_at little_at
new_session = refl

pub new_is_session : is_session (replicate 368 0) ≡ true
unfolding is_session are_zeros
new_is_session = refl
