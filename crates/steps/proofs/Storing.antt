-- What the code stores is the rule's session: the bytes before are the image of the session in them, and each store is one part of it changed.
-- Each law in the shape of a need of the code. Assumes nothing.
use mathlib.Core.Path.{◌≡◌, refl, sym, ap, ap₂, ◌∙◌}
use mathlib.Core.Bool.{true}
use mathlib.Core.List.{List, [], ◌∷◌, ◌++◌, append_assoc}
use Prim.Native.Nat.{ℕ, ◌+◌, ◌*◌, ◌≤◌, ◌<◌}
use native.Mathlib.Omega.{arith}
use lib.{IntN.ℤ, IntN.pos, Signed.mag, Seq.drop-cons, Seq.length-take-le}
use mir.Syntax.{w64}
use mir.Val.{to_z, of_z}
use lib.ListN.{length, get_or, set, take, drop, replicate, length-set, length-append, length-drop, length-replicate, take-append-drop}
use Rattle.octets.specs.{Bytes.little_bytes, Bytes.put_at, Code.Put.put_number, Signed.bits_of}
use Rattle.octets.proofs.{Digits.length_little, Writing.length_put}
use Rattle.session.specs.{Session.Session, Session.State.Waiting, Session.State.Connecting, Session.State.Open, Place.entry, Place.taken, Place.freed}
use Rattle.session.specs.{Centre.stored, Image.word_bytes, Image.session_image, Image.session_at}
use Rattle.session.specs.Arrive.{with_station, with_centre, resumed, opened, begun_with}
use Rattle.session.proofs.Image.{tested, image_back, Sized, sized, zeros_again, part_then}
use Rattle.session.proofs.Stored.{put_part, set_right, highest_stored, lowest_stored, station_stored, centre_stored, state_stored, mark_stored}
use Rattle.steps.specs.declared.side.Side.{Side, TheVariants.Station, TheVariants.Centre}
use Rattle.steps.specs.Code.Lies.{Lies, side_ids, side_kinds, bound_place, entries_of, bound_of, with_side}
use Rattle.steps.proofs.Knowing.{kept}

-- a store after a store keeps the length
pub same_long : (d a f : List ℕ) (k v : ℕ) → length a ≡ length d → length f ≡ length (set a k v) → length f ≡ length d
same_long d a f k v p q = q ∙ length-set a k v ∙ p

module _ (d : List ℕ) (l : Lies d) where
  abbrev s : Session
  s = session_at d

  back : d ≡ session_image s
  back = sym (image_back d l.bytes (tested d l.is))

  pub long : length d ≡ 368
  long = (tested d l.is).long

  -- a byte behind the words, after a store that keeps the length
  pub in_bytes : (e : List ℕ) → length e ≡ length d → (k i : ℕ) → i < 16 → k ≤ 296 → k + i < length e
  in_bytes e n k i h m = omega (arith, long)

  pub session_in : (k : ℕ) → k < 368 → k < length d
  session_in k h = omega (arith, long)

  lists : Sized s
  lists = sized d long

  -- an entry of each side
  module _ (i : ℕ) (h : i < 16) where
    module _ (x k : ℕ) (z : ℤ) (e : x ≡ bits_of 64 z) where
      station_with : Sized (with_station s s.highest (set s.station i (entry z k)))
      station_with = record { station = length-set s.station i (entry z k) ∙ lists.station; centre = lists.centre; bs_uuid = lists.bs_uuid; sc_uuid = lists.sc_uuid }

      centre_with : Sized (with_centre s s.lowest (set s.centre i (entry z k)))
      centre_with = record { station = lists.station; centre = length-set s.centre i (entry z k) ∙ lists.centre; bs_uuid = lists.bs_uuid; sc_uuid = lists.sc_uuid }

      station_entry : set (put_at d (24 + 8 * i) (little_bytes 8 x)) (280 + i) k ≡ session_image (with_station s s.highest (set s.station i (entry z k)))
      station_entry = ap₂ (λ (f : List ℕ) (y : ℕ). set (put_at f (24 + 8 * i) (little_bytes 8 y)) (280 + i) k) back e ∙ station_stored s lists i h z k

      centre_entry : set (put_at d (152 + 8 * i) (little_bytes 8 x)) (296 + i) k ≡ session_image (with_centre s s.lowest (set s.centre i (entry z k)))
      centre_entry = ap₂ (λ (f : List ℕ) (y : ℕ). set (put_at f (152 + 8 * i) (little_bytes 8 y)) (296 + i) k) back e ∙ centre_stored s lists i h z k

    -- as the calls that store it leave the bytes; the ID as the machine has it
    module _ (k : ℕ) (z : ℤ) (m : mag z < 0x8000000000000000) (x : ℕ) (e : x ≡ bits_of 64 (to_z w64 (of_z w64 z))) (a f : List ℕ) where
      bits : x ≡ bits_of 64 z
      bits = e ∙ ap (bits_of 64) (kept z m)

      station_taken : a ≡ put_number d (24 + 8 * i) 8 (little_bytes 8 x) → f ≡ put_number (set a (280 + i) k) 8 8 (little_bytes 8 x)
          → f ≡ session_image (with_station s z (taken s.station i z k))
      station_taken p q =
          q ∙ ap (λ (g : List ℕ). put_at (set g (280 + i) k) 8 (little_bytes 8 x)) p
          ∙ ap₂ (λ (g : List ℕ) (y : ℕ). put_at g 8 (little_bytes 8 y)) (station_entry x k z bits) bits
          ∙ highest_stored (with_station s s.highest (set s.station i (entry z k))) (station_with x k z bits) z

      centre_taken : a ≡ put_number d (152 + 8 * i) 8 (little_bytes 8 x) → f ≡ put_number (set a (296 + i) k) 16 8 (little_bytes 8 x)
          → f ≡ session_image (with_centre s z (taken s.centre i z k))
      centre_taken p q =
          q ∙ ap (λ (g : List ℕ). put_at (set g (296 + i) k) 16 (little_bytes 8 x)) p
          ∙ ap₂ (λ (g : List ℕ) (y : ℕ). put_at g 16 (little_bytes 8 y)) (centre_entry x k z bits) bits
          ∙ lowest_stored (with_centre s s.lowest (set s.centre i (entry z k))) (centre_with x k z bits) z

      -- of the side that the code has
      pub side_taken : (v : Side) (ids kinds bound : ℕ) → ids ≡ side_ids v → kinds ≡ side_kinds v → bound ≡ bound_place v → a ≡ put_number d (ids + 8 * i) 8 (little_bytes 8 x)
          → f ≡ put_number (set a (kinds + i) k) bound 8 (little_bytes 8 x) → f ≡ session_image (with_side v s z (taken (entries_of v s) i z k))
      side_taken Station ids kinds bound o p r g h = station_taken (rw o at g) (rw (p, r) at h)
      side_taken Centre ids kinds bound o p r g h = centre_taken (rw o at g) (rw (p, r) at h)

    module _ (a : List ℕ) where
      station_freed : a ≡ put_number d (24 + 8 * i) 8 (little_bytes 8 0) → set a (280 + i) 0 ≡ session_image (with_station s s.highest (freed s.station i))
      station_freed p = ap (λ (g : List ℕ). set g (280 + i) 0) p ∙ station_entry 0 0 (pos 0) refl

      centre_freed : a ≡ put_number d (152 + 8 * i) 8 (little_bytes 8 0) → set a (296 + i) 0 ≡ session_image (with_centre s s.lowest (freed s.centre i))
      centre_freed p = ap (λ (g : List ℕ). set g (296 + i) 0) p ∙ centre_entry 0 0 (pos 0) refl

      pub side_freed : (v : Side) (ids kinds : ℕ) → ids ≡ side_ids v → kinds ≡ side_kinds v → a ≡ put_number d (ids + 8 * i) 8 (little_bytes 8 0)
          → set a (kinds + i) 0 ≡ session_image (with_side v s (bound_of v s) (freed (entries_of v s) i))
      side_freed Station ids kinds o p g = ap (λ (j : ℕ). set a (j + i) 0) p ∙ station_freed (rw o at g)
      side_freed Centre ids kinds o p g = ap (λ (j : ℕ). set a (j + i) 0) p ∙ centre_freed (rw o at g)

  -- the state
  pub now_connecting : set d 344 1 ≡ session_image (resumed s)
  now_connecting = ap (λ (f : List ℕ). set f 344 1) back ∙ state_stored s lists Connecting

  pub now_open : set d 344 2 ≡ session_image (opened s)
  now_open = ap (λ (f : List ℕ). set f 344 2) back ∙ state_stored s lists Open

  pub now_stored : set (set d 344 0) 345 1 ≡ session_image (stored s)
  now_stored =
      ap (λ (f : List ℕ). set (set f 344 0) 345 1) back ∙ ap (λ (f : List ℕ). set f 345 1) (state_stored s lists Waiting)
      ∙ mark_stored _ (record { station = lists.station; centre = lists.centre; bs_uuid = lists.bs_uuid; sc_uuid = lists.sc_uuid }) true

  -- the room for a new session's parts, one behind the other
  module _ (eui : ℕ) (a : List ℕ) (A : a ≡ put_number d 0 8 (little_bytes 8 eui)) where
    a_long : length a ≡ 368
    a_long = ap length A ∙ length_put d 0 (little_bytes 8 eui) ∙ long

    pub clear_room : 312 ≤ length a
    clear_room = omega (arith, a_long)

    module _ (b : List ℕ) (B : b ≡ put_at a 8 (replicate 304 0)) where
      b_long : length b ≡ 368
      b_long = ap length B ∙ length_put a 8 (replicate 304 0) ∙ a_long

      pub station_room : 328 ≤ length b
      station_room = omega (arith, b_long)

      module _ (bs e : List ℕ) (E : e ≡ put_at b 312 bs) where
        e_long : length e ≡ 368
        e_long = ap length E ∙ length_put b 312 bs ∙ b_long

        pub own_room : 344 ≤ length e
        own_room = omega (arith, e_long)

        module _ (sc f : List ℕ) (F : f ≡ put_at e 328 sc) where
          f_long : length f ≡ 368
          f_long = ap length F ∙ length_put e 328 sc ∙ e_long

          pub state_in : 344 < length f
          state_in = omega (arith, f_long)

          pub mark_in : 345 < length (set f 344 1)
          mark_in = omega (arith, f_long, length-set f 344 1)

          pub same_room : length (set (set f 344 1) 345 0) ≡ length d
          same_room = length-set (set f 344 1) 345 0 ∙ length-set f 344 1 ∙ f_long ∙ sym long

  -- a new session: its EUI, cleared IDs and kinds, two UUIDs, connecting and not stored
  module _ (eui : ℕ) (bs sc : List ℕ) (p : length bs ≡ 16) (q : length sc ≡ 16) where
    abbrev zeros : List ℕ
    zeros = replicate 304 0

    spare : drop 346 d ≡ replicate 22 0
    spare =
        let n : length (drop 346 d) ≡ 22 = length-drop 346 d ∙ omega (arith, long) in
        zeros_again (drop 346 d) (tested d l.is).spare ∙ ap (λ (k : ℕ). replicate k 0) n

    eui_put : put_at d 0 (little_bytes 8 eui) ≡ little_bytes 8 eui ++ drop 8 d
    eui_put =
        let n : length (little_bytes 8 eui) ≡ length (take 8 d) = length_little 8 eui ∙ sym (length-take-le 8 d (omega (arith, long))) in
        ap (λ (f : List ℕ). put_at f 0 (little_bytes 8 eui)) (sym (take-append-drop 8 d)) ∙ put_part [] (take 8 d) (drop 8 d) (little_bytes 8 eui) 0 refl n

    -- bytes behind others, in place of as many
    next_put : (front v : List ℕ) (at n : ℕ) → length front ≡ at → length v ≡ n → at + n ≤ 368 → put_at (front ++ drop at d) at v ≡ (front ++ v) ++ drop (at + n) d
    next_put front v at n e f h =
        let m : length v ≡ length (take n (drop at d)) = f ∙ sym (length-take-le n (drop at d) (omega (arith, long, length-drop at d))) in
        ap (λ (x : List ℕ). put_at (front ++ x) at v) (sym (part_then d l.bytes at n))
        ∙ put_part front (take n (drop at d)) (drop (at + n) d) v at e m ∙ sym (append_assoc front v (drop (at + n) d))

    abbrev one : List ℕ
    one = little_bytes 8 eui ++ zeros

    abbrev two : List ℕ
    two = one ++ bs

    abbrev three : List ℕ
    three = two ++ sc

    one_long : length one ≡ 312
    one_long = length-append (little_bytes 8 eui) zeros ∙ omega (arith, length_little 8 eui, length-replicate {A = ℕ} 304 0)

    two_long : length two ≡ 328
    two_long = length-append one bs ∙ omega (arith, one_long, p)

    three_long : length three ≡ 344
    three_long = length-append two sc ∙ omega (arith, two_long, q)

    all_put : put_at (put_at (put_at (put_at d 0 (little_bytes 8 eui)) 8 zeros) 312 bs) 328 sc ≡ three ++ drop 344 d
    all_put =
        ap (λ (f : List ℕ). put_at (put_at (put_at f 8 zeros) 312 bs) 328 sc) eui_put
        ∙ ap (λ (f : List ℕ). put_at (put_at f 312 bs) 328 sc) (next_put (little_bytes 8 eui) zeros 8 304 (length_little 8 eui) (length-replicate {A = ℕ} 304 0) (omega arith))
        ∙ ap (λ (f : List ℕ). put_at f 328 sc) (next_put one bs 312 16 one_long p (omega arith))
        ∙ next_put two sc 328 16 two_long q (omega arith)

    last_set : set (set (three ++ drop 344 d) 344 1) 345 0 ≡ three ++ (1 ∷ (0 ∷ replicate 22 0))
    last_set =
        ap (λ (f : List ℕ). set (set (three ++ f) 344 1) 345 0)
        (drop-cons d 344 0 (omega (arith, long)) ∙ ap (λ (f : List ℕ). get_or d 344 0 ∷ f) (drop-cons d 345 0 (omega (arith, long)) ∙ ap (λ (f : List ℕ). get_or d 345 0 ∷ f) spare))
        ∙ ap (λ (f : List ℕ). set f 345 0) (set_right three (get_or d 344 0 ∷ (get_or d 345 0 ∷ replicate 22 0)) 344 0 1 three_long)
        ∙ set_right three (1 ∷ (get_or d 345 0 ∷ replicate 22 0)) 344 1 0 three_long

    begun_is : three ++ (1 ∷ (0 ∷ replicate 22 0)) ≡ session_image (begun_with eui bs sc)
    unfolding session_image word_bytes little_bytes
    begun_is = simp append_assoc

    pub anew : set (set (put_at (put_at (put_at (put_number d 0 8 (little_bytes 8 eui)) 8 zeros) 312 bs) 328 sc) 344 1) 345 0 ≡ session_image (begun_with eui bs sc)
    anew = ap (λ (f : List ℕ). set (set f 344 1) 345 0) all_put ∙ last_set ∙ begun_is

    -- the same after the calls that store it, each of which says what it leaves
    pub begun_anew : (a b e f : List ℕ) → a ≡ put_number d 0 8 (little_bytes 8 eui) → b ≡ put_at a 8 zeros → e ≡ put_at b 312 bs → f ≡ put_at e 328 sc
        → set (set f 344 1) 345 0 ≡ session_image (begun_with eui bs sc)
    begun_anew a b e f A B E F =
        ap (λ (l : List ℕ). set (set l 344 1) 345 0)
        (F ∙ ap (λ (l : List ℕ). put_at l 328 sc) (E ∙ ap (λ (l : List ℕ). put_at l 312 bs) (B ∙ ap (λ (l : List ℕ). put_at l 8 zeros) A)))
        ∙ anew

pub ruleset anews = (clear_room, station_room, own_room, state_in, mark_in, same_room, begun_anew)
