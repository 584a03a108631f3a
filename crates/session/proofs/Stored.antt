-- Stores into the bytes of a session, seen as the session: a word or a byte that is stored is one part of the session changed, and every other byte
-- stays. One law for a word among words, one for a byte among bytes. Assumes nothing.
use mathlib.Core.Path.{◌≡◌, refl, sym, ap, ap₂, ◌∙◌}
use mathlib.Core.Bool.{Bool}
use mathlib.Core.List.{List, [], ◌∷◌, ◌++◌, map, append_assoc}
use Prim.Native.Nat.{ℕ, zero, suc, ◌+◌, ◌*◌, ◌≤◌, ◌<◌}
use native.Mathlib.Omega.{arith}
use lib.IntN.{ℤ}
use lib.ListN.{length, get_or, set, take, drop, replicate, length-append, length-map, length-set}
use lib.Seq.{set-append_left, set_split, split_at, take_at, drop_at, drop-append-add, length-take-le}
use Rattle.octets.specs.{Bytes.little_bytes, Bytes.put_at, Bytes.mark_byte, Signed.bits_of}
use Rattle.octets.proofs.{Digits.length_little, Writing.put_in}
use Rattle.session.specs.{Session.State, Session.Entry, Session.Session, Place.entry, Arrive.moved, Arrive.with_station, Arrive.with_centre}
use Rattle.session.specs.Image.{state_byte, ids_of, kinds_of, words_of, tail_of, word_bytes, session_image}
use Rattle.session.proofs.Image.{Sized}

-- a part of a list in place of another of its length
pub put_part : (a b c v : List ℕ) (at : ℕ) → length a ≡ at → length v ≡ length b → put_at (a ++ (b ++ c)) at v ≡ a ++ (v ++ c)
put_part a b c v at p q =
    let l : at + length v ≤ length (a ++ (b ++ c)) = omega (arith, length-append a (b ++ c), length-append b c) in
    put_in (a ++ (b ++ c)) at v l
    ∙ ap₂ (λ (x y : List ℕ). x ++ (v ++ y)) (take_at a (b ++ c) at p)
    (ap (λ (k : ℕ). drop (k + length v) (a ++ (b ++ c))) (sym p) ∙ drop-append-add a (b ++ c) (length v) ∙ drop_at b c (length v) (sym q))

pub set_right : {A : Type 0} (a b : List A) (n j : ℕ) (v : A) → length a ≡ n → set (a ++ b) (n + j) v ≡ a ++ set b j v
set_right [] b zero j v e =
    let z : 0 + j ≡ j = omega arith in
    ap (λ (k : ℕ). set b k v) z
set_right [] b (suc n) j v e = absurd (omega arith)
set_right (x ∷ a) b zero j v e = absurd (omega arith)
set_right {A = A} (x ∷ a) b (suc n) j v e =
    let z : suc n + j ≡ suc (n + j) = omega arith in
    ap (λ (k : ℕ). set (x ∷ (a ++ b)) k v) z ∙ ap (λ (l : List A). x ∷ l) (set_right a b n j v (omega arith))

set_map : {A B : Type 0} (f : A → B) (t : List A) (i : ℕ) (e : A) → map f (set t i e) ≡ set (map f t) i (f e)
set_map f [] i e = refl
set_map f (x ∷ t) zero e = refl
set_map {B = B} f (x ∷ t) (suc i) e = ap (λ (l : List B). f x ∷ l) (set_map f t i e)

-- words
words_long : (ws : List ℕ) → length (word_bytes ws) ≡ 8 * length ws
unfolding word_bytes
words_long [] = refl
words_long (x ∷ ws) = omega (arith, length-append (little_bytes 8 x) (word_bytes ws), length_little 8 x, words_long ws)

words_joined : (a b : List ℕ) → word_bytes (a ++ b) ≡ word_bytes a ++ word_bytes b
unfolding word_bytes
words_joined [] b = refl
words_joined (x ∷ a) b = ap (λ (l : List ℕ). little_bytes 8 x ++ l) (words_joined a b) ∙ sym (append_assoc (little_bytes 8 x) (word_bytes a) (word_bytes b))

-- the words in front of one, that one, and those behind it with what follows
parted : (ws bs : List ℕ) (j : ℕ) (x : ℕ) → word_bytes (take j ws ++ (x ∷ drop (suc j) ws)) ++ bs ≡ word_bytes (take j ws) ++ (little_bytes 8 x ++ (word_bytes (drop (suc j) ws) ++ bs))
unfolding word_bytes
parted ws bs j x =
    ap (λ (l : List ℕ). l ++ bs) (words_joined (take j ws) (x ∷ drop (suc j) ws))
    ∙ append_assoc (word_bytes (take j ws)) (little_bytes 8 x ++ word_bytes (drop (suc j) ws)) bs
    ∙ ap (λ (l : List ℕ). word_bytes (take j ws) ++ l) (append_assoc (little_bytes 8 x) (word_bytes (drop (suc j) ws)) bs)

pub word_put : (ws bs : List ℕ) (j x : ℕ) → j < length ws → put_at (word_bytes ws ++ bs) (8 * j) (little_bytes 8 x) ≡ word_bytes (set ws j x) ++ bs
word_put ws bs j x h =
    let w = get_or ws j 0 in
    let n : length (word_bytes (take j ws)) ≡ 8 * j = words_long (take j ws) ∙ ap (λ (k : ℕ). 8 * k) (length-take-le j ws (omega arith)) in
    let v : length (little_bytes 8 x) ≡ length (little_bytes 8 w) = length_little 8 x ∙ sym (length_little 8 w) in
    ap (λ (l : List ℕ). put_at (word_bytes l ++ bs) (8 * j) (little_bytes 8 x)) (split_at ws j 0 h)
    ∙ ap (λ (l : List ℕ). put_at l (8 * j) (little_bytes 8 x)) (parted ws bs j w)
    ∙ put_part (word_bytes (take j ws)) (little_bytes 8 w) (word_bytes (drop (suc j) ws) ++ bs) (little_bytes 8 x) (8 * j) n v
    ∙ sym (ap (λ (l : List ℕ). word_bytes l ++ bs) (set_split ws j x h) ∙ parted ws bs j x)

-- bytes behind the words
pub byte_put : (ws bs : List ℕ) (n j v : ℕ) → 8 * length ws ≡ n → set (word_bytes ws ++ bs) (n + j) v ≡ word_bytes ws ++ set bs j v
byte_put ws bs n j v e = set_right (word_bytes ws) bs n j v (words_long ws ∙ e)

-- one side's lists
module _ (t : List Entry) (i : ℕ) (z : ℤ) (k : ℕ) where
  ids_set : ids_of (set t i (entry z k)) ≡ set (ids_of t) i (bits_of 64 z)
  ids_set = set_map (λ (e : Entry). bits_of 64 e.id) t i (entry z k)

  kinds_set : kinds_of (set t i (entry z k)) ≡ set (kinds_of t) i k
  kinds_set = set_map (λ (e : Entry). e.kind) t i (entry z k)

module _ (s : Session) (g : Sized s) where
  ids_long : length (ids_of s.station) ≡ 16
  ids_long = length-map s.station (λ (e : Entry). bits_of 64 e.id) ∙ g.station

  kinds_long : length (kinds_of s.station) ≡ 16
  kinds_long = length-map s.station (λ (e : Entry). e.kind) ∙ g.station

  centre_ids_long : length (ids_of s.centre) ≡ 16
  centre_ids_long = length-map s.centre (λ (e : Entry). bits_of 64 e.id) ∙ g.centre

  centre_kinds_long : length (kinds_of s.centre) ≡ 16
  centre_kinds_long = length-map s.centre (λ (e : Entry). e.kind) ∙ g.centre

  words_count : length (words_of s) ≡ 35
  words_count = omega (arith, length-append (ids_of s.station) (ids_of s.centre), ids_long, centre_ids_long)

  words_end : 8 * length (words_of s) ≡ 280
  words_end = ap (λ (k : ℕ). 8 * k) words_count

  -- a word of the session, and a byte of it
  word_stored : (t : Session) (j x : ℕ) → j < 35 → words_of t ≡ set (words_of s) j x → tail_of t ≡ tail_of s → put_at (session_image s) (8 * j) (little_bytes 8 x) ≡ session_image t
  unfolding session_image
  word_stored t j x h e f =
      word_put (words_of s) (tail_of s) j x (omega (arith, words_count)) ∙ sym (ap₂ (λ (ws bs : List ℕ). word_bytes ws ++ bs) e f)

  byte_stored : (t : Session) (j v : ℕ) → words_of t ≡ words_of s → tail_of t ≡ set (tail_of s) j v → set (session_image s) (280 + j) v ≡ session_image t
  unfolding session_image
  byte_stored t j v e f = byte_put (words_of s) (tail_of s) 280 j v words_end ∙ sym (ap₂ (λ (ws bs : List ℕ). word_bytes ws ++ bs) e f)

  -- the highest station ID known, and the lowest centre ID issued
  pub highest_stored : (z : ℤ) → put_at (session_image s) 8 (little_bytes 8 (bits_of 64 z)) ≡ session_image (with_station s z s.station)
  highest_stored z = word_stored (with_station s z s.station) 1 (bits_of 64 z) (omega arith) refl refl

  pub lowest_stored : (z : ℤ) → put_at (session_image s) 16 (little_bytes 8 (bits_of 64 z)) ≡ session_image (with_centre s z s.centre)
  lowest_stored z = word_stored (with_centre s z s.centre) 2 (bits_of 64 z) (omega arith) refl refl

  -- an ID among the words and a kind among the bytes
  entry_stored : (t : Session) (j x p v : ℕ) → j < 35 → words_of t ≡ set (words_of s) j x → tail_of t ≡ set (tail_of s) p v
      → set (put_at (session_image s) (8 * j) (little_bytes 8 x)) (280 + p) v ≡ session_image t
  unfolding session_image
  entry_stored t j x p v h e f =
      let n : 8 * length (set (words_of s) j x) ≡ 280 = ap (λ (k : ℕ). 8 * k) (length-set (words_of s) j x) ∙ words_end in
      ap (λ (l : List ℕ). set l (280 + p) v) (word_put (words_of s) (tail_of s) j x (omega (arith, words_count)))
      ∙ byte_put (set (words_of s) j x) (tail_of s) 280 p v n ∙ sym (ap₂ (λ (ws bs : List ℕ). word_bytes ws ++ bs) e f)

  module _ (i : ℕ) (h : i < 16) (z : ℤ) (k : ℕ) where
    pub station_stored : set (put_at (session_image s) (24 + 8 * i) (little_bytes 8 (bits_of 64 z))) (280 + i) k ≡ session_image (with_station s s.highest (set s.station i (entry z k)))
    station_stored =
        let j = suc (suc (suc i)) in
        let e : 24 + 8 * i ≡ 8 * j = omega arith in
        ap (λ (at : ℕ). set (put_at (session_image s) at (little_bytes 8 (bits_of 64 z))) (280 + i) k) e
        ∙ entry_stored (with_station s s.highest (set s.station i (entry z k))) j (bits_of 64 z) i k (omega arith)
        (ap (λ (l : List ℕ). s.bs_eui ∷ (bits_of 64 s.highest ∷ (bits_of 64 s.lowest ∷ l)))
        (ap (λ (l : List ℕ). l ++ ids_of s.centre) (ids_set s.station i z k)
        ∙ sym (set-append_left (ids_of s.station) (ids_of s.centre) i (bits_of 64 z) (omega (arith, ids_long)))))
        (ap (λ (l : List ℕ). l ++ behind_kinds) (kinds_set s.station i z k) ∙ sym (set-append_left (kinds_of s.station) behind_kinds i k (omega (arith, kinds_long))))
      where
        behind_kinds : List ℕ
        behind_kinds = kinds_of s.centre ++ (s.sn_bs_uuid ++ (s.sn_sc_uuid ++ (state_byte s.state ∷ (mark_byte s.stored ∷ replicate 22 0))))

    pub centre_stored : set (put_at (session_image s) (152 + 8 * i) (little_bytes 8 (bits_of 64 z))) (296 + i) k ≡ session_image (with_centre s s.lowest (set s.centre i (entry z k)))
    centre_stored =
        let j = suc (suc (suc (16 + i))) in
        let e : 152 + 8 * i ≡ 8 * j = omega arith in
        let f : 296 + i ≡ 280 + (16 + i) = omega arith in
        ap₂ (λ (at p : ℕ). set (put_at (session_image s) at (little_bytes 8 (bits_of 64 z))) p k) e f
        ∙ entry_stored (with_centre s s.lowest (set s.centre i (entry z k))) j (bits_of 64 z) (16 + i) k (omega arith)
        (ap (λ (l : List ℕ). s.bs_eui ∷ (bits_of 64 s.highest ∷ (bits_of 64 s.lowest ∷ l)))
        (ap (λ (l : List ℕ). ids_of s.station ++ l) (ids_set s.centre i z k)
        ∙ sym (set_right (ids_of s.station) (ids_of s.centre) 16 i (bits_of 64 z) ids_long)))
        (ap (λ (l : List ℕ). kinds_of s.station ++ (l ++ behind_kinds)) (kinds_set s.centre i z k)
        ∙ sym (set_right (kinds_of s.station) (kinds_of s.centre ++ behind_kinds) 16 i k kinds_long
        ∙ ap (λ (l : List ℕ). kinds_of s.station ++ l) (set-append_left (kinds_of s.centre) behind_kinds i k (omega (arith, centre_kinds_long)))))
      where
        behind_kinds : List ℕ
        behind_kinds = s.sn_bs_uuid ++ (s.sn_sc_uuid ++ (state_byte s.state ∷ (mark_byte s.stored ∷ replicate 22 0)))

  -- the state, and whether it is stored
  tail_set : (last : List ℕ) (j v : ℕ)
      → set (kinds_of s.station ++ (kinds_of s.centre ++ (s.sn_bs_uuid ++ (s.sn_sc_uuid ++ last)))) (16 + (16 + (16 + (16 + j)))) v
      ≡ kinds_of s.station ++ (kinds_of s.centre ++ (s.sn_bs_uuid ++ (s.sn_sc_uuid ++ set last j v)))
  tail_set last j v =
      set_right (kinds_of s.station) (kinds_of s.centre ++ (s.sn_bs_uuid ++ (s.sn_sc_uuid ++ last))) 16 (16 + (16 + (16 + j))) v kinds_long
      ∙ ap (λ (l : List ℕ). kinds_of s.station ++ l)
      (set_right (kinds_of s.centre) (s.sn_bs_uuid ++ (s.sn_sc_uuid ++ last)) 16 (16 + (16 + j)) v centre_kinds_long
      ∙ ap (λ (l : List ℕ). kinds_of s.centre ++ l)
      (set_right s.sn_bs_uuid (s.sn_sc_uuid ++ last) 16 (16 + j) v g.bs_uuid
      ∙ ap (λ (l : List ℕ). s.sn_bs_uuid ++ l) (set_right s.sn_sc_uuid last 16 j v g.sc_uuid)))

  pub state_stored : (x : State) → set (session_image s) 344 (state_byte x) ≡ session_image (moved x s.stored s)
  state_stored x = byte_stored (moved x s.stored s) 64 (state_byte x) refl (sym (tail_set (state_byte s.state ∷ (mark_byte s.stored ∷ replicate 22 0)) 0 (state_byte x)))

  pub mark_stored : (b : Bool) → set (session_image s) 345 (mark_byte b) ≡ session_image (moved s.state b s)
  mark_stored b = byte_stored (moved s.state b s) 65 (mark_byte b) refl (sym (tail_set (state_byte s.state ∷ (mark_byte s.stored ∷ replicate 22 0)) 1 (mark_byte b)))
