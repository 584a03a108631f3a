-- An entry that is put at a place stands there: the record in the first 104 bytes, and behind them the bytes in use, whatever is behind those. Assumes nothing.
use mathlib.Core.{Path.◌≡◌, Path.refl, Path.sym, Path.ap, Path.◌∙◌}
use Rattle.std.specs.Prelude.{Some}
use mathlib.Core.{Bool.true, List.List, List.◌++◌, List.append_assoc, List.map}
use Prim.Native.Nat.{ℕ, ◌+◌, ◌-◌, ◌*◌, ◌≤◌, ◌<◌}
use native.Mathlib.Omega.{arith}
use lib.{IntN.ℤ, ListN.length, ListN.take, ListN.drop, ListN.set, ListN.length-append, ListN.take-append-drop, ListN.get_or-append}
use lib.Seq.{length-take-le, drop_at, take-append-add}
use Rattle.octets.specs.{Number.little_at, Bytes.put_at, Pieces.sum_of, Pieces.lengths_lent}
use Rattle.octets.proofs.{Reading.if_there_lem, Places.same_little, Writing.put_stands, Writing.put_then}
use Rattle.record.specs.declared.{DlDataQue.DlDataQue, Body.Body, Message.Message}
use Rattle.record.specs.Fits.{fault_in, fits}
use Rattle.layout.specs.{Image.message_lies, Image.body_lies, Image.dl_data_que_lies, Image.clear_image, Image.message_image, Taken.number_at, Taken.are_marks, Taken.dl_data_que_at, Taken.body_at, Taken.message_at}
use Rattle.layout.proofs.{Back.image_size, Back.message_back, Parts.dl_data_que_of, Lying.taken_in, Lying.all_taken}
use Rattle.queue.specs.{Queue.entered, Store.slot_at, Store.is_used, Store.entry_of, Store.entry_in, Store.queue_at, Store.is_whole, Calls.lent_length, Calls.stored_at}
use Rattle.queue.proofs.Fitting.{entries_few, entries_lent, entries_together, held}
use Rattle.queue.proofs.Lending.{lengths_stay, same_entry, same_fault}
use Rattle.queue.proofs.{Changed.Changed, Changed.put_changed, Changed.queue_changed}

-- numbers in the first 104 bytes turn on those alone
number_ahead : (s t : List ℕ) → length s ≡ 104 → (n p : ℕ) → n ≤ 8 → p + n ≤ 104 → number_at (s ++ t) n p ≡ number_at s n p
number_ahead s t e n p few h =
    if_there_lem (s ++ t) p n (little_at (s ++ t) p n) few (omega (arith, length-append s t))
    ∙ same_little (s ++ t) s p p n (λ k l. get_or-append s t 0 (p + k) (omega arith))
    ∙ sym (if_there_lem s p n (little_at s p n) few (omega arith))

-- so a downlink's record is the same with bytes behind it
module _ (s t : List ℕ) (e : length s ≡ 104) where
  abbrev Ahead : ℕ → ℕ → Type 0
  Ahead n p = number_at (s ++ t) n p ≡ number_at s n p

  byte_ahead : (p : ℕ) → p + 1 ≤ 104 → Ahead 1 p
  byte_ahead p h = number_ahead s t e 1 p (omega arith) h

  word_ahead : (p : ℕ) → p + 8 ≤ 104 → Ahead 8 p
  word_ahead p h = number_ahead s t e 8 p (omega arith) h

  downlink_ahead : dl_data_que_at (s ++ t) ≡ dl_data_que_at s
  unfolding dl_data_que_at
  downlink_ahead =
      rw (
        word_ahead 16 (omega arith),
        word_ahead 24 (omega arith),
        word_ahead 32 (omega arith),
        byte_ahead 40 (omega arith),
        byte_ahead 41 (omega arith),
        byte_ahead 42 (omega arith),
        byte_ahead 43 (omega arith),
        byte_ahead 44 (omega arith),
        byte_ahead 45 (omega arith),
        byte_ahead 46 (omega arith),
        byte_ahead 47 (omega arith),
        byte_ahead 48 (omega arith),
        byte_ahead 49 (omega arith),
        byte_ahead 50 (omega arith),
      )

  pub message_ahead : number_at s 1 8 ≡ 21 → message_at (s ++ t) ≡ message_at s
  unfolding message_at body_at are_marks
  message_ahead c =
      rw (
        byte_ahead 8 (omega arith),
        word_ahead 0 (omega arith),
        c,
        downlink_ahead,
        byte_ahead 42 (omega arith),
        byte_ahead 43 (omega arith),
        byte_ahead 44 (omega arith),
        byte_ahead 45 (omega arith),
        byte_ahead 46 (omega arith),
        byte_ahead 47 (omega arith),
        byte_ahead 48 (omega arith),
        byte_ahead 49 (omega arith),
        byte_ahead 50 (omega arith),
      )

-- the image of a downlink that may be written
module _ (z : ℤ) (x : DlDataQue) (d : List ℕ) (fit : fits (record { op_id = z; body = Body.DlDataQue x }) d ≡ true) where
  abbrev m : Message
  m = record { op_id = z; body = Body.DlDataQue x }

  taken : map (taken_in (message_image m)) (message_lies m) ≡ message_lies m
  unfolding message_image clear_image body_lies dl_data_que_lies
  taken = (all_taken 104 (message_lies m) clear_image refl tt (held z x d fit).widths).0

  command_put : number_at (message_image m) 1 8 ≡ 21
  command_put = let e = taken in cc

  body_put : dl_data_que_at (message_image m) ≡ x
  unfolding body_lies
  body_put =
      let e = taken in
      let r : map (taken_in (message_image m)) (dl_data_que_lies x) ≡ dl_data_que_lies x = cc in
      dl_data_que_of (message_image m) x x r

  -- the bytes in use, and those behind them
  abbrev used : List ℕ
  used = take (lent_length x d) d

  used_long : length used ≡ lent_length x d
  used_long = length-take-le (lent_length x d) d (entries_lent z x d fit)

  whole_lent : used ++ drop (lent_length x d) d ≡ d
  whole_lent = take-append-drop (lent_length x d) d

  enough : 80 + sum_of (lengths_lent x.entries used) ≤ length used
  enough =
      let l : lengths_lent x.entries d ≡ lengths_lent x.entries used
      = ap (lengths_lent x.entries) (sym whole_lent) ∙ lengths_stay used (drop (lent_length x d) d) x.entries (omega (arith, used_long, entries_few z x d fit)) in
      omega (arith, used_long, ap sum_of l)

  -- whatever is behind them, it is the entry, and may be written
  module _ (t : List ℕ) where
    entry_same : entry_of x (used ++ t) ≡ entry_of x d
    entry_same = same_entry x used (entries_few z x d fit) enough t (drop (lent_length x d) d) ∙ ap (entry_of x) whole_lent

    fault_same : fault_in m (used ++ t) ≡ fault_in m d
    fault_same = same_fault x used (entries_few z x d fit) enough t (drop (lent_length x d) d) z ∙ ap (fault_in m) whole_lent

    lent_behind : drop 104 (message_image m ++ (used ++ t)) ≡ used ++ t
    lent_behind = drop_at (message_image m) (used ++ t) 104 (image_size m)

    is_used_lem : is_used (message_image m ++ (used ++ t)) ≡ true
    is_used_lem = rw (byte_ahead (message_image m) (used ++ t) (image_size m) 8 (omega arith), command_put)

    entry_in_lem : entry_in (message_image m ++ (used ++ t)) ≡ Some (entry_of x d)
    entry_in_lem = rw (is_used_lem, lent_behind, downlink_ahead (message_image m) (used ++ t) (image_size m), body_put) (ap Some entry_same)

    whole_in_lem : is_whole (message_image m ++ (used ++ t)) ≡ true
    unfolding is_whole
    whole_in_lem = rw (is_used_lem, lent_behind, message_ahead (message_image m) (used ++ t) (image_size m) command_put, message_back m (held z x d fit), fault_same) fit

  -- at a place of the store
  module _ (q : List ℕ) (i : ℕ) (long : length q ≡ 31488) (few : i < 32) where
    abbrev put : List ℕ
    put = message_image m ++ used

    put_long : length put ≡ 104 + lent_length x d
    put_long = length-append (message_image m) used ∙ omega (arith, image_size m, used_long)

    put_fits : length put ≤ 984
    put_fits = omega (arith, put_long, entries_together z x d fit)

    once : stored_at q i m x d ≡ put_at q (984 * i) put
    once = rw (image_size m) at (put_then q (984 * i) (message_image m) used (omega (arith, image_size m, put_long, put_fits, used_long)))

    slot_put : slot_at (stored_at q i m x d) i ≡ message_image m ++ (used ++ take (984 - length put) (drop (984 * i + length put) q))
    unfolding slot_at
    slot_put =
        let e : 984 ≡ length put + (984 - length put) = omega (arith, put_fits) in
        let rest = drop (984 * i + length put) q in
        ap (λ (l : List ℕ). take 984 (drop (984 * i) l)) once
        ∙ ap (take 984) (put_stands q (984 * i) put (omega (arith, put_fits)))
        ∙ ap (λ (n : ℕ). take n (put ++ rest)) e ∙ take-append-add put rest (984 - length put)
        ∙ append_assoc (message_image m) used (take (984 - length put) rest)

    pub stored_changed : Changed q (stored_at q i m x d) i
    stored_changed = rw once (put_changed q i (984 * i) put long few (omega arith) (omega (arith, put_fits)))

    pub stored_whole : is_whole (slot_at (stored_at q i m x d) i) ≡ true
    stored_whole = rw slot_put (whole_in_lem (take (984 - length put) (drop (984 * i + length put) q)))

    pub queue_stored : queue_at (stored_at q i m x d) ≡ entered (queue_at q) i (entry_of x d)
    queue_stored = queue_changed q (stored_at q i m x d) i stored_changed ∙ ap (set (queue_at q) i) (rw slot_put (entry_in_lem (take (984 - length put) (drop (984 * i + length put) q))))
