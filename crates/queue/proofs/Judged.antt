-- Whether a store is sound, by the code's tests: each place by its record, the IDs in walks over all places. Each law in the shape of a need of the code.
-- Assumes nothing.
use mathlib.Core.{Path.◌≡◌, Path.sym, Path.ap, Path.◌∙◌}
use Rattle.std.specs.Prelude.{Option}
use mathlib.Core.Bool.{Bool, true, false, not, ◌&&◌, and-false}
use mathlib.Core.List.{List}
use Prim.Native.Nat.{ℕ, suc, ◌+◌, ◌-◌, ◌≤◌, ◌<◌}
use native.Mathlib.Omega.{arith}
use lib.{Dec.eqb, ListN.length, ListN.take, ListN.drop}
use borrow.Author.Tests.{eq-eqb, ne_eqb, not-true, not-false}
use Rattle.record.specs.{declared.Message.Message, Fits.fault_in}
use Rattle.layout.specs.Taken.{number_at, dl_data_que_at, message_at}
use Rattle.queue.specs.Entry.{Entry}
use Rattle.queue.specs.Queue.{Queue, has_id, is_other, is_unlike, are_unlike}
use Rattle.queue.specs.Store.{slot_at, is_used, entry_in, queue_at, is_whole, are_whole, is_sound}
use Rattle.queue.specs.Code.Slots.{left}
use Rattle.queue.proofs.{Unique.free_unlike, Slots.lent_is, Walks.left_at, Walks.left_none}

-- a place
module _ (s : List ℕ) (u : Bool) (e : u ≡ is_used s) where
  pub whole_free : not u ≡ true → true ≡ is_whole s
  unfolding is_whole
  whole_free h = rw (← e, not-true u h)

  pub whole_fit : length s ≡ 984 → not u ≡ false → (m : Message) (f : ℕ) → m ≡ message_at s → f ≡ fault_in m (take 880 (drop 104 s)) → eqb f 0 ≡ is_whole s
  unfolding is_whole
  whole_fit l h m f p r = rw (← e, not-false u h, r, p, lent_is s l)

pub ruleset wholes = (whole_free, whole_fit)

-- one place against those behind it
module _ (q : List ℕ) (i : ℕ) where
  abbrev x : Option Entry
  x = entry_in (slot_at q i)

  module _ (s : List ℕ) (a : s ≡ slot_at q i) (u : Bool) (e : u ≡ is_used s) where
    used_at : (b : Bool) → u ≡ b → is_used (slot_at q i) ≡ b
    used_at b h = sym (rw a at e) ∙ h

    pub unlike_free : not u ≡ true → (l : Queue) → true ≡ is_unlike x l
    unlike_free h l = rw (used_at false (not-true u h)) (sym (free_unlike l))

  pub unlike_none : true ≡ is_unlike x (left q 32)
  unfolding is_unlike
  unlike_none = rw (left_none q)

  module _ (j : ℕ) (told : Bool) (e : told ≡ is_unlike x (left q j)) where
    other_is : (k : ℕ) → k ≡ number_at (slot_at q i) 8 24 → is_used (slot_at q i) ≡ true → (y : Option Entry) → not (has_id k y) ≡ is_other x y
    unfolding dl_data_que_at
    other_is k p f y = rw (f, p)

    module _ (l : j < 32) (s t : List ℕ) (a : s ≡ slot_at q i) (c : t ≡ slot_at q j) (u : Bool) (p : u ≡ is_used s) (f : not u ≡ false) (k : ℕ) (r : k ≡ number_at s 8 24) (b : Bool) (y : b ≡ has_id k (entry_in t)) where
      here : told ≡ (not b && is_unlike x (left q (j + 1)))
      unfolding is_unlike
      here = e ∙ rw (left_at q j l, y, c, other_is k (rw a at r) (used_at s a u p true (not-false u f)) (entry_in (slot_at q j)))

      pub unlike_turn : b ≡ false → told ≡ is_unlike x (left q (j + 1))
      unlike_turn n = here ∙ rw n

      pub unlike_same : b ≡ true → false ≡ told
      unlike_same n = sym (here ∙ rw n)

    pub unlike_done : 32 ≤ j → j ≤ 32 → true ≡ told
    unlike_done h l = let z : j ≡ 32 = omega arith in unlike_none ∙ sym (rw z at e)

pub ruleset unlikes = (unlike_free, unlike_turn, unlike_same, unlike_done, arith)

-- all places
module _ (q : List ℕ) where
  abbrev told_whole : Bool
  told_whole = are_whole q 0 32

  abbrev told_unlike : Bool
  told_unlike = are_unlike (queue_at q)

  module _ (i : ℕ) (e : told_whole ≡ are_whole q i (32 - i)) (f : told_unlike ≡ are_unlike (left q i)) where
    module _ (l : i < 32) (b : Bool) where
      module _ (p : b ≡ is_whole (slot_at q i)) where
        whole_here : told_whole ≡ (b && are_whole q (i + 1) (32 - (i + 1)))
        unfolding are_whole
        whole_here =
            let n : 32 - i ≡ suc (32 - (i + 1)) = omega arith in
            let s : suc i ≡ i + 1 = omega arith in
            e ∙ rw (n, s, p)

        pub whole_turn : not b ≡ false → told_whole ≡ are_whole q (i + 1) (32 - (i + 1))
        whole_turn n = whole_here ∙ rw (not-false b n)

        pub whole_broken : not b ≡ true → false ≡ (told_whole && told_unlike)
        whole_broken n = let z : told_whole ≡ false = whole_here ∙ rw (not-true b n) in rw z

      module _ (p : b ≡ is_unlike (entry_in (slot_at q i)) (left q (i + 1))) where
        all_here : told_unlike ≡ (b && are_unlike (left q (i + 1)))
        unfolding are_unlike
        all_here = f ∙ rw (left_at q i l, p)

        pub all_turn : not b ≡ false → told_unlike ≡ are_unlike (left q (i + 1))
        all_turn n = all_here ∙ rw (not-false b n)

        pub all_broken : not b ≡ true → false ≡ (told_whole && told_unlike)
        all_broken n = let z : told_unlike ≡ false = all_here ∙ rw (not-true b n) in rw (z, and-false)

    pub all_done : 32 ≤ i → i ≤ 32 → true ≡ (told_whole && told_unlike)
    unfolding are_unlike are_whole
    all_done h l =
        let z : i ≡ 32 = omega arith in
        let w : told_whole ≡ true = rw z at e in
        let u : told_unlike ≡ true = rw z at f ∙ ap are_unlike (left_none q) in
        rw (w, u)

  pub no_store_sound : (length q ≡ 31488 → ⊥) → false ≡ is_sound q
  no_store_sound n = rw (ne_eqb (length q) 31488 n)

  pub store_sound : length q ≡ 31488 → (r : Bool) → r ≡ (are_whole q 0 32 && are_unlike (queue_at q)) → r ≡ is_sound q
  store_sound l r e = rw (eq-eqb (length q) 31488 l) e

pub ruleset sounds = (whole_turn, whole_broken, all_turn, all_broken, all_done, no_store_sound, store_sound, arith)
