-- An entry that is put at a place, and what add answers by the code's tests: 15, 27, 28, and the lowest free place. Each law in the shape of a need of the code.
-- Assumes nothing.
use mathlib.Core.{Path.◌≡◌, Path.refl, Path.sym, Path.ap, Path.◌∙◌}
use Rattle.std.specs.Prelude.{Option, Some, None, is_some, Result, Ok, Err}
use mathlib.Core.{Bool.Bool, Bool.true, Bool.false, List.List, List.[], List.◌∷◌, List.◌++◌}
use Prim.Native.Nat.{ℕ, ◌+◌, ◌-◌, ◌*◌, ◌≤◌, ◌<◌}
use native.Mathlib.Omega.{arith}
use lib.{Dec.leb, ListN.length, ListN.take, ListN.drop, ListN.length-drop, Seq.length-take-le}
use lib.IntN.{ℤ}
use mir.Syntax.{w64}
use mir.Val.{SFits, to_z, of_z}
use mir.ValLaws.{to_z-of_z}
use borrow.Author.Tests.{eqb-true, eqb-false, eq-eqb, ne_eqb}
use borrow.Rule.Slice.PartMut.{put_mid, Post-is}
use Rattle.octets.specs.{Choice.either, Bytes.put_at, Pieces.sum_of}
use Rattle.octets.proofs.Ranges.{true_false}
use Rattle.octets.proofs.Writing.{put_in, length_put}
use Rattle.forms.specs.Code.Put.{Put, put, put_part, put_parts}
use Rattle.record.specs.declared.{DlDataQue.DlDataQue, Body.Body, Message.Message}
use Rattle.record.specs.Fits.{fault_in, fits}
use Rattle.layout.specs.Image.{message_image}
use Rattle.layout.proofs.Back.{image_size}
use Rattle.refusal.specs.declared.Refusal.{Refusal}
use Rattle.refusal.specs.declared.Refusal.TheVariants.{Invalid, QueueIdThere, QueueFull}
use Rattle.queue.specs.Queue.{is_free, on_place, place_of_id, free_place}
use Rattle.queue.specs.Store.{queue_at}
use Rattle.queue.specs.Calls.{Queued, queued, refuses, adds_at, downlink_in, adds}
use Rattle.queue.specs.Code.Slots.{adds_fit}
use Rattle.queue.proofs.{Fitting.entries_few, Fitting.entries_lent, Calling.is_store, Calling.no_place, Calling.one_place, Calling.no_store, Calling.first_in}

-- a run that is put is put where it has room
run_put : (vs d out : List ℕ) (at r : ℕ) → ◌≡◌ {A = Put} (put out r) (put_parts (vs ∷ []) (put d at)) → out ≡ put_at d at vs
unfolding put_parts put_part put_at
run_put vs d out at r e = ap (λ (o : Put). o.room) e ∙ go (leb (at + length vs) (length d))
  where
    go : (b : Bool) → (either b (λ _. put (either b (λ _. take at d ++ (vs ++ drop (at + length vs) d)) (λ _. d)) (at + length vs)) (λ _. put d at)).room ≡ either b (λ _. take at d ++ (vs ++ drop (at + length vs) d)) (λ _. d)
    go true = refl
    go false = refl

-- at the start of a place
module _ (q : List ℕ) (i : ℕ) (long : length q ≡ 31488) (few : i < 32) where
  abbrev lent_head : List ℕ
  lent_head = take (984 * i + 104 - 984 * i) (drop (984 * i) q)

  pub head_long : length lent_head ≡ 104
  head_long = length-take-le (984 * i + 104 - 984 * i) (drop (984 * i) q) (omega (arith, length-drop (984 * i) q)) ∙ omega arith

  module _ (id : ℤ) (x : DlDataQue) (f : SFits w64 id) (last : List ℕ) (e : last ≡ message_image (record { op_id = to_z w64 (of_z w64 id); body = Body.DlDataQue x })) where
    abbrev m : Message
    m = record { op_id = id; body = Body.DlDataQue x }

    head_is : last ≡ message_image m
    head_is = rw (to_z-of_z w64 id f) at e

    head_put : put_mid (984 * i) (984 * i + 104 - 984 * i) q last ≡ put_at q (984 * i) (message_image m)
    head_put =
        rw (head_is, Post-is (984 * i) (984 * i + 104) q (omega arith))
        (sym (put_in q (984 * i) (message_image m) (omega (arith, image_size m)) ∙ rw (image_size m)))

    module _ (d : List ℕ) (n : ℕ) (out : List ℕ) (r : ℕ) (g : ◌≡◌ {A = Put} (put out r) (put_parts (take n d ∷ []) (put (put_mid (984 * i) (984 * i + 104 - 984 * i) q last) (984 * i + 104)))) where
      pub entry_put : out ≡ put_at (put_at q (984 * i) (message_image m)) (984 * i + 104) (take n d)
      entry_put = run_put (take n d) (put_mid (984 * i) (984 * i + 104 - 984 * i) q last) out (984 * i + 104) r g ∙ ap (λ (l : List ℕ). put_at l (984 * i + 104) (take n d)) head_put

      pub entry_long : length out ≡ length q
      entry_long = ap length entry_put ∙ length_put (put_at q (984 * i) (message_image m)) (984 * i + 104) (take n d) ∙ length_put q (984 * i) (message_image m)

pub lent_few : (d : List ℕ) (n : ℕ) → n ≤ length d → n ≡ length (take n d)
lent_few d n h = sym (length-take-le n d h)

pub ruleset entries = (head_long, entry_put, entry_long, lent_few, arith)

-- a record of dlDataQue, by the tests in their order
module _ (q : List ℕ) (long : length q ≡ 31488) (m : Message) (x : DlDataQue) (d : List ℕ) (f : ℕ) (e : f ≡ fault_in m d) where
  pub unfit : (f ≡ 0 → ⊥) → ◌≡◌ {A = Queued ℕ} (queued (Err Invalid) q) (adds_fit q m x d)
  unfit n = rw (← e, ne_eqb f 0 n)

  module _ (fit : f ≡ 0) where
    is_fit : adds_fit q m x d ≡ adds_at q m x d
    is_fit = rw (← e, eq-eqb f 0 fit)

    -- what is lent
    module _ (b : m.body ≡ Body.DlDataQue x) where
      fits_it : fits (record { op_id = m.op_id; body = Body.DlDataQue x }) d ≡ true
      fits_it = rw (← b) (eq-eqb (fault_in m d) 0 (sym e ∙ fit))

      pub lengths_lent : 64 + x.entries ≤ length d
      lengths_lent = omega (arith, entries_few m.op_id x d fits_it, entries_lent m.op_id x d fits_it)

      pub data_lent : (n l : ℕ) → n ≡ x.entries → l ≡ sum_of (take n (drop 64 d)) → 80 + l ≤ length d
      data_lent n l z p =
          let q : l ≡ sum_of (take x.entries (drop 64 d)) = rw z at p in
          omega (arith, entries_lent m.op_id x d fits_it)

    module _ (t : Bool) (p : Option ℕ) (u : t ≡ is_some p) (g : p ≡ place_of_id x.que_id (queue_at q)) where
      by_found : (o : Option ℕ) (y z : Queued ℕ) → is_some o ≡ true → on_place o (λ _. y) z ≡ y
      by_found None y z h = true_false (sym h)
      by_found (Some i) y z h = refl

      by_lost : (o : Option ℕ) (y z : Queued ℕ) → is_some o ≡ false → on_place o (λ _. y) z ≡ z
      by_lost None y z h = refl
      by_lost (Some i) y z h = true_false h

      known : t ≡ is_some (place_of_id x.que_id (queue_at q))
      known = u ∙ ap is_some g

      pub there : t ≡ true → ◌≡◌ {A = Queued ℕ} (queued (Err QueueIdThere) q) (adds_fit q m x d)
      there h = sym (is_fit ∙ by_found (place_of_id x.que_id (queue_at q)) (refuses QueueIdThere q) _ (sym known ∙ h))

      module _ (h : t ≡ false) (o : Option ℕ) (k : o ≡ free_place (queue_at q)) where
        lost : (z : Queued ℕ) → on_place (place_of_id x.que_id (queue_at q)) (λ _. refuses QueueIdThere q) z ≡ z
        lost z = by_lost (place_of_id x.que_id (queue_at q)) (refuses QueueIdThere q) z (sym known ∙ h)

        pub no_room : o ≡ None → ◌≡◌ {A = Queued ℕ} (queued (Err QueueFull) q) (adds_fit q m x d)
        no_room n = sym (is_fit ∙ lost _ ∙ no_place q long is_free o k _ _ n)

        pub stored : (i : ℕ) → o ≡ Some i → SFits w64 m.op_id → m.body ≡ Body.DlDataQue x → (l : ℕ) (r : List ℕ) → l ≡ sum_of (take x.entries (drop 64 d))
            → r ≡ put_at (put_at q (984 * i) (message_image (record { op_id = to_z w64 (of_z w64 m.op_id); body = Body.DlDataQue x }))) (984 * i + 104) (take (80 + l) d)
            → ◌≡◌ {A = Queued ℕ} (queued (Ok i) r) (adds_fit q m x d)
        stored i n f b l r v s =
            ap (λ (y : List ℕ). queued (Ok i) y) (rw (to_z-of_z w64 m.op_id f, ← b) at s ∙ ap (λ (z : ℕ). put_at (put_at q (984 * i) (message_image m)) (984 * i + 104) (take (80 + z) d)) v)
            ∙ sym (is_fit ∙ lost _ ∙ one_place q long is_free o k _ _ i n)

-- what is put keeps the length
pub stored_long : (q e : List ℕ) (i : ℕ) (m : Message) (l : List ℕ) → e ≡ put_at (put_at q (984 * i) (message_image m)) (984 * i + 104) l → length e ≡ length q
stored_long q e i m l p = ap length p ∙ length_put (put_at q (984 * i) (message_image m)) (984 * i + 104) l ∙ length_put q (984 * i) (message_image m)

pub ruleset downlinks = (eqb-true, eqb-false, unfit, lengths_lent, data_lent, there, no_room, stored, stored_long, first_in, arith)

-- by the command
module _ (q : List ℕ) (m : Message) (d : List ℕ) where
  pub no_adding : (length q ≡ 31488 → ⊥) → ◌≡◌ {A = Queued ℕ} (queued (Err Invalid) q) (adds q m d)
  unfolding adds
  no_adding n = no_store q n _

  module _ (long : length q ≡ 31488) (w : List ℕ) (same : w ≡ q) where
    pub downlink : (x : DlDataQue) → m.body ≡ Body.DlDataQue x → (a : Result ℕ Refusal) (o : List ℕ) → ◌≡◌ {A = Queued ℕ} (queued a o) (adds_fit w m x d)
        → ◌≡◌ {A = Queued ℕ} (queued a o) (adds q m d)
    unfolding adds
    downlink x e a o p =
        p ∙ ap (λ (l : List ℕ). adds_fit l m x d) same
        ∙ sym (is_store q long _ ∙ ap (λ (b : Body). on_place (downlink_in b) (λ y. adds_fit q m y d) (refuses Invalid q)) e)

    pub other : (b : Body) → m.body ≡ b → downlink_in b ≡ None → ◌≡◌ {A = Queued ℕ} (queued (Err Invalid) w) (adds q m d)
    unfolding adds
    other b e n =
        ap (λ (l : List ℕ). queued (Err Invalid) l) same
        ∙ sym (is_store q long _ ∙ ap (λ (v : Body). on_place (downlink_in v) (λ y. adds_fit q m y d) (refuses Invalid q)) e ∙ ap (λ (o : Option DlDataQue). on_place o (λ y. adds_fit q m y d) (refuses Invalid q)) n)

    -- no command but one
    pub another : (b : Body) → m.body ≡ b → ((x : DlDataQue) → b ≡ Body.DlDataQue x → ⊥) → ◌≡◌ {A = Queued ℕ} (queued (Err Invalid) w) (adds q m d)
    another b e n = other b e (go b n)
      where
        go : (b : Body) → ((x : DlDataQue) → b ≡ Body.DlDataQue x → ⊥) → downlink_in b ≡ None
        go (Body.Con x) n = refl
        go (Body.ConRsp x) n = refl
        go (Body.StatusRsp x) n = refl
        go (Body.Det x) n = refl
        go (Body.DetRsp x) n = refl
        go (Body.AttPrp x) n = refl
        go (Body.DetPrp x) n = refl
        go (Body.UlData x) n = refl
        go (Body.DlDataQue x) n = absurd (n x refl)
        go (Body.Bare x) n = refl

pub ruleset commands = (no_adding, downlink, another)
