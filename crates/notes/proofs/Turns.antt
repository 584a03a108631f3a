-- The pass over the outer pairs, turn by turn: the walk's answer from here is the answer, and so are the places. Each law is in the shape of
-- what the loop asks at one of its ends. Assumes nothing.
use mathlib.Core.Path.{◌≡◌, refl, sym, ◌∙◌}
use mathlib.Core.{Bool.true, List.List, List.◌++◌}
use Prim.Native.Nat.{ℕ, zero, suc, ◌+◌, ◌-◌, ◌≤◌, ◌<◌}
use native.Mathlib.Numerals.{sub-one}
use native.Mathlib.Omega.{arith}
use lib.Dec.{eqb, eqb→eq}
use lib.ListN.{length, get_or, take, drop, set, length-append}
use mir.Syntax.{w16}
use mir.Val.{Fits}
use Rattle.std.specs.Prelude.{Ok, Err}
use Rattle.refusal.specs.declared.Broken.{Broken}
use Rattle.octets.proofs.{Places.here, Places.here_lt, Ranges.ranged}
use Rattle.element.specs.declared.Head.{Head}
use Rattle.element.specs.declared.Next.{Next}
use Rattle.element.specs.{Lead.head_of, Lead.lead_bytes, Lead.row_in, Code.Items.items_of, Code.At.body_from}
use Rattle.element.specs.{Tree.Tree.leaf, Tree.Tree.array, Tree.Tree.map}
use Rattle.element.specs.Form.{Role, Step, next, then, times, element_of}
use Rattle.element.specs.Tree.{Tree, bytes_of, bytes_of_all, bytes_of_pairs, Lawful}
use Rattle.element.proofs.Found.{found}
use Rattle.names.specs.Code.Slots.{slot_of}
use Rattle.walk.specs.Code.Short.{Announces}
use Rattle.message.specs.Code.Notes.{key_at, note_of, on_next, noted, notes_of}
use Rattle.notes.specs.Code.Noted.{IsKey}

-- a tree has room for its head
head_room : (s : List ℕ) (p : ℕ) (w : Tree) (t : List ℕ) → Lawful w → drop p s ≡ bytes_of w ++ t → (p < length s) × (body_from s p ≤ p + length (bytes_of w))
unfolding bytes_of Lawful
head_room s p (leaf b l d) t L e =
    (here_lt s p b ((l ++ d) ++ t) e, rw (here s p b ((l ++ d) ++ t) e, ← L.0.wide) (omega (arith, length-append l d)))
head_room s p (array b l ts) t L e =
    (here_lt s p b ((l ++ bytes_of_all ts) ++ t) e, rw (here s p b ((l ++ bytes_of_all ts) ++ t) e, ← L.0.wide) (omega (arith, length-append l (bytes_of_all ts))))
head_room s p (map b l ps) t L e =
    (here_lt s p b ((l ++ bytes_of_pairs ps) ++ t) e, rw (here s p b ((l ++ bytes_of_pairs ps) ++ t) e, ← L.0.wide) (omega (arith, length-append l (bytes_of_pairs ps))))

module _ (s : List ℕ) (p c : ℕ) (r : Step) (e : r ≡ element_of s 7 Role.key p c) (k : Next) (f : r ≡ Ok k) where
  -- a key that was passed stands from p to q
  pub key_room : IsKey s p k.at
  key_room =
      let F = found 7 s Role.key p c k.at k.count (sym e ∙ f) in
      let R = head_room s p F.tree (drop k.at s) F.lawful F.stands.bytes in
      record { there = R.0; head = rw F.stands.place R.1; within = F.stands.within }

  pub place_fits : length s ≤ 4096 → Fits w16 k.at
  place_fits h = record { fits = omega (arith, key_room.within) }

items_more : (s : List ℕ) (n p c : ℕ) → 0 < n
    → items_of s 7 true n p c ≡ then (then (element_of s 7 Role.key p c) (λ q d. element_of s 7 Role.value q d)) (λ z f. items_of s 7 true (n - 1) z f)
unfolding items_of times
items_more s zero p c h = absurd (omega arith)
items_more s (suc n) p c h = rw sub-one

notes_more : (s : List ℕ) (n p c : ℕ) (a : List ℕ) → 0 < n
    → notes_of s n p c a
    ≡ on_next (element_of s 7 Role.key p c) a (λ q d. on_next (element_of s 7 Role.value q d) a (λ z f. notes_of s (n - 1) z f (noted a (slot_of (key_at s p q)) q)))
unfolding notes_of
notes_more s zero p c a h = absurd (omega arith)
notes_more s (suc n) p c a h = rw sub-one

-- w is the walk's answer and b the places; of n pairs those from x on are left at the turn i, after c elements, with the places a
module _ (s : List ℕ) (w : Step) (b : List ℕ) (n i x c : ℕ) (a : List ℕ) (f : w ≡ items_of s 7 true (n - i) x c) (j : b ≡ notes_of s (n - i) x c a) where
  pub done_walk : n ≤ i → next x c ≡ w
  unfolding items_of times
  done_walk h =
      let z : n - i ≡ 0 = omega arith in
      sym (f ∙ rw z)

  pub done_places : n ≤ i → a ≡ b
  unfolding notes_of
  done_places h =
      let z : n - i ≡ 0 = omega arith in
      sym (j ∙ rw z)

  module _ (h : i < n) (r : Step) (e : r ≡ element_of s 7 Role.key x c) where
    pub key_walk : (u : Broken) → r ≡ Err u → Err u ≡ w
    key_walk u g = sym (f ∙ items_more s (n - i) x c (omega arith) ∙ simp (← e, g))

    pub key_places : (u : Broken) → r ≡ Err u → a ≡ b
    key_places u g = sym (j ∙ notes_more s (n - i) x c a (omega arith) ∙ simp (← e, g))

    module _ (k : Next) (g : r ≡ Ok k) (t : Step) (v : t ≡ element_of s 7 Role.value k.at k.count) where
      pub value_walk : (u : Broken) → t ≡ Err u → Err u ≡ w
      value_walk u m = sym (f ∙ items_more s (n - i) x c (omega arith) ∙ simp (← e, g, ← v, m))

      pub value_places : (u : Broken) → t ≡ Err u → a ≡ b
      value_places u m = sym (j ∙ notes_more s (n - i) x c a (omega arith) ∙ simp (← e, g, ← v, m))

      module _ (l : Next) (m : t ≡ Ok l) where
        less : n - (i + 1) ≡ n - i - 1
        less = omega arith

        pub next_walk : w ≡ items_of s 7 true (n - (i + 1)) l.at l.count
        next_walk = rw less (f ∙ items_more s (n - i) x c (omega arith) ∙ simp (← e, g, ← v, m))

        pub next_places : (y z : ℕ) → y ≡ slot_of (key_at s x k.at) → z ≡ note_of (get_or a y 0) k.at → b ≡ notes_of s (n - (i + 1)) l.at l.count (set a y z)
        next_places y z o q = rw less (j ∙ notes_more s (n - i) x c a (omega arith) ∙ simp (← e, g, ← v, m, ← o, ← q))

-- one more place
module _ (old q : ℕ) where
  pub note_first : old ≡ 0 → q ≡ note_of old q
  note_first e = rw e

  pub note_more : (old ≡ 0 → ⊥) → 1 ≡ note_of old q
  note_more n = go old n
    where
      go : (m : ℕ) → (m ≡ 0 → ⊥) → 1 ≡ note_of m q
      go zero n = absurd (n refl)
      go (suc m) n = refl

pub ruleset places = (note_first, note_more)

-- below C0 a lead byte is the whole head
wide_none : (b : ℕ) → b < 0xC0 → (head_of b).wide ≡ 0
unfolding head_of lead_bytes row_in
wide_none b h = eqb→eq (head_of b).wide 0 (ranged (λ k. eqb (head_of k).wide 0) 0 0xC0 tt b (omega arith) (omega arith))

-- where a body begins
module _ (s : List ℕ) (p : ℕ) where
  pub body_low : get_or s p 0 < 0xC0 → p + 1 ≡ body_from s p
  body_low h = omega (arith, wide_none (get_or s p 0) h)

  pub body_behind : (h : Head) → Announces (get_or s p 0) h → p + 1 + h.wide ≡ body_from s p
  body_behind h y = rw y.is

pub ruleset bodies = (body_low, body_behind)

-- the key's bytes, where the code looks for them
pub key_slot : (s : List ℕ) (p q f : ℕ) → f ≡ body_from s p → (r : ℕ) → r ≡ slot_of (take (q - f) (drop f s)) → r ≡ slot_of (key_at s p q)
unfolding key_at
key_slot s p q f e r x = x ∙ rw e

pub ruleset slots = (key_slot)
