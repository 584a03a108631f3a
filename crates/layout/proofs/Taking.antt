-- What is taken from where it lies, each law in the shape of a need of the code. Assumes nothing.
use mathlib.Core.Path.{◌≡◌, refl, sym, ap, ◌∙◌}
use mathlib.Core.Bool.{Bool, true, false, not, ◌&&◌, and-true, and_assoc}
use mathlib.Core.List.{List, [], ◌∷◌, ◌++◌}
use Prim.Native.Nat.{ℕ, zero, suc, ◌+◌, ◌-◌, ◌≤◌, ◌<◌}
use native.Mathlib.Nat.{add-zero, sub-zero}
use native.Mathlib.Omega.{arith}
use lib.{Dec.eqb, Dec.ltb, ListN.length, ListN.get_or-eq_default}
use mir.Syntax.{w64}
use mir.Val.{SFits, to_z, of_z}
use mir.ValLaws.{to_z-of_z}
use borrow.Author.Tests.{ne_eqb, not-true, not-false}
use Rattle.names.specs.Names.{downlink}
use Rattle.record.specs.declared.{Body.Body, Message.Message}
use Rattle.record.specs.Record.{body_in}
use Rattle.layout.specs.declared.taken.Head.{Head}
use Rattle.layout.specs.Taken.{places, mark_places, marks_of, number_at, signed_at, are_marks, bodies_at, whole_at, body_at, message_at}

-- ok says that those before the i-th of n bytes are marks
module _ (d : List ℕ) (at n : ℕ) where
  pub marks_none : (true && are_marks d (places (at + 0) (n - 0))) ≡ are_marks d (places at n)
  marks_none = rw (add-zero, sub-zero)

  module _ (ok : Bool) (i : ℕ) (e : (ok && are_marks d (places (at + i) (n - i))) ≡ are_marks d (places at n)) where
    marks_at : i < n → are_marks d (places (at + i) (n - i)) ≡ (ltb (number_at d 1 (at + i)) 2 && are_marks d (places (at + (i + 1)) (n - (i + 1))))
    unfolding are_marks
    marks_at h =
        let more : n - i ≡ suc (n - (i + 1)) = omega arith in
        let next : at + i + 1 ≡ at + (i + 1) = omega arith in
        rw (more, ← next)

    pub marks_next : (b : ℕ) → i < n → b ≡ number_at d 1 (at + i) → ((ok && ltb b 2) && are_marks d (places (at + (i + 1)) (n - (i + 1)))) ≡ are_marks d (places at n)
    marks_next b h f = rw f (and_assoc ok (ltb (number_at d 1 (at + i)) 2) _ ∙ ap (λ (t : Bool). ok && t) (sym (marks_at h)) ∙ e)

    pub marks_done : n ≤ i → i ≤ n → ok ≡ are_marks d (places at n)
    unfolding are_marks
    marks_done h l =
        let none : n - i ≡ 0 = omega arith in
        sym (and-true ok) ∙ (rw none at e)

pub ruleset marks = (marks_none, marks_next, marks_done, arith)

-- by the command
more : (k c : ℕ) → k ≤ c → (c ≡ k → ⊥) → k < c
more k c h n = omega arith

pub past_seven : (c : ℕ) → (c ≡ 0 → ⊥) → (c ≡ 1 → ⊥) → (c ≡ 2 → ⊥) → (c ≡ 3 → ⊥) → (c ≡ 4 → ⊥) → (c ≡ 5 → ⊥) → (c ≡ 6 → ⊥) → (c ≡ 7 → ⊥) → 8 ≤ c
past_seven c h0 h1 h2 h3 h4 h5 h6 h7 =
    more 7 c (more 6 c (more 5 c (more 4 c (more 3 c (more 2 c (more 1 c (more 0 c (omega arith) h0) h1) h2) h3) h4) h5) h6) h7

two_runs : (d xs ys : List ℕ) → (are_marks d xs && are_marks d ys) ≡ are_marks d (xs ++ ys)
unfolding are_marks
two_runs d [] ys = refl
two_runs d (p ∷ xs) ys = and_assoc (ltb (number_at d 1 p) 2) (are_marks d xs) (are_marks d ys) ∙ ap (λ (t : Bool). ltb (number_at d 1 p) 2 && t) (two_runs d xs ys)

module _ (d : List ℕ) (c : ℕ) where
  pub marked_at : (t : Bool) (k : ℕ) → c ≡ k → t ≡ are_marks d (marks_of k) → t ≡ are_marks d (marks_of c)
  marked_at t k e f = rw e f

  pub marked_twice : (t u : Bool) → c ≡ 7 → t ≡ are_marks d (places 85 2) → u ≡ are_marks d (places 90 3) → (t && u) ≡ are_marks d (marks_of c)
  marked_twice t u e f g = rw (e, f, g) (two_runs d (places 85 2) (places 90 3))

  pub marked_none : (k : ℕ) → c ≡ k → marks_of k ≡ [] → true ≡ are_marks d (marks_of c)
  unfolding are_marks
  marked_none k e f = rw (e, f)

pub marked_past : (d : List ℕ) (c : ℕ) → 8 ≤ c → eqb c downlink ≡ false → true ≡ are_marks d (marks_of c)
unfolding are_marks
marked_past d c h e = rw e (ap (are_marks d) (sym (get_or-eq_default mark_places [] h)))

pub ruleset marked = (marked_at, marked_twice, marked_none, marked_past, past_seven, ne_eqb)

past : (bs : List Body) (i c : ℕ) → length bs ≤ i → Body.Bare c ≡ body_in bs i c
unfolding body_in
past [] i c h = refl
past (b ∷ bs) zero c h = absurd (omega arith)
past (b ∷ bs) (suc i) c h = past bs i c (omega arith)

module _ (d : List ℕ) (c : ℕ) where
  pub body_by : (b : Body) (k : ℕ) → c ≡ k → b ≡ whole_at d k → b ≡ whole_at d c
  body_by b k e f = rw e f

  pub body_bare : 8 ≤ c → eqb c downlink ≡ false → Body.Bare c ≡ whole_at d c
  body_bare h e = rw e (past (bodies_at d) c c h)

-- the record of a head and a body, where the marks are 0 or 1 and where they are not
module _ (d : List ℕ) (h : Head) (e : h.op_id ≡ signed_at d 8 0) (g : h.command ≡ number_at d 1 8) (m : h.marked ≡ are_marks d (marks_of h.command))
    (f : SFits w64 h.op_id) (r : Message) (b : Body) (q : r ≡ record { op_id = to_z w64 (of_z w64 h.op_id); body = b }) where
  pub message_whole : not h.marked ≡ false → b ≡ whole_at d h.command → r ≡ message_at d
  unfolding message_at body_at
  message_whole y i = rw (q, to_z-of_z w64 h.op_id f, e, ← g, ← m, not-false h.marked y, i)

  pub message_marred : not h.marked ≡ true → b ≡ Body.Bare h.command → r ≡ message_at d
  unfolding message_at body_at
  message_marred y i = rw (q, to_z-of_z w64 h.op_id f, e, ← g, ← m, not-true h.marked y, i)

pub ruleset messages = (message_whole, message_marred, body_by, body_bare, past_seven, ne_eqb)
