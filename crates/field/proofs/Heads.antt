-- A head with the length that follows it, each law in the shape of a need of the code. Assumes nothing.
use mathlib.Core.Path.{◌≡◌, refl, sym, ap, ◌∙◌}
use mathlib.Core.{Bool.Bool, Bool.true, Bool.false, List.List}
use Prim.Native.Nat.{ℕ, ◌+◌, ◌-◌, ◌%◌, ◌≤◌, ◌<◌}
use native.Mathlib.Omega.{arith}
use native.Mathlib.Nat.{add-zero}
use lib.{Dec.ltb, Dec.leb, ListN.length, ListN.get_or}
use borrow.Author.Tests.{lt-ltb, le-ltb, le-leb, lt-leb, leb-true, ltb-false}
use Rattle.octets.specs.{Choice.either, Number.big_at, Number.if_there}
use Rattle.octets.proofs.Reading.{if_there_lem}
use Rattle.element.specs.declared.Shape.{Shape, TheVariants.Never, TheVariants.Plain, TheVariants.Text, TheVariants.Array, TheVariants.Map}
use Rattle.element.specs.declared.Head.{Head}
use Rattle.element.specs.declared.Span.TheVariants.{Cut, Ends}
use Rattle.element.specs.{Lead.head_of, Form.body_of, Form.content_of, Form.span_of}
use Rattle.walk.specs.Code.Short.{Announces, two_to}
use Rattle.walk.proofs.{Leads.row, Leads.says_number, Elements.length_fits}
use Rattle.field.specs.declared.Opened.{Opened}
use Rattle.field.specs.{Code.At.end_of, Code.Extent.shut, Code.Extent.is_body, Code.Extent.opened_at}

module _ (s : List ℕ) (at : ℕ) where
  pub open_past : (r : Opened) → r ≡ shut → length s ≤ at → r ≡ opened_at s at
  unfolding opened_at
  open_past r e h = e ∙ simp (le-ltb at (length s) h)

  module _ (h : Head) (there : at < length s) (y : Announces (get_or s at 0) h) where
    pub open_cut : (r : Opened) → r ≡ shut → length s - at - 1 < h.wide → r ≡ opened_at s at
    unfolding opened_at
    open_cut r e g = e ∙ rw (← y.is) (simp (lt-ltb at (length s) there, lt-leb (at + 1 + h.wide) (length s) (omega arith)))

    pub open_is : (x : ℕ) → h.wide ≤ length s - at - 1 → x ≡ if_there s (at + 1) h.wide (big_at s (at + 1) h.wide) → record { shape = h.shape; from = at + 1 + h.wide; size = h.more + x } ≡ opened_at s at
    unfolding opened_at
    open_is x g q =
        let z : x ≡ big_at s (at + 1) h.wide = q ∙ if_there_lem s (at + 1) h.wide (big_at s (at + 1) h.wide) (omega (arith, y.wide)) (omega arith) in
        rw (← y.is) (simp (lt-ltb at (length s) there, le-leb (at + 1 + h.wide) (length s) (omega arith), z))

pub shut_within : (s : List ℕ) (r : Opened) → r ≡ shut → r.from ≤ length s
shut_within s r e = rw e (omega arith)

-- the span of an element whose lead byte says it all
module _ (s : List ℕ) (at : ℕ) (h : Shape) (n : ℕ) (there : at < length s) (e : row h 0 n ≡ head_of (get_or s at 0)) where
  pub span_bare : span_of s at ≡ content_of h (length s) (at + 1) n
  unfolding span_of big_at
  span_bare = rw (← e, add-zero (at + 1), add-zero n) (simp (le-leb (at + 1) (length s) (omega arith)))

pub plain_ends : (s : List ℕ) (at n : ℕ) → at + 1 + n ≤ length s → row Plain 0 n ≡ head_of (get_or s at 0) → span_of s at ≡ Ends (at + 1 + n)
unfolding body_of
plain_ends s at n h e = span_bare s at Plain n (omega arith) e ∙ simp (le-leb n (length s - (at + 1)) (omega arith))

-- what holds of no head, and of a head whose length is there, holds of the head at a place
module _ (s : List ℕ) (at : ℕ) where
  abbrev head_at : Head
  head_at = head_of (get_or s at 0)

  abbrev opened_head : Opened
  opened_head = record { shape = head_at.shape; from = at + 1 + head_at.wide; size = head_at.more + big_at s (at + 1) head_at.wide }

  pub by_opened : (P : Opened → Type 0) → (span_of s at ≡ Cut → P shut) → (at + 1 + head_at.wide ≤ length s → span_of s at ≡ content_of head_at.shape (length s) opened_head.from opened_head.size → P opened_head) → P (opened_at s at)
  unfolding opened_at span_of
  by_opened P cut whole = go (ltb at (length s)) (leb (at + 1 + head_at.wide) (length s)) refl refl
    where
      go : (t u : Bool) → ltb at (length s) ≡ t → leb (at + 1 + head_at.wide) (length s) ≡ u → P (either t (λ _. either u (λ _. opened_head) (λ _. shut)) (λ _. shut))
      go true true e f = whole (leb-true (at + 1 + head_at.wide) (length s) f) (simp f)
      go true false e f = cut (simp f)
      go false u e f = cut (simp (lt-leb (at + 1 + head_at.wide) (length s) (omega (arith, ltb-false at (length s) e))))

-- the place behind a leaf
pub opened_span : (s : List ℕ) (at : ℕ) (o : Opened) → o ≡ opened_at s at → span_of s at ≡ content_of o.shape (length s) o.from o.size
opened_span s at o e =
    by_opened s at (λ x. span_of s at ≡ content_of x.shape (length s) x.from x.size) (λ cut. cut) (λ w span. span)
    ∙ ap (λ (x : Opened). content_of x.shape (length s) x.from x.size) (sym e)

end_by : (h : Shape) (at len from n : ℕ) (t : Bool) → t ≡ is_body h → end_of at (content_of h len from n) ≡ either t (λ _. end_of at (body_of len from n)) (λ _. at)
end_by Never at len from n t e = rw e
end_by Plain at len from n t e = rw e
end_by Text at len from n t e = rw e
end_by Array at len from n t e = rw e
end_by Map at len from n t e = rw e

module _ (s : List ℕ) (at : ℕ) (o : Opened) (e : o ≡ opened_at s at) (t : Bool) (q : t ≡ is_body o.shape) where
  end_there : end_of at (span_of s at) ≡ either t (λ _. end_of at (body_of (length s) o.from o.size)) (λ _. at)
  end_there = ap (end_of at) (opened_span s at o e) ∙ end_by o.shape at (length s) o.from o.size t q

  pub end_body : t ≡ true → o.size ≤ length s - o.from → o.from + o.size ≡ end_of at (span_of s at)
  unfolding body_of
  end_body u h = sym (end_there ∙ rw u (simp (le-leb o.size (length s - o.from) h)))

  pub end_cut : t ≡ true → length s - o.from < o.size → at ≡ end_of at (span_of s at)
  unfolding body_of
  end_cut u h = sym (end_there ∙ rw u (simp (lt-leb o.size (length s - o.from) h)))

  pub end_other : t ≡ false → at ≡ end_of at (span_of s at)
  end_other u = sym (end_there ∙ rw u)

-- the same of a number, whose lead byte says its n bytes
module _ (s : List ℕ) (at n : ℕ) (there : at < length s) (g : 0xCA ≤ get_or s at 0) (h : get_or s at 0 < 0xD4) (e : n ≡ two_to (get_or s at 0 % 4)) where
  number_span : span_of s at ≡ body_of (length s) (at + 1) n
  number_span =
      span_bare s at Plain n there
      (says_number (get_or s at 0) n (row Plain 0 n) refl e g h).is

  pub number_ends : n ≤ length s - at - 1 → at + 1 + n ≡ end_of at (span_of s at)
  unfolding body_of
  number_ends l = sym (ap (end_of at) number_span ∙ simp (le-leb n (length s - (at + 1)) (omega arith)))

  pub number_cut : length s - at - 1 < n → at ≡ end_of at (span_of s at)
  unfolding body_of
  number_cut l = sym (ap (end_of at) number_span ∙ simp (lt-leb n (length s - (at + 1)) (omega arith)))

pub ruleset ends = (number_ends, number_cut, end_body, end_cut, end_other, arith)

pub ruleset openings = (open_past, open_cut, open_is, shut_within, length_fits, arith)
