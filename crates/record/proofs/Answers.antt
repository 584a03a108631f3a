-- What reading answers. What is written for a record is read as that record with its count of elements, what is read may be written with the bytes as
-- they then are, and no second answer is meant: every payload breaks a rule of form or is written by a tree. Assumes nothing.
use mathlib.Core.Path.{◌≡◌, refl, sym, ap, subst, ◌∙◌}
use mathlib.Core.{Bool.Bool, Bool.true, Bool.false, List.List}
use Prim.Native.Nat.{ℕ, ◌≤◌}
use lib.{Dec.ltb, ListN.length}
use borrow.Author.Tests.{ltb-true, ltb-false}
use Rattle.std.specs.Prelude.{Ok, Err}
use Rattle.refusal.specs.declared.{Broken.Broken, Refusal.TheVariants.Invalid}
use Rattle.octets.specs.Bytes.{put_at}
use Rattle.element.specs.{Form.Walked, Form.walk_of, Tree.Tree, Tree.count_of, Meaning.meaning_of}
use Rattle.element.proofs.Whole.{whole_tree}
use Rattle.message.specs.Reading.{outer_of}
use Rattle.record.specs.declared.{Message.Message, Counted.Counted}
use Rattle.record.specs.{Fits.fits, Written.tree_for, Written.payload_for, Reading.Reading, Reading.reading_of, Lent.lent_of}
use Rattle.record.specs.Meant.{Answered, breaks, answer_of, lent_size, Meant}
use Rattle.record.proofs.{Typed.Typed, Payloads.payload_for_lem, RoundTrip.written_reads, Read.read_kept}

-- demand 2, on bytes: what is written for a record, taken as a payload, is read as that record, and the bytes that it has lent stand at the start
pub read_frame : (m : Message) (d : List ℕ) → fits m d ≡ true → Typed m → (buffer : List ℕ) → lent_size ≤ length buffer
    → (r : Answered) → Meant (payload_for m d) buffer r → r ≡ answer_of (count_of (tree_for m d)) buffer (Reading.reads m (lent_of m d))
read_frame m d h t buffer l r meant =
    meant.whole l (tree_for m d) (payload_for_lem m d h) ∙ ap (answer_of (count_of (tree_for m d)) buffer) (written_reads m d h t)

module _ (s d : List ℕ) where
  -- a refusal, or the reading of a payload's tree
  data Form : Answered → Type 0 where
    refusing : (b : Broken) → Form (breaks b d)
    reading : lent_size ≤ length d → (w : Tree) → Form (answer_of (count_of w) d (reading_of (outer_of (meaning_of w))))

  -- the answer that is meant
  record Settled : Type 0 where
    answer : Answered
    form : Form answer
    only : (r : Answered) → Meant s d r → r ≡ answer

  settled : Settled
  settled = go (ltb (length d) lent_size) refl
    where
      walked : lent_size ≤ length d → (x : Walked) → walk_of s ≡ x → Settled
      walked l (Err b) e = record { answer = breaks b d; form = refusing b; only = λ r m. m.broken l b e }
      walked l (Ok c) e =
          let t = whole_tree s c e in
          record {
            answer = answer_of (count_of t.0) d (reading_of (outer_of (meaning_of t.0)));
            form = reading l t.0;
            only = λ r m. m.whole l t.0 t.1;
          }

      go : (b : Bool) → ltb (length d) lent_size ≡ b → Settled
      go true e =
          let b : Broken = record { refusal = Invalid; place = 0 } in
          record { answer = breaks b d; form = refusing b; only = λ r m. m.short (ltb-true (length d) lent_size e) }
      go false e = walked (ltb-false (length d) lent_size e) (walk_of s) refl

  pub one_answer : (r q : Answered) → Meant s d r → Meant s d q → r ≡ q
  one_answer r q m n = settled.only r m ∙ sym (settled.only q n)

  -- what is read may be written, with the lent bytes as they then are
  abbrev Writes : Answered → Type 0
  Writes r = (x : Counted) → r.told ≡ Ok x → fits x.message r.lent ≡ true

  form_writes : {r : Answered} → Form r → Writes r
  form_writes (refusing b) x e = absurd (cc e)
  form_writes (reading l w) x e = go (reading_of (outer_of (meaning_of w))) refl x e
    where
      go : (y : Reading) → reading_of (outer_of (meaning_of w)) ≡ y → Writes (answer_of (count_of w) d y)
      go (Reading.refused r) q x e = absurd (cc e)
      go (Reading.reads m b) q x e =
          let same : record { count = count_of w; message = m } ≡ x = cc e in
          ap (λ (y : Counted). fits y.message (put_at d 0 b)) (sym same) ∙ read_kept (outer_of (meaning_of w)) m b q d l

  pub read_writes : (r : Answered) → Meant s d r → (x : Counted) → r.told ≡ Ok x → fits x.message r.lent ≡ true
  read_writes r m = subst Writes (sym (settled.only r m)) (form_writes settled.form)
