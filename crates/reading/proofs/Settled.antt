-- No second answer meets a statement: what is meant by a payload, alone or in a frame, is one answer, with the lent bytes afterwards. Assumes nothing.
use mathlib.Core.Path.{◌≡◌, refl, sym, ap, ◌∙◌}
use mathlib.Core.List.{List}
use Prim.Native.Nat.{ℕ, ◌≤◌}
use lib.ListN.{length}
use Rattle.element.specs.{Tree.Tree, Tree.count_of, Tree.Payload, Meaning.meaning_of}
use Rattle.std.specs.Prelude.{Ok, Err}
use Rattle.refusal.specs.declared.Refusal.{Refusal}
use Rattle.frame.specs.Frame.{Framed, framed_of, payload_of}
use Rattle.message.specs.Reading.{outer_of}
use Rattle.record.specs.Reading.{reading_of}
use Rattle.record.specs.Meant.{Answered, answer_of, lent_size, Meant}
use Rattle.record.proofs.Answers.{one_answer}
use Rattle.reading.specs.declared.Unframed.{Unframed}
use Rattle.reading.specs.Framed.{answer_in, MeantFramed}

module _ (s d : List ℕ) where
  pub read_settled : (r q : Answered) → Meant s d r → Meant s d q → r ≡ q
  read_settled r q m n = one_answer s d r q m n

  -- of the bytes of a lawful tree the answer is the reading of its element, with its count
  pub read_tree : (r : Answered) → Meant s d r → lent_size ≤ length d → (w : Tree) → Payload s w → r ≡ answer_of (count_of w) d (reading_of (outer_of (meaning_of w)))
  read_tree r m l w P = m.whole l w P

  -- an answer to a frame, and the lent bytes afterwards
  module _ (r q : Unframed) (e f : List ℕ) (m : MeantFramed s d r e) (n : MeantFramed s d q f) where
    same_answer : answer_in r e ≡ answer_in q f
    same_answer = go (framed_of s) refl
      where
        go : (x : Framed) → framed_of s ≡ x → answer_in r e ≡ answer_in q f
        go (Err k) h = m.refused k h ∙ sym (n.refused k h)
        go (Ok k) h = one_answer (payload_of k s) d (answer_in r e) (answer_in q f) (m.whole k h) (n.whole k h)

    pub read_framed_settled : (r ≡ q) × (e ≡ f)
    read_framed_settled =
        (λ i. record { used = (m.used ∙ sym n.used) i; told = (same_answer i).told }, ap (λ (a : Answered). a.lent) same_answer)

pub ruleset settled = (read_settled, read_tree, read_framed_settled)
