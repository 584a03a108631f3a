-- The calls on messages: their branches are those of the definitions. Assumes nothing.
use mathlib.Core.Path.{◌≡◌, refl, ap, ◌∙◌}
use mathlib.Core.List.{List}
use Prim.Native.Nat.{ℕ}
use lib.{Dec.eqb, ListN.length}
use borrow.Author.Tests.{eq-eqb}
use Rattle.octets.specs.Choice.{either}
use Rattle.record.specs.declared.{Counted.Counted}
use Rattle.record.specs.Meant.{Answered as Meaning, Meant}
use Rattle.record.proofs.Answers.{one_answer}
use Rattle.std.specs.Prelude.{Result, Ok, Err}
use Rattle.refusal.specs.{declared.Broken.Broken, declared.Refusal.Refusal, Number.number_of}
use Rattle.writer.specs.Write.{write_refusal, length_of}
use Rattle.layout.specs.{Image.message_size, Image.message_image}
use Rattle.chozukpima.specs.Packed.{packed, refused_with, value_answer}
use Rattle.chozukpima.specs.Messages.{Filled, filled, told_into, got, ReadInto}

-- what is told of a payload
module _ (t : Result Counted Broken) (d : List ℕ) (r : ℕ) where
  pub told_refused : (b : Broken) → t ≡ Err b → (n : ℕ) → n ≡ number_of b.refusal → r ≡ packed n 0 b.place → ◌≡◌ {A = Filled} (filled r d) (told_into t d)
  unfolding told_into
  told_refused b h n q e = rw h (ap (λ k. filled k d) (e ∙ ap (λ k. packed k 0 b.place) q))

  pub told_whole : (x : Counted) → t ≡ Ok x → (after : List ℕ) → length d ≡ message_size → r ≡ packed 0 0 x.count
      → after ≡ either (eqb (length d) message_size) (λ _. message_image x.message) (λ _. d) → ◌≡◌ {A = Filled} (filled r after) (told_into t d)
  unfolding told_into
  told_whole x h after l e p =
      let q : either (eqb (length d) message_size) (λ _. message_image x.message) (λ _. d) ≡ message_image x.message = simp (eq-eqb (length d) message_size l) in
      rw h (λ i. filled (e i) ((p ∙ q) i))

module _ (p m d : List ℕ) (r : ℕ) where
  pub read_short : (length m ≡ message_size → ⊥) → r ≡ refused_with 15 → ReadInto p m d (got (filled r m) d)
  read_short h e = record { long = λ _. ap (λ n. got (filled n m) d) e; meant = λ l a n. absurd (h l) }

  pub read_whole : (after lent : List ℕ) (t : Result Counted Broken) → length m ≡ message_size → Meant p d (record { told = t; lent = lent }) → ◌≡◌ {A = Filled} (filled r after) (told_into t m)
      → ReadInto p m d (got (filled r after) lent)
  read_whole after lent t l n q =
      let a : Meaning = record { told = t; lent = lent } in
      record {
        long = λ h. absurd (h l);
        meant = λ _ b k. ap (λ x. got x lent) q ∙ ap (λ (x : Meaning). got (told_into x.told m) x.lent) (one_answer p d a b n k);
      }

pub written_told : (w : Result ℕ Refusal) → value_answer w ≡ packed (write_refusal w) 0 (length_of w)
written_told (Ok k) = refl
written_told (Err k) = refl

pub ruleset reads = (told_refused, told_whole, read_short, read_whole)
