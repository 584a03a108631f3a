-- What reading left may be written: the low byte of an answer is its refusal, so where it is 0 the record that was told stands in the message, and that
-- record fits the data. Assumes nothing.
use mathlib.Core.Path.{◌≡◌, sym, ap, ◌∙◌}
use mathlib.Core.{Bool.true, List.List}
use Prim.Native.Nat.{ℕ, ◌≤◌, ◌<◌}
use native.Mathlib.Omega.{arith}
use lib.{Dec.eqb, Dec.lit<, ListN.length}
use borrow.Author.Tests.{eq-eqb}
use Rattle.std.specs.Prelude.{Result, Ok, Err}
use Rattle.refusal.specs.{Number.number_of, declared.Broken.Broken}
use Rattle.octets.specs.Choice.{either}
use Rattle.octets.proofs.Ranges.{is_true}
use Rattle.record.specs.declared.{Message.Message, Counted.Counted}
use Rattle.record.specs.{Says.is_named, Fits.fits, Meant.Meant}
use Rattle.record.proofs.Answers.{read_writes}
use Rattle.writer.proofs.Payloads.{fits_named}
use Rattle.layout.specs.{Image.message_size, Image.message_image, Taken.message_at}
use Rattle.layout.proofs.Back.{image_size}
use Rattle.chozukpima.specs.Packed.{most, packed, refused_with, answer_refusal, answer_value}
use Rattle.chozukpima.specs.{Messages.Kept, Code.Stands.Stands}
use Rattle.chozukpima.proofs.Answers.{shown_whole}

-- what is taken from an answer is what was packed
pub refusal_back : (n happened v : ℕ) → n < 256 → answer_refusal (packed n happened v) ≡ n
unfolding packed
refusal_back n happened v h = omega arith

pub value_back : (v : ℕ) → v ≤ most → answer_value (packed 0 0 v) ≡ v
unfolding packed
value_back v h = let e = shown_whole v h in omega arith

-- each in the shape of a need of `tell`
module _ (t : Result Counted Broken) (d : List ℕ) (r : ℕ) where
  pub stands_refused : (b : Broken) → t ≡ Err b → (n : ℕ) → n ≡ number_of b.refusal → 1 ≤ n → n ≤ 35 → r ≡ packed n 0 b.place → Stands t r d
  stands_refused b h n q l f e =
      let same : answer_refusal r ≡ n = ap answer_refusal e ∙ refusal_back n 0 b.place (omega arith) in
      record { told = λ z. absurd (omega arith); long = λ z. absurd (omega arith) }

  pub stands_whole : (x : Counted) → t ≡ Ok x → (after : List ℕ) → length d ≡ message_size
      → after ≡ either (eqb (length d) message_size) (λ _. message_image x.message) (λ _. d)
      → (length d ≡ message_size → is_named x.message.body ≡ true → message_at after ≡ x.message) → Stands t r after
  stands_whole x h after l e b =
      let q : either (eqb (length d) message_size) (λ _. message_image x.message) (λ _. d) ≡ message_image x.message = simp (eq-eqb (length d) message_size l) in
      record { told = λ _. (x, h, b l); long = λ _. ap length (e ∙ q) ∙ image_size x.message }

-- each in the shape of a need of `chz_read`
module _ (m d : List ℕ) (r : ℕ) where
  pub kept_short : r ≡ refused_with 15 → Kept r m d
  kept_short e =
      let n : answer_refusal r ≡ 15 = ap answer_refusal e ∙ refusal_back 15 0 0 (lit< tt) in
      record { long = λ z. absurd (omega arith); fit = λ z. absurd (omega arith) }

  pub kept_whole : (p before : List ℕ) (t : Result Counted Broken) → Meant p before (record { told = t; lent = d }) → Stands t r m → Kept r m d
  kept_whole p before t n s = record {
    long = s.long;
    fit = λ z.
        let k = s.told z in
        let f = read_writes p before (record { told = t; lent = d }) n k.0 k.1 in
        let named = sym (is_true (is_named k.0.message.body) (fits_named k.0.message d f)) in
        ap (λ (x : Message). fits x d) (k.2 named) ∙ f;
  }

pub ruleset keeps = (stands_refused, stands_whole, kept_short, kept_whole)
