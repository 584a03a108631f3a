-- What `chz_read` states holds of one answer alone, with the message and its data: what a payload means is one thing, and every payload means something.
-- The other calls state equations (octets, proofs/Settled). Assumes nothing.
use mathlib.Core.Path.{◌≡◌, refl, sym, ◌∙◌}
use mathlib.Core.{Bool.Bool, Bool.true, Bool.false, List.List}
use Prim.Native.Nat.{ℕ}
use lib.{Dec.eqb, ListN.length}
use borrow.Author.Tests.{eqb-true, eqb-false}
use Rattle.record.specs.Code.Places.{answer_at}
use Rattle.record.proofs.Answered.{answer_meant}
use Rattle.layout.specs.Image.{message_size}
use Rattle.chozukpima.specs.Messages.{Got, ReadInto}

-- a message of its length is answered by what the payload means, and every payload means something; any other is 15
pub read_settled : (p m d : List ℕ) (r q : Got) → ReadInto p m d r → ReadInto p m d q → r ≡ q
read_settled p m d r q x y = by_length (eqb (length m) message_size) refl
  where
    by_length : (w : Bool) → eqb (length m) message_size ≡ w → r ≡ q
    by_length true e =
        let l : length m ≡ message_size = eqb-true (length m) message_size e in
        x.meant l (answer_at p d) (answer_meant p d) ∙ sym (y.meant l (answer_at p d) (answer_meant p d))
    by_length false e = let h : length m ≡ message_size → ⊥ = eqb-false (length m) message_size e in x.long h ∙ sym (y.long h)
