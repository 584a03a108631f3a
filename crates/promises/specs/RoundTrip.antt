-- Demand 2 on the room that `chz_write` leaves: what is promised of it, as a frame and as a payload.
use mathlib.Core.{Path.◌≡◌, List.List}
use Rattle.std.specs.Prelude.{ℕ, ◌-◌, ◌≤◌, length}
use Rattle.octets.specs.Bytes.{put_at}
use Rattle.element.specs.Tree.{count_of}
use Rattle.frame.specs.Frame.{framed_of, payload_of}
use Rattle.record.specs.{Written.tree_for, Meant.lent_size, Lent.lent_of}
use Rattle.layout.specs.{Image.message_size, Image.message_image, Taken.message_at}
use Rattle.chozukpima.specs.Packed.{packed, answer_value, frame_answer}
use Rattle.chozukpima.specs.Messages.{Filled, filled, Got, got, ReadInto}

-- w is what `write` answers and leaves in the room, for the message m and its data d
pub record ReadBack (m d : List ℕ) (w : Filled) : Type 0 where
  -- `frame` answers the same on the room
  pub whole : frame_answer (framed_of w.bytes) ≡ w.answer
  -- `read` of its payload leaves the message's image and the data, and answers the count of elements
  pub reads : (into e : List ℕ) → length into ≡ message_size → lent_size ≤ length e → (r : Got) → ReadInto (payload_of (answer_value w.answer - 12) w.bytes) into e r
      → r ≡ got (filled (packed 0 0 (count_of (tree_for (message_at m) d))) (message_image (message_at m))) (put_at e 0 (lent_of (message_at m) d))
  -- whose record is that of the message
  pub same : message_at (message_image (message_at m)) ≡ message_at m
