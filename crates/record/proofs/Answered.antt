-- What the code goes by, places in the bytes, is what `Meant` asks for: for the bytes of a lawful tree the cells are those of what the outer map says, and
-- so is the reading. Assumes nothing.
use mathlib.Core.Path.{◌≡◌, refl, ap, ◌∙◌}
use mathlib.Core.{Bool.Bool, Bool.true, Bool.false, List.List, Option.Option, Option.some, Option.none}
use Prim.Native.Nat.{ℕ, ◌≤◌}
use native.Mathlib.Omega.{arith}
use lib.{Dec.ltb, Dec.lit<, ListN.length, ListN.get_or}
use borrow.Author.Tests.{lt-ltb, le-ltb, eq-eqb, ltb-false}
use Rattle.std.specs.Prelude.{Ok, Err}
use Rattle.refusal.specs.declared.{Refusal.TheVariants.Size, Refusal.TheVariants.LeftOver}
use Rattle.octets.specs.{Choice.either, Size.is_size}
use Rattle.element.specs.Form.{Role, Step, Walked, broken, element_of, ended, walk_of}
use Rattle.element.specs.{Tree.count_of, Meaning.Fields, Meaning.meaning_of}
use Rattle.element.proofs.Whole.{tree_whole}
use Rattle.names.specs.{Names.bytes, Names.name_at, Names.command_of, Code.Slots.keys}
use Rattle.names.proofs.Places.{command_small}
use Rattle.message.specs.{Fields.fields_of, Reading.outer_of, Reading.said_of, Reading.command_said, Code.Cells.places_of, Code.Cells.numbered}
use Rattle.message.proofs.Known.{fields_known}
use Rattle.message.proofs.Read.{Agrees, same_cells, number_said, payload_agrees}
use Rattle.record.specs.Reading.{reading_by, reading_as, reading_named, reading_of}
use Rattle.record.specs.Meant.{Answered, breaks, refuses, answer_of, lent_size, Meant}
use Rattle.record.specs.Code.Places.{reading_numbered, reading_at, answer_by, answer_at}

module _ (s places : List ℕ) (fs : Fields) (h : Agrees s places fs) where
  numbered_reading : (n : Option (List ℕ)) → reading_numbered s places (numbered n) ≡ reading_named n (λ k. said_of k fs)
  unfolding reading_as
  numbered_reading none = refl
  numbered_reading (some n) = go (ltb (command_of n) 24) refl
    where
      go : (t : Bool) → ltb (command_of n) 24 ≡ t → reading_numbered s places (command_of n) ≡ reading_named (some n) (λ k. said_of k fs)
      go true t = rw t (ap (reading_by (command_of n) (fields_of (command_of n))) (same_cells s places fs h (fields_of (command_of n)) (fields_known (command_of n))))
      go false t =
          let e : command_of n ≡ 24 = omega (arith, ltb-false (command_of n) 24 t, command_small n) in
          rw (t, eq-eqb (command_of n) 24 e)

  pub same_reading : reading_at s places ≡ reading_of fs
  unfolding reading_at reading_of keys name_at
  same_reading =
      ap (reading_numbered s places) (number_said s places fs h (get_or places 0 0) (said_of (bytes "command") fs) (h 0 (lit< tt)))
      ∙ numbered_reading (command_said (said_of (bytes "command") fs))

module _ (s d : List ℕ) where
  -- the walk's answer decides whether there is a reading
  walked : Walked → Answered
  walked (Err b) = breaks b d
  walked (Ok c) = answer_of c d (reading_at s (places_of s))

  ended_answer : (r : Step) → answer_by s d r ≡ walked (ended (length s) r)
  unfolding walked
  ended_answer (Err b) = refl
  ended_answer (Ok n) = go (ltb n.at (length s))
    where
      go : (t : Bool) → either t (λ _. breaks (record { refusal = LeftOver; place = n.at }) d) (λ _. answer_of n.count d (reading_at s (places_of s))) ≡ walked (either t (λ _. broken LeftOver n.at) (λ _. Ok n.count))
      go true = refl
      go false = refl

  answer_walked : lent_size ≤ length d → answer_at s d ≡ walked (walk_of s)
  unfolding answer_at walk_of walked
  answer_walked l = simp (le-ltb (length d) lent_size l) (go (is_size (length s)))
    where
      go : (a : Bool) → either a (λ _. answer_by s d (element_of s 8 Role.outer 0 0)) (λ _. refuses Size d)
          ≡ walked (either a (λ _. ended (length s) (element_of s 8 Role.outer 0 0)) (λ _. broken Size 0))
      go true = ended_answer (element_of s 8 Role.outer 0 0)
      go false = refl

  -- what the code answers is meant
  pub answer_meant : Meant s d (answer_at s d)
  unfolding walked answer_at
  answer_meant = record {
    short = λ l. simp (lt-ltb (length d) lent_size l);
    broken = λ l b e. answer_walked l ∙ ap walked e;
    whole = λ l w P.
        answer_walked l ∙ ap walked (tree_whole s w P)
        ∙ ap (answer_of (count_of w) d) (same_reading s (places_of s) (outer_of (meaning_of w)) (payload_agrees s w P));
  }
