-- What is written reads back as the same record, with the bytes that it has lent. Reading finds the cell of each part (saying's law over rows), and the
-- record of these cells is the record (proofs/Bodies). Assumes nothing.
use mathlib.Core.Path.{◌≡◌, refl, ap, ◌∙◌}
use mathlib.Core.{Bool.true, List.List, Option.some}
use Prim.Native.Nat.{ℕ, ◌<◌}
use lib.Dec.{T, lit<}
use borrow.Author.Tests.{lt-ltb}
use Rattle.element.specs.Meaning.{Element, meaning_of, meaning_of_pairs}
use Rattle.shortest.proofs.Many.{map_means}
use Rattle.names.specs.Names.{bytes, commands, name_at}
use Rattle.names.proofs.Places.{command_name}
use Rattle.field.specs.{Kind.Value, Cell.Said, Cell.Cell}
use Rattle.message.specs.Fields.{Field, fields_of}
use Rattle.message.specs.Reading.{outer_of, said_of, cells_of, look_in, command_said}
use Rattle.message.proofs.KeyKinds.{kinds_of, keys_apart}
use Rattle.saying.specs.{Says.part_in, Written.pairs_from}
use Rattle.saying.proofs.{Sayings.cells_by, Sayings.cells_said, Named.command_said_lem, Shown.shown_in, Shown.faultless, Words.row_back}
use Rattle.record.specs.declared.{Body.Body, Message.Message}
use Rattle.record.specs.{Record.message_of, Record.command_in, Says.is_named, Says.sayings_of, Says.says_of, Fits.fits, Written.tree_for, Lent.lent_of}
use Rattle.record.specs.Reading.{Reading, reading_by, reading_as, reading_named, reading_of}
use Rattle.record.proofs.{Typed.Typed, Commands.bare_below, Listed.words_few, Listed.rows_listed, Faultless.each_fits}
use Rattle.record.proofs.Bodies.{AllShown, own_id, named, body_back, data_back, not_crossed}

-- one of the 24 commands
among : (b : Body) → T (is_named b) → command_in b < 24
among (Body.Con x) t = lit< tt
among (Body.ConRsp x) t = lit< tt
among (Body.StatusRsp x) t = lit< tt
among (Body.Det x) t = lit< tt
among (Body.DetRsp sign) t = lit< tt
among (Body.AttPrp x) t = lit< tt
among (Body.DetPrp eui) t = lit< tt
among (Body.UlData x) t = lit< tt
among (Body.DlDataQue x) t = lit< tt
among (Body.Bare c) t = bare_below c t

module _ (m : Message) (d : List ℕ) (h : fits m d ≡ true) where
  abbrev own : List Field
  own = fields_of (command_in m.body)

  abbrev cells : List Cell
  cells = cells_by (says_of m d) own

  abbrev look : List ℕ → Cell
  look = look_in Cell.missing own cells

  shown : AllShown (command_in m.body) look (sayings_of m d)
  shown k = shown_in (command_in m.body) (sayings_of m d) (row_back (command_in m.body) (sayings_of m d) (words_few m d)) k own (kinds_of (command_in m.body)) (each_fits m d h) (rows_listed m d)

  message_back : Typed m → message_of (command_in m.body) look ≡ m
  unfolding message_of
  message_back t = λ i. record { op_id = own_id look d m.op_id m.body shown i; body = body_back look d m.op_id m.body t shown i }

  own_reading : Typed m → reading_by (command_in m.body) own cells ≡ Reading.reads m (lent_of m d)
  own_reading t =
      rw (
        faultless (command_in m.body) (sayings_of m d) (row_back (command_in m.body) (sayings_of m d) (words_few m d)) own 0 0 (kinds_of (command_in m.body)) (each_fits m d h),
        not_crossed look d m.op_id own m.body shown,
      )
      (λ i. Reading.reads (message_back t i) (data_back look d m.op_id m.body shown i))

  says_name : says_of m d (bytes "command") ≡ some (Value.string (name_at commands (command_in m.body)))
  unfolding sayings_of part_in
  says_name = refl

  named_reading : (said : List ℕ → Said) → reading_named (some (name_at commands (command_in m.body))) said ≡ reading_by (command_in m.body) own (cells_of own said)
  unfolding reading_as
  named_reading said =
      let l = among m.body (named look d m.op_id m.body shown) in
      rw (command_name (command_in m.body) l, lt-ltb (command_in m.body) 24 l)

  -- demand 2: what is written reads back as the same record
  pub written_reads : Typed m → reading_of (outer_of (meaning_of (tree_for m d))) ≡ Reading.reads m (lent_of m d)
  unfolding reading_of
  written_reads t =
      let fs = meaning_of_pairs (pairs_from own (says_of m d)) in
      let said : List ℕ → Said = λ k. said_of k fs in
      ap (λ (e : Element). reading_of (outer_of e)) (map_means (pairs_from own (says_of m d)))
      ∙ ap (λ (s : Said). reading_named (command_said s) said) (command_said_lem (says_of m d) (command_in m.body) says_name)
      ∙ named_reading said
      ∙ ap (reading_by (command_in m.body) own) (cells_said (says_of m d) own (keys_apart (command_in m.body)))
      ∙ own_reading t
