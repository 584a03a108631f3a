-- What is written part by part is the record's payload: each variant's parts are those of its command's fields, in the list's order, and as many as
-- are counted. By the laws over any list of fields, and one unfolding a variant. Assumes nothing.
use mathlib.Core.Path.{◌≡◌, ap, subst, ◌∙◌}
use mathlib.Core.{Bool.true, Bool.◌&&◌, List.List, List.[], List.append_assoc, Option.Option}
use Prim.Native.Nat.{ℕ}
use native.Mathlib.Omega.{arith}
use lib.{Dec.T, IntN.ℤ, ListN.drop}
use Rattle.octets.specs.Pieces.{pieces_lent, are_lent}
use Rattle.octets.proofs.Ranges.{both_left}
use Rattle.element.specs.Tree.{bytes_of, pair_count}
use Rattle.forms.specs.{Shortest.text_tree, Shortest.text_head, Code.Put.joined}
use Rattle.names.specs.Names.{bytes}
use Rattle.field.specs.Kind.{Kind, Value}
use Rattle.message.specs.Fields.{Field, need, headed, lists, list_in, fields_of}
use Rattle.saying.specs.{Says.part_in, Fits.within, Fits.said_fits, Written.pairs_from}
use Rattle.saying.proofs.Shown.{AllFit}
use Rattle.record.specs.{Record.command_in, Fits.fits, Written.payload_for}
use Rattle.record.specs.Says.{is_bare, is_named, body_sayings, sayings_of, says_of}
use Rattle.record.specs.declared.{Body.Body, Message.Message}
use Rattle.record.proofs.Faultless.{each_fits}
use Rattle.record.proofs.Commands.{command, begins, bare_past, bare_other, bare_list}
use Rattle.writer.specs.Code.Parts.{chained, station_parts, resume_parts, centre_parts, duty_parts, load_parts, report_parts, times_parts, signal_parts, packet_parts, answer_parts, meter_parts, attachment_parts, modes_parts, queue_parts, weight_parts, wishes_parts, has_data, pairs_in, groups_in, body_parts}
use Rattle.writer.proofs.Fields.{parts_from, maybe_is, always_is, counted, one_of_lem, payload_by}

-- by the variant: as many pairs are counted as are written, and the groups of fields are those of the list
module _ (d : List ℕ) (z : ℤ) where
  abbrev of : Body → Message
  of b = record { op_id = z; body = b }

  abbrev says : Body → List ℕ → Option Value
  says b = says_of (of b) d

  bare_count : (c : ℕ) → T (is_bare c) → 2 ≡ pair_count (pairs_from (fields_of c) (says (Body.Bare c)))
  unfolding pairs_from pair_count sayings_of body_sayings part_in
  bare_count c t = rw (bare_list (bare_past c t) (bare_other c t))

  count_is : (b : Body) → T (is_named b) → pairs_in b ≡ pair_count (pairs_from (fields_of (command_in b)) (says b))
  unfolding pairs_in lists list_in sayings_of body_sayings part_in
  count_is (Body.Con x) t = omega (arith, simp one_of_lem at (counted (fields_of 0) (says (Body.Con x))))
  count_is (Body.ConRsp x) t = omega (arith, simp one_of_lem at (counted (fields_of 1) (says (Body.ConRsp x))))
  count_is (Body.StatusRsp x) t = omega (arith, simp one_of_lem at (counted (fields_of 2) (says (Body.StatusRsp x))))
  count_is (Body.Det x) t = omega (arith, simp one_of_lem at (counted (fields_of 3) (says (Body.Det x))))
  count_is (Body.DetRsp sign) t = omega (arith, counted (fields_of 4) (says (Body.DetRsp sign)))
  count_is (Body.AttPrp x) t = omega (arith, counted (fields_of 5) (says (Body.AttPrp x)))
  count_is (Body.DetPrp eui) t = omega (arith, counted (fields_of 6) (says (Body.DetPrp eui)))
  count_is (Body.UlData x) t = omega (arith, simp one_of_lem at (counted (fields_of 7) (says (Body.UlData x))))
  count_is (Body.DlDataQue x) t = omega (arith, simp one_of_lem at (counted (fields_of 21) (says (Body.DlDataQue x))))
  count_is (Body.Bare c) t = bare_count c t

  bare_fields : (c : ℕ) → T (is_bare c) → chained [] ≡ parts_from (drop 2 (fields_of c)) (says (Body.Bare c))
  unfolding chained parts_from
  bare_fields c t = rw (bare_list (bare_past c t) (bare_other c t))

  fields_are : (b : Body) → T (is_named b) → chained (groups_in b d) ≡ parts_from (drop 2 (fields_of (command_in b))) (says b)
  unfolding groups_in chained station_parts resume_parts centre_parts report_parts duty_parts load_parts packet_parts times_parts signal_parts answer_parts meter_parts attachment_parts modes_parts queue_parts weight_parts wishes_parts parts_from lists list_in sayings_of body_sayings part_in text_tree text_head bytes_of
  fields_are (Body.Con x) t = simp (maybe_is, append_assoc) (simp always_is)
  fields_are (Body.ConRsp x) t = simp (maybe_is, append_assoc) (simp always_is)
  fields_are (Body.StatusRsp x) t = simp (maybe_is, append_assoc) (simp always_is)
  fields_are (Body.Det x) t = simp (maybe_is, append_assoc) (simp always_is)
  fields_are (Body.DetRsp sign) t = simp always_is
  fields_are (Body.AttPrp x) t = simp append_assoc (simp always_is)
  fields_are (Body.DetPrp eui) t = simp always_is
  fields_are (Body.UlData x) t = simp (maybe_is, append_assoc) (simp always_is)
  fields_are (Body.DlDataQue x) t = simp (maybe_is, append_assoc) (simp always_is)
  fields_are (Body.Bare c) t = bare_fields c t

  -- what is lent beside a record that fits is there
  data_by : (b : Body) → fits (of b) d ≡ true → T (has_data b d)
  unfolding sayings_of body_sayings part_in
  data_by (Body.Con x) h = tt
  data_by (Body.ConRsp x) h = tt
  data_by (Body.StatusRsp x) h = tt
  data_by (Body.Det x) h = tt
  data_by (Body.DetRsp sign) h = tt
  data_by (Body.AttPrp x) h = tt
  data_by (Body.DetPrp eui) h = tt
  data_by (Body.UlData x) h = tt
  data_by (Body.DlDataQue x) h =
      let all = each_fits (of (Body.DlDataQue x)) d h in
      let v = Value.strings (pieces_lent x.entries d) in
      both_left (are_lent x.entries d) true (both_left (are_lent x.entries d && true) (within (Kind.pieces 16 245 800) v) all.1.1.1.1.1.1.0)
  data_by (Body.Bare c) h = tt

module _ (m : Message) (d : List ℕ) where
  pub fits_data : fits m d ≡ true → T (has_data m.body d)
  fits_data h = data_by d m.op_id m.body h

  abbrev own : List Field
  own = fields_of (command_in m.body)

  pub payload_bytes : T (is_named m.body) → joined (body_parts m.op_id m.body d) ≡ payload_for m d
  unfolding body_parts
  payload_bytes t =
      let z = m.op_id in
      let b = m.body in
      let first = begins (command (command_in b)) in
      let count = count_is d z b t ∙ ap (λ (l : List Field). pair_count (pairs_from l (says_of m d))) first in
      payload_by m d (drop 2 own) (groups_in b d) (pairs_in b) first count (fields_are d z b t)

  -- a record that fits is named
  pub fits_named : fits m d ≡ true → T (is_named m.body)
  unfolding sayings_of part_in
  fits_named h =
      let p = part_in (sayings_of m d) (bytes "command") in
      let all : AllFit (sayings_of m d) (headed (drop 2 own)) = subst (AllFit (sayings_of m d)) (begins (command (command_in m.body))) (each_fits m d h) in
      both_left (is_named m.body) true (both_left p.clean (said_fits (need "command" Kind.words) p.said) all.0)
