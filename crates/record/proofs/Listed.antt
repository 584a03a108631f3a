-- The rows of each command go with its list of fields, by one computed test a variant: no word behind the command's name, at most so many bytes and
-- pairs, each row's key is in the list, and each mandatory field has a row. Assumes nothing.
use mathlib.Core.{Path.refl, Path.sym, Path.subst, Bool.Bool, Bool.true, Bool.false, Bool.◌&&◌, List.List}
use Prim.Native.Nat.{ℕ, ◌+◌, ◌≤◌}
use lib.{Dec.T, Dec.eqb, Dec.leb, Dec.leb→le, IntN.ℤ}
use Rattle.octets.proofs.Ranges.{both_left, both_right}
use Rattle.names.specs.Names.{downlink}
use Rattle.message.specs.Fields.{Field, lists, list_in, fields_of}
use Rattle.message.proofs.KeyKinds.{passes}
use Rattle.saying.specs.Says.{Saying}
use Rattle.saying.proofs.{Shown.are_listed, Payloads.most_in, Payloads.elements_in, Payloads.pairs_in, Fitted.is_needed, Fitted.are_kept}
use Rattle.saying.proofs.Words.{name_most, FewWords, few_words, wordless_in, wordless, others_of}
use Rattle.record.specs.declared.{Body.Body, Message.Message}
use Rattle.record.specs.{Record.command_in, Says.is_named, Says.body_sayings, Says.sayings_of, Code.Most.frame_most}
use Rattle.record.proofs.{Commands.bare_past, Commands.bare_other, Commands.bare_list}

abbrev is_few : ℕ → ℕ → List Field → List Saying → Bool
is_few w n l rs = leb (13 + most_in rs w l) n && (leb (elements_in rs l) 1023 && leb (pairs_in rs l) 15)

-- where the command's name has at most w bytes, and the frame n
abbrev goes : ℕ → ℕ → List Field → List Saying → Bool
goes w n l rs = wordless_in l (others_of rs) && (are_listed l rs && is_few w n l rs)

module _ (d : List ℕ) (o : ℤ) where
  abbrev of : Body → Message
  of b = record { op_id = o; body = b }

  bare_goes : (c : ℕ) (b : Bool) → T (goes (name_most b) 145 (fields_of c) (sayings_of (of (Body.Bare c)) d))
  unfolding sayings_of body_sayings lists list_in
  bare_goes c true = passes (λ l. goes (name_most true) 145 l (sayings_of (of (Body.Bare c)) d)) tt c
  bare_goes c false = passes (λ l. goes (name_most false) 145 l (sayings_of (of (Body.Bare c)) d)) tt c

  by_body : (b : Body) → T (goes (name_most (eqb (command_in b) downlink)) (frame_most b) (fields_of (command_in b)) (sayings_of (of b) d))
  unfolding sayings_of body_sayings lists list_in
  by_body (Body.Con x) = tt
  by_body (Body.ConRsp x) = tt
  by_body (Body.StatusRsp x) = tt
  by_body (Body.Det x) = tt
  by_body (Body.DetRsp sign) = tt
  by_body (Body.AttPrp x) = tt
  by_body (Body.DetPrp eui) = tt
  by_body (Body.UlData x) = tt
  by_body (Body.DlDataQue x) = tt
  by_body (Body.Bare c) = bare_goes c (eqb c downlink)

  kept_by : (b : Body) → T (is_named b) → T (are_kept (sayings_of (of b) d) (fields_of (command_in b)))
  unfolding sayings_of body_sayings lists list_in is_needed
  kept_by (Body.Con x) t = tt
  kept_by (Body.ConRsp x) t = tt
  kept_by (Body.StatusRsp x) t = tt
  kept_by (Body.Det x) t = tt
  kept_by (Body.DetRsp sign) t = tt
  kept_by (Body.AttPrp x) t = tt
  kept_by (Body.DetPrp eui) t = tt
  kept_by (Body.UlData x) t = tt
  kept_by (Body.DlDataQue x) t = tt
  kept_by (Body.Bare c) t = subst (λ (l : List Field). T (are_kept (sayings_of (of (Body.Bare c)) d) l)) (sym (bare_list (bare_past c t) (bare_other c t))) tt

module _ (m : Message) (d : List ℕ) where
  abbrev own : List Field
  own = fields_of (command_in m.body)

  abbrev rows : List Saying
  rows = sayings_of m d

  abbrev name : ℕ
  name = name_most (eqb (command_in m.body) downlink)

  abbrev most : ℕ
  most = frame_most m.body

  tested : T (goes name most own rows)
  tested = by_body d m.op_id m.body

  rest : T (are_listed own rows && is_few name most own rows)
  rest = both_right (wordless (command_in m.body) (others_of rows)) (are_listed own rows && is_few name most own rows) tested

  few : T (is_few name most own rows)
  few = both_right (are_listed own rows) (is_few name most own rows) rest

  pub words_few : FewWords (command_in m.body) (sayings_of m d)
  unfolding sayings_of
  words_few = few_words rows (command_in m.body) refl (both_left (wordless (command_in m.body) (others_of rows)) (are_listed own rows && is_few name most own rows) tested)

  pub rows_listed : T (are_listed (fields_of (command_in m.body)) (sayings_of m d))
  rows_listed = both_left (are_listed own rows) (is_few name most own rows) rest

  fewer : T (leb (elements_in rows own) 1023 && leb (pairs_in rows own) 15)
  fewer = both_right (leb (13 + most_in rows name own) most) (leb (elements_in rows own) 1023 && leb (pairs_in rows own) 15) few

  pub most_bytes : 13 + most_in (sayings_of m d) (name_most (eqb (command_in m.body) downlink)) (fields_of (command_in m.body)) ≤ frame_most m.body
  most_bytes = leb→le (13 + most_in rows name own) most (both_left (leb (13 + most_in rows name own) most) (leb (elements_in rows own) 1023 && leb (pairs_in rows own) 15) few)

  pub most_elements : elements_in (sayings_of m d) (fields_of (command_in m.body)) ≤ 1023
  most_elements = leb→le (elements_in rows own) 1023 (both_left (leb (elements_in rows own) 1023) (leb (pairs_in rows own) 15) fewer)

  pub most_pairs : pairs_in (sayings_of m d) (fields_of (command_in m.body)) ≤ 15
  most_pairs = leb→le (pairs_in rows own) 15 (both_right (leb (elements_in rows own) 1023) (leb (pairs_in rows own) 15) fewer)

  pub kept_rows : T (is_named m.body) → T (are_kept (sayings_of m d) (fields_of (command_in m.body)))
  kept_rows t = kept_by d m.op_id m.body t
