-- What is written for a record that fits is a payload: at most 15 pairs in at most 1,897 bytes, lawful and of few levels. By saying's law over rows.
-- Assumes nothing.
use mathlib.Core.{Path.◌≡◌, Bool.true, List.List}
use Prim.Native.Nat.{ℕ, ◌+◌, ◌-◌, ◌≤◌, ◌<◌}
use native.Mathlib.Omega.{arith}
use lib.ListN.{length}
use Rattle.element.specs.Tree.{Payload, pair_count}
use Rattle.message.specs.Fields.{fields_of}
use Rattle.saying.specs.Written.{pairs_from}
use Rattle.saying.proofs.Payloads.{Roomy, few_pairs, some_bytes, few_bytes, is_payload}
use Rattle.record.specs.declared.{Body.Body, Message.Message}
use Rattle.record.specs.{Record.command_in, Says.sayings_of, Says.says_of, Fits.fits, Written.tree_for, Written.payload_for, Code.Most.frame_most}
use Rattle.record.proofs.{Faultless.each_fits, Listed.words_few, Listed.most_bytes, Listed.most_elements, Listed.most_pairs}

-- no frame is longer than dlDataQue's longest
pub frame_most_lem : (b : Body) → frame_most b ≤ 1909
frame_most_lem (Body.Con x) = omega arith
frame_most_lem (Body.ConRsp x) = omega arith
frame_most_lem (Body.StatusRsp x) = omega arith
frame_most_lem (Body.Det x) = omega arith
frame_most_lem (Body.DetRsp sign) = omega arith
frame_most_lem (Body.AttPrp x) = omega arith
frame_most_lem (Body.DetPrp eui) = omega arith
frame_most_lem (Body.UlData x) = omega arith
frame_most_lem (Body.DlDataQue x) = omega arith
frame_most_lem (Body.Bare c) = omega arith

module _ (m : Message) (d : List ℕ) (h : fits m d ≡ true) where
  abbrev most : ℕ
  most = frame_most m.body - 12

  roomy : Roomy (sayings_of m d) (command_in m.body) most
  roomy = record {
    words = words_few m d;
    fit = each_fits m d h;
    size = omega (arith, frame_most_lem m.body);
    bytes = omega (arith, most_bytes m d);
    elements = most_elements m d;
    pairs = most_pairs m d;
  }

  pub pairs_few : pair_count (pairs_from (fields_of (command_in m.body)) (says_of m d)) ≤ 15
  pairs_few = few_pairs (sayings_of m d) (command_in m.body) most roomy

  pub payload_some : 0 < length (payload_for m d)
  unfolding payload_for
  payload_some = some_bytes (sayings_of m d) (command_in m.body) most roomy

  pub payload_most : 12 + length (payload_for m d) ≤ frame_most m.body
  unfolding payload_for
  payload_most = omega (arith, few_bytes (sayings_of m d) (command_in m.body) most roomy, most_bytes m d)

  pub payload_short : length (payload_for m d) ≤ 1897
  payload_short = omega (arith, payload_most, frame_most_lem m.body)

  pub payload_for_lem : Payload (payload_for m d) (tree_for m d)
  unfolding payload_for
  payload_for_lem = is_payload (sayings_of m d) (command_in m.body) most roomy
