-- The record of a command without a fault fits, with its bytes at the start of those lent: each of its parts is what a cell without a fault makes
-- (saying's laws and proofs/Made), command by command. Assumes nothing.
use mathlib.Core.Path.{◌≡◌, refl, sym, subst}
use mathlib.Core.Bool.{Bool, true, false, not, ◌||◌}
use mathlib.Core.List.{List, [], ◌∷◌, ◌++◌}
use mathlib.Core.Option.{some}
use Prim.Native.Nat.{ℕ, ◌-◌, ◌^◌, ◌≤◌}
use native.Mathlib.Omega.{arith}
use lib.{Dec.T, Dec.ltb, ListN.length, ListN.take, ListN.drop, Seq.take-append_seam}
use Rattle.octets.proofs.Ranges.{is_true}
use Rattle.names.specs.Names.{bytes, name_at, commands}
use Rattle.field.specs.{Kind.Kind, Kind.signed64, Cell.Said, Cell.Cell, Cell.here}
use Rattle.message.specs.Fields.{Field, headed, received, lists, list_in, fields_of}
use Rattle.message.specs.Record.{word_in, id_in, mark_in}
use Rattle.message.specs.{Reading.place_among, Reading.is_unopened, Reading.is_miscounted, Reading.crossed, Reading.command_said}
use Rattle.message.proofs.KeyKinds.{passes, kind_by, id_kind, lacks}
use Rattle.saying.specs.{Says.Saying, Says.id, Says.mark, Says.string, Fits.is_sized}
use Rattle.saying.proofs.{Fair.Fair, Fair.is_kept, Sorts.sized_most, Shown.AllFit, Crossed.unbroken, Crossed.no_cross}
use Rattle.saying.proofs.Found.{AllSound, found, found_none, fair}
use Rattle.saying.proofs.Fitted.{needed_in, is_needed, are_kept, ◌and◌, IsMade, AllMade, command_made, there, made_fit}
use Rattle.saying.proofs.Made.{is_made, word_made, maybe_word_made, id_made, maybe_id_made, mark_made, real_made, maybe_real_made, maybe_mark_made, maybe_place_made, unless_zero_made, unless_plus_zero_made}
use Rattle.record.specs.Record.{bytes_in, packet_of, body_in, body_of, message_of, lent_keys, data_of, command_in}
use Rattle.record.specs.Says.{tested, is_named, packet_sayings, body_sayings, sayings_of}
use Rattle.record.specs.{Fits.fits, Lent.lent_by, Lent.lent_of}
use Rattle.record.proofs.{Faultless.all_fit, Commands.Command, Commands.command, Commands.past_bare, Commands.Past.past, Listed.kept_rows}
use Rattle.record.proofs.Commands.Command.{con, con_rsp, status_rsp, det, det_rsp, att_prp, det_prp, ul_data, dl_data_que, bare}
use Rattle.record.proofs.Downlinks.{agreed, entries_made, counters_made, downlink_lends}
use Rattle.record.proofs.Made.{tested_is, version_made, sixteen_made, four_made, profile_made, message_made, data_made}

-- the cells of a list's kinds
abbrev Held : List Field → (List ℕ → Cell) → Type 0
Held l look = (u : List ℕ) → T (is_kept (kind_by l u)) → Fair (kind_by l u) (look u)

module _ (look : List ℕ → Cell) where
  -- the parts of a packet, and what comes behind them
  abbrev MadeThen : List Field → List Saying → Type 0 → Type 0
  MadeThen l [] B = B
  MadeThen l (r ∷ rs) B = T (is_made (is_needed r.key) (kind_by l r.key) (look r.key) r.part) × MadeThen l rs B

  packet_made : {B : Type 0} (fs : List Field) → Held (headed (received fs)) look → B → MadeThen (headed (received fs)) (packet_sayings (packet_of look) []) B
  unfolding lists is_needed
  packet_made fs held others =
      word_made true (2 ^ 64 - 1) (held (bytes "epEui") tt) and
      word_made true (2 ^ 64 - 1) (held (bytes "rxTime") tt) and
      maybe_word_made false (2 ^ 64 - 1) (held (bytes "rxDuration") tt) and
      word_made true (2 ^ 32 - 1) (held (bytes "packetCnt") tt) and
      real_made true (held (bytes "snr") tt) and
      real_made true (held (bytes "rssi") tt) and
      maybe_real_made false (held (bytes "eqSnr") tt) and
      profile_made false (held (bytes "profile") tt) and
      others

  abbrev uncrossed : Bool
  uncrossed = not (mark_in (look (bytes "responseExp"))) || mark_in (look (bytes "dlOpen"))

  answer_made : Fair Kind.flags (look (bytes "responseExp")) → T uncrossed
      → T (is_made true Kind.flags (look (bytes "responseExp")) (tested uncrossed (mark (mark_in (look (bytes "responseExp"))))))
  answer_made f t = rw (tested_is uncrossed (mark (mark_in (look (bytes "responseExp")))) t) (mark_made true f)

  module _ (t : List ℕ) (opens : is_unopened look ≡ false) (counts : is_miscounted look ≡ false) where
    body_made : {c : ℕ} → Command c → Held (fields_of c) look → ((u : List ℕ) → T (needed_in (fields_of c) u) → T (here (look u)))
        → AllMade c look (body_sayings (body_of c look) (data_of c look ++ t))
    unfolding body_in body_sayings data_of lent_keys name_at lists list_in is_needed
    body_made con held there =
        version_made true (held (bytes "version") tt) and
        word_made true (2 ^ 64 - 1) (held (bytes "bsEui") tt) and
        mark_made true (held (bytes "bidi") tt) and
        maybe_place_made false (held (bytes "geoLocation") tt) and
        sixteen_made true (held (bytes "snBsUuid") tt) and
        maybe_id_made false 0 (2 ^ 63 - 1) (held (bytes "snBsOpId") tt) and
        maybe_id_made false (2 ^ 63) 0 (held (bytes "snScOpId") tt) and
        tt
    body_made con_rsp held there =
        version_made true (held (bytes "version") tt) and
        word_made true (2 ^ 64 - 1) (held (bytes "scEui") tt) and
        mark_made true (held (bytes "snResume") tt) and
        sixteen_made true (held (bytes "snScUuid") tt) and
        tt
    body_made status_rsp held there =
        id_made true (2 ^ 31) (2 ^ 31 - 1) (held (bytes "code") tt) and
        message_made true 64 t (held (bytes "message") tt) (there (bytes "message") tt) and
        word_made true (2 ^ 64 - 1) (held (bytes "time") tt) and
        real_made true (held (bytes "dutyCycle") tt) and
        maybe_place_made false (held (bytes "geoLocation") tt) and
        maybe_word_made false (2 ^ 64 - 1) (held (bytes "uptime") tt) and
        maybe_real_made false (held (bytes "temp") tt) and
        maybe_real_made false (held (bytes "cpuLoad") tt) and
        maybe_real_made false (held (bytes "memLoad") tt) and
        tt
    body_made det held there = packet_made (drop 10 (fields_of 3)) held (four_made true (held (bytes "sign") tt) and tt)
    body_made det_rsp held there = four_made true (held (bytes "sign") tt) and tt
    body_made att_prp held there =
        word_made true (2 ^ 64 - 1) (held (bytes "epEui") tt) and
        mark_made true (held (bytes "bidi") tt) and
        sixteen_made true (held (bytes "nwkSnKey") tt) and
        word_made true 0xFFFF (held (bytes "shAddr") tt) and
        word_made true (2 ^ 32 - 1) (held (bytes "lastPacketCnt") tt) and
        mark_made true (held (bytes "dualChan") tt) and
        mark_made true (held (bytes "repetition") tt) and
        mark_made true (held (bytes "wideCarrOff") tt) and
        mark_made true (held (bytes "longBlkDist") tt) and
        tt
    body_made det_prp held there = word_made true (2 ^ 64 - 1) (held (bytes "epEui") tt) and tt
    body_made ul_data held there =
        packet_made (drop 10 (fields_of 7)) held
        (data_made true 245 t (held (bytes "userData") tt) (there (bytes "userData") tt) and
        unless_zero_made 0xFF (held (bytes "format") tt) and
        mark_made true (held (bytes "dlOpen") tt) and
        answer_made (held (bytes "responseExp") tt)
        (no_cross (mark_in (look (bytes "responseExp"))) (here (look (bytes "dlOpen"))) (mark_in (look (bytes "dlOpen"))) (there (bytes "dlOpen") tt) opens) and
        mark_made true (held (bytes "dlAck") tt) and
        tt)
    body_made dl_data_que held there =
        let a = agreed look (held (bytes "packetCnt") tt) (held (bytes "userData") tt) (there (bytes "cntDepend") tt) (there (bytes "userData") tt) counts in
        word_made true (2 ^ 64 - 1) (held (bytes "epEui") tt) and
        word_made true (2 ^ 64 - 1) (held (bytes "queId") tt) and
        mark_made true (held (bytes "cntDepend") tt) and
        counters_made t true a and
        entries_made t true a and
        unless_zero_made 0xFF (held (bytes "format") tt) and
        unless_plus_zero_made (held (bytes "prio") tt) and
        maybe_mark_made true (held (bytes "responseExp") tt) and
        maybe_mark_made false (held (bytes "responsePrio") tt) and
        maybe_mark_made false (held (bytes "dlWindReq") tt) and
        maybe_mark_made false (held (bytes "expOnly") tt) and
        tt
    body_made (bare (past i) e) held there = rw e tt

module _ (look : List ℕ → Cell) where
  -- the record's command is the one that was read
  same_command : {c : ℕ} → Command c → (command_in (body_of c look) ≡ c) × (T (ltb c 24) → T (is_named (body_of c look)))
  unfolding body_in
  same_command con = (refl, λ t. tt)
  same_command con_rsp = (refl, λ t. tt)
  same_command status_rsp = (refl, λ t. tt)
  same_command det = (refl, λ t. tt)
  same_command det_rsp = (refl, λ t. tt)
  same_command att_prp = (refl, λ t. tt)
  same_command det_prp = (refl, λ t. tt)
  same_command ul_data = (refl, λ t. tt)
  same_command dl_data_que = (refl, λ t. tt)
  same_command (bare (past i) e) = rw e (refl, past_bare (past i) e)

-- the record of a command without a fault
module _ (said : List ℕ → Said) (c : ℕ) (s : AllSound said (fields_of c)) (less : T (ltb c 24)) (x : crossed (fields_of c) (found said c) ≡ 0) where
  abbrev own : List ℕ → Cell
  own u = found said c u

  module _ (n : List ℕ) (named : command_said (said (bytes "command")) ≡ some n) (t : List ℕ) where
    id_said : IsMade c own (bytes "opId") (id (id_in (own (bytes "opId"))))
    unfolding lists is_needed
    id_said =
        let f : Fair signed64 (own (bytes "opId")) = subst (λ (k : Kind). T (is_kept k) → Fair k (own (bytes "opId"))) (id_kind c) (fair said c s (bytes "opId")) tt in
        rw (id_kind c) (id_made true (2 ^ 63) (2 ^ 63 - 1) f)

    all_made : AllMade c own (sayings_of (message_of c own) (data_of c own ++ t))
    unfolding message_of sayings_of lists is_needed
    all_made =
        let b = body_of c own in
        let name = string (name_at commands (command_in b)) in
        let opens = unbroken (is_unopened own) (place_among (fields_of c) (bytes "responseExp")) (omega arith) in
        let counts = unbroken (is_miscounted own) (place_among (fields_of c) (bytes "packetCnt")) (omega arith) in
        rw (tested_is (is_named b) name ((same_command own (command c)).1 less)) (command_made said c s n (name_at commands (command_in b)) named) and
        id_said and
        body_made own t opens counts (command c) (fair said c s) (there said c s)

    pub command_fits : fits (message_of c own) (data_of c own ++ t) ≡ true
    unfolding message_of
    command_fits =
        let m = message_of c own in
        let d = data_of c own ++ t in
        let e = (same_command own (command c)).0 in
        let k = subst (λ (i : ℕ). T (are_kept (sayings_of m d) (fields_of i))) e (kept_rows m d ((same_command own (command c)).1 less)) in
        all_fit m d (subst (λ (i : ℕ). AllFit (sayings_of m d) (fields_of i)) (sym e) (made_fit said c s (sayings_of m d) all_made k))

-- its bytes: the first of those lent, and few
abbrev Lends : List ℕ → ℕ → List ℕ → Type 0
Lends t n e = (take n (e ++ t) ≡ e) × (length e ≤ 880)

few_lent : (t d : List ℕ) (lo hi : ℕ) → T (is_sized lo hi d) → hi ≤ 245 → Lends t (length d) d
few_lent t d lo hi w h = (take-append_seam d t, omega (arith, sized_most lo hi d w))

text_lent : (t : List ℕ) {lo hi : ℕ} {c : Cell} → Fair (Kind.texts lo hi) c → hi ≤ 245 → Lends t (word_in c) (bytes_in c)
text_lent t (Fair.left k) h = (refl, omega arith)
text_lent t (Fair.letters lo hi d w) h = few_lent t d lo hi w h

array_lent : (t : List ℕ) {lo hi : ℕ} {c : Cell} → Fair (Kind.arrays lo hi) c → hi ≤ 245 → Lends t (word_in c) (bytes_in c)
array_lent t (Fair.left k) h = (refl, omega arith)
array_lent t (Fair.array lo hi d w b) h = few_lent t d lo hi w h

module _ (t : List ℕ) (look : List ℕ → Cell) (empty : look [] ≡ Cell.missing) where
  lends : {c : ℕ} → Command c → Held (fields_of c) look → ((u : List ℕ) → T (needed_in (fields_of c) u) → T (here (look u))) → is_miscounted look ≡ false
      → (lent_by (body_of c look) (data_of c look ++ t) ≡ data_of c look) × (length (data_of c look) ≤ 880)
  unfolding body_in data_of lent_keys name_at lists list_in
  lends con held there counts = rw empty (refl, omega arith)
  lends con_rsp held there counts = rw empty (refl, omega arith)
  lends status_rsp held there counts = text_lent t (held (bytes "message") tt) (omega arith)
  lends det held there counts = rw empty (refl, omega arith)
  lends det_rsp held there counts = rw empty (refl, omega arith)
  lends att_prp held there counts = rw empty (refl, omega arith)
  lends det_prp held there counts = rw empty (refl, omega arith)
  lends ul_data held there counts = array_lent t (held (bytes "userData") tt) (omega arith)
  lends dl_data_que held there counts =
      downlink_lends t (agreed look (held (bytes "packetCnt") tt) (held (bytes "userData") tt) (there (bytes "cntDepend") tt) (there (bytes "userData") tt) counts)
  lends (bare (past i) e) held there counts = rw (e, empty) (refl, omega arith)

module _ (said : List ℕ → Said) (c : ℕ) (s : AllSound said (fields_of c)) (x : crossed (fields_of c) (found said c) ≡ 0) (t : List ℕ) where
  -- no list has the empty key
  nothing_there : found said c [] ≡ Cell.missing
  unfolding lists
  nothing_there = found_none said [] c (sym (is_true (lacks (fields_of c) []) (passes (λ l. lacks l []) tt c)))

  pub command_lends : (lent_of (message_of c (found said c)) (data_of c (found said c) ++ t) ≡ data_of c (found said c)) × (length (data_of c (found said c)) ≤ 880)
  unfolding message_of
  command_lends =
      lends t (found said c) nothing_there (command c) (fair said c s) (there said c s)
      (unbroken (is_miscounted (found said c)) (place_among (fields_of c) (bytes "packetCnt")) (omega arith))
