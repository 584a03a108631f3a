-- The record of cells is the record whose parts they were shown for: each part is read back from the cell of its key, variant by variant, and so are the
-- bytes that it has lent. `look` gives a key's cell. Assumes nothing.
use mathlib.Core.Path.{◌≡◌, refl, sym, ap, ap₂, subst, ◌∙◌}
use mathlib.Core.{Bool.not, Bool.◌||◌, Bool.and-false, List.List, List.[], List.◌∷◌}
use Rattle.octets.specs.Pieces.{counters_lent, downlink_bytes}
use Prim.Native.Nat.{ℕ, ◌^◌, ◌<◌}
use lib.{Dec.T, IntN.ℤ}
use Rattle.names.specs.Names.{bytes, commands, name_at}
use Rattle.field.specs.{Kind.Kind, Cell.Cell, Cell.here}
use Rattle.message.specs.Fields.{Field, headed, received, lists, list_in, fields_of}
use Rattle.message.specs.{Record.id_in, Record.mark_in, Reading.crossed}
use Rattle.message.proofs.KeyKinds.{kind_by, kind_for, id_kind}
use Rattle.saying.specs.Says.{Part, Saying, says, part_in, id, mark, string, counts_if}
use Rattle.saying.proofs.{Shown.Shown, Crossed.uncrossed}
use Rattle.saying.proofs.Parts.{word_back, id_back, mark_back, real_back, bytes_back, maybe_string_back, unless_zero_back, maybe_word_back, maybe_id_back, maybe_real_back, maybe_mark_back, maybe_place_back, unless_plus_zero_back}
use Rattle.record.specs.declared.{Sixteen.Sixteen, Packet.Packet, Body.Body}
use Rattle.record.specs.Record.{bytes_in, four_of, four_in, sixteen_of, sixteen_in, packet_of, bodies, body_in, body_of, data_of, lent_keys, command_in}
use Rattle.record.specs.Says.{sixteen_bytes, sixteen, four, tested, is_named, is_counted, packet_sayings, body_sayings, sayings_of}
use Rattle.record.specs.Lent.{lent_by}
use Rattle.record.proofs.{Typed.Wide, Typed.TypedBody, Commands.Past, Commands.bare_past, Commands.bare_other, Commands.Past.past}
use Rattle.record.proofs.{Packed.four_back, Packed.sixteen_back, Packed.sixteen_padded}
use Rattle.record.proofs.Parts.{unsaid, untested, passed, lent_back, version_back}
use Rattle.record.proofs.Downlinks.{entries_shown, counters_shown, counted}

-- every cell is that of the rows' part
abbrev pub AllShown : ℕ → (List ℕ → Cell) → List Saying → Type 0
AllShown c look rs = (k : List ℕ) → Shown (kind_for c k) (part_in rs k) (look k)

-- bytes as numbers
four_shown : {lo hi : ℕ} {c : Cell} (x : ℕ) → x < 2 ^ 32 → Shown (Kind.arrays lo hi) (four x) c → four_in c ≡ x
four_shown x h s = ap four_of (bytes_back s) ∙ four_back x h

sixteen_shown : {lo hi : ℕ} {c : Cell} (x : Sixteen) → Wide x → Shown (Kind.arrays lo hi) (sixteen x) c → sixteen_in c ≡ x
sixteen_shown x w s = ap sixteen_of (bytes_back s) ∙ sixteen_back x w

module _ (look : List ℕ → Cell) where
  packet_shown : (fs : List Field) (c o : Part) (p : Packet) (rs : List Saying) → Wide p.profile
      → ((k : List ℕ) → Shown (kind_by (headed (received fs)) k) (part_in (says "command" c ∷ (says "opId" o ∷ packet_sayings p rs)) k) (look k)) → packet_of look ≡ p
  unfolding part_in
  packet_shown fs c o p rs w shown =
      let profile = maybe_string_back 16 p.profile_len (sixteen_bytes p.profile) (Kind.texts 1 16) refl (shown (bytes "profile")) in
      λ i. record {
        ep_eui = word_back (shown (bytes "epEui")) i;
        rx_time = word_back (shown (bytes "rxTime")) i;
        rx_duration = maybe_word_back p.rx_duration (shown (bytes "rxDuration")) i;
        packet_cnt = word_back (shown (bytes "packetCnt")) i;
        signal = record {
          snr = real_back (shown (bytes "snr")) i;
          rssi = real_back (shown (bytes "rssi")) i;
          eq_snr = maybe_real_back p.signal.eq_snr (shown (bytes "eqSnr")) i;
        };
        profile_len = profile.1 i;
        profile = (sym (sixteen_padded (look (bytes "profile"))) ∙ ap sixteen_of profile.0 ∙ sixteen_back p.profile w) i;
      }

  module _ (d : List ℕ) (o : ℤ) where
    abbrev BodyShown : Body → Type 0
    BodyShown b = AllShown (command_in b) look (sayings_of (record { op_id = o; body = b }) d)

    pub own_id : (b : Body) → BodyShown b → id_in (look (bytes "opId")) ≡ o
    unfolding sayings_of part_in
    own_id b shown = id_back (subst (λ (k : Kind). Shown k (id o) (look (bytes "opId"))) (id_kind (command_in b)) (shown (bytes "opId")))

    pub named : (b : Body) → BodyShown b → T (is_named b)
    unfolding sayings_of part_in lists list_in
    named b shown = passed (is_named b) (string (name_at commands (command_in b))) (shown (bytes "command"))

    abbrev named_part : Body → Part
    named_part b = tested (is_named b) (string (name_at commands (command_in b)))

    -- a command past the first eight has nothing more
    bare_body : {c : ℕ} → Past c → body_in (bodies look) c c ≡ Body.Bare c
    unfolding body_in
    bare_body (past i) = refl

    bare_key : {c : ℕ} → Past c → name_at lent_keys c ≡ []
    unfolding lent_keys name_at
    bare_key (past i) = refl

    packet_back : (fs : List Field) (b : Body) (p : Packet) (rs : List Saying) → fields_of (command_in b) ≡ headed (received fs) → body_sayings b d ≡ packet_sayings p rs
        → Wide p.profile → BodyShown b → packet_of look ≡ p
    unfolding sayings_of
    packet_back fs b p rs f e w shown =
        packet_shown fs (named_part b) (id o) p rs w
        (λ k. subst (λ (l : List Field). Shown (kind_by l k) (part_in (says "command" (named_part b) ∷ (says "opId" (id o) ∷ packet_sayings p rs)) k) (look k)) f
        (subst (λ (r : List Saying). Shown (kind_for (command_in b) k) (part_in (says "command" (named_part b) ∷ (says "opId" (id o) ∷ r)) k) (look k)) e (shown k)))

    pub body_back : (b : Body) → TypedBody b → BodyShown b → body_of (command_in b) look ≡ b
    unfolding body_in sayings_of body_sayings part_in lists list_in
    body_back (Body.Con x) w shown = λ i. Body.Con (record {
      version = version_back x.version (shown (bytes "version")) i;
      bs_eui = word_back (shown (bytes "bsEui")) i;
      bidi = mark_back (shown (bytes "bidi")) i;
      geo_location = maybe_place_back x.geo_location (shown (bytes "geoLocation")) i;
      sn_bs_uuid = sixteen_shown x.sn_bs_uuid w (shown (bytes "snBsUuid")) i;
      sn_bs_op_id = maybe_id_back x.sn_bs_op_id (shown (bytes "snBsOpId")) i;
      sn_sc_op_id = maybe_id_back x.sn_sc_op_id (shown (bytes "snScOpId")) i;
    })
    body_back (Body.ConRsp x) w shown = λ i. Body.ConRsp (record {
      version = version_back x.version (shown (bytes "version")) i;
      sc_eui = word_back (shown (bytes "scEui")) i;
      sn_resume = mark_back (shown (bytes "snResume")) i;
      sn_sc_uuid = sixteen_shown x.sn_sc_uuid w (shown (bytes "snScUuid")) i;
    })
    body_back (Body.StatusRsp x) w shown =
        let message = lent_back x.message_len d (Kind.texts 0 64) refl (shown (bytes "message")) in
        λ i. Body.StatusRsp (record {
          code = id_back (shown (bytes "code")) i;
          message_len = message.1 i;
          time = word_back (shown (bytes "time")) i;
          duty_cycle = real_back (shown (bytes "dutyCycle")) i;
          geo_location = maybe_place_back x.geo_location (shown (bytes "geoLocation")) i;
          uptime = maybe_word_back x.uptime (shown (bytes "uptime")) i;
          temp = maybe_real_back x.temp (shown (bytes "temp")) i;
          cpu_load = maybe_real_back x.cpu_load (shown (bytes "cpuLoad")) i;
          mem_load = maybe_real_back x.mem_load (shown (bytes "memLoad")) i;
        })
    body_back (Body.Det x) w shown = λ i. Body.Det (record {
      packet = packet_back _ (Body.Det x) x.packet _ refl refl w.0 shown i;
      sign = four_shown x.sign w.1 (shown (bytes "sign")) i;
    })
    body_back (Body.DetRsp sign) w shown = λ i. Body.DetRsp (four_shown sign w (shown (bytes "sign")) i)
    body_back (Body.AttPrp x) w shown = λ i. Body.AttPrp (record {
      ep_eui = word_back (shown (bytes "epEui")) i;
      bidi = mark_back (shown (bytes "bidi")) i;
      nwk_sn_key = sixteen_shown x.nwk_sn_key w (shown (bytes "nwkSnKey")) i;
      sh_addr = word_back (shown (bytes "shAddr")) i;
      last_packet_cnt = word_back (shown (bytes "lastPacketCnt")) i;
      dual_chan = mark_back (shown (bytes "dualChan")) i;
      repetition = mark_back (shown (bytes "repetition")) i;
      wide_carr_off = mark_back (shown (bytes "wideCarrOff")) i;
      long_blk_dist = mark_back (shown (bytes "longBlkDist")) i;
    })
    body_back (Body.DetPrp eui) w shown = λ i. Body.DetPrp (word_back (shown (bytes "epEui")) i)
    body_back (Body.UlData x) w shown = λ i. Body.UlData (record {
      packet = packet_back _ (Body.UlData x) x.packet _ refl refl w shown i;
      user_len = (lent_back x.user_len d (Kind.arrays 0 245) refl (shown (bytes "userData"))).1 i;
      format = unless_zero_back x.format (shown (bytes "format")) i;
      dl_open = mark_back (shown (bytes "dlOpen")) i;
      response_exp = mark_back (untested (not x.response_exp || x.dl_open) (mark x.response_exp) (shown (bytes "responseExp"))) i;
      dl_ack = mark_back (shown (bytes "dlAck")) i;
    })
    body_back (Body.DlDataQue x) w shown = λ i. Body.DlDataQue (record {
      ep_eui = word_back (shown (bytes "epEui")) i;
      que_id = word_back (shown (bytes "queId")) i;
      cnt_depend = mark_back (shown (bytes "cntDepend")) i;
      entries = (entries_shown x.entries d (shown (bytes "userData"))).count i;
      format = unless_zero_back x.format (shown (bytes "format")) i;
      prio = unless_plus_zero_back x.prio (shown (bytes "prio")) i;
      response_exp = maybe_mark_back x.response_exp (shown (bytes "responseExp")) i;
      response_prio = maybe_mark_back x.response_prio (shown (bytes "responsePrio")) i;
      dl_wind_req = maybe_mark_back x.dl_wind_req (shown (bytes "dlWindReq")) i;
      exp_only = maybe_mark_back x.exp_only (shown (bytes "expOnly")) i;
    })
    body_back (Body.Bare c) w shown =
        let t = named (Body.Bare c) shown in
        rw (bare_other c t) (bare_body (bare_past c t))

    -- the lent bytes
    pub data_back : (b : Body) → BodyShown b → data_of (command_in b) look ≡ lent_by b d
    unfolding data_of lent_keys name_at sayings_of body_sayings part_in lists list_in
    data_back (Body.Con x) shown = ap bytes_in (unsaid (shown []) refl)
    data_back (Body.ConRsp x) shown = ap bytes_in (unsaid (shown []) refl)
    data_back (Body.StatusRsp x) shown = (lent_back x.message_len d (Kind.texts 0 64) refl (shown (bytes "message"))).0
    data_back (Body.Det x) shown = ap bytes_in (unsaid (shown []) refl)
    data_back (Body.DetRsp sign) shown = ap bytes_in (unsaid (shown []) refl)
    data_back (Body.AttPrp x) shown = ap bytes_in (unsaid (shown []) refl)
    data_back (Body.DetPrp eui) shown = ap bytes_in (unsaid (shown []) refl)
    data_back (Body.UlData x) shown = (lent_back x.user_len d (Kind.arrays 0 245) refl (shown (bytes "userData"))).0
    data_back (Body.DlDataQue x) shown =
        ap₂ downlink_bytes
        (counters_shown (is_counted x) x.cnt_depend x.entries d (shown (bytes "packetCnt"))).is
        (entries_shown x.entries d (shown (bytes "userData"))).is
    data_back (Body.Bare c) shown =
        let t = named (Body.Bare c) shown in
        rw (bare_other c t, bare_key (bare_past c t)) (ap bytes_in (unsaid (shown []) refl))

    -- no rule between fields is broken
    unruled : (l : List Field) → look (bytes "responseExp") ≡ Cell.missing → look (bytes "cntDepend") ≡ Cell.missing → crossed l look ≡ 0
    unruled l e f = rw (e, f)

    pub not_crossed : (l : List Field) (b : Body) → BodyShown b → crossed l look ≡ 0
    unfolding sayings_of body_sayings part_in lists list_in
    not_crossed l (Body.Con x) shown = unruled l (unsaid (shown (bytes "responseExp")) refl) (unsaid (shown (bytes "cntDepend")) refl)
    not_crossed l (Body.ConRsp x) shown = unruled l (unsaid (shown (bytes "responseExp")) refl) (unsaid (shown (bytes "cntDepend")) refl)
    not_crossed l (Body.StatusRsp x) shown = unruled l (unsaid (shown (bytes "responseExp")) refl) (unsaid (shown (bytes "cntDepend")) refl)
    not_crossed l (Body.Det x) shown = unruled l (unsaid (shown (bytes "responseExp")) refl) (unsaid (shown (bytes "cntDepend")) refl)
    not_crossed l (Body.DetRsp sign) shown = unruled l (unsaid (shown (bytes "responseExp")) refl) (unsaid (shown (bytes "cntDepend")) refl)
    not_crossed l (Body.AttPrp x) shown = unruled l (unsaid (shown (bytes "responseExp")) refl) (unsaid (shown (bytes "cntDepend")) refl)
    not_crossed l (Body.DetPrp eui) shown = unruled l (unsaid (shown (bytes "responseExp")) refl) (unsaid (shown (bytes "cntDepend")) refl)
    not_crossed l (Body.UlData x) shown =
        let r = x.response_exp in
        let o = x.dl_open in
        let t : T (not r || o) = passed (not r || o) (mark r) (shown (bytes "responseExp")) in
        rw (
          mark_back (untested (not r || o) (mark r) (shown (bytes "responseExp"))),
          mark_back (shown (bytes "dlOpen")),
          uncrossed r (here (look (bytes "dlOpen"))) o t,
          unsaid (shown (bytes "cntDepend")) refl,
        )
    not_crossed l (Body.DlDataQue x) shown =
        let cs = counts_if x.cnt_depend (counters_lent x.entries d) in
        rw (
          unsaid (shown (bytes "dlOpen")) refl,
          and-false (mark_in (look (bytes "responseExp"))),
          counted look x d (mark_back (shown (bytes "cntDepend"))) (passed (is_counted x) cs (shown (bytes "packetCnt")))
              (counters_shown (is_counted x) x.cnt_depend x.entries d (shown (bytes "packetCnt")))
              (entries_shown x.entries d (shown (bytes "userData"))),
        )
    not_crossed l (Body.Bare c) shown = unruled l (unsaid (shown (bytes "responseExp")) refl) (unsaid (shown (bytes "cntDepend")) refl)
