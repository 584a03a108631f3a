-- A record that fits, and whose bytes have the widths of their types, is one that a program can hold: each value has room where it lies. By the fields that
-- fit, command by command. Assumes nothing.
use mathlib.Core.Path.{◌≡◌, refl, sym, subst}
use mathlib.Core.Bool.{Bool, true, false, not, ◌&&◌}
use mathlib.Core.{List.List, List.[], List.◌∷◌, List.◌++◌}
use Prim.Native.Nat.{ℕ, suc, ◌-◌, ◌^◌, ◌≤◌, ◌<◌}
use native.Mathlib.Omega.{arith}
use lib.Dec.{T, eqb, leb, leb→le, eqb→eq, lit<}
use lib.Pow.{are_bytes}
use lib.Ieee.{Float, binary64, to_bits, fits as holds}
use lib.{IntN.ℤ, IntN.pos, IntN.negsuc, Signed.mag, ListN.length, ListN.take, ListN.drop, Seq.length-take-le}
use Rattle.octets.proofs.Ranges.{is_true, true_is, both_left, both_right}
use Rattle.number.specs.Number.{finite}
use Rattle.names.specs.Names.{bytes}
use Rattle.field.specs.{Kind.Kind, Kind.Value, Kind.profile_text, Judge.in_range}
use Rattle.field.specs.declared.Position.{Position}
use Rattle.message.specs.declared.{Maybe.Maybe, Version.Version}
use Rattle.message.specs.Fields.{Field, lists, list_in, fields_of}
use Rattle.saying.specs.Says.{part_in, is_zero, no_bits, said_if, word_if, id_if, real_if, position_if, position_value, no_position, version_if, release_value, no_release, string_if, are_nulls, unless_zero}
use Rattle.saying.specs.Fits.{is_real, is_sized, within, said_fits, field_fits}
use Rattle.saying.proofs.Shown.{AllFit}
use Rattle.record.specs.declared.{Con.Con, ConRsp.ConRsp, StatusRsp.StatusRsp, Packet.Packet, Det.Det, AttPrp.AttPrp, UlData.UlData, Body.Body, Message.Message}
use Rattle.record.specs.{Record.command_in, Says.is_named, Says.sixteen_bytes, Says.body_sayings, Says.sayings_of, Fits.fits}
use Rattle.record.proofs.{Faultless.each_fits, Typed.Wide, Typed.TypedBody, Typed.Typed, Commands.command, Commands.begins, Commands.bare_below}
use Rattle.writer.proofs.Payloads.{fits_named}
use Rattle.layout.specs.Image.{Stretch, con_lies, con_rsp_lies, status_rsp_lies, packet_lies, det_lies, att_prp_lies, ul_data_lies, body_lies}
use Rattle.layout.proofs.{Back.named_own, Back.Held, Lying.AllFit as AllLie}
use Rattle.queue.proofs.Fitting.{held}

-- each sort of field
abbrev of : Bool → List ℕ → Kind → Field
of must u k = record { key = u; must = must; kind = k }

signed_small : (lo hi w : ℕ) (z : ℤ) → lo ≤ w → hi < w → T (in_range lo hi z) → mag z < w
signed_small lo hi w (pos n) l h t = omega (arith, leb→le n hi t)
signed_small lo hi w (negsuc k) l h t = omega (arith, leb→le (suc k) lo t)

real_holds : (x : Float) → T (is_real x) → holds binary64 x ≡ true
real_holds x t = sym (is_true (holds binary64 x) (both_right (finite binary64 (to_bits binary64 x)) (holds binary64 x) t))

none_holds : (x : Float) → T (no_bits x) → holds binary64 x ≡ true
none_holds x t = sym (is_true (holds binary64 x) (both_right (eqb (to_bits binary64 x) 0) (holds binary64 x) t))

module _ (must : Bool) (u : List ℕ) where
  word_if_lem : (hi : ℕ) (w : Maybe ℕ) → T (field_fits (of must u (Kind.wholes 0 hi)) (word_if w)) → w.value ≤ hi
  unfolding within
  word_if_lem hi w t = go w.here t
    where
      go : (b : Bool) → T (field_fits (of must u (Kind.wholes 0 hi)) (said_if b (Value.number (pos w.value)) (eqb w.value 0))) → w.value ≤ hi
      go true t = leb→le w.value hi t
      go false t = omega (arith, eqb→eq w.value 0 (both_left (eqb w.value 0) (not must) t))

  zero_small : (z : ℤ) → T (is_zero z) → mag z < 2 ^ 63
  zero_small (pos n) t = omega (arith, eqb→eq n 0 t)
  zero_small (negsuc k) t = absurd t

  id_if_lem : (lo hi : ℕ) → lo ≤ 2 ^ 63 → hi < 2 ^ 63 → (w : Maybe ℤ) → T (field_fits (of must u (Kind.wholes lo hi)) (id_if w)) → mag w.value < 2 ^ 63
  unfolding within
  id_if_lem lo hi l h w t = go w.here t
    where
      go : (b : Bool) → T (field_fits (of must u (Kind.wholes lo hi)) (said_if b (Value.number w.value) (is_zero w.value))) → mag w.value < 2 ^ 63
      go true t = signed_small lo hi (2 ^ 63) w.value l h t
      go false t = zero_small w.value (both_left (is_zero w.value) (not must) t)

  real_if_lem : (w : Maybe Float) → T (field_fits (of must u Kind.reals) (real_if w)) → holds binary64 w.value ≡ true
  unfolding within
  real_if_lem w t = go w.here t
    where
      go : (b : Bool) → T (field_fits (of must u Kind.reals) (said_if b (Value.figure w.value) (no_bits w.value))) → holds binary64 w.value ≡ true
      go true t = real_holds w.value t
      go false t = none_holds w.value (both_left (no_bits w.value) (not must) t)

  abbrev AllHold : Position → Type 0
  AllHold p = (holds binary64 p.latitude ≡ true) × ((holds binary64 p.longitude ≡ true) × (holds binary64 p.altitude ≡ true))

  place_if : (w : Maybe Position) → T (field_fits (of must u Kind.positions) (position_if w)) → AllHold w.value
  unfolding within
  place_if w t = go w.here t
    where
      p : Position
      p = w.value

      go : (b : Bool) → T (field_fits (of must u Kind.positions) (said_if b (position_value p) (no_position p))) → AllHold p
      go true t =
          let r = both_right (is_real p.latitude) (is_real p.longitude && is_real p.altitude) t in (
            real_holds p.latitude (both_left (is_real p.latitude) (is_real p.longitude && is_real p.altitude) t),
            (real_holds p.longitude (both_left (is_real p.longitude) (is_real p.altitude) r), real_holds p.altitude (both_right (is_real p.longitude) (is_real p.altitude) r)),
          )
      go false t =
          let s = both_left (no_position p) (not must) t in
          let r = both_right (no_bits p.latitude) (no_bits p.longitude && no_bits p.altitude) s in (
            none_holds p.latitude (both_left (no_bits p.latitude) (no_bits p.longitude && no_bits p.altitude) s),
            (none_holds p.longitude (both_left (no_bits p.longitude) (no_bits p.altitude) r), none_holds p.altitude (both_right (no_bits p.longitude) (no_bits p.altitude) r)),
          )

  abbrev AllLess : Version → Type 0
  AllLess v = (v.major < 256 ^ 2) × ((v.minor < 256 ^ 2) × (v.patch < 256 ^ 2))

  version_if_lem : (w : Maybe Version) → T (field_fits (of must u Kind.versions) (version_if w)) → AllLess w.value
  unfolding within
  version_if_lem w t = go w.here t
    where
      a : ℕ
      a = w.value.major

      b : ℕ
      b = w.value.minor

      c : ℕ
      c = w.value.patch

      go : (x : Bool) → T (field_fits (of must u Kind.versions) (said_if x (release_value w.value) (no_release w.value))) → AllLess w.value
      go true t =
          let r = both_right (leb a 65535) (leb b 65535 && leb c 65535) t in (
            omega (arith, leb→le a 65535 (both_left (leb a 65535) (leb b 65535 && leb c 65535) t)),
            (omega (arith, leb→le b 65535 (both_left (leb b 65535) (leb c 65535) r)), omega (arith, leb→le c 65535 (both_right (leb b 65535) (leb c 65535) r))),
          )
      go false t =
          let s = both_left (no_release w.value) (not must) t in
          let r = both_right (eqb a 0) (eqb b 0 && eqb c 0) s in (
            omega (arith, eqb→eq a 0 (both_left (eqb a 0) (eqb b 0 && eqb c 0) s)),
            (omega (arith, eqb→eq b 0 (both_left (eqb b 0) (eqb c 0) r)), omega (arith, eqb→eq c 0 (both_right (eqb b 0) (eqb c 0) r))),
          )

  unless_zero_lem : (hi n : ℕ) → T (field_fits (of must u (Kind.wholes 0 hi)) (unless_zero n)) → n ≤ hi
  unfolding within
  unless_zero_lem hi n t = go (eqb n 0) refl t
    where
      go : (b : Bool) → eqb n 0 ≡ b → T (field_fits (of must u (Kind.wholes 0 hi)) (said_if (not b) (Value.number (pos n)) b)) → n ≤ hi
      go true e t = omega (arith, eqb→eq n 0 (true_is (eqb n 0) (sym e)))
      go false e t = leb→le n hi t

  -- a text in sixteen bytes
  string_if_lem : (k : Kind) (n : ℕ) (d : List ℕ) → T (field_fits (of must u k) (string_if 16 n d)) → n < 256 ^ 1
  string_if_lem k n d t =
      let rest = leb n 16 && are_nulls (16 - n) (drop n d) in
      let s = both_left (eqb (length d) 16 && rest) (said_fits (of must u k) (string_if 16 n d).said) t in
      omega (arith, leb→le n 16 (both_left (leb n 16) (are_nulls (16 - n) (drop n d)) (both_right (eqb (length d) 16) rest s)))

  lent_few : (lo hi n : ℕ) (d : List ℕ) → T ((leb n (length d) && true) && is_sized lo hi (take n d)) → hi < 256 → n < 256 ^ 1
  lent_few lo hi n d t h =
      let l = leb→le n (length d) (both_left (leb n (length d)) true (both_left (leb n (length d) && true) (is_sized lo hi (take n d)) t)) in
      let s = both_right (leb lo (length (take n d))) (leb (length (take n d)) hi) (both_right (leb n (length d) && true) (is_sized lo hi (take n d)) t) in
      omega (arith, length-take-le n d l, leb→le (length (take n d)) hi s)

word_8 : (n : ℕ) → T (leb n 0xFFFFFFFFFFFFFFFF) → n < 256 ^ 8
word_8 n t = omega (arith, leb→le n 0xFFFFFFFFFFFFFFFF t)

word_4 : (n : ℕ) → T (leb n 0xFFFFFFFF) → n < 256 ^ 4
word_4 n t = omega (arith, leb→le n 0xFFFFFFFF t)

word_2 : (n : ℕ) → T (leb n 0xFFFF) → n < 256 ^ 2
word_2 n t = omega (arith, leb→le n 0xFFFF t)

-- without the last of three tests
data_sized : (a b c : Bool) → T (a && (b && c)) → T (a && b)
data_sized true b c t = both_left b c t
data_sized false b c t = t

-- each command
module _ (z : ℤ) (d : List ℕ) where
  abbrev Fitting : Body → Type 0
  Fitting b = AllFit (sayings_of (record { op_id = z; body = b }) d) (fields_of (command_in b))

  con_lies_lem : (x : Con) → Fitting (Body.Con x) → Wide x.sn_bs_uuid → AllLie (con_lies x)
  unfolding lists list_in part_in sayings_of body_sayings within con_lies
  con_lies_lem x all wide =
      let eui = word_8 x.bs_eui all.1.1.1.0 in
      let g = place_if false (bytes "geoLocation") x.geo_location all.1.1.1.1.1.0 in
      let v = version_if_lem true (bytes "version") x.version all.1.1.0 in
      let i = id_if_lem false (bytes "snBsOpId") 0 0x7FFFFFFFFFFFFFFF (omega arith) (omega arith) x.sn_bs_op_id all.1.1.1.1.1.1.1.0 in
      let j = id_if_lem false (bytes "snScOpId") 0x8000000000000000 0 (omega arith) (omega arith) x.sn_sc_op_id all.1.1.1.1.1.1.1.1.0 in
      (eui, (i, (j, (g.0, (g.1.0, (g.1.1, (wide.high, (wide.low, (v.0, (v.1.0, (v.1.1, (tt, (tt, (tt, (tt, (tt, tt))))))))))))))))

  con_rsp_lies_lem : (x : ConRsp) → Fitting (Body.ConRsp x) → Wide x.sn_sc_uuid → AllLie (con_rsp_lies x)
  unfolding lists list_in part_in sayings_of body_sayings within con_rsp_lies
  con_rsp_lies_lem x all wide =
      let v = version_if_lem false (bytes "version") x.version all.1.1.0 in
      (word_8 x.sc_eui all.1.1.1.0, (wide.high, (wide.low, (v.0, (v.1.0, (v.1.1, (tt, (tt, tt))))))))

  status_rsp_lies_lem : (x : StatusRsp) → Fitting (Body.StatusRsp x) → AllLie (status_rsp_lies x)
  unfolding lists list_in part_in sayings_of body_sayings within status_rsp_lies
  status_rsp_lies_lem x all =
      let code = signed_small 0x80000000 0x7FFFFFFF (2 ^ 31) x.code (omega arith) (omega arith) all.1.1.0 in
      let len = lent_few true (bytes "message") 0 64 x.message_len d all.1.1.1.0 (omega arith) in
      let time = word_8 x.time all.1.1.1.1.0 in
      let duty = real_holds x.duty_cycle all.1.1.1.1.1.0 in
      let g = place_if false (bytes "geoLocation") x.geo_location all.1.1.1.1.1.1.0 in
      let up : x.uptime.value < 256 ^ 8 = omega (arith, word_if_lem false (bytes "uptime") 0xFFFFFFFFFFFFFFFF x.uptime all.1.1.1.1.1.1.1.0) in
      let temp = real_if_lem false (bytes "temp") x.temp all.1.1.1.1.1.1.1.1.0 in
      let cpu = real_if_lem false (bytes "cpuLoad") x.cpu_load all.1.1.1.1.1.1.1.1.1.0 in
      let mem = real_if_lem false (bytes "memLoad") x.mem_load all.1.1.1.1.1.1.1.1.1.1.0 in
      (time, (up, (duty, (g.0, (g.1.0, (g.1.1, (temp, (cpu, (mem, (code, (len, (tt, (tt, (tt, (tt, (tt, tt))))))))))))))))

  -- the parts of a packet, with what comes behind them
  abbrev PacketFits : Packet → Type 0
  PacketFits p = (x : List Stretch) → AllLie x → AllLie (packet_lies p ++ x)

  packet_lies_lem : (p : Packet) → T (leb p.ep_eui 0xFFFFFFFFFFFFFFFF) → T (leb p.rx_time 0xFFFFFFFFFFFFFFFF) → p.rx_duration.value ≤ 0xFFFFFFFFFFFFFFFF
      → T (leb p.packet_cnt 0xFFFFFFFF) → T (is_real p.signal.snr) → T (is_real p.signal.rssi) → holds binary64 p.signal.eq_snr.value ≡ true
      → p.profile_len < 256 ^ 1 → Wide p.profile → PacketFits p
  unfolding packet_lies
  packet_lies_lem p eui time long count snr rssi eq len wide x rest =
      let w : p.rx_duration.value < 256 ^ 8 = omega arith in (
        word_8 p.ep_eui eui,
        (
          word_8 p.rx_time time,
          (
            w,
            (
              real_holds p.signal.snr snr,
              (
                real_holds p.signal.rssi rssi,
                (
                  eq,
                  (wide.high, (wide.low, (word_4 p.packet_cnt count, (len, (tt, (tt, rest)))))),
                ),
              ),
            ),
          ),
        ),
      )

  det_lies_lem : (x : Det) → Fitting (Body.Det x) → Wide x.packet.profile → x.sign < 2 ^ 32 → AllLie (det_lies x)
  unfolding lists list_in part_in sayings_of body_sayings within det_lies
  det_lies_lem x all wide sign =
      let p = x.packet in
      packet_lies_lem p all.1.1.0 all.1.1.1.0 (word_if_lem false (bytes "rxDuration") 0xFFFFFFFFFFFFFFFF p.rx_duration all.1.1.1.1.0)
      all.1.1.1.1.1.0 all.1.1.1.1.1.1.0 all.1.1.1.1.1.1.1.0
      (real_if_lem false (bytes "eqSnr") p.signal.eq_snr all.1.1.1.1.1.1.1.1.0)
      (string_if_lem false (bytes "profile") profile_text p.profile_len (sixteen_bytes p.profile) all.1.1.1.1.1.1.1.1.1.0)
      wide (Stretch.high 4 88 x.sign ∷ []) (sign, tt)

  ul_data_lies_lem : (x : UlData) → Fitting (Body.UlData x) → Wide x.packet.profile → AllLie (ul_data_lies x)
  unfolding lists list_in part_in sayings_of body_sayings within ul_data_lies
  ul_data_lies_lem x all wide =
      let p = x.packet in
      let l = all.1.1.1.1.1.1.1.1.1.1 in
      let sized = data_sized (leb x.user_len (length d) && true) (is_sized 0 245 (take x.user_len d)) (are_bytes (take x.user_len d)) l.0 in
      let len = lent_few true (bytes "userData") 0 245 x.user_len d sized (omega arith) in
      let format : x.format < 256 ^ 1 = omega (arith, unless_zero_lem false (bytes "format") 0xFF x.format l.1.0) in
      packet_lies_lem p all.1.1.0 all.1.1.1.0 (word_if_lem false (bytes "rxDuration") 0xFFFFFFFFFFFFFFFF p.rx_duration all.1.1.1.1.0)
      all.1.1.1.1.1.0 all.1.1.1.1.1.1.0 all.1.1.1.1.1.1.1.0
      (real_if_lem false (bytes "eqSnr") p.signal.eq_snr all.1.1.1.1.1.1.1.1.0)
      (string_if_lem false (bytes "profile") profile_text p.profile_len (sixteen_bytes p.profile) all.1.1.1.1.1.1.1.1.1.0)
      wide
      (Stretch.number 1 88 x.user_len ∷ Stretch.number 1 89 x.format ∷ Stretch.flag 90 x.dl_open ∷ Stretch.flag 91 x.response_exp ∷ Stretch.flag 92 x.dl_ack ∷ [])
      (len, (format, (tt, (tt, (tt, tt)))))

  att_prp_lies_lem : (x : AttPrp) → Fitting (Body.AttPrp x) → Wide x.nwk_sn_key → AllLie (att_prp_lies x)
  unfolding lists list_in part_in sayings_of body_sayings within att_prp_lies
  att_prp_lies_lem x all wide =
      let eui = word_8 x.ep_eui all.1.1.0 in
      let short = word_2 x.sh_addr all.1.1.1.1.1.0 in
      let last = word_4 x.last_packet_cnt all.1.1.1.1.1.1.0 in
      (eui, (wide.high, (wide.low, (last, (short, (tt, (tt, (tt, (tt, (tt, tt))))))))))

  det_prp_lies : (eui : ℕ) → Fitting (Body.DetPrp eui) → eui < 256 ^ 8
  unfolding lists list_in part_in sayings_of body_sayings within
  det_prp_lies eui all = word_8 eui all.1.1.0

  -- the command, and the fields behind it
  abbrev Lies : Body → Type 0
  Lies b = (command_in b < 256 ^ 1) × AllLie (body_lies b)

  body_lies_lem : (b : Body) → fits (record { op_id = z; body = b }) d ≡ true → T (is_named b) → Fitting b → TypedBody b → Lies b
  unfolding body_lies
  body_lies_lem (Body.Con x) e n f t = (lit< tt, con_lies_lem x f t)
  body_lies_lem (Body.ConRsp x) e n f t = (lit< tt, con_rsp_lies_lem x f t)
  body_lies_lem (Body.StatusRsp x) e n f t = (lit< tt, status_rsp_lies_lem x f)
  body_lies_lem (Body.Det x) e n f t = (lit< tt, det_lies_lem x f t.0 t.1)
  body_lies_lem (Body.DetRsp sign) e n f t = (lit< tt, (t, tt))
  body_lies_lem (Body.AttPrp x) e n f t = (lit< tt, att_prp_lies_lem x f t)
  body_lies_lem (Body.DetPrp eui) e n f t = (lit< tt, (det_prp_lies eui f, tt))
  body_lies_lem (Body.UlData x) e n f t = (lit< tt, ul_data_lies_lem x f t)
  body_lies_lem (Body.DlDataQue x) e n f t = (held z x d e).widths.1
  body_lies_lem (Body.Bare c) e n f t = (omega (arith, bare_below c n), tt)

  id_lies : (b : Body) → Fitting b → mag z < 2 ^ 63
  unfolding sayings_of part_in within
  id_lies b f =
      let all = subst (AllFit (sayings_of (record { op_id = z; body = b }) d)) (begins (command (command_in b))) f in
      signed_small 0x8000000000000000 0x7FFFFFFFFFFFFFFF (2 ^ 63) z (omega arith) (omega arith) all.1.0

pub fitting_held : (m : Message) (d : List ℕ) → fits m d ≡ true → Typed m → Held m
fitting_held m d e t =
    let z = m.op_id in
    let b = m.body in
    let n = fits_named m d e in
    let f = each_fits m d e in
    record { own = named_own b (sym (is_true (is_named b) n)); widths = (id_lies z d b f, body_lies_lem z d b e n f t) }
