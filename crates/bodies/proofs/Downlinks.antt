-- dlDataQue's fields one after the other are its list, and its rule on how its cells stand is the rule on the cells: each law in the shape of a need of the
-- code. Assumes nothing.
use mathlib.Core.{Path.◌≡◌, Path.ap, Path.◌∙◌, List.List}
use mathlib.Core.Bool.{Bool, true, false, ◌&&◌, not, and-false}
use Prim.Native.Nat.{ℕ, max}
use native.Mathlib.Omega.{arith}
use lib.{Dec.eqb, Dec.leb, ListN.get_or}
use Rattle.octets.specs.Choice.{either}
use Rattle.names.specs.{Names.place_in, Code.Slots.keys, Code.Slots.slot_of}
use Rattle.field.specs.Kind.{Kind, unsigned64, unsigned8}
use Rattle.field.specs.{Cell.Cell, Cell.here, Code.At.cell_at}
use Rattle.message.specs.{Code.Cells.cells_at, Record.word_in, Record.mark_in}
use Rattle.message.specs.Record.{figure_in, maybe_of}
use Rattle.message.specs.declared.{Maybe.Maybe}
use lib.Ieee.{Float}
use Rattle.message.specs.Reading.{graded, gravest, look_in, place_among, is_valid}
use Rattle.record.specs.declared.Body.{Body}
use Rattle.bodies.specs.declared.{Held.Held, Parts.Parts, Marks.Marks}
use Rattle.bodies.specs.Code.Held.{flaw_of, judged_as, held_as, parts_in}
use Rattle.bodies.specs.Code.Read.{flags_as, downlink_of, agree_by, miscounted_by}
use Rattle.bodies.proofs.Worth.{here_flaw, valid_flaw}

-- dlDataQue's counts: the rule on how its cells stand is the rule on the cells
module _ (c p u : Cell) where
  abbrev counted : Parts → Cell → Type 0
  counted h x = (h.flaw ≡ flaw_of x) × (h.count ≡ word_in x)

  agree_cells : (cs es : Parts) → counted cs p → counted es u
      → agree_by (mark_in c) cs es ≡ either (mark_in c) (λ _. here p && (eqb (word_in p) (word_in u) && leb 1 (word_in u))) (λ _. not (here p) && eqb (word_in u) 1)
  unfolding agree_by
  agree_cells cs es a b = rw (a.0, a.1, b.1, here_flaw p)

  abbrev rule_on : ℕ
  rule_on =
      either (here c && (is_valid p && (here u && not (either (mark_in c) (λ _. here p && (eqb (word_in p) (word_in u) && leb 1 (word_in u))) (λ _. not (here p) && eqb (word_in u) 1)))))
      (λ _. graded 1 5) (λ _. 0)

  miscounted_cells : (m : (Maybe Bool)) (cs es : Parts) → m ≡ (maybe_of mark_in) c → counted cs p → counted es u → miscounted_by m cs es ≡ rule_on
  unfolding miscounted_by
  miscounted_cells m cs es e a b = rw (e, agree_cells cs es a b, a.0, b.0, valid_flaw p, here_flaw u)

-- ulData's rule is not broken where there is no dlOpen
other_rule : (b : Bool) (y : ℕ) → max (either (b && false) (λ _. graded 1 9) (λ _. 0)) y ≡ y
other_rule b y = rw (and-false b) (omega arith)

module _ (s at : List ℕ) where
  -- the cell of a kind whose key has a slot
  abbrev on : Kind → ℕ → Cell
  on k slot = cell_at k s (get_or at slot 0)

  pub flags_is : (w : ℕ) (a b c d : Held (Maybe Bool)) → a ≡ held_as (maybe_of mark_in) false 9 (on Kind.flags 46) w → b ≡ held_as (maybe_of mark_in) false 10 (on Kind.flags 52) a.worst
      → c ≡ held_as (maybe_of mark_in) false 11 (on Kind.flags 53) b.worst → d ≡ held_as (maybe_of mark_in) false 12 (on Kind.flags 54) c.worst
      → ◌≡◌ {A = Held Marks} (record { worst = d.worst; value = record { response_exp = a.value; response_prio = b.value; dl_wind_req = c.value; exp_only = d.value } }) (flags_as s at w)
  unfolding flags_as judged_as held_as gravest cells_at look_in slot_of place_in keys
  flags_is w a b c d pa pb pc pd = rw (pd, pc, pb, pa)

  pub downlink_is : (w : ℕ) (a b : Held (Maybe ℕ)) (c : Held (Maybe Bool)) (d e : Held Parts) (f : Held ℕ) (g : Held (Maybe Float)) (h : Held Marks) (x y : ℕ)
      → a ≡ held_as (maybe_of word_in) true 2 (on unsigned64 26) w → b ≡ held_as (maybe_of word_in) true 3 (on unsigned64 49) a.worst → c ≡ held_as (maybe_of mark_in) true 4 (on Kind.flags 50) b.worst
      → d ≡ held_as parts_in false 5 (on (Kind.counters 16) 29) c.worst → e ≡ held_as parts_in true 6 (on (Kind.pieces 16 245 800) 43) d.worst
      → f ≡ held_as word_in false 7 (on unsigned8 44) e.worst → g ≡ held_as (maybe_of figure_in) false 8 (on Kind.singles 51) f.worst → h ≡ flags_as s at g.worst
      → x ≡ miscounted_by c.value d.value e.value → y ≡ max h.worst x
      → ◌≡◌ {A = Held Body}
      (record {
        worst = y;
        value =
            Body.DlDataQue
            (record { ep_eui = a.value.value; que_id = b.value.value; cnt_depend = c.value.value; entries = e.value.count; format = f.value; prio = g.value.value; response_exp = h.value.response_exp; response_prio = h.value.response_prio; dl_wind_req = h.value.dl_wind_req; exp_only = h.value.exp_only });
      })
      (downlink_of s at w)
  unfolding downlink_of judged_as held_as flags_as gravest cells_at look_in place_among slot_of place_in keys
  downlink_is w a b c d e f g h x y pa pb pc pd pe pf pg ph px py =
      let rule =
      miscounted_cells (on Kind.flags 50) (on (Kind.counters 16) 29) (on (Kind.pieces 16 245 800) 43) c.value d.value e.value
      (ap (λ (m : Held (Maybe Bool)). m.value) pc)
      (ap (λ (m : Held Parts). m.value.flaw) pd, ap (λ (m : Held Parts). m.value.count) pd) (ap (λ (m : Held Parts). m.value.flaw) pe, ap (λ (m : Held Parts). m.value.count) pe) in
      rw (py, px ∙ rule, ph, pg, pf, pe, pd, pc, pb, pa, other_rule (mark_in (on Kind.flags 46)) (rule_on (on Kind.flags 50) (on (Kind.counters 16) 29) (on (Kind.pieces 16 245 800) 43)))
