-- An array's bytes read into a room in one pass: the room with the leading bytes that are left put from i on is the room with all of them.
-- Each law of the loops in the shape of a need of the code; at the end what a caller learns of the room. Assumes nothing.
use mathlib.Core.Path.{◌≡◌, refl, sym, ap, ◌∙◌}
use mathlib.Core.Bool.{Bool, true, false, ◌&&◌}
use mathlib.Core.{List.List, List.[], List.◌∷◌, Option.Option, Option.some, Option.none}
use Prim.Native.Nat.{ℕ, zero, suc, ◌+◌, ◌-◌, ◌≤◌, ◌<◌}
use native.Mathlib.Nat.{add-zero, sub-zero}
use native.Mathlib.Omega.{arith}
use lib.Dec.{leb}
use lib.ListN.{length, get_or, set, length-set}
use borrow.Author.Tests.{le-leb, lt-leb}
use Rattle.octets.specs.{Choice.either, Bytes.put_at}
use Rattle.octets.proofs.Ranges.{true_false}
use Rattle.octets.proofs.Stores.{kept}
use Rattle.octets.proofs.Writing.{put_none, put_one, put_then, length_put}
use Rattle.element.specs.{Form.span_of, Meaning.Elements, Meaning.Elements.no_more, Meaning.Elements.more, Code.At.leaf_at}
use Rattle.number.specs.Number.{number_of}
use Rattle.std.specs.Prelude.{Option as Answer, Some, None}
use Rattle.std.specs.Prelude.{Result, Err, Ok}
use Rattle.field.specs.declared.{Extent.Extent, Octet.Octet, Piece.Piece}
use Rattle.field.specs.declared.Flaw.{Flaw}
use Rattle.field.specs.{Kind.Kind, Kind.Value, Cell.Cell, Cell.judged, Cell.here, Cell.word_of, Code.Extent.Lists, Code.Extent.parts_in}
use Rattle.field.specs.Judge.{when, on_some, parts_of, octet_in, naturals_in, octets_in, string_sized, judge}
use Rattle.field.specs.Code.At.{end_of, leaves_from, shallow_at, nested_end, cell_at, string_filled}
use Rattle.field.specs.Code.Into.{parts_counted, lead_by, leading_in, into_by, lead_into, read_into}
use Rattle.field.specs.Code.Read.{tell, read_at, place_of}
use Rattle.field.specs.Code.Item.{octet_by, octet_at, LowRun, leading_from, piece_by, octets_passed, piece_at}
use Rattle.field.proofs.Passing.{piece, octets_end, end_next, passed_all, passed_stop, run_passed}
use Rattle.field.proofs.{Octets.octet, Runs.run_octet, Nested.piece_ats, Cells.cells, Cells.place_is}

-- one byte, and those behind it
pub put_cons : (room : List ℕ) (i v : ℕ) (bs : List ℕ) → i + suc (length bs) ≤ length room → put_at (set room i v) (i + 1) bs ≡ put_at room i (v ∷ bs)
put_cons room i v bs h =
    ap (λ (r : List ℕ). put_at r (i + 1) bs) (put_one room i v (omega arith)) ∙ put_then room i (v ∷ []) bs (omega arith)

pub roomy : (n : ℕ) (out : List ℕ) (i v : ℕ) → n ≤ length out → n ≤ length (set out i v)
roomy n out i v h = rw length-set h

-- the leading bytes, with one part more in front
abbrev pub leads : Answer Octet → (ℕ → List ℕ) → List ℕ
leads None f = []
leads (Some o) f = o.value ∷ f o.next

lead_more : (s : List ℕ) (j q : ℕ) → leading_from s (suc j) q ≡ leads (octet_at s q) (leading_from s j)
unfolding leading_from leading_in leaves_from octet_at
lead_more s j q = go (octet_in (number_of (leaf_at s q)))
  where
    go : (o : Option ℕ) → lead_by o (leading_in (leaves_from s j (end_of q (span_of s q)))) ≡ leads (octet_by o (end_of q (span_of s q))) (λ n. leading_in (leaves_from s j n))
    go none = refl
    go (some b) = refl

lead_zero : (s : List ℕ) (q : ℕ) → leading_from s 0 q ≡ []
unfolding leading_from leading_in leaves_from
lead_zero s q = refl

-- no more than there are parts
lead_few : (s : List ℕ) (n q : ℕ) → length (leading_from s n q) ≤ n
lead_few s zero q = rw (lead_zero s q) (omega arith)
lead_few s (suc j) q = rw (lead_more s j q) (go (octet_at s q) (λ next. lead_few s j next))
  where
    go : (o : Answer Octet) → ((next : ℕ) → length (leading_from s j next) ≤ j) → length (leads o (leading_from s j)) ≤ suc j
    go None f = omega arith
    go (Some o) f = omega (arith, f o.next)

-- the room that is to be, while i of n bytes are put and the part at q is the next
module _ (s : List ℕ) (n to : ℕ) (whole out : List ℕ) (q i : ℕ) (g : put_at out (to + i) (leading_from s (n - i) q) ≡ whole) where
  lead_done : n ≤ i → out ≡ whole
  lead_done h =
      let z : n - i ≡ 0 = omega arith in
      sym (ap (λ (k : ℕ). put_at out (to + i) (leading_from s k q)) z ∙ ap (put_at out (to + i)) (lead_zero s q) ∙ put_none out (to + i)) ∙ g

  module _ (x : Answer Octet) (h : i < n) (e : x ≡ octet_at s q) where
    lead_step : put_at out (to + i) (leads x (leading_from s (n - (i + 1)))) ≡ whole
    lead_step =
        let z : suc (n - (i + 1)) ≡ n - i = omega arith in
        ap (put_at out (to + i))
        (ap (λ (y : Answer Octet). leads y (leading_from s (n - (i + 1)))) e ∙ sym (lead_more s (n - (i + 1)) q) ∙ ap (λ (k : ℕ). leading_from s k q) z)
        ∙ g

    lead_unfit : x ≡ None → out ≡ whole
    lead_unfit y =
        sym (put_none out (to + i)) ∙ ap (λ (w : Answer Octet). put_at out (to + i) (leads w (leading_from s (n - (i + 1))))) (sym y) ∙ lead_step

    pub lead_next : (o : Octet) → x ≡ Some o → to + n ≤ length out → put_at (set out (to + i) o.value) (to + (i + 1)) (leading_from s (n - (i + 1)) o.next) ≡ whole
    lead_next o y l =
        let j : to + (i + 1) ≡ to + i + 1 = omega arith in
        rw j
        (put_cons out (to + i) o.value (leading_from s (n - (i + 1)) o.next) (omega (arith, lead_few s (n - (i + 1)) o.next))
        ∙ ap (λ (w : Answer Octet). put_at out (to + i) (leads w (leading_from s (n - (i + 1))))) (sym y) ∙ lead_step)

-- where the parts that are left end is where all end
pub fit_next : (s : List ℕ) (n q i : ℕ) (t : Option ℕ) → octets_end s (n - i) q ≡ t → (x : Answer Octet) → i < n → x ≡ octet_at s q → (o : Octet) → x ≡ Some o → octets_end s (n - (i + 1)) o.next ≡ t
fit_next s n q i t g x h e o y =
    let z : n - i - 1 ≡ n - (i + 1) = omega arith in
    rw z at (end_next s (n - i) q t g x (omega arith) e o y)

-- the run, byte by byte
module _ (s : List ℕ) (n from to : ℕ) where
  pub lead_start : (room : List ℕ) → put_at room (to + 0) (leading_from s (n - 0) (from + 0)) ≡ put_at room to (leading_from s n from)
  lead_start room = rw (sub-zero, add-zero, add-zero)

  pub run_lead_next : (r : ℕ) → LowRun s from n r → (i : ℕ) → i < r → (whole out : List ℕ) → to + n ≤ length out → put_at out (to + i) (leading_from s (n - i) (from + i)) ≡ whole
      → put_at (set out (to + i) (get_or s (from + i) 0)) (to + (i + 1)) (leading_from s (n - (i + 1)) (from + (i + 1))) ≡ whole
  run_lead_next r y i h whole out l g =
      let behind : from + i + 1 ≡ from + (i + 1) = omega arith in
      rw behind at
      (lead_next s n to whole out (from + i) i g (Some (octet (get_or s (from + i) 0) (from + i + 1))) (omega (arith, y.few)) (run_octet s from n r y i h)
      (octet (get_or s (from + i) 0) (from + i + 1)) refl l)

-- the room that is left
module _ (s : List ℕ) (n to : ℕ) (whole out : List ℕ) (q i : ℕ) (g : put_at out (to + i) (leading_from s (n - i) q) ≡ whole) where
  pub lead_end : n ≤ i → out ≡ whole
  lead_end h = lead_done s n to whole out q i g h

  pub lead_stop : (x : Answer Octet) → i < n → x ≡ octet_at s q → x ≡ None → out ≡ whole
  lead_stop x h e y = lead_unfit s n to whole out q i g x h e y

-- what is said at the end
module _ (s : List ℕ) (n from q i : ℕ) (g : octets_end s (n - i) q ≡ octets_end s n from) where
  pub told_end : n ≤ i → Some (record { size = n; next = q }) ≡ octets_passed s n from
  told_end h = passed_all s n from (n - i) q g (omega arith)

  pub told_stop : (x : Answer Octet) → i < n → x ≡ octet_at s q → x ≡ None → None ≡ octets_passed s n from
  told_stop x h e y = passed_stop s n from (n - i) q g x (omega arith) e y

pub ruleset leadings = (kept, roomy, lead_start, run_lead_next, lead_next, run_passed, fit_next, lead_end, lead_stop, told_end, told_stop, arith)

count_leaves : (s : List ℕ) (n q : ℕ) → parts_counted (leaves_from s n q) ≡ n
unfolding parts_counted leaves_from
count_leaves s zero q = refl
count_leaves s (suc n) q = ap suc (count_leaves s n (end_of q (span_of s q)))

-- the array at a place
module _ (s : List ℕ) (at : ℕ) (a : Answer Extent) (y : Lists s at a) (room : List ℕ) (to : ℕ) where
  lead_parts : (o : Answer Extent) → a ≡ o → into_by (parts_in s o) room to ≡ lead_into s at room to
  unfolding lead_into
  lead_parts o e =
      ap (λ (p : Option Elements). into_by p room to)
      (ap (parts_in s) (sym e) ∙ sym y.is)

  pub lead_nowhere : a ≡ None → room ≡ lead_into s at room to
  lead_nowhere e = lead_parts None e

  module _ (x : Extent) (e : a ≡ Some x) where
    pub lead_long : length room - to < x.size → room ≡ lead_into s at room to
    lead_long h =
        sym (simp (count_leaves s x.size x.from, lt-leb x.size (length room - to) h)) ∙ lead_parts (Some x) e

    pub lead_there : (out : List ℕ) → x.size ≤ length room - to → out ≡ put_at room to (leading_from s x.size x.from) → out ≡ lead_into s at room to
    unfolding leading_from
    lead_there out h g =
        g ∙ sym (simp (count_leaves s x.size x.from, le-leb x.size (length room - to) h)) ∙ lead_parts (Some x) e

pub ruleset array_intos = (lead_nowhere, lead_long, lead_there, piece_ats, arith)

-- it is worth what is said of it, with all of a room
abbrev size_of : Answer Piece → Answer ℕ
size_of None = None
size_of (Some p) = Some p.size

octets_told : (s : List ℕ) (at hi : ℕ) (x : Answer Piece) → x ≡ piece_at (hi - 0) s at → size_of x ≡ read_at word_of (Kind.arrays 0 hi) s at
unfolding read_at judge tell piece_at
octets_told s at hi x e = ap size_of (e ∙ ap (λ (n : ℕ). piece_at n s at) (sub-zero hi)) ∙ parts (parts_of (shallow_at s at))
  where
    next : ℕ
    next = nested_end s at (span_of s at)

    sized : (d : List ℕ) (b : Bool) → size_of (piece_by (either b (λ _. some d) (λ _. none)) next) ≡ tell word_of (when b (Value.string d))
    sized d true = refl
    sized d false = refl

    bytes : (o : Option (List ℕ)) → size_of (piece_by (on_some o (λ d. either (leb (length d) hi) (λ _. some d) (λ _. none))) next) ≡ tell word_of (on_some o (string_sized 0 hi))
    bytes none = refl
    bytes (some d) = rw (le-leb 0 (length d) (omega arith)) (sized d (leb (length d) hi))

    parts : (o : Option Elements) → size_of (piece_by (on_some o (λ es. on_some (octets_in es) (λ d. either (leb (length d) hi) (λ _. some d) (λ _. none)))) next) ≡ tell word_of (on_some o (λ es. on_some (octets_in es) (string_sized 0 hi)))
    parts none = refl
    parts (some es) = bytes (octets_in es)

module _ (s : List ℕ) (at hi : ℕ) (x : Answer Piece) (e : x ≡ piece_at (hi - 0) s at) where
  pub octets_some : (p : Piece) → x ≡ Some p → Some p.size ≡ read_at word_of (Kind.arrays 0 hi) s at
  octets_some p y = ap size_of (sym y) ∙ octets_told s at hi x e

  pub octets_none : x ≡ None → None ≡ read_at word_of (Kind.arrays 0 hi) s at
  octets_none y = ap size_of (sym y) ∙ octets_told s at hi x e

pub ruleset octets_intos = (octets_some, octets_none, arith)

-- a field by its place
module _ (s : List ℕ) (p : ℕ) (o : Result ℕ Flaw) (e : o ≡ place_of p) where
  pub read_absent : (x : Flaw) → o ≡ Err x → (room : List ℕ) → room ≡ read_into s p room
  unfolding read_into
  read_absent x y room = go p (sym y ∙ e)
    where
      go : (p : ℕ) → Err x ≡ place_of p → room ≡ read_into s p room
      go zero z = refl
      go (suc zero) z = refl
      go (suc (suc p)) z = absurd (let i : ◌≡◌ {A = ℕ} 0 1 = cc in omega arith)

  pub read_there : (q : ℕ) → o ≡ Ok q → (room out : List ℕ) → out ≡ lead_into s q room 0 → out ≡ read_into s p room
  unfolding read_into
  read_there q y room out g = g ∙ ap (λ (i : ℕ). lead_into s i room 0) (place_is p o e q y) ∙ go p (sym y ∙ e)
    where
      go : (p : ℕ) → Ok q ≡ place_of p → lead_into s p room 0 ≡ read_into s p room
      go zero z = absurd (let i : ◌≡◌ {A = ℕ} 0 1 = cc in omega arith)
      go (suc zero) z = absurd (let i : ◌≡◌ {A = ℕ} 0 1 = cc in omega arith)
      go (suc (suc p)) z = refl

pub ruleset reads = (read_absent, read_there, cells, arith)

-- what a caller learns: the room of a missing field is as it was
pub into_missing : (s : List ℕ) (room : List ℕ) → read_into s 0 room ≡ room
unfolding read_into
into_missing s room = refl

-- its length stays
pub length_lead : (o : Option Elements) (room : List ℕ) (to : ℕ) → length (into_by o room to) ≡ length room
length_lead none room to = refl
length_lead (some es) room to = go (leb (parts_counted es) (length room - to))
  where
    go : (b : Bool) → length (either b (λ _. put_at room to (leading_in es)) (λ _. room)) ≡ length room
    go true = length_put room to (leading_in es)
    go false = refl

pub length_into : (s : List ℕ) (p : ℕ) (room : List ℕ) → length (read_into s p room) ≡ length room
unfolding read_into lead_into
length_into s zero room = refl
length_into s (suc zero) room = refl
length_into s (suc (suc p)) room = length_lead (parts_of (shallow_at s (suc (suc p)))) room 0

-- where all parts are bytes, those that lead are all
pub record AllLead (es : Elements) (d : List ℕ) : Type 0 where
  pub is : leading_in es ≡ d
  pub count : parts_counted es ≡ length d

pub all_lead : (es : Elements) (d : List ℕ) → octets_in es ≡ some d → AllLead es d
unfolding naturals_in leading_in parts_counted
all_lead no_more d e = let z : [] ≡ d = cc in rw (← z) (record { is = refl; count = refl })
all_lead (more x es) d e = go (octet_in (number_of x)) (octets_in es) refl (λ bs. all_lead es bs) e
  where
    go : (o : Option ℕ) (m : Option (List ℕ)) → octet_in (number_of x) ≡ o → ((bs : List ℕ) → m ≡ some bs → AllLead es bs) → on_some o (λ b. on_some m (λ bs. some (b ∷ bs))) ≡ some d → AllLead (more x es) d
    go none m q f h = absurd (let z : ◌≡◌ {A = ℕ} 0 1 = cc in omega arith)
    go (some b) none q f h = absurd (let z : ◌≡◌ {A = ℕ} 0 1 = cc in omega arith)
    go (some b) (some bs) q f h =
        let z : b ∷ bs ≡ d = cc in
        rw (← z)
        (record {
          is = ap (λ (o : Option ℕ). lead_by o (leading_in es)) q ∙ ap (λ (l : List ℕ). b ∷ l) (f bs refl).is;
          count = ap suc (f bs refl).count;
        })

module _ (room : List ℕ) (v : Value) where
  good_sized : (es : Elements) (d : List ℕ) → AllLead es d → (t : Bool) → leb (length d) (length room) ≡ t → judged (when (leb 0 (length d) && t) (Value.string d)) ≡ Cell.good v → into_by (some es) room 0 ≡ string_filled (some v) room
  good_sized es d y false q e =
      let f : leb 0 (length d) ≡ true = le-leb 0 (length d) (omega arith) in
      true_false (sym (ap here (simp f at e)))
  good_sized es d y true q e =
      let f : leb 0 (length d) ≡ true = le-leb 0 (length d) (omega arith) in
      let z : Value.string d ≡ v = cc (simp f at e) in
      rw (← z) (simp (y.is, y.count, sub-zero, q))

  good_octets : (es : Elements) (o : Option (List ℕ)) → octets_in es ≡ o → judged (on_some o (string_sized 0 (length room))) ≡ Cell.good v → into_by (some es) room 0 ≡ string_filled (some v) room
  good_octets es none q e = true_false (sym (ap here e))
  good_octets es (some d) q e = good_sized es d (all_lead es d q) (leb (length d) (length room)) refl e

  good_parts : (o : Option Elements) → judged (on_some o (λ es. on_some (octets_in es) (string_sized 0 (length room)))) ≡ Cell.good v → into_by o room 0 ≡ string_filled (some v) room
  good_parts none e = true_false (sym (ap here e))
  good_parts (some es) e = good_octets es (octets_in es) refl e

-- the bytes of a good field stand in it
pub into_good : (s : List ℕ) (p : ℕ) (room : List ℕ) (v : Value) → cell_at (Kind.arrays 0 (length room)) s p ≡ Cell.good v → read_into s p room ≡ string_filled (some v) room
unfolding cell_at judge read_into lead_into
into_good s zero room v e = true_false (sym (ap here e))
into_good s (suc zero) room v e = true_false (sym (ap here e))
into_good s (suc (suc p)) room v e = good_parts room v (parts_of (shallow_at s (suc (suc p)))) e
