-- Whole traces: reading what was written of a list of records gives the list, and a trace that is read whole is the one that is written of what was
-- read. Every trace is read in one way: some list, and perhaps the refusal that ends it. By induction on the records, the reading, the length.
-- Assumes nothing.
use mathlib.Core.Path.{◌≡◌, refl, sym, ap, ap₂, subst, ◌∙◌}
use mathlib.Core.Bool.{true, ◌&&◌, true≢false}
use mathlib.Core.List.{List, [], ◌∷◌, ◌++◌}
use Prim.Native.Nat.{ℕ, zero, suc, ◌+◌, ◌≤◌}
use native.Mathlib.Omega.{arith}
use lib.Dec.{lit<, eqb}
use lib.ListN.{length, drop, length-drop}
use lib.Seq.{get_or-drop}
use Rattle.octets.specs.Bytes.{IsBytes}
use Rattle.octets.proofs.Truth.{both}
use Rattle.std.specs.Prelude.{Result, Ok, Err, Option, None, Some, is_none}
use Rattle.refusal.specs.declared.Refusal.{Refusal, TheVariants.NotATrace}
use Rattle.groups.specs.declared.Number.{Number}
use Rattle.groups.specs.Groups.{groups_of, number_bytes, number_at}
use Rattle.groups.proofs.{Inverse.written_read, Inverse.read_written, Goes.ok_err}
use Rattle.trace.specs.declared.Entry.{Entry}
use Rattle.trace.specs.Record.{is_one_frame, is_time, is_station, entry_of, frame_of, start_of}
use Rattle.trace.specs.Write.{record_bytes}
use Rattle.trace.specs.Trace.{Arrival, records_bytes, trace_bytes, are_records, arrival_of, end_of, Reads, ReadsTrace}
use Rattle.trace.proofs.{Apart.apart, Stepping.ok_same, Stepping.err_same, Stepping.step_passed}
use Rattle.trace.proofs.{Entries.start_number, Entries.read_frame_there, Entries.read_frame_behind, Goes.empty_entry}
use Rattle.trace.proofs.Records.{entry_for, record_reads, record_frame, record_rest, read_record}

-- one record in front of others
module _ (sum : ℕ) (a : Arrival) (time : is_time (sum + a.gap) ≡ true) (known : is_station a.station ≡ true) (whole : is_one_frame a.frame ≡ true) (t : List ℕ) where
  abbrev s : List ℕ
  s = record_bytes a.gap a.station a.frame ++ t

  abbrev e : Entry
  e = entry_for a.gap a.station a.frame

  arrival_is : arrival_of s e ≡ a
  arrival_is = ap (λ (f : List ℕ). record { gap = a.gap; station = a.station; frame = f }) (record_frame sum a.gap a.station a.frame time known whole t)

  one_reads : (l : List Arrival) (k : Option Refusal) → Reads (sum + a.gap) t l k → Reads sum s (a ∷ l) k
  one_reads l k r =
      subst (λ (x : Arrival). Reads sum s (x ∷ l) k) arrival_is
      (Reads.reads sum s l k e (record_reads sum a.gap a.station a.frame time known whole t)
      (subst (λ (x : List ℕ). Reads (sum + a.gap) x l k) (sym (record_rest sum a.gap a.station a.frame time known whole t)) r))

pub records_read : (sum : ℕ) (l : List Arrival) → are_records sum l ≡ true → Reads sum (records_bytes l) l None
unfolding are_records records_bytes
records_read sum [] h = Reads.finished sum
records_read sum (a ∷ l) h =
    let p = both (is_time (sum + a.gap)) (is_station a.station && (is_one_frame a.frame && are_records (sum + a.gap) l)) h in
    let q = both (is_station a.station) (is_one_frame a.frame && are_records (sum + a.gap) l) p.1 in
    let r = both (is_one_frame a.frame) (are_records (sum + a.gap) l) q.1 in
    one_reads sum a p.0 q.0 r.0 (records_bytes l) l None (records_read (sum + a.gap) l r.1)

-- and back
rest_bytes : (s : List ℕ) (n : ℕ) → IsBytes s → IsBytes (drop n s)
rest_bytes s n c k = rw get_or-drop (c (n + k))

none_some : {A : Type 0} {a : A} → Some a ≡ None → ⊥
none_some {A} e = true≢false (sym (ap (λ (o : Option A). is_none o) e))

pub records_written : (sum : ℕ) (s : List ℕ) (l : List Arrival) (k : Option Refusal) → IsBytes s → Reads sum s l k → k ≡ None → (s ≡ records_bytes l) × (are_records sum l ≡ true)
unfolding are_records records_bytes
records_written sum s l k c (Reads.finished m) n = (refl, refl)
records_written sum s l k c (Reads.reads m t o j e z r) n =
    let p = apart sum s e z in
    let w = records_written (sum + e.gap) (drop (end_of e) s) o j (rest_bytes s (end_of e) c) r n in
    (read_record sum s c e z ∙ ap (λ (x : List ℕ). record_bytes e.gap e.station (frame_of s e) ++ x) w.0, simp (p.time, p.known, p.frame) w.1)
records_written sum s l k c (Reads.stops m t j f g) n = absurd (none_some n)

-- the start
pub start_reads : (t : List ℕ) → start_of (number_bytes 1 ++ t) ≡ Ok (record { value = 1; next = 1 })
unfolding start_of groups_of
start_reads t = step_passed (number_at (number_bytes 1 ++ t) 0) (λ v. eqb v 1) (λ o. Ok o) NotATrace (record { value = 1; next = 1 }) (written_read 1 (lit< tt) (number_bytes 1 ++ t) 0 t refl) refl

pub read_start : (s : List ℕ) (n : Number) → IsBytes s → start_of s ≡ Ok n → s ≡ number_bytes 1 ++ drop n.next s
read_start s n c z =
    let p = start_number s n z in
    (read_written s 0 n p.0 c).bytes ∙ ap (λ (v : ℕ). number_bytes v ++ drop n.next s) p.1

-- whole traces
pub written_reads : (l : List Arrival) → are_records 0 l ≡ true → ReadsTrace (trace_bytes l) l None
unfolding trace_bytes groups_of
written_reads l h = ReadsTrace.starts (trace_bytes l) l None (record { value = 1; next = 1 }) (start_reads (records_bytes l)) (records_read 0 l h)

written_of : (s : List ℕ) (l : List Arrival) (k : Option Refusal) → IsBytes s → ReadsTrace s l k → k ≡ None → (s ≡ trace_bytes l) × (are_records 0 l ≡ true)
unfolding trace_bytes
written_of s l k c (ReadsTrace.starts t m j n z r) e =
    let w = records_written 0 (drop n.next s) l k (rest_bytes s n.next c) r e in
    (read_start s n c z ∙ ap (λ (x : List ℕ). number_bytes 1 ++ x) w.0, w.1)
written_of s l k c (ReadsTrace.fails t j f) e = absurd (none_some e)

pub reads_written : (s : List ℕ) (l : List Arrival) → IsBytes s → ReadsTrace s l None → (s ≡ trace_bytes l) × (are_records 0 l ≡ true)
reads_written s l c r = written_of s l None c r refl

-- read in one way: of two answers one is the other
empty_unread : {A : Type 0} (sum : ℕ) (e : Entry) → entry_of sum [] ≡ Ok e → A
empty_unread sum e z = absurd (ok_err (sym z ∙ empty_entry sum))

pub records_once : (sum : ℕ) (s : List ℕ) (l m : List Arrival) (k j : Option Refusal) → Reads sum s l k → Reads sum s m j → (l ≡ m) × (k ≡ j)
records_once sum s l m k j (Reads.finished a) (Reads.finished b) = (refl, refl)
records_once sum s l m k j (Reads.finished a) (Reads.reads b t o i e z r) = empty_unread sum e z
records_once sum s l m k j (Reads.finished a) (Reads.stops b t i f g) = absurd (f refl)
records_once sum s l m k j (Reads.reads a t o i e z r) (Reads.finished b) = empty_unread sum e z
records_once sum s l m k j (Reads.reads a t o i e z r) (Reads.reads b t' o' i' e' z' r') =
    let same : e' ≡ e = ok_same (sym z' ∙ z) in
    let p = records_once (sum + e.gap) (drop (end_of e) s) o o' i i' r (subst (λ (x : Entry). Reads (sum + x.gap) (drop (end_of x) s) o' i') same r') in
    (ap₂ (λ (x : Entry) (y : List Arrival). arrival_of s x ∷ y) (sym same) p.0, p.1)
records_once sum s l m k j (Reads.reads a t o i e z r) (Reads.stops b t' i' f g) = absurd (ok_err (sym z ∙ g))
records_once sum s l m k j (Reads.stops a t i f g) (Reads.finished b) = absurd (f refl)
records_once sum s l m k j (Reads.stops a t i f g) (Reads.reads b t' o i' e z r) = absurd (ok_err (sym z ∙ g))
records_once sum s l m k j (Reads.stops a t i f g) (Reads.stops b t' i' f' g') = (refl, ap (λ (x : Refusal). Some x) (err_same (sym g ∙ g')))

pub reads_once : (s : List ℕ) (l m : List Arrival) (k j : Option Refusal) → ReadsTrace s l k → ReadsTrace s m j → (l ≡ m) × (k ≡ j)
reads_once s l m k j (ReadsTrace.starts a b c n z r) (ReadsTrace.starts a' b' c' n' z' r') =
    records_once 0 (drop n.next s) l m k j r (subst (λ (x : Number). Reads 0 (drop x.next s) m j) (ok_same (sym z' ∙ z)) r')
reads_once s l m k j (ReadsTrace.starts a b c n z r) (ReadsTrace.fails a' i f) = absurd (ok_err (sym z ∙ f))
reads_once s l m k j (ReadsTrace.fails a i f) (ReadsTrace.starts a' b c n z r) = absurd (ok_err (sym z ∙ f))
reads_once s l m k j (ReadsTrace.fails a i f) (ReadsTrace.fails a' i' f') = (refl, ap (λ (x : Refusal). Some x) (err_same (sym f ∙ f')))

-- by how many bytes are left
pub record SomeRecords (sum : ℕ) (s : List ℕ) : Type 0 where
  pub list : List Arrival
  pub refusal : Option Refusal
  pub read : Reads sum s list refusal

records_next : (most sum : ℕ) (s : List ℕ) → length s ≤ suc most → ((sum n : ℕ) → length (drop n s) ≤ most → SomeRecords sum (drop n s)) → SomeRecords sum s
records_next most sum [] h more = record { list = []; refusal = None; read = Reads.finished sum }
records_next most sum (b ∷ t) h more = go (entry_of sum (b ∷ t)) refl
  where
    some : b ∷ t ≡ [] → ⊥
    some e = let z : suc (length t) ≡ 0 = ap length e in omega arith

    go : (r : Result Entry Refusal) → entry_of sum (b ∷ t) ≡ r → SomeRecords sum (b ∷ t)
    go (Err k) z = record { list = []; refusal = Some k; read = Reads.stops sum (b ∷ t) k some z }
    go (Ok e) z =
        let h : length (drop (end_of e) (b ∷ t)) ≤ most = omega (arith, length-drop (end_of e) (b ∷ t), read_frame_behind sum (b ∷ t) e z, read_frame_there sum (b ∷ t) e z) in
        let r = more (sum + e.gap) (end_of e) h in
        record { list = arrival_of (b ∷ t) e ∷ r.list; refusal = r.refusal; read = Reads.reads sum (b ∷ t) r.list r.refusal e z r.read }

records_none : (sum : ℕ) (s : List ℕ) → length s ≤ 0 → SomeRecords sum s
records_none sum [] h = record { list = []; refusal = None; read = Reads.finished sum }
records_none sum (b ∷ t) h = absurd (omega arith)

records_within : (most sum : ℕ) (s : List ℕ) → length s ≤ most → SomeRecords sum s
records_within zero sum s h = records_none sum s h
records_within (suc most) sum s h = records_next most sum s h (λ other n l. records_within most other (drop n s) l)

pub records_all : (sum : ℕ) (s : List ℕ) → SomeRecords sum s
records_all sum s = records_within (length s) sum s (omega arith)

pub reads_all : (s : List ℕ) → (l : List Arrival) × (k : Option Refusal) × ReadsTrace s l k
reads_all s = go (start_of s) refl
  where
    go : (r : Result Number Refusal) → start_of s ≡ r → (l : List Arrival) × (k : Option Refusal) × ReadsTrace s l k
    go (Err k) e = ([], Some k, ReadsTrace.fails s k e)
    go (Ok n) e =
        let r = records_all 0 (drop n.next s) in
        (r.list, r.refusal, ReadsTrace.starts s r.list r.refusal n e r.read)
