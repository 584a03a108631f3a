-- Counters put into lent bytes: the room with the counters that are left put from the i-th place on is the room with all of them.
-- Each law in the shape of a need of the code. Assumes nothing.
use mathlib.Core.Path.{◌≡◌, refl, sym, ap, ◌∙◌}
use mathlib.Core.{Bool.true, List.List, List.◌∷◌, Option.Option, Option.some, Option.none}
use Prim.Native.Nat.{ℕ, ◌+◌, ◌-◌, ◌*◌, ◌≤◌, ◌<◌}
use native.Mathlib.Nat.{sub-zero}
use native.Mathlib.Omega.{arith}
use lib.ListN.{length}
use Rattle.octets.specs.{Bytes.little_bytes, Bytes.put_at, Code.Put.put_number, Pieces.counter_bytes}
use Rattle.octets.proofs.{Ranges.true_false, Digits.length_little, Pieces.length_counters}
use Rattle.octets.proofs.{Stores.put_number_lem, Writing.put_none, Writing.put_then, Writing.length_put}
use Rattle.element.specs.{Form.span_of, Code.At.leaf_at}
use Rattle.number.specs.Number.{number_of}
use Rattle.std.specs.Prelude.{Option as Answer, Some, None}
use Rattle.field.specs.{Kind.Kind, Judge.natural_in, Code.At.end_of, Code.Read.read_at, Cell.word_of, Code.Item.is_some}
use Rattle.field.specs.Code.Lent.{list_in, counters_at, AreCounters}
use Rattle.field.proofs.Arrays.{length_naturals}
use Rattle.field.proofs.Naturals.{more, natural_good, natural_bad, naturals_more, naturals_zero}

-- the first of k counters, as it is read, and those behind it
pub record First (s : List ℕ) (k q n : ℕ) (ns : List ℕ) : Type 0 where
  pub is : counters_at s k q ≡ some (n ∷ ns)
  pub rest : counters_at s (k - 1) (end_of q (span_of s q)) ≡ some ns

module _ (s : List ℕ) (k q : ℕ) (t : is_some (counters_at s k q) ≡ true) (p : 0 < k) (c : Answer ℕ) (e : c ≡ read_at word_of (Kind.wholes 0 0xFFFFFFFF) s q) where
  by_first : (o : Option ℕ) → natural_in 0xFFFFFFFF (number_of (leaf_at s q)) ≡ o → (m : Option (List ℕ)) → counters_at s (k - 1) (end_of q (span_of s q)) ≡ m → counters_at s k q ≡ more o m
  by_first o f m g = rw (← f, ← g) (naturals_more 0xFFFFFFFF s k q p)

  never : c ≡ None → ⊥
  never f = true_false (sym t ∙ ap is_some (by_first none (natural_bad 0xFFFFFFFF s q c e f) (counters_at s (k - 1) (end_of q (span_of s q))) refl))

  first : (x : ℕ) → c ≡ Some x → (ns : List ℕ) × First s k q x ns
  first x f = go (counters_at s (k - 1) (end_of q (span_of s q))) refl
    where
      go : (m : Option (List ℕ)) → counters_at s (k - 1) (end_of q (span_of s q)) ≡ m → (ns : List ℕ) × First s k q x ns
      go (some ns) g = (ns, record { is = by_first (some x) (natural_good 0xFFFFFFFF s q c e x f) (some ns) g; rest = g })
      go none g = true_false (sym t ∙ ap is_some (by_first (some x) (natural_good 0xFFFFFFFF s q c e x f) none g))

-- i of n counters are put, and the one at q is the next
pub record CountersLeft (s : List ℕ) (n from : ℕ) (old out : List ℕ) (q i : ℕ) : Type 0 where
  pub there : is_some (counters_at s (n - i) q) ≡ true
  pub few : n ≤ 16
  pub roomy : 64 ≤ length out
  pub same : length out ≡ length old
  pub is : put_at out (4 * i) (counter_bytes (list_in (counters_at s (n - i) q))) ≡ put_at old 0 (counter_bytes (list_in (counters_at s n from)))

pub left_start : (s : List ℕ) (n from : ℕ) (room : List ℕ) → AreCounters s n from → 64 ≤ length room → CountersLeft s n from room room from 0
left_start s n from room y h = record { there = rw sub-zero y.there; few = y.few; roomy = h; same = refl; is = rw sub-zero }

module _ (s : List ℕ) (n from : ℕ) (old out : List ℕ) (q i : ℕ) (y : CountersLeft s n from old out q i) where
  pub left_never : (c : Answer ℕ) → i < n → c ≡ read_at word_of (Kind.wholes 0 0xFFFFFFFF) s q → c ≡ None → out ≡ put_at old 0 (counter_bytes (list_in (counters_at s n from)))
  left_never c h e f = absurd (never s (n - i) q y.there (omega arith) c e f)

  pub left_next : (c : Answer ℕ) (v next : ℕ) (new : List ℕ) → i < n → c ≡ read_at word_of (Kind.wholes 0 0xFFFFFFFF) s q → c ≡ Some v → next ≡ end_of q (span_of s q) → new ≡ put_number out (4 * i) 4 (little_bytes 4 v) → CountersLeft s n from old new next (i + 1)
  unfolding counter_bytes
  left_next c v next new h e d f g =
      let (ns, x) = first s (n - i) q y.there (omega arith) c e v d in
      let w = little_bytes 4 v in
      let z : n - i - 1 ≡ n - (i + 1) = omega arith in
      let r : counters_at s (n - (i + 1)) next ≡ some ns = rw (f, ← z) x.rest in
      let l : length (little_bytes 4 v) ≡ 4 = length_little 4 v in
      let j : 4 * (i + 1) ≡ 4 * i + length w = omega arith in
      let k : length ns ≡ n - (i + 1) = length_naturals 0xFFFFFFFF s (n - (i + 1)) next ns r in
      let u : new ≡ put_at out (4 * i) w = g ∙ put_number_lem out (4 * i) 4 w (omega arith) in
      let m : length new ≡ length out = ap length u ∙ length_put out (4 * i) w in
      record {
        there = ap is_some r;
        few = y.few;
        roomy = omega (arith, y.roomy);
        same = m ∙ y.same;
        is = ap (λ (o : Option (List ℕ)). put_at new (4 * (i + 1)) (counter_bytes (list_in o))) r
            ∙ ap (λ (d : List ℕ). put_at d (4 * (i + 1)) (counter_bytes ns)) u
            ∙ ap (λ (b : ℕ). put_at (put_at out (4 * i) w) b (counter_bytes ns)) j
            ∙ put_then out (4 * i) w (counter_bytes ns) (omega (arith, length_counters ns, y.roomy, y.few))
            ∙ sym (ap (λ (o : Option (List ℕ)). put_at out (4 * i) (counter_bytes (list_in o))) x.is) ∙ y.is;
      }

  pub left_end : n ≤ i → out ≡ put_at old 0 (counter_bytes (list_in (counters_at s n from)))
  unfolding counter_bytes
  left_end h =
      sym (ap (λ (o : Option (List ℕ)). put_at out (4 * i) (counter_bytes (list_in o))) (naturals_zero 0xFFFFFFFF s (n - i) q (omega arith)) ∙ put_none out (4 * i))
      ∙ y.is

pub ruleset counters_left = (left_start, left_never, left_next, left_end, arith)
